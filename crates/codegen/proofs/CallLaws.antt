-- What the call answers, from what its parts leave. Assumes nothing.
use mathlib.Core.Logic.{inl, inr}
use Rattle.rules.specs.contracts.Flow.{the_type as flow-type}
use denote.Enum.Declared.{tag_of}
use types.Run.{OneOf}
use mathlib.Core.Path.{◌≡◌, refl, sym, ap, subst, subst⁻¹, ◌∙◌}
use mathlib.Core.Bool.{Bool, true, false}
use mathlib.Core.List.{List, [], ◌∷◌}
use Prim.Native.Nat.{ℕ, ◌*◌, ◌≤◌, ◌<◌}
use native.Mathlib.Omega.{arith}
use lib.ListN.{length, replicate, length-replicate}
use lib.Dec.{ltb}
use borrow.Author.Tests.{ltb-true, ltb-false}
use Rattle.tables.specs.Record.{size}
use Rattle.tables.specs.declared.refusal.RunRule.{RunRule}
use Rattle.tables.specs.declared.refusal.Refusal.TheVariants.{Run}
use Rattle.pool.specs.declared.spans.Span.{Span}
use Rattle.pool.specs.Names.{Semantic, semantic}
use Rattle.pool.specs.NameWords.{over, fits}
use Rattle.pool.specs.Resolve.{Blank, Resolved, Resolves}
use Rattle.pool.proofs.FitLaws.{kept_fits, kept_grown}
use Rattle.pool.proofs.ResolveLaws.{blank_zeros}
use Rattle.rules.specs.declared.Flow.{Flow}
use Rattle.rules.specs.declared.Flow.TheVariants.{Go, Cut, Refused as Halted}
use Rattle.rules.specs.Run.{Side, State, flow, side, look}
use Rattle.rules.specs.Out.{Out, ended, outcome}
use Rattle.rules.proofs.Alone.{Runs}
use Rattle.context.specs.Words.{limit}
use Rattle.codegen.specs.declared.walks.Judged.{Judged}
use Rattle.codegen.specs.declared.call.Answer.{Answer}
use Rattle.codegen.specs.declared.call.Answer.TheVariants.{Listing, Refused}
use Rattle.codegen.specs.Walks.{ran, noted_run, Walked}
use Rattle.codegen.specs.Listing.{met_of, stream_of, Ready}
use Rattle.codegen.specs.Call.{answering, written_of, lists, Written, Answered, Sound, Roomy, Listable, Listed}
use Rattle.codegen.proofs.NoteLaws.{noted_same}
use Rattle.codegen.proofs.LayLaws.{note_over}
use Rattle.codegen.proofs.SpaceLaws.{space_kept}
use Rattle.codegen.proofs.ReadyLaws.{tables_kept, few_errors, run_bounds, space_enough}
use Rattle.codegen.proofs.PreparedLaws.{Named, named_of}
use Rattle.codegen.proofs.PrefixLaws.{whole, some_met, count_inside, count_fits, names_copied, lines_same}

-- ---- the numbers that a judged run tells are exact

-- the functions met have numbers below 256
pub few_met : (ns recs : List ℕ) → Ready ns recs → met_of (noted_run ns recs) ≤ 256
few_met ns recs ready = go (ltb 256 (met_of (noted_run ns recs))) refl
  where
    go : (b : Bool) → ltb 256 (met_of (noted_run ns recs)) ≡ b → met_of (noted_run ns recs) ≤ 256
    go true e =
        let o = ready.own 256 (ltb-true 256 (met_of (noted_run ns recs)) e) in
        absurd (omega (arith, ready.numbered.below (stream_of (noted_run ns recs) 256).at o.inside o.function, o.named))
    go false e = ltb-false 256 (met_of (noted_run ns recs)) e

pub met_exact : (ns recs : List ℕ) (j : Judged) → Ready ns recs → Walked (noted_run ns recs) j → j.functions ≡ met_of (noted_run ns recs)
met_exact ns recs j ready w = let f = few_met ns recs ready in w.met ∙ omega arith

pub errors_exact : (A : State) (j : Judged) → length (side A).errors < limit → Walked A j → j.errors ≡ length (side A).errors
errors_exact A j f w = w.errors ∙ omega arith

-- a listing's numbers
pub same_listing : (n m c e s k : ℕ) → n ≡ m → c ≡ e → s ≡ k → Listing n c (s * 32) ≡ Listing m e (k * 32)
same_listing n m c e s k p q r = rw (p, q, r)

-- of the three ways that a run ends, the first two are listings
pub tag_runs : (f : Flow) → OneOf (0 ∷ 1 ∷ []) (tag_of flow-type f) → Runs f
tag_runs Go h = tt
tag_runs (Cut k a b) h = tt
tag_runs (Halted x r) h = two h
  where
    two : OneOf (0 ∷ 1 ∷ []) 2 → ⊥
    two (inl e) = omega arith
    two (inr e) = omega arith

-- .. so one that is not refused is a listing
pub unrefused_runs : (f : Flow) → ((rule : RunRule) (r : ℕ) → f ≡ Halted rule r → ⊥) → Runs f
unrefused_runs Go h = tt
unrefused_runs (Cut k a b) h = tt
unrefused_runs (Halted x r) h = absurd (h x r refl)

-- ---- a run that is refused

pub refused_answered : (t : Semantic) (recs : List ℕ) (o : Out) (rule : RunRule) (r : ℕ) (f : Flow) → f ≡ flow (ran t recs) → f ≡ Halted rule r
    → Answered t recs (Refused (Run rule r)) o o
unfolding outcome written_of
refused_answered t recs o rule r f e q = record {
  answer = ap (λ (g : Flow). answering recs (side (ran t recs)) (ended t recs g (side (ran t recs)))) (sym q ∙ e);
  written = record { markers = refl; constants = refl; names = refl; errors = refl; lines = refl };
}

-- ---- a run that is listed

listing : (t : Semantic) (recs : List ℕ) (f : Flow) (e : Side) → Runs f
    → answering recs e (ended t recs f e) ≡ Listing e.met (length e.errors) (32 * size recs)
listing t recs Go e q = refl
listing t recs (Cut k a b) e q = refl
listing t recs (Halted x r) e q = absurd q

-- ---- what is made of accepted tables, and how a judged run tells its end

module _ (symbols references functions members recs : List ℕ) (sound : Sound symbols references functions members recs) where
  abbrev t : Semantic
  t = semantic symbols references functions members

  -- the names stand where they should, and the notes are those of the tables
  module _ (ws : List ℕ) (sp : List Span) (ns ws' : List ℕ) (sp' : List Span) (ns' : List ℕ) (wide : length ws ≡ 3072) (long : length sp ≡ 256)
      (blank : Blank ns) (h : Resolves t recs ws sp ns ws' sp' ns') where
    room : fits t (length ws) (length sp) ≡ true
    room =
        kept_fits sound.strings sound.bytes symbols references functions members recs (tables_kept symbols references functions members recs sound) (length ws)
        (length sp) (omega arith) (omega arith)

    pub notes_made : Resolved t recs ns'
    notes_made =
        h.notes (kept_grown sound.strings sound.bytes symbols references functions members recs (tables_kept symbols references functions members recs sound)) room
        blank

    pub names_made : Named t ws' sp'
    names_made = named_of t (whole symbols references functions members recs sound) ws sp ws' sp' room h.entries h.spans

  -- .. made in words of zeros and in spans that are the same
  module _ (z : Span) (ws' : List ℕ) (sp' : List Span) (ns' : List ℕ) (h : Resolves t recs (replicate 3072 0) (replicate 256 z) (replicate 12288 0) ws' sp' ns') where
    pub notes_fresh : Resolved t recs ns'
    notes_fresh =
        notes_made (replicate 3072 0) (replicate 256 z) (replicate 12288 0) ws' sp' ns' (length-replicate {A = ℕ} 3072 0)
        (length-replicate {A = Span} 256 z) (blank_zeros (replicate 12288 0) refl) h

    pub names_fresh : Named t ws' sp'
    names_fresh =
        names_made (replicate 3072 0) (replicate 256 z) (replicate 12288 0) ws' sp' ns' (length-replicate {A = ℕ} 3072 0)
        (length-replicate {A = Span} 256 z) (blank_zeros (replicate 12288 0) refl) h

  module _ (ns : List ℕ) (noted : Resolved t recs ns) (j : Judged) (w : Walked (noted_run ns recs) j) (f : Flow) (e : f ≡ j.flow) where
    pub flow_noted : f ≡ flow (noted_run ns recs)
    flow_noted = e ∙ w.flow

    pub flow_ran : f ≡ flow (ran t recs)
    flow_ran = flow_noted ∙ ap flow (noted_same t ns recs noted)

    pub runs_noted : OneOf (0 ∷ 1 ∷ []) (tag_of flow-type f) → Runs (flow (noted_run ns recs))
    runs_noted h = subst Runs flow_noted (tag_runs f h)

    pub runs_ran : OneOf (0 ∷ 1 ∷ []) (tag_of flow-type f) → Runs (flow (ran t recs))
    runs_ran h = subst Runs flow_ran (tag_runs f h)

    pub unrefused_noted : ((rule : RunRule) (r : ℕ) → f ≡ Halted rule r → ⊥) → Runs (flow (noted_run ns recs))
    unrefused_noted h = subst Runs flow_noted (unrefused_runs f h)

    pub unrefused_ran : ((rule : RunRule) (r : ℕ) → f ≡ Halted rule r → ⊥) → Runs (flow (ran t recs))
    unrefused_ran h = subst Runs flow_ran (unrefused_runs f h)

  module _ (entries : List ℕ) (spans : List Span) (named : Named t entries spans) (markers constants names errors lines : List ℕ)
      (roomy : Roomy t recs (lists markers constants names errors lines)) where
    listable_ran : Listable (ran t recs) entries spans (lists markers constants names errors lines)
    listable_ran = record {
      some = some_met symbols references functions members recs sound;
      few = omega (arith, few_errors symbols references functions members recs sound);
      made = count_inside symbols references functions members recs sound entries spans named;
      named = count_fits symbols references functions members recs sound entries spans named markers constants names errors lines roomy;
      spaced = space_enough symbols references functions members recs sound markers constants names errors lines roomy;
    }

    pub listable_of : (ns : List ℕ) → Resolved t recs ns → Listable (noted_run ns recs) entries spans (lists markers constants names errors lines)
    listable_of ns noted =
        subst⁻¹ (λ (A : State). Listable A entries spans (lists markers constants names errors lines)) (noted_same t ns recs noted) listable_ran

    module _ (a : Answer) (o' : Out) (runs : Runs (flow (ran t recs))) (ns : List ℕ) (noted : Resolved t recs ns)
        (listed : Listed (noted_run ns recs) recs entries spans a (lists markers constants names errors lines) o') where
      h : Listed (ran t recs) recs entries spans a (lists markers constants names errors lines) o'
      h = subst (λ (A : State). Listed A recs entries spans a (lists markers constants names errors lines) o') (noted_same t ns recs noted) listed

      errors_room : 3 * length (side (ran t recs)).errors ≤ length errors
      errors_room =
          let k = tables_kept symbols references functions members recs sound in
          let g = space_kept _ _ _ _ _ _ _ _ roomy in
          omega (arith, (run_bounds symbols references functions members recs sound (look t)).errors, k.all_in_tree, g.for_errors)

      words_listed : Written (Listing (met_of (ran t recs)) (length (side (ran t recs)).errors) (size recs * 32)) t recs (lists markers constants names errors lines) o'
      unfolding written_of
      words_listed = record {
        markers = h.streams.markers_laid;
        constants = h.streams.constants_laid;
        names = h.names ∙ ap (λ (l : List ℕ). over l names) (names_copied symbols references functions members recs sound entries spans named);
        errors = h.errors ∙ note_over errors (side (ran t recs)).errors errors_room;
        lines = h.streams.lines_laid ∙ ap (λ (l : List ℕ). over l lines) (lines_same symbols references functions members recs sound entries spans named);
      }

      pub listed_answered : Answered t recs a (lists markers constants names errors lines) o'
      unfolding outcome
      listed_answered =
          let z : size recs * 32 ≡ 32 * size recs = omega arith in
          record {
            answer = h.answer ∙ ap (Listing (met_of (ran t recs)) (length (side (ran t recs)).errors)) z
                ∙ sym (listing t recs (flow (ran t recs)) (side (ran t recs)) runs);
            written = subst⁻¹ (λ (b : Answer). Written b t recs (lists markers constants names errors lines) o') h.answer words_listed;
          }
