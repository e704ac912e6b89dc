-- The answer, row by row, and demand 3 of a listing without errors. Assumes nothing.
use mathlib.Core.Path.{◌≡◌, refl, sym, ap, subst, subst⁻¹, ◌∙◌}
use mathlib.Core.Bool.{Bool, true, false}
use mathlib.Core.List.{List, [], ◌∷◌}
use Prim.Native.Nat.{ℕ, ◌*◌, ◌≤◌, ◌<◌}
use lib.ListN.{length}
use lib.Dec.{eqb}
use Rattle.std.specs.Prelude.{Option, None, Some, Ok, Err}
use Rattle.tables.specs.declared.refusal.Refusal.{Refusal}
use Rattle.tables.specs.declared.refusal.Refusal.TheVariants.{Table, Space}
use Rattle.tables.specs.Refusal.{Checked}
use Rattle.tables.specs.Record.{Words, words, size}
use Rattle.tables.specs.Forest.{children}
use Rattle.tables.specs.Semantic.{pairs}
use Rattle.tables.specs.Lent.{lent_broken}
use Rattle.tables.specs.Check.{refusing, rows_of}
use Rattle.tables.proofs.CheckLaws.{skip, halt, row_kept, rest_kept}
use Rattle.tables.proofs.LentLaws.{fit}
use Rattle.pool.specs.Names.{Semantic, semantic}
use Rattle.rules.specs.declared.Flow.{Flow}
use Rattle.rules.specs.declared.Flow.TheVariants.{Go, Cut, Refused as Halted}
use Rattle.rules.specs.Marker.{Mark}
use Rattle.rules.specs.Run.{Error, Loop, Side, State, st, flow, side, look, settle, anew, returned, entered, nested, full, stream, visits_of, run}
use Rattle.rules.specs.Out.{Out, ended, outcome}
use Rattle.rules.proofs.Accepted.{accepted_demand3}
use Rattle.codegen.specs.Space.{space_broken}
use Rattle.codegen.specs.declared.call.Answer.{Answer}
use Rattle.codegen.specs.declared.call.Answer.TheVariants.{Listing, Refused}
use Rattle.codegen.specs.Walks.{stack_code, ran}
use Rattle.codegen.specs.Call.{checked_of, past, answering, ran_of, answer_of, written_of, Written, Answered, Sound, Demanded, number_in, valued, Promised}
use Rattle.codegen.proofs.DemandLaws.{on_words}
use Rattle.codegen.proofs.ReadyLaws.{tables_kept}

module _ (strings bytes symbols references functions members records : List ℕ) (markers constants names errors lines : ℕ) where
  abbrev checks : Checked
  checks = checked_of strings bytes symbols references functions members records markers constants names errors lines

  abbrev rows : Checked
  rows = rows_of strings bytes symbols references functions members records

  abbrev space : Option ℕ
  space = space_broken (size records) (length members) (pairs functions) markers constants names errors lines

  -- row 1
  pub table_checked : (b : Option ℕ) (i : ℕ) → b ≡ lent_broken strings bytes symbols references functions members records → b ≡ Some i → Err (Table i) ≡ checks
  unfolding checked_of
  table_checked b i e q = halt Table b _ (refusing Space space rows) i e q

  module _ (b : Option ℕ) (e : b ≡ lent_broken strings bytes symbols references functions members records) (q : b ≡ None) (d : Option ℕ) (h : d ≡ space) where
    well : refusing Space space rows ≡ checks
    unfolding checked_of
    well = skip Table b _ (refusing Space space rows) e q

    -- row 2
    pub space_checked : (i : ℕ) → d ≡ Some i → Err (Space i) ≡ checks
    space_checked i r = halt Space d _ rows i h r ∙ well

    -- rows 3 to 9
    pub rows_checked : d ≡ None → (x : Checked) → (size records ≤ 4096 → 0 < size records → x ≡ rows_of strings bytes symbols references functions members records)
        → x ≡ checks
    rows_checked r x w =
        let f = fit strings bytes symbols references functions members records (sym e ∙ q) in
        w f.records_limit f.records_some ∙ skip Space d _ rows h r ∙ well

  -- the answer
  pub refused_answer : (x : Checked) (why : Refusal) → x ≡ checks → x ≡ Err why
      → Refused why ≡ answer_of strings bytes symbols references functions members records markers constants names errors lines
  unfolding answer_of
  refused_answer x why e k = ap (λ (z : Checked). past z (ran_of (semantic symbols references functions members) records)) (sym k ∙ e)

  module _ (x : Checked) (e : x ≡ checks) (k : x ≡ Ok tt) where
    pub run_answer : ran_of (semantic symbols references functions members) records
        ≡ answer_of strings bytes symbols references functions members records markers constants names errors lines
    unfolding answer_of
    run_answer = ap (λ (z : Checked). past z (ran_of (semantic symbols references functions members) records)) (sym k ∙ e)

    pub checked_roomy : space ≡ None
    unfolding checked_of
    checked_roomy = row_kept Space space rows (rest_kept Table _ _ (sym e ∙ k))

    pub checked_sound : Sound symbols references functions members records
    unfolding checked_of
    checked_sound = record {
      strings = strings;
      bytes = bytes;
      row_one = row_kept Table _ _ (sym e ∙ k);
      rows = rest_kept Space space rows (rest_kept Table _ _ (sym e ∙ k));
    }

-- ---- demand 3

-- a run never ends cut short: its outermost function keeps the error
abbrev Uncut : Flow → Type 0
Uncut Go = Unit {0}
Uncut (Cut k a b) = ⊥
Uncut (Halted x r) = Unit {0}

settled : (s : State) → Uncut (flow (settle s))
settled (st m l ls os Go e) = tt
settled (st m l ls os (Cut k a b) e) = tt
settled (st m l ls os (Halted x r) e) = tt

returned_uncut : (r : ℕ) (w : Words) (m : List Mark) (l : ℕ) (ls os : List Loop) (s : State) → Uncut (flow s) → Uncut (flow (returned r w m l ls os s))
returned_uncut r w m l ls os (st m' l' ls' os' f e) h = h

entered_uncut : (b : Bool) (r : ℕ) (w : Words) (v : State → State) (m : List Mark) (l : ℕ) (ls os : List Loop) (e : Side)
    → Uncut (flow (entered b r w v m l ls os e))
entered_uncut true r w v m l ls os e = returned_uncut r w m l ls os (settle (v (anew e))) (settled (v (anew e)))
entered_uncut false r w v m l ls os e = tt

run_uncut : (t : Semantic) (recs : List ℕ) → Uncut (flow (ran t recs))
unfolding run nested
run_uncut t recs =
    let o = full stack_code in
    entered_uncut (eqb (words recs 0).p 0) 0 (words recs 0) (stream (look t) o 0 (words recs 0) (children recs 0) (visits_of (look t) o (children recs 0))) [] 0 [] []
    (record { errors = []; met = 0; streams = [] })

module _ (symbols references functions members recs : List ℕ) (sound : Sound symbols references functions members recs) where
  abbrev t : Semantic
  t = semantic symbols references functions members

  -- words that are left as the answer says
  module _ (o o' : Out) where
    abbrev Leaves : Answer → Type 0
    Leaves a = Written a t recs o o' → Demanded a t recs o'.markers o'.constants o'.lines

    by_errors : (f : ℕ) (es : List Error) → (side (ran t recs)).errors ≡ es → flow (ran t recs) ≡ Go → Leaves (Listing (side (ran t recs)).met (length es) f)
    unfolding written_of
    by_errors f [] e g w =
        let k = tables_kept symbols references functions members recs sound in
        on_words t recs o.markers o.constants o.lines o'.markers o'.constants o'.lines w.markers w.constants w.lines
        (accepted_demand3 stack_code sound.strings sound.bytes symbols references functions members recs k.fits.records_some k (g, e))
    by_errors f (x ∷ es) e g w = tt

    by_flow : (f : Flow) → flow (ran t recs) ≡ f → Uncut f → Leaves (answering recs (side (ran t recs)) (ended t recs f (side (ran t recs))))
    by_flow Go e u = by_errors (32 * size recs) (side (ran t recs)).errors refl e
    by_flow (Cut k a b) e u = absurd u
    by_flow (Halted x r) e u = λ w. tt

    pub demanded : (a : Answer) → Answered t recs a o o' → Demanded a t recs o'.markers o'.constants o'.lines
    unfolding outcome
    demanded a w = subst⁻¹ Leaves w.answer (by_flow (flow (ran t recs)) refl (run_uncut t recs)) w.written

-- the call for C and Rust, by another name of the answer
pub promised : (a b : Answer) (t : Semantic) (recs : List ℕ) (n : ℕ) (values values' : List ℕ) (o o' : Out) → a ≡ b → n ≡ number_in a → values' ≡ valued a values
    → Written a t recs o o' → Demanded a t recs o'.markers o'.constants o'.lines → Promised b t recs n values values' o o'
promised a b t recs n values values' o o' e p q w d =
    subst (λ (z : Answer). Promised z t recs n values values' o o') e (record { number_is = p; values_are = q; written = w; demand3 = d })
