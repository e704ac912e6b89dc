-- The turns of `resolve`: what holds before the first function, after each one, and at the end. Assumes nothing.
use Rattle.std.proofs.lemmas.Bool.{cond-false}
use mathlib.Core.Path.{◌≡◌, refl, sym, ap, subst, ◌∙◌}
use mathlib.Core.Bool.{true, false}
use mathlib.Core.List.{List}
use mathlib.Core.Logic.{◌⊎◌, inl, inr}
use Prim.Native.Nat.{ℕ, suc, ◌+◌, ◌≤◌, ◌<◌}
use native.Mathlib.Omega.{arith}
use lib.ListN.{length, get_or, replicate, length-replicate, get_or-replicate, get_or-eq_default}
use Rattle.std.specs.Prelude.{Option, None}
use Rattle.tables.specs.Record.{size}
use Rattle.tables.specs.Forest.{next}
use Rattle.tables.specs.Scratch.{Handed}
use Rattle.tables.specs.Semantic.{pairs}
use Rattle.tables.specs.declared.lent.Tables.{Tables}
use Rattle.tables.proofs.SemanticLaws.{split, past}
use Rattle.tables.proofs.HandLaws.{next_inside}
use Rattle.pool.specs.Names.{Semantic, semantic_of, function_count, start_of_share, upvalue_symbols, names, index_of}
use Rattle.pool.specs.Scope.{SYMBOLS, no_scope, owner_of, index_at, index_in}
use Rattle.pool.specs.declared.scope.Scope.{Scope}
use Rattle.pool.specs.declared.scope.Table.{Table}
use Rattle.pool.specs.declared.scope.Table.TheVariants.{Locals, Globals, Upvalues}
use Rattle.pool.specs.declared.chain.Chain.{Chain}
use Rattle.pool.specs.declared.scope.Stamp.{Stamp}
use Rattle.pool.specs.NameWords.{span_of, span_for, fits, entries_after, spans_after}
use Rattle.pool.specs.NameSteps.{stamped_names, Fits, parent_owner, owner_names, Shown}
use Rattle.pool.specs.Notes.{LOADS, STORES}
use Rattle.pool.specs.Resolve.{Grown, Blank, Resolves}
use Rattle.pool.specs.ResolveSteps.{own_down, IdentChains, InnerChains, Passed, Begun}
use Rattle.pool.specs.ResolveSteps.{MadeBelow, NamesInners, notes_at, NotedBelow, NotesIdents}
use Rattle.pool.specs.declared.spans.Span.{Span}
use Rattle.pool.proofs.NameUpto.{share_fits}
use Rattle.pool.proofs.NamesLaws.{names_members}
use Rattle.pool.proofs.StampLaws.{Older}
use Rattle.pool.proofs.ShownLaws.{Turned, turn_stamped}
use Rattle.pool.proofs.MadeLaws.{made_entries, made_spans}
use Rattle.pool.proofs.InnerLaws.{parent_before}
use Rattle.pool.proofs.NotedLaws.{all_resolved}

-- words that are all 0
zeros_at : (n : ℕ) (ws : List ℕ) → ws ≡ replicate n 0 → (j : ℕ) → get_or ws j 0 ≡ 0
zeros_at n ws e j = ap (λ (l : List ℕ). get_or l j 0) e ∙ go (split n j)
  where
    go : (n ≤ j) ⊎ (j < n) → ◌≡◌ {A = ℕ} (get_or (replicate n 0) j 0) 0
    go (inl h) = sym (past (replicate n 0) j (omega (arith, length-replicate {A = ℕ} n 0)))
    go (inr h) = get_or-replicate n j 0 0 h

none_at : (n j : ℕ) → get_or {A = Option Stamp} (replicate n None) j None ≡ None
none_at n j = go (split n j)
  where
    go : (n ≤ j) ⊎ (j < n) → get_or {A = Option Stamp} (replicate n None) j None ≡ None
    go (inl h) = get_or-eq_default (replicate n None) None (omega (arith, length-replicate {A = Option Stamp} n None))
    go (inr h) = get_or-replicate n j None None h

pub blank_zeros : (ns : List ℕ) → ns ≡ replicate 12288 0 → Blank ns
blank_zeros ns e = record { long = ap length e ∙ length-replicate {A = ℕ} 12288 0; zero = zeros_at 12288 ns e }

-- no names are those of no owner
none_shown : (t : Semantic) (sc : Scope) → owner_of sc ≡ 0 → ((s : ℕ) → get_or sc.symbols s None ≡ None) → Shown t sc
unfolding index_of index_in
none_shown t sc o z =
    let missed : (k : Table) (s : ℕ) → index_in sc k s ≡ None = λ k s. ap (index_at sc.owner k) (z s) in
    record {
      locals = λ s. missed Locals s ∙ ap (λ (k : ℕ). index_of (owner_names t k).locals s) (sym o);
      globals = λ s. missed Globals s ∙ ap (λ (k : ℕ). index_of (owner_names t k).globals s) (sym o);
      upvalues = λ s. missed Upvalues s ∙ ap (λ (k : ℕ). index_of (upvalue_symbols (owner_names t k).upvalues) s) (sym o);
    }

module _ (t : Semantic) (recs : List ℕ) where
  -- the Idents of the first o functions are noted
  pub record NotedSoFar (o : ℕ) (ns : List ℕ) (sc : Scope) : Type 0 where
    pub owners : List ℕ
    pub handed : Handed (own_down recs) recs 0 (size recs) owners
    pub chained : IdentChains recs owners (size recs) sc.idents
    pub earlier : (c : ℕ) → c < size recs → 0 < next recs c → get_or ns (next recs c) 0 ≡ c
    pub noted : NotedBelow t recs owners (suc o) ns

  module _ (ws₀ : List ℕ) (sp₀ : List Span) (ns₀ : List ℕ) where
    -- the first o functions have had their turn: the functions inside them are named, and their Idents noted
    pub record State (o : ℕ) (ws : List ℕ) (sp : List Span) (ns : List ℕ) (sc : Scope) : Type 0 where
      pub upto : o ≤ function_count t
      pub made : MadeBelow t (suc o) ws₀ sp₀ ws sp
      pub inside : InnerChains t.functions (suc (function_count t)) sc.inners
      pub older : (s : ℕ) → Older (suc o) (get_or sc.symbols s None)
      pub long : length sc.symbols ≡ SYMBOLS
      pub notes : Grown t recs → Blank ns₀ → NotedSoFar o ns sc

module _ (tables : Tables) (ws₀ : List ℕ) (sp₀ : List Span) (ns₀ : List ℕ) where
  abbrev t : Semantic
  t = semantic_of tables

  abbrev functions : List ℕ
  functions = tables.functions.now

  abbrev recs : List ℕ
  recs = tables.records.now

  module _ (fit : Fits t (length ws₀) (length sp₀)) where
    -- before the first function: no owner's names are stamped, and the functions inside none are named
    module _ (sc₀ : Scope) (ns₁ : List ℕ) (sp₁ : List Span) (idents₁ : Chain 4096) (inners₁ : Chain 257) (sc₂ : Scope) (ws₂ : List ℕ) (sp₂ : List Span) (zeros : sc₀ ≡ no_scope)
        (pass : Passed recs ns₀ sc₀.idents ns₁ idents₁) (begun : Begun functions sp₀ sc₀.inners sp₁ inners₁)
        (scope : sc₂ ≡ record sc₀ { idents = idents₁; inners = inners₁ }) (named : NamesInners tables.symbols.now functions tables.members.now sc₂ ws₀ sp₁ ws₂ sp₂) where
      is : sc₂ ≡ record no_scope { idents = idents₁; inners = inners₁ }
      is = scope ∙ ap (λ (x : Scope). record x { idents = idents₁; inners = inners₁ }) zeros

      no_owner : owner_of sc₂ ≡ 0
      no_owner = ap owner_of is

      none : (s : ℕ) → get_or sc₂.symbols s None ≡ None
      none s = ap (λ (x : Scope). get_or x.symbols s None) is ∙ none_at SYMBOLS s

      inner₂ : InnerChains functions (suc (pairs functions)) sc₂.inners
      inner₂ = subst (InnerChains functions (suc (pairs functions))) (sym (ap (λ (x : Scope). x.inners) is)) (begun.chained (ap (λ (x : Scope). x.inners) zeros))

      none_made : MadeBelow t 0 ws₀ sp₀ ws₀ sp₁
      none_made =
          record {
            entries_long = refl;
            spans_long = begun.spans_long;
            entries_past = λ j p. refl;
            spans_past = begun.past;
            starts = begun.starts fit.spans_room;
            entries = λ f p d. absurd (omega arith);
            spans = λ f p d. absurd (omega arith);
          }

      first_made : MadeBelow t 1 ws₀ sp₀ ws₂ sp₂
      first_made =
          subst (λ (o : ℕ). MadeBelow t (suc o) ws₀ sp₀ ws₂ sp₂) no_owner
          (named.named tables.references.now ws₀ sp₀ fit inner₂ (none_shown t sc₂ no_owner none)
          (subst (λ (o : ℕ). MadeBelow t o ws₀ sp₀ ws₀ sp₁) (sym no_owner) none_made))

      first_noted : Grown t recs → Blank ns₀ → NotedSoFar t recs 0 ns₁ sc₂
      first_noted g b =
          let own = pass.owned g.few (ap (λ (x : Scope). x.idents) zeros) in
          let l : length ns₁ ≡ 12288 = pass.notes_long ∙ b.long in
          record {
            owners = own.owners;
            handed = own.handed g.one;
            chained = subst (IdentChains recs own.owners (size recs)) (sym (ap (λ (x : Scope). x.idents) is)) own.chained;
            earlier = own.earlier g.one l;
            noted =
                record {
                  long = l;
                  noted = λ r i. absurd (omega (arith, i.owned, i.before));
                  rest = λ r p d. zero_at r;
                };
          }
        where
          zero_at : (r : ℕ) → notes_at ns₁ r ≡ (0, 0)
          zero_at r =
              let x : get_or ns₁ (LOADS + r) 0 ≡ 0 = pass.behind (LOADS + r) (omega arith) ∙ b.zero (LOADS + r) in
              let y : get_or ns₁ (STORES + r) 0 ≡ 0 = pass.behind (STORES + r) (omega arith) ∙ b.zero (STORES + r) in
              rw (x, y)

      pub state_first : State t recs ws₀ sp₀ ns₀ 0 ws₂ sp₂ ns₁ sc₂
      state_first =
          record {
            upto = omega arith;
            made = first_made;
            inside = inner₂;
            older = λ s. subst (Older 1) (sym (none s)) tt;
            long = ap (λ (x : Scope). length x.symbols) is ∙ length-replicate {A = Option Stamp} SYMBOLS None;
            notes = first_noted;
          }

    -- the names of one function are no more than the members, which row 1 limits
    pub span_few : (o : ℕ) (ws : List ℕ) (sp : List Span) (ns : List ℕ) (sc : Scope) → o < pairs functions → State t recs ws₀ sp₀ ns₀ o ws sp ns sc
        → (span : Span) → span ≡ span_of sp o → span.locals + span.globals + span.upvalues ≤ 1024
    span_few o ws sp ns sc h s span es =
        let named : parent_owner functions o < suc o = omega (arith, parent_before functions o) in
        let e : span ≡ span_for (start_of_share t o) (names t o) = es ∙ s.made.spans o h named in
        omega (
          arith,
          ap (λ (x : Span). x.locals + x.globals + x.upvalues) e,
          names_members t fit.counted o h,
          share_fits t fit.counted o h,
          fit.members_limit,
        )

    -- function o has its turn
    module _ (o : ℕ) (ws : List ℕ) (sp : List Span) (ns : List ℕ) (sc : Scope) (h : o < pairs functions) (s : State t recs ws₀ sp₀ ns₀ o ws sp ns sc) (span : Span) (sc' : Scope)
        (ns' ws' : List ℕ) (sp' : List Span)
        (es : span ≡ span_of sp o) (ec : sc' ≡ stamped_names sc ws span (o + 1)) (en : NotesIdents recs tables.symbols.now tables.references.now sc' ns ns')
        (em : NamesInners tables.symbols.now functions tables.members.now sc' ws sp ws' sp') where
      next_o : o + 1 ≡ suc o
      next_o = omega arith

      named : parent_owner functions o < suc o
      named = omega (arith, parent_before functions o)

      turned : Turned t (suc o) sc sc'
      turned =
          turn_stamped t (length ws₀) (length sp₀) fit o h sc ws s.long s.older (s.made.entries o h named) span
          (es ∙ s.made.spans o h named) sc' (ec ∙ ap (stamped_names sc ws span) next_o)

      inner_next : InnerChains functions (suc (pairs functions)) sc'.inners
      inner_next = subst (InnerChains functions (suc (pairs functions))) (sym turned.inners) s.inside

      made_next : MadeBelow t (suc (suc o)) ws₀ sp₀ ws' sp'
      made_next =
          subst (λ (k : ℕ). MadeBelow t (suc k) ws₀ sp₀ ws' sp') turned.owner
          (em.named tables.references.now ws₀ sp₀ fit inner_next turned.shown (subst (λ (k : ℕ). MadeBelow t k ws₀ sp₀ ws sp) (sym turned.owner) s.made))

      noted_next : Grown t recs → Blank ns₀ → NotedSoFar t recs (suc o) ns' sc'
      noted_next g b =
          let n = s.notes g b in
          let chains = subst (IdentChains recs n.owners (size recs)) (sym turned.idents) n.chained in
          record {
            owners = n.owners;
            handed = n.handed;
            chained = chains;
            earlier = λ c p q. en.front (next recs c) (omega (arith, (next_inside recs c q).1, g.few)) ∙ n.earlier c p q;
            noted =
                subst (λ (k : ℕ). NotedBelow t recs n.owners (suc k) ns') turned.owner
                (en.noted functions tables.members.now n.owners g.few chains turned.shown (omega (arith, turned.owner))
                (subst (λ (k : ℕ). NotedBelow t recs n.owners k ns) (sym turned.owner) n.noted));
          }

      pub state_next : State t recs ws₀ sp₀ ns₀ (o + 1) ws' sp' ns' sc'
      state_next =
          subst (λ (k : ℕ). State t recs ws₀ sp₀ ns₀ k ws' sp' ns' sc') (sym next_o)
          (record { upto = omega arith; made = made_next; inside = inner_next; older = turned.older; long = turned.long; notes = noted_next })

    pub state_last : (o : ℕ) (ws : List ℕ) (sp : List Span) (ns : List ℕ) (sc : Scope) → pairs functions ≤ o → fits t (length ws₀) (length sp₀) ≡ true
        → State t recs ws₀ sp₀ ns₀ o ws sp ns sc
        → Resolves t recs ws₀ sp₀ ns₀ ws sp ns
    state_last o ws sp ns sc p e s =
        let z : o ≡ pairs functions = omega (arith, s.upto) in
        let all : (f : ℕ) → f < pairs functions → parent_owner functions f < suc o = λ f q. omega (arith, parent_before functions f) in
        record {
          entries = made_entries t ws₀ sp₀ fit _ ws sp s.made all e;
          spans = made_spans t ws₀ sp₀ fit _ ws sp s.made all e;
          notes = λ g f b.
              let n = s.notes g b in
              all_resolved t recs g (length ws₀) (length sp₀) fit n.owners ns n.handed
              (subst (λ (k : ℕ). NotedBelow t recs n.owners (suc k) ns) z n.noted) n.earlier;
        }

  -- no room, or numbers that slots do not hold
  pub state_none : fits t (length ws₀) (length sp₀) ≡ false → Resolves t recs ws₀ sp₀ ns₀ ws₀ sp₀ ns₀
  unfolding entries_after spans_after
  state_none e =
      record {
        entries = sym (cond-false _ _ _ e);
        spans = sym (cond-false _ _ _ e);
        notes = λ g f b. absurd (let z : ◌≡◌ {A = ℕ} 0 1 = cc in omega arith);
      }

-- the turns of the first o functions, from the words that the loop begins with
module _ (tables : Tables) (ws : List ℕ) (sp : List Span) (ns : List ℕ) (sc : Scope) where
  pub record Turns (o : ℕ) (ws' : List ℕ) (sp' : List Span) (ns' : List ℕ) (sc' : Scope) : Type 0 where
    pub turns : (ws₀ : List ℕ) (sp₀ : List Span) (ns₀ : List ℕ) → Fits (semantic_of tables) (length ws₀) (length sp₀)
        → State (semantic_of tables) tables.records.now ws₀ sp₀ ns₀ 0 ws sp ns sc → State (semantic_of tables) tables.records.now ws₀ sp₀ ns₀ o ws' sp' ns' sc'

  pub turns_next : (o : ℕ) (ws₁ : List ℕ) (sp₁ : List Span) (ns₁ : List ℕ) (sc₁ : Scope) → o < pairs tables.functions.now → Turns o ws₁ sp₁ ns₁ sc₁ → (span : Span) (sc₂ : Scope)
      (ns₂ ws₂ : List ℕ) (sp₂ : List Span) → span ≡ span_of sp₁ o → sc₂ ≡ stamped_names sc₁ ws₁ span (o + 1)
      → NotesIdents tables.records.now tables.symbols.now tables.references.now sc₂ ns₁ ns₂
      → NamesInners tables.symbols.now tables.functions.now tables.members.now sc₂ ws₁ sp₁ ws₂ sp₂ → Turns (o + 1) ws₂ sp₂ ns₂ sc₂
  turns_next o ws₁ sp₁ ns₁ sc₁ h p span sc₂ ns₂ ws₂ sp₂ es ec en em =
      record { turns = λ ws₀ sp₀ ns₀ fit s. state_next tables ws₀ sp₀ ns₀ fit o ws₁ sp₁ ns₁ sc₁ h (p.turns ws₀ sp₀ ns₀ fit s) span sc₂ ns₂ ws₂ sp₂ es ec en em }
