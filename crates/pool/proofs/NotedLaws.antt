-- The notes of all records, from those of each owner's Idents. Assumes nothing.
use Rattle.std.proofs.lemmas.Bool.{cond-true, cond-false}
use mathlib.Core.Path.{◌≡◌, refl, ap, ◌∙◌}
use mathlib.Core.Bool.{Bool, true, false, cond}
use mathlib.Core.List.{List}
use Prim.Native.Nat.{ℕ, suc, ◌+◌, ◌-◌, ◌%◌, ◌≤◌, ◌<◌}
use native.Mathlib.Omega.{arith}
use lib.ListN.{length, get_or}
use borrow.Author.Tests.{lt-ltb}
use Rattle.tables.specs.Record.{Words, word, words, size, is_function, is_ident}
use Rattle.tables.specs.Forest.{first, next, forest}
use Rattle.tables.specs.Scratch.{Handed}
use Rattle.tables.specs.declared.refusal.RunRule.TheVariants.{Reference}
use Rattle.tables.proofs.ForestLaws.{grown}
use Rattle.tables.proofs.TreeLaws.{head, head_forest}
use Rattle.tables.proofs.HandLaws.{first_inside, next_inside}
use Rattle.pool.specs.Names.{Semantic, function_count, names, missing, load, store}
use Rattle.pool.specs.Chain.{OWNERS}
use Rattle.pool.specs.NameSteps.{Fits}
use Rattle.pool.specs.Notes.{RECORDS, earlier_noted, load_of, store_of, load_noted, store_noted, Noted}
use Rattle.pool.specs.Resolve.{Grown, Resolved}
use Rattle.pool.specs.ResolveSteps.{own_down, notes_at, ident_notes, IdentBelow, NotedBelow}
use Rattle.pool.proofs.NameUpto.{share_fits}
use Rattle.pool.proofs.NamesLaws.{names_members}
use Rattle.pool.proofs.NoteLaws.{load_back, store_back}

-- what two noted words are read as
module _ (ns : List ℕ) (r a b : ℕ) (h : r < RECORDS) (e : notes_at ns r ≡ (a, b)) where
  loads : load_noted ns r ≡ load_of a
  unfolding load_noted
  loads = cond-true _ _ _ (lt-ltb r RECORDS h) ∙ ap (λ (x : ℕ × ℕ). load_of x.0) e

  stores : store_noted ns r ≡ store_of b
  unfolding store_noted
  stores = cond-true _ _ _ (lt-ltb r RECORDS h) ∙ ap (λ (x : ℕ × ℕ). store_of x.1) e

no_load : load_of 0 ≡ missing Reference
unfolding load_of
no_load = refl

no_store : store_of 0 ≡ missing Reference
unfolding store_of
no_store = refl

module _ (t : Semantic) (recs : List ℕ) (g : Grown t recs) (entries spans : ℕ) (fit : Fits t entries spans) (owners ns : List ℕ)
    (hand : Handed (own_down recs) recs 0 (size recs) owners) (n : NotedBelow t recs owners (suc (function_count t)) ns) where
  few_names : (f : ℕ) → f < function_count t → length (names t f).locals + length (names t f).globals + length (names t f).upvalues ≤ 4096
  few_names f h = omega (arith, names_members t fit.counted f h, share_fits t fit.counted f h, fit.members_limit)

  -- record x inside function f, and record 0
  module _ (x f : ℕ) (p : 0 < x) (q : x < size recs) (h : f < function_count t) (o : get_or owners x 0 ≡ f + 1) where
    own : get_or owners x 0 % OWNERS ≡ f + 1
    own = omega (arith, fit.functions_limit)

    ident : is_ident (words recs x) ≡ true → IdentBelow recs owners (suc (function_count t)) x
    ident i = record { positive = p; inside = q; ident = i; owned = omega (arith, own); before = omega (arith, own) }

    noted_ident : is_ident (words recs x) ≡ true → notes_at ns x ≡ ident_notes t recs (f + 1) x
    noted_ident i = n.noted x (ident i) ∙ ap (λ (k : ℕ). ident_notes t recs k x) own

    back : f + 1 - 1 ≡ f
    back = omega arith

    small : x < RECORDS
    small = omega (arith, g.few)

    load_at : load_noted ns x ≡ cond (is_ident (words recs x)) (load t f (word recs x 2)) (missing Reference)
    load_at = go (is_ident (words recs x)) refl
      where
        go : (b : Bool) → is_ident (words recs x) ≡ b → load_noted ns x ≡ cond b (load t f (word recs x 2)) (missing Reference)
        go true e = loads ns x _ _ small (noted_ident e) ∙ rw back (load_back t f (word recs x 2) (few_names f h))
        go false e = loads ns x 0 0 small (n.rest x small (λ i. let z : ◌≡◌ {A = ℕ} 0 1 = cc i.ident in omega arith)) ∙ no_load

    store_at : store_noted ns x ≡ cond (is_ident (words recs x)) (store t f (word recs x 2)) (missing Reference)
    store_at = go (is_ident (words recs x)) refl
      where
        go : (b : Bool) → is_ident (words recs x) ≡ b → store_noted ns x ≡ cond b (store t f (word recs x 2)) (missing Reference)
        go true e = stores ns x _ _ small (noted_ident e) ∙ rw back (store_back t f (word recs x 2) (few_names f h))
        go false e = stores ns x 0 0 small (n.rest x small (λ i. let z : ◌≡◌ {A = ℕ} 0 1 = cc i.ident in omega arith)) ∙ no_store

  -- the records of a forest inside function fn have its owner
  abbrev Within : Words → ℕ → Type 0
  Within fn l = 0 < l → (l < size recs) × (get_or owners l 0 ≡ fn.p + 1)

  -- what is inside a record
  down : (x : ℕ) (fn : Words) → x < size recs → fn.p < function_count t → get_or owners x 0 ≡ fn.p + 1 → (b : Bool) → is_function (words recs x) ≡ b
      → ((cond b (words recs x) fn).p < function_count t) × Within (cond b (words recs x) fn) (first recs x)
  down x fn q h o true e =
      let k = g.number_inside x q e in (
        k,
        λ p. (
          (first_inside recs x p).1,
          hand.child x q p ∙ (cond-true _ _ _ e ∙ cond-true _ _ _ (lt-ltb (word recs x 2) 256 (omega (arith, fit.functions_limit)))),
        ),
      )
  down x fn q h o false e = (h, λ p. ((first_inside recs x p).1, hand.child x q p ∙ (cond-false _ _ _ e ∙ o)))

  all_noted : (l : ℕ) (fn : Words) → fn.p < function_count t → Within fn l → Noted t ns fn (forest recs l)
  unfolding Noted
  all_noted l fn h w =
      grown recs (λ f. (fn : Words) → fn.p < function_count t → Within fn (head f) → Noted t ns fn f) (λ fn h w. tt)
      (λ r k s fn h w.
      let x = suc r in
      let q = w (omega arith) in
      let d = down x fn q.0 h q.1 (is_function (words recs x)) refl in (
        load_at x fn.p (omega arith) q.0 h q.1,
        store_at x fn.p (omega arith) q.0 h q.1,
        k (cond (is_function (words recs x)) (words recs x) fn) d.0 (rw (head_forest recs) d.1),
        s fn h (rw (head_forest recs) (λ p. ((next_inside recs x p).1, hand.sibling x q.0 p ∙ q.1))),
      ))
      l fn h (rw (head_forest recs l) w)

  root : notes_at ns 0 ≡ (0, 0)
  root = n.rest 0 (omega arith) (λ i. omega (arith, i.positive))

  pub all_resolved : ((c : ℕ) → c < size recs → 0 < next recs c → get_or ns (next recs c) 0 ≡ c) → Resolved t recs ns
  all_resolved earlier =
      let some = g.one.some in
      let k = g.number_inside 0 some g.root_function in
      record {
        noted = all_noted (first recs 0) (words recs 0) k
            (λ p. (
              (first_inside recs 0 p).1,
              hand.child 0 some p ∙ (cond-true _ _ _ g.root_function ∙ cond-true _ _ _ (lt-ltb (word recs 0 2) 256 (omega (arith, fit.functions_limit)))),
            ));
        root_load = loads ns 0 0 0 (omega arith) root ∙ no_load;
        root_store = stores ns 0 0 0 (omega arith) root ∙ no_store;
        earlier = λ c e. before c (omega arith);
      }
    where
      before : (c : ℕ) → 0 < next recs c → earlier_noted ns (next recs c) ≡ c
      before c p =
          let i = next_inside recs c p in
          cond-true _ _ _ (lt-ltb (next recs c) RECORDS (omega (arith, i.1, g.few))) ∙ earlier c (omega (arith, i.0, i.1)) p
