-- Trees in which every record has the children of its kind, and what that says of four kinds. Assumes nothing.
use mathlib.Core.Path.{◌≡◌, sym, subst}
use mathlib.Core.Bool.{Bool, true, false, cond}
use mathlib.Core.List.{List, [], ◌∷◌}
use mathlib.Core.Logic.{inl, inr}
use Prim.Native.Nat.{ℕ, zero, suc, ◌≤◌, ◌<◌}
use native.Mathlib.Omega.{arith}
use lib.Dec.{T}
use Rattle.tables.specs.declared.children.Class.{Class}
use Rattle.tables.specs.declared.children.Class.TheVariants.{Expr, Case, Ident, Left, Params}
use Rattle.tables.specs.Record.{Words, words, size, is_kind}
use Rattle.tables.specs.Forest.{Forest, none, tree, forest, first, next, children, root, breadth}
use Rattle.tables.specs.Details.{of_kind}
use Rattle.tables.specs.Children.{Want, belongs, leads, past, fits, values, controls, stores, parts, suits, words_of, right_children}
use Rattle.tables.proofs.ForestLaws.{and_l, and_r, Onward, first_onward, next_onward, forest_absent, forest_record, grown}

-- "children those of its kind", of every record
abbrev pub Shaped : Forest → Type 0
Shaped none = Unit {0}
Shaped (tree r w k s) = T (suits w (words_of k)) × Shaped k × Shaped s

-- what is expected of a record's children, with the kind apart: it computes where n is a numeral
abbrev expected_as : ℕ → Words → List Want
expected_as n w = of_kind n (values w) (of_kind n (controls w) (of_kind n (stores w) (of_kind n (parts w) [])))

of_its_kind : (n : ℕ) (w : Words) (xs : List Words) → w.kind ≡ n → T (suits w xs) → T (fits (expected_as n w) xs)
of_its_kind n w xs e t = subst (λ (m : ℕ). T (fits (expected_as m w) xs)) e t

leads_most : (n : ℕ) (c : Class) (k : Forest) → T (leads n c (words_of k)) → n ≤ breadth k
leads_most zero c k t = omega arith
leads_most (suc n) c none t = absurd t
leads_most (suc n) c (tree r w k s) t = omega (arith, leads_most n c s (and_r (belongs c w.kind) _ t))

module _ (w : Words) (k : Forest) (t : T (suits w (words_of k))) where
  -- "18 For: p Idents, right, Block"
  pub for_shape : w.kind ≡ 18 → w.p ≤ breadth k
  unfolding fits
  for_shape e = leads_most w.p Ident k (and_l (leads w.p Ident (words_of k)) _ (of_its_kind 18 w (words_of k) e t))

  -- "26 AssignUnpack: p Lefts, expr"
  pub unpack_shape : w.kind ≡ 26 → w.p ≤ breadth k
  unfolding fits
  unpack_shape e = leads_most w.p Left k (and_l (leads w.p Left (words_of k)) _ (of_its_kind 26 w (words_of k) e t))

  -- "30 Function: Params, Block"
  pub function_shape : w.kind ≡ 30 → 1 ≤ breadth k
  unfolding fits
  function_shape e = leads_most 1 Params k (and_l (leads 1 Params (words_of k)) _ (of_its_kind 30 w (words_of k) e t))

abbrev pub AllCases : Forest → Type 0
AllCases none = Unit {0}
AllCases (tree r w k s) = T (is_kind 33 w) × AllCases s

past_cases : (s : Forest) → T (fits [] (past Case (words_of s))) → AllCases s
unfolding fits
past_cases none t = tt
past_cases (tree r w k s) t = go (is_kind 33 w) t (λ t. past_cases s t)
  where
    go : (b : Bool) → T (fits [] (cond b (past Case (words_of s)) (w ∷ words_of s))) → (T (fits [] (past Case (words_of s))) → AllCases s) → T b × AllCases s
    go true t ih = (tt, ih t)
    go false t ih = absurd t

-- "15 Match: expr, Cases"
pub match_shape : (w : Words) (r : ℕ) (w' : Words) (k s : Forest) → T (suits w (words_of (tree r w' k s))) → w.kind ≡ 15 → AllCases s
unfolding fits
match_shape w r w' k s t e = past_cases s (and_r (leads 1 Expr (words_of (tree r w' k s))) _ (of_its_kind 15 w (words_of (tree r w' k s)) e t))

-- From the table's rows: if every record's children are right, the whole tree is shaped.
module _ (recs : List ℕ) (right : (r : ℕ) → r < size recs → right_children recs r ≡ true) where
  abbrev InTable : Forest → Type 0
  InTable none = Unit {0}
  InTable (tree r w k s) = r < size recs

  link_in : (l : ℕ) → l < size recs → InTable (forest recs l)
  link_in zero h = subst InTable (sym (forest_absent recs)) tt
  link_in (suc l) h = subst InTable (sym (forest_record recs l)) h

  onward_in : (r l : ℕ) → Onward recs r l → InTable (forest recs l)
  onward_in r l (inl e) = subst (λ (l : ℕ). InTable (forest recs l)) (sym e) (subst InTable (sym (forest_absent recs)) tt)
  onward_in r l (inr (a, b)) = link_in l b

  suited : (r : ℕ) → r < size recs → T (suits (words recs r) (words_of (children recs r)))
  unfolding right_children
  suited r h = and_l (suits (words recs r) (words_of (children recs r))) _ (subst T (sym (right r h)) tt)

  forest_shaped : (l : ℕ) → InTable (forest recs l) → Shaped (forest recs l)
  forest_shaped l =
      grown recs (λ f. InTable f → Shaped f) (λ h. tt)
      (λ r p q h.
      let i = onward_in (suc r) (first recs (suc r)) (first_onward recs (suc r)) in
      let j = onward_in (suc r) (next recs (suc r)) (next_onward recs (suc r)) in
      (suited (suc r) h, p i, q j)) l

  pub table_shaped : 0 < size recs → Shaped (root recs)
  table_shaped h = (suited 0 h, forest_shaped (first recs 0) (onward_in 0 (first recs 0) (first_onward recs 0)), tt)
