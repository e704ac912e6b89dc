-- A record's visit is its steps, with the children by their numbers. Assumes nothing.
use mathlib.Core.Path.{◌≡◌, refl, sym, ap, ◌∙◌, fun_ext}
use mathlib.Core.Bool.{Bool, true, false, cond}
use mathlib.Core.List.{List, [], ◌∷◌}
use Prim.Native.Nat.{ℕ, zero, suc}
use lib.ListN.{get_or}
use Rattle.tables.specs.Record.{Words, words, is_function}
use Rattle.tables.specs.Forest.{Forest, none, tree, first, next, forest, children, own_tree}
use Rattle.tables.proofs.ForestLaws.{forest_absent, forest_record}
use Rattle.rules.specs.Arms.{stream_steps}
use Rattle.rules.specs.Kinds.{steps}
use Rattle.rules.specs.Step.{Role, ChildPath}
use Rattle.rules.specs.Run.{State, nowhere, Lookup, exec, idle, stream, Visit, absent, child_visit, visits_of, from_tree, spot_below, spot_at, number_of}
use Rattle.context.specs.Rep.{Walk, within, mode, Lent}
use Rattle.context.specs.Does.{nth, reach, spot, noted_look, visit_at, visit_in, own_stream, near, doing, does}

module _ (recs : List ℕ) where
  pub number_spot : (i : ℕ) → number_of (spot recs i) ≡ i
  number_spot zero = refl
  number_spot (suc i) = refl

  nth_absent : (j : ℕ) → nth recs j 0 ≡ 0
  unfolding next
  nth_absent zero = refl
  nth_absent (suc j) = nth_absent j

  from_nth : (j c : ℕ) → from_tree j (forest recs c) ≡ forest recs (nth recs j c)
  unfolding next
  from_nth zero c = refl
  from_nth (suc j) zero = ap (from_tree (suc j)) (forest_absent recs) ∙ sym (forest_absent recs) ∙ ap (forest recs) (sym (nth_absent j))
  from_nth (suc j) (suc c) = ap (from_tree (suc j)) (forest_record recs c) ∙ from_nth j (next recs (suc c))

  nowhere_at : (js : ChildPath) → spot_below none js ≡ nowhere
  nowhere_at [] = refl
  nowhere_at (j ∷ js) = refl

  -- a path from a record leads to the record that the links give
  spot_reach : (l : ℕ) (js : ChildPath) → spot_below (forest recs l) js ≡ spot recs (reach recs l js)
  spot_reach zero [] = ap (λ (f : Forest). spot_below f []) (forest_absent recs)
  spot_reach (suc l) [] = ap (λ (f : Forest). spot_below f []) (forest_record recs l)
  spot_reach zero (j ∷ js) =
      ap (λ (f : Forest). spot_below f (j ∷ js)) (forest_absent recs) ∙ sym (nowhere_at js) ∙ ap (λ (f : Forest). spot_below f js) (sym (forest_absent recs))
      ∙ spot_reach 0 js
  spot_reach (suc l) (j ∷ js) =
      ap (λ (f : Forest). spot_below f (j ∷ js)) (forest_record recs l) ∙ by (is_function (words recs (suc l)))
      (ap (λ (f : Forest). spot_below f js) (sym (forest_absent recs)) ∙ spot_reach 0 js)
      (ap (λ (f : Forest). spot_below f js) (from_nth j (first recs (suc l))) ∙ spot_reach (nth recs j (first recs (suc l))) js)
    where
      by : (b : Bool) → spot_below none js ≡ spot recs (reach recs 0 js)
          → spot_below (from_tree j (children recs (suc l))) js ≡ spot recs (reach recs (nth recs j (first recs (suc l))) js)
          → cond b nowhere (spot_below (from_tree j (children recs (suc l))) js) ≡ spot recs (reach recs (cond b 0 (nth recs j (first recs (suc l)))) js)
      by true e q = sym (nowhere_at js) ∙ e
      by false e q = q

  -- the same from a record that is visited, record 0 too
  pub spot_child : (r : ℕ) (w : Words) (j : ℕ) (js : ChildPath)
      → spot_at (tree r w (children recs r) none) (j ∷ js) ≡ spot recs (reach recs (nth recs j (first recs r)) js)
  spot_child r w j js = ap (λ (f : Forest). spot_below f js) (from_nth j (first recs r)) ∙ spot_reach (nth recs j (first recs r)) js

  -- the number of the Ident at child j
  pub ident_number : (r : ℕ) (w : Words) (j : ℕ) {i : ℕ} → i ≡ nth recs j (first recs r) → number_of (spot_at (tree r w (children recs r) none) (j ∷ [])) ≡ i
  ident_number r w j {i} q = ap number_of (spot_child r w j []) ∙ number_spot (nth recs j (first recs r)) ∙ sym q

module _ (e : Lent) (c : Walk) where
  abbrev R : List ℕ
  R = e.records

  abbrev L : Lookup
  L = noted_look e.notes

  at_nth : (j l : ℕ) → get_or (visits_of L (mode c) (forest R l)) j absent ≡ visit_at e c (nth R j l)
  unfolding visit_at next
  at_nth zero l = refl
  at_nth (suc j) zero =
      ap (λ (f : Forest). get_or (visits_of L (mode c) f) (suc j) absent) (forest_absent R)
      ∙ sym (ap (λ (f : Forest). get_or (visits_of L (mode c) f) j absent) (forest_absent R)) ∙ at_nth j 0
  at_nth (suc j) (suc l) = ap (λ (f : Forest). get_or (visits_of L (mode c) f) (suc j) absent) (forest_record R l) ∙ at_nth j (next R (suc l))

  pub children_near : (r : ℕ) → child_visit (visits_of L (mode c) (children R r)) (words R c.function) ≡ near e c r
  children_near r = fun_ext (λ (a : Role). fun_ext (λ (j : ℕ). ap (λ (v : Visit). v a (words R c.function)) (at_nth j (first R r))))

  pub visit_none : (a : Role) (s : State) → visit_in e c a 0 s ≡ s
  unfolding visit_at
  visit_none a s = ap (λ (f : Forest). get_or (visits_of L (mode c) f) 0 absent a (words R c.function) s) (forest_absent R)

  pub visit_does : (r : ℕ) → (r ≡ 0 → ⊥) → (a : Role) → visit_in e c a r ≡ does e c r (steps c.code a (words R r) (own_tree (children R r)))
  unfolding visit_at own_stream doing does
  visit_does zero ne a = absurd (ne refl)
  visit_does (suc r) ne a =
      ap (λ (x : Forest). get_or (visits_of L (mode c) x) 0 absent a (words R c.function)) (forest_record R r)
      ∙ ap (λ (vs : Role → ℕ → State → State). exec L (mode c) (words R c.function) (suc r) (words R (suc r)) (children R (suc r)) vs
      (stream L (mode c) (suc r) (words R (suc r)) (children R (suc r)) (visits_of L (mode c) (children R (suc r))))
      (steps c.code a (words R (suc r)) (own_tree (children R (suc r)))) []) (children_near (suc r))

-- the stream of a Function is the steps of its body, walked in that function
module _ (e : Lent) (c : Walk) (r : ℕ) where
  pub stream_does : own_stream e c r
      ≡ exec (noted_look e.notes) (mode c) (words e.records r) r (words e.records r) (children e.records r) (near e (within r c) r) idle (stream_steps
      (words e.records r)) []
  unfolding own_stream stream visit_at
  stream_does =
      ap (λ (vs : Role → ℕ → State → State). exec (noted_look e.notes) (mode c) (words e.records r) r (words e.records r) (children e.records r) vs idle
      (stream_steps (words e.records r)) []) (children_near e (within r c) r)
