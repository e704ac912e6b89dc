-- The levels that a pass over the links finds are those of the tree, and row 8 bounds the tree's levels. Assumes nothing.
use mathlib.Core.Path.{◌≡◌, refl, sym, ap, ◌∙◌}
use mathlib.Core.Bool.{cond}
use mathlib.Core.List.{List}
use mathlib.Core.Logic.{◌⊎◌, inl, inr}
use Prim.Native.Nat.{ℕ, suc, ◌+◌, ◌≤◌, ◌<◌, min, max}
use native.Mathlib.Omega.{arith}
use native.Mathlib.Decide.{ℕ_discrete}
use lib.ListN.{get_or}
use Rattle.std.proofs.lemmas.Bool.{cases_lt}
use lib.Dec.{ltb, eqb}
use borrow.Author.Tests.{lt-ltb, le-ltb, eq-eqb, ne_eqb, ltb-false}
use Rattle.std.specs.Prelude.{None}
use Rattle.tables.specs.Record.{size}
use Rattle.tables.specs.Forest.{Forest, none, tree, first, next, forest, root, levels}
use Rattle.tables.specs.Naming.{Joined}
use Rattle.tables.specs.Nesting.{level_in, level, nesting}
use Rattle.tables.specs.Scratch.{Handed}
use Rattle.tables.proofs.ForestLaws.{grown}
use Rattle.tables.proofs.PlaceLaws.{holds}
use Rattle.tables.proofs.NamingLaws.{one_other}
use Rattle.tables.proofs.TreeLaws.{over, occurs, Under, head, head_forest, tree_once, root_under}
use Rattle.tables.proofs.HandLaws.{first_inside, next_inside}

-- the level l where x is the record r, else 0
hit_here : (x r l : ℕ) → x ≡ r → cond (eqb x r) l 0 ≡ l
hit_here x r l e = rw (eq-eqb x r e)

hit_else : (x r l : ℕ) → (x ≡ r → ⊥) → cond (eqb x r) l 0 ≡ 0
hit_else x r l d = rw (ne_eqb x r d)

-- where a record stands, it has a level
standing : (x : ℕ) (f : Forest) (l : ℕ) → 1 ≤ l → 1 ≤ occurs x f → 1 ≤ level_in x l f
unfolding over
standing x none l p h = absurd (omega arith)
standing x (tree r w k s) l p h = go (ℕ_discrete x r) (λ q. standing x k (suc l) (omega arith) q) (λ q. standing x s l p q)
  where
    go : Dec (x ≡ r) → (1 ≤ occurs x k → 1 ≤ level_in x (suc l) k) → (1 ≤ occurs x s → 1 ≤ level_in x l s)
        → 1 ≤ max (cond (eqb x r) l 0) (max (level_in x (suc l) k) (level_in x l s))
    go (yes e) a b = omega (arith, hit_here x r l e)
    go (no d) a b = at (ℕ_discrete (occurs x k) 0)
      where
        at : Dec (occurs x k ≡ 0) → 1 ≤ max (cond (eqb x r) l 0) (max (level_in x (suc l) k) (level_in x l s))
        at (yes z) = omega (arith, b (omega (arith, one_other x r d)))
        at (no z) = omega (arith, a (omega arith))

-- no level, or the one that was handed
abbrev Found : ℕ → ℕ → Type 0
Found v l = (l ≡ 0) ⊎ (v ≡ min 129 l)

deepest : (v a b : ℕ) → Found v a → Found v b → Found v (max a b)
deepest v a b (inl p) (inl q) = inl (omega arith)
deepest v a b (inl p) (inr q) = inr (omega arith)
deepest v a b (inr p) (inl q) = inr (omega arith)
deepest v a b (inr p) (inr q) = inr (omega arith)

module _ (recs a : List ℕ) (j : Joined recs) (h : Handed (λ r v. min 129 (v + 1)) recs 1 (size recs) a) where
  hit_found : (x r l : ℕ) → get_or a r 0 ≡ min 129 l → Found (get_or a x 0) (cond (eqb x r) l 0)
  hit_found x r l e = go (ℕ_discrete x r)
    where
      go : Dec (x ≡ r) → Found (get_or a x 0) (cond (eqb x r) l 0)
      go (yes q) = inr (ap (λ z. get_or a z 0) q ∙ e ∙ ap (min 129) (sym (hit_here x r l q)))
      go (no d) = inl (hit_else x r l d)

  -- what the head of a forest was handed
  abbrev Told : ℕ → ℕ → Type 0
  Told l q = 0 < q → (q < size recs) × (get_or a q 0 ≡ min 129 l)

  to_child : (r l : ℕ) → r < size recs → get_or a r 0 ≡ min 129 l → Told (suc l) (first recs r)
  to_child r l p e u = ((first_inside recs r u).1, h.child r p u ∙ omega arith)

  to_sibling : (r l : ℕ) → r < size recs → get_or a r 0 ≡ min 129 l → Told l (next recs r)
  to_sibling r l p e u = ((next_inside recs r u).1, h.sibling r p u ∙ e)

  handed_level : (q x l : ℕ) → Told l q → Found (get_or a x 0) (level_in x l (forest recs q))
  handed_level q x l t =
      grown recs (λ f. (l : ℕ) → Told l (head f) → Found (get_or a x 0) (level_in x l f)) (λ l t. inl refl)
      (λ r p s l t.
      let m = t (omega arith) in
      deepest _ _ _ (hit_found x (suc r) l m.1)
      (deepest _ _ _ (p (suc l) (rw (head_forest recs) (to_child (suc r) l m.0 m.1))) (s l (rw (head_forest recs) (to_sibling (suc r) l m.0 m.1)))))
      q l (rw (head_forest recs q) t)

  -- up to 129 the array has the levels of the tree
  pub level_handed : (x : ℕ) → x < size recs → get_or a x 0 ≡ min 129 (level recs x)
  level_handed x p =
      go (deepest _ _ _ (hit_found x 0 1 h.top) (deepest _ _ _ (handed_level (first recs 0) x 2 (to_child 0 1 j.some h.top)) (inl refl)))
    where
      go : Found (get_or a x 0) (level recs x) → get_or a x 0 ≡ min 129 (level recs x)
      go (inl e) = absurd (omega (arith, standing x (root recs) 1 (omega arith) (omega (arith, tree_once recs j x p))))
      go (inr e) = e

-- up to 129 the array tells what is too deep
pub nested_same : (v l : ℕ) → v ≡ min 129 l → ltb 128 v ≡ ltb 128 l
nested_same v l e = go (cases_lt 128 l)
  where
    go : (128 < l) ⊎ (l ≤ 128) → ltb 128 v ≡ ltb 128 l
    go (inl h) = lt-ltb 128 v (omega arith) ∙ sym (lt-ltb 128 l (omega arith))
    go (inr h) = le-ltb 128 v (omega arith) ∙ sym (le-ltb 128 l (omega arith))

-- a level is one of the forest's
level_within : (x : ℕ) (f : Forest) (l : ℕ) → level_in x (suc l) f ≤ l + levels f
level_within x none l = omega arith
level_within x (tree r w k s) l = go (ℕ_discrete x r) (level_within x k (suc l)) (level_within x s l)
  where
    go : Dec (x ≡ r) → level_in x (suc (suc l)) k ≤ suc l + levels k → level_in x (suc l) s ≤ l + levels s
        → max (cond (eqb x r) (suc l) 0) (max (level_in x (suc (suc l)) k) (level_in x (suc l) s)) ≤ l + max (suc (levels k)) (levels s)
    go (yes e) a b = omega (arith, hit_here x r (suc l) e)
    go (no d) a b = omega (arith, hit_else x r (suc l) d)

-- where no record's level is above m, the forest's levels are not
levels_within : (n m : ℕ) (f : Forest) (l : ℕ) → l ≤ m → Under n f → ((x : ℕ) → x < n → level_in x (suc l) f ≤ m) → l + levels f ≤ m
levels_within n m none l p u h = omega arith
levels_within n m (tree r w k s) l p (u, v, t) h =
    omega (
      arith,
      levels_within n m k (suc l) (omega (arith, h r u, hit_here r r (suc l) refl)) v (λ x q. omega (arith, h x q)),
      levels_within n m s l p t
          (λ x q. omega (arith, h x q)),
    )

-- row 8 holds: the tree has at most 128 levels
pub levels_few : (recs : List ℕ) → 0 < size recs → nesting recs ≡ None → levels (root recs) ≤ 128
levels_few recs s e =
    omega (
      arith,
      levels_within (size recs) 128 (root recs) 0 (omega arith) (root_under recs s) (λ x h. ltb-false 128 (level recs x) (holds (λ y. ltb 128
          (level recs y)) (size recs) e x h)),
    )

-- a record on level 129 or deeper: the tree has more than 128 levels
pub levels_many : (recs : List ℕ) (x : ℕ) → 128 < level recs x → 128 < levels (root recs)
levels_many recs x h = omega (arith, level_within x (root recs) 0)
