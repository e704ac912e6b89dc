-- Parts of a list that are as long as a record has children, and what comes after them. Assumes nothing.
use mathlib.Core.Path.{◌≡◌, refl, sym, ap, ◌∙◌}
use mathlib.Core.List.{List, [], ◌∷◌}
use Prim.Native.Nat.{ℕ, zero, suc}
use Rattle.tables.specs.Record.{words}
use Rattle.tables.specs.Forest.{Forest, Nodes, bare, node, first, next, forest, children, own_tree}
use Rattle.tables.proofs.ForestLaws.{forest_absent, forest_record}
use Rattle.rules.specs.Marker.{Pop, Do, mark}
use Rattle.rules.specs.Step.{Role, Expr, Step, visits, null, width}
use Rattle.rules.specs.Arms.{block_from, block_steps}
use Rattle.rules.specs.Run.{State, emit, kept, exec}
use Rattle.context.specs.Rep.{Walk, Lent}
use Rattle.context.specs.Does.{nth, near, doing, does, through, items}

module _ (recs : List ℕ) where
  pub nth_next : (j c : ℕ) → next recs (nth recs j c) ≡ nth recs (suc j) c
  nth_next zero c = refl
  nth_next (suc j) c = nth_next j (next recs c)

  -- how many siblings there are from the record c on
  pub width_none : (c : ℕ) → c ≡ 0 → width (own_tree (forest recs c)) ≡ 0
  width_none c e = ap (λ (x : ℕ). width (own_tree (forest recs x))) e ∙ ap (λ (f : Forest). width (own_tree f)) (forest_absent recs)

  pub width_some : (c : ℕ) → (c ≡ 0 → ⊥) → width (own_tree (forest recs c)) ≡ suc (width (own_tree (forest recs (next recs c))))
  width_some zero ne = absurd (ne refl)
  width_some (suc c) ne = ap (λ (f : Forest). width (own_tree f)) (forest_record recs c)

module _ (e : Lent) (c : Walk) (r : ℕ) where
  abbrev R : List ℕ
  R = e.records

  pub visits_part : (a : Role) (j n : ℕ) (is : List Step) (env : List ℕ) (A : State)
      → doing e c r (visits a j n is) env A ≡ doing e c r is env (through e c a n (nth R j (first R r)) A)
  unfolding doing exec
  visits_part a j zero is env A = refl
  visits_part a j (suc n) is env A =
      visits_part a (suc j) n is env (near e c r a j A) ∙ ap (λ (l : ℕ). doing e c r is env (through e c a n l (near e c r a j A))) (sym (nth_next R j (first R r)))

  block_part : (j : ℕ) (k : Nodes) (env : List ℕ) (A : State) → doing e c r (block_from j k) env A ≡ items e c r (width k) (nth R j (first R r)) A
  unfolding doing exec
  block_part j bare env A = refl
  block_part j (node w k s) env A =
      let B = emit (mark r (Do Pop 0)) (kept (near e c r Expr j) A) in
      block_part (suc j) s env B ∙ ap (λ (l : ℕ). items e c r (width s) l B) (sym (nth_next R j (first R r)))

  pub block_none : first R r ≡ 0 → (A : State) → does e c r (block_steps (words R r) (own_tree (children R r))) A ≡ does e c r (null ∷ []) A
  block_none q A = ap (λ (x : Forest). does e c r (block_steps (words R r) (own_tree x)) A) (ap (forest R) q ∙ forest_absent R)

  pub block_some : (l : ℕ) → l ≡ first R r → (l ≡ 0 → ⊥) → (A : State)
      → does e c r (block_steps (words R r) (own_tree (children R r))) A ≡ items e c r (width (own_tree (forest R (next R l)))) l A
  unfolding does
  block_some zero q ne A = absurd (ne refl)
  block_some (suc l) q ne A =
      ap (λ (x : ℕ). does e c r (block_steps (words R r) (own_tree (forest R x))) A) (sym q)
      ∙ ap (λ (x : Forest). does e c r (block_steps (words R r) (own_tree x)) A) (forest_record R l)
      ∙ block_part 0 (own_tree (forest R (next R (suc l)))) [] A
      ∙ ap (λ (x : ℕ). items e c r (width (own_tree (forest R (next R (suc l))))) x A) (sym q)
