-- Document 01: "Labels counted: ..". In trees of the right shape, the labels taken by a function's uncut stream are those counted from its own tree
-- alone, if the two sides of every AssignMulti have the same length. Assumes nothing.
use mathlib.Core.Path.{◌≡◌, refl, sym, subst}
use mathlib.Core.Bool.{Bool, true, false, cond, ◌||◌}
use mathlib.Core.List.{List, [], ◌∷◌}
use Prim.Native.Nat.{ℕ, zero, suc, ◌+◌, ◌≤◌}
use native.Mathlib.Omega.{arith}
use lib.Dec.{T, eqb, ltb, eqb→eq}
use Rattle.tables.specs.Record.{Words, words, is_kind, is_function, is_do}
use Rattle.tables.specs.Forest.{Forest, none, tree, children, Nodes, bare, node, own_tree}
use Rattle.tables.specs.declared.children.Class.TheVariants.{Lit, Ident, Pattern, Params, Block}
use Rattle.tables.specs.Children.{any, one, belongs, fits, suits, words_of, node_words}
use Rattle.tables.proofs.ForestLaws.{Each, each}
use Rattle.rules.specs.Run.{Lookup}
use Rattle.rules.specs.declared.StackCode.{StackCode}
use Rattle.rules.specs.Step.{Role, After, width}
use Rattle.rules.specs.Arms.{after_steps}
use Rattle.rules.specs.Kinds.{steps}
use Rattle.rules.specs.Counts.{own_labels, labels_counted}
use Rattle.rules.proofs.Segment.{no_seg, seg_count, child_seg, segs_of, seg_of, body_seg}
use Rattle.rules.proofs.StepsOk.{function_only}
use Rattle.rules.proofs.Shapes.{Shaped}
use Rattle.rules.proofs.LabelShapes.{
  Formed,
  formed,
  own_words,
  kind_at,
  AllKinds,
  sum,
  kinds_map,
  expected_as,
  fits_none,
  fits_one,
  fits_any,
  fits_pairs,
  alternate_kinds,
  plays,
  quiet,
  lit_quiet,
  ident_quiet,
  pattern_quiet,
  quiet_cases,
}
use Rattle.rules.proofs.LabelSteps.{Counts, own_as, either, double}
use Rattle.rules.proofs.LabelKinds.{steps_count}

-- an AssignMulti has as many expressions as Lefts; else its visit is a refusal of number 14 and reaches none of them
abbrev pub paired : Words → Nodes → Bool
paired w k = cond (is_kind 27 w) (eqb (w.p + w.p) (width k)) true

abbrev pub Paired : Nodes → Type 0
Paired bare = Unit {0}
Paired (node w k s) = T (paired w k) × Paired k × Paired s

-- the labels of the j-th node, with all below it
abbrev labels_at : StackCode → Nodes → ℕ → ℕ
labels_at sc bare j = 0
labels_at sc (node w k s) zero = own_labels sc w k + labels_counted sc k
labels_at sc (node w k s) (suc j) = labels_at sc s j

pub sum_shift : (L M : ℕ → ℕ) → ((i : ℕ) → L (suc i) ≡ M i) → (j n : ℕ) → sum L (suc j) n ≡ sum M j n
sum_shift L M e j zero = refl
sum_shift L M e j (suc n) = omega (arith, e j, sum_shift L M e (suc j) n)

labels_sum : (sc : StackCode) (N : Nodes) → labels_counted sc N ≡ sum (labels_at sc N) 0 (width N)
unfolding labels_counted
labels_sum sc bare = refl
labels_sum sc (node w k s) = omega (arith, labels_sum sc s, sum_shift (labels_at sc (node w k s)) (labels_at sc s) (λ i. refl) 0 (width s))

-- patterns, Params, Idents and Lits count for nothing
no_kinds : (p : ℕ → Bool) (N : Nodes) → width N ≡ 0 → AllKinds p N
no_kinds p bare e = tt
no_kinds p (node w k s) e = absurd (omega arith)

params_kinds : (b : Bool) (N : Nodes) → T (fits (cond b (one Ident ∷ any Ident ∷ []) (any Ident ∷ [])) (node_words N)) → AllKinds quiet N
params_kinds true bare u = absurd (fits_one Ident (any Ident ∷ []) bare u).is
params_kinds true (node w k s) u =
    let g = fits_one Ident (any Ident ∷ []) (node w k s) u in
    (ident_quiet w.kind g.is, kinds_map (belongs Ident) quiet ident_quiet s (fits_any Ident s g.rest))
params_kinds false N u = kinds_map (belongs Ident) quiet ident_quiet N (fits_any Ident N u)

pub quiet_below : (sc : StackCode) (w : Words) (k : Nodes) → T (quiet w.kind) → T (is_function w || suits w (node_words k)) → (own_labels sc w k ≡ 0) × AllKinds quiet k
unfolding own_labels
quiet_below sc w k q =
    let none : (T (fits [] (node_words k)) → (◌≡◌ {A = ℕ} 0 0) × AllKinds quiet k) = λ u. (refl, no_kinds quiet k (fits_none k u)) in
    quiet_cases (λ n. T (eqb n 30 || fits (expected_as n w) (node_words k)) → (own_as sc n w k ≡ 0) × AllKinds quiet k) none none (λ u. (
      refl,
      params_kinds (eqb w.detail 1) k u,
    ))
    none none (λ u. (refl, alternate_kinds Lit Pattern quiet lit_quiet pattern_quiet k (fits_pairs Lit Pattern k u)))
    (λ u. (refl, kinds_map (belongs Pattern) quiet pattern_quiet k (fits_any Pattern k u))) w.kind q

quiet_labels : (sc : StackCode) (N : Nodes) → Formed N → AllKinds quiet N → labels_counted sc N ≡ 0
unfolding labels_counted
quiet_labels sc bare m q = refl
quiet_labels sc (node w k s) (m, mk, ms) (q, qs) = let g = quiet_below sc w k q m in omega (arith, g.0, quiet_labels sc k mk g.1, quiet_labels sc s ms qs)

quiet_at : (sc : StackCode) (N : Nodes) → Formed N → (j : ℕ) → T (quiet (kind_at N j)) → labels_at sc N j ≡ 0
quiet_at sc bare m j q = refl
quiet_at sc (node w k s) (m, mk, ms) zero q = let g = quiet_below sc w k q m in omega (arith, g.0, quiet_labels sc k mk g.1)
quiet_at sc (node w k s) (m, mk, ms) (suc j) q = quiet_at sc s ms j q

-- a Function counts for itself
function_labels : (sc : StackCode) (w : Words) → w.kind ≡ 30 → own_labels sc w bare ≡ 0
unfolding own_labels
function_labels sc w e = subst (λ (n : ℕ). own_as sc n w bare ≡ 0) (sym e) refl

module _ (sc : StackCode) (t : Lookup) where
  -- the children of a record in its function's own tree
  abbrev inside : Bool → Forest → Nodes
  inside b k = cond b bare (own_tree k)

  abbrev Counted : ℕ → Words → Forest → Type 0
  Counted r w k =
      T (suits w (words_of k)) → Shaped k → T (paired w (inside (is_function w) k)) → Paired (inside (is_function w) k) → (a : Role) (fn : Words) → T (plays a w.kind)
      → (seg_of sc t r w k a fn).count ≡ own_labels sc w (inside (is_function w) k) + labels_counted sc (inside (is_function w) k)

  -- what is done after the right side of an AssignOp takes no label
  after_count : (r : ℕ) (w : Words) (k : Forest) (fn : Words) → (seg_of sc t r w k After fn).count ≡ 0
  unfolding steps seg_count
  after_count r w k fn =
      let ks = child_seg (segs_of sc t k) fn in
      let body = body_seg sc t r w k in
      either t fn r w k ks body (is_kind 34 w) (after_steps w (own_tree k)) [] 0
      (either t fn r w k ks body (eqb w.detail 0) _ _ 0 refl (either t fn r w k ks body (ltb w.detail 4) _ _ 0 refl refl)) refl

  -- the children as the steps see them
  module _ (fn : Words) where
    visits_at : (k : Forest) → Each Counted k → Shaped k → Paired (own_tree k) → (a : Role) (j : ℕ) → T (plays a (kind_at (own_tree k) j))
        → (child_seg (segs_of sc t k) fn a j).count ≡ labels_at sc (own_tree k) j
    visits_at none h m p a j q = refl
    visits_at (tree r w k s) (h, hs) (m, mk, ms) (p, pk, ps) a zero q = h m mk p pk a fn q
    visits_at (tree r w k s) (h, hs) (m, mk, ms) (p, pk, ps) a (suc j) q = visits_at s hs ms ps a j q

    afters_at : (k : Forest) (j : ℕ) → (child_seg (segs_of sc t k) fn After j).count ≡ 0
    afters_at none j = refl
    afters_at (tree r w k s) zero = after_count r w k fn
    afters_at (tree r w k s) (suc j) = afters_at s j

    absent_at : (k : Forest) (a : Role) (j : ℕ) → width (own_tree k) ≤ j → (child_seg (segs_of sc t k) fn a j).count ≡ 0
    absent_at none a j g = refl
    absent_at (tree r w k s) a zero g = absurd (omega arith)
    absent_at (tree r w k s) a (suc j) g = absent_at s a j (omega arith)

    children_counted : (k : Forest) → Each Counted k → Shaped k → Paired (own_tree k) → Counts (child_seg (segs_of sc t k) fn) (labels_at sc (own_tree k)) (own_tree k)
    children_counted k h m p =
        record { visits = visits_at k h m p; afters = afters_at k; absent = absent_at k; silent = quiet_at sc (own_tree k) (formed k m) }

  -- a Function's record takes no label
  function_count : (r : ℕ) (w : Words) (k : Forest) (a : Role) (fn : Words) → w.kind ≡ 30 → (seg_of sc t r w k a fn).count ≡ 0
  unfolding seg_count
  function_count r w k a fn e =
      let ks = child_seg (segs_of sc t k) fn in
      let body = body_seg sc t r w k in
      function_only (λ is. seg_count t fn r w k ks body is ≡ 0) sc a w (own_tree k) e refl (either t fn r w k ks body (is_do w) _ _ 0 refl refl)

  counted_step : (r : ℕ) (w : Words) (k : Forest) → Each Counted k → Counted r w k
  unfolding labels_counted
  counted_step r w k h m mk p pk a fn q = go (is_function w) refl p pk
    where
      N : Nodes
      N = own_tree k

      go : (b : Bool) → is_function w ≡ b → T (paired w (inside b k)) → Paired (inside b k)
          → (seg_of sc t r w k a fn).count ≡ own_labels sc w (inside b k) + labels_counted sc (inside b k)
      go true e p pk =
          let i = eqb→eq w.kind 30 (subst T (sym e) tt) in
          omega (arith, function_count r w k a fn i, function_labels sc w i)
      go false e p pk =
          omega (
            arith,
            steps_count sc t fn r w k (child_seg (segs_of sc t k) fn) (body_seg sc t r w k) a w N (labels_at sc N) (children_counted fn k h mk pk) q
                (subst (λ xs. T (suits w xs)) (own_words k) m) (formed k mk) (subst (λ b. T (cond b false (paired w N))) (sym e) p),
            labels_sum sc N,
          )

  all_counted : (f : Forest) → Each Counted f
  all_counted f = each Counted counted_step f

  -- a function's own stream
  pub body_labels : (r : ℕ) (w : Words) (k : Forest) → w.kind ≡ 30 → T (suits w (words_of k)) → Shaped k → Paired (own_tree k)
      → (body_seg sc t r w k).count ≡ labels_counted sc (own_tree k)
  unfolding seg_count
  body_labels r w k e m mk p =
      let N = own_tree k in
      let ks = child_seg (segs_of sc t k) w in
      let u : T (suits w (node_words N)) = subst (λ xs. T (suits w xs)) (own_words k) m in
      let d =
      double t w r w k ks no_seg N (labels_at sc N) (children_counted w k (all_counted k) mk p) Params Block tt tt
      (subst (λ (n : ℕ). T (fits (expected_as n w) (node_words N))) e u) in
      either t w r w k ks no_seg (is_do w) _ _ (labels_counted sc N) (omega (arith, d, labels_sum sc N)) (omega (arith, d, labels_sum sc N))

-- the function at record r of a table
pub labels_right : (sc : StackCode) (t : Lookup) (recs : List ℕ) (r : ℕ) → (words recs r).kind ≡ 30 → T (suits (words recs r) (words_of (children recs r))) → Shaped
    (children recs r)
    → Paired (own_tree (children recs r)) → (body_seg sc t r (words recs r) (children recs r)).count ≡ labels_counted sc (own_tree (children recs r))
labels_right sc t recs r = body_labels sc t r (words recs r) (children recs r)
