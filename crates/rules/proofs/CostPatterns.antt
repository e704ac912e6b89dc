-- The weight of a Match's tests, by the nodes of its patterns. Assumes nothing.
use mathlib.Core.Path.{◌≡◌, refl}
use mathlib.Core.Bool.{Bool, true, false, cond, ◌&&◌}
use mathlib.Core.List.{List, [], ◌∷◌, ◌++◌}
use Prim.Native.Nat.{ℕ, zero, suc, ◌+◌, ◌*◌, ◌≤◌}
use native.Mathlib.Omega.{arith}
use lib.Dec.{ltb, eqb}
use Rattle.tables.specs.Record.{Words, is_kind}
use Rattle.tables.specs.Forest.{Nodes, bare, node}
use Rattle.pool.specs.Value.{Value, Null, same, lit}
use Rattle.rules.specs.Marker.{Jump, PopJumpIfFalse, JumpPopIfNull, LoadConst, Pop, Eq}
use Rattle.rules.specs.Step.{Role, ChildPath, Set, Step, push_op, push_const, get_label, jump, access}
use Rattle.rules.specs.Patterns.{
  Part,
  item,
  key,
  value,
  parts,
  next_part,
  is_pattern_part,
  is_nested,
  grown,
  taking,
  labels_after,
  lead,
  length_test,
  table_test,
  pattern_steps,
  inside_steps,
  cleanup,
  pattern_labels,
  test_steps,
  case_tests,
  case_labels,
  cases_tests,
}
use Rattle.rules.proofs.Cost.{rep, Rates, value_cost, weigh}

pub rep_plus : (c m n : ℕ) → rep c (m + n) ≡ rep c m + rep c n
unfolding rep
rep_plus c zero n = let e : 0 + n ≡ n = omega arith in rw e (omega arith)
rep_plus c (suc m) n = let e : suc m + n ≡ suc (m + n) = omega arith in rw e (omega (arith, rep_plus c m n))

pub rep_both : (c d n : ℕ) → rep (c + d) n ≡ rep c n + rep d n
unfolding rep
rep_both c d zero = refl
rep_both c d (suc n) = omega (arith, rep_both c d n)

pub rep_mono : (c d n : ℕ) → c ≤ d → rep c n ≤ rep d n
unfolding rep
rep_mono c d zero h = omega arith
rep_mono c d (suc n) h = omega (arith, rep_mono c d n h)

pub rep_more : (c m n : ℕ) → m ≤ n → rep c m ≤ rep c n
unfolding rep
rep_more c zero n h = omega arith
rep_more c (suc m) zero h = absurd (omega arith)
rep_more c (suc m) (suc n) h = omega (arith, rep_more c m n (omega arith))

-- how many nodes; of the first n trees; of the patterns of some Cases
unfoldable pub node_count : Nodes → ℕ
node_count bare = 0
node_count (node w k s) = suc (node_count k + node_count s)

unfoldable pub front_count : ℕ → Nodes → ℕ
front_count n bare = 0
front_count zero (node w k s) = 0
front_count (suc n) (node w k s) = suc (node_count k) + front_count n s

unfoldable pub tests_count : Nodes → ℕ
tests_count bare = 0
tests_count (node w k s) = front_count w.p k + tests_count s

either_most : (b : Bool) (x y z : ℕ) → x ≤ z → y ≤ z → cond b x y ≤ z
either_most true x y z p q = p
either_most false x y z p q = q

grown_most : (d h : ℕ) → grown d h ≤ suc h
grown_most d h = either_most (ltb (suc d) h) h (suc h) (suc h) (omega arith) (omega arith)

labels_most : (f : Nodes) (part : Part) (d h : ℕ) → labels_after part d h f ≤ h + node_count f
unfolding node_count
labels_most bare part d h = omega arith
labels_most (node w k s) part d h =
    let x = labels_after (parts w) (suc d) (grown d h) k in
    let b = is_pattern_part part && is_nested w in
    omega (
      arith,
      labels_most s (next_part part) d (cond b x h),
      either_most b x h (h + suc (node_count k)) (omega (arith, labels_most k (parts w) (suc d) (grown d h), grown_most d h)) (omega arith),
    )

-- what a node inside a pattern, and what a pattern by itself, costs at most
abbrev node_rate : Rates → ℕ
node_rate R = R.on_label + (2 * R.on_const + 10 * R.on_marker)

abbrev pub pattern_rate : Rates → ℕ
pattern_rate R = 2 * R.on_label + (2 * R.on_const + 17 * R.on_marker)

-- Null costs no more than another constant
module _ (R : Rates) (least : R.on_null ≤ R.on_const) where
  pub value_most : (v : Value) → value_cost R v ≤ R.on_const
  value_most v = either_most (same Null v) R.on_null R.on_const R.on_const least (omega arith)

  module _ (ks : Role → ℕ → ℕ) (body : ℕ) where
    abbrev W : List Step → ℕ
    W is = weigh R ks body is

    either_weigh : (b : Bool) (x y : List Step) (z : ℕ) → W x ≤ z → W y ≤ z → W (cond b x y) ≤ z
    either_weigh true x y z p q = p
    either_weigh false x y z p q = q

    taking_weigh : (d h : ℕ) (is : List Step) → W (taking d h is) ≤ R.on_label + W is
    unfolding weigh
    taking_weigh d h is = either_weigh (ltb (suc d) h) is (get_label ∷ is) (R.on_label + W is) (omega arith) (omega arith)

    lead_weigh : (part : Part) (at : ChildPath) (i : ℕ) (w : Words) (is : List Step) → W (lead part at i w is) ≤ R.on_const + (2 * R.on_marker + W is)
    unfolding weigh
    lead_weigh item at i w is = omega arith
    lead_weigh key at i w is = omega (arith, value_most (lit w.detail w.p w.q))
    lead_weigh value at i w is = omega arith

    table_weigh : (l : ℕ) (at : ChildPath) (w : Words) (k : Nodes) (is : List Step) → W (table_test l at w k is) ≤ R.on_const + (7 * R.on_marker + W is)
    unfolding weigh
    table_weigh l at w k is =
        omega (
          arith,
          either_weigh (eqb w.detail 1) is (length_test l at w k is) (R.on_const + (4 * R.on_marker + W is)) (omega arith) (omega arith),
        )

    pattern_weigh : (m d h : ℕ) (at : ChildPath) (w : Words) (k : Nodes) (inside : List Step → List Step) (c : ℕ) (is : List Step)
        → ((is : List Step) → W (inside is) ≤ c + W is) → W (pattern_steps m d h at w k inside is) ≤ R.on_label + (R.on_const + 8 * R.on_marker) + c + W is
    unfolding weigh
    pattern_weigh m d h at w k inside c is f =
        let test = table_test (m + suc d) at w k (inside (push_op Pop 0 ∷ is)) in
        let ident = jump JumpPopIfNull (m + d) ∷ access Set at ∷ is in
        let literal = push_const LoadConst at (lit w.detail w.p w.q) ∷ push_op Eq 0 ∷ jump PopJumpIfFalse (m + d) ∷ is in
        let z = R.on_label + (R.on_const + 8 * R.on_marker) + c + W is in
        either_weigh (is_nested w) (taking d h test) (cond (is_kind 36 w) ident literal) z
        (omega (arith, taking_weigh d h test, table_weigh (m + suc d) at w k (inside (push_op Pop 0 ∷ is)), f (push_op Pop 0 ∷ is)))
        (either_weigh (is_kind 36 w) ident literal z (omega arith) (omega (arith, value_most (lit w.detail w.p w.q))))

    inside_weigh : (f : Nodes) (part : Part) (m d h : ℕ) (at : ChildPath) (i : ℕ) (is : List Step) → W (inside_steps part m d h at i f is) ≤ rep (node_rate R)
        (node_count f) + W is
    unfolding rep node_count
    inside_weigh bare part m d h at i is = omega arith
    inside_weigh (node w k s) part m d h at i is =
        let h' = cond (is_pattern_part part && is_nested w) (labels_after (parts w) (suc d) (grown d h) k) h in
        let rest = inside_steps (next_part part) m d h' at (suc i) s is in
        let inside : List Step → List Step = λ is. inside_steps (parts w) m (suc d) (grown d h) (at ++ (i ∷ [])) 0 k is in
        let here = pattern_steps m d h (at ++ (i ∷ [])) w k inside rest in
        let ih : (is : List Step) → W (inside is) ≤ rep (node_rate R) (node_count k) + W is =
        λ is. inside_weigh k (parts w) m (suc d) (grown d h) (at ++ (i ∷ [])) 0 is in
        let z = R.on_label + (R.on_const + 8 * R.on_marker) + rep (node_rate R) (node_count k) + W rest in
        omega (
          arith,
          lead_weigh part at i w (cond (is_pattern_part part) here rest),
          either_weigh (is_pattern_part part) here rest z
              (pattern_weigh m d h (at ++ (i ∷ [])) w k inside (rep (node_rate R) (node_count k)) rest ih) (omega arith),
          inside_weigh s (next_part part) m d h' at (suc i) is,
          rep_plus (node_rate R) (node_count k) (node_count s),
        )

    cleanup_weigh : (h m : ℕ) (is : List Step) → W (cleanup m h is) ≤ rep (2 * R.on_marker) h + W is
    unfolding weigh rep
    cleanup_weigh zero m is = omega arith
    cleanup_weigh (suc zero) m is = omega arith
    cleanup_weigh (suc (suc h)) m is = omega (arith, cleanup_weigh (suc h) m is)

    test_weigh : (m i : ℕ) (at : ChildPath) (w : Words) (k : Nodes) (is : List Step) → W (test_steps m i at w k is) ≤ rep (pattern_rate R) (suc (node_count k)) + W is
    unfolding weigh rep node_count
    test_weigh m i at w k is =
        let N = node_count k in
        let H = pattern_labels w k in
        let D = 2 * R.on_marker in
        let E = R.on_label + 5 * R.on_marker in
        let inside : List Step → List Step = λ is. inside_steps (parts w) m 1 (grown 0 1) at 0 k is in
        omega (
          arith,
          pattern_weigh m 0 1 at w k inside (rep (node_rate R) N) (push_op Pop 0 ∷ jump Jump i ∷ cleanup m H is) (λ is. inside_weigh k (parts w) m 1 (grown 0 1) at 0 is),
          cleanup_weigh H m is,
          rep_more D H (suc (suc N)) (omega (arith, labels_most (node w k bare) item 0 1)),
          rep_both (node_rate R) D N,
          rep_mono (node_rate R + D) (pattern_rate R) N (omega arith),
        )

    case_weigh : (k : Nodes) (m i j c n : ℕ) (is : List Step) → W (case_tests m i j c n k is) ≤ rep (pattern_rate R) (front_count n k) + W is
    unfolding rep front_count
    case_weigh bare m i j c n is = omega arith
    case_weigh (node w k s) m i j c zero is = omega arith
    case_weigh (node w k s) m i j c (suc n) is =
        let m' = m + pattern_labels w k in
        omega (
          arith,
          test_weigh m i (j ∷ c ∷ []) w k (case_tests m' i j (suc c) n s is),
          case_weigh s m' i j (suc c) n is,
          rep_plus (pattern_rate R) (suc (node_count k)) (front_count n s),
        )

    -- the tests of a Match's Cases
    pub cases_weigh : (s : Nodes) (m j : ℕ) (is : List Step) → W (cases_tests m j s is) ≤ rep (pattern_rate R) (tests_count s) + W is
    unfolding rep tests_count
    cases_weigh bare m j is = omega arith
    cases_weigh (node w k s) m j is =
        let m' = m + case_labels w.p k in
        omega (
          arith,
          case_weigh k m j j 0 w.p (cases_tests m' (suc j) s is),
          cases_weigh s m' (suc j) is,
          rep_plus (pattern_rate R) (front_count w.p k) (tests_count s),
        )
