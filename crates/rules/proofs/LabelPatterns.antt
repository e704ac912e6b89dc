-- A Match takes one label, one for each Case, and for each pattern 1 + the most Table and List patterns on one path down it. Assumes nothing.
use mathlib.Core.Path.{◌≡◌, refl, sym, subst}
use mathlib.Core.Bool.{Bool, true, false, cond, not, ◌&&◌, ◌||◌}
use mathlib.Core.List.{List, [], ◌∷◌, ◌++◌}
use Prim.Native.Nat.{ℕ, zero, suc, ◌+◌, ◌<◌, max}
use native.Mathlib.Omega.{arith}
use lib.ListN.{drop}
use lib.Dec.{T, eqb, leb, ltb, eqb→eq, leb→le, ltb→lt, nltb→le}
use Rattle.tables.specs.Record.{Words, is_function, is_kind, is_pattern}
use Rattle.tables.specs.Forest.{Forest, Nodes, bare, node}
use Rattle.tables.specs.declared.children.Class.{Class}
use Rattle.tables.specs.declared.children.Class.TheVariants.{Expr as expression, Pattern, Lit, Case}
use Rattle.tables.specs.Children.{times, one, belongs, leads, fits, suits, node_words}
use Rattle.tables.proofs.ForestLaws.{and_l, and_r}
use Rattle.pool.specs.Value.{lit}
use Rattle.rules.specs.Run.{Lookup}
use Rattle.rules.specs.Marker.{Pop, Eq, Jump, PopJumpIfFalse, JumpPopIfNull, LoadConst}
use Rattle.rules.specs.Step.{Role, ChildPath, Set, Step, push_op, push_const, get_label, jump, access, width}
use Rattle.rules.specs.Patterns.{
  Part,
  item,
  key,
  value,
  parts,
  next_part,
  is_pattern_part,
  is_nested,
  grown,
  taking,
  labels_after,
  lead,
  length_test,
  table_test,
  pattern_steps,
  inside_steps,
  cleanup,
  pattern_labels,
  test_steps,
  case_tests,
  case_labels,
  cases_tests,
}
use Rattle.rules.specs.Counts.{nesting, pattern_sum, case_sum}
use Rattle.rules.proofs.Segment.{Seg, seg_count}
use Rattle.rules.proofs.LabelShapes.{Formed, AllKinds, Alternate, expected_as, fits_none, fits_one, fits_any, fits_pairs, pattern_cases}

-- a pattern's children by their parts
abbrev part_class : Part → Class
part_class item = Pattern
part_class key = Lit
part_class value = Pattern

abbrev Fit : Part → Nodes → Type 0
Fit part bare = Unit {0}
Fit part (node w k s) = T (belongs (part_class part) w.kind) × Fit (next_part part) s

fit_items : (N : Nodes) → AllKinds (belongs Pattern) N → Fit item N
fit_items bare h = tt
fit_items (node w k s) (h, hs) = (h, fit_items s hs)

fit_pairs : (part : Part) (N : Nodes) → Alternate (part_class part) (part_class (next_part part)) N → Fit part N
fit_pairs item bare h = tt
fit_pairs key bare h = tt
fit_pairs value bare h = tt
fit_pairs item (node w k s) (h, hs) = (h, fit_pairs item s hs)
fit_pairs key (node w k s) (h, hs) = (h, fit_pairs value s hs)
fit_pairs value (node w k s) (h, hs) = (h, fit_pairs key s hs)

-- what is below a pattern's child: nothing, unless it is a Table or List pattern
pub record Below (x y : Bool) (part : Part) (k : Nodes) : Type 0 where
  pub many : T (x && y) → Fit part k
  pub leaf : T (not (x && y)) → (T y → ⊥) × (width k ≡ 0)

pattern_below : (w : Words) (k : Nodes) → T (belongs Pattern w.kind) → T (is_function w || suits w (node_words k)) → Below true (is_nested w) (parts w) k
pattern_below w k t =
    pattern_cases (λ n. T (eqb n 30 || fits (expected_as n w) (node_words k)) → Below true (eqb n 37 || eqb n 38) (cond (eqb n 37) key item) k)
    (λ u. record { many = λ v. absurd v; leaf = λ v. (λ z. z, fits_none k u) }) (λ u. record { many = λ v. absurd v; leaf = λ v. (λ z. z, fits_none k u) })
    (λ u. record { many = λ v. fit_pairs key k (fits_pairs Lit Pattern k u); leaf = λ v. absurd v })
    (λ u. record { many = λ v. fit_items k (fits_any Pattern k u); leaf = λ v. absurd v }) w.kind t

part_below : (part : Part) (w : Words) (k : Nodes) → T (belongs (part_class part) w.kind) → T (is_function w || suits w (node_words k))
    → Below (is_pattern_part part) (is_nested w) (parts w) k
part_below item w k t u = pattern_below w k t u
part_below key w k t u =
    let e = eqb→eq w.kind 1 t in
    record {
      many = λ v. absurd v;
      leaf = λ v.
          (λ z. subst (λ n. T (eqb n 37 || eqb n 38)) e z, fits_none k (subst (λ n. T (eqb n 30 || fits (expected_as n w) (node_words k))) e u));
    }
part_below value w k t u = pattern_below w k t u

nesting_none : (k : Nodes) → width k ≡ 0 → nesting k ≡ 0
nesting_none bare e = refl
nesting_none (node w k s) e = absurd (omega arith)

grown_max : (d h : ℕ) → d < h → grown d h ≡ max h (suc (suc d))
grown_max d h g = go (ltb (suc d) h) refl
  where
    go : (b : Bool) → ltb (suc d) h ≡ b → cond b h (suc h) ≡ max h (suc (suc d))
    go true e = omega (arith, ltb→lt (suc d) h (subst T (sym e) tt))
    go false e = omega (arith, nltb→le (suc d) h (subst (λ b. T (not b)) (sym e) tt))

-- the labels taken so far are those of the deepest pattern met
labels_max : (N : Nodes) (part : Part) (d h : ℕ) → Fit part N → Formed N → d < h → labels_after part d h N ≡ max h (suc d + nesting N)
labels_max bare part d h f m g = omega arith
labels_max (node w k s) part d h (f, fs) (m, mk, ms) g =
    go (is_pattern_part part) (is_nested w) (part_below part w k f m) (λ x u. labels_max s (next_part part) d x fs ms u)
    (λ u. labels_max k (parts w) (suc d) (grown d h) u mk (omega (arith, grown_max d h g)))
  where
    deeper : ℕ
    deeper = labels_after (parts w) (suc d) (grown d h) k

    go : (x y : Bool) → Below x y (parts w) k → ((z : ℕ) → d < z → labels_after (next_part part) d z s ≡ max z (suc d + nesting s))
        → (Fit (parts w) k → deeper ≡ max (grown d h) (suc (suc d) + nesting k))
        → labels_after (next_part part) d (cond (x && y) deeper h) s ≡ max h (suc d + max (cond y (suc (nesting k)) (nesting k)) (nesting s))
    go true true b is ik = let e = ik (b.many tt) in omega (arith, is deeper (omega (arith, e, grown_max d h g)), e, grown_max d h g)
    go true false b is ik = omega (arith, is h g, nesting_none k (b.leaf tt).1)
    go false true b is ik = absurd ((b.leaf tt).0 tt)
    go false false b is ik = omega (arith, is h g, nesting_none k (b.leaf tt).1)

pattern_nesting : (w : Words) (k : Nodes) → T (belongs Pattern w.kind) → T (is_function w || suits w (node_words k)) → Formed k
    → pattern_labels w k ≡ suc (nesting (node w k bare))
pattern_nesting w k t m mk = omega (arith, labels_max (node w k bare) item 0 1 (t, tt) (m, mk, tt) (omega arith))

module _ (t : Lookup) (fn : Words) (r : ℕ) (w₀ : Words) (f : Forest) (ks : Role → ℕ → Seg) (body : Seg) where
  abbrev count : List Step → ℕ
  count is = seg_count t fn r w₀ f ks body is

  same_count : (b : Bool) (x y : List Step) (n : ℕ) → count x ≡ n → count y ≡ n → count (cond b x y) ≡ n
  same_count true x y n p q = p
  same_count false x y n p q = q

  taking_count : (d h : ℕ) (is : List Step) → count (taking d h is) + h ≡ grown d h + count is
  unfolding seg_count
  taking_count d h is = go (ltb (suc d) h)
    where
      go : (b : Bool) → count (cond b is (get_label ∷ is)) + h ≡ cond b h (suc h) + count is
      go true = omega arith
      go false = omega arith

  test_count : (l : ℕ) (at : ChildPath) (w : Words) (k : Nodes) (is : List Step) → count (table_test l at w k is) ≡ count is
  unfolding seg_count
  test_count l at w k is = same_count (eqb w.detail 1) is (length_test l at w k is) (count is) refl refl

  -- H: the labels after what is inside
  pattern_count : (m d h H : ℕ) (at : ChildPath) (w : Words) (k : Nodes) (inside : List Step → List Step) (is : List Step)
      → ((is : List Step) → count (inside is) + grown d h ≡ H + count is) → count (pattern_steps m d h at w k inside is) + h ≡ cond (is_nested w) H h + count is
  unfolding seg_count
  pattern_count m d h H at w k inside is ih = go (is_nested w)
    where
      many : List Step
      many = table_test (m + suc d) at w k (inside (push_op Pop 0 ∷ is))

      ident : List Step
      ident = jump JumpPopIfNull (m + d) ∷ access Set at ∷ is

      literal : List Step
      literal = push_const LoadConst at (lit w.detail w.p w.q) ∷ push_op Eq 0 ∷ jump PopJumpIfFalse (m + d) ∷ is

      go : (b : Bool) → count (cond b (taking d h many) (cond (is_kind 36 w) ident literal)) + h ≡ cond b H h + count is
      go true = omega (arith, taking_count d h many, test_count (m + suc d) at w k (inside (push_op Pop 0 ∷ is)), ih (push_op Pop 0 ∷ is))
      go false = omega (arith, same_count (is_kind 36 w) ident literal (count is) refl refl)

  lead_count : (part : Part) (at : ChildPath) (i : ℕ) (w : Words) (is : List Step) → count (lead part at i w is) ≡ count is
  unfolding seg_count
  lead_count item at i w is = refl
  lead_count key at i w is = refl
  lead_count value at i w is = refl

  inside_count : (m : ℕ) (N : Nodes) (part : Part) (d h : ℕ) (at : ChildPath) (i : ℕ) (is : List Step)
      → count (inside_steps part m d h at i N is) + h ≡ labels_after part d h N + count is
  inside_count m bare part d h at i is = omega arith
  inside_count m (node w k s) part d h at i is =
      omega (
        arith,
        lead_count part at i w (cond (is_pattern_part part) (here (is_pattern_part part)) (rest (is_pattern_part part))),
        go (is_pattern_part part) (λ x. inside_count m s (next_part part) d x at (suc i) is) (λ is. inside_count m k (parts w) (suc d) (grown d h) (at ++ (i ∷ [])) 0 is),
      )
    where
      H : ℕ
      H = labels_after (parts w) (suc d) (grown d h) k

      below : List Step → List Step
      below is = inside_steps (parts w) m (suc d) (grown d h) (at ++ (i ∷ [])) 0 k is

      rest : Bool → List Step
      rest b = inside_steps (next_part part) m d (cond (b && is_nested w) H h) at (suc i) s is

      here : Bool → List Step
      here b = pattern_steps m d h (at ++ (i ∷ [])) w k below (rest b)

      go : (b : Bool) → ((x : ℕ) → count (inside_steps (next_part part) m d x at (suc i) s is) + x ≡ labels_after (next_part part) d x s + count is)
          → ((is : List Step) → count (below is) + grown d h ≡ H + count is)
          → count (cond b (here b) (rest b)) + h ≡ labels_after (next_part part) d (cond (b && is_nested w) H h) s + count is
      go true beside ih = omega (arith, pattern_count m d h H (at ++ (i ∷ [])) w k below (rest true) ih, beside (cond (is_nested w) H h))
      go false beside ih = beside h

  cleanup_count : (h m : ℕ) (is : List Step) → count (cleanup m h is) ≡ count is
  unfolding seg_count
  cleanup_count zero m is = refl
  cleanup_count (suc zero) m is = refl
  cleanup_count (suc (suc h)) m is = cleanup_count (suc h) m is

  tests_count : (m i : ℕ) (at : ChildPath) (w : Words) (k : Nodes) (is : List Step) → count (test_steps m i at w k is) ≡ pattern_labels w k + count is
  unfolding seg_count
  tests_count m i at w k is =
      let H = pattern_labels w k in
      omega (
        arith,
        pattern_count m 0 1 (labels_after (parts w) 1 (grown 0 1) k) at w k (λ is. inside_steps (parts w) m 1 (grown 0 1) at 0 k is) (push_op Pop 0 ∷ jump Jump i ∷
            cleanup m H is)
            (λ is. inside_count m k (parts w) 1 (grown 0 1) at 0 is),
        cleanup_count H m is,
      )

  -- an expression is no pattern
  no_pattern : (n : ℕ) → T (belongs expression n) → T (belongs Pattern n) → ⊥
  no_pattern n t u = omega (arith, leb→le n 27 (and_r (leb 1 n) _ t), leb→le 35 n (and_l (leb 35 n) _ u))

  last_sum : (w : Words) (k s : Nodes) → (T (is_pattern w) → ⊥) → width s ≡ 0 → pattern_sum (node w k s) ≡ 0
  last_sum w k bare d e = go (is_pattern w) d
    where
      go : (b : Bool) → (T b → ⊥) → cond b (suc (nesting (node w k bare))) 0 + 0 ≡ 0
      go true d = absurd (d tt)
      go false d = refl
  last_sum w k (node w' k' s) d e = absurd (omega arith)

  first_sum : (w : Words) (k s : Nodes) → T (is_pattern w) → pattern_sum (node w k s) ≡ suc (nesting (node w k bare)) + pattern_sum s
  first_sum w k s t = go (is_pattern w) t
    where
      go : (b : Bool) → T b → cond b (suc (nesting (node w k bare))) 0 + pattern_sum s ≡ suc (nesting (node w k bare)) + pattern_sum s
      go true d = refl
      go false d = absurd d

  -- "33 Case: p patterns, expr"
  case_count : (N : Nodes) (m i j c n : ℕ) (is : List Step) → T (fits (times n Pattern ∷ one expression ∷ []) (node_words N)) → Formed N
      → count (case_tests m i j c n N is) ≡ pattern_sum N + count is
  unfolding fits
  case_count bare m i j c zero is u h = absurd u
  case_count bare m i j c (suc n) is u h = absurd u
  case_count (node w k s) m i j c zero is u h =
      let g = fits_one expression [] (node w k s) u in
      omega (arith, last_sum w k s (no_pattern w.kind g.is) (fits_none s g.rest))
  case_count (node w k s) m i j c (suc n) is u (a, hk, hs) =
      let b = belongs Pattern w.kind in
      let l = leads n Pattern (node_words s) in
      let e = fits (one expression ∷ []) (drop n (node_words s)) in
      let p : T (b && l) = and_l (b && l) e u in
      omega (
        arith,
        tests_count m i (j ∷ c ∷ []) w k (case_tests (m + pattern_labels w k) i j (suc c) n s is),
        pattern_nesting w k (and_l b l p) a hk,
        first_sum w k s (and_l b l p),
        case_count s (m + pattern_labels w k) i j (suc c) n is (both l e (and_r b l p) (and_r (b && l) e u)) hs,
      )
    where
      both : (x y : Bool) → T x → T y → T (x && y)
      both true y p q = q
      both false y p q = p

  -- "Cases": each has its own label besides
  pub cases_count : (s : Nodes) (m j : ℕ) (is : List Step) → AllKinds (belongs Case) s → Formed s → count (cases_tests m j s is) + width s ≡ case_sum s + count is
  cases_count bare m j is c h = omega arith
  cases_count (node w k s) m j is (c, cs) (a, hk, hs) =
      let e = eqb→eq w.kind 33 c in
      let u = subst (λ n. T (eqb n 30 || fits (expected_as n w) (node_words k))) e a in
      omega (
        arith,
        case_count k m j j 0 w.p (cases_tests (m + case_labels w.p k) (suc j) s is) u hk,
        cases_count s (m + case_labels w.p k) (suc j) is cs hs,
        go (is_kind 33 w) c,
      )
    where
      go : (b : Bool) → T b → cond b (suc (pattern_sum k)) 0 + case_sum s ≡ suc (pattern_sum k) + case_sum s
      go true t = refl
      go false t = absurd t
