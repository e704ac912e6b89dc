-- The parts of variable length pass the test where the steps that follow them do. Assumes nothing.
use mathlib.Core.Path.{◌≡◌, refl, sym, ap, subst}
use mathlib.Core.Bool.{Bool, true, false, cond, ◌&&◌, ◌||◌}
use mathlib.Core.List.{List, [], ◌∷◌, ◌++◌}
use Prim.Native.Nat.{ℕ, zero, suc, ◌+◌, ◌≤◌, ◌<◌}
use native.Mathlib.Omega.{arith}
use native.Mathlib.Decide.{ℕ_discrete}
use lib.Dec.{T, eqb, eqb→eq, eqb_refl, ltb, ltb→lt}
use Rattle.tables.specs.Record.{Words, is_kind}
use Rattle.tables.specs.Forest.{Nodes, bare, node}
use Rattle.pool.specs.Value.{lit}
use Rattle.rules.specs.Marker.{Code, Pop, Swap, Eq, Jump, PopJumpIfFalse, JumpPopIfNull, LoadConst}
use Rattle.rules.specs.Step.{Role, Expr, Set, Step, push_op, push_const, get_label, place, jump, access, null, visits, visits_down, stores_down, get_labels, push_ops, width}
use Rattle.rules.specs.Arms.{block_from, block_steps, property, arguments, handlers, registers, bodies, call_with, call_steps, unpacked}
use Rattle.rules.specs.Patterns.{
  Part,
  item,
  key,
  value,
  parts,
  next_part,
  is_pattern_part,
  is_nested,
  grown,
  taking,
  labels_after,
  lead,
  length_test,
  table_test,
  pattern_steps,
  inside_steps,
  cleanup,
  pattern_labels,
  test_steps,
  case_tests,
  case_labels,
  cases_tests,
  match_cases,
  match_steps,
}
use Rattle.rules.proofs.Check.{has, del, outside, chk, ok, begun}

pub both : (a b : Bool) → T a → T b → T (a && b)
both true b p q = q
both false b p q = p

pub or_right : (a b : Bool) → T b → T (a || b)
or_right true b p = tt
or_right false b p = p

pub or_left : (a b : Bool) → T a → T (a || b)
or_left true b p = tt
or_left false b p = absurd p

pub either_way : (P : List Step → Type 0) (b : Bool) (x y : List Step) → P x → P y → P (cond b x y)
either_way P true x y p q = p
either_way P false x y p q = q

abbrev pub Pass : Bool → List Step → Type 0
Pass a is = T (ok a begun is)

-- no loop open, and the steps that follow pass whatever is free
abbrev pub On : ℕ → List ℕ → List ℕ → List Step → Type 0
On n pend done is = (free : List ℕ) → T (ok false (chk n pend done free outside) is)

module _ (n : ℕ) (pend done : List ℕ) where
  pub visits_ok : (a : Role) (j m : ℕ) (is : List Step) → On n pend done is → On n pend done (visits a j m is)
  unfolding ok
  visits_ok a j zero is t = t
  visits_ok a j (suc m) is t = visits_ok a (suc j) m is t

  pub visits_down_ok : (a : Role) (m : ℕ) (is : List Step) → On n pend done is → On n pend done (visits_down a m is)
  unfolding ok
  visits_down_ok a zero is t = t
  visits_down_ok a (suc m) is t = visits_down_ok a m is t

  pub stores_down_ok : (m : ℕ) (is : List Step) → On n pend done is → On n pend done (stores_down m is)
  unfolding ok
  stores_down_ok zero is t = t
  stores_down_ok (suc m) is t = stores_down_ok m is t

  pub says_ok : (m : ℕ) (c : Code) (x : ℕ) (is : List Step) → On n pend done is → On n pend done (push_ops m c x is)
  unfolding ok
  says_ok zero c x is t = t
  says_ok (suc m) c x is t = says_ok m c x is t

  pub unpacked_ok : (i m : ℕ) (is : List Step) → On n pend done is → On n pend done (unpacked i m is)
  unfolding ok
  unpacked_ok i zero is t = t
  unpacked_ok i (suc m) is t = unpacked_ok (suc i) m is t

  pub property_ok : (m : ℕ) (k : Nodes) (is : List Step) → On n pend done is → On n pend done (property m k is)
  unfolding ok
  property_ok m k is t = either_way (On n pend done) (eqb m 0) _ _ t (either_way (On n pend done) (ltb m 3) _ _ t t)

pub block_ok : (j : ℕ) (k : Nodes) → Pass false (block_from j k)
unfolding ok
block_ok j bare = tt
block_ok j (node w k s) = block_ok (suc j) s

pub blocks_ok : (w : Words) (k : Nodes) → Pass false (block_steps w k)
unfolding ok
blocks_ok w bare = tt
blocks_ok w (node w' k s) = block_ok 0 s

-- labels i, i + 1, .. of which n are still to be placed, the last taken first
unfoldable from_to : ℕ → ℕ → List ℕ → List ℕ
from_to i zero p = p
from_to i (suc n) p = from_to (suc i) n (i ∷ p)

has_to : (i a n : ℕ) (p : List ℕ) → T (has i p) → T (has i (from_to a n p))
unfolding from_to
has_to i a zero p t = t
has_to i a (suc n) p t = has_to i (suc a) n (a ∷ p) (or_right (eqb i a) (has i p) t)

apart : (i a : ℕ) → i < a → T (eqb i a) → ⊥
apart i a h t = omega (arith, eqb→eq i a t)

abbrev Lacks : ℕ → List ℕ → Type 0
Lacks i [] = Unit {0}
Lacks i (j ∷ js) = (i < j) × Lacks i js

del_here : (i : ℕ) (xs p : List ℕ) → Lacks i xs → del i (xs ++ (i ∷ p)) ≡ xs ++ p
del_here i [] p h = go (eqb i i) (eqb_refl i)
  where
    go : (b : Bool) → T b → cond b p (i ∷ del i p) ≡ p
    go true t = refl
    go false t = absurd t
del_here i (x ∷ xs) p (h, hs) = go (eqb i x) (apart i x h) (del_here i xs p hs)
  where
    go : (b : Bool) → (T b → ⊥) → del i (xs ++ (i ∷ p)) ≡ xs ++ p → cond b (xs ++ (i ∷ p)) (x ∷ del i (xs ++ (i ∷ p))) ≡ x ∷ (xs ++ p)
    go true f ih = absurd (f tt)
    go false f ih = ap (λ z. x ∷ z) ih

del_to : (i a n : ℕ) (xs p : List ℕ) → i < a → Lacks i xs → del i (from_to a n (xs ++ (i ∷ p))) ≡ from_to a n (xs ++ p)
unfolding from_to
del_to i a zero xs p h l = del_here i xs p l
del_to i a (suc n) xs p h l = del_to i (suc a) n (a ∷ xs) p (omega arith) (h, l)

has_in : (i a n : ℕ) (p : List ℕ) → a ≤ i → i < a + n → T (has i (from_to a n p))
unfolding from_to
has_in i a zero p h g = absurd (omega arith)
has_in i a (suc n) p h g = go (ℕ_discrete a i) (λ u v. has_in i (suc a) n (a ∷ p) u v)
  where
    go : Dec (a ≡ i) → (suc a ≤ i → i < suc a + n → T (has i (from_to (suc a) n (a ∷ p)))) → T (has i (from_to (suc a) n (a ∷ p)))
    go (yes e) ih = has_to i (suc a) n (a ∷ p) (or_left (eqb i a) (has i p) (rw e (eqb_refl i)))
    go (no d) ih = ih (omega arith) (omega arith)

to_end : (a n : ℕ) (p : List ℕ) → from_to a (suc n) p ≡ (a + n) ∷ from_to a n p
unfolding from_to
to_end a zero p = let e : a + 0 ≡ a = omega arith in rw e
to_end a (suc n) p = let e : a + suc n ≡ suc a + n = omega arith in rw e (to_end (suc a) n (a ∷ p))

registers_ok : (i j n : ℕ) (pend done : List ℕ) (is : List Step) → On (i + n) (from_to i n pend) done is → On i pend done (registers i j n is)
unfolding ok from_to
registers_ok i j zero pend done is t free = let e : i + 0 ≡ i = omega arith in rw e at (t free)
registers_ok i j (suc n) pend done is t free =
    let e : i + suc n ≡ suc i + n = omega arith in
    both (has i (i ∷ pend)) _ (or_left (eqb i i) (has i pend) (eqb_refl i)) (registers_ok (suc i) (suc j) n (i ∷ pend) done is (rw e at t) (i ∷ free))

takes_ok : (i n : ℕ) (pend done : List ℕ) (is : List Step) → On (i + n) (from_to i n pend) done is → On i pend done (get_labels n is)
unfolding ok from_to
takes_ok i zero pend done is t free = let e : i + 0 ≡ i = omega arith in rw e at (t free)
takes_ok i (suc n) pend done is t free = let e : i + suc n ≡ suc i + n = omega arith in takes_ok (suc i) n (i ∷ pend) done is (rw e at t) (i ∷ free)

bodies_ok : (i j n m : ℕ) (done : List ℕ) (is : List Step) → 0 < i → ((done : List ℕ) → On m (0 ∷ []) done is) → On m (from_to i n (0 ∷ [])) done (bodies i j n is)
unfolding ok from_to
bodies_ok i j zero m done is h t free = t done free
bodies_ok i j (suc n) m done is h t free =
    both (has i (from_to (suc i) n (i ∷ 0 ∷ []))) _ (has_to i (suc i) n (i ∷ 0 ∷ []) (or_left (eqb i i) _ (eqb_refl i)))
    (rw (del_to i (suc i) n [] (0 ∷ []) (omega arith) tt)
    (both (has 0 (from_to (suc i) n (0 ∷ []))) _ (has_to 0 (suc i) n (0 ∷ []) tt) (bodies_ok (suc i) (suc j) n m (i ∷ done) is (omega arith) t free)))

pub calls_ok : (c : Code) (n a h : ℕ) → Pass false (call_with c n a h)
unfolding ok
calls_ok c n a zero = visits_ok 0 [] [] Expr 1 a _ (λ free. tt) []
calls_ok c n a (suc h) =
    visits_ok 0 [] [] Expr 1 a _
    (λ free.
    registers_ok 1 (suc a) (suc h) (0 ∷ []) [] _
    (λ free. both (has 0 (from_to 1 (suc h) (0 ∷ []))) _ (has_to 0 1 (suc h) (0 ∷ []) tt)
    (bodies_ok 1 (suc a) (suc h) (1 + suc h) [] (place 0 ∷ []) (omega arith) (λ done free. tt) free)) (0 ∷ free)) []

pub call_ok : (c : Code) (w : Words) (k : Nodes) → Pass false (call_steps c w k)
call_ok c w bare = calls_ok c 0 0 0
call_ok c w (node w' k s) = calls_ok c _ (arguments s) (handlers s)

-- patterns: labels m .. m + h - 1 are the pattern's, and the depth d is below h
grown_at : (d h : ℕ) → d < h → suc d < grown d h
grown_at d h g = go (ltb (suc d) h) refl
  where
    go : (b : Bool) → ltb (suc d) h ≡ b → suc d < cond b h (suc h)
    go true e = ltb→lt (suc d) h (subst T (sym e) tt)
    go false e = omega arith

grown_more : (d h : ℕ) → h ≤ grown d h
grown_more d h = go (ltb (suc d) h)
  where
    go : (b : Bool) → h ≤ cond b h (suc h)
    go true = omega arith
    go false = omega arith

either_le : (b : Bool) (h x y : ℕ) → h ≤ x → h ≤ y → h ≤ cond b x y
either_le true h x y p q = p
either_le false h x y p q = q

pub labels_more : (f : Nodes) (part : Part) (d h : ℕ) → h ≤ labels_after part d h f
labels_more bare part d h = omega arith
labels_more (node w k s) part d h =
    let x = labels_after (parts w) (suc d) (grown d h) k in
    let b = is_pattern_part part && is_nested w in
    omega (
      arith,
      either_le b h x h (omega (arith, grown_more d h, labels_more k (parts w) (suc d) (grown d h))) (omega arith),
      labels_more s (next_part part) d (cond b x h),
    )

module _ (m : ℕ) (rest done : List ℕ) where
  -- the labels of one pattern are to be placed, h of them
  abbrev At : ℕ → List Step → Type 0
  At h is = On (m + h) (from_to m h rest) done is

  -- the label for depth d + 1 is there, or is taken now
  taking_ok : (d h : ℕ) (is : List Step) → At (grown d h) is → At h (taking d h is)
  unfolding ok
  taking_ok d h is = go (ltb (suc d) h)
    where
      go : (b : Bool) → At (cond b h (suc h)) is → At h (cond b is (get_label ∷ is))
      go true t free = t free
      go false t free = let e : m + suc h ≡ suc (m + h) = omega arith in rw (e, to_end m h rest) at (t ((m + h) ∷ free))

  jump_ok : (l h : ℕ) → l < h → (is : List Step) → At h is → (free : List ℕ) → T (has (m + l) (from_to m h rest) && ok false (chk (m + h) (from_to m h rest) done free
      outside) is)
  jump_ok l h g is t free = both (has (m + l) (from_to m h rest)) _ (has_in (m + l) m h rest (omega arith) (omega arith)) (t free)

  test_ok : (l h : ℕ) → l < h → (at : List ℕ) (w : Words) (k : Nodes) (is : List Step) → At h is → At h (table_test (m + l) at w k is)
  unfolding ok
  test_ok l h g at w k is t =
      let long = length_test (m + l) at w k is in
      jump_ok l h g (cond (eqb w.detail 1) is long) (either_way (At h) (eqb w.detail 1) is long t (jump_ok l h g is t))

  pattern_ok : (d h g : ℕ) (at : List ℕ) (w : Words) (k : Nodes) (inside : List Step → List Step) (is : List Step) → d < h
      → ((is : List Step) → At g is → At (grown d h) (inside is)) → At (cond (is_nested w) g h) is → At h (pattern_steps m d h at w k inside is)
  unfolding ok
  pattern_ok d h g at w k inside is u ih t = go (is_nested w) t
    where
      many : List Step
      many = taking d h (table_test (m + suc d) at w k (inside (push_op Pop 0 ∷ is)))

      ident : List Step
      ident = jump JumpPopIfNull (m + d) ∷ access Set at ∷ is

      literal : List Step
      literal = push_const LoadConst at (lit w.detail w.p w.q) ∷ push_op Eq 0 ∷ jump PopJumpIfFalse (m + d) ∷ is

      go : (b : Bool) → At (cond b g h) is → At h (cond b many (cond (is_kind 36 w) ident literal))
      go true t = taking_ok d h (table_test (m + suc d) at w k (inside (push_op Pop 0 ∷ is)))
          (test_ok (suc d) (grown d h) (grown_at d h u) at w k (inside (push_op Pop 0 ∷ is)) (ih (push_op Pop 0 ∷ is) t))
      go false t = either_way (At h) (is_kind 36 w) ident literal (jump_ok d h u (access Set at ∷ is) t) (jump_ok d h u is t)

  lead_ok : (part : Part) (at : List ℕ) (i h : ℕ) (w : Words) (is : List Step) → At h is → At h (lead part at i w is)
  unfolding ok
  lead_ok item at i h w is t = t
  lead_ok key at i h w is t = t
  lead_ok value at i h w is t = t

  -- a child that is a pattern, or a key
  child_ok : (b : Bool) (d h g : ℕ) (at : List ℕ) (w : Words) (k : Nodes) (inside : List Step → List Step) (rest : List Step) → d < h
      → ((is : List Step) → At g is → At (grown d h) (inside is)) → At (cond (b && is_nested w) g h) rest → At h (cond b (pattern_steps m d h at w k inside rest) rest)
  child_ok true d h g at w k inside rest u ih t = pattern_ok d h g at w k inside rest u ih t
  child_ok false d h g at w k inside rest u ih t = t

  inside_ok : (f : Nodes) (part : Part) (d h : ℕ) (at : List ℕ) (i : ℕ) (is : List Step) → d < h → At (labels_after part d h f) is → At h (inside_steps part m d h at i f is)
  inside_ok bare part d h at i is u t = t
  inside_ok (node w k s) part d h at i is u t =
      let g = labels_after (parts w) (suc d) (grown d h) k in
      let b = is_pattern_part part in
      lead_ok part at i h w _
      (child_ok b d h g (at ++ (i ∷ [])) w k _ _ u (λ is t. inside_ok k (parts w) (suc d) (grown d h) (at ++ (i ∷ [])) 0 is (grown_at d h u) t)
      (inside_ok s (next_part part) d (cond (b && is_nested w) g h) at (suc i) is
      (omega (arith, either_le (b && is_nested w) h g h (omega (arith, grown_more d h, labels_more k (parts w) (suc d) (grown d h))) (omega arith))) t))

-- the labels are placed from the last taken to the first
cleanup_ok : (h m n : ℕ) (rest done : List ℕ) (is : List Step) → ((done : List ℕ) → On n rest done is) → On n (from_to m h rest) done (cleanup m h is)
unfolding ok from_to
cleanup_ok zero m n rest done is t free = t done free
cleanup_ok (suc zero) m n rest done is t free = both (has m (m ∷ rest)) _ (or_left (eqb m m) _ (eqb_refl m)) (rw (del_here m [] rest tt) (t (m ∷ done) free))
cleanup_ok (suc (suc h)) m n rest done is t free =
    rw (to_end m (suc h) rest)
    (both (has (m + suc h) ((m + suc h) ∷ from_to m (suc h) rest)) _ (or_left (eqb (m + suc h) (m + suc h)) _ (eqb_refl (m + suc h)))
    (rw (del_here (m + suc h) [] (from_to m (suc h) rest) tt) (cleanup_ok (suc h) m n rest ((m + suc h) ∷ done) is t free)))

-- one pattern of a Case, whose label i is to be placed
tests_ok : (m i : ℕ) (at : List ℕ) (w : Words) (k : Nodes) (rest done : List ℕ) (is : List Step) → T (has i rest) → ((done : List ℕ) → On (m + pattern_labels w k) rest done is)
    → On m rest done (test_steps m i at w k is)
unfolding ok from_to
tests_ok m i at w k rest done is u t free =
    let H = pattern_labels w k in
    let e : m + 1 ≡ suc m = omega arith in
    let more = push_op Pop 0 ∷ jump Jump i ∷ cleanup m H is in
    let inside : List Step → List Step = λ is. inside_steps (parts w) m 1 (grown 0 1) at 0 k is in
    subst (λ z. T (ok false (chk z (m ∷ rest) done (m ∷ free) outside) (pattern_steps m 0 1 at w k inside more))) e
    (pattern_ok m rest done 0 1 (labels_after (parts w) 1 (grown 0 1) k) at w k inside more (omega arith)
    (λ is t. inside_ok m rest done k (parts w) 1 (grown 0 1) at 0 is (grown_at 0 1 (omega arith)) t)
    (λ free. both (has i (from_to m H rest)) _ (has_to i m H rest u) (cleanup_ok H m (m + H) rest done is t free)) (m ∷ free))

case_tests_ok : (k : Nodes) (m i j c n : ℕ) (rest done : List ℕ) (is : List Step) → T (has i rest) → ((done : List ℕ) → On (m + case_labels n k) rest done is)
    → On m rest done (case_tests m i j c n k is)
case_tests_ok bare m i j c n rest done is u t = let e : m + 0 ≡ m = omega arith in rw e at (t done)
case_tests_ok (node w k s) m i j c zero rest done is u t = let e : m + 0 ≡ m = omega arith in rw e at (t done)
case_tests_ok (node w k s) m i j c (suc n) rest done is u t =
    let H = pattern_labels w k in
    let e : m + (H + case_labels n s) ≡ m + H + case_labels n s = omega arith in
    tests_ok m i (j ∷ c ∷ []) w k rest done _ u (λ done. case_tests_ok s (m + H) i j (suc c) n rest done is u (λ done. rw e at (t done)))

cases_tests_ok : (s : Nodes) (m j v : ℕ) (done : List ℕ) (is : List Step) → 1 ≤ j → j + width s ≤ suc v
    → ((n : ℕ) (done : List ℕ) → On n (from_to 1 v (0 ∷ [])) done is) → On m (from_to 1 v (0 ∷ [])) done (cases_tests m j s is)
cases_tests_ok bare m j v done is u h t = t m done
cases_tests_ok (node w k s) m j v done is u h t =
    case_tests_ok k m j j 0 w.p (from_to 1 v (0 ∷ [])) done _ (has_in j 1 v (0 ∷ []) u (omega arith))
    (λ done. cases_tests_ok s (m + case_labels w.p k) (suc j) v done is (omega arith) (omega arith) t)

match_ok : (s : Nodes) → Pass false (match_cases s)
unfolding ok
match_ok s =
    let e : suc (width s) ≡ 1 + width s = omega arith in
    let more = null ∷ jump Jump 0 ∷ bodies 1 1 (width s) (place 0 ∷ push_op Swap 2 ∷ push_op Pop 0 ∷ []) in
    takes_ok 1 (width s) (0 ∷ []) [] (cases_tests (suc (width s)) 1 s more)
    (subst (λ z. On z (from_to 1 (width s) (0 ∷ [])) [] (cases_tests (suc (width s)) 1 s more)) e
    (cases_tests_ok s (suc (width s)) 1 (width s) [] more (omega arith) (omega arith)
    (λ n done free. both (has 0 (from_to 1 (width s) (0 ∷ []))) _ (has_to 0 1 (width s) (0 ∷ []) tt)
    (bodies_ok 1 1 (width s) n done (place 0 ∷ push_op Swap 2 ∷ push_op Pop 0 ∷ []) (omega arith) (λ done free. tt) free)))) (0 ∷ [])

pub matches_ok : (w : Words) (k : Nodes) → Pass false (match_steps w k)
unfolding ok
matches_ok w bare = tt
matches_ok w (node w' k s) = match_ok s
