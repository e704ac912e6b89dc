-- Functions in visiting order as lists: what they weigh, and where the list of one record lies in a longer one. Assumes nothing.
use mathlib.Core.Path.{◌≡◌, refl, sym, ap, ◌∙◌}
use mathlib.Core.Bool.{Bool, true, false, cond}
use mathlib.Core.List.{List, [], ◌∷◌, ◌++◌, append_assoc}
use Prim.Native.Nat.{ℕ, suc, ◌+◌, ◌≤◌}
use native.Mathlib.Omega.{arith}
use lib.ListN.{length, length-append}
use Rattle.tables.specs.declared.numbering.Manner.{Manner}
use Rattle.tables.specs.declared.numbering.Manner.TheVariants.{Stored, RightFirst, RightThenBack}
use Rattle.tables.specs.Record.{Words, is_function}
use Rattle.tables.specs.Forest.{Forest, none, tree, count}
use Rattle.tables.specs.Naming.{one}
use Rattle.tables.specs.Numbering.{is_left, manner, stored, rights, lefts, back, Visit, in_order, inside, entered, within, visited}
use Rattle.tables.specs.Counting.{own, tally, tally_left}
use Rattle.tables.proofs.TreeLaws.{over, occurs}

-- the sum of a weight over the functions of a list
unfoldable pub weigh : (ℕ → ℕ) → List Visit → ℕ
weigh u [] = 0
weigh u (v ∷ vs) = u v.met + weigh u vs

pub weigh_append : (u : ℕ → ℕ) (xs ys : List Visit) → weigh u (xs ++ ys) ≡ weigh u xs + weigh u ys
unfolding weigh
weigh_append u [] ys = omega arith
weigh_append u (x ∷ xs) ys = omega (arith, weigh_append u xs ys)

weigh_length : (xs : List Visit) → weigh (λ x. 1) xs ≡ length xs
unfolding weigh
weigh_length [] = refl
weigh_length (x ∷ xs) = omega (arith, weigh_length xs)

-- the same over the Functions of a forest, and over those in its Lefts
unfoldable pub part : (ℕ → ℕ) → Forest → ℕ
part u none = 0
part u (tree r w k s) = cond (is_function w) (u r) 0 + part u k + part u s

unfoldable left_part : (ℕ → ℕ) → Forest → ℕ
left_part u none = 0
left_part u (tree r w k s) = cond (is_left w) (cond (is_function w) (u r) 0 + part u k) 0 + left_part u s

record Weights (u : ℕ → ℕ) (e : ℕ) (f : Forest) : Type 0 where
  pub whole : weigh u (visited stored e f) ≡ part u f
  pub apart : weigh u (visited rights e f) + left_part u f ≡ part u f
  pub left : weigh u (visited lefts e f) ≡ left_part u f
  pub backward : weigh u (visited back e f) ≡ left_part u f

weigh_entered : (u : ℕ → ℕ) (e r n : ℕ) (w : Words) (vs : List Visit) → weigh u vs ≡ n → weigh u (entered e r w vs) ≡ cond (is_function w) (u r) 0 + n
unfolding weigh
weigh_entered u e r n w vs h = go (is_function w)
  where
    go : (b : Bool) → weigh u (cond b (record { met = r; around = e } ∷ vs) vs) ≡ cond b (u r) 0 + n
    go true = omega arith
    go false = omega arith

weigh_inside : (u : ℕ → ℕ) (e : ℕ) (f : Forest) → Weights u e f → (m : Manner) → weigh u (inside m (λ i. visited i e f)) ≡ part u f
weigh_inside u e f h Stored = h.whole
weigh_inside u e f h RightFirst = omega (arith, weigh_append u (visited rights e f) (visited lefts e f), h.apart, h.left)
weigh_inside u e f h RightThenBack = omega (arith, weigh_append u (visited rights e f) (visited back e f), h.apart, h.backward)

module _ (u : ℕ → ℕ) (xs ys : List Visit) where
  weigh_rights : (b : Bool) → weigh u (in_order rights b xs ys) ≡ cond b 0 (weigh u xs) + weigh u ys
  weigh_rights true = omega arith
  weigh_rights false = weigh_append u xs ys

  weigh_lefts : (b : Bool) → weigh u (in_order lefts b xs ys) ≡ cond b (weigh u xs) 0 + weigh u ys
  weigh_lefts true = weigh_append u xs ys
  weigh_lefts false = omega arith

  weigh_back : (b : Bool) → weigh u (in_order back b xs ys) ≡ cond b (weigh u xs) 0 + weigh u ys
  weigh_back true = omega (arith, weigh_append u ys xs)
  weigh_back false = omega arith

pub either_side : (b : Bool) (n : ℕ) → cond b 0 n + cond b n 0 ≡ n
either_side true n = omega arith
either_side false n = omega arith

-- a record's own list
abbrev pub node : ℕ → ℕ → Words → Forest → List Visit
node e r w k = entered e r w (inside (manner w.kind) (λ i. visited i (within e r w) k))

weights : (u : ℕ → ℕ) (f : Forest) (e : ℕ) → Weights u e f
unfolding visited part left_part weigh
weights u none e = record { whole = refl; apart = refl; left = refl; backward = refl }
weights u (tree r w k s) e = go (weigh_entered u e r (part u k) w _ (weigh_inside u (within e r w) k (weights u k (within e r w)) (manner w.kind))) (weights u s e)
  where
    go : weigh u (node e r w k) ≡ cond (is_function w) (u r) 0 + part u k → Weights u e s → Weights u e (tree r w k s)
    go p h =
        record {
          whole = omega (arith, weigh_append u (node e r w k) (visited stored e s), h.whole);
          apart =
              omega (
                arith,
                weigh_rights u (node e r w k) (visited rights e s) (is_left w),
                h.apart,
                either_side (is_left w) (cond (is_function w) (u r) 0 + part u k),
                ap (λ z. cond (is_left w) 0 z) p,
              );
          left = omega (arith, weigh_lefts u (node e r w k) (visited lefts e s) (is_left w), h.left, ap (λ z. cond (is_left w) z 0) p);
          backward = omega (arith, weigh_back u (node e r w k) (visited back e s) (is_left w), h.backward, ap (λ z. cond (is_left w) z 0) p);
        }

-- what the functions of a forest weigh does not depend on the order
pub weigh_visited : (u : ℕ → ℕ) (f : Forest) (e : ℕ) → weigh u (visited stored e f) ≡ part u f
weigh_visited u f e = (weights u f e).whole

-- each record at most once for each time it stands in the forest
pub part_occurs : (x : ℕ) (f : Forest) → part (λ y. one x y) f ≤ occurs x f
unfolding part over
part_occurs x none = omega arith
part_occurs x (tree r w k s) = go (is_function w) (part_occurs x k) (part_occurs x s)
  where
    go : (b : Bool) → part (λ y. one x y) k ≤ occurs x k → part (λ y. one x y) s ≤ occurs x s
        → cond b (one x r) 0 + part (λ y. one x y) k + part (λ y. one x y) s ≤ one x r + (occurs x k + occurs x s)
    go true p q = omega arith
    go false p q = omega arith

tally_part : (f : Forest) → tally f ≡ part (λ x. 1) f
unfolding tally part
tally_part none = refl
tally_part (tree r w k s) = omega (arith, tally_part k, tally_part s)

left_tally_part : (f : Forest) → tally_left f ≡ left_part (λ x. 1) f
unfolding tally_left left_part
left_tally_part none = refl
left_tally_part (tree r w k s) = go (is_left w) (tally_part k) (left_tally_part s)
  where
    go : (b : Bool) → tally k ≡ part (λ x. 1) k → tally_left s ≡ left_part (λ x. 1) s
        → cond b (own w + tally k) 0 + tally_left s ≡ cond b (cond (is_function w) 1 0 + part (λ x. 1) k) 0 + left_part (λ x. 1) s
    go true p q = omega arith
    go false p q = omega arith

pub tally_count : (f : Forest) → tally f ≤ count f
unfolding tally
tally_count none = omega arith
tally_count (tree r w k s) = go (is_function w) (tally_count k) (tally_count s)
  where
    go : (b : Bool) → tally k ≤ count k → tally s ≤ count s → cond b 1 0 + tally k + tally s ≤ suc (count k + count s)
    go true p q = omega arith
    go false p q = omega arith

-- the lengths of the lists
pub record Lengths (e : ℕ) (f : Forest) : Type 0 where
  pub whole : length (visited stored e f) ≡ tally f
  pub apart : length (visited rights e f) + tally_left f ≡ tally f
  pub left : length (visited lefts e f) ≡ tally_left f
  pub backward : length (visited back e f) ≡ tally_left f

pub lengths : (f : Forest) (e : ℕ) → Lengths e f
lengths f e =
    let h = weights (λ x. 1) f e in
    record {
      whole = omega (arith, weigh_length (visited stored e f), h.whole, tally_part f);
      apart = omega (arith, weigh_length (visited rights e f), h.apart, tally_part f, left_tally_part f);
      left = omega (arith, weigh_length (visited lefts e f), h.left, left_tally_part f);
      backward = omega (arith, weigh_length (visited back e f), h.backward, left_tally_part f);
    }

pub node_length : (e r : ℕ) (w : Words) (k : Forest) → length (node e r w k) ≡ own w + tally k
node_length e r w k =
    omega (
      arith,
      weigh_length (node e r w k),
      weigh_entered (λ x. 1) e r (part (λ x. 1) k) w _ (weigh_inside (λ x. 1) (within e r w) k (weights (λ x. 1) k (within e r w)) (manner w.kind)),
      tally_part k,
    )

pub inside_length : (e : ℕ) (k : Forest) (m : Manner) → length (inside m (λ i. visited i e k)) ≡ tally k
inside_length e k m = omega (arith, weigh_length (inside m (λ i. visited i e k)), weigh_inside (λ x. 1) e k (weights (λ x. 1) k e) m, tally_part k)

-- a list lies in F after m entries
pub record Spot (F : List Visit) (m : ℕ) (xs : List Visit) : Type 0 where
  pub pre : List Visit
  pub post : List Visit
  pub here : F ≡ pre ++ (xs ++ post)
  pub far : length pre ≡ m

module _ (F : List Visit) where
  pub spot_at : (m n : ℕ) (xs : List Visit) → m ≡ n → Spot F m xs → Spot F n xs
  spot_at m n xs e s = record { pre = s.pre; post = s.post; here = s.here; far = s.far ∙ e }

  pub spot_left : (m : ℕ) (xs ys : List Visit) → Spot F m (xs ++ ys) → Spot F m xs
  spot_left m xs ys s = record { pre = s.pre; post = ys ++ s.post; here = s.here ∙ ap (λ z. s.pre ++ z) (append_assoc xs ys s.post); far = s.far }

  pub spot_right : (m n : ℕ) (xs ys : List Visit) → n ≡ m + length xs → Spot F m (xs ++ ys) → Spot F n ys
  spot_right m n xs ys e s =
      record {
        pre = s.pre ++ xs;
        post = s.post;
        here = s.here ∙ ap (λ z. s.pre ++ z) (append_assoc xs ys s.post) ∙ sym (append_assoc s.pre xs (ys ++ s.post));
        far = length-append s.pre xs ∙ omega (arith, s.far);
      }

  pub spot_fit : (m : ℕ) (xs : List Visit) → Spot F m xs → m + length xs ≤ length F
  spot_fit m xs s = omega (arith, ap length s.here, length-append s.pre (xs ++ s.post), length-append xs s.post, s.far)
