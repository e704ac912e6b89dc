-- Where the functions of a record's children lie in visiting order, child by child. Assumes nothing.
use mathlib.Core.Path.{◌≡◌}
use mathlib.Core.Bool.{Bool, true, false, cond}
use mathlib.Core.List.{List, ◌++◌}
use Prim.Native.Nat.{ℕ, ◌+◌, ◌-◌, ◌≤◌}
use native.Mathlib.Omega.{arith}
use lib.ListN.{length}
use Rattle.tables.specs.declared.numbering.Manner.{Manner}
use Rattle.tables.specs.declared.numbering.Manner.TheVariants.{Stored, RightFirst, RightThenBack}
use Rattle.tables.specs.Record.{Words}
use Rattle.tables.specs.Forest.{Forest, tree}
use Rattle.tables.specs.Numbering.{is_left, stored, rights, lefts, back, Visit, in_order, inside, visited}
use Rattle.tables.specs.Counting.{own, tally, tally_left, shift}
use Rattle.tables.proofs.VisitLaws.{node, node_length, lengths, either_side, Spot, spot_at, spot_left, spot_right}

module _ (F : List Visit) (b t l : ℕ) where
  -- the lists still to come from sibling g on, where all children have t functions, l of them in Lefts, and begin at b
  abbrev pub Spots : Manner → ℕ → Forest → Type 0
  Spots Stored e g = Spot F (b + (t - tally g)) (visited stored e g)
  Spots RightFirst e g = Spot F (b + ((t - l) - (tally g - tally_left g))) (visited rights e g) × Spot F (b + ((t - l) + (l - tally_left g))) (visited lefts e g)
  Spots RightThenBack e g = Spot F (b + ((t - l) - (tally g - tally_left g))) (visited rights e g) × Spot F (b + (t - l)) (visited back e g)

  -- siblings have no more functions than all children
  pub record Less (g : Forest) : Type 0 where
    pub in_left : tally_left g ≤ l
    pub in_right : tally g - tally_left g ≤ t - l
    pub own_left : tally_left g ≤ tally g
    pub all_left : l ≤ t

  pub less_next : (r : ℕ) (w : Words) (k s : Forest) → Less (tree r w k s) → Less s
  unfolding tally tally_left
  less_next r w k s h =
      let x = either_side (is_left w) (own w + tally k) in
      let n = lengths s 0 in
      record {
        in_left = omega (arith, h.in_left);
        in_right = omega (arith, x, h.in_right, n.apart);
        own_left = omega (arith, n.apart);
        all_left = h.all_left;
      }

  module _ (xs ys : List Visit) where
    rights_step : (c : Bool) (m n x : ℕ) → length xs ≡ x → n ≡ m + cond c 0 x → Spot F m (in_order rights c xs ys) → Spot F n ys
    rights_step true m n x e p s = spot_at F m n ys (omega arith) s
    rights_step false m n x e p s = spot_right F m n xs ys (omega arith) s

    lefts_step : (c : Bool) (m n x : ℕ) → length xs ≡ x → n ≡ m + cond c x 0 → Spot F m (in_order lefts c xs ys) → Spot F n ys
    lefts_step true m n x e p s = spot_right F m n xs ys (omega arith) s
    lefts_step false m n x e p s = spot_at F m n ys (omega arith) s

    back_step : (c : Bool) (m : ℕ) → Spot F m (in_order back c xs ys) → Spot F m ys
    back_step true m s = spot_left F m ys xs s
    back_step false m s = s

  -- from a sibling to the next
  pub lane_next : (m : Manner) (e r : ℕ) (w : Words) (k s : Forest) → Less (tree r w k s) → Spots m e (tree r w k s) → Spots m e s
  unfolding visited tally tally_left
  lane_next Stored e r w k s h p =
      spot_right F _ _ (node e r w k) (visited stored e s) (omega (
        arith,
        node_length e r w k,
        h.in_right,
        h.in_left,
        h.own_left,
        h.all_left,
        either_side
            (is_left w) (own w + tally k),
      )) p
  lane_next RightFirst e r w k s h (p, q) = (
    rights_step (node e r w k) (visited rights e s) (is_left w) _ _ (own w + tally k) (node_length e r w k)
        (omega (arith, h.in_right, h.in_left, (lengths s 0).apart, either_side (is_left w) (own w + tally k))) p,
    lefts_step (node e r w k) (visited lefts e s) (is_left w) _ _ (own w + tally k) (node_length e r w k) (omega (arith, h.in_left)) q,
  )
  lane_next RightThenBack e r w k s h (p, q) = (
    rights_step (node e r w k) (visited rights e s) (is_left w) _ _ (own w + tally k) (node_length e r w k)
        (omega (arith, h.in_right, h.in_left, (lengths s 0).apart, either_side (is_left w) (own w + tally k))) p,
    back_step (node e r w k) (visited back e s) (is_left w) _ q,
  )

  module _ (xs ys rs ls bs : List Visit) (t' l' l'' : ℕ) where
    -- the same with a sibling's own list xs set off from those that follow
    abbrev Apart : Manner → Bool → Type 0
    Apart Stored c = Spot F (b + (t - t')) (xs ++ ys)
    Apart RightFirst c = Spot F (b + ((t - l) - (t' - l'))) (in_order rights c xs rs) × Spot F (b + ((t - l) + (l - l'))) (in_order lefts c xs ls)
    Apart RightThenBack c = Spot F (b + ((t - l) - (t' - l'))) (in_order rights c xs rs) × Spot F (b + (t - l)) (in_order back c xs bs)

    apart_node : t ≤ 4096 → l ≤ t → l'' ≤ l → length bs ≡ l'' → (m : Manner) (c : Bool) → Apart m c → Spot F (b + shift m c t l t' l' l'') xs
    unfolding shift
    apart_node f g h n Stored true p = spot_left F _ xs ys p
    apart_node f g h n Stored false p = spot_left F _ xs ys p
    apart_node f g h n RightFirst true (p, q) = spot_at F _ _ xs (omega arith) (spot_left F _ xs ls q)
    apart_node f g h n RightFirst false (p, q) = spot_left F _ xs rs p
    apart_node f g h n RightThenBack true (p, q) = spot_right F _ _ bs xs (omega arith) q
    apart_node f g h n RightThenBack false (p, q) = spot_left F _ xs rs p

  -- where a sibling's own list lies
  pub lane_node : (m : Manner) (e r : ℕ) (w : Words) (k s : Forest) → t ≤ 4096 → Less (tree r w k s) → Spots m e (tree r w k s)
      → Spot F (b + shift m (is_left w) t l (tally (tree r w k s)) (tally_left (tree r w k s)) (tally_left s)) (node e r w k)
  unfolding visited
  lane_node m e r w k s f h p =
      apart_node (node e r w k) (visited stored e s) (visited rights e s) (visited lefts e s) (visited back e s) (tally (tree r w k s)) (tally_left (tree r w k s))
      (tally_left s) f
      h.all_left (less_next r w k s h).in_left (lengths s e).backward m (is_left w) (go m p)
    where
      go : (m : Manner) → Spots m e (tree r w k s)
          → Apart (node e r w k) (visited stored e s) (visited rights e s) (visited lefts e s) (visited back e s) (tally (tree r w k s)) (tally_left (tree r w k s))
          (tally_left s) m (is_left w)
      go Stored p = p
      go RightFirst p = p
      go RightThenBack p = p

-- the first of the children
pub lane_start : (F : List Visit) (b e : ℕ) (k : Forest) (m : Manner) → Spot F b (inside m (λ i. visited i e k)) → Spots F b (tally k) (tally_left k) m e k
lane_start F b e k Stored p = spot_at F _ _ _ (omega arith) p
lane_start F b e k RightFirst p = (
  spot_at F _ _ _ (omega arith) (spot_left F b (visited rights e k) (visited lefts e k) p),
  spot_right F b _ (visited rights e k) (visited lefts e k) (omega (arith, (lengths k e).apart)) p,
)
lane_start F b e k RightThenBack p = (
  spot_at F _ _ _ (omega arith) (spot_left F b (visited rights e k) (visited back e k) p),
  spot_right F b _ (visited rights e k) (visited back e k) (omega (arith, (lengths k e).apart)) p,
)

pub less_start : (F : List Visit) (b : ℕ) (k : Forest) → Less F b (tally k) (tally_left k) k
less_start F b k =
    let n = lengths k 0 in
    record { in_left = omega arith; in_right = omega arith; own_left = omega (arith, n.apart); all_left = omega (arith, n.apart) }
