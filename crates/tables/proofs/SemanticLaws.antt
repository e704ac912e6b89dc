-- Parts of a list, prefix sums of counts, and what they say of strings and of shares. Assumes nothing.
use mathlib.Core.Path.{◌≡◌, refl, sym, ap, ◌∙◌}
use mathlib.Core.Bool.{Bool, true, false}
use mathlib.Core.List.{List}
use mathlib.Core.Logic.{◌⊎◌, inl, inr}
use Prim.Native.Nat.{ℕ, zero, suc, ◌+◌, ◌*◌, ◌-◌, ◌≤◌, ◌<◌, min}
use native.Mathlib.Numerals.{add-one}
use native.Mathlib.Omega.{arith}
use lib.ListN.{length, get_or, take, drop, get_or-eq_default, drop_of_length-le}
use lib.Seq.{get_or-take, get_or-drop}
use lib.Dec.{leb}
use borrow.Author.Tests.{leb-true, leb-false}
use Rattle.tables.specs.Semantic.{pairs, member_count, share_start}

pub split : (a b : ℕ) → (a ≤ b) ⊎ (b < a)
split a b = go (leb a b) refl
  where
    go : (t : Bool) → leb a b ≡ t → (a ≤ b) ⊎ (b < a)
    go true e = inl (leb-true a b e)
    go false e = inr (leb-false a b e)

-- a word past the end reads as 0
pub past : (l : List ℕ) (i : ℕ) → length l ≤ i → 0 ≡ get_or l i 0
past l i h = sym (get_or-eq_default l 0 h)

pub drop_cut : (l : List ℕ) (o from : ℕ) → from ≡ min o (length l) → drop from l ≡ drop o l
drop_cut l o from e = go (split o (length l))
  where
    go : (o ≤ length l) ⊎ (length l < o) → drop from l ≡ drop o l
    go (inl h) = let z : from ≡ o = omega arith in rw z
    go (inr h) =
        let a : length l ≤ from = omega arith in let b : length l ≤ o = omega arith in drop_of_length-le l a ∙ sym (drop_of_length-le l b)

-- word i of a part: that of the list where i is below the part's length, else 0
pub part_at : (l : List ℕ) (o n i : ℕ) → i < n → get_or l (o + i) 0 ≡ get_or (take n (drop o l)) i 0
part_at l o n i h = sym (get_or-take n (drop o l) i 0 h ∙ get_or-drop o l i 0)

module _ (functions : List ℕ) where
  pub start_zero : share_start functions 0 ≡ 0
  unfolding share_start
  start_zero = refl

  pub start_next : (f : ℕ) → share_start functions (f + 1) ≡ share_start functions f + member_count functions f
  unfolding share_start
  start_next f = rw (add-one f)

  -- a later share starts no earlier
  pub start_rises : (f n : ℕ) → share_start functions f ≤ share_start functions (f + n)
  start_rises f zero = let z : f + 0 ≡ f = omega arith in omega (arith, ap (share_start functions) z)
  start_rises f (suc n) = let z : f + suc n ≡ f + n + 1 = omega arith in omega (arith, ap (share_start functions) z, start_next (f + n), start_rises f n)

  pub start_mono : (f g : ℕ) → f ≤ g → share_start functions f ≤ share_start functions g
  start_mono f g h = let z : f + (g - f) ≡ g = omega arith in omega (arith, ap (share_start functions) z, start_rises f (g - f))

  -- past the last function there are no counts
  no_count : (f : ℕ) → pairs functions ≤ f → member_count functions f ≡ 0
  no_count f h = let g : length functions ≤ f * 2 + 1 = omega arith in sym (past functions (f * 2 + 1) g)

  start_stays : (f n : ℕ) → pairs functions ≤ f → share_start functions (f + n) ≡ share_start functions f
  start_stays f zero h = let z : f + 0 ≡ f = omega arith in ap (share_start functions) z
  start_stays f (suc n) h =
      let z : f + suc n ≡ f + n + 1 = omega arith in
      omega (arith, ap (share_start functions) z, start_next (f + n), start_stays f n h, no_count (f + n) (omega arith))

  pub start_last : (f : ℕ) → share_start functions (min f (pairs functions)) ≡ share_start functions f
  start_last f = go (split f (pairs functions))
    where
      go : (f ≤ pairs functions) ⊎ (pairs functions < f) → share_start functions (min f (pairs functions)) ≡ share_start functions f
      go (inl h) = let z : min f (pairs functions) ≡ f = omega arith in ap (share_start functions) z
      go (inr h) =
          let z : min f (pairs functions) ≡ pairs functions = omega arith in
          let y : pairs functions + (f - pairs functions) ≡ f = omega arith in
          ap (share_start functions) z ∙ sym (start_stays (pairs functions) (f - pairs functions) (omega arith)) ∙ ap (share_start functions) y
