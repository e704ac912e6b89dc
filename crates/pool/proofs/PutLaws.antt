-- An entry written into lent words. Assumes nothing.
use Rattle.std.proofs.lemmas.Bool.{cond-true, cond-false}
use mathlib.Core.Path.{◌≡◌, refl, sym, ap, ◌∙◌}
use mathlib.Core.Bool.{Bool, true, false, cond}
use mathlib.Core.Logic.{◌⊎◌}
use mathlib.Core.List.{List, append_assoc}
use Prim.Native.Nat.{ℕ, ◌+◌, ◌-◌, ◌*◌, ◌≤◌, ◌<◌, min}
use native.Mathlib.Omega.{arith}
use lib.ListN.{length, take, drop, get_or}
use lib.Seq.{length-sets}
use borrow.Author.Tests.{le-leb, lt-leb}
use borrow.Rule.Slice.PartMut.{put_mid}
use Rattle.std.proofs.lemmas.List.{drop-drop}
use Rattle.std.proofs.lemmas.List.Edits.{sets, sets-eq}
use Rattle.pool.specs.Entries.{has_room, put_entry}
use Rattle.pool.specs.NameSteps.{Stands}
use Rattle.pool.proofs.WordParts.{sets_other, sets_stand}

-- k is the width of an entry, a and b its bounds, which stay at the largest number m
module _ (ws : List ℕ) (n : ℕ) (xs : List ℕ) (k a b m : ℕ) (wide : length xs ≡ k) (ea : a ≡ min (n * k) m) (eb : b ≡ min (a + k) m) (short : length ws < m) where
  -- the part of the words between is written
  pub put_part : (ys : List ℕ) → ys ≡ xs → b ≤ length ws → put_mid a (b - a) ws ys ≡ put_entry ws n xs
  unfolding put_entry
  put_part ys ey h =
      let i = n * length xs in
      let e : i ≡ n * k = ap (λ (x : ℕ). n * x) wide in
      let from : a ≡ i = omega arith in
      let size : b - a ≡ length xs = omega arith in
      rw (size, from, ey, drop-drop (length xs) i ws) (sym (cond-true _ _ ws (le-leb (i + length xs) (length ws) (omega arith)) ∙ sets-eq xs ws i (omega arith)
      ∙ append_assoc (take i ws) xs (drop (i + length xs) ws)))

  -- there is no room
  pub put_none : length ws < b → ws ≡ put_entry ws n xs
  unfolding put_entry
  put_none h =
      let e : n * length xs ≡ n * k = ap (λ (x : ℕ). n * x) wide in
      sym (cond-false _ _ ws (lt-leb (n * length xs + length xs) (length ws) (omega arith)))

-- what an entry that is put leaves
module _ (ws : List ℕ) (n : ℕ) (xs : List ℕ) where
  pub put_room : n * length xs + length xs ≤ length ws → put_entry ws n xs ≡ sets ws (n * length xs) xs
  unfolding put_entry
  put_room h = cond-true _ _ ws (le-leb (n * length xs + length xs) (length ws) h)

  pub put_length : length (put_entry ws n xs) ≡ length ws
  unfolding put_entry
  put_length = go (has_room ws n (length xs))
    where
      go : (b : Bool) → length (cond b (sets ws (n * length xs) xs) ws) ≡ length ws
      go true = length-sets ws (n * length xs) xs
      go false = refl

  -- the other words stay
  pub put_other : (j : ℕ) → (j < n * length xs) ⊎ (n * length xs + length xs ≤ j) → get_or (put_entry ws n xs) j 0 ≡ get_or ws j 0
  unfolding put_entry
  put_other j h = go (has_room ws n (length xs))
    where
      go : (b : Bool) → get_or (cond b (sets ws (n * length xs) xs) ws) j 0 ≡ get_or ws j 0
      go true = sets_other xs ws (n * length xs) j h
      go false = refl

  pub put_stands : n * length xs + length xs ≤ length ws → Stands (put_entry ws n xs) (n * length xs) xs
  put_stands h k p = ap (λ (l : List ℕ). get_or l (n * length xs + k) 0) (put_room h) ∙ sets_stand xs ws (n * length xs) h k p
