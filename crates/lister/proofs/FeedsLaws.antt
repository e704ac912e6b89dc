-- How many lines there can be. Assumes nothing.
use mathlib.Core.Bool.{Bool, true, false, cond}
use mathlib.Core.List.{List, [], ◌∷◌}
use Prim.Native.Nat.{ℕ, ◌+◌, ◌≤◌}
use native.Mathlib.Omega.{arith}
use lib.ListN.{length, take, length-take}
use lib.Dec.{eqb}
use mir.Val.{Fits}
use mir.Syntax.{w64}
use Rattle.lister.specs.Genlist.{feed, feeds}

few : (t : Bool) → cond t 1 0 ≤ 1
few true = omega arith
few false = omega arith

pub feed_few : (b : ℕ) → feed b ≤ 1
feed_few b = few (eqb b 10)

-- no more lines than bytes
pub feeds_few : (l : List ℕ) → feeds l ≤ length l
feeds_few [] = omega arith
feeds_few (b ∷ bs) = omega (arith, feed_few b, feeds_few bs)

-- and no more than the bytes that are taken
pub front_few : (n : ℕ) (l : List ℕ) → feeds (take n l) ≤ n
front_few n l = omega (arith, feeds_few (take n l), length-take n l)

pub next_fits : (m : ℕ) → m ≤ 262143 → Fits w64 (m + 1)
next_fits m h = omega arith
