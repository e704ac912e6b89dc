use mathlib.Core.Path.{◌≡◌, refl}
use mathlib.Core.Bool.{Bool, true, false}
use Prim.Native.Nat.{ℕ, ◌*◌, ◌/◌, ◌<◌}
use native.Mathlib.Nat.{div-lt_iff_lt-mul, le-div_iff_mul-le}
use lib.Dec.{ltb}
use borrow.Author.Tests.{lt-ltb, le-ltb, ltb-true, ltb-false}
use Rattle.codegen.specs.Space.{scarce}
use Rattle.codegen.proofs.space.scarce.Goals as goal

-- A division instead of a product, which could overflow. Assumes nothing.
-- fewer than n times as many, told by a division
by_division : (a e n : ℕ) → 0 < e → ltb (a / e) n ≡ ltb a (n * e)
by_division a e n h = go (ltb a (n * e)) refl
  where
    go : (b : Bool) → ltb a (n * e) ≡ b → ltb (a / e) n ≡ b
    go true q = lt-ltb (a / e) n ((div-lt_iff_lt-mul h).1 (ltb-true a (n * e) q))
    go false q = le-ltb (a / e) n ((le-div_iff_mul-le h).1 (ltb-false a (n * e) q))

pub returns : goal.returns
unfolding scarce
returns c = by_division (c.args.words / c.args.width) c.args.each c.args.n c.requires.each_nonzero
