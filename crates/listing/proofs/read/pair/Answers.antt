use Rattle.std.proofs.Common.{◌≡◌, ℕ, arith, Option, Some, None, refl, ap}
use Rattle.listing.specs.Read.{pair_of, byte_of}
use Rattle.listing.proofs.read.pair.Goals as goal

byte_low : (h l : Option ℕ) → l ≡ None → byte_of h l ≡ None
byte_low None l e = refl
byte_low (Some x) l e = ap (byte_of (Some x)) e

pub returns-in_err-nibble : goal.returns-in_err-nibble
unfolding pair_of
returns-in_err-nibble c = grind arith

pub returns-in_err-nibble-2 : goal.returns-in_err-nibble-2
unfolding pair_of
returns-in_err-nibble-2 c = grind (arith, byte_low)

pub returns : goal.returns
unfolding pair_of
returns c = grind arith
