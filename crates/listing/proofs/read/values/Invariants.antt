use Rattle.std.proofs.Common.{◌≡◌, ◌-◌, length, take}
use Rattle.listing.specs.Read.{values_from, values_of}
use Rattle.listing.proofs.ReadLaws.{joined}
use Rattle.listing.proofs.read.values.Given as goal

abbrev pub invariant-loop-k : goal.invariant-loop-k
invariant-loop-k l = joined (take l.k l.out) (values_from l.k (length l.out - l.k) l.rest) ≡ values_of (length l.out) l.line
