use Rattle.std.proofs.Common.{◌≡◌, ◌<◌, length}
use Prim.Native.Nat.{◌^◌}
use Rattle.listing.specs.Print.{after, decimal}
use Rattle.listing.proofs.DecimalLaws.{padded, Front}
use Rattle.listing.proofs.text.Writer.long.Given as goal

abbrev pub invariant-loop-power : goal.invariant-loop-power
invariant-loop-power l =
    let ps = l.power-iterator.iter.rest.now in
    Front ps × (l.rest < 10 ^ length ps) × (after (decimal l.n) l.initial.self ≡ after (padded (length ps) l.rest) l.self)
