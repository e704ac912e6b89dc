use Rattle.std.proofs.Common.{◌≡◌, take}
use Rattle.listing.specs.Print.{after}
use Rattle.listing.proofs.text.Writer.text.Given as goal

abbrev pub invariant-loop-b : goal.invariant-loop-b
invariant-loop-b l = l.w ≡ after (take l.b-index l.bytes) l.initial.w
