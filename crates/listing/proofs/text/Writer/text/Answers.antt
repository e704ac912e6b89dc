use native.Mathlib.Omega.{arith}
use mathlib.Core.Path.{refl}
use Rattle.std.proofs.Common.{rules}
use Rattle.listing.proofs.WriterLaws.{lent}
use Rattle.listing.proofs.text.Writer.text.Goals as goal

pub returns : goal.returns
returns c = lent c.args.bytes.now c.loop-b.b-index _ _ refl refl c.loop-b.invariant (omega arith) (search rules)
