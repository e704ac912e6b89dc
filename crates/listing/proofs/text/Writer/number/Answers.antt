use native.Mathlib.Omega.{arith}
use Rattle.listing.proofs.WriterLaws.{same}
use Rattle.listing.proofs.DecimalLaws.{decimal_one}
use Rattle.listing.proofs.text.Writer.number.Goals as goal

pub returns-then-n-lt-TEN : goal.returns-then-n-lt-TEN
returns-then-n-lt-TEN c = same _ _ _ (decimal_one _ (omega arith)) c.put.ensures
