use Rattle.std.proofs.Common.{ap}
use Rattle.listing.specs.Print.{refusal_text, decimal}
use Rattle.listing.proofs.WriterLaws.{on, same}
use Rattle.listing.proofs.print.refusal.Goals as goal

pub returns : goal.returns
unfolding refusal_text
returns c =
    let number = same _ _ _ (ap decimal c.from.ensures) c.number.ensures in
    on _ _ _ _ (on _ _ _ _ (on _ _ _ _ (on _ _ _ _ c.text.ensures number) c.put.ensures) c.number-2.ensures) c.put-2.ensures
