use Rattle.listing.proofs.WriterLaws.{on, same}
use Rattle.listing.proofs.PrintLaws.{listing_is}
use Rattle.listing.proofs.print.listing.Goals as goal

pub returns : goal.returns
returns c =
    same _ _ _ (listing_is _ _ _ _ _ _ _ c.args.met c.args.told _ _ c.entries.ensures c.entries-2.ensures)
    (on _ _ _ _ (on _ _ _ _ c.text.ensures c.functions_rows.ensures) c.error_rows.ensures)
