use Rattle.std.proofs.Common.{ap, ◌∙◌}
use Rattle.listing.specs.Print.{error_row, decimal}
use Rattle.listing.specs.Kinds.{name_of_error}
use Rattle.listing.proofs.KindLaws.{error_named}
use Rattle.listing.proofs.WriterLaws.{on, same}
use Rattle.listing.proofs.print.error_row.Goals as goal

pub returns : goal.returns
unfolding error_row
returns c =
    let k = same _ _ _ (c.name.ensures ∙ ap name_of_error c.from.ensures ∙ error_named _) c.text-2.ensures in
    let begun = on _ _ _ _ (on _ _ _ _ (on _ _ _ _ c.text.ensures c.number.ensures) c.put.ensures) k in
    let start = same _ _ _ (ap decimal c.from-2.ensures) c.number-2.ensures in
    let end = same _ _ _ (ap decimal c.from-3.ensures) c.number-3.ensures in
    on _ _ _ _ (on _ _ _ _ (on _ _ _ _ (on _ _ _ _ (on _ _ _ _ begun c.put-2.ensures) start) c.put-3.ensures) end) c.put-4.ensures
