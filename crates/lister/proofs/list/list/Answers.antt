use Rattle.std.proofs.Common.{rules}
use Rattle.listing.proofs.WriterLaws.{finished}
use Rattle.lister.proofs.WholeLaws.{whole, size}
use Rattle.lister.proofs.list.list.Goals as goal

pub returns : goal.returns
returns c =
    let t = c.args.text.now in
    let w = finished _ c.listed.ensures (search rules) in
    record { text = w; whole = whole t w; size = size t w }
