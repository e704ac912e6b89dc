use mathlib.Core.Path.{refl}
use Rattle.listing.proofs.WriterLaws.{same}
use Rattle.listing.proofs.PrintLaws.{params_none, params_some}
use Rattle.listing.proofs.print.params.Goals as goal

pub returns-then-i-eq0 : goal.returns-then-i-eq0
returns-then-i-eq0 c = same _ _ _ (params_none c.args.recs.now c.args.list _ c.first-i.ensures c.if-i-eq0.true) c.put.ensures

pub returns-else-i-eq0 : goal.returns-else-i-eq0
returns-else-i-eq0 c = same _ _ _ (params_some c.args.recs.now c.args.list _ _ c.first-i.ensures c.if-i-eq0.false refl) c.put_idents.ensures
