use native.Mathlib.Omega.{arith}
use Rattle.listing.proofs.WriterLaws.{same}
use Rattle.lister.proofs.GenlistLaws.{list_input, list_long, list_tables}
use Rattle.lister.proofs.list.listed.Goals as goal

pub returns-then-text-ge-TOO_LONG : goal.returns-then-text-ge-TOO_LONG
returns-then-text-ge-TOO_LONG c =
    same _ _ _ (list_long c.args.text.now _ _ _ _ c.front.ensures c.read.ensures.answer c.in-Ok.is (omega (arith, c.if-text-ge-TOO_LONG.true))
    c.overlong.ensures)
    c.input-then-text-ge-TOO_LONG.ensures

pub returns-in-Err : goal.returns-in-Err
returns-in-Err c = same _ _ _ (list_input c.args.text.now _ _ _ c.front.ensures c.read.ensures.answer c.in-Err.is) c.input.ensures

pub returns : goal.returns
returns c =
    let r = c.read.ensures in
    same _ _ _ (list_tables c.args.text.now _ _ _ _ c.front.ensures r.answer r.tables c.in-Ok.is (omega (arith, c.if-text-ge-TOO_LONG.false)))
    c.printed.ensures
