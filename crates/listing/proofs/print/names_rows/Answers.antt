use Rattle.std.proofs.Common.{rules}
use Rattle.opcode.specs.Names.{bytes}
use Rattle.listing.specs.Print.{plain_at, upvalue_at}
use Rattle.listing.proofs.WriterLaws.{on, same}
use Rattle.listing.proofs.PrintLaws.{names_is}
use Rattle.listing.proofs.print.names_rows.Goals as goal

pub returns : goal.returns
returns c =
    let a = c.args in
    let f = a.function in
    let s = a.symbols.now in
    same _ _ _ (names_is f s a.names.now a.l.locals a.l.globals a.l.upvalues _ _ c.rest-left.ensures c.rest-last.ensures)
    (on _ _ _ _ (on _ _ _ _
    (c.rows.ensures (plain_at f (bytes "local") s a.names.now) (λ i u v h. search rules))
    (c.rows-2.ensures (plain_at f (bytes "global") s c.rest-left.result.now) (λ i u v h. search rules)))
    (c.rows-3.ensures (upvalue_at f c.rest-last.result.now) (λ i u v h. search rules)))
