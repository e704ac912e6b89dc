use Rattle.std.proofs.Common.{rules}
use Rattle.listing.specs.Print.{code_at, const_at}
use Rattle.listing.proofs.WriterLaws.{on, same}
use Rattle.listing.proofs.PrintLaws.{function_text_lem}
use Rattle.listing.proofs.print.function_rows.Goals as goal

pub returns : goal.returns
returns c =
    let a = c.args in
    let s = a.s.now in
    same _ _ _ (function_text_lem a.function s.symbols.now s.records.now s.lines.now s.markers.now s.constants.now s.names.now _ c.from-l.ensures)
    (on _ _ _ _ (on _ _ _ _ (on _ _ _ _ (on _ _ _ _ c.head_row.ensures c.loops_row.ensures)
    (c.rows.ensures (code_at a.function s.markers.now) (λ i u v h. search rules)))
    (c.rows-2.ensures (const_at a.function s.constants.now) (λ i u v h. search rules)))
    c.names_rows.ensures)
