use native.Mathlib.Omega.{arith}
use Rattle.listing.proofs.PrintLaws.{functions_next, functions_done}
use Rattle.listing.proofs.print.functions_rows.Goals as goal

pub loop-f-preserved : goal.loop-f-preserved
loop-f-preserved c =
    let e = c.rest-left.ensures in
    functions_next _ c.args.count c.loop-f.f _ _ _ _ _ _ _ _ _ _ _ _ _ _ (omega arith)
    e.symbols e.records e.lines e.markers e.constants e.names c.loop-f.invariant c.function_rows.ensures

pub returns : goal.returns
returns c = functions_done _ c.args.count c.loop-f.f _ _ _ _ _ _ _ (omega arith) c.loop-f.invariant
