use native.Mathlib.Omega.{arith}
use Rattle.context.specs.Rep.{lent}
use Rattle.plain.proofs.LoopLaws.{down_again, down_end, down_start}
use Rattle.plain.proofs.leaf.params.Goals as goal

pub loop-init : goal.loop-init
loop-init c =
    down_start (lent c.args.tree.now) c.args.r _ c.first-first.ensures (omega (arith, c.width-end.ensures)) c.last-param.ensures

pub loop-preserved : goal.loop-preserved
loop-preserved c =
    let lt = c.loop-test.true in
    down_again (lent c.args.tree.now) c.args.r c.loop.invariant (omega arith) (omega arith) c.store.ensures c.earlier-param.ensures

pub returns-clause-consts : goal.returns-clause-consts
returns-clause-consts c = c.loop.invariant.consts

pub returns-clause-steps : goal.returns-clause-steps
returns-clause-steps c =
    let le = c.loop-test.false in
    down_end (lent c.args.tree.now) c.args.r c.loop.invariant (omega arith)
