use Rattle.context.proofs.MarkLaws.{sent}
use Rattle.plain.proofs.LoopLaws.{copying_again, copying_end}
use Rattle.plain.proofs.assign.copies.Goals as goal

pub loop-preserved : goal.loop-preserved
loop-preserved c =
    copying_again c.loop.invariant c.loop-test.true (sent _ c.push_code.ensures.1 c.push_code.ensures.2)

pub returns-clause-moves : goal.returns-clause-moves
returns-clause-moves c =
    copying_end c.loop.invariant c.loop-test.false

pub returns-clause-consts : goal.returns-clause-consts
returns-clause-consts c = c.loop.invariant.consts
