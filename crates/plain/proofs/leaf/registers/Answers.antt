use Rattle.context.specs.Rep.{lent}
use Rattle.plain.proofs.CountLaws.{width_falls}
use Rattle.plain.proofs.LoopLaws.{registering_again, registering_end}
use native.Mathlib.Omega.{arith}
use Rattle.plain.proofs.leaf.registers.Goals as goal

pub loop-handler-smaller : goal.loop-handler-smaller
loop-handler-smaller c =
    omega (arith, width_falls c.args.tree.now.records.now _ _ c.loop-handler-test.true c.next-handler.ensures)

pub loop-handler-preserved : goal.loop-handler-preserved
loop-handler-preserved c =
    registering_again (lent c.args.tree.now) c.loop-handler.invariant c.loop-handler-test.true c.next-handler.ensures c.register.ensures.moves
    c.register.ensures.consts

pub returns-clause-consts : goal.returns-clause-consts
returns-clause-consts c = c.loop-handler.invariant.consts

pub returns-clause-registers : goal.returns-clause-registers
returns-clause-registers c =
    registering_end (lent c.args.tree.now) c.loop-handler.invariant c.loop-handler-test.false c.coming_label-first_label.ensures
