use Rattle.context.specs.Rep.{lent}
use Rattle.plain.proofs.CountLaws.{row}
use Rattle.plain.proofs.LoopLaws.{Registering}
use Rattle.rules.specs.Step.{width}
use Rattle.plain.proofs.leaf.registers.Given as goal

abbrev pub invariant-loop-handler : goal.invariant-loop-handler
invariant-loop-handler l =
    Registering (lent l.tree) l.handlers l.initial.cx l.cx l.handler

abbrev pub decreases-loop-handler : goal.decreases-loop-handler
decreases-loop-handler l =
    width (row l.tree.records.now l.handler)
