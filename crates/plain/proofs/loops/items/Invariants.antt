use Rattle.context.specs.Rep.{lent}
use Rattle.plain.proofs.LoopLaws.{Giving}
use Rattle.plain.proofs.loops.items.Given as goal

abbrev pub invariant-loop-i : goal.invariant-loop-i
invariant-loop-i l =
    Giving (lent l.tree) l.n l.left l.initial.cx l.cx l.i l.at
