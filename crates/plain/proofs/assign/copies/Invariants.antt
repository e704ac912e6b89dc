use Rattle.plain.proofs.LoopLaws.{Copying}
use Rattle.plain.proofs.assign.copies.Given as goal

abbrev pub invariant-loop : goal.invariant-loop
invariant-loop l =
    Copying l.n l.initial.cx l.cx l.counter
