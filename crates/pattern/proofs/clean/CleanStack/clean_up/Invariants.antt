use Rattle.pattern.proofs.CleanLaws.{CleanTurn}
use Rattle.pattern.proofs.clean.CleanStack.clean_up.Given as goal

abbrev pub invariant-loop-n : goal.invariant-loop-n
invariant-loop-n l =
    CleanTurn l.self l.initial.cx l.initial.n l.cx l.n
