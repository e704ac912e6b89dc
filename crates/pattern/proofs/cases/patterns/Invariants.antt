use Rattle.pattern.proofs.TestLaws.{CasesTurn}
use Rattle.pattern.proofs.TurnLaws.{rank}
use Rattle.pattern.proofs.cases.patterns.Given as goal

abbrev pub invariant-loop-case : goal.invariant-loop-case
invariant-loop-case l =
    CasesTurn l.tree.records.now l.tree.notes.now l.initial.label.0 l.initial.cx l.initial.case l.cx l.case l.label.0

abbrev pub decreases-loop-case : goal.decreases-loop-case
decreases-loop-case l =
    rank l.tree.records.now l.case
