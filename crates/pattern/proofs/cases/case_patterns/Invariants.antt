use Rattle.pattern.proofs.TestLaws.{CaseTurn}
use Rattle.pattern.proofs.cases.case_patterns.Given as goal

abbrev pub invariant-loop : goal.invariant-loop
invariant-loop l =
    CaseTurn l.tree.records.now l.tree.notes.now l.case l.block_label.0 l.end l.initial.cx l.initial.pattern l.cx l.pattern l.counter
