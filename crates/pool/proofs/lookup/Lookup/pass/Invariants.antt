use Rattle.pool.proofs.NameTables.{PassedPart}
use Rattle.pool.specs.NameSteps.{class_by}
use Rattle.pool.proofs.lookup.Lookup.pass.Given as goal

abbrev pub invariant-loop-symbol : goal.invariant-loop-symbol
invariant-loop-symbol l =
    PassedPart l.table (class_by l.self) l.share l.initial.entries l.n l.entries l.at l.symbol-index
