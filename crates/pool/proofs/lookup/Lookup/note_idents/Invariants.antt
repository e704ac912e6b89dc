use Rattle.pool.proofs.IdentLaws.{Noting}
use Rattle.pool.proofs.lookup.Lookup.note_idents.Given as goal

abbrev pub invariant-loop-r : goal.invariant-loop-r
invariant-loop-r l =
    Noting l.self.tables.now.records.now l.self.tables.now.symbols.now l.self.tables.now.references.now l.self.scope.now l.initial.notes l.r l.notes

abbrev pub decreases-loop-r : goal.decreases-loop-r
decreases-loop-r l =
    l.r
