use Rattle.tables.proofs.NamingLaws.{Counts}
use Rattle.tables.proofs.naming.counted.Given as goal

abbrev pub invariant-loop-r : goal.invariant-loop-r
invariant-loop-r l = Counts l.recs l.r l.counts
