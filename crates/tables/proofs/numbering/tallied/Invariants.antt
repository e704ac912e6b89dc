use Rattle.tables.specs.Counting.{alls, lefts, tally, tally_left}
use Rattle.tables.proofs.CountLaws.{Down}
use Rattle.tables.proofs.numbering.tallied.Given as goal

abbrev pub invariant-loop-r : goal.invariant-loop-r
invariant-loop-r l = Down tally l.recs l.r (alls l.counts) × Down tally_left l.recs l.r (lefts l.counts)
