use Rattle.codegen.proofs.StreamsLaws.{Going}
use Rattle.codegen.specs.Walks.{noted_run}
use Rattle.codegen.proofs.streams.streams.Given as goal

-- The invariant: the words of the first n functions are laid. Assumes nothing.
abbrev pub invariant-loop-n : goal.invariant-loop-n
invariant-loop-n l = Going (noted_run l.tree.notes.now l.tree.records.now) l.tree.records.now l.spans l.initial.outputs l.outputs l.n l.at
