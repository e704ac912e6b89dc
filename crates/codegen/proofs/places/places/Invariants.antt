use Rattle.codegen.proofs.PlacesLaws.{Laid}
use lib.ListN.{length}
use Rattle.codegen.proofs.places.places.Given as goal

-- The invariant: the Functions before record r have their places. Assumes nothing.
abbrev pub invariant-loop-r : goal.invariant-loop-r
invariant-loop-r l =
    Laid l.recs (length l.initial.table) l.r l.table
