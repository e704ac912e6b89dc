use Prim.Native.Nat.{◌≤◌}
use Rattle.codegen.proofs.DepthLaws.{Done}
use Rattle.tables.specs.Record.{size}
use lib.ListN.{length}
use mathlib.Core.Path.{◌≡◌}
use Rattle.codegen.proofs.depth.depths.Given as goal

-- The invariant: the records from r on are done. Assumes nothing.
abbrev pub invariant-loop-r : goal.invariant-loop-r
invariant-loop-r l =
    Done l.recs l.table l.r × (l.r ≤ size l.recs) × (length l.table ≡ length l.initial.table)
