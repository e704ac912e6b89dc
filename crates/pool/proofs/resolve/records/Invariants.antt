use Prim.Native.Nat.{◌≤◌}
use Rattle.pool.proofs.RecordPass.{Passing}
use Rattle.tables.specs.Record.{size}
use mathlib.Core.Path.{◌≡◌}
use Rattle.pool.proofs.resolve.records.Given as goal

abbrev pub invariant-loop-r : goal.invariant-loop-r
invariant-loop-r l =
    (l.n ≡ size l.recs) × (l.n ≤ 4096) × Passing l.recs l.initial.notes l.initial.idents l.r l.notes l.idents l.owners
