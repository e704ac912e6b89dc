use Prim.Native.Nat.{◌+◌, ◌-◌}
use Rattle.pool.specs.NameSteps.{symbols_at}
use Rattle.pool.specs.Scope.{stamps}
use mathlib.Core.Path.{◌≡◌}
use Rattle.pool.proofs.scope.Scope.stamp_table.Given as goal

abbrev pub invariant-loop-i : goal.invariant-loop-i
invariant-loop-i l =
    l.self ≡ stamps l.initial.self l.table l.i (symbols_at l.entries (l.n + l.i) (l.count - l.i))
