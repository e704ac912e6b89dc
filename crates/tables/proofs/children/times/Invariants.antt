use mathlib.Core.Path.{◌≡◌}
use mathlib.Core.List.{List, ◌∷◌}
use Prim.Native.Nat.{◌-◌}
use Rattle.tables.specs.Children.{Want, times as times_of, from, fits}
use Rattle.tables.proofs.children.times.Given as goal

-- What is left to count off, from the child reached. Assumes nothing.
abbrev pub invariant-loop : goal.invariant-loop
invariant-loop l =
    (ws : List Want) → fits (times_of l.n l.class ∷ ws) (from l.recs l.c) ≡ fits (times_of (l.n - l.counter) l.class ∷ ws) (from l.recs l.at)
