use Prim.Native.Nat.{◌-◌}
use Rattle.context.specs.Does.{nth}
use mathlib.Core.Path.{◌≡◌}
use Rattle.plain.proofs.siblings.nth.Given as goal

abbrev pub invariant-loop : goal.invariant-loop
invariant-loop l =
    nth l.recs (l.n - l.counter) l.at ≡ nth l.recs l.n l.c
