use mathlib.Core.Path.{◌≡◌}
use mathlib.Core.List.{List, ◌∷◌}
use Rattle.tables.specs.Children.{Want, any as any_of, from, fits}
use Rattle.tables.proofs.ServeLaws.{ahead}
use Rattle.tables.proofs.children.any.Given as goal

-- The children of the class are passed one by one. Assumes nothing.
abbrev pub invariant-loop-class : goal.invariant-loop-class
invariant-loop-class l = (ws : List Want) → fits (any_of l.class ∷ ws) (from l.recs l.c) ≡ fits (any_of l.class ∷ ws) (from l.recs l.at)

abbrev pub decreases-loop-class : goal.decreases-loop-class
decreases-loop-class l = ahead l.recs l.at
