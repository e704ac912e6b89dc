use mathlib.Core.Path.{◌≡◌}
use mathlib.Core.List.{List, ◌∷◌}
use Rattle.tables.specs.Children.{Want, pairs as pairs_of, from, fits}
use Rattle.tables.proofs.ServeLaws.{ahead}
use Rattle.tables.proofs.children.pairs.Given as goal

-- Whole pairs are passed; a key without a value is left. Assumes nothing.
abbrev pub invariant-loop-key : goal.invariant-loop-key
invariant-loop-key l = (ws : List Want) → fits (pairs_of l.key l.value ∷ ws) (from l.recs l.c) ≡ fits (pairs_of l.key l.value ∷ ws) (from l.recs l.at)

abbrev pub decreases-loop-key : goal.decreases-loop-key
decreases-loop-key l = ahead l.recs l.at
