-- The bodies of Handlers or Cases as a way of the state, with labels by number. Definitions only.
use Rattle.std.specs.Prelude.{ℕ, zero, suc}
use Rattle.tables.specs.Forest.{next, forest, own_tree}
use Rattle.rules.specs.Marker.{Jump, Label, To, mark}
use Rattle.rules.specs.Step.{Expr, width}
use Rattle.rules.specs.Run.{State, emit}
use Rattle.context.specs.Rep.{Walk, Lent}
use Rattle.context.specs.Does.{visit_in}

module _ (e : Lent) (c : Walk) (r : ℕ) where
  -- n bodies from the record l on, behind the labels from `base` on, with jumps to the label `end`
  abbrev pub bodied : ℕ → ℕ → ℕ → ℕ → State → State
  bodied base end zero l A = A
  bodied base end (suc n) l A =
      bodied (suc base) end n (next e.records l) (emit (mark r (To Jump end)) (visit_in e c Expr l (emit (mark r (Label base)) A)))

  -- all the bodies from the record l on
  unfoldable pub bodied_all : ℕ → ℕ → ℕ → State → State
  bodied_all base end l = bodied base end (width (own_tree (forest e.records l))) l
