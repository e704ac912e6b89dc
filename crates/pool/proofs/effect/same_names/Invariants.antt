use mathlib.Core.Path.{◌≡◌}
use Rattle.pool.specs.Value.{same_numbers}
use Rattle.pool.specs.Consts.{names_from}
use Rattle.pool.proofs.EffectLaws.{reach}
use Rattle.pool.proofs.effect.same_names.Given as goal

abbrev pub invariant-loop-x : goal.invariant-loop-x
invariant-loop-x l = same_numbers (names_from l.records l.x) (names_from l.records l.y) ≡ same_numbers (names_from l.records l.a) (names_from l.records l.b)

abbrev pub decreases-loop-x : goal.decreases-loop-x
decreases-loop-x l = reach l.records l.x
