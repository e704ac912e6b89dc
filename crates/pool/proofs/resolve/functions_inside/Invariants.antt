use Rattle.pool.proofs.FunctionPass.{Beginning}
use Rattle.tables.specs.Semantic.{pairs}
use mathlib.Core.Path.{◌≡◌}
use Rattle.pool.proofs.resolve.functions_inside.Given as goal

abbrev pub invariant-loop-f : goal.invariant-loop-f
invariant-loop-f l =
    (l.f-end ≡ pairs l.functions) × Beginning l.functions l.initial.spans l.initial.inners l.f l.start l.spans l.inners
