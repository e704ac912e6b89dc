use Rattle.pool.proofs.ResolveLaws.{Turns}
use Rattle.tables.specs.Semantic.{pairs}
use lib.ListN.{length}
use mathlib.Core.Path.{◌≡◌}
use Rattle.pool.proofs.resolve.resolve.Given as goal

abbrev pub invariant-loop-f : goal.invariant-loop-f
invariant-loop-f l =
    (l.f-end ≡ pairs l.tables.functions.now) × (length l.entries ≡ length l.initial.entries) × (length l.spans ≡ length l.initial.spans)
    × Turns l.tables l.initial.entries l.initial.spans l.initial.notes l.initial.scope l.f l.entries l.spans l.notes l.scope
