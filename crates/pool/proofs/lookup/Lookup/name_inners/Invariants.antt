use Rattle.pool.proofs.InnerLaws.{Naming}
use lib.ListN.{length}
use mathlib.Core.Path.{◌≡◌}
use Rattle.pool.proofs.lookup.Lookup.name_inners.Given as goal

abbrev pub invariant-loop-inner : goal.invariant-loop-inner
invariant-loop-inner l =
    (length l.entries ≡ length l.initial.entries) × (length l.spans ≡ length l.initial.spans)
    × Naming l.self.tables.now.symbols.now l.self.tables.now.functions.now l.self.tables.now.members.now l.self.scope.now l.initial.entries l.initial.spans l.inner
    l.entries l.spans

abbrev pub decreases-loop-inner : goal.decreases-loop-inner
decreases-loop-inner l =
    l.inner
