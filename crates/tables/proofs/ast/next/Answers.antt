use mathlib.Core.Path.{◌∙◌}
use Rattle.tables.proofs.ForestLaws.{next_zero, next_some}
use Rattle.tables.proofs.ast.next.Goals as goal

pub returns-then-r-eq0 : goal.returns-then-r-eq0
returns-then-r-eq0 c = next_zero c.args.recs.now c.args.r c.if-r-eq0.true

pub returns-else-r-eq0 : goal.returns-else-r-eq0
returns-else-r-eq0 c = c.link.ensures ∙ next_some c.args.recs.now c.args.r c.if-r-eq0.false
