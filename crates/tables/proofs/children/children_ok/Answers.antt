use mathlib.Core.Path.{◌∙◌}
use borrow.Author.Tests.{ne_eqb}
use Rattle.tables.proofs.ServeLaws.{ends_here, wrong_here, right_root, right_here}
use Rattle.tables.proofs.children.children_ok.Goals as goal

pub returns-else-r-ne0 : goal.returns-else-r-ne0
returns-else-r-ne0 c =
    c.rooted.ensures ∙ right_root _ _ _ c.first.ensures _ (ends_here _ _ c.eq.ensures ∙ c.kind_children.ensures) c.if-eq.true c.if-r-ne0.false

pub returns-then-r-ne0 : goal.returns-then-r-ne0
returns-then-r-ne0 c =
    simp (ne_eqb _ _ c.if-r-ne0.true) (right_here _ _ _ c.first.ensures _ (ends_here _ _ c.eq.ensures ∙ c.kind_children.ensures) c.if-eq.true c.if-r-ne0.true)

pub returns-else-eq : goal.returns-else-eq
returns-else-eq c = c.if-eq.false ∙ wrong_here _ _ _ c.first.ensures _ (ends_here _ _ c.eq.ensures ∙ c.kind_children.ensures) c.if-eq.false
