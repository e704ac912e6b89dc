use mathlib.Core.Path.{◌∙◌}
use borrow.Author.Tests.{eq-eqb}
use Rattle.tables.proofs.ServeLaws.{heads_none, heads_some}
use Rattle.tables.proofs.children.heads.Goals as goal

-- An absent child is of no class. Assumes nothing.
pub returns-else-c-ne0 : goal.returns-else-c-ne0
returns-else-c-ne0 c = simp (eq-eqb _ _ c.if-c-ne0.false) (heads_none _ _ _ c.if-c-ne0.false)

pub returns-then-c-ne0 : goal.returns-then-c-ne0
returns-then-c-ne0 c =
    let arg = c.args in
    c.belongs.ensures _ c.kind.ensures ∙ heads_some arg.recs.now arg.c arg.class c.if-c-ne0.true
