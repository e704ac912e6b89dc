use mathlib.Core.Path.{sym, ◌∙◌}
use Rattle.tables.proofs.ServeLaws.{took_maybe, left_maybe}
use Rattle.tables.proofs.children.maybe.Goals as goal

pub returns-then-heads : goal.returns-then-heads
returns-then-heads c = took_maybe _ _ _ c.next.ensures _ (sym c.heads.ensures ∙ c.if-heads.true)

pub returns : goal.returns
returns c = left_maybe _ _ _ (sym c.heads.ensures ∙ c.if-heads.false)
