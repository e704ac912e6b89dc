use mathlib.Core.Path.{sym, ◌∙◌}
use Rattle.tables.proofs.ServeLaws.{took_any, left_any, falls}
use Rattle.tables.proofs.children.any.Goals as goal

pub loop-class-smaller : goal.loop-class-smaller
loop-class-smaller c = falls _ _ _ _ c.next-at.ensures (sym c.heads.ensures ∙ c.loop-class-test.true)

pub loop-class-preserved : goal.loop-class-preserved
loop-class-preserved c =
    λ ws. c.loop-class.invariant ws ∙ took_any _ _ _ c.next-at.ensures _ (sym c.heads.ensures
    ∙ c.loop-class-test.true) ws

pub returns : goal.returns
returns c = record { serves = λ ws. c.loop-class.invariant ws ∙ (left_any _ _ _ (sym c.heads.ensures ∙ c.loop-class-test.false)).serves ws }
