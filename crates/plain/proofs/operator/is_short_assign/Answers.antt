use Rattle.plain.proofs.LeafLaws.{field_absent, field_present}
use Rattle.plain.proofs.OperatorLaws.{short_member, short_plain}
use Rattle.tables.specs.Record.{Words}
use mathlib.Core.Path.{◌∙◌, sym}
use Rattle.plain.proofs.operator.is_short_assign.Goals as goal

pub returns-then-left-eq0 : goal.returns-then-left-eq0
returns-then-left-eq0 c =
    short_plain _ _ (sym (field_absent c.args.recs.now (λ (w : Words). w.detail) c.args.left c.if-left-eq0.true)) c.is_short.ensures

pub returns-then-detail-ne-PLAIN : goal.returns-then-detail-ne-PLAIN
returns-then-detail-ne-PLAIN c =
    short_member _ _ (λ z. c.if-detail-ne-PLAIN.true (field_present c.args.recs.now (λ (w : Words). w.detail) c.args.left _ c.if-left-eq0.false c.detail.ensures ∙ z))

pub returns : goal.returns
returns c =
    short_plain _ _ (sym (field_present c.args.recs.now (λ (w : Words). w.detail) c.args.left _ c.if-left-eq0.false c.detail.ensures) ∙ c.if-detail-ne-PLAIN.false)
    c.is_short-2.ensures
