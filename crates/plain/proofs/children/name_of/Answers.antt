use Rattle.plain.proofs.LeafLaws.{field_absent, field_present}
use Rattle.tables.specs.Record.{Words}
use Rattle.plain.proofs.children.name_of.Goals as goal

pub returns-then-ident-eq0 : goal.returns-then-ident-eq0
returns-then-ident-eq0 c =
    field_absent c.args.recs.now (λ (w : Words). w.q) c.args.ident c.if-ident-eq0.true

pub returns-else-ident-eq0 : goal.returns-else-ident-eq0
returns-else-ident-eq0 c =
    field_present c.args.recs.now (λ (w : Words). w.q) c.args.ident _ c.if-ident-eq0.false c.q.ensures
