use Rattle.std.proofs.Common.{refl, ◌∙◌, arith}
use Rattle.tables.proofs.CountLaws.{first_small, next_small, offset_zero, offset_some}
use Rattle.tables.proofs.KindLaws.{compared}
use Rattle.tables.specs.declared.kind.Kind.TheVariants as kind
use Rattle.tables.proofs.numbering.Counts.offset.Goals as goal

pub returns-then-x-eq0 : goal.returns-then-x-eq0
returns-then-x-eq0 c = offset_zero _ _ _ _ _ c.if-x-eq0.true

pub offset_bounds-self-first : goal.offset_bounds-self-first
offset_bounds-self-first c = omega (arith, first_small _ _ _ c.first.ensures c.args.self.now.few)

pub bounds-self-first : goal.bounds-self-first
bounds-self-first c = first_small _ _ _ c.first.ensures c.args.self.now.few

pub offset_bounds-self-next : goal.offset_bounds-self-next
offset_bounds-self-next c = omega (arith, next_small _ _ _ c.next.ensures c.args.self.now.few)

pub bounds-self-next : goal.bounds-self-next
bounds-self-next c = next_small _ _ _ c.next.ensures c.args.self.now.few

pub returns : goal.returns
returns c =
    offset_some _ _ _ _ _ _ _ _ _ _ c.if-x-eq0.false refl c.first.ensures c.next.ensures (c.manner_of-manner.ensures _ c.kind.ensures)
    (c.eq-is_left.ensures ∙ compared _ _ kind.Left c.kind-2.ensures tt)
    c.shift.ensures
