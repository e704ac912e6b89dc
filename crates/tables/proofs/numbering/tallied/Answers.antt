use Rattle.std.proofs.Common.{sym, ◌∙◌, arith}
use Rattle.std.specs.Prelude.{◌≤◌}
use Rattle.tables.specs.Record.{size}
use Rattle.tables.proofs.CountLaws.{first_small, next_small, alls_start, lefts_start, turn_all, turn_left, turn_other, all_end, left_end}
use Rattle.tables.proofs.KindLaws.{compared}
use Rattle.tables.specs.declared.kind.Kind.TheVariants as kind
use Rattle.tables.proofs.numbering.tallied.Goals.{then-eq, else-eq}
use Rattle.tables.proofs.numbering.tallied.Goals as goal

pub loop-r-init : goal.loop-r-init
loop-r-init c = (alls_start _ _ _ c.requires.blank c.size-r.ensures, lefts_start _ _ _ c.requires.blank c.size-r.ensures)

pub offset_bounds-counts-next : goal.offset_bounds-counts-next
offset_bounds-counts-next c = omega (arith, next_small _ _ _ c.next.ensures c.requires.small)

pub bounds-counts-next : goal.bounds-counts-next
bounds-counts-next c = next_small _ _ _ c.next.ensures c.requires.small

pub offset_bounds-counts-first : goal.offset_bounds-counts-first
offset_bounds-counts-first c = omega (arith, first_small _ _ _ c.first.ensures c.requires.small)

pub bounds-counts-first : goal.bounds-counts-first
bounds-counts-first c = first_small _ _ _ c.first.ensures c.requires.small

pub loop-r-preserved : goal.loop-r-preserved
loop-r-preserved c =
    let l = c.loop-r in
    let small : l.r ≤ size c.args.recs.now = omega (arith, c.size-r.ensures) in (
      turn_all _ c.requires.small l.counts l.r _ _ _ _ c.loop-r-test.true small c.first.ensures c.next.ensures c.own.ensures l.invariant.0 c.plus-whole.ensures _ c.plus.ensures,
      elim c.if-eq.branch [
        | then-eq w ↦ turn_left _ c.requires.small l.counts l.r _ _ _ _ c.loop-r-test.true small c.first.ensures c.next.ensures c.own.ensures l.invariant.0 c.plus-whole.ensures
            l.invariant.1 _ (sym (compared _ _ kind.Left c.kind.ensures tt) ∙ sym c.eq.ensures ∙ w.if-eq.true) (w.counts-is ∙ w.plus-then-eq.ensures)
        | else-eq w ↦ turn_other _ c.requires.small l.counts l.r _ _ _ _ c.loop-r-test.true small c.first.ensures c.next.ensures c.own.ensures l.invariant.0 c.plus-whole.ensures
            l.invariant.1 _ (sym (compared _ _ kind.Left c.kind.ensures tt) ∙ sym c.eq.ensures ∙ w.if-eq.false) w.counts-is
      ],
    )

pub returns-clause-all : goal.returns-clause-all
returns-clause-all c = all_end _ _ _ c.loop-r.invariant.0 c.loop-r-test.false

pub returns-clause-left : goal.returns-clause-left
returns-clause-left c = left_end _ _ _ c.loop-r.invariant.1 c.loop-r-test.false
