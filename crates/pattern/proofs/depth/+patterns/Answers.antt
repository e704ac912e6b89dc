use Rattle.tables.proofs.KindLaws.{numbered, unlike}
use Rattle.tables.specs.declared.kind.Kind.TheVariants as kind
use Rattle.context.proofs.MarkLaws.{sent}
use Prim.Native.Nat.{suc}
use native.Mathlib.Omega.{arith}
use Rattle.rules.specs.Patterns.{item as item_part, key as key_part}
use Rattle.pattern.proofs.TurnLaws.{rank_next, rank_less, turn_holds, turn_item, turn_pair}
use Rattle.pattern.proofs.DepthLaws.{table_visits, list_visits, visit_none, visit_ident, visit_lit, nested_falls, child_falls}
use Rattle.pattern.proofs.depth.+patterns.Goals as goal

pub list-loop-item-init : goal.list-loop-item-init
list-loop-item-init t c =
    turn_holds c.args.tree.now.records.now c.args.tree.now.notes.now item_part _ _ c.first-item.ensures

pub list-loop-item-smaller : goal.list-loop-item-smaller
list-loop-item-smaller t c =
    rank_less c.args.tree.now.records.now c.loop-item.item _ c.loop-item-test.true c.next-item.ensures

pub list-loop-item-preserved : goal.list-loop-item-preserved
list-loop-item-preserved t c =
    turn_item c.args.tree.now.records.now c.args.tree.now.notes.now c.loop-item.invariant c.loop-item-test.true c.push_item.ensures c.visit_pattern_depth-taken.ensures
    c.next-item.ensures c.saturating_add-i.ensures

pub list-returns : goal.list-returns
list-returns t c =
    list_visits c.args.tree.now.records.now c.args.tree.now.notes.now c.first-item.ensures c.width.ensures c.saturating_add-inside.ensures c.deepened-taken.ensures
    c.label-clean_stack_label.ensures c.push_table_test.ensures
    c.capped-items.ensures c.loop-item.invariant c.loop-item-test.false (sent _ c.push_code.ensures.1 c.push_code.ensures.2)

pub table-loop-key-init : goal.table-loop-key-init
table-loop-key-init t c =
    record { i = 0; turn = turn_holds c.args.tree.now.records.now c.args.tree.now.notes.now key_part _ _ c.first-key.ensures }

pub table-visit_pattern_depth-taken-requires : goal.table-visit_pattern_depth-taken-requires
table-visit_pattern_depth-taken-requires t c = (
  child_falls c.args.tree.now.records.now c.args.pattern _ c.next-value.result t c.first-key.ensures
      (let z = rank_next c.args.tree.now.records.now c.loop-key.key _ c.next-value.ensures in omega (arith, z, c.loop-key.invariant.turn.fall)) c.decreases,
  tt,
)

pub table-loop-key-smaller : goal.table-loop-key-smaller
table-loop-key-smaller t c =
    let y = rank_less c.args.tree.now.records.now c.loop-key.key _ c.loop-key-test.true c.next-value.ensures in
    let z = rank_next c.args.tree.now.records.now _ _ c.next-key.ensures in
    omega (arith, y, z)

pub table-loop-key-preserved : goal.table-loop-key-preserved
table-loop-key-preserved t c =
    record {
      i = suc (suc c.loop-key.invariant.i);
      turn = turn_pair c.args.tree.now.records.now c.args.tree.now.notes.now c.loop-key.invariant.turn c.loop-key-test.true c.next-value.ensures c.push_value.ensures
          c.visit_pattern_depth-taken.ensures
          c.next-key.ensures;
    }

pub table-returns : goal.table-returns
table-returns t c =
    table_visits c.args.tree.now.records.now c.args.tree.now.notes.now c.first-key.ensures c.width.ensures c.saturating_add-inside.ensures c.deepened-taken.ensures
    c.label-clean_stack_label.ensures c.push_table_test.ensures
    c.capped-pairs.ensures c.loop-key.invariant.turn c.loop-key-test.false (sent _ c.push_code.ensures.1 c.push_code.ensures.2)

pub visit_pattern_depth-returns-then-pattern-eq0 : goal.visit_pattern_depth-returns-then-pattern-eq0
visit_pattern_depth-returns-then-pattern-eq0 t c =
    visit_none c.args.tree.now.records.now c.args.tree.now.notes.now c.if-pattern-eq0.true

pub visit_pattern_depth-table-requires : goal.visit_pattern_depth-table-requires
visit_pattern_depth-table-requires t c =
    (nested_falls c.args.tree.now.records.now c.args.pattern t c.if-pattern-eq0.false c.decreases, tt)

pub visit_pattern_depth-list-requires : goal.visit_pattern_depth-list-requires
visit_pattern_depth-list-requires t c =
    (nested_falls c.args.tree.now.records.now c.args.pattern t c.if-pattern-eq0.false c.decreases, tt)

pub visit_pattern_depth-returns-in-IdentPattern : goal.visit_pattern_depth-returns-in-IdentPattern
visit_pattern_depth-returns-in-IdentPattern t c =
    visit_ident c.args.tree.now.records.now c.args.tree.now.notes.now c.if-pattern-eq0.false c.label-next_pattern_label.ensures
    (numbered _ _ kind.IdentPattern c.kind.ensures c.in-IdentPattern.is tt) c.ident.ensures.tests

pub visit_pattern_depth-returns-in_default : goal.visit_pattern_depth-returns-in_default
visit_pattern_depth-returns-in_default t c =
    visit_lit c.args.tree.now.records.now c.args.tree.now.notes.now c.if-pattern-eq0.false c.label-next_pattern_label.ensures
    (unlike _ _ kind.TablePattern c.kind.ensures c.in_default.not-TablePattern tt) (unlike _ _ kind.ListPattern c.kind.ensures c.in_default.not-ListPattern tt)
    (unlike _ _ kind.IdentPattern c.kind.ensures c.in_default.not-IdentPattern tt) c.lit.ensures
