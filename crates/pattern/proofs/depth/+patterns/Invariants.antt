use Rattle.rules.specs.Patterns.{item as item_part}
use Rattle.pattern.proofs.TurnLaws.{rank, Turn, TableTurn}
use Rattle.pattern.proofs.DepthLaws.{visit_rank, nested_rank}
use Rattle.pattern.proofs.depth.+patterns.Given as goal

abbrev pub decreases-list : goal.decreases-list
decreases-list l = nested_rank l.tree.now.records.now l.pattern

abbrev pub decreases-table : goal.decreases-table
decreases-table l = nested_rank l.tree.now.records.now l.pattern

abbrev pub decreases-visit_pattern_depth : goal.decreases-visit_pattern_depth
decreases-visit_pattern_depth l = visit_rank l.tree.now.records.now l.pattern

abbrev pub invariant-list-loop-item : goal.invariant-list-loop-item
invariant-list-loop-item l =
    Turn l.tree.records.now l.tree.notes.now item_part l.pattern l.inside l.initial.cx l.initial.item l.initial.taken l.cx l.item l.i l.taken

abbrev pub decreases-list-loop-item : goal.decreases-list-loop-item
decreases-list-loop-item l =
    rank l.tree.records.now l.item

abbrev pub invariant-table-loop-key : goal.invariant-table-loop-key
invariant-table-loop-key l =
    TableTurn l.tree.records.now l.tree.notes.now l.pattern l.inside l.initial.cx l.initial.key l.initial.taken l.cx l.key l.taken

abbrev pub decreases-table-loop-key : goal.decreases-table-loop-key
decreases-table-loop-key l =
    rank l.tree.records.now l.key
