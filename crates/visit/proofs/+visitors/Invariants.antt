use Prim.Native.Nat.{◌-◌}
use Rattle.tables.specs.Record.{size}
use Rattle.context.specs.Rep.{lent}
use Rattle.visit.proofs.FallLaws.{level, level_or}
use Rattle.visit.proofs.LoopLaws.{All, Blocking, Bodying, Downing, Unpacking}
use Rattle.visit.proofs.+visitors.Given as goal

abbrev pub decreases-all : goal.decreases-all
decreases-all l = level_or (size l.tree.now.records.now) l.item 13

abbrev pub decreases-arm : goal.decreases-arm
decreases-arm l = level (size l.tree.now.records.now) l.r 11

abbrev pub decreases-assign : goal.decreases-assign
decreases-assign l = level (size l.tree.now.records.now) l.r 8

abbrev pub decreases-binary : goal.decreases-binary
decreases-binary l = level (size l.tree.now.records.now) l.r 8

abbrev pub decreases-block : goal.decreases-block
decreases-block l = level (size l.tree.now.records.now) l.r 8

abbrev pub decreases-bodies : goal.decreases-bodies
decreases-bodies l = level_or (size l.tree.now.records.now) l.first 13

abbrev pub decreases-body : goal.decreases-body
decreases-body l = level (size l.tree.now.records.now) l.r 5

abbrev pub decreases-call : goal.decreases-call
decreases-call l = level (size l.tree.now.records.now) l.r 8

abbrev pub decreases-called : goal.decreases-called
decreases-called l = level_or (size l.tree.now.records.now) l.callee 13

abbrev pub decreases-cases : goal.decreases-cases
decreases-cases l = level (size l.tree.now.records.now) l.r 8

abbrev pub decreases-catch : goal.decreases-catch
decreases-catch l = level (size l.tree.now.records.now) l.handler 8

abbrev pub decreases-cond : goal.decreases-cond
decreases-cond l = level (size l.tree.now.records.now) l.r 8

abbrev pub decreases-each : goal.decreases-each
decreases-each l = level (size l.tree.now.records.now) l.r 8

abbrev pub decreases-expr : goal.decreases-expr
decreases-expr l = level_or (size l.tree.now.records.now) l.r 12

abbrev pub decreases-fetch : goal.decreases-fetch
decreases-fetch l = level_or (size l.tree.now.records.now) l.left 8

abbrev pub decreases-func : goal.decreases-func
decreases-func l = level (size l.tree.now.records.now) l.r 8

abbrev pub decreases-glo : goal.decreases-glo
decreases-glo l = level (size l.tree.now.records.now) l.r 8

abbrev pub decreases-import : goal.decreases-import
decreases-import l = level (size l.tree.now.records.now) l.r 8

abbrev pub decreases-inner : goal.decreases-inner
decreases-inner l = level (size l.tree.now.records.now) l.r 6

abbrev pub decreases-list : goal.decreases-list
decreases-list l = level (size l.tree.now.records.now) l.r 8

abbrev pub decreases-member : goal.decreases-member
decreases-member l = level (size l.tree.now.records.now) l.r 8

abbrev pub decreases-multi : goal.decreases-multi
decreases-multi l = level (size l.tree.now.records.now) l.r 9

abbrev pub decreases-prop : goal.decreases-prop
decreases-prop l = level (size l.tree.now.records.now) l.r 6

abbrev pub decreases-repeat : goal.decreases-repeat
decreases-repeat l = level (size l.tree.now.records.now) l.r 8

abbrev pub decreases-rest : goal.decreases-rest
decreases-rest l = level (size l.tree.now.records.now) l.r 10

abbrev pub decreases-ret : goal.decreases-ret
decreases-ret l = level (size l.tree.now.records.now) l.r 8

abbrev pub decreases-short_circuit : goal.decreases-short_circuit
decreases-short_circuit l = level (size l.tree.now.records.now) l.r 6

abbrev pub decreases-short : goal.decreases-short
decreases-short l = level (size l.tree.now.records.now) l.r 6

abbrev pub decreases-table : goal.decreases-table
decreases-table l = level (size l.tree.now.records.now) l.r 8

abbrev pub decreases-target : goal.decreases-target
decreases-target l = level_or (size l.tree.now.records.now) l.left 8

abbrev pub decreases-unpack : goal.decreases-unpack
decreases-unpack l = level (size l.tree.now.records.now) l.r 8

abbrev pub decreases-update : goal.decreases-update
decreases-update l = level (size l.tree.now.records.now) l.r 8

abbrev pub decreases-whilst : goal.decreases-whilst
decreases-whilst l = level (size l.tree.now.records.now) l.r 8

abbrev pub invariant-all-loop : goal.invariant-all-loop
invariant-all-loop l = All (lent l.tree) l.item l.n l.initial.cx l.cx l.at
    (l.n - l.counter)

abbrev pub invariant-block-loop-cx : goal.invariant-block-loop-cx
invariant-block-loop-cx l = Blocking (lent l.tree) l.r l.initial.cx l.initial.child l.cx l.child

abbrev pub decreases-block-loop-cx : goal.decreases-block-loop-cx
decreases-block-loop-cx l = level_or (size l.tree.records.now) l.child 12

abbrev pub invariant-bodies-loop-at : goal.invariant-bodies-loop-at
invariant-bodies-loop-at l = Bodying (lent l.tree) l.first l.initial.label.0 l.end_label.0
    l.initial.cx l.cx l.at l.label.0

abbrev pub decreases-bodies-loop-at : goal.decreases-bodies-loop-at
decreases-bodies-loop-at l = level_or (size l.tree.records.now) l.at 12

abbrev pub invariant-multi-loop : goal.invariant-multi-loop
invariant-multi-loop l = Downing (lent l.tree) l.r l.n l.initial.cx l.cx l.at
    (l.n - l.counter)

abbrev pub invariant-unpack-loop-i : goal.invariant-unpack-loop-i
invariant-unpack-loop-i l = Unpacking (lent l.tree) l.r l.n l.initial.cx l.cx
    l.at l.i
