use Rattle.pattern.proofs.TestLaws.{case_again, case_done, case_holds, case_short}
use mathlib.Core.Path.{refl}
use Rattle.pattern.proofs.cases.case_patterns.Goals as goal

pub loop-init : goal.loop-init
loop-init c =
    case_holds c.args.tree.now.records.now c.args.tree.now.notes.now _ c.first_child-pattern.ensures

pub returns-then-pattern-eq0 : goal.returns-then-pattern-eq0
returns-then-pattern-eq0 c =
    case_short c.args.tree.now.records.now c.args.tree.now.notes.now c.loop.invariant c.p-end.ensures c.first_child-pattern.ensures c.if-pattern-eq0.true

pub loop-preserved : goal.loop-preserved
loop-preserved c =
    case_again c.args.tree.now.records.now c.args.tree.now.notes.now c.loop.invariant c.loop-test.true c.if-pattern-eq0.false c.test.ensures c.next-pattern.ensures refl

pub returns : goal.returns
returns c =
    case_done c.args.tree.now.records.now c.args.tree.now.notes.now c.loop.invariant c.p-end.ensures c.first_child-pattern.ensures c.loop-test.false
