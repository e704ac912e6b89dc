use Rattle.pattern.proofs.TestLaws.{cases_again, cases_done, cases_hold}
use Rattle.pattern.proofs.TurnLaws.{rank_less}
use Rattle.pattern.proofs.cases.patterns.Goals as goal

pub loop-case-init : goal.loop-case-init
loop-case-init c =
    cases_hold c.args.tree.now.records.now c.args.tree.now.notes.now _ _ _

pub loop-case-smaller : goal.loop-case-smaller
loop-case-smaller c =
    rank_less c.args.tree.now.records.now c.loop-case.case _ c.loop-case-test.true c.next-case.ensures

pub loop-case-preserved : goal.loop-case-preserved
loop-case-preserved c =
    cases_again c.args.tree.now.records.now c.args.tree.now.notes.now c.loop-case.invariant c.loop-case-test.true c.case_patterns.ensures c.next-case.ensures
    c.next_label-label.ensures

pub returns : goal.returns
returns c =
    cases_done c.args.tree.now.records.now c.args.tree.now.notes.now c.loop-case.invariant c.loop-case-test.false
