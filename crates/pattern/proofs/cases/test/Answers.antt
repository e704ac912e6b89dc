use Rattle.context.proofs.MarkLaws.{sent}
use Rattle.pattern.proofs.TestLaws.{pattern_tests}
use Rattle.pattern.proofs.cases.test.Goals as goal

pub returns : goal.returns
returns c =
    pattern_tests c.args.tree.now.records.now c.args.tree.now.notes.now c.new-stack.ensures (sent _ c.push_code.ensures.1 c.push_code.ensures.2)
    c.visit_pattern_depth-taken.ensures (sent _ c.push_code-2.ensures.1 c.push_code-2.ensures.2) (sent _ c.push_code-3.ensures.1 c.push_code-3.ensures.2)
    c.clean_up.ensures.cleans
