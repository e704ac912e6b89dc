use Rattle.context.proofs.MarkLaws.{sent}
use Rattle.context.proofs.StayLaws.{push_stays}
use Rattle.pattern.proofs.CleanLaws.{clean_again, clean_done}
use mathlib.Core.Path.{◌∙◌, refl}
use Rattle.pattern.proofs.clean.CleanStack.clean_up.Goals as goal

pub loop-n-preserved : goal.loop-n-preserved
loop-n-preserved c =
    clean_again c.loop-n.invariant c.loop-n-test.true refl c.label.ensures c.push_label.ensures (sent _ c.push_code.ensures.1 c.push_code.ensures.2)

pub returns-clause-consts : goal.returns-clause-consts
returns-clause-consts c = push_stays _ _ c.push_label-2.ensures ∙ c.loop-n.invariant.consts

pub returns-clause-cleans : goal.returns-clause-cleans
returns-clause-cleans c =
    clean_done c.loop-n.invariant c.loop-n-test.false c.label-2.ensures c.push_label-2.ensures
