use Rattle.plain.proofs.EndLaws.{params_count}
use Rattle.plain.proofs.children.params_len.Goals as goal

pub returns : goal.returns
returns c =
    params_count c.args.recs.now c.args.params _ _ _ c.first_child-first.ensures c.width.ensures c.capped.ensures
