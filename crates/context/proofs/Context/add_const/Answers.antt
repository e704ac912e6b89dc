use Rattle.context.proofs.ConstSinks.{index_by, count_by}
use Rattle.context.proofs.Context.add_const.Goals as goal

pub returns-clause-index : goal.returns-clause-index
returns-clause-index c =
    index_by c.args.recs.now c.args.self.now c.from.ensures c.add_const-added.ensures.answer c.capped.ensures

pub returns-clause-context : goal.returns-clause-context
returns-clause-context c =
    count_by c.args.recs.now c.args.self.now c.from.ensures c.add_const-added.ensures.answer c.add_const-added.ensures.words c.capped-self.ensures
