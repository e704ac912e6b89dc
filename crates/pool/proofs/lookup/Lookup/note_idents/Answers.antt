use Rattle.pool.proofs.ChainLaws.{next_less}
use Rattle.pool.proofs.lookup.Lookup.note_idents.Goals as goal

pub loop-r-smaller : goal.loop-r-smaller
loop-r-smaller c = next_less c.args.self.now.scope.now.idents c.loop-r.r _ c.next-r.ensures c.loop-r-test.true
