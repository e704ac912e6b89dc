use Rattle.std.proofs.Common.{rules}
use Rattle.pool.proofs.PutLaws.{put_none}
use Rattle.pool.proofs.entries.put.Goals as goal

pub returns-clause-words : goal.returns-clause-words
returns-clause-words g c =
    let a = c.args in
    put_none a.words.now a.n a.entry g.row.N _ _ _ (search rules) c.saturating_mul-from.ensures c.saturating_add-to.ensures (search rules) (search rules)
