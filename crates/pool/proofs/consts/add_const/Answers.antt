use Rattle.pool.proofs.TableLaws.{put_old, put_new}
use mathlib.Core.Path.{◌∙◌, sym}
use Rattle.pool.proofs.consts.add_const.Goals as goal

pub returns-in-Some-clause-words : goal.returns-in-Some-clause-words
returns-in-Some-clause-words c =
    let a = c.args in put_old a.records.now a.consts.now a.n a.words.kind a.words.low a.words.high _ (sym c.in-Some.is ∙ c.find_const.ensures)

pub returns-in-None-clause-words : goal.returns-in-None-clause-words
returns-in-None-clause-words c =
    let a = c.args in
    c.put_const.ensures.words ∙ put_new a.records.now a.consts.now a.n a.words.kind a.words.low a.words.high (sym c.in-None.is ∙ c.find_const.ensures)
