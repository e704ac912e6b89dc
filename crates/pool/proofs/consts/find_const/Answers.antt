use mathlib.Core.Path.{refl}
use native.Mathlib.Omega.{arith}
use borrow.Author.Tests.{tests}
use Rattle.std.proofs.Common.{rules}
use Rattle.std.proofs.lemmas.Iterator.{YieldsList-from_range}
use Rattle.std.proofs.lemmas.Iterator.Search.{find_from_yields_List}
use Rattle.pool.specs.Consts.{constant}
use Rattle.pool.proofs.SearchLaws.{hit, sought}
use Rattle.pool.proofs.consts.find_const.Goals as goal

pub returns : goal.returns
returns c =
    let a = c.args in
    let v = (constant a.records.now a.words).value in
    sought a.records.now a.consts.now v a.n _ _ c.min.ensures
    (find_from_yields_List (hit a.records.now a.consts.now v) _ _ c.find.result c.find.ensures.ran (YieldsList-from_range 0 c.min.result _ refl (omega arith))
    (λ x b q k. search (rules, tests)))
