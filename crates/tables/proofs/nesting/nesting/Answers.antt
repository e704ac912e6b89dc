use Rattle.std.proofs.Common.{refl, ◌+◌, min, get_or, ◌∙◌, arith}
use borrow.Author.Rules.{rules}
use lib.Dec.{ltb}
use Rattle.tables.specs.Scratch.{Handed}
use Rattle.tables.specs.Record.{size}
use borrow.Author.Tests.{tests}
use Rattle.tables.proofs.FindLaws.{found_first}
use Rattle.tables.proofs.PlaceLaws.{alike_from}
use Rattle.tables.proofs.NestingLaws.{level_handed, nested_same}
use Rattle.tables.proofs.nesting.nesting.Goals as goal

pub returns : goal.returns
returns c =
    λ h j.
    let a = c.handed_down-levels.result in
    let levels : Handed (λ r v. min 129 (v + 1)) c.args.recs.now 1 (size c.args.recs.now) a = c.handed_down-levels.ensures _ (λ r v w h k. search rules) j in
    let n = size c.args.recs.now in
    found_first (λ r. ltb 128 (get_or a r 0)) 0 _ n _ refl (omega (arith, c.size-n.ensures)) c.find.ensures.ran (λ x b q k. search (rules, tests))
    ∙ alike_from _ _ 0 n (λ k p q. nested_same _ _ (level_handed _ a j levels k (omega arith)))
