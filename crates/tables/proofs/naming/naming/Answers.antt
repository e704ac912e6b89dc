use Rattle.std.proofs.Common.{refl, ◌-◌, not, get_or, ◌∙◌, arith}
use borrow.Author.Rules.{rules}
use lib.Dec.{eqb}
use borrow.Author.Tests.{tests}
use Rattle.tables.specs.Record.{size}
use Rattle.tables.proofs.FindLaws.{found_first}
use Rattle.tables.proofs.PlaceLaws.{alike_from}
use Rattle.tables.proofs.NamingLaws.{naming_start, named_same}
use Rattle.tables.proofs.naming.naming.Goals as goal

pub returns : goal.returns
returns c =
    λ h.
    found_first (λ r. not (eqb (get_or c.counted-counts.result r 0) 1)) 1 _ (size c.args.recs.now - 1) _ refl (omega (arith, c.size-n.ensures)) c.find.ensures.ran
    (λ x b q k. search (rules, tests))
    ∙ alike_from _ _ 1 (size c.args.recs.now - 1) (λ k p q. named_same c.args.recs.now k _ p (c.counted-counts.ensures k (omega arith)))
    ∙ naming_start c.args.recs.now
