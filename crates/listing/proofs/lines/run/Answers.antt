use Rattle.std.proofs.Common.{rules, arith, not}
use Rattle.std.proofs.lemmas.Bool.Decides.{nat_tests}
use Rattle.std.proofs.lemmas.Iterator.{YieldsList-from_slice}
use Rattle.std.proofs.lemmas.Iterator.Search.{position_from_yields_List}
use borrow.Author.Tests.{tests}
use Rattle.listing.proofs.ReadLaws.{run_le, run_first}
use Rattle.listing.proofs.lines.run.Goals as goal

pub returns-clause-value : goal.returns-clause-value
returns-clause-value g c = λ p law.
    let l = c.args.bytes.now in
    let e = position_from_yields_List (λ b. not (p b)) _ _ c.position.result c.position.ensures.ran (YieldsList-from_slice l c.iter.ensures.rest)
    (λ x b q k. search (rules, tests, law)) in
    let n = run_le p l in
    let s = run_first p l in
    let u = c.unwrap_or.ensures in grind (arith, nat_tests)
