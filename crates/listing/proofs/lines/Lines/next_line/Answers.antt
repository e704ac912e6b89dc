use Rattle.std.proofs.Common.{refl, arith, rules}
use borrow.Author.Tests.{tests}
use Rattle.listing.specs.Lines.{in_line}
use Rattle.listing.proofs.LinesLaws.{took}
use Rattle.listing.proofs.ReadLaws.{rest_of}
use Rattle.std.proofs.lemmas.Grind.{common_steps}
use Rattle.listing.proofs.lines.Lines.next_line.Goals as goal

pub returns : goal.returns
returns c =
    let s = c.args.self.now in
    let r = c.run.ensures.value in_line (λ b r q. search (rules, tests)) in
    let g = c.get.ensures.lookup in
    let u = c.unwrap_or-self.ensures in
    (took s.rest.now _ _ s.number _ (grind arith) r c.split_at.ensures.front (grind (arith, common_steps, rest_of)), refl)
