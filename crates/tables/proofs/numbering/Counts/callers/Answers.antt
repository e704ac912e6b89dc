use borrow.Author.Rules.{rules}
use borrow.Author.Tests.{tests}
use Rattle.tables.specs.Counting.{alls, lefts, caller_down}
use Rattle.tables.proofs.numbering.Counts.callers.Goals as goal

pub returns : goal.returns
returns c =
    let s = c.args.self.now in
    c.handed_down.ensures (caller_down s.recs.now (alls s.tally.now) (lefts s.tally.now) s.up.now c.args.base.now) (λ r v w h k. search (rules, tests))
