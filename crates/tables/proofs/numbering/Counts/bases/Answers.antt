use borrow.Author.Rules.{rules}
use Rattle.tables.specs.Counting.{alls, lefts, base_down}
use Rattle.tables.proofs.numbering.Counts.bases.Goals as goal

pub returns : goal.returns
returns c = let s = c.args.self.now in c.handed_down.ensures (base_down s.recs.now (alls s.tally.now) (lefts s.tally.now) s.up.now) (λ r v w h k. search rules)
