use Rattle.std.proofs.Common.{refl, ◌∙◌, arith}
use mathlib.Core.Path.{sym}
use borrow.Author.Rules.{rules}
use Rattle.tables.specs.Counting.{alls, lefts, Passed}
use borrow.Author.Tests.{tests}
use Rattle.tables.specs.Record.{size}
use Rattle.tables.proofs.FindLaws.{found_first}
use Rattle.tables.proofs.CountLaws.{first_small, alls_at}
use Rattle.tables.proofs.PassLaws.{numbering_uneven, numbering_even}
use Rattle.tables.proofs.numbering.numbering.Goals as goal

pub offset_bounds-tally-first : goal.offset_bounds-tally-first
offset_bounds-tally-first c = omega (arith, first_small _ _ _ c.first.ensures (omega arith))

pub bounds-tally-first : goal.bounds-tally-first
bounds-tally-first c = first_small _ _ _ c.first.ensures (omega arith)

pub returns-then-pairs-total : goal.returns-then-pairs-total
returns-then-pairs-total c = λ h j. numbering_uneven _ _ _ j h c.tallied.ensures.all _
    (c.plus-total.ensures ∙ rw (c.own.ensures, c.first.ensures, alls_at c.tallied.new.counts _) refl) (λ e. c.if-pairs-total.true (c.pairs.ensures ∙ e))

pub returns : goal.returns
returns c =
    λ h j.
    let recs = c.args.recs.now in
    let passed : Passed recs (alls c.tallied.new.counts) (lefts c.tallied.new.counts) c.handed_down-up.result c.bases-base.result c.callers-by.result =
    record {
      counts = c.tallied.ensures.all;
      lefts = c.tallied.ensures.left;
      parents = c.handed_down-up.ensures (λ r v. r) (λ r v w h k. search rules) j;
      bases = c.bases-base.ensures j;
      callers = c.callers-by.ensures j;
    } in
    numbering_even recs c.args.funs.now (alls c.tallied.new.counts) j h c.tallied.ensures.all _
    (c.plus-total.ensures ∙ rw (c.own.ensures, c.first.ensures, alls_at c.tallied.new.counts _) refl) _ _ _ _ passed
    (sym c.pairs.ensures ∙ c.if-pairs-total.false) _
    (found_first _ 0 _ (size recs) _ refl (omega (arith, c.size-n.ensures)) c.find.ensures.ran (λ x b q k. search (rules, tests)))
