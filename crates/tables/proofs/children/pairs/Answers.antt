use native.Mathlib.Nat.{lt_trans}
use mathlib.Core.Path.{sym, ◌∙◌}
use borrow.Author.Tests.{not-true, not-false}
use Rattle.tables.proofs.ServeLaws.{took_pair, left_pair, odd_pair, falls}
use mathlib.Core.Path.{ap}
use mathlib.Core.Bool.{not}
use Rattle.tables.proofs.children.pairs.Goals as goal

pub returns-then-not-heads : goal.returns-then-not-heads
returns-then-not-heads c =
    record {
      serves = λ ws. c.loop-key.invariant ws
          ∙ (odd_pair _ _ _ c.next-other.ensures _ _ (sym c.heads.ensures
          ∙ c.loop-key-test.true) (sym c.heads-in-loop-key.ensures ∙ not-true _ (ap not c.if-not-heads.true))).serves ws;
    }

pub loop-key-smaller : goal.loop-key-smaller
loop-key-smaller c =
    lt_trans (falls _ _ _ _ c.next-at.ensures (sym c.heads-in-loop-key.ensures
    ∙ not-false _ (ap not c.if-not-heads.false))) (falls _ _ _ _ c.next-other.ensures (sym c.heads.ensures ∙ c.loop-key-test.true))

pub loop-key-preserved : goal.loop-key-preserved
loop-key-preserved c =
    λ ws. c.loop-key.invariant ws
    ∙ took_pair _ _ _ c.next-other.ensures _ c.next-at.ensures _ _ (sym c.heads.ensures ∙ c.loop-key-test.true) (sym c.heads-in-loop-key.ensures ∙ not-false _ (ap not
    c.if-not-heads.false)) ws

pub returns : goal.returns
returns c =
    record { serves = λ ws. c.loop-key.invariant ws ∙ (left_pair _ _ _ _ (sym c.heads.ensures ∙ c.loop-key-test.false)).serves ws }
