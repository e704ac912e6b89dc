use Rattle.context.specs.Rep.{lent}
use Rattle.plain.proofs.LoopLaws.{giving_again, giving_end, giving_start, item_puts}
use Rattle.plain.proofs.loops.items.Goals as goal

pub loop-i-init : goal.loop-i-init
loop-i-init c =
    giving_start (lent c.args.tree.now) _ _ _

pub loop-i-preserved : goal.loop-i-preserved
loop-i-preserved c =
    giving_again (lent c.args.tree.now) c.loop-i.invariant c.loop-i-test.true c.next-at.ensures (λ r. item_puts (lent c.args.tree.now) r _ c.push_item.ensures c.store.ensures)

pub returns : goal.returns
returns c =
    giving_end (lent c.args.tree.now) c.loop-i.invariant c.loop-i-test.false
