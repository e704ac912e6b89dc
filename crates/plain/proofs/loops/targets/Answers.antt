use Rattle.context.proofs.SizeLaws.{pushed_sizes, used_sizes}
use Rattle.context.proofs.Basics.{on_false, on_true}
use Rattle.context.proofs.MarkLaws.{sent, said}
use Rattle.context.proofs.RepLaws.{given}
use Rattle.context.specs.Rep.{lent}
use Rattle.plain.proofs.LeafLaws.{used_at}
use Rattle.rules.specs.Marker.{Pop}
use Rattle.rules.specs.Step.{Set}
use borrow.Author.Tests.{eq-eqb, ne_eqb}
use mathlib.Core.Path.{◌∙◌, refl}
use Rattle.plain.proofs.loops.targets.Goals as goal

pub returns-then-n-eq1 : goal.returns-then-n-eq1
returns-then-n-eq1 c =
    λ r. record {
      moves = λ m o₀ A h. given (on_true _ _ _ (eq-eqb _ 1 c.if-n-eq1.true)) (used_at (lent c.args.tree.now) r Set _ c.store.ensures h);
      sizes = used_sizes Set _ _ _ c.store.ensures;
    }

pub returns : goal.returns
returns c =
    λ r. record {
      moves = λ m o₀ A h. given (on_false _ _ _ (ne_eqb _ 1 c.if-n-eq1.false))
          (said r Pop 0 refl refl (sent _ c.push_code.ensures.1 c.push_code.ensures.2) ((c.items.ensures r).moves
          m o₀ A h));
      sizes = pushed_sizes _ _ c.push_code.ensures.2 ∙ (c.items.ensures r).sizes;
    }
