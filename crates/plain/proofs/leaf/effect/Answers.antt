use mathlib.Core.Path.{◌∙◌}
use Rattle.context.proofs.SizeLaws.{loaded_sizes, used_sizes}
use Rattle.context.specs.Does.{does, doing}
use Rattle.context.specs.Rep.{lent}
use Rattle.plain.proofs.LeafLaws.{effect_loaded, nulled, used_child}
use Rattle.rules.specs.Run.{exec}
use Rattle.rules.specs.Step.{Set}
use Rattle.plain.proofs.leaf.effect.Goals as goal

pub returns-clause-steps : goal.returns-clause-steps
unfolding does doing exec
returns-clause-steps c =
    λ k. record {
      sim = λ z m o₀ A h.
          let h1 = effect_loaded (lent c.args.tree.now) c.args.r z {k = 5} k c.capped.ensures c.push_load_const.ensures h in
          let h2 = used_child (lent c.args.tree.now) c.args.r Set 0 c.first-name.ensures c.store.ensures h1 in
          nulled c.args.r c.push_null.ensures h2;
      sizes = loaded_sizes _ _ _ _ c.push_null.ensures ∙ used_sizes Set _ _ _ c.store.ensures ∙ loaded_sizes _ _ _ _ c.push_load_const.ensures;
    }

pub returns-clause-sizes : goal.returns-clause-sizes
returns-clause-sizes c = loaded_sizes _ _ _ _ c.push_null.ensures ∙ used_sizes Set _ _ _ c.store.ensures ∙ loaded_sizes _ _ _ _ c.push_load_const.ensures
