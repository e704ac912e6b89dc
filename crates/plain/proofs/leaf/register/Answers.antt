use Rattle.context.proofs.SizeLaws.{pushed_sizes, taken_sizes, used_sizes}
use Prim.Native.Nat.{ℕ}
use Rattle.context.proofs.MarkLaws.{sent, jumped}
use Rattle.context.proofs.RepLaws.{given, label, labelled}
use Rattle.context.proofs.StayLaws.{push_stays, take_stays, use_stays}
use Rattle.context.specs.Rep.{lent}
use Rattle.plain.proofs.LeafLaws.{used_at}
use Rattle.plain.specs.Runs.{register, use_at}
use Rattle.rules.specs.Marker.{RegisterHandler, To, mark}
use Rattle.rules.specs.Run.{bump, emit, labels}
use Rattle.rules.specs.Step.{Get}
use mathlib.Core.Path.{◌∙◌, ap, refl, sym}
use Rattle.plain.proofs.leaf.register.Goals as goal

pub returns-clause-consts : goal.returns-clause-consts
returns-clause-consts c = push_stays _ _ c.push_code.ensures.2 ∙ use_stays Get _ _ _ c.load.ensures ∙ take_stays c.get_label-handler_label.ensures

pub returns-clause-moves : goal.returns-clause-moves
unfolding register
returns-clause-moves c =
    λ r. record {
      moves = λ m o₀ A h.
          let l = label c.get_label-handler_label.ensures h in
          let h1 = labelled c.get_label-handler_label.ensures h in
          let h2 = used_at (lent c.args.tree.now) r Get _ c.load.ensures h1 in
          let h3 = jumped r RegisterHandler (labels A) refl l (sent _ c.push_code.ensures.1 c.push_code.ensures.2) h2 in
          given (ap (λ (i : ℕ). emit (mark r (To RegisterHandler (labels A))) (use_at (lent c.args.tree.now) r Get i (bump A))) (sym
          c.first_child-effect.ensures)) h3;
      sizes = pushed_sizes _ _ c.push_code.ensures.2 ∙ used_sizes Get _ _ _ c.load.ensures ∙ taken_sizes c.get_label-handler_label.ensures;
    }
