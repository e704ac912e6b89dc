use Rattle.context.proofs.SizeLaws.{pushed_sizes, taken_sizes}
use Rattle.context.proofs.MarkLaws.{sent, jumped, placed}
use Rattle.context.proofs.RepLaws.{given, label, labelled}
use Rattle.context.proofs.StayLaws.{push_stays, take_stays}
use Rattle.plain.specs.Runs.{return_run}
use Rattle.rules.specs.Marker.{Jump}
use Rattle.rules.specs.declared.StackCode.{StackCode}
use Rattle.rules.specs.declared.StackCode.TheVariants.{Code1}
use Rattle.rules.specs.contracts.StackCode.{the_type}
use denote.Enum.Bare.{same_true}
use mathlib.Core.Path.{◌∙◌, ap, refl, sym}
use Rattle.plain.proofs.leaf.push_return_label.Goals as goal

pub returns-then-eq-clause-consts : goal.returns-then-eq-clause-consts
returns-then-eq-clause-consts c = push_stays _ _ c.push_label.ensures ∙ push_stays _ _ c.push_code.ensures.2 ∙ take_stays c.get_label-return_label.ensures

pub returns-then-eq-clause-moves : goal.returns-then-eq-clause-moves
returns-then-eq-clause-moves c =
    λ recs r. record {
      moves = λ m o₀ A h.
          let l = label c.get_label-return_label.ensures h in
          let h1 = labelled c.get_label-return_label.ensures h in
          let h2 = jumped r Jump _ refl l (sent _ c.push_code.ensures.1 c.push_code.ensures.2) h1 in
          let h3 = placed r _ refl l c.push_label.ensures h2 in
          given (ap (λ (s : StackCode). return_run s r A) (sym h.stack ∙ same_true the_type tt _ Code1 (sym c.if-eq.ensures))) h3;
      sizes = pushed_sizes _ _ c.push_label.ensures ∙ pushed_sizes _ _ c.push_code.ensures.2 ∙ taken_sizes c.get_label-return_label.ensures;
    }
