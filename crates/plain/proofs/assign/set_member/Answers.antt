use Rattle.context.proofs.SizeLaws.{pushed_sizes}
use Rattle.context.proofs.MarkLaws.{sent, said}
use Rattle.context.proofs.StayLaws.{push_stays}
use Rattle.context.proofs.RepLaws.{given}
use Rattle.plain.proofs.OperatorLaws.{push_as}
use Rattle.opcode.specs.Members.{member_number}
use Rattle.plain.proofs.OperatorLaws.{set_own}
use Rattle.rules.specs.Arms.{set_code}
use Rattle.rules.specs.Marker.{Do, Swap, mark}
use Rattle.rules.specs.Run.{emit}
use mathlib.Core.Bool.{Bool, cond}
use mathlib.Core.Path.{◌∙◌, ap, refl, sym}
use Rattle.plain.proofs.assign.set_member.Goals as goal

pub returns-then-is_meta-clause-moves : goal.returns-then-is_meta-clause-moves
returns-then-is_meta-clause-moves c =
    λ recs r. record {
      moves = λ m o₀ A h.
          let h1 = said r Swap 2 refl refl (sent _ c.push_code.ensures.1 c.push_code.ensures.2) h in
          given (ap (λ (b : Bool). emit (mark r (Do (set_code (member_number c.args.property)) 0)) (emit (mark r (Do Swap 2)) (cond b A (emit (mark r (Do Swap
          3)) A)))) (sym c.is_meta.ensures ∙ c.if-is_meta.true)) (said r (set_code (member_number c.args.property)) 0 refl refl (push_as _ (set_own c.args.property)
          c.push_set.ensures) h1);
      sizes = pushed_sizes _ _ c.push_set.ensures ∙ pushed_sizes _ _ c.push_code.ensures.2;
    }

pub returns-then-is_meta-clause-consts : goal.returns-then-is_meta-clause-consts
returns-then-is_meta-clause-consts c = push_stays _ _ c.push_set.ensures ∙ push_stays _ _ c.push_code.ensures.2

pub returns-clause-consts : goal.returns-clause-consts
returns-clause-consts c = push_stays _ _ c.push_set-2.ensures ∙ push_stays _ _ c.push_code-3.ensures.2 ∙ push_stays _ _ c.push_code-2.ensures.2

pub returns-clause-moves : goal.returns-clause-moves
returns-clause-moves c =
    λ recs r. record {
      moves = λ m o₀ A h.
          let h1 = said r Swap 3 refl refl (sent _ c.push_code-2.ensures.1 c.push_code-2.ensures.2) h in
          let h2 = said r Swap 2 refl refl (sent _ c.push_code-3.ensures.1 c.push_code-3.ensures.2) h1 in
          given (ap (λ (b : Bool). emit (mark r (Do (set_code (member_number c.args.property)) 0)) (emit (mark r (Do Swap 2)) (cond b A (emit (mark r (Do Swap
          3)) A)))) (sym c.is_meta.ensures ∙ c.if-is_meta.false)) (said r (set_code (member_number c.args.property)) 0 refl refl (push_as _ (set_own c.args.property)
          c.push_set-2.ensures) h2);
      sizes = pushed_sizes _ _ c.push_set-2.ensures ∙ pushed_sizes _ _ c.push_code-3.ensures.2 ∙ pushed_sizes _ _ c.push_code-2.ensures.2;
    }
