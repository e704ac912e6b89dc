use Rattle.context.proofs.SizeLaws.{pushed_sizes}
use Prim.Native.Nat.{ℕ}
use Rattle.context.proofs.Basics.{on_false}
use Rattle.context.proofs.MarkLaws.{sent, jumped}
use Rattle.context.proofs.RepLaws.{given}
use Rattle.context.proofs.StayLaws.{push_stays}
use Rattle.rules.specs.Marker.{JumpPopIfNull}
use borrow.Author.Tests.{le-ltb}
use lib.Dec.{ltb}
use mathlib.Core.Path.{◌∙◌, ap, refl, sym}
use Rattle.plain.proofs.member.push_safe_jump.Goals as goal

pub returns-clause-consts : goal.returns-clause-consts
returns-clause-consts c = push_stays _ _ c.push_code.ensures.2

pub returns-clause-jumps : goal.returns-clause-jumps
returns-clause-jumps c =
    record {
      moves = λ a q. record {
        moves = λ m o₀ A h. given (on_false _ _ _ (ap (λ (d : ℕ). ltb d 8) (sym c.detail.ensures) ∙ le-ltb _ 8 c.if-detail-lt-SAFE.false))
            (jumped c.args.r JumpPopIfNull a refl q (sent _ c.push_code.ensures.1 c.push_code.ensures.2) h);
        sizes = pushed_sizes _ _ c.push_code.ensures.2;
      };
      sizes = pushed_sizes _ _ c.push_code.ensures.2;
    }
