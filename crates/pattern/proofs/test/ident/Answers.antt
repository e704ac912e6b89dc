use Rattle.context.proofs.SizeLaws.{pushed_sizes, used_sizes}
use Rattle.context.proofs.MarkLaws.{sent, jumped}
use Rattle.context.proofs.StayLaws.{push_stays, use_stays}
use Rattle.context.specs.Rep.{lent_words}
use Rattle.plain.proofs.LeafLaws.{used_at}
use Rattle.rules.specs.Marker.{JumpPopIfNull}
use Rattle.rules.specs.Step.{Set}
use mathlib.Core.Path.{◌∙◌, refl}
use Rattle.pattern.proofs.test.ident.Goals as goal

pub returns-clause-consts : goal.returns-clause-consts
returns-clause-consts c = use_stays Set _ _ _ c.store.ensures ∙ push_stays _ _ c.push_code.ensures.2

pub returns-clause-tests : goal.returns-clause-tests
returns-clause-tests c =
    λ recs. record {
      moves = λ r y e. record {
        moves = λ v o₀ A h.
            let h1 = jumped r JumpPopIfNull y refl e (sent _ c.push_code.ensures.1 c.push_code.ensures.2) h in
            used_at (lent_words recs c.args.tree.now.notes.now) r Set c.args.pattern c.store.ensures h1;
        sizes = used_sizes Set _ _ _ c.store.ensures ∙ pushed_sizes _ _ c.push_code.ensures.2;
      };
      sizes = used_sizes Set _ _ _ c.store.ensures ∙ pushed_sizes _ _ c.push_code.ensures.2;
    }
