use Rattle.context.proofs.SizeLaws.{pushed_sizes, loaded_sizes, closed_sizes}
use Rattle.context.proofs.MarkLaws.{sent, backed, placed, said}
use Rattle.context.proofs.RepLaws.{finished}
use Rattle.plain.proofs.LeafLaws.{nulled}
use Rattle.rules.specs.Marker.{Pop}
use mathlib.Core.Path.{◌∙◌, refl}
use Rattle.plain.proofs.loops.end_for.Goals as goal

pub returns : goal.returns
returns c =
    let sizes = closed_sizes _ c.end_loop.ensures ∙ loaded_sizes _ _ _ _ c.push_null.ensures ∙ pushed_sizes _ _ c.push_code-3.ensures.2 ∙ pushed_sizes _ _ c.push_label.ensures
    ∙ pushed_sizes _ _ c.push_code-2.ensures.2 ∙ pushed_sizes _ _ c.push_code.ensures.2 in
    record {
      moves = λ r a b x y. record {
        moves = λ m o₀ A h.
            let h1 = said r Pop 0 refl refl (sent _ c.push_code.ensures.1 c.push_code.ensures.2) h in
            let h2 = backed r a refl x (sent _ c.push_code-2.ensures.1 c.push_code-2.ensures.2) h1 in
            let h3 = placed r b refl y c.push_label.ensures h2 in
            let h4 = said r Pop 0 refl refl (sent _ c.push_code-3.ensures.1 c.push_code-3.ensures.2) h3 in
            let h5 = nulled r c.push_null.ensures h4 in
            finished c.end_loop.ensures h5;
        sizes = sizes;
      };
      sizes = sizes;
    }
