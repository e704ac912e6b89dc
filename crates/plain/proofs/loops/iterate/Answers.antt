use Rattle.context.proofs.SizeLaws.{pushed_sizes, loaded_sizes}
use Rattle.context.proofs.MarkLaws.{sent, jumped, placed, said}
use Rattle.plain.proofs.LeafLaws.{nulled, yielded}
use Rattle.rules.specs.Marker.{Call, Iter, RegisterHandler}
use mathlib.Core.Path.{◌∙◌, refl}
use Rattle.plain.proofs.loops.iterate.Goals as goal

pub returns : goal.returns
returns c =
    let sizes = pushed_sizes _ _ c.push_code-3.ensures.2 ∙ pushed_sizes _ _ c.push_code-2.ensures.2 ∙ loaded_sizes _ _ _ _ c.push_load_const.ensures
    ∙ loaded_sizes _ _ _ _ c.push_null.ensures ∙ pushed_sizes _ _ c.push_label.ensures ∙ pushed_sizes _ _ c.push_code.ensures.2 in
    record {
      moves = λ r a b x y. record {
        moves = λ m o₀ A h.
            let h1 = said r Iter 0 refl refl (sent _ c.push_code.ensures.1 c.push_code.ensures.2) h in
            let h2 = placed r a refl x c.push_label.ensures h1 in
            let h3 = nulled r c.push_null.ensures h2 in
            let h4 = yielded r c.push_load_const.ensures h3 in
            let h5 = jumped r RegisterHandler b refl y (sent _ c.push_code-2.ensures.1 c.push_code-2.ensures.2) h4 in
            said r Call 1 refl refl (sent _ c.push_code-3.ensures.1 c.push_code-3.ensures.2) h5;
        sizes = sizes;
      };
      sizes = sizes;
    }
