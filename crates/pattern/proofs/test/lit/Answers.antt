use Rattle.context.proofs.SizeLaws.{pushed_sizes, loaded_sizes}
use Rattle.context.proofs.MarkLaws.{sent, jumped, said}
use Rattle.plain.proofs.LeafLaws.{lit_loaded}
use Rattle.rules.specs.Marker.{Eq, PopJumpIfFalse}
use Rattle.tables.specs.Record.{word}
use mathlib.Core.Path.{◌∙◌, refl}
use Rattle.pattern.proofs.test.lit.Goals as goal

pub returns : goal.returns
returns c =
    let sizes = pushed_sizes _ _ c.push_code-2.ensures.2 ∙ pushed_sizes _ _ c.push_code.ensures.2 ∙ loaded_sizes _ _ _ _ c.push_lit.ensures in
    λ q. record {
      moves = λ r y e. record {
        moves = λ v o₀ A h.
            let r₁ = c.args.tree.now.records.now in
            let i = c.args.pattern in
            let h1 = lit_loaded q (word r₁ i 1) (word r₁ i 2) (word r₁ i 3) c.push_lit.ensures h in
            let h2 = said r Eq 0 refl refl (sent _ c.push_code.ensures.1 c.push_code.ensures.2) h1 in
            jumped r PopJumpIfFalse y refl e (sent _ c.push_code-2.ensures.1 c.push_code-2.ensures.2) h2;
        sizes = sizes;
      };
      sizes = sizes;
    }
