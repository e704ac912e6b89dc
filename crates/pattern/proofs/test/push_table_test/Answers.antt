use Rattle.context.proofs.SizeLaws.{pushed_sizes, loaded_sizes}
use Rattle.context.proofs.Basics.{on_false, on_true}
use Rattle.context.proofs.MarkLaws.{sent, jumped, said}
use Rattle.context.proofs.RepLaws.{given}
use Rattle.plain.proofs.LeafLaws.{int_loaded}
use Rattle.rules.specs.Marker.{Copy, Eq, GetLen, PopJumpIfFalse, TypeCheck}
use mathlib.Core.Path.{◌∙◌, refl, sym}
use Rattle.pattern.proofs.test.push_table_test.Goals as goal

pub returns-then-flag : goal.returns-then-flag
returns-then-flag c =
    let sizes = pushed_sizes _ _ c.push_code-3.ensures.2 ∙ pushed_sizes _ _ c.push_code-2.ensures.2 ∙ pushed_sizes _ _ c.push_code.ensures.2 in
    λ q. record {
      moves = λ r y e. record {
        moves = λ v o₀ A h.
            let h1 = said r Copy 1 refl refl (sent _ c.push_code.ensures.1 c.push_code.ensures.2) h in
            let h2 = said r TypeCheck 6 refl refl (sent _ c.push_code-2.ensures.1 c.push_code-2.ensures.2) h1 in
            let h3 = jumped r PopJumpIfFalse y refl e (sent _ c.push_code-3.ensures.1 c.push_code-3.ensures.2) h2 in
            given (on_true _ _ _ (sym c.flag.ensures ∙ c.if-flag.true)) h3;
        sizes = sizes;
      };
      sizes = sizes;
    }

pub returns : goal.returns
returns c =
    let head = pushed_sizes _ _ c.push_code-3.ensures.2 ∙ pushed_sizes _ _ c.push_code-2.ensures.2 ∙ pushed_sizes _ _ c.push_code.ensures.2 in
    let sizes = pushed_sizes _ _ c.push_code-7.ensures.2 ∙ pushed_sizes _ _ c.push_code-6.ensures.2 ∙ loaded_sizes _ _ _ _ c.push_load_const.ensures
    ∙ pushed_sizes _ _ c.push_code-5.ensures.2 ∙ pushed_sizes _ _ c.push_code-4.ensures.2 ∙ head in
    λ q. record {
      moves = λ r y e. record {
        moves = λ v o₀ A h.
            let h1 = said r Copy 1 refl refl (sent _ c.push_code.ensures.1 c.push_code.ensures.2) h in
            let h2 = said r TypeCheck 6 refl refl (sent _ c.push_code-2.ensures.1 c.push_code-2.ensures.2) h1 in
            let h3 = jumped r PopJumpIfFalse y refl e (sent _ c.push_code-3.ensures.1 c.push_code-3.ensures.2) h2 in
            let h4 = said r Copy 1 refl refl (sent _ c.push_code-4.ensures.1 c.push_code-4.ensures.2) h3 in
            let h5 = said r GetLen 0 refl refl (sent _ c.push_code-5.ensures.1 c.push_code-5.ensures.2) h4 in
            let h6 = int_loaded q c.args.n refl c.push_load_const.ensures h5 in
            let h7 = said r Eq 0 refl refl (sent _ c.push_code-6.ensures.1 c.push_code-6.ensures.2) h6 in
            let h8 = jumped r PopJumpIfFalse y refl e (sent _ c.push_code-7.ensures.1 c.push_code-7.ensures.2) h7 in
            given (on_false _ _ _ (sym c.flag.ensures ∙ c.if-flag.false)) h8;
        sizes = sizes;
      };
      sizes = sizes;
    }
