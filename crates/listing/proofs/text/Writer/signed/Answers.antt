use Rattle.std.proofs.Common.{ap, ◌∙◌, ◌-◌, arith}
use Rattle.listing.specs.Print.{after, decimal}
use Rattle.listing.proofs.WriterLaws.{on, same}
use Rattle.listing.proofs.PrintLaws.{int_plain, int_minus, below_zero, from_zero}
use Rattle.listing.proofs.text.Writer.signed.Goals.{then-n-lt0, else-n-lt0}
use Rattle.listing.proofs.text.Writer.signed.Goals as goal

pub returns : goal.returns
returns c =
    let a = c.args in
    let j = c.joined.ensures in
    let u = c.unsigned_abs.ensures.value in
    elim c.if-n-lt0.branch [
      | then-n-lt0 w ↦
          let f = below_zero _ c.joined.result (omega arith) c.cast_signed-n.ensures w.if-n-lt0.true in
          same _ _ _ (int_minus a.high a.low _ (omega (arith, f.0)) (u ∙ f.1 ∙ ap (λ n. 18446744073709551616 - n) j))
          (on _ _ _ _ (w.self-is ∙ w.put.ensures) c.number.ensures)
      | else-n-lt0 w ↦
          let f = from_zero _ c.joined.result (omega arith) c.cast_signed-n.ensures w.if-n-lt0.false in
          same _ _ _ (ap decimal (u ∙ f.1 ∙ j) ∙ int_plain a.high a.low (omega (arith, f.0)))
          (c.number.ensures ∙ ap (λ v. after (decimal c.unsigned_abs.result) v) w.self-is)
    ]
