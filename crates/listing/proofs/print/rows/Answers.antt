use mathlib.Core.Path.{◌≡◌, sym, ap, ◌∙◌}
use Prim.Native.Nat.{ℕ}
use native.Mathlib.Omega.{arith}
use Rattle.listing.specs.declared.text.Writer.{Writer}
use Rattle.listing.specs.Print.{after, rows_from}
use Rattle.listing.proofs.WriterLaws.{after_rows, after_no_rows}
use Rattle.listing.proofs.print.rows.Goals as goal

pub loop-i-init : goal.loop-i-init
loop-i-init g c = λ text h. sym (after_no_rows text c.args.w.now)

pub loop-i-preserved : goal.loop-i-preserved
loop-i-preserved g c = λ text h.
    h c.loop-i.i _ _ c.row.ensures ∙ ap (λ (w : Writer). after (text c.loop-i.i) w) (c.loop-i.invariant text h) ∙ sym (after_rows text c.loop-i.i c.args.w.now)

pub returns : goal.returns
returns g c = λ text h.
    let e : c.loop-i.i ≡ c.args.count = omega arith in
    c.loop-i.invariant text h ∙ ap (λ (n : ℕ). after (rows_from text n 0) c.args.w.now) e
