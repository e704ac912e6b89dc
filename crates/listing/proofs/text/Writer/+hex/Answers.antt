use mathlib.Core.Path.{sym, ap, ◌∙◌}
use mathlib.Core.List.{[], ◌∷◌, ◌++◌}
use Prim.Native.Nat.{ℕ, ◌-◌, ◌/◌}
use native.Mathlib.Omega.{arith}
use Rattle.listing.specs.Print.{hex_digits}
use Rattle.listing.proofs.WriterLaws.{after_nil, on, same}
use Rattle.listing.proofs.PrintLaws.{hex_none, hex_more}
use Rattle.listing.proofs.text.Writer.+hex.Goals as goal

pub returns-then-count-eq0 : goal.returns-then-count-eq0
returns-then-count-eq0 t c = same _ _ _ (hex_none c.args.count c.args.n c.if-count-eq0.true) (sym (after_nil c.args.self.now))

pub returns : goal.returns
returns t c =
    same _ _ _ (ap (λ (b : ℕ). hex_digits (c.args.count - 1) (c.args.n / 16) ++ (b ∷ [])) c.hex_digit.ensures ∙ hex_more c.args.count c.args.n (omega arith))
    (on _ _ _ _ c.hex.ensures c.put.ensures)
