use Prim.Native.Nat.{◌-◌, ℕ}
use Rattle.plain.specs.Operators.{member_of}
use mathlib.Core.Path.{◌∙◌, ap, sym}
use Rattle.plain.proofs.member.left_property.Goals as goal

pub returns-then-d-eq-PLAIN : goal.returns-then-d-eq-PLAIN
unfolding member_of
returns-then-d-eq-PLAIN c =
    ap (λ (d : ℕ). member_of (d - 1)) (sym c.if-d-eq-PLAIN.true ∙ c.detail-d.ensures)
