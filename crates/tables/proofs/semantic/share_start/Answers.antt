use mathlib.Core.Path.{◌≡◌, ap, ◌∙◌}
use Prim.Native.Nat.{ℕ, ◌^◌, min}
use native.Mathlib.Omega.{arith}
use Rattle.tables.specs.Semantic.{pairs, share_start}
use Rattle.tables.proofs.SemanticLaws.{start_zero, start_next, start_last}
use Rattle.tables.proofs.semantic.share_start.Goals as goal

pub loop-g-init : goal.loop-g-init
loop-g-init c = omega (arith, start_zero c.args.functions.now)

pub loop-g-preserved : goal.loop-g-preserved
loop-g-preserved c =
    omega (arith, start_next c.args.functions.now c.loop-g.g)

pub returns : goal.returns
returns c =
    let a = c.args in
    let e : c.loop-g.g ≡ min a.f (pairs a.functions.now) = omega arith in
    c.loop-g.invariant ∙ ap (λ (n : ℕ). min n (2 ^ 63)) (ap (share_start a.functions.now) e ∙ start_last a.functions.now a.f)
