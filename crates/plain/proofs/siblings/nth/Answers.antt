use Prim.Native.Nat.{ℕ, suc, ◌+◌, ◌-◌}
use native.Mathlib.Omega.{arith}
use Rattle.context.specs.Does.{nth}
use Rattle.plain.proofs.CountLaws.{nth_absent}
use mathlib.Core.Path.{◌≡◌, ◌∙◌, sym, ap}
use Rattle.plain.proofs.siblings.nth.Goals as goal

pub returns-then-at-eq0 : goal.returns-then-at-eq0
returns-then-at-eq0 c =
    sym (nth_absent c.args.recs.now (c.args.n - c.loop.counter) _ c.if-at-eq0.true) ∙ c.loop.invariant

pub loop-preserved : goal.loop-preserved
loop-preserved c =
    let lt = c.loop-test.true in
    let less : suc (c.args.n - (c.loop.counter + 1)) ≡ c.args.n - c.loop.counter = omega arith in
    ap (nth c.args.recs.now (c.args.n - (c.loop.counter + 1))) c.next-at.ensures ∙ ap (λ (k : ℕ). nth c.args.recs.now k c.loop.at) less ∙ c.loop.invariant
