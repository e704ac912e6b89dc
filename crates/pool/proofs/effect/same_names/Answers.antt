use mathlib.Core.Path.{sym, ap₂, ◌∙◌}
use Prim.Native.Nat.{ℕ}
use Rattle.pool.specs.Value.{same_numbers}
use Rattle.pool.specs.Consts.{names_from}
use Rattle.pool.proofs.EffectLaws.{alike_short, alike_other, alike_next, alike_end, reach_falls}
use Rattle.pool.proofs.effect.same_names.Goals as goal
use Rattle.pool.proofs.effect.same_names.Goals.{then-y-eq0-via-then-y-eq0, then-y-eq0-via-else-y-eq0+then-q}

pub returns-then-y-eq0 : goal.returns-then-y-eq0
returns-then-y-eq0 c =
    let a = c.args in
    let t = c.loop-x-test.true in
    (elim c.then-y-eq0.branch [
      | then-y-eq0-via-then-y-eq0 w ↦ alike_short a.records.now _ _ t w.if-y-eq0.true
      | then-y-eq0-via-else-y-eq0+then-q w ↦
          alike_other a.records.now _ _ t w.if-y-eq0.false (λ e. w.if-q.true (w.q.ensures ∙ e ∙ sym w.q-else-y-eq0.ensures))
    ]) ∙ c.loop-x.invariant

pub loop-x-smaller : goal.loop-x-smaller
loop-x-smaller c =
    let a = c.args in
    let test = c.loop-x-test in
    reach_falls a.records.now _ _ test.true c.next-x.ensures

pub loop-x-preserved : goal.loop-x-preserved
loop-x-preserved c =
    let a = c.args in
    let w = c.loop-x in
    let test = c.loop-x-test in
    ap₂ (λ (x y : ℕ). same_numbers (names_from a.records.now x) (names_from a.records.now y)) c.next-x.ensures c.next-y.ensures ∙
    alike_next a.records.now _ _ test.true c.if-y-eq0.false (sym c.q.ensures ∙ c.if-q.false ∙ c.q-else-y-eq0.ensures) ∙ w.invariant

pub returns : goal.returns
returns c = alike_end c.args.records.now _ _ c.loop-x-test.false ∙ c.loop-x.invariant
