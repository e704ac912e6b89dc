use Prim.Native.Nat.{◌-◌, max, ℕ}
use Rattle.codegen.proofs.DepthLaws.{step_few, step_more}
use lib.ListN.{get_or, length-set}
use mathlib.Core.Path.{refl, ◌∙◌, ap}
use native.Mathlib.Omega.{arith}
use Rattle.codegen.proofs.depth.depths.Goals as goal

pub around-own-requires : goal.around-own-requires
around-own-requires c =
    rw c.first.ensures (step_few c.args.recs.now c.loop-r.table c.loop-r.r c.loop-r-test.true c.loop-r.invariant.0)

pub loop-r-preserved : goal.loop-r-preserved
loop-r-preserved c =
    let l = c.loop-r in (
      step_more c.args.recs.now l.table l.r _ _ _ _ c.loop-r-test.true l.invariant.1 l.invariant.0 refl c.first.ensures c.next.ensures
          (c.max.ensures ∙ ap (λ (x : ℕ). max x (get_or l.table c.next.result 0)) (c.around-own.ensures _ c.kind.ensures)),
      omega (arith, l.invariant.1),
      length-set l.table (l.r - 1) c.max.result ∙ l.invariant.2,
    )
