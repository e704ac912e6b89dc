use Rattle.pool.proofs.FunctionPass.{begin_most, begin_next}
use mathlib.Core.Path.{◌∙◌, refl}
use native.Mathlib.Omega.{arith}
use Rattle.pool.proofs.resolve.functions_inside.Goals as goal

pub overflow_add-start : goal.overflow_add-start
overflow_add-start c =
    omega (
      arith,
      c.member_count-start.ensures,
      begin_most c.args.functions.now c.args.spans.now c.args.inners.now c.requires.few_functions c.requires.few_members c.loop-f.f c.loop-f.start _ _ (omega (
        arith,
        c.loop-f.invariant.0,
        c.loop-f-test.true,
      )) c.loop-f.invariant.1,
    )

pub loop-f-preserved : goal.loop-f-preserved
loop-f-preserved c = let none = c.default.ensures in (
  c.loop-f.invariant.0,
  begin_next c.args.functions.now c.args.spans.now c.args.inners.now c.requires.few_functions c.loop-f.f c.loop-f.start c.loop-f.spans c.loop-f.inners _ _ _ _ (omega
      (arith, c.loop-f.invariant.0, c.loop-f-test.true)) c.loop-f.invariant.1
      (c.put_span.ensures ∙ rw (none.1.0, none.1.1.0, none.1.1.1) refl) c.parent_owner.ensures c.push.ensures c.member_count-start.ensures,
)
