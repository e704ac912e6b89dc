use Rattle.pool.proofs.NameTables.{pass_more, pass_most, pass_start}
use Rattle.pool.specs.NameSteps.{class_by}
use native.Mathlib.Omega.{arith}
use Rattle.pool.proofs.lookup.Lookup.pass.Goals as goal

pub loop-symbol-init : goal.loop-symbol-init
loop-symbol-init c =
    pass_start c.args.table (class_by c.args.self.now) c.args.share.now c.args.entries.now c.args.n

pub step-at-requires : goal.step-at-requires
step-at-requires c =
    omega (
      arith,
      c.requires,
      pass_most c.args.table (class_by c.args.self.now) c.args.share.now c.args.entries.now c.args.n _ _ _ c.loop-symbol.invariant,
    )

pub loop-symbol-preserved : goal.loop-symbol-preserved
loop-symbol-preserved c =
    pass_more c.args.table (class_by c.args.self.now) c.args.share.now c.args.entries.now c.args.n _ _ _ _ _ c.loop-symbol-test.true
    c.loop-symbol.invariant c.step-at.ensures.words c.step-at.ensures.place
