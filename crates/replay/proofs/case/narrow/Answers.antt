use native.Mathlib.Omega.{arith}
use mathlib.Core.Path.{ap, ◌∙◌}
use Prim.Native.Nat.{ℕ}
use lib.ListN.{length-set, set}
use Rattle.replay.proofs.CaseLaws.{byte_more, laid_more}
use Rattle.replay.proofs.case.narrow.Goals as goal

pub loop-k-preserved : goal.loop-k-preserved
loop-k-preserved c =
    let a = c.args in
    let l = c.loop-k in
    let b = c.in-Some.ensures in (
      ap (λ (v : ℕ). set l.bytes l.k v) b.1 ∙ laid_more a.words.now l.bytes a.bytes.now l.k (omega arith) (omega arith) l.invariant.0,
      byte_more a.words.now l.k (omega arith) b.0 l.invariant.1,
      omega arith,
      omega arith,
      length-set l.bytes l.k _ ∙ l.invariant.4,
    )
