use Rattle.pool.proofs.RecordPass.{pass_next}
use mathlib.Core.Logic.{inl, inr}
use mathlib.Core.Path.{◌∙◌, refl, sym}
use native.Mathlib.Omega.{arith}
use Rattle.pool.proofs.resolve.records.Goals as goal
use Rattle.pool.proofs.resolve.records.Goals.{then-is_ident, else-is_ident}

pub loop-r-preserved : goal.loop-r-preserved
loop-r-preserved c = (
  c.loop-r.invariant.0,
  c.loop-r.invariant.1,
  pass_next c.args.recs.now c.args.notes.now c.args.idents.now (omega (arith, c.loop-r.invariant.0, c.loop-r.invariant.1)) c.loop-r.r c.loop-r.notes c.loop-r.idents
      c.loop-r.owners _ _ _ _ _ _ _ _ (omega (arith, c.loop-r.invariant.0, c.loop-r-test.true))
      c.loop-r.invariant.2 c.first-child.ensures c.next-sibling.ensures refl c.owner_inside.ensures c.own.ensures c.own-in-loop-r.ensures c.note_earlier.ensures
      (elim c.if-is_ident.branch [
        | then-is_ident w ↦ inl (
          sym c.is_ident.ensures ∙ w.if-is_ident.true,
          w.idents-is ∙ w.push.ensures,
        )
        | else-is_ident w ↦ inr (sym c.is_ident.ensures ∙ w.if-is_ident.false, w.idents-is)
      ]),
)
