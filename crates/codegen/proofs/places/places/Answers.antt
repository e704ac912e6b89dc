use mathlib.Core.Path.{subst⁻¹}
use Prim.Native.Nat.{◌+◌}
use native.Mathlib.Omega.{arith}
use lib.ListN.{length}
use Rattle.tables.proofs.KindLaws.{is_kind, no_kind}
use Rattle.tables.specs.declared.kind.Kind.TheVariants as kind
use Rattle.codegen.proofs.PlacesLaws.{Laid, laid_function, laid_other}
use Rattle.codegen.proofs.places.places.Goals.{then-eq, else-eq}
use Rattle.codegen.proofs.places.places.Goals as goal

pub loop-r-preserved : goal.loop-r-preserved
loop-r-preserved c =
    let l = c.loop-r in
    elim c.if-eq.branch [
      | then-eq w ↦ subst⁻¹ (λ a. Laid c.args.recs.now (length c.args.table.now) (l.r + 1) a) w.table-is
          (laid_function _ _ c.requires l.table l.r _ (omega (arith, c.loop-r-test.true, c.size-n.ensures))
          (is_kind _ _ kind.Function _ c.kind.ensures c.eq.ensures tt w.if-eq.true)
          w.p-number.ensures l.invariant)
      | else-eq w ↦ subst⁻¹ (λ a. Laid c.args.recs.now (length c.args.table.now) (l.r + 1) a) w.table-is
          (laid_other _ _ c.requires l.table l.r (no_kind _ _ kind.Function _ c.kind.ensures c.eq.ensures tt w.if-eq.false) l.invariant)
    ]
