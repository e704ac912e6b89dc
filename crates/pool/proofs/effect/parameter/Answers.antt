use mathlib.Core.Path.{refl, sym, ap, ◌∙◌}
use Prim.Native.Nat.{ℕ}
use Rattle.pool.specs.Consts.{names_from}
use Rattle.pool.proofs.EffectLaws.{names_none, below_none, below_function, below_other}
use Rattle.tables.proofs.KindLaws.{is_kind, no_kind}
use Rattle.tables.specs.declared.kind.Kind.TheVariants as kind
use Rattle.pool.proofs.effect.parameter.Goals as goal
use Rattle.pool.proofs.effect.parameter.Goals.{then-params-eq0-via-then-params-eq0, then-params-eq0-via-else-params-eq0+then-eq}

pub returns-then-params-eq0 : goal.returns-then-params-eq0
returns-then-params-eq0 c =
    let a = c.args in
    names_none a.records.now 0 refl ∙ sym
    (elim c.then-params-eq0.branch [
      | then-params-eq0-via-then-params-eq0 w ↦ below_none a.records.now a.params w.if-params-eq0.true
      | then-params-eq0-via-else-params-eq0+then-eq w ↦
          below_function a.records.now a.params w.if-params-eq0.false (is_kind _ _ kind.Function _ w.kind.ensures w.eq.ensures tt w.if-eq.true)
    ])

pub returns : goal.returns
returns c =
    let a = c.args in
    ap (λ (l : ℕ). names_from a.records.now l) c.first.ensures ∙ sym
    (below_other a.records.now a.params c.if-params-eq0.false (no_kind _ _ kind.Function _ c.kind.ensures c.eq.ensures tt c.if-eq.false))
