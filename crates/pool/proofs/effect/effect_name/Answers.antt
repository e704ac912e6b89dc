use mathlib.Core.Path.{◌∙◌}
use Rattle.pool.proofs.EffectLaws.{name_none, name_ident}
use Rattle.tables.proofs.KindLaws.{no_kind}
use Rattle.tables.specs.declared.kind.Kind.TheVariants as kind
use Rattle.pool.proofs.effect.effect_name.Goals as goal

pub returns-then-ident-eq0 : goal.returns-then-ident-eq0
returns-then-ident-eq0 c =
    let a = c.args in
    name_none a.records.now a.r _ (no_kind _ _ kind.Effect _ c.kind.ensures c.eq.ensures tt c.if-eq.false) c.first-ident.ensures c.if-ident-eq0.true

pub returns : goal.returns
returns c =
    let a = c.args in
    c.q.ensures ∙ name_ident a.records.now a.r _ (no_kind _ _ kind.Effect _ c.kind.ensures c.eq.ensures tt c.if-eq.false) c.first-ident.ensures c.if-ident-eq0.false
