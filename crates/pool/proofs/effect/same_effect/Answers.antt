use mathlib.Core.Path.{sym, ◌∙◌}
use borrow.Author.Tests.{ne_eqb}
use Rattle.std.proofs.lemmas.Bool.{true≢false}
use Rattle.pool.proofs.EffectLaws.{other_name, other_variadic, same_parameters}
use Rattle.pool.proofs.effect.same_effect.Goals as goal
use Rattle.pool.proofs.effect.same_effect.Goals.{then-effect_name, else-effect_name}

pub returns-then-variadic : goal.returns-then-variadic
returns-then-variadic c =
    let a = c.args in
    elim c.if-effect_name.branch [
      | then-effect_name w ↦
          same_parameters a.records.now a.a a.b _ _ _ _ c.params-c.ensures c.params-d.ensures c.effect_name.ensures c.effect_name-2.ensures w.if-effect_name.true
          _ _ w.variadic.ensures w.variadic-then-effect_name.ensures (sym w.value-is ∙ c.if-variadic.true) _ _ _ c.same_names.ensures c.parameter.ensures
          c.parameter-then-variadic.ensures
      | else-effect_name w ↦ absurd (true≢false (sym c.if-variadic.true ∙ w.value-is ∙ ne_eqb _ _ w.if-effect_name.false))
    ]

pub returns-else-variadic : goal.returns-else-variadic
returns-else-variadic c =
    let a = c.args in
    c.if-variadic.false ∙
    (elim c.if-effect_name.branch [
      | then-effect_name w ↦
          other_variadic a.records.now a.a a.b _ _ _ _ c.params-c.ensures c.params-d.ensures c.effect_name.ensures c.effect_name-2.ensures w.if-effect_name.true
          _ _ w.variadic.ensures w.variadic-then-effect_name.ensures (sym w.value-is ∙ c.if-variadic.false)
      | else-effect_name w ↦
          other_name a.records.now a.a a.b _ _ _ _ c.params-c.ensures c.params-d.ensures c.effect_name.ensures c.effect_name-2.ensures w.if-effect_name.false
    ])
