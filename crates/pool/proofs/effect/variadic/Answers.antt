use mathlib.Core.Path.{ap, ◌∙◌}
use mathlib.Core.Bool.{not}
use borrow.Author.Tests.{eq-eqb}
use Rattle.pool.proofs.EffectLaws.{variadic_none, variadic_some}
use Rattle.pool.proofs.effect.variadic.Goals as goal

pub returns-then-params-ne0 : goal.returns-then-params-ne0
returns-then-params-ne0 c = c.flag.ensures ∙ variadic_some c.args.records.now c.args.params c.if-params-ne0.true

pub returns-else-params-ne0 : goal.returns-else-params-ne0
returns-else-params-ne0 c = ap not (eq-eqb _ _ c.if-params-ne0.false) ∙ variadic_none c.args.records.now c.args.params c.if-params-ne0.false
