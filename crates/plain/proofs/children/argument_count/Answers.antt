use Rattle.context.proofs.Basics.{more_cap}
use Rattle.context.specs.Words.{more}
use Rattle.plain.proofs.EndLaws.{count_method, count_none, count_other}
use mathlib.Core.Path.{◌∙◌, ap}
use Rattle.plain.proofs.children.argument_count.Goals as goal

pub returns-then-callee-eq0 : goal.returns-then-callee-eq0
returns-then-callee-eq0 c =
    count_none c.args.recs.now c.args.callee c.args.n _ c.capped-count.ensures c.if-callee-eq0.true

pub returns-then-is_method : goal.returns-then-is_method
returns-then-is_method c =
    count_method c.args.recs.now c.args.callee c.args.n c.if-callee-eq0.false _ c.is_method.ensures _ (c.saturating_add.ensures ∙ ap more c.capped-count.ensures ∙
    more_cap c.args.n) c.if-is_method.true

pub returns : goal.returns
returns c =
    count_other c.args.recs.now c.args.callee c.args.n c.if-callee-eq0.false _ c.is_method.ensures _ c.capped-count.ensures c.if-is_method.false
