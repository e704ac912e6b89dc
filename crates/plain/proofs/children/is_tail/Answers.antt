use mathlib.Core.Path.{refl}
use Rattle.tables.proofs.KindLaws.{other_kind, same_kind}
use Rattle.tables.specs.declared.kind.Kind.TheVariants as kind
use Rattle.plain.proofs.CountLaws.{tail_by, tail_none, tail_other}
use Rattle.plain.proofs.children.is_tail.Goals as goal

pub returns-then-argument-eq0 : goal.returns-then-argument-eq0
returns-then-argument-eq0 c =
    tail_none c.args.recs.now c.args.argument c.if-argument-eq0.true

pub returns-then-ne : goal.returns-then-ne
returns-then-ne c =
    tail_other c.args.recs.now c.args.argument _ c.if-argument-eq0.false refl (other_kind _ _ kind.Call _ c.kind.ensures c.ne.ensures tt c.if-ne.true)

pub returns : goal.returns
returns c =
    tail_by c.args.recs.now c.args.argument _ _ c.if-argument-eq0.false refl (same_kind _ _ kind.Call _ c.kind.ensures c.ne.ensures tt c.if-ne.false) c.first-callee.ensures _ _ _
    c.next-arguments.ensures
    c.arguments_len-n.ensures c.nth.ensures
