use mathlib.Core.Path.{◌∙◌}
use Rattle.tables.proofs.KindLaws.{no_kind}
use Rattle.tables.specs.declared.kind.Kind.TheVariants as kind
use Rattle.plain.proofs.LeafLaws.{child_first}
use Rattle.plain.proofs.children.first_child.Goals as goal

pub returns : goal.returns
returns c =
    c.first.ensures ∙ child_first c.args.recs.now c.args.c c.if-c-eq0.false (no_kind _ _ kind.Function _ c.kind.ensures c.eq.ensures tt c.if-eq.false)
