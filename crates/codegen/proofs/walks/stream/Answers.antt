use mathlib.Core.Path.{refl}
use borrow.Author.Rules.{rules}
use Rattle.codegen.proofs.WalkLaws.{stream_walked}
use Rattle.codegen.proofs.walks.stream.Goals as goal

pub returns : goal.returns
returns c =
    let a = c.args.tree.now in
    stream_walked a.notes.now a.records.now c.args.r c.start_consts.ensures.words refl c.body.ensures c.requires (search rules) (search rules)
