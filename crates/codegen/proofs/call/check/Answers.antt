use Rattle.codegen.proofs.AnswerLaws.{rows_checked}
use Rattle.codegen.proofs.call.check.Goals as goal

pub returns : goal.returns
returns c =
    let t = c.args.tables.now in
    rows_checked t.strings.now t.bytes.now t.symbols.now t.references.now t.functions.now t.members.now t.records.now _ _ _ _ _
    _ c.lent.ensures c.in_default.is _ c.space.ensures c.in_default-space.is _ c.rows.ensures
