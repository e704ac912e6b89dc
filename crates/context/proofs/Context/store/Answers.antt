use Rattle.context.proofs.NameLaws.{store_captured}
use Rattle.context.proofs.Context.store.Goals as goal

pub returns-in-Ok-Upvalue : goal.returns-in-Ok-Upvalue
returns-in-Ok-Upvalue c =
    absurd (store_captured c.args.notes.now c.args.ident c.in-Ok-Upvalue.field-0-0 (rw c.in-Ok-Upvalue.field-0-is at c.in-Ok-Upvalue.ensures))
