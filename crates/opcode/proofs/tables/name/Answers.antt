use Rattle.opcode.proofs.Table.{got_text}
use Rattle.opcode.proofs.tables.name.Goals as goal

pub returns : goal.returns
returns c = search got_text
