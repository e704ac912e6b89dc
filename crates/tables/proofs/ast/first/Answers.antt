use Rattle.tables.specs.Forest.{first as first_of}
use Rattle.tables.proofs.ast.first.Goals as goal

pub returns : goal.returns
unfolding first_of
returns c = c.link.ensures
