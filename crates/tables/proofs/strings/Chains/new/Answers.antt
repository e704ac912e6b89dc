use Rattle.tables.proofs.SeenLaws.{chained_none}
use Rattle.tables.proofs.strings.Chains.new.Goals as goal

pub returns : goal.returns
returns c = λ key. chained_none key
