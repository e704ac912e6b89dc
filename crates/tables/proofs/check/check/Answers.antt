use Rattle.tables.specs.declared.refusal.Refusal.TheVariants.{Table}
use Rattle.tables.specs.Check.{check_of}
use Rattle.tables.proofs.CheckLaws.{halt, row_one}
use Rattle.tables.proofs.check.check.Goals as goal

pub returns-in-Some : goal.returns-in-Some
unfolding check_of
returns-in-Some c = halt Table _ _ _ _ c.lent.ensures c.in-Some.is

pub returns : goal.returns
returns c = row_one _ _ _ _ _ _ _ _ _ c.lent.ensures c.in_default.is c.rows.ensures
