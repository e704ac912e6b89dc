use native.Mathlib.Omega.{arith}
use Rattle.tables.proofs.SeenLaws.{stamped_more, stamped_past}
use Rattle.tables.proofs.members.stamp.Goals as goal

pub returns-then-symbol-lt1024 : goal.returns-then-symbol-lt1024
returns-then-symbol-lt1024 c = let a = c.args in λ key few e before. stamped_more key a.seen.now a.symbol a.m e before

pub returns-else-m-lt1024 : goal.returns-else-m-lt1024
returns-else-m-lt1024 c = let a = c.args in λ key few e before. stamped_past key a.seen.now a.symbol a.m e before (omega arith)
