use Rattle.std.proofs.Common.{ℕ}
use Rattle.tables.specs.Naming.{Joined}
use Rattle.tables.specs.Scratch.{Handed, Computes}
use Rattle.tables.proofs.scratch.handed_down.Given as goal

abbrev pub invariant-loop-r : goal.invariant-loop-r
invariant-loop-r g l = (f : ℕ → ℕ → ℕ) → Computes (goal.F-post g l.down) f → Joined l.recs → Handed f l.recs l.top l.r l.a
