use Rattle.std.proofs.Common.{◌≡◌, ◌+◌, min, length}
use Rattle.replay.specs.Case.{start}
use Rattle.replay.proofs.case.Case.start.Given as goal

-- A turn for each table before; the place stays at one past the end. Assumes nothing.
abbrev pub invariant-loop-j : goal.invariant-loop-j
invariant-loop-j l = l.at ≡ min (start l.self.words.now l.self.numbers l.j) (length l.self.words.now + 1)
