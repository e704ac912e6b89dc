-- Counts as words hold them, and a run's flow. Definitions only.
use Rattle.std.specs.Prelude.{Bool, true, false, ℕ, ◌+◌, min}
use Rattle.rules.specs.declared.Flow.{Flow}
use Rattle.rules.specs.declared.Flow.TheVariants.{Go, Cut, Refused}

-- the largest word, a number as a word holds it, one more
abbrev pub limit : ℕ
limit = 4294967295

abbrev pub cap : ℕ → ℕ
cap n = min n limit

abbrev pub more : ℕ → ℕ
more n = min (n + 1) limit

-- how many open loops have a place
abbrev pub KEPT : ℕ
KEPT = 128

abbrev pub is_go : Flow → Bool
is_go Go = true
is_go (Cut k a b) = false
is_go (Refused x r) = false
