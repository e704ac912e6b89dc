-- The cases that stand one behind the other. Definitions only.
use Rattle.std.specs.Prelude.{◌≡◌, List, [], ℕ, ◌≤◌, ◌<◌, max, length, drop, Option, Some, None, MatchOption}
use Rattle.replay.specs.declared.case.Case.{Case}
use Rattle.replay.specs.declared.case.Cases.{Cases}
use Rattle.replay.specs.Case.{start}

-- the case that begins here, if its seven tables end within the words; else none
abbrev pub Whole : List ℕ → ℕ → Option Case → Type 0
Whole words numbers (Some case) = (start words numbers 7 ≤ length words) × (case.words.now ≡ words) × (case.numbers ≡ numbers)
Whole words numbers None = length words < start words numbers 7

-- what is left begins behind that case, and is less
abbrev pub behind : List ℕ → ℕ → List ℕ
behind words numbers = drop (max (start words numbers 7) 1) words

-- a call gives the first case, whole or none, and leaves the words behind it; where no word is left it gives nothing
abbrev pub Next : Cases → Option (Option Case) → Cases → Type 0
Next s r t =
    (t.numbers ≡ s.numbers)
    × MatchOption r ((s.words.now ≡ []) × (t.words.now ≡ []))
    (λ found. (0 < length s.words.now) × Whole s.words.now s.numbers found × (t.words.now ≡ behind s.words.now s.numbers))
