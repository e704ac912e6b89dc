-- "Checked row by row, a row over all its places before the next, by rising place": the first place at which a rule is broken. Definitions only.
use Rattle.std.specs.Prelude.{Bool, ℕ, Option}
use Rattle.std.specs.List.{find, range_with_len}

-- among the n places from i on
abbrev pub broken_from : (ℕ → Bool) → ℕ → ℕ → Option ℕ
broken_from bad i n = find bad (range_with_len i n)

-- among the places below n
abbrev pub broken : (ℕ → Bool) → ℕ → Option ℕ
broken bad n = broken_from bad 0 n
