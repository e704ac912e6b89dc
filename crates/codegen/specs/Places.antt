-- The record of each function, by the function's number. Definitions only.
use Rattle.std.specs.Prelude.{◌≡◌, true, List, ℕ, ◌≤◌, ◌<◌, get_or}
use Rattle.tables.specs.Record.{word, words, size, is_function}

-- "functions .. numbered 0, 1, .. in visiting order": the Functions of the table have numbers below n, each one of its own
pub record Numbered (recs : List ℕ) (n : ℕ) : Type 0 where
  pub few : size recs ≤ 4096
  pub below : (r : ℕ) → r < size recs → is_function (words recs r) ≡ true → word recs r 2 < n
  pub apart : (r q : ℕ) → r < size recs → is_function (words recs r) ≡ true → q < size recs → is_function (words recs q) ≡ true
      → word recs r 2 ≡ word recs q 2 → r ≡ q

-- a table has at each Function's number its record
pub record Places (recs table : List ℕ) : Type 0 where
  pub places : (r : ℕ) → r < size recs → is_function (words recs r) ≡ true → get_or table (word recs r 2) 0 ≡ r
