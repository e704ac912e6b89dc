-- Row 7 of document 01: "one but 0 not named by exactly one link". Definitions only.
use Rattle.std.specs.Prelude.{Bool, cond, not, ◌&&◌, List, ◌⊎◌, ◌≡◌, ℕ, zero, suc, ◌+◌, ◌≤◌, ◌<◌, ltb, eqb, Option}
use Rattle.tables.specs.Record.{word, size}
use Rattle.tables.specs.Place.{broken}

-- 1 where link l names record x, else 0
unfoldable pub one : ℕ → ℕ → ℕ
one x l = cond (eqb x l) 1 0

-- how many of record r's two links name x
abbrev pub names : List ℕ → ℕ → ℕ → ℕ
names recs x r = one x (word recs r 6) + one x (word recs r 7)

-- how many links of the first n records name x
unfoldable pub named_by : List ℕ → ℕ → ℕ → ℕ
named_by recs x zero = 0
named_by recs x (suc n) = names recs x n + named_by recs x n

-- how many links name x, record 0's included
abbrev pub named : List ℕ → ℕ → ℕ
named recs x = named_by recs x (size recs)

-- any record but 0 that is not named exactly once
abbrev pub misnamed : List ℕ → ℕ → Bool
misnamed recs x = ltb 0 x && not (eqb (named recs x) 1)

abbrev pub naming : List ℕ → Option ℕ
naming recs = broken (misnamed recs) (size recs)

-- a link word that keeps row 5, "0 for absent, else greater than the record's own number" and inside the table
abbrev pub Lawful : List ℕ → ℕ → ℕ → Type 0
Lawful recs r l = (l ≡ 0) ⊎ ((r < l) × (l < size recs))

-- what rows 1, 5, 6 and 7 leave: there is a record, links are lawful, record 0 has no sibling, every other record is named once
pub record Joined (recs : List ℕ) : Type 0 where
  pub some : 0 < size recs
  pub alone : word recs 0 7 ≡ 0
  pub lawful : (r : ℕ) → r < size recs → Lawful recs r (word recs r 6) × Lawful recs r (word recs r 7)
  pub named_once : (x : ℕ) → 1 ≤ x → x < size recs → named recs x ≡ 1
