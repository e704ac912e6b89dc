-- Row 5 of 'Refused by place': "link neither 0 nor greater, or past the last record". Definitions only.
use Rattle.std.specs.Prelude.{Bool, not, ◌&&◌, ◌||◌, List, ℕ, ltb, eqb}
use Rattle.tables.specs.Record.{word, size}

-- link l of record r among n records: "0 for absent, else greater than the record's own number"
abbrev pub right_link : ℕ → ℕ → ℕ → Bool
right_link r n l = eqb l 0 || (ltb r l && ltb l n)

-- both links of record r, `first` and `next`
unfoldable pub right_links : List ℕ → ℕ → Bool
right_links recs r = right_link r (size recs) (word recs r 6) && right_link r (size recs) (word recs r 7)

abbrev pub wrong_links : List ℕ → ℕ → Bool
wrong_links recs r = not (right_links recs r)
