-- Row 1 of document 01's table 'Refused by place': the lent tables, by rising number. Definitions only.
use Rattle.std.specs.Prelude.{Bool, ◌||◌, List, [], ◌∷◌, ℕ, ◌/◌, ◌%◌, length, ltb, eqb, Option}
use Rattle.std.specs.List.{position_from}

-- "over its limit, a part entry": more entries than the limit, or a length that is no multiple of the entry's words (reading 15)
unfoldable pub unfit : ℕ → ℕ → ℕ → Bool
unfit width limit words = ltb limit (words / width) || ltb 0 (words % width)

-- "by rising place": the first of the tables from number t on that is refused
abbrev pub first_refused : ℕ → List Bool → Option ℕ
first_refused t bs = position_from (λ b. b) t bs

-- "Limits: 4,096 records, 256 functions, 1,024 symbols, members, strings; 4,096 references; 65,536 bytes." and "or no records": tables 1 to 7 in turn
abbrev pub refused : (strings bytes symbols references functions members records : List ℕ) → List Bool
refused strings bytes symbols references functions members records =
    unfit 2 1024 (length strings)
    ∷ unfit 1 65536 (length bytes)
    ∷ unfit 2 1024 (length symbols)
    ∷ unfit 1 4096 (length references)
    ∷ unfit 2 256 (length functions)
    ∷ unfit 1 1024 (length members)
    ∷ (unfit 8 4096 (length records) || eqb (length records) 0)
    ∷ []

unfoldable pub lent_broken : (strings bytes symbols references functions members records : List ℕ) → Option ℕ
lent_broken strings bytes symbols references functions members records =
    first_refused 1 (refused strings bytes symbols references functions members records)
