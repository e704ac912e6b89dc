-- Rows 1 and 3 on small tables: what is refused, and where. Assumes nothing.
use mathlib.Core.Path.{◌≡◌, refl}
use mathlib.Core.List.{List, [], ◌∷◌}
use Prim.Native.Nat.{ℕ}
use lib.ListN.{replicate}
use Rattle.std.specs.Prelude.{None, Some}
use Rattle.tables.specs.Record.{absent}
use Rattle.tables.specs.Semantic.{share_start}
use Rattle.tables.specs.Lent.{unfit, lent_broken}
use Rattle.tables.specs.Entries.{same_string, equal_earlier, string_bad, symbol_bad, reference_bad, parent_bad, own_start, twice, member_bad, entries_broken}

-- strings `a` and `bc`, a Local and a Global symbol, a function of two members and one inside it that shares a symbol with it
abbrev strings : List ℕ
strings = 0 ∷ 1 ∷ 1 ∷ 2 ∷ []

abbrev bytes : List ℕ
bytes = 97 ∷ 98 ∷ 99 ∷ []

abbrev symbols : List ℕ
symbols = 0 ∷ 0 ∷ 1 ∷ 1 ∷ []

abbrev references : List ℕ
references = 1 ∷ 0 ∷ 1 ∷ []

abbrev functions : List ℕ
functions = absent ∷ 2 ∷ 0 ∷ 1 ∷ []

abbrev members : List ℕ
members = 0 ∷ 1 ∷ 1 ∷ []

-- accepted; a byte too few; equal bytes at another offset; an unknown kind, though a reference is wrong too; a parent past the functions;
-- a count too many, though a member is wrong too; a symbol twice in one function
row_3 :
    entries_broken strings bytes symbols references functions members
    ∷ entries_broken strings (97 ∷ 98 ∷ []) symbols references functions members
    ∷ entries_broken (0 ∷ 1 ∷ 2 ∷ 1 ∷ []) (97 ∷ 98 ∷ 97 ∷ []) symbols references functions members
    ∷ entries_broken strings bytes (0 ∷ 0 ∷ 2 ∷ 1 ∷ []) (7 ∷ []) functions members
    ∷ entries_broken strings bytes symbols references (absent ∷ 2 ∷ 2 ∷ 1 ∷ []) members
    ∷ entries_broken strings bytes symbols references (absent ∷ 2 ∷ 0 ∷ 2 ∷ []) (7 ∷ 1 ∷ 1 ∷ [])
    ∷ entries_broken strings bytes symbols references functions (1 ∷ 1 ∷ 0 ∷ [])
    ∷ []
    ≡ None ∷ Some 1 ∷ Some 1 ∷ Some 1 ∷ Some 1 ∷ Some 2 ∷ Some 1 ∷ []
unfolding share_start same_string equal_earlier string_bad symbol_bad reference_bad parent_bad own_start twice member_bad entries_broken
row_3 = refl

-- 256 functions; 257; half a symbol, though there are no records; no records
row_1 :
    lent_broken strings bytes symbols references (replicate 512 0) members (replicate 8 0)
    ∷ lent_broken strings bytes symbols references (replicate 514 0) members (replicate 8 0)
    ∷ lent_broken strings bytes (0 ∷ 0 ∷ 1 ∷ []) references functions members []
    ∷ lent_broken strings bytes symbols references functions members []
    ∷ []
    ≡ None ∷ Some 5 ∷ Some 3 ∷ Some 7 ∷ []
unfolding unfit lent_broken
row_1 = refl
