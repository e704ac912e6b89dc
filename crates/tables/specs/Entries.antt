-- Row 3 of document 01's table 'Refused by place': "tables 1 to 6 in turn (entry)", the first place of each. Definitions only.
use Rattle.std.specs.Prelude.{Bool, true, false, cond, not, ◌&&◌, ◌||◌, List, [], ◌∷◌, ℕ, zero, suc, ◌+◌, ◌-◌, length, get_or, leb, ltb, eqb, Option, None, Some}
use Rattle.tables.specs.Place.{broken_from, broken}
use Rattle.tables.specs.Record.{absent}
use Rattle.tables.specs.Semantic.{pairs, string_offset, string_length, text_of, symbol_kind, symbol_name, symbol_of, parent_of, share_start}

-- "in turn": a table's place, else the next table's
abbrev pub or_else : Option ℕ → Option ℕ → Option ℕ
or_else None b = b
or_else (Some i) b = Some i

-- a place was found
abbrev pub found : Option ℕ → Bool
found None = false
found (Some i) = true

-- equal element by element
abbrev pub same_list : List ℕ → List ℕ → Bool
same_list [] [] = true
same_list [] (y ∷ ys) = false
same_list (x ∷ xs) [] = false
same_list (x ∷ xs) (y ∷ ys) = eqb x y && same_list xs ys

-- two strings are equal when their bytes are
unfoldable pub same_string : List ℕ → List ℕ → ℕ → ℕ → Bool
same_string strings bytes i j = same_list (text_of strings bytes i) (text_of strings bytes j)

-- table 1: "string past the bytes"
abbrev pub past_bytes : List ℕ → List ℕ → ℕ → Bool
past_bytes strings bytes s = ltb (length bytes) (string_offset strings s + string_length strings s)

-- "or equal to an earlier one", at the later entry (reading 12)
unfoldable pub equal_earlier : List ℕ → List ℕ → ℕ → Bool
equal_earlier strings bytes s = found (broken (λ e. same_string strings bytes e s) s)

unfoldable pub string_bad : List ℕ → List ℕ → ℕ → Bool
string_bad strings bytes s = past_bytes strings bytes s || equal_earlier strings bytes s

-- table 3: "number out of range", the kind (0 Local, 1 Global) or the name string
unfoldable pub symbol_bad : List ℕ → List ℕ → ℕ → Bool
symbol_bad strings symbols s = ltb 1 (symbol_kind symbols s) || leb (pairs strings) (symbol_name symbols s)

-- table 4: "number out of range", the symbol
unfoldable pub reference_bad : List ℕ → List ℕ → ℕ → Bool
reference_bad symbols references r = leb (pairs symbols) (symbol_of references r)

-- table 5: "number out of range", a parent neither none nor below the table's length (reading 11)
unfoldable pub parent_bad : List ℕ → ℕ → Bool
parent_bad functions f = not (eqb (parent_of functions f) absent || ltb (parent_of functions f) (pairs functions))

-- "counts not summing to the members (place: the function count)", after table 5's entries (reading 10)
abbrev pub counts_broken : List ℕ → List ℕ → Option ℕ
counts_broken functions members = cond (eqb (share_start functions (pairs functions)) (length members)) None (Some (pairs functions))

-- the start of the share that place m lies in: the last start not after m, among those of shares 0 to f
unfoldable pub own_start : List ℕ → ℕ → ℕ → ℕ
own_start functions zero m = 0
own_start functions (suc f) m = cond (leb (share_start functions (suc f)) m) (share_start functions (suc f)) (own_start functions f m)

-- table 6: "a symbol twice in one function", at the later entry (reading 12), for a share that starts at `start`
unfoldable pub twice : List ℕ → ℕ → ℕ → Bool
twice members start m = found (broken_from (λ e. eqb (get_or members e 0) (get_or members m 0)) start (m - start))

-- "number out of range" or twice
unfoldable pub member_bad : List ℕ → List ℕ → ℕ → ℕ → Bool
member_bad symbols members start m = leb (pairs symbols) (get_or members m 0) || twice members start m

abbrev pub own_bad : List ℕ → List ℕ → List ℕ → ℕ → Bool
own_bad symbols functions members m = member_bad symbols members (own_start functions (pairs functions) m) m

-- the first broken place of each table
abbrev pub strings_broken : List ℕ → List ℕ → Option ℕ
strings_broken strings bytes = broken (string_bad strings bytes) (pairs strings)

abbrev pub symbols_broken : List ℕ → List ℕ → Option ℕ
symbols_broken strings symbols = broken (symbol_bad strings symbols) (pairs symbols)

abbrev pub references_broken : List ℕ → List ℕ → Option ℕ
references_broken symbols references = broken (reference_bad symbols references) (length references)

abbrev pub parents_broken : List ℕ → Option ℕ
parents_broken functions = broken (parent_bad functions) (pairs functions)

abbrev pub members_broken : List ℕ → List ℕ → List ℕ → Option ℕ
members_broken symbols functions members = broken (own_bad symbols functions members) (length members)

-- "tables 1 to 6 in turn"
unfoldable pub entries_broken : (strings bytes symbols references functions members : List ℕ) → Option ℕ
entries_broken strings bytes symbols references functions members =
    or_else (strings_broken strings bytes)
    (or_else (symbols_broken strings symbols)
    (or_else (references_broken symbols references)
    (or_else (parents_broken functions) (or_else (counts_broken functions members) (members_broken symbols functions members)))))
