-- Tables 1 to 6 of document 01, 'The call': strings, bytes, symbols, references, functions, members. Definitions only.
-- An entry that a table does not have reads as 0.
use Rattle.std.specs.Prelude.{List, ℕ, zero, suc, ◌+◌, ◌*◌, ◌/◌, length, get_or, take, drop}

-- word k of entry i, in a table of two words an entry
abbrev pub pair : List ℕ → ℕ → ℕ → ℕ
pair table i k = get_or table (i * 2 + k) 0

-- how many entries such a table has
abbrev pub pairs : List ℕ → ℕ
pairs table = length table / 2

-- "1 strings: offset, length into 2, bytes"
abbrev pub string_offset : List ℕ → ℕ → ℕ
string_offset strings s = pair strings s 0

abbrev pub string_length : List ℕ → ℕ → ℕ
string_length strings s = pair strings s 1

-- the bytes of string s, as many of them as there are
abbrev pub text_of : List ℕ → List ℕ → ℕ → List ℕ
text_of strings bytes s = take (string_length strings s) (drop (string_offset strings s) bytes)

-- "3 symbols: kind (0 Local, 1 Global), name string"
abbrev pub symbol_kind : List ℕ → ℕ → ℕ
symbol_kind symbols s = pair symbols s 0

abbrev pub symbol_name : List ℕ → ℕ → ℕ
symbol_name symbols s = pair symbols s 1

-- "4 references: symbol"
abbrev pub symbol_of : List ℕ → ℕ → ℕ
symbol_of references r = get_or references r 0

-- "5 functions: parent or none, count"
abbrev pub parent_of : List ℕ → ℕ → ℕ
parent_of functions f = pair functions f 0

abbrev pub member_count : List ℕ → ℕ → ℕ
member_count functions f = pair functions f 1

-- "6 members: symbols, each function's share in turn": where function f's share starts, the sum of the counts before it
unfoldable pub share_start : List ℕ → ℕ → ℕ
share_start functions zero = 0
share_start functions (suc f) = share_start functions f + member_count functions f

-- the symbols of function f, in order
abbrev pub share : List ℕ → List ℕ → ℕ → List ℕ
share functions members f = take (member_count functions f) (drop (share_start functions f) members)
