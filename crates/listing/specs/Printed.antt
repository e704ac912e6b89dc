-- A plain printer of tables, in the form that genlist reads (document 01, 'The listing program'), and the tables that it can print. Definitions only.
use Rattle.std.specs.Prelude.{◌≡◌, List, [], ◌∷◌, ◌++◌, ℕ, zero, suc, ◌+◌, ◌*◌, ◌/◌, ◌≤◌, ◌<◌, length, take, drop}
use Rattle.opcode.specs.Names.{bytes}
use Rattle.listing.specs.Print.{decimal, hex_digits}
use Rattle.listing.specs.Text.{Tables, Rooms}

-- lines, each ended by a line feed
abbrev pub text_of : List (List ℕ) → List ℕ
text_of [] = []
text_of (l ∷ ls) = l ++ 10 ∷ text_of ls

-- the values after the first, with one space before each
abbrev pub spaced : List ℕ → List ℕ
spaced [] = []
spaced (v ∷ vs) = 32 ∷ decimal v ++ spaced vs

-- "decimal values"
abbrev pub values_text : List ℕ → List ℕ
values_text [] = []
values_text (v ∷ vs) = decimal v ++ spaced vs

-- the lines of n entries of so many values
abbrev pub row_lines : ℕ → ℕ → List ℕ → List (List ℕ)
row_lines count zero ws = []
row_lines count (suc n) ws = values_text (take count ws) ∷ row_lines count n (drop count ws)

-- two small hexadecimal digits for each byte
abbrev pub hex_text : List ℕ → List ℕ
hex_text [] = []
hex_text (b ∷ bs) = hex_digits 2 b ++ hex_text bs

-- table 1 is "hexadecimal, `-` if empty"
abbrev pub string_text : List ℕ → List ℕ
string_text [] = 45 ∷ []
string_text (b ∷ bs) = hex_text (b ∷ bs)

-- the lines of table 1: of each offset and length, the bytes of table 2 that they name
abbrev pub string_lines : List ℕ → List ℕ → List (List ℕ)
string_lines [] held = []
string_lines (o ∷ []) held = []
string_lines (o ∷ n ∷ ws) held = string_text (take n (drop o held)) ∷ string_lines ws held

-- "each a line of names, not checked, then lines of decimal values in that order, then a blank line", before the lines of the next table
abbrev pub table_then : List ℕ → ℕ → List ℕ → List (List ℕ) → List (List ℕ)
table_then names count ws rest = names ∷ row_lines count (length ws / count) ws ++ [] ∷ rest

-- "tables 1, 3, 4, 5, 6, 7"
abbrev pub table_lines : Tables → List (List ℕ)
table_lines t =
    bytes "strings" ∷ string_lines t.strings t.bytes
    ++ [] ∷ table_then (bytes "symbols") 2 t.symbols
    (table_then (bytes "references") 1 t.references
    (table_then (bytes "functions") 2 t.functions
    (table_then (bytes "members") 1 t.members
    (table_then (bytes "records") 8 t.records []))))

-- the text of tables
unfoldable pub tables_text : Tables → List ℕ
tables_text t = text_of (table_lines t)

-- every number of a list is below a bound
abbrev pub Below : ℕ → List ℕ → Type 0
Below bound [] = Unit
Below bound (v ∷ vs) = (v < bound) × Below bound vs

-- table 1 names the bytes of table 2 one after the other, from a place to the end
abbrev pub Running : ℕ → List ℕ → ℕ → Type 0
Running at [] end = at ≡ end
Running at (o ∷ []) end = ⊥
Running at (o ∷ n ∷ ws) end = (o ≡ at) × Running (at + n) ws end

-- words of whole entries, of 32 bits each, no more than 140 entries have and no more than are lent
pub record Entries (count most room : ℕ) (ws : List ℕ) : Type 0 where
  pub entries : length ws / count * count ≡ length ws
  pub words : Below 4294967296 ws
  pub limit : length ws ≤ most
  pub lent : length ws ≤ room

-- the tables that genlist takes, and that are lent the space; table 1 has the form in which reading gives it
pub record Fits (r : Rooms) (t : Tables) : Type 0 where
  pub strings : Running 0 t.strings (length t.bytes)
  pub entries : length t.strings ≤ 280
  pub lent : length t.strings ≤ r.strings
  pub bytes : Below 256 t.bytes
  pub size : length t.bytes ≤ 4096
  pub room : length t.bytes ≤ r.bytes
  pub symbols : Entries 2 280 r.symbols t.symbols
  pub references : Entries 1 140 r.references t.references
  pub functions : Entries 2 280 r.functions t.functions
  pub members : Entries 1 140 r.members t.members
  pub records : Entries 8 1120 r.records t.records
