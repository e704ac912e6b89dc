-- genlist's text as a function of its lines (document 01, 'The listing program'; readings 27, 28 and 38): what `read` promises. Definitions only.
use Rattle.std.specs.Prelude.{◌≡◌, Bool, true, false, cond, ◌||◌, List, [], ◌∷◌, ◌++◌, ℕ, ◌+◌, length, take, drop, leb, ltb, Option, Some, None, Result, Ok, Err}
use Rattle.listing.specs.declared.read.UnreadLine.{UnreadLine}
use Rattle.listing.specs.declared.read.Sizes.{Sizes}
use Rattle.listing.specs.declared.read.Lent.{Lent}
use Rattle.listing.specs.Lines.{lines_of}
use Rattle.listing.specs.Read.{values_of, string_of}

-- the words of the tables, and the bytes of table 2
pub record Tables : Type 0 where
  pub strings : List ℕ
  pub bytes : List ℕ
  pub symbols : List ℕ
  pub references : List ℕ
  pub functions : List ℕ
  pub members : List ℕ
  pub records : List ℕ

-- how many words, or bytes, are lent for each
pub record Rooms : Type 0 where
  pub strings : ℕ
  pub bytes : ℕ
  pub symbols : ℕ
  pub references : ℕ
  pub functions : ℕ
  pub members : ℕ
  pub records : ℕ

-- the tables; or "`input` and the line number"
pub data Outcome : Type 0 where
  tables : Tables → Outcome
  input : ℕ → Outcome

-- what a table's lines give, the lines after it and the first one's number; or the number of the line that can't be read
pub data Block (A : Type 0) : Type 0 where
  got : A → List (List ℕ) → ℕ → Block A
  stop : ℕ → Block A

-- words, and those of the lines after them
abbrev pub onward : List ℕ → Block (List ℕ) → Block (List ℕ)
onward vs (stop m) = stop m
onward vs (got ws ls m) = got (vs ++ ws) ls m

-- line n's values, if it can be read, and those of the lines after it
abbrev pub before : ℕ → Option (List ℕ) → Block (List ℕ) → Block (List ℕ)
before n None rest = stop n
before n (Some vs) rest = onward vs rest

-- "lines of decimal values in that order, then a blank line", from line n on, so many words being read before; `most` are the words of 140 entries,
-- `room` those that are lent; the end of the text ends table 7 alone, and otherwise is the line after the last (readings 27 and 28)
abbrev pub rows_of : (count most room : ℕ) → Bool → ℕ → ℕ → List (List ℕ) → Block (List ℕ)
rows_of count most room last n used [] = cond last (got [] [] n) (stop n)
rows_of count most room last n used ([] ∷ ls) = got [] ls (n + 1)
rows_of count most room last n used ((b ∷ bs) ∷ ls) =
    cond (leb most used || ltb room (used + count)) (stop n)
    (before n (values_of count (b ∷ bs)) (rows_of count most room last (n + 1) (used + count) ls))

-- "each a line of names, not checked"
abbrev pub table_of : (count most room : ℕ) → Bool → List (List ℕ) → ℕ → Block (List ℕ)
table_of count most room last [] n = stop n
table_of count most room last (l ∷ ls) n = rows_of count most room last (n + 1) 0 ls

-- the same of table 1's words and its strings' bytes
abbrev pub onward_text : List ℕ → List ℕ → Block (List ℕ × List ℕ) → Block (List ℕ × List ℕ)
onward_text ws bs (stop m) = stop m
onward_text ws bs (got x ls m) = got ((ws ++ x.0), (bs ++ x.1)) ls m

-- line n's string, its offset and its length, if it can be read and there is room; "4,096 bytes; more, or text it can't read, gives `input`"
abbrev pub before_text : ℕ → ℕ → ℕ → Option (List ℕ) → (ℕ → Block (List ℕ × List ℕ)) → Block (List ℕ × List ℕ)
before_text n room held None rest = stop n
before_text n room held (Some bs) rest =
    cond (ltb 4096 (held + length bs) || ltb room (held + length bs)) (stop n) (onward_text (held ∷ length bs ∷ []) bs (rest (held + length bs)))

-- "1 (hexadecimal, `-` if empty)", from line n on, so many words and bytes being read before; 140 entries are 280 words
abbrev pub strings_of : (room1 room2 : ℕ) → ℕ → ℕ → ℕ → List (List ℕ) → Block (List ℕ × List ℕ)
strings_of room1 room2 n used held [] = stop n
strings_of room1 room2 n used held ([] ∷ ls) = got ([], []) ls (n + 1)
strings_of room1 room2 n used held ((b ∷ bs) ∷ ls) =
    cond (leb 280 used || ltb room1 (used + 2)) (stop n)
    (before_text n room2 held (string_of (b ∷ bs)) (λ h. strings_of room1 room2 (n + 1) (used + 2) h ls))

-- table 1 with its line of names
abbrev pub string_table : (room1 room2 : ℕ) → List (List ℕ) → ℕ → Block (List ℕ × List ℕ)
string_table room1 room2 [] n = stop n
string_table room1 room2 (l ∷ ls) n = strings_of room1 room2 (n + 1) 0 0 ls

-- the next table, if this one could be read
abbrev pub after : {A : Type 0} → Block A → (A → List (List ℕ) → ℕ → Outcome) → Outcome
after (stop n) f = input n
after (got x ls n) f = f x ls n

-- after table 7: "blank lines after it are well, another line is `input`" (reading 28)
abbrev pub ended : Tables → List (List ℕ) → ℕ → Outcome
ended t [] n = tables t
ended t ([] ∷ ls) n = ended t ls (n + 1)
ended t ((b ∷ bs) ∷ ls) n = input n

-- "`genlist` reads tables 1, 3, 4, 5, 6, 7 … It takes 140 entries of each table and 4,096 bytes"; lines count from 1
unfoldable pub read_of : Rooms → List ℕ → Outcome
read_of r text =
    after (string_table r.strings r.bytes (lines_of text) 1) (λ one l3 n3.
    after (table_of 2 280 r.symbols false l3 n3) (λ symbols l4 n4.
    after (table_of 1 140 r.references false l4 n4) (λ references l5 n5.
    after (table_of 2 280 r.functions false l5 n5) (λ functions l6 n6.
    after (table_of 1 140 r.members false l6 n6) (λ members l7 n7.
    after (table_of 8 1120 r.records true l7 n7) (λ records l n.
    ended record {
      strings = one.0;
      bytes = one.1;
      symbols = symbols;
      references = references;
      functions = functions;
      members = members;
      records = records;
    } l n))))))

-- the words that are lent, and the bytes
abbrev pub words : Lent → Tables
words l = record {
  strings = l.strings.now;
  bytes = l.bytes.now;
  symbols = l.symbols.now;
  references = l.references.now;
  functions = l.functions.now;
  members = l.members.now;
  records = l.records.now;
}

-- how many they are
abbrev pub rooms_of : Tables → Rooms
rooms_of t = record {
  strings = length t.strings;
  bytes = length t.bytes;
  symbols = length t.symbols;
  references = length t.references;
  functions = length t.functions;
  members = length t.members;
  records = length t.records;
}

-- the answer: how many words and bytes were read, or the line that can't be read
abbrev pub reading_of : Outcome → Result Sizes UnreadLine
reading_of (input line) = Err record { line = line }
reading_of (tables t) = Ok record {
  strings = length t.strings;
  bytes = length t.bytes;
  symbols = length t.symbols;
  references = length t.references;
  functions = length t.functions;
  members = length t.members;
  records = length t.records;
}

-- tables that begin with these
pub record Begin (t t' : Tables) : Type 0 where
  pub strings : take (length t.strings) t'.strings ≡ t.strings
  pub bytes : take (length t.bytes) t'.bytes ≡ t.bytes
  pub symbols : take (length t.symbols) t'.symbols ≡ t.symbols
  pub references : take (length t.references) t'.references ≡ t.references
  pub functions : take (length t.functions) t'.functions ≡ t.functions
  pub members : take (length t.members) t'.members ≡ t.members
  pub records : take (length t.records) t'.records ≡ t.records

-- what the lent tables hold afterwards: where the text could be read they begin with its tables, else they are free (reading 50)
abbrev pub Holds : Outcome → Tables → Type 0
Holds (input line) t' = Unit
Holds (tables t) t' = Begin t t'

-- tables that are as they were past these
pub record Past (t t₀ t' : Tables) : Type 0 where
  pub strings : drop (length t.strings) t'.strings ≡ drop (length t.strings) t₀.strings
  pub bytes : drop (length t.bytes) t'.bytes ≡ drop (length t.bytes) t₀.bytes
  pub symbols : drop (length t.symbols) t'.symbols ≡ drop (length t.symbols) t₀.symbols
  pub references : drop (length t.references) t'.references ≡ drop (length t.references) t₀.references
  pub functions : drop (length t.functions) t'.functions ≡ drop (length t.functions) t₀.functions
  pub members : drop (length t.members) t'.members ≡ drop (length t.members) t₀.members
  pub records : drop (length t.records) t'.records ≡ drop (length t.records) t₀.records

-- what else the lent tables hold afterwards: where the text could be read, nothing past its tables is changed
abbrev pub Stays : Outcome → Tables → Tables → Type 0
Stays (input line) t₀ t' = Unit
Stays (tables t) t₀ t' = Past t t₀ t'

-- the slices that were lent are lent still, as long as they were
pub record SameSlices (l l' : Lent) : Type 0 where
  pub strings : l'.strings.ghost_name ≡ l.strings.ghost_name
  pub bytes : l'.bytes.ghost_name ≡ l.bytes.ghost_name
  pub symbols : l'.symbols.ghost_name ≡ l.symbols.ghost_name
  pub references : l'.references.ghost_name ≡ l.references.ghost_name
  pub functions : l'.functions.ghost_name ≡ l.functions.ghost_name
  pub members : l'.members.ghost_name ≡ l.members.ghost_name
  pub records : l'.records.ghost_name ≡ l.records.ghost_name
  pub many_strings : length l'.strings.now ≡ length l.strings.now
  pub many_bytes : length l'.bytes.now ≡ length l.bytes.now
  pub many_symbols : length l'.symbols.now ≡ length l.symbols.now
  pub many_references : length l'.references.now ≡ length l.references.now
  pub many_functions : length l'.functions.now ≡ length l.functions.now
  pub many_members : length l'.members.now ≡ length l.members.now
  pub many_records : length l'.records.now ≡ length l.records.now
