-- Printed tables are read back: reading the text of tables that fit gives these tables.
use mathlib.Core.Path.{◌≡◌, refl, sym, ap, subst, ◌∙◌}
use mathlib.Core.Bool.{Bool, true, false, cond}
use mathlib.Core.List.{List, [], ◌∷◌, ◌++◌}
use Rattle.std.proofs.Common.{Option}
use Prim.Native.Nat.{ℕ, zero, suc, ◌+◌, ◌*◌, ◌/◌, ◌≤◌, ◌<◌}
use native.Mathlib.Nat.{suc-mul}
use native.Mathlib.Omega.{arith}
use lib.ListN.{length, take, drop, length-take, length-drop, take-append-drop, drop_of_length-le}
use lib.Seq.{drop-drop}
use Rattle.opcode.specs.Names.{bytes}
use Rattle.listing.specs.Read.{values_of, string_of}
use Rattle.listing.specs.Text.{Tables, Rooms, tables, Block, got, stop, onward, onward_text, before, before_text}
use Rattle.listing.specs.Text.{rows_of, table_of, strings_of, string_table, after, read_of}
use Rattle.listing.specs.Printed.{values_text, row_lines, string_text, string_lines, table_then, table_lines, tables_text, Below, Running, Entries, Fits}
use Rattle.listing.proofs.RowsLaws.{rows_line, limits_none}
use Rattle.listing.proofs.StringsLaws.{strings_line, with_room}
use Rattle.listing.proofs.ReadingLaws.{then1, then3, then4, then5, then6, then7}
use Rattle.listing.proofs.PrintedLaws.{Plain, AllPlain, lines_text, values_read, values_some, values_plain, string_read, string_some, string_plain}

-- lines that give so much, with so many lines left
record Given {A : Type 0} (b : Block A) (x : A) (ls : List (List ℕ)) : Type 0 where
  pub number : ℕ
  pub by : b ≡ got x ls number

below_take : (bound n : ℕ) (l : List ℕ) → Below bound l → Below bound (take n l)
below_take bound zero l p = tt
below_take bound (suc n) [] p = tt
below_take bound (suc n) (x ∷ xs) p = (p.0, below_take bound n xs p.1)

below_drop : (bound n : ℕ) (l : List ℕ) → Below bound l → Below bound (drop n l)
below_drop bound zero l p = p
below_drop bound (suc n) [] p = tt
below_drop bound (suc n) (x ∷ xs) p = below_drop bound n xs p.1

-- the lines of a table, and the blank line after them
module _ (count most room : ℕ) (last : Bool) (some-values : 0 < count) (rest : List (List ℕ)) where
  no_rows : (n used : ℕ) (ws : List ℕ) → length ws ≡ 0 → Given (rows_of count most room last n used ([] ∷ rest)) ws rest
  no_rows n used [] e = record { number = n + 1; by = refl }
  no_rows n used (w ∷ ws) e = absurd (omega arith)

  one_row : (n used : ℕ) (ws : List ℕ) (ls : List (List ℕ)) → count ≤ length ws → Below 4294967296 ws → used + length ws ≤ most → used + length ws ≤ room
      → Given (rows_of count most room last (n + 1) (used + count) ls) (drop count ws) rest
      → Given (rows_of count most room last n used (values_text (take count ws) ∷ ls)) ws rest
  one_row n used ws ls h p k m g = record { number = g.number; by = opened ∙ read ∙ ap (onward (take count ws)) g.by ∙ whole }
    where
      width : length (take count ws) ≡ count
      width = omega (arith, length-take count ws)

      opened : rows_of count most room last n used (values_text (take count ws) ∷ ls)
          ≡ before n (values_of count (values_text (take count ws))) (rows_of count most room last (n + 1) (used + count) ls)
      opened =
          rows_line count most room last n used (values_text (take count ws)) ls (values_some (take count ws) (omega (arith, width)))
          ∙ ap (λ (t : Bool). cond t (stop n)
          (before n (values_of count (values_text (take count ws))) (rows_of count most room last (n + 1) (used + count) ls)))
          (limits_none most used room (used + count) (omega arith) (omega arith))

      read : before n (values_of count (values_text (take count ws))) (rows_of count most room last (n + 1) (used + count) ls)
          ≡ onward (take count ws) (rows_of count most room last (n + 1) (used + count) ls)
      read =
          ap (λ (o : Option (List ℕ)). before n o (rows_of count most room last (n + 1) (used + count) ls))
          (ap (λ (i : ℕ). values_of i (values_text (take count ws))) (sym width) ∙ values_read (take count ws) (below_take 4294967296 count ws p))

      whole : got (take count ws ++ drop count ws) rest g.number ≡ got ws rest g.number
      whole = ap (λ (l : List ℕ). got l rest g.number) (take-append-drop count ws)

  rows_read : (m n used : ℕ) (ws : List ℕ) → m * count ≡ length ws → Below 4294967296 ws → used + length ws ≤ most → used + length ws ≤ room
      → Given (rows_of count most room last n used (row_lines count m ws ++ [] ∷ rest)) ws rest
  rows_read zero n used ws e p k h = no_rows n used ws (omega arith)
  rows_read (suc m) n used ws e p k h =
      let s = suc-mul m count in
      let l = length-drop count ws in
      one_row n used ws (row_lines count m (drop count ws) ++ [] ∷ rest) (omega arith) p k h
      (rows_read m (n + 1) (used + count) (drop count ws) (omega arith) (below_drop 4294967296 count ws p) (omega arith) (omega arith))

  table_read : (n : ℕ) (names ws : List ℕ) → Entries count most room ws → Given (table_of count most room last (table_then names count ws rest) n) ws rest
  table_read n names ws f = rows_read (length ws / count) (n + 1) 0 ws f.entries f.words (omega (arith, f.limit)) (omega (arith, f.lent))

running_end : (at : ℕ) (ws : List ℕ) (end : ℕ) → Running at ws end → at ≤ end
running_end at [] end p = omega arith
running_end at (o ∷ []) end p = absurd p
running_end at (o ∷ n ∷ ws) end p = omega (arith, running_end (at + n) ws end p.1)

-- the lines of table 1, and the blank line after them
module _ (room1 room2 : ℕ) (bytes : List ℕ) (small : Below 256 bytes) (limit : length bytes ≤ 4096) (lent : length bytes ≤ room2)
    (rest : List (List ℕ)) where
  one_string : (n used held m : ℕ) (ws : List ℕ) (ls : List (List ℕ)) → held + m ≤ length bytes → used + 2 ≤ 280 → used + 2 ≤ room1
      → Given (strings_of room1 room2 (n + 1) (used + 2) (held + m) ls) (ws, drop (held + m) bytes) rest
      → Given (strings_of room1 room2 n used held (string_text (take m (drop held bytes)) ∷ ls)) ((held ∷ m ∷ ws), drop held bytes) rest
  one_string n used held m ws ls h k r g = record { number = g.number; by = opened ∙ read ∙ stored ∙ ap (onward_text (held ∷ m ∷ []) new) g.by ∙ whole }
    where
      new : List ℕ
      new = take m (drop held bytes)

      size : length new ≡ m
      size = omega (arith, length-take m (drop held bytes), length-drop held bytes)

      opened : strings_of room1 room2 n used held (string_text new ∷ ls)
          ≡ before_text n room2 held (string_of (string_text new)) (λ i. strings_of room1 room2 (n + 1) (used + 2) i ls)
      opened =
          strings_line room1 room2 n used held (string_text new) ls (string_some new)
          ∙ ap (λ (t : Bool). cond t (stop n)
          (before_text n room2 held (string_of (string_text new)) (λ i. strings_of room1 room2 (n + 1) (used + 2) i ls)))
          (limits_none 280 used room1 (used + 2) (omega arith) r)

      read : before_text n room2 held (string_of (string_text new)) (λ i. strings_of room1 room2 (n + 1) (used + 2) i ls)
          ≡ onward_text (held ∷ length new ∷ []) new (strings_of room1 room2 (n + 1) (used + 2) (held + length new) ls)
      read =
          ap (λ (o : Option (List ℕ)). before_text n room2 held o (λ i. strings_of room1 room2 (n + 1) (used + 2) i ls))
          (string_read new (below_take 256 m (drop held bytes) (below_drop 256 held bytes small)))
          ∙ with_room room2 held n new (λ i. strings_of room1 room2 (n + 1) (used + 2) i ls) (omega (arith, size)) (omega (arith, size))

      stored : onward_text (held ∷ length new ∷ []) new (strings_of room1 room2 (n + 1) (used + 2) (held + length new) ls)
          ≡ onward_text (held ∷ m ∷ []) new (strings_of room1 room2 (n + 1) (used + 2) (held + m) ls)
      stored = ap (λ (i : ℕ). onward_text (held ∷ i ∷ []) new (strings_of room1 room2 (n + 1) (used + 2) (held + i) ls)) size

      whole : ◌≡◌ {A = Block (List ℕ × List ℕ)} (got ((held ∷ m ∷ ws), (new ++ drop (held + m) bytes)) rest g.number)
          (got ((held ∷ m ∷ ws), drop held bytes) rest g.number)
      whole =
          ap (λ (l : List ℕ). got ((held ∷ m ∷ ws), l) rest g.number)
          (ap (λ (l : List ℕ). new ++ l) (sym (drop-drop m held bytes)) ∙ take-append-drop m (drop held bytes))

  strings_read : (n used held : ℕ) (ws : List ℕ) → Running held ws (length bytes) → used + length ws ≤ 280 → used + length ws ≤ room1
      → Given (strings_of room1 room2 n used held (string_lines ws bytes ++ [] ∷ rest)) (ws, drop held bytes) rest
  strings_read n used held [] p k r =
      let e : length bytes ≤ held = omega arith in
      record { number = n + 1; by = ap (λ (l : List ℕ). got ([], l) rest (n + 1)) (sym (drop_of_length-le bytes e)) }
  strings_read n used held (o ∷ []) p k r = absurd p
  strings_read n used held (o ∷ m ∷ ws) p k r =
      subst
      (λ (i : ℕ). Given (strings_of room1 room2 n used held (string_text (take m (drop i bytes)) ∷ string_lines ws bytes ++ [] ∷ rest))
      ((i ∷ m ∷ ws), drop held bytes) rest)
      (sym p.0)
      (one_string n used held m ws (string_lines ws bytes ++ [] ∷ rest) (running_end (held + m) ws (length bytes) p.1) (omega arith) (omega arith)
      (strings_read (n + 1) (used + 2) (held + m) ws p.1 (omega arith) (omega arith)))

-- every printed line is plain
rows_plain : (count m : ℕ) (ws : List ℕ) (rest : List (List ℕ)) → AllPlain rest → AllPlain (row_lines count m ws ++ [] ∷ rest)
rows_plain count zero ws rest p = (tt, p)
rows_plain count (suc m) ws rest p = (values_plain (take count ws), rows_plain count m (drop count ws) rest p)

table_plain : (names : List ℕ) (count : ℕ) (ws : List ℕ) (rest : List (List ℕ)) → Plain names → AllPlain rest
    → AllPlain (table_then names count ws rest)
table_plain names count ws rest n p = (n, rows_plain count (length ws / count) ws rest p)

strings_plain : (ws held : List ℕ) (rest : List (List ℕ)) → AllPlain rest → AllPlain (string_lines ws held ++ [] ∷ rest)
strings_plain [] held rest p = (tt, p)
strings_plain (o ∷ []) held rest p = (tt, p)
strings_plain (o ∷ n ∷ ws) held rest p = (string_plain (take n (drop o held)), strings_plain ws held rest p)

-- the lines of each table and those after it
module _ (t : Tables) where
  abbrev lines7 : List (List ℕ)
  lines7 = table_then (bytes "records") 8 t.records []

  abbrev lines6 : List (List ℕ)
  lines6 = table_then (bytes "members") 1 t.members lines7

  abbrev lines5 : List (List ℕ)
  lines5 = table_then (bytes "functions") 2 t.functions lines6

  abbrev lines4 : List (List ℕ)
  lines4 = table_then (bytes "references") 1 t.references lines5

  abbrev lines3 : List (List ℕ)
  lines3 = table_then (bytes "symbols") 2 t.symbols lines4

  all_plain : AllPlain (table_lines t)
  all_plain = (
    word,
    strings_plain t.strings t.bytes lines3
        (table_plain (bytes "symbols") 2 t.symbols lines4 word3
        (table_plain (bytes "references") 1 t.references lines5 word4
        (table_plain (bytes "functions") 2 t.functions lines6 word5
        (table_plain (bytes "members") 1 t.members lines7 word6
        (table_plain (bytes "records") 8 t.records [] word7 tt))))),
  )
    where
      word : Plain (bytes "strings")
      word = (refl, (refl, (refl, (refl, (refl, (refl, (refl, tt)))))))

      word3 : Plain (bytes "symbols")
      word3 = (refl, (refl, (refl, (refl, (refl, (refl, (refl, tt)))))))

      word4 : Plain (bytes "references")
      word4 = (refl, (refl, (refl, (refl, (refl, (refl, (refl, (refl, (refl, (refl, tt))))))))))

      word5 : Plain (bytes "functions")
      word5 = (refl, (refl, (refl, (refl, (refl, (refl, (refl, (refl, (refl, tt)))))))))

      word6 : Plain (bytes "members")
      word6 = (refl, (refl, (refl, (refl, (refl, (refl, (refl, tt)))))))

      word7 : Plain (bytes "records")
      word7 = (refl, (refl, (refl, (refl, (refl, (refl, (refl, tt)))))))

-- reading gives back what was printed
module _ (r : Rooms) (t : Tables) (f : Fits r t) where
  one : Given (string_table r.strings r.bytes (table_lines t) 1) (t.strings, t.bytes) (lines3 t)
  one = strings_read r.strings r.bytes t.bytes f.bytes f.size f.room (lines3 t) (1 + 1) 0 0 t.strings f.strings
      (omega (arith, f.entries)) (omega (arith, f.lent))

  three : Given (table_of 2 280 r.symbols false (lines3 t) one.number) t.symbols (lines4 t)
  three = table_read 2 280 r.symbols false (omega arith) (lines4 t) one.number (bytes "symbols") t.symbols f.symbols

  four : Given (table_of 1 140 r.references false (lines4 t) three.number) t.references (lines5 t)
  four = table_read 1 140 r.references false (omega arith) (lines5 t) three.number (bytes "references") t.references f.references

  five : Given (table_of 2 280 r.functions false (lines5 t) four.number) t.functions (lines6 t)
  five = table_read 2 280 r.functions false (omega arith) (lines6 t) four.number (bytes "functions") t.functions f.functions

  six : Given (table_of 1 140 r.members false (lines6 t) five.number) t.members (lines7 t)
  six = table_read 1 140 r.members false (omega arith) (lines7 t) five.number (bytes "members") t.members f.members

  seven : Given (table_of 8 1120 r.records true (lines7 t) six.number) t.records []
  seven = table_read 8 1120 r.records true (omega arith) [] six.number (bytes "records") t.records f.records

  pub round_trip : read_of r (tables_text t) ≡ tables t
  unfolding read_of tables_text
  round_trip =
      ap (λ (ls : List (List ℕ)). after (string_table r.strings r.bytes ls 1) (then1 r)) (lines_text (table_lines t) (all_plain t))
      ∙ ap (λ (b : Block (List ℕ × List ℕ)). after b (then1 r)) one.by
      ∙ ap (λ (b : Block (List ℕ)). after b (then3 r (t.strings, t.bytes))) three.by
      ∙ ap (λ (b : Block (List ℕ)). after b (then4 r (t.strings, t.bytes) t.symbols)) four.by
      ∙ ap (λ (b : Block (List ℕ)). after b (then5 r (t.strings, t.bytes) t.symbols t.references)) five.by
      ∙ ap (λ (b : Block (List ℕ)). after b (then6 r (t.strings, t.bytes) t.symbols t.references t.functions)) six.by
      ∙ ap (λ (b : Block (List ℕ)). after b (then7 r (t.strings, t.bytes) t.symbols t.references t.functions t.members)) seven.by
