-- The text that genlist prints of the text that it is given (document 01, 'The listing program'). Definitions only.
use Rattle.std.specs.Prelude.{cond, List, [], ◌∷◌, ℕ, ◌+◌, length, take, replicate, ltb, eqb}
use Rattle.tables.specs.Refusal.{number_of, place_of}
use Rattle.tables.specs.declared.lent.Tables.{Tables as Lent}
use Rattle.pool.specs.Names.{Semantic, semantic}
use Rattle.pool.specs.NameWords.{over}
use Rattle.rules.specs.Out.{Out}
use Rattle.codegen.specs.Call.{answer_of, out_of, lists}
use Rattle.codegen.specs.declared.call.Answer.{Answer}
use Rattle.codegen.specs.declared.call.Answer.TheVariants.{Listing, Refused}
use Rattle.listing.specs.declared.read.Sizes.{Sizes}
use Rattle.listing.specs.Text.{Tables, Rooms, Outcome, tables, input, read_of}
use Rattle.listing.specs.Print.{listing_text, refusal_text, input_text}

-- "It takes 140 entries of each table and 4,096 bytes"
abbrev pub rooms : Rooms
rooms = record { strings = 280; bytes = 4096; symbols = 280; references = 140; functions = 280; members = 140; records = 1120 }

-- what the call is lent for 140 records, members and functions: zeros
abbrev pub blank : Out
blank = lists (replicate 8960 0) (replicate 1260 0) (replicate 420 0) (replicate 420 0) (replicate 980 0)

-- the outputs after the call
abbrev pub filled : Out → Out → Out
filled new lent =
    lists (over new.markers lent.markers) (over new.constants lent.constants) (over new.names_out lent.names_out)
    (over new.errors lent.errors) (over new.lines lent.lines)

-- a buffer of so many bytes holds what is printed of any text
abbrev pub most : ℕ
most = 1048576

-- a listing, or "`refusal place`"
abbrev pub answer_text : (symbols records : List ℕ) → Out → Answer → List ℕ
answer_text symbols records o (Listing met count forecast) =
    listing_text symbols records o.markers o.constants o.names_out o.errors o.lines met count
answer_text symbols records o (Refused why) = refusal_text (number_of why) (place_of why)

-- the tables that are lent to the call
abbrev pub given : Lent → Tables
given t = record {
  strings = t.strings.now;
  bytes = t.bytes.now;
  symbols = t.symbols.now;
  references = t.references.now;
  functions = t.functions.now;
  members = t.members.now;
  records = t.records.now;
}

-- so much of each table
abbrev pub sized : Sizes → Tables → Tables
sized n t = record {
  strings = take n.strings t.strings;
  bytes = take n.bytes t.bytes;
  symbols = take n.symbols t.symbols;
  references = take n.references t.references;
  functions = take n.functions t.functions;
  members = take n.members t.members;
  records = take n.records t.records;
}

-- the call's answer to the tables
abbrev pub answer_to : Tables → Answer
answer_to t =
    answer_of t.strings t.bytes t.symbols t.references t.functions t.members t.records 8960 1260 420 420 980

abbrev pub semantic_of : Tables → Semantic
semantic_of t = semantic t.symbols t.references t.functions t.members

-- what is printed of the answer to tables
unfoldable pub call_text : Tables → List ℕ
call_text t = answer_text t.symbols t.records (filled (out_of (answer_to t) (semantic_of t) t.records) blank) (answer_to t)

-- 1 for the end of a line
abbrev pub feed : ℕ → ℕ
feed b = cond (eqb b 10) 1 0

-- how many lines end in a text
abbrev pub feeds : List ℕ → ℕ
feeds [] = 0
feeds (b ∷ bs) = feed b + feeds bs

-- a text of 262,144 bytes or more is too long: it gives `input` and the line of byte 262,144, if all before could be read (decision 52)
abbrev pub printed : List ℕ → Outcome → List ℕ
printed text (input line) = input_text line
printed text (tables t) = cond (ltb (length text) 262144) (call_text t) (input_text (feeds (take 262143 text) + 1))

-- "`genlist` reads tables 1, 3, 4, 5, 6, 7 on standard input"; "text it can't read, gives `input` and the line number"
unfoldable pub genlist_text : List ℕ → List ℕ
genlist_text text = printed text (read_of rooms (take 262144 text))
