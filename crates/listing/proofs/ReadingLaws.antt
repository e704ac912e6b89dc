-- Laws of the whole text: table after table, and the answer.
use Rattle.std.proofs.Common.{◌≡◌, refl, sym, ap, ◌∙◌, true, false, List, ℕ, ◌≤◌, length, take, drop, Result, Ok, Err}
use lib.Seq.{length-take-le}
use Rattle.listing.specs.declared.read.Sizes.{Sizes}
use Rattle.listing.specs.declared.read.UnreadLine.{UnreadLine}
use Rattle.listing.specs.declared.read.Lent.{Lent}
use Rattle.listing.specs.Lines.{lines_of}
use Rattle.listing.specs.Text.{Tables, Rooms, Outcome, tables, input, Block, got, stop, after, table_of, string_table, ended, read_of}
use Rattle.listing.specs.Text.{reading_of, words, Holds, Stays, SameSlices, Begin, Past}

-- what `read_of` does after each table, by what was read before
module _ (r : Rooms) where
  abbrev pub then7 : (List ℕ × List ℕ) → List ℕ → List ℕ → List ℕ → List ℕ → List ℕ → List (List ℕ) → ℕ → Outcome
  then7 x a b c d e ls n =
      ended record { strings = x.0; bytes = x.1; symbols = a; references = b; functions = c; members = d; records = e } ls n

  abbrev pub then6 : (List ℕ × List ℕ) → List ℕ → List ℕ → List ℕ → List ℕ → List (List ℕ) → ℕ → Outcome
  then6 x a b c d ls n = after (table_of 8 1120 r.records true ls n) (then7 x a b c d)

  abbrev pub then5 : (List ℕ × List ℕ) → List ℕ → List ℕ → List ℕ → List (List ℕ) → ℕ → Outcome
  then5 x a b c ls n = after (table_of 1 140 r.members false ls n) (then6 x a b c)

  abbrev pub then4 : (List ℕ × List ℕ) → List ℕ → List ℕ → List (List ℕ) → ℕ → Outcome
  then4 x a b ls n = after (table_of 2 280 r.functions false ls n) (then5 x a b)

  abbrev pub then3 : (List ℕ × List ℕ) → List ℕ → List (List ℕ) → ℕ → Outcome
  then3 x a ls n = after (table_of 1 140 r.references false ls n) (then4 x a)

  abbrev pub then1 : (List ℕ × List ℕ) → List (List ℕ) → ℕ → Outcome
  then1 x ls n = after (table_of 2 280 r.symbols false ls n) (then3 x)

  pub first : (text : List ℕ) → read_of r text ≡ after (string_table r.strings r.bytes (lines_of text) 1) then1
  unfolding read_of
  first text = refl

-- reading goes on after a table that could be read
pub onto : {A : Type 0} {o : Outcome} {b : Block A} (f : A → List (List ℕ) → ℕ → Outcome) {x : A} {ls : List (List ℕ)} {n : ℕ} → o ≡ after b f
    → b ≡ got x ls n → o ≡ f x ls n
onto f e q = e ∙ ap (λ (z : _). after z f) q

-- and stops at a line that can't be read
pub off : {A : Type 0} {o : Outcome} {b : Block A} (f : A → List (List ℕ) → ℕ → Outcome) {n : ℕ} → o ≡ after b f → b ≡ stop n → o ≡ input n
off f e q = e ∙ ap (λ (z : _). after z f) q

-- what `read_of` is after each table, where those before it could be read
module _ (r : Rooms) (text : List ℕ) {x : List ℕ × List ℕ} {l1 : List (List ℕ)} {n1 : ℕ}
    (q1 : string_table r.strings r.bytes (lines_of text) 1 ≡ got x l1 n1) where
  pub read1 : read_of r text ≡ then1 r x l1 n1
  read1 = onto (then1 r) (first r text) q1

  module _ {a : List ℕ} {l3 : List (List ℕ)} {n3 : ℕ} (q3 : table_of 2 280 r.symbols false l1 n1 ≡ got a l3 n3) where
    pub read3 : read_of r text ≡ then3 r x a l3 n3
    read3 = onto (then3 r x) read1 q3

    module _ {b : List ℕ} {l4 : List (List ℕ)} {n4 : ℕ} (q4 : table_of 1 140 r.references false l3 n3 ≡ got b l4 n4) where
      pub read4 : read_of r text ≡ then4 r x a b l4 n4
      read4 = onto (then4 r x a) read3 q4

      module _ {c : List ℕ} {l5 : List (List ℕ)} {n5 : ℕ} (q5 : table_of 2 280 r.functions false l4 n4 ≡ got c l5 n5) where
        pub read5 : read_of r text ≡ then5 r x a b c l5 n5
        read5 = onto (then5 r x a b) read4 q5

        module _ {d : List ℕ} {l6 : List (List ℕ)} {n6 : ℕ} (q6 : table_of 1 140 r.members false l5 n5 ≡ got d l6 n6) where
          pub read6 : read_of r text ≡ then6 r x a b c d l6 n6
          read6 = onto (then6 r x a b c) read5 q6

          pub read7 : {e : List ℕ} {l7 : List (List ℕ)} {n7 : ℕ} → table_of 8 1120 r.records true l6 n6 ≡ got e l7 n7 → read_of r text ≡ then7 r x a b c d e l7 n7
          read7 q7 = onto (then7 r x a b c d) read6 q7

-- where a line can't be read the answer is its number, and the tables are free
pub refused : {o : Outcome} {l l' : Lent} {y : Result Sizes UnreadLine} (u : UnreadLine) → y ≡ Err u → o ≡ input u.line → SameSlices l l'
    → record { answer : y ≡ reading_of o; tables : Holds o (words l'); rest : Stays o (words l) (words l'); same : SameSlices l l' }
refused u h e s = record { answer = rw (h, e) refl; tables = rw e tt; rest = rw e tt; same = s }

front : (n : ℕ) (l : List ℕ) → n ≤ length l → take (length (take n l)) l ≡ take n l
front n l h = ap (λ (k : ℕ). take k l) (length-take-le n l h)

behind : (n : ℕ) (l l' : List ℕ) → n ≤ length l' → drop n l' ≡ drop n l → drop (length (take n l')) l' ≡ drop (length (take n l')) l
behind n l l' h e = ap (λ (k : ℕ). drop k l') (length-take-le n l' h) ∙ e ∙ sym (ap (λ (k : ℕ). drop k l) (length-take-le n l' h))

-- a table of so many words: it fits what is lent, and nothing after it is changed
pub record Stands (n : ℕ) (l l' : List ℕ) : Type 0 where
  pub inside : n ≤ length l'
  pub past : drop n l' ≡ drop n l

pub stands : {n : ℕ} {l l' : List ℕ} {Q : Type 0} → (n ≤ length l') × Q × (drop n l' ≡ drop n l) → Stands n l l'
stands h = record { inside = h.0; past = h.2 }

module _ (s : Sizes) (l l' : Lent) (one : Stands s.strings l.strings.now l'.strings.now) (two : Stands s.bytes l.bytes.now l'.bytes.now)
    (three : Stands s.symbols l.symbols.now l'.symbols.now) (four : Stands s.references l.references.now l'.references.now)
    (five : Stands s.functions l.functions.now l'.functions.now) (six : Stands s.members l.members.now l'.members.now)
    (seven : Stands s.records l.records.now l'.records.now) where
  abbrev t₀ : Tables
  t₀ = words l

  abbrev t' : Tables
  t' = words l'

  abbrev given : Tables
  given = record {
    strings = take s.strings t'.strings;
    bytes = take s.bytes t'.bytes;
    symbols = take s.symbols t'.symbols;
    references = take s.references t'.references;
    functions = take s.functions t'.functions;
    members = take s.members t'.members;
    records = take s.records t'.records;
  }

  abbrev lengths : Sizes
  lengths = record {
    strings = length given.strings;
    bytes = length given.bytes;
    symbols = length given.symbols;
    references = length given.references;
    functions = length given.functions;
    members = length given.members;
    records = length given.records;
  }

  counts : s ≡ lengths
  counts =
      let a : s.strings ≡ length given.strings = sym (length-take-le s.strings t'.strings one.inside) in
      let b : s.bytes ≡ length given.bytes = sym (length-take-le s.bytes t'.bytes two.inside) in
      let c : s.symbols ≡ length given.symbols = sym (length-take-le s.symbols t'.symbols three.inside) in
      let d : s.references ≡ length given.references = sym (length-take-le s.references t'.references four.inside) in
      let e : s.functions ≡ length given.functions = sym (length-take-le s.functions t'.functions five.inside) in
      let f : s.members ≡ length given.members = sym (length-take-le s.members t'.members six.inside) in
      let g : s.records ≡ length given.records = sym (length-take-le s.records t'.records seven.inside) in
      let fields : Sizes = record {
        strings = s.strings;
        bytes = s.bytes;
        symbols = s.symbols;
        references = s.references;
        functions = s.functions;
        members = s.members;
        records = s.records;
      } in
      let same : fields ≡ lengths = cc in same

  begin : Begin given t'
  begin = record {
    strings = front s.strings t'.strings one.inside;
    bytes = front s.bytes t'.bytes two.inside;
    symbols = front s.symbols t'.symbols three.inside;
    references = front s.references t'.references four.inside;
    functions = front s.functions t'.functions five.inside;
    members = front s.members t'.members six.inside;
    records = front s.records t'.records seven.inside;
  }

  past : Past given t₀ t'
  past = record {
    strings = behind s.strings t₀.strings t'.strings one.inside one.past;
    bytes = behind s.bytes t₀.bytes t'.bytes two.inside two.past;
    symbols = behind s.symbols t₀.symbols t'.symbols three.inside three.past;
    references = behind s.references t₀.references t'.references four.inside four.past;
    functions = behind s.functions t₀.functions t'.functions five.inside five.past;
    members = behind s.members t₀.members t'.members six.inside six.past;
    records = behind s.records t₀.records t'.records seven.inside seven.past;
  }

  -- where every table could be read the answer is their sizes, and nothing past them is changed
  pub accepted : {o : Outcome} → o ≡ tables given → SameSlices l l'
      → record { answer : Ok s ≡ reading_of o; tables : Holds o t'; rest : Stays o t₀ t'; same : SameSlices l l' }
  accepted e same = record { answer = ap Ok counts ∙ ap reading_of (sym e); tables = rw e begin; rest = rw e past; same = same }
