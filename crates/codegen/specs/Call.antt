-- The call: what it answers and what it writes. Definitions only.
use Rattle.std.specs.Prelude.{◌≡◌, cond, List, [], ◌∷◌, ℕ, zero, suc, ◌*◌, ◌≤◌, ◌<◌, length, take, ltb, None, Ok, Err}
use Rattle.tables.specs.declared.refusal.Refusal.TheVariants.{Table, Space, Run}
use Rattle.tables.specs.Refusal.{Checked}
use Rattle.tables.specs.Refusal.{number_of, place_of}
use Rattle.tables.specs.Record.{size}
use Rattle.tables.specs.Semantic.{pairs}
use Rattle.tables.specs.Lent.{lent_broken}
use Rattle.tables.specs.declared.lent.Tables.{Tables}
use Rattle.tables.specs.Check.{refusing, rows_of}
use Rattle.pool.specs.declared.spans.Span.{Span}
use Rattle.pool.specs.Names.{Semantic, semantic}
use Rattle.pool.specs.NameWords.{over}
use Rattle.rules.specs.Run.{Side, State, side}
use Rattle.rules.specs.Out.{Out, out, Outcome, listed, refused, outcome}
use Rattle.context.specs.Words.{limit}
use Rattle.context.specs.Rep.{note}
use Rattle.codegen.specs.Walks.{stack_code, ran}
use Rattle.codegen.specs.Demand.{Demand3On}
use Rattle.codegen.specs.Space.{space_broken}
use Rattle.codegen.specs.Names.{name_count}
use Rattle.codegen.specs.Listing.{met_of, Spaced, Streams}
use Rattle.codegen.specs.declared.outputs.Outputs.{Outputs}
use Rattle.codegen.specs.declared.call.Answer.{Answer}
use Rattle.codegen.specs.declared.call.Answer.TheVariants.{Listing, Refused}

-- rows 1 to 9, in their order; the outputs by their lengths in words
unfoldable pub checked_of : (strings bytes symbols references functions members records : List ℕ) (markers constants names errors lines : ℕ) → Checked
checked_of strings bytes symbols references functions members records markers constants names errors lines =
    refusing Table (lent_broken strings bytes symbols references functions members records)
    (refusing Space (space_broken (size records) (length members) (pairs functions) markers constants names errors lines)
    (rows_of strings bytes symbols references functions members records))

-- .. of the tables and outputs that are lent
abbrev pub checked_in : Tables → Outputs → Checked
checked_in t o =
    checked_of t.strings.now t.bytes.now t.symbols.now t.references.now t.functions.now t.members.now t.records.now (length o.markers.now)
    (length o.constants.now) (length o.names.now) (length o.errors.now) (length o.lines.now)

-- a table that they accept is run
abbrev pub past : Checked → Answer → Answer
past (Ok x) a = a
past (Err x) a = Refused x

-- "An accepted answer tells how many lines and errors there are", and "a forecast: a number of markers that no run exceeds, 32 × records"; "10 to 16 as the
-- run meets them"
abbrev pub answering : List ℕ → Side → Outcome → Answer
answering recs e (listed o) = Listing e.met (length e.errors) (32 * size recs)
answering recs e (refused x r) = Refused (Run x r)

abbrev pub ran_of : Semantic → List ℕ → Answer
ran_of t recs = answering recs (side (ran t recs)) (outcome stack_code t recs)

-- "Refused by place": the rows in their order, then the run
unfoldable pub answer_of : (strings bytes symbols references functions members records : List ℕ) (markers constants names errors lines : ℕ) → Answer
answer_of strings bytes symbols references functions members records markers constants names errors lines =
    past (checked_of strings bytes symbols references functions members records markers constants names errors lines)
    (ran_of (semantic symbols references functions members) records)

abbrev pub answer_in : Tables → Outputs → Answer
answer_in t o =
    answer_of t.strings.now t.bytes.now t.symbols.now t.references.now t.functions.now t.members.now t.records.now (length o.markers.now)
    (length o.constants.now) (length o.names.now) (length o.errors.now) (length o.lines.now)

-- "A refusal gives number and place and changes no lent word."
abbrev pub no_out : Out
no_out = record { markers = []; constants = []; names_out = []; errors = []; lines = [] }

unfoldable pub written_of : Answer → Out → Out
written_of (Listing n e f) o = o
written_of (Refused x) o = no_out

-- the words that an answer's run writes over the lent ones
abbrev pub out_of : Answer → Semantic → List ℕ → Out
out_of a t recs = written_of a (out t recs (side (ran t recs)))

-- "Demand 3", of the words that are left, where the answer is a listing without errors
abbrev pub Demanded : Answer → Semantic → (recs markers constants lines : List ℕ) → Type 0
Demanded (Listing n zero f) t recs markers constants lines = Demand3On t recs markers constants lines n
Demanded (Listing n (suc e) f) t recs markers constants lines = Unit {0}
Demanded (Refused x) t recs markers constants lines = Unit {0}

-- the five outputs, as they are lent
abbrev pub lists : (markers constants names errors lines : List ℕ) → Out
lists a b c d e = record { markers = a; constants = b; names_out = c; errors = d; lines = e }

-- "Words past the written ones stay as they were": after an answer the outputs o are o'
pub record Written (a : Answer) (t : Semantic) (recs : List ℕ) (o o' : Out) : Type 0 where
  pub markers : o'.markers ≡ over (out_of a t recs).markers o.markers
  pub constants : o'.constants ≡ over (out_of a t recs).constants o.constants
  pub names : o'.names_out ≡ over (out_of a t recs).names_out o.names_out
  pub errors : o'.errors ≡ over (out_of a t recs).errors o.errors
  pub lines : o'.lines ≡ over (out_of a t recs).lines o.lines

pub record Answered (t : Semantic) (recs : List ℕ) (a : Answer) (o o' : Out) : Type 0 where
  pub answer : a ≡ ran_of t recs
  pub written : Written a t recs o o'

-- tables that rows 1 and 3 to 9 accept, with some strings and bytes
pub record Sound (symbols references functions members records : List ℕ) : Type 0 where
  pub strings : List ℕ
  pub bytes : List ℕ
  pub row_one : lent_broken strings bytes symbols references functions members records ≡ None
  pub rows : rows_of strings bytes symbols references functions members records ≡ Ok tt

-- row 2 is well
abbrev pub Roomy : Semantic → List ℕ → Out → Type 0
Roomy t recs o =
    space_broken (size recs) (length t.members) (pairs t.functions) (length o.markers) (length o.constants) (length o.names_out) (length o.errors)
    (length o.lines)
    ≡ None

-- the names' words are there, and the outputs have room for the run A
pub record Listable (A : State) (entries : List ℕ) (spans : List Span) (o : Out) : Type 0 where
  pub some : 0 < met_of A
  pub few : length (side A).errors < limit
  pub made : name_count spans (met_of A) ≤ length entries
  pub named : name_count spans (met_of A) ≤ length o.names_out
  pub spaced : Spaced A o.markers o.constants o.lines

-- the run A is listed: the outputs o are o' then
pub record Listed (A : State) (recs entries : List ℕ) (spans : List Span) (a : Answer) (o o' : Out) : Type 0 where
  pub answer : a ≡ Listing (met_of A) (length (side A).errors) (size recs * 32)
  pub streams : Streams A recs spans o.markers o'.markers o.constants o'.constants o.lines o'.lines
  pub names : o'.names_out ≡ over (take (name_count spans (met_of A)) entries) o.names_out
  pub errors : o'.errors ≡ note o.errors (side A).errors

-- "An accepted answer tells how many lines and errors there are", with the forecast; "A refusal gives number and place": an answer in plain numbers, 0 for a
-- listing
abbrev pub number_in : Answer → ℕ
number_in (Listing n e f) = 0
number_in (Refused x) = number_of x

abbrev pub values_in : Answer → List ℕ
values_in (Listing n e f) = n ∷ e ∷ f ∷ []
values_in (Refused x) = place_of x ∷ 0 ∷ 0 ∷ []

-- the three values over some words, where there is room
unfoldable pub valued : Answer → List ℕ → List ℕ
valued a ws = cond (ltb 2 (length ws)) (over (values_in a) ws) ws

-- the call for C and Rust keeps the promise of the answer a
pub record Promised (a : Answer) (t : Semantic) (recs : List ℕ) (number : ℕ) (values values' : List ℕ) (o o' : Out) : Type 0 where
  pub number_is : number ≡ number_in a
  pub values_are : values' ≡ valued a values
  pub written : Written a t recs o o'
  pub demand3 : Demanded a t recs o'.markers o'.constants o'.lines
