-- Laws of what genlist prints: of an answer, of tables, of a text. Assumes nothing.
use mathlib.Core.Bool.{Bool, cond}
use mathlib.Core.List.{List}
use mathlib.Core.Path.{◌≡◌, refl, sym, ap, subst, ◌∙◌}
use Prim.Native.Nat.{ℕ, ◌+◌, ◌≤◌, ◌<◌}
use lib.ListN.{length, take, replicate, length-replicate}
use borrow.Author.Tests.{lt-ltb, le-ltb}
use Rattle.pool.specs.NameWords.{over}
use Rattle.codegen.specs.Call.{answer_of, out_of, lists}
use Rattle.codegen.specs.declared.call.Answer.{Answer}
use Rattle.std.proofs.Common.{Result, Ok, Err}
use Rattle.listing.specs.declared.read.UnreadLine.{UnreadLine}
use Rattle.listing.specs.declared.read.Sizes.{Sizes}
use Rattle.listing.specs.Text.{Tables, Outcome, tables, input, read_of, rooms_of, reading_of, Holds, Begin}
use Rattle.listing.specs.Print.{input_text}
use Rattle.lister.specs.Genlist.{rooms, blank, filled, answer_text, sized, answer_to, semantic_of, call_text, printed, feeds, genlist_text}

-- the answer by the lengths of what was lent
lent : (t : Tables) → answer_of t.strings t.bytes t.symbols t.references t.functions t.members t.records
    (length (replicate {A = ℕ} 8960 0)) (length (replicate {A = ℕ} 1260 0)) (length (replicate {A = ℕ} 420 0)) (length (replicate {A = ℕ} 420 0))
    (length (replicate {A = ℕ} 980 0)) ≡ answer_to t
lent t =
    rw (length-replicate {A = ℕ} 8960 0) (rw (length-replicate {A = ℕ} 1260 0) (rw (length-replicate {A = ℕ} 420 0) (rw (length-replicate {A = ℕ} 980 0) refl)))

-- the text of the answer and the outputs that the call leaves
pub answer_text_lem : (t : Tables) (a : Answer) (markers constants names errors lines : List ℕ)
    → a ≡ answer_of t.strings t.bytes t.symbols t.references t.functions t.members t.records
    (length (replicate {A = ℕ} 8960 0)) (length (replicate {A = ℕ} 1260 0)) (length (replicate {A = ℕ} 420 0)) (length (replicate {A = ℕ} 420 0))
    (length (replicate {A = ℕ} 980 0))
    → markers ≡ over (out_of a (semantic_of t) t.records).markers (replicate 8960 0)
    → constants ≡ over (out_of a (semantic_of t) t.records).constants (replicate 1260 0)
    → names ≡ over (out_of a (semantic_of t) t.records).names_out (replicate 420 0)
    → errors ≡ over (out_of a (semantic_of t) t.records).errors (replicate 420 0)
    → lines ≡ over (out_of a (semantic_of t) t.records).lines (replicate 980 0)
    → answer_text t.symbols t.records (lists markers constants names errors lines) a ≡ call_text t
unfolding call_text
answer_text_lem t a markers constants names errors lines e m k n x l =
    let e' = e ∙ lent t in
    let same : Answer → List ℕ = λ z. answer_text t.symbols t.records (filled (out_of z (semantic_of t) t.records) blank) z in
    rw m (rw k (rw n (rw x (rw l (ap same e')))))

-- what genlist lends to the reading
abbrev zeros : Tables
zeros = record {
  strings = replicate 280 0;
  bytes = replicate 4096 0;
  symbols = replicate 280 0;
  references = replicate 140 0;
  functions = replicate 280 0;
  members = replicate 140 0;
  records = replicate 1120 0;
}

-- the reading of a text into what genlist lends
read_rooms : (text front : List ℕ) → front ≡ take 262144 text
    → read_of (rooms_of zeros) front
    ≡ read_of rooms (take 262144 text)
read_rooms text front e =
    rw e (rw (length-replicate {A = ℕ} 280 0) (rw (length-replicate {A = ℕ} 4096 0) (rw (length-replicate {A = ℕ} 140 0) (rw (length-replicate {A = ℕ} 1120 0) refl))))

-- the line that can't be read
input_text_lem : (text : List ℕ) (o : Outcome) (r : Result Sizes UnreadLine) (unread : UnreadLine) → r ≡ reading_of o → r ≡ Err unread
    → input_text unread.line ≡ printed text o
input_text_lem text (input l) r unread e f =
    let z : UnreadLine = record { line = l } in
    let q : z ≡ unread = cc in ap (λ (u : UnreadLine). input_text u.line) (sym q)
input_text_lem text (tables t) r unread e f = cc

-- tables of a text that is too long
long_text : (text : List ℕ) (o : Outcome) (r : Result Sizes UnreadLine) (n : Sizes) → r ≡ reading_of o → r ≡ Ok n → 262144 ≤ length text
    → input_text (feeds (take 262143 text) + 1) ≡ printed text o
long_text text (input l) r n e f h = cc
long_text text (tables t) r n e f h =
    sym (ap (λ (b : Bool). cond b (call_text t) (input_text (feeds (take 262143 text) + 1))) (le-ltb (length text) 262144 h))

-- what was lent holds the tables
held : (t : Tables) (n : Sizes) (w : Tables) → Ok n ≡ reading_of (tables t) → Begin t w → sized n w ≡ t
held t n w q h =
    let p : n ≡ record {
      strings = length t.strings;
      bytes = length t.bytes;
      symbols = length t.symbols;
      references = length t.references;
      functions = length t.functions;
      members = length t.members;
      records = length t.records;
    } = cc in
    rw p (rw h.strings (rw h.bytes (rw h.symbols (rw h.references (rw h.functions (rw h.members (rw h.records refl)))))))

-- tables of a text
tables_text : (text : List ℕ) (o : Outcome) (r : Result Sizes UnreadLine) (n : Sizes) (w : Tables) → r ≡ reading_of o → r ≡ Ok n
    → Holds o w → length text < 262144 → call_text (sized n w) ≡ printed text o
tables_text text (input l) r n w p q h k = cc
tables_text text (tables t) r n w p q h k =
    ap call_text (held t n w (sym q ∙ p) h)
    ∙ sym (ap (λ (x : Bool). cond x (call_text t) (input_text (feeds (take 262143 text) + 1))) (lt-ltb (length text) 262144 k))

-- what the lent tables are read into
abbrev outcome : List ℕ → Outcome
outcome front =
    read_of (rooms_of zeros) front

pub list_input : (text front : List ℕ) (r : Result Sizes UnreadLine) (unread : UnreadLine) → front ≡ take 262144 text → r ≡ reading_of (outcome front)
    → r ≡ Err unread
    → input_text unread.line ≡ genlist_text text
unfolding genlist_text
list_input text front r unread h e f = input_text_lem text (read_of rooms (take 262144 text)) r unread (e ∙ ap reading_of (read_rooms text front h)) f

pub list_long : (text front : List ℕ) (r : Result Sizes UnreadLine) (n : Sizes) (line : ℕ) → front ≡ take 262144 text → r ≡ reading_of (outcome front) → r ≡ Ok n
    → 262144 ≤ length text → line ≡ feeds (take 262143 text) + 1 → input_text line ≡ genlist_text text
unfolding genlist_text
list_long text front r n line h e f k l = ap input_text l ∙ long_text text (read_of rooms (take 262144 text)) r n (e ∙ ap reading_of (read_rooms text front h)) f k

pub list_tables : (text front : List ℕ) (r : Result Sizes UnreadLine) (n : Sizes) (w : Tables) → front ≡ take 262144 text → r ≡ reading_of (outcome front)
    → Holds (outcome front) w → r ≡ Ok n → length text < 262144 → call_text (sized n w) ≡ genlist_text text
unfolding genlist_text
list_tables text front r n w h p q s k =
    let o = read_rooms text front h in
    tables_text text (read_of rooms (take 262144 text)) r n w (p ∙ ap reading_of o) s (subst (λ (x : Outcome). Holds x w) o q) k
