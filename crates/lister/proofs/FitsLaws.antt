-- What is printed of any text has fewer than `most` bytes: each row has a most, and the rows are counted by the words that the call writes. Assumes nothing.
use mathlib.Core.Bool.{Bool, true, false, cond}
use mathlib.Core.List.{List, ◌++◌, append_assoc}
use mathlib.Core.Path.{◌≡◌, refl, ap, ◌∙◌}
use Prim.Native.Nat.{ℕ, zero, suc, ◌+◌, ◌*◌, ◌≤◌, ◌<◌}
use native.Mathlib.Omega.{arith}
use lib.ListN.{length, drop, take}
use lib.Seq.{drop_at}
use lib.Dec.{ltb}
use Rattle.tables.specs.Semantic.{pairs, share_start}
use Rattle.tables.specs.Refusal.{number_of, place_of}
use Rattle.tables.specs.declared.refusal.Refusal.TheVariants.{Run}
use Rattle.tables.specs.Refusal.{Checked}
use Rattle.std.specs.Prelude.{Ok, Err}
use Rattle.pool.specs.Names.{Semantic, semantic, Names, start_of_share, count_of_members, names}
use Rattle.pool.specs.NameWords.{over}
use Rattle.pool.proofs.NameUpto.{start_more}
use Rattle.pool.proofs.NamesLaws.{names_members}
use Rattle.rules.specs.Run.{side, look}
use Rattle.rules.specs.Out.{Out, out, Outcome, listed, refused, outcome, consts, line_words, each_function}
use Rattle.codegen.specs.Walks.{stack_code, ran}
use Rattle.codegen.specs.Call.{checked_of, past, answering, ran_of, answer_of, written_of, out_of, Sound}
use Rattle.codegen.specs.Listing.{markers_of, constants_of, stream_of, met_of, first_of}
use Rattle.codegen.specs.declared.call.Answer.{Answer}
use Rattle.codegen.proofs.LayLaws.{markers_length, constants_length}
use Rattle.codegen.proofs.StreamsLaws.{all_length, more_length}
use Rattle.codegen.proofs.ReadyLaws.{tables_kept, run_bounds, lent_words, few_functions, own_name}
use Rattle.codegen.proofs.PrefixLaws.{whole, share_most}
use Rattle.codegen.proofs.AnswerLaws.{checked_sound}
use Rattle.listing.specs.Text.{Tables, Outcome as Reading, tables, input, read_of}
use Rattle.listing.specs.Print.{input_text}
use Rattle.listing.specs.Printed.{Fits}
use Rattle.listing.proofs.RowLengths.{weighed, weight, total, total_last, listing_length, refusal_length, input_length}
use Rattle.listing.proofs.ReadFits.{read_fits}
use Rattle.lister.specs.Genlist.{rooms, blank, filled, most, answer_text, semantic_of, call_text, feeds, printed, genlist_text}

module _ (symbols references functions members recs : List ℕ) (sound : Sound symbols references functions members recs) where
  abbrev t : Semantic
  t = semantic symbols references functions members

  few : (n : ℕ) → n < met_of (ran t recs) → n < pairs functions
  few n h = omega (arith, few_functions symbols references functions members recs sound)

  -- one function more: its line has the counts of its stream and of its members
  line_weight : (k : ℕ) → k < met_of (ran t recs) → (rest : List ℕ)
      → total (suc k) (first_of (ran t recs) (line_words t recs) (suc k) ++ rest)
      ≡ total k (first_of (ran t recs) (line_words t recs) k ++ (line_words t recs (stream_of (ran t recs) k) ++ rest))
      + weighed (length (stream_of (ran t recs) k).marks) (length (consts (stream_of (ran t recs) k).marks)) (count_of_members t k)
  unfolding each_function
  line_weight k h rest =
      let x = stream_of (ran t recs) k in
      let a = first_of (ran t recs) (line_words t recs) k in
      let b = line_words t recs x ++ rest in
      let named : Names → ℕ = λ n. length n.locals + length n.globals + length n.upvalues in
      let n : named (names t x.number) ≡ count_of_members t k =
      ap (λ (f : ℕ). named (names t f)) (own_name (look t) recs k h) ∙ names_members t (whole symbols references functions members recs sound) k (few k h) in
      let w : weight (drop (k * 7) (a ++ b)) ≡ weight b = ap weight (drop_at a b (k * 7) (all_length (ran t recs) (line_words t recs) 7 (λ x. refl) k)) in
      ap (total (suc k)) (append_assoc a (line_words t recs x) rest) ∙ total_last k (a ++ b) ∙ omega arith

  -- the lines of the first k functions count their words: two for a marker, three for a constant; so all is taken six times
  lines_total : (k : ℕ) → k ≤ met_of (ran t recs) → (rest : List ℕ)
      → 6 * total k (first_of (ran t recs) (line_words t recs) k ++ rest)
      ≡ 18570 * k + 261 * length (first_of (ran t recs) markers_of k) + 162 * length (first_of (ran t recs) constants_of k) + 600 * start_of_share t k
  unfolding total each_function share_start
  lines_total zero h rest = refl
  lines_total (suc k) h rest =
      let x = stream_of (ran t recs) k in
      let ih = lines_total k (omega arith) (line_words t recs x ++ rest) in
      omega (
        arith,
        line_weight k h rest,
        more_length (ran t recs) markers_of k,
        markers_length (consts x.marks) x.marks,
        more_length (ran t recs) constants_of k,
        constants_length (consts x.marks),
        start_more t k,
      )

  -- so a listing of tables with at most 140 entries is short, whatever the lent words are
  listing_fits : length recs ≤ 1120 → length functions ≤ 280 → length members ≤ 140 → (ws : List ℕ)
      → 39 + total (met_of (ran t recs)) (over (first_of (ran t recs) (line_words t recs) (met_of (ran t recs))) ws) + length (side (ran t recs)).errors * 93 < most
  listing_fits r f m ws =
      let n = met_of (ran t recs) in
      let ls = first_of (ran t recs) (line_words t recs) n in
      let b = lent_words symbols references functions members recs sound in
      let functions-few = few_functions symbols references functions members recs sound in
      omega (
        arith,
        lines_total n (omega arith) (drop (length ls) ws),
        b.markers,
        b.constants,
        share_most symbols references functions members recs sound n functions-few,
        (run_bounds symbols references functions members recs sound (look t)).errors,
        (tables_kept symbols references functions members recs sound).all_in_tree,
      )

module _ (t : Tables) (fits : Fits rooms t) (lent : Out) where
  -- what is printed of an answer, over any lent words
  abbrev text_of : Answer → List ℕ
  text_of a = answer_text t.symbols t.records (filled (out_of a (semantic_of t) t.records) lent) a

  by_outcome : Sound t.symbols t.references t.functions t.members t.records → (o : Outcome)
      → length (text_of (answering t.records (side (ran (semantic_of t) t.records)) o)) < most
  unfolding written_of
  by_outcome sound (listed o) =
      let e = side (ran (semantic_of t) t.records) in
      let new = out (semantic_of t) t.records e in
      let few = fits.records.limit in
      omega (
        arith,
        listing_length t.symbols t.records (over new.markers lent.markers) (over new.constants lent.constants)
            (over new.names_out lent.names_out) (over new.errors lent.errors) (over new.lines lent.lines) e.met (length e.errors)
            (omega arith),
        listing_fits t.symbols t.references t.functions t.members t.records sound few fits.functions.limit fits.members.limit
            lent.lines,
      )
  by_outcome sound (refused x r) = omega (arith, refusal_length (number_of (Run x r)) (place_of (Run x r)))

  by_checked : (c : Checked)
      → c ≡ checked_of t.strings t.bytes t.symbols t.references t.functions t.members t.records 8960 1260 420 420 980
      → length (text_of (past c (ran_of (semantic_of t) t.records))) < most
  by_checked (Ok x) e =
      by_outcome
      (checked_sound t.strings t.bytes t.symbols t.references t.functions t.members t.records 8960 1260 420 420 980 (Ok x) e refl)
      (outcome stack_code (semantic_of t) t.records)
  by_checked (Err x) e = omega (arith, refusal_length (number_of x) (place_of x))

call_fits : (t : Tables) → Fits rooms t → length (call_text t) < most
unfolding call_text answer_of
call_fits t fits =
    by_checked t fits blank
    (checked_of t.strings t.bytes t.symbols t.references t.functions t.members t.records 8960 1260 420 420 980) refl

by_reading : (text : List ℕ) (o : Reading) → read_of rooms (take 262144 text) ≡ o → length (printed text o) < most
by_reading text (input line) e = omega (arith, input_length line)
by_reading text (tables t) e = picked (ltb (length text) 262144)
  where
    picked : (b : Bool) → length (cond b (call_text t) (input_text (feeds (take 262143 text) + 1))) < most
    picked true = call_fits t (read_fits rooms (take 262144 text) t e)
    picked false = omega (arith, input_length (feeds (take 262143 text) + 1))

-- nothing that is printed is cut off, if the buffer has `most` bytes
pub genlist_fits : (text : List ℕ) → length (genlist_text text) < most
unfolding genlist_text
genlist_fits text = by_reading text (read_of rooms (take 262144 text)) refl
