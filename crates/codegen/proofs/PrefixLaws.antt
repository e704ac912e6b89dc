-- The names of the functions met are the first of all functions' names. Assumes nothing.
use mathlib.Core.Path.{◌≡◌, refl, sym, ap, ap₂, ◌∙◌}
use mathlib.Core.List.{List, [], ◌∷◌, ◌++◌}
use Prim.Native.Nat.{ℕ, zero, suc, ◌+◌, ◌-◌, ◌*◌, ◌≤◌, ◌<◌}
use native.Mathlib.Omega.{arith}
use lib.ListN.{length, take, length-take}
use Rattle.tables.specs.Forest.{own_tree, children}
use Rattle.tables.specs.Semantic.{pairs}
use Rattle.tables.proofs.SemanticLaws.{start_mono}
use Rattle.pool.specs.Names.{Semantic, semantic, Upvalue, Names, start_of_share, names, names_upto}
use Rattle.pool.specs.NameWords.{plains, entries_of, all_entries, words_of, span_of}
use Rattle.pool.specs.declared.spans.Span.{Span}
use Rattle.pool.proofs.EntryLaws.{words_length, words_append}
use Rattle.pool.proofs.NameUpto.{entries_snoc, start_more, entries_start}
use Rattle.pool.proofs.NamesLaws.{names_next, names_members}
use Rattle.rules.specs.Run.{Stream, side, look}
use Rattle.rules.specs.Out.{plain_names, upvalue_words, name_words, line_words, consts, loop_depth, each_function, out}
use Rattle.codegen.specs.Call.{Sound, Roomy, lists}
use Rattle.codegen.specs.Names.{name_count}
use Rattle.codegen.specs.Walks.{ran}
use Rattle.codegen.specs.Listing.{line_of, met_of, stream_of, first_of}
use Rattle.codegen.proofs.SpaceLaws.{space_kept}
use Rattle.codegen.proofs.StreamsLaws.{all_same}
use Rattle.codegen.proofs.ReadyLaws.{tables_kept, run_bounds, few_functions, own_name}
use Rattle.codegen.proofs.PreparedLaws.{Named}

-- the words of one function's names
plain_same : (ss : List ℕ) → words_of (plains ss) ≡ plain_names ss
unfolding words_of plain_names
plain_same [] = refl
plain_same (s ∷ ss) = ap (λ (l : List ℕ). s ∷ 0 ∷ 0 ∷ l) (plain_same ss)

upvalues_same : (us : List Upvalue) → words_of us ≡ upvalue_words us
unfolding words_of upvalue_words
upvalues_same [] = refl
upvalues_same (u ∷ us) = ap (λ (l : List ℕ). u.symbol ∷ u.capture ∷ u.index ∷ l) (upvalues_same us)

names_same : (n : Names) → words_of (entries_of n) ≡ name_words n
names_same n =
    words_append (plains n.locals) (plains n.globals ++ n.upvalues)
    ∙ ap₂ (λ (a b : List ℕ). a ++ b) (plain_same n.locals)
    (words_append (plains n.globals) n.upvalues ∙ ap₂ (λ (a b : List ℕ). a ++ b) (plain_same n.globals) (upvalues_same n.upvalues))

-- one function more
one_more : (t : Semantic) (m : ℕ) → words_of (all_entries (names_upto t (suc m))) ≡ words_of (all_entries (names_upto t m)) ++ name_words (names t m)
one_more t m =
    ap (λ (l : List Names). words_of (all_entries l)) (names_next t m)
    ∙ ap words_of (entries_snoc (names_upto t m) (names t m)) ∙ words_append (all_entries (names_upto t m)) (entries_of (names t m))
    ∙ ap (λ (l : List ℕ). words_of (all_entries (names_upto t m)) ++ l) (names_same (names t m))

names_written : (t : Semantic) (recs : List ℕ) (m : ℕ) → m ≤ met_of (ran t recs)
    → first_of (ran t recs) (λ x. name_words (names t x.number)) m ≡ words_of (all_entries (names_upto t m))
unfolding each_function names_upto all_entries words_of
names_written t recs zero h = refl
names_written t recs (suc m) h =
    ap₂ (λ (a b : List ℕ). a ++ b) (names_written t recs m (omega arith)) (ap (λ (f : ℕ). name_words (names t f)) (own_name (look t) recs m (omega arith)))
    ∙ sym (one_more t m)

module _ (symbols references functions members recs : List ℕ) (sound : Sound symbols references functions members recs) where
  abbrev t : Semantic
  t = semantic symbols references functions members

  pub whole : start_of_share t (pairs functions) ≡ length members
  whole = (tables_kept symbols references functions members recs sound).entries_right.counts_sum

  pub share_most : (n : ℕ) → n ≤ pairs functions → start_of_share t n ≤ length members
  share_most n h = omega (arith, start_mono functions n (pairs functions) h, whole)

  pub some_met : 0 < met_of (ran t recs)
  some_met =
      let k = tables_kept symbols references functions members recs sound in
      let e = k.number_own 0 k.fits.records_some k.root_is_function ∙ k.number_first in
      omega (arith, (run_bounds symbols references functions members recs sound (look t)).some e)

  module _ (entries : List ℕ) (spans : List Span) (p : Named t entries spans) where
    abbrev met : ℕ
    met = met_of (ran t recs)

    few : met ≤ pairs functions
    few = few_functions symbols references functions members recs sound

    count_is : (n : ℕ) → 0 < n → n ≤ pairs functions → name_count spans n ≡ start_of_share t n * 3
    count_is zero h g = absurd (omega arith)
    count_is (suc n) h g =
        let z : suc n - 1 ≡ n = omega arith in
        let e = p.counted n (omega arith) in
        ap (λ (f : ℕ). ((span_of spans f).start + (span_of spans f).locals + (span_of spans f).globals + (span_of spans f).upvalues) * 3) z
        ∙ ap (λ (s : Span). (s.start + s.locals + s.globals + s.upvalues) * 3) e ∙ omega (arith, names_members t whole n (omega arith), start_more t n)

    met_count : name_count spans met ≡ start_of_share t met * 3
    met_count = count_is met some_met few

    met_front : take (start_of_share t met * 3) entries ≡ words_of (all_entries (names_upto t met))
    met_front = p.front met few

    -- the words are there, and the names' output has room
    pub count_inside : name_count spans met ≤ length entries
    count_inside =
        omega (
          arith,
          met_count,
          ap length met_front,
          length-take (start_of_share t met * 3) entries,
          words_length (all_entries (names_upto t met)),
          entries_start t whole met few,
        )

    pub count_fits : (markers constants names errors lines : List ℕ) → Roomy t recs (lists markers constants names errors lines)
        → name_count spans met ≤ length names
    count_fits markers constants names errors lines r = omega (arith, met_count, share_most met few, (space_kept _ _ _ _ _ _ _ _ r).for_names)

    pub names_copied : take (name_count spans met) entries ≡ (out t recs (side (ran t recs))).names_out
    names_copied = ap (λ (k : ℕ). take k entries) met_count ∙ met_front ∙ sym (names_written t recs met (omega arith))

    -- the lines count the names as the spans do
    pub lines_same : first_of (ran t recs) (line_of recs spans) met ≡ first_of (ran t recs) (line_words t recs) met
    lines_same =
        all_same (ran t recs) (line_of recs spans) (line_words t recs) met
        (λ m lt. at (stream_of (ran t recs) m) (omega (arith, own_name (look t) recs m lt, few)))
      where
        at : (x : Stream) → x.number < pairs functions → line_of recs spans x ≡ line_words t recs x
        at x h = ap (λ (s : Span). length x.marks ∷ x.labels ∷ length (consts x.marks) ∷ s.locals ∷ s.globals ∷ s.upvalues
            ∷ loop_depth (own_tree (children recs x.at)) ∷ []) (p.counted x.number h)
