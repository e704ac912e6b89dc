-- The names as they are made from accepted tables: where each function's stand, and that they stand one after the other. Assumes nothing.
use mathlib.Core.Path.{◌≡◌, refl, sym, ap, ◌∙◌}
use mathlib.Core.Bool.{true}
use mathlib.Core.List.{List, [], ◌∷◌, ◌++◌, append_assoc}
use Prim.Native.Nat.{ℕ, suc, ◌+◌, ◌*◌, ◌≤◌, ◌<◌}
use native.Mathlib.Omega.{arith}
use lib.ListN.{length, take, drop, take-append-drop}
use lib.Seq.{take_at}
use Rattle.std.proofs.lemmas.List.{get_or_at}
use Rattle.pool.specs.declared.spans.Span.{Span}
use Rattle.pool.specs.Names.{Semantic, Upvalue, Names, function_count, start_of_share, names, names_upto}
use Rattle.pool.specs.NameWords.{over, span_of, no_span, span_for, words_of, all_entries, entries_of, spans_from, fits, entries_after, spans_after}
use Rattle.std.proofs.lemmas.Bool.{cond-true}
use Rattle.pool.proofs.EntryLaws.{words_length, words_append}
use Rattle.pool.proofs.NameUpto.{names_length, spans_length, spans_snoc, entries_start}
use Rattle.pool.proofs.NamesLaws.{names_take, names_next}

-- the spans count each function's names, and the names of the first n functions stand in front
pub record Named (t : Semantic) (entries : List ℕ) (spans : List Span) : Type 0 where
  pub counted : (f : ℕ) → f < function_count t → span_of spans f ≡ span_for (start_of_share t f) (names t f)
  pub front : (n : ℕ) → n ≤ function_count t → take (start_of_share t n * 3) entries ≡ words_of (all_entries (names_upto t n))

entries_both : (ms ns : List Names) → all_entries (ms ++ ns) ≡ all_entries ms ++ all_entries ns
unfolding all_entries
entries_both [] ns = refl
entries_both (m ∷ ms) ns = ap (λ (l : List Upvalue). entries_of m ++ l) (entries_both ms ns) ∙ sym (append_assoc (entries_of m) (all_entries ms) (all_entries ns))

spans_front : (ms ns : List Names) (s : ℕ) → (rest : List Span) × (spans_from s (ms ++ ns) ≡ spans_from s ms ++ rest)
unfolding spans_from
spans_front [] ns s = (spans_from s ns, refl)
spans_front (m ∷ ms) ns s = go (spans_front ms ns (s + length (entries_of m)))
  where
    go : (rest : List Span) × (spans_from (s + length (entries_of m)) (ms ++ ns) ≡ spans_from (s + length (entries_of m)) ms ++ rest)
        → (rest : List Span) × (spans_from s (m ∷ (ms ++ ns)) ≡ spans_from s (m ∷ ms) ++ rest)
    go (rest, e) = (rest, ap (λ (l : List Span). span_for s m ∷ l) e)

module _ (t : Semantic) (whole : start_of_share t (function_count t) ≡ length t.members) (ws : List ℕ) (sp : List Span) (entries : List ℕ) (spans : List Span)
    (room : fits t (length ws) (length sp) ≡ true) (made : entries ≡ entries_after t ws sp) (spanned : spans ≡ spans_after t ws sp) where
  abbrev all : List Names
  all = names_upto t (function_count t)

  -- the first n functions' names, and the others'
  split : (n : ℕ) → n ≤ function_count t → all ≡ names_upto t n ++ drop n all
  split n h = sym (take-append-drop n all) ∙ ap (λ (l : List Names). l ++ drop n all) (names_take t (function_count t) n h)

  spans_made : spans ≡ over (spans_from 0 all) sp
  unfolding spans_after
  spans_made = spanned ∙ cond-true _ _ _ room

  entries_made : entries ≡ over (words_of (all_entries all)) ws
  unfolding entries_after
  entries_made = made ∙ cond-true _ _ _ room

  -- where function f's names start, and how many they are
  counted_of : (f : ℕ) → f < function_count t → span_of spans f ≡ span_for (start_of_share t f) (names t f)
  counted_of f h = at (spans_front (names_upto t (suc f)) (drop (suc f) all) 0)
    where
      a : List Span
      a = spans_from 0 (names_upto t f)

      b : Span
      b = span_for (start_of_share t f) (names t f)

      last : spans_from 0 (names_upto t (suc f)) ≡ a ++ (b ∷ [])
      last =
          let z : 0 + length (all_entries (names_upto t f)) ≡ start_of_share t f = omega (arith, entries_start t whole f (omega arith)) in
          ap (spans_from 0) (names_next t f) ∙ spans_snoc (names_upto t f) 0 (names t f)
          ∙ ap (λ (k : ℕ). a ++ (span_for k (names t f) ∷ [])) z

      at : (rest : List Span) × (spans_from 0 (names_upto t (suc f) ++ drop (suc f) all) ≡ spans_from 0 (names_upto t (suc f)) ++ rest) → span_of spans f ≡ b
      at (rest, e) =
          let d = drop (length (spans_from 0 all)) sp in
          let q : spans ≡ a ++ (b ∷ (rest ++ d)) =
          spans_made
          ∙ ap (λ (l : List Span). l ++ d) (ap (spans_from 0) (split (suc f) (omega arith)) ∙ e ∙ ap (λ (l : List Span). l ++ rest) last)
          ∙ append_assoc (a ++ (b ∷ [])) rest d ∙ append_assoc a (b ∷ []) (rest ++ d) in
          ap (λ (l : List Span). span_of l f) q ∙ get_or_at a b (rest ++ d) no_span f (spans_length (names_upto t f) 0 ∙ names_length t f)

  front_of : (n : ℕ) → n ≤ function_count t → take (start_of_share t n * 3) entries ≡ words_of (all_entries (names_upto t n))
  front_of n h =
      let a = words_of (all_entries (names_upto t n)) in
      let b = words_of (all_entries (drop n all)) in
      let e : words_of (all_entries all) ≡ a ++ b =
      ap (λ (l : List Names). words_of (all_entries l)) (split n h) ∙ ap words_of (entries_both (names_upto t n) (drop n all))
      ∙ words_append (all_entries (names_upto t n)) (all_entries (drop n all)) in
      ap (take (start_of_share t n * 3)) (entries_made ∙ ap (λ (l : List ℕ). over l ws) e ∙ append_assoc a b (drop (length (a ++ b)) ws))
      ∙ take_at a (b ++ drop (length (a ++ b)) ws) (start_of_share t n * 3)
      (words_length (all_entries (names_upto t n)) ∙ ap (λ (k : ℕ). k * 3) (entries_start t whole n h))

  pub named_of : Named t entries spans
  named_of = record { counted = counted_of; front = front_of }
