-- Names made function by function, in any order: one more leaves the others as they are, and all of them are the whole. Assumes nothing.
use Rattle.std.proofs.lemmas.Bool.{cond-true}
use mathlib.Core.Path.{◌≡◌, sym, ap, ap₂, subst, ◌∙◌}
use mathlib.Core.Bool.{true}
use mathlib.Core.List.{List, [], ◌∷◌, ◌++◌}
use mathlib.Core.Logic.{◌⊎◌, inl, inr}
use Prim.Native.Nat.{ℕ, zero, suc, ◌+◌, ◌*◌, ◌≤◌, ◌<◌}
use native.Mathlib.Omega.{arith}
use native.Mathlib.Decide.{ℕ_discrete}
use lib.ListN.{length, get_or, set, length-set, get_or-append}
use lib.Seq.{sets, length-sets, get_or-set_same, get_or-set_other}
use Rattle.std.proofs.lemmas.List.{get_or_at}
use borrow.Author.Tests.{le-leb}
use Rattle.tables.proofs.SemanticLaws.{split, start_mono}
use Rattle.pool.specs.declared.spans.Span.{Span}
use Rattle.pool.specs.Names.{Semantic, function_count, count_of_members, start_of_share, share, Names, names, names_upto}
use Rattle.pool.specs.NameWords.{words_of, entries_of, all_entries, entries_laid, span_for, spans_from, no_span, span_of, class_of, made, fits}
use Rattle.pool.specs.NameWords.{entries_after, spans_after}
use Rattle.pool.specs.NameSteps.{entries_named, spans_named, Stands, Fits, parent_owner, owner_names}
use Rattle.pool.specs.ResolveSteps.{Made}
use Rattle.pool.specs.declared.names.Class.{Class}
use Rattle.pool.proofs.WordParts.{sets_other, sets_stand, stands_append, stands_same, over_words, over_items}
use Rattle.pool.proofs.EntryLaws.{words_length, words_append, laid_sets}
use Rattle.pool.proofs.NameTables.{made_same}
use Rattle.pool.proofs.NameUpto.{entries_snoc, spans_snoc, spans_length, names_length, share_fits, share_length, start_more, entries_start}
use Rattle.pool.proofs.NamesLaws.{names_next, names_owned, entries_count}

pub made_weaken : (t : Semantic) (done done' : ℕ → Type 0) (ws₀ : List ℕ) (sp₀ : List Span) (ws : List ℕ) (sp : List Span) → ((f : ℕ) → f < function_count t → done' f → done f)
    → Made t done ws₀ sp₀ ws sp → Made t done' ws₀ sp₀ ws sp
made_weaken t done done' ws₀ sp₀ ws sp h m =
    record {
      entries_long = m.entries_long;
      spans_long = m.spans_long;
      entries_past = m.entries_past;
      spans_past = m.spans_past;
      starts = m.starts;
      entries = λ f p q. m.entries f p (h f p q);
      spans = λ f p q. m.spans f p (h f p q);
    }

module _ (t : Semantic) (ws₀ : List ℕ) (sp₀ : List Span) (fit : Fits t (length ws₀) (length sp₀)) where
  -- shares of different functions lie apart
  apart : (f g : ℕ) → f < function_count t → g < function_count t → (f ≡ g → ⊥)
      → (start_of_share t f + count_of_members t f ≤ start_of_share t g) ⊎ (start_of_share t g + count_of_members t g ≤ start_of_share t f)
  apart f g p q d = go (split (suc f) g)
    where
      go : (suc f ≤ g) ⊎ (g < suc f) → (start_of_share t f + count_of_members t f ≤ start_of_share t g) ⊎ (start_of_share t g + count_of_members t g ≤ start_of_share t f)
      go (inl h) = inl (omega (arith, start_more t f, start_mono t.functions (suc f) g h))
      go (inr h) = inr (omega (arith, start_more t g, start_mono t.functions (suc g) f (omega arith)))

  -- function f is named
  module _ (done : ℕ → Type 0) (ws : List ℕ) (sp : List Span) (ws' : List ℕ) (sp' : List Span) (m : Made t done ws₀ sp₀ ws sp) (f : ℕ) (h : f < function_count t) (cl : ℕ → Class)
      (ss : List ℕ)
      (ec : (s : ℕ) → cl s ≡ class_of t (owner_names t (parent_owner t.functions f)) s) (es : ss ≡ share t f)
      (ew : ws' ≡ entries_named cl ss ws (span_of sp f).start) (ep : sp' ≡ spans_named cl ss sp f) where
    abbrev a : ℕ
    a = start_of_share t f

    abbrev n : Names
    n = names t f

    count : length (entries_of n) ≡ count_of_members t f
    count = entries_count t fit.counted f h

    is_made : made cl ss ≡ n
    is_made = ap (made cl) es ∙ (made_same cl _ ec (share t f) ∙ sym (names_owned t f))

    few : length ss ≤ 1024
    few = omega (arith, ap length es, share_length t fit.counted f h, share_fits t fit.counted f h, fit.members_limit)

    words : ws' ≡ sets ws (a * 3) (words_of (entries_of n))
    unfolding entries_named
    words =
        ew
        ∙ (cond-true _ _ _ (le-leb _ _ few)
        ∙ (ap₂ (λ (k : ℕ) (x : Names). entries_laid ws k (entries_of x)) (m.starts f h) is_made
        ∙ laid_sets ws a (entries_of n) (omega (arith, count, share_fits t fit.counted f h, m.entries_long, fit.entries_room))))

    places : sp' ≡ set sp f (span_for a n)
    unfolding spans_named
    places =
        ep
        ∙ (cond-true _ _ _ (le-leb _ _ few)
        ∙ ap₂ (λ (k : ℕ) (x : Names). set sp f (span_for k x)) (m.starts f h) is_made)

    entry_other : (j : ℕ) → (j < a * 3) ⊎ ((a + count_of_members t f) * 3 ≤ j) → get_or ws' j 0 ≡ get_or ws j 0
    entry_other j p = ap (λ (l : List ℕ). get_or l j 0) words ∙ sets_other (words_of (entries_of n)) ws (a * 3) j (go p)
      where
        go : (j < a * 3) ⊎ ((a + count_of_members t f) * 3 ≤ j) → (j < a * 3) ⊎ (a * 3 + length (words_of (entries_of n)) ≤ j)
        go (inl x) = inl x
        go (inr x) = inr (omega (arith, words_length (entries_of n), count))

    span_same : span_of sp' f ≡ span_for a n
    span_same = ap (λ (l : List Span). span_of l f) places ∙ get_or-set_same sp f (span_for a n) no_span (omega (arith, m.spans_long, fit.spans_room))

    span_other : (g : ℕ) → (g ≡ f → ⊥) → span_of sp' g ≡ span_of sp g
    span_other g d = ap (λ (l : List Span). span_of l g) places ∙ get_or-set_other sp f g (span_for a n) no_span d

    starts_next : (g : ℕ) → g < function_count t → (span_of sp' g).start ≡ start_of_share t g
    starts_next g p = go (ℕ_discrete g f)
      where
        go : Dec (g ≡ f) → (span_of sp' g).start ≡ start_of_share t g
        go (yes z) = rw z (ap (λ (x : Span). x.start) span_same)
        go (no z) = ap (λ (x : Span). x.start) (span_other g z) ∙ m.starts g p

    entries_next : (g : ℕ) → g < function_count t → (done g) ⊎ (g ≡ f) → Stands ws' (start_of_share t g * 3) (words_of (entries_of (names t g)))
    entries_next g p d = go (ℕ_discrete g f) d
      where
        go : Dec (g ≡ f) → (done g) ⊎ (g ≡ f) → Stands ws' (start_of_share t g * 3) (words_of (entries_of (names t g)))
        go (yes z) x =
            subst (λ (k : ℕ). Stands ws' (start_of_share t k * 3) (words_of (entries_of (names t k)))) (sym z)
            (subst (λ (l : List ℕ). Stands l (a * 3) (words_of (entries_of n))) (sym words)
            (sets_stand (words_of (entries_of n)) ws (a * 3)
            (omega (arith, words_length (entries_of n), count, share_fits t fit.counted f h, m.entries_long, fit.entries_room))))
        go (no z) (inr x) = absurd (z x)
        go (no z) (inl x) =
            stands_same ws ws' (start_of_share t g * 3) (words_of (entries_of (names t g)))
            (λ j u v. entry_other j (side j u (omega (arith, words_length (entries_of (names t g)), entries_count t fit.counted g p)) (apart g f p h z))) (m.entries g p x)
          where
            side : (j : ℕ) → start_of_share t g * 3 ≤ j → j < (start_of_share t g + count_of_members t g) * 3
                → (start_of_share t g + count_of_members t g ≤ a) ⊎ (a + count_of_members t f ≤ start_of_share t g) → (j < a * 3) ⊎ ((a + count_of_members t f) * 3 ≤ j)
            side j u v (inl y) = inl (omega arith)
            side j u v (inr y) = inr (omega arith)

    spans_next : (g : ℕ) → g < function_count t → (done g) ⊎ (g ≡ f) → span_of sp' g ≡ span_for (start_of_share t g) (names t g)
    spans_next g p d = go (ℕ_discrete g f) d
      where
        go : Dec (g ≡ f) → (done g) ⊎ (g ≡ f) → span_of sp' g ≡ span_for (start_of_share t g) (names t g)
        go (yes z) x = rw z span_same
        go (no z) (inr x) = absurd (z x)
        go (no z) (inl x) = span_other g z ∙ m.spans g p x

    pub made_more : Made t (λ g. (done g) ⊎ (g ≡ f)) ws₀ sp₀ ws' sp'
    made_more =
        record {
          entries_long = ap length words ∙ (length-sets ws (a * 3) (words_of (entries_of n)) ∙ m.entries_long);
          spans_long = ap length places ∙ (length-set sp f (span_for a n) ∙ m.spans_long);
          entries_past = λ j p. entry_other j (inr (omega (arith, share_fits t fit.counted f h))) ∙ m.entries_past j p;
          spans_past = λ j p. span_other j (λ e. omega arith) ∙ m.spans_past j p;
          starts = starts_next;
          entries = entries_next;
          spans = spans_next;
        }

  -- all functions are named
  module _ (done : ℕ → Type 0) (ws : List ℕ) (sp : List Span) (m : Made t done ws₀ sp₀ ws sp) (all : (f : ℕ) → f < function_count t → done f) where
    front : (f : ℕ) → f ≤ function_count t → Stands ws 0 (words_of (all_entries (names_upto t f)))
    unfolding names_upto all_entries words_of
    front zero h = λ k p. absurd (omega arith)
    front (suc f) h =
        let es = all_entries (names_upto t f) in
        let e : words_of (all_entries (names_upto t (suc f))) ≡ words_of es ++ words_of (entries_of (names t f)) =
        ap words_of (ap all_entries (names_next t f) ∙ entries_snoc (names_upto t f) (names t f)) ∙ words_append es (entries_of (names t f)) in
        let z : start_of_share t f * 3 ≡ 0 + length (words_of es) = omega (arith, words_length es, entries_start t fit.counted f (omega arith)) in
        subst (Stands ws 0) (sym e)
        (stands_append ws 0 (words_of es) (words_of (entries_of (names t f))) (front f (omega arith))
        (subst (λ (i : ℕ). Stands ws i (words_of (entries_of (names t f)))) z (m.entries f (omega arith) (all f (omega arith)))))

    places_front : (f : ℕ) → f ≤ function_count t → (g : ℕ) → g < f → span_of (spans_from 0 (names_upto t f)) g ≡ span_of sp g
    unfolding names_upto spans_from
    places_front zero h g p = absurd (omega arith)
    places_front (suc f) h g p =
        let ns = names_upto t f in
        let y : 0 + length (all_entries ns) ≡ start_of_share t f = omega (arith, entries_start t fit.counted f (omega arith)) in
        let e : spans_from 0 (names_upto t (suc f)) ≡ spans_from 0 ns ++ (span_for (start_of_share t f) (names t f) ∷ []) =
        ap (spans_from 0) (names_next t f) ∙ (spans_snoc ns 0 (names t f) ∙ ap (λ (k : ℕ). spans_from 0 ns ++ (span_for k (names t f) ∷ [])) y) in
        let l : length (spans_from 0 ns) ≡ f = spans_length ns 0 ∙ names_length t f in
        ap (λ (l : List Span). span_of l g) e ∙ go l (λ q. places_front f (omega arith) g q) (ℕ_discrete g f)
      where
        go : length (spans_from 0 (names_upto t f)) ≡ f → (g < f → span_of (spans_from 0 (names_upto t f)) g ≡ span_of sp g) → Dec (g ≡ f)
            → span_of (spans_from 0 (names_upto t f) ++ (span_for (start_of_share t f) (names t f) ∷ [])) g ≡ span_of sp g
        go l k (yes z) =
            get_or_at (spans_from 0 (names_upto t f)) (span_for (start_of_share t f) (names t f)) [] no_span g (l ∙ sym z)
            ∙ sym (ap (span_of sp) z ∙ m.spans f (omega arith) (all f (omega arith)))
        go l k (no z) = get_or-append (spans_from 0 (names_upto t f)) _ no_span g (omega arith) ∙ k (omega arith)

    abbrev c : ℕ
    c = function_count t

    all_words : length (words_of (all_entries (names_upto t c))) ≡ length t.members * 3
    all_words = omega (arith, words_length (all_entries (names_upto t c)), entries_start t fit.counted c (omega arith), fit.counted)

    all_spans : length (spans_from 0 (names_upto t c)) ≡ c
    all_spans = omega (arith, spans_length (names_upto t c) 0, names_length t c)

    pub made_entries : fits t (length ws₀) (length sp₀) ≡ true → ws ≡ entries_after t ws₀ sp₀
    unfolding entries_after
    made_entries e =
        over_words ws ws₀ (words_of (all_entries (names_upto t c))) m.entries_long (omega (arith, all_words, fit.entries_room)) (front c (omega arith))
        (λ j p. m.entries_past j (omega (arith, all_words)))
        ∙ sym (cond-true _ _ _ e)

    pub made_spans : fits t (length ws₀) (length sp₀) ≡ true → sp ≡ spans_after t ws₀ sp₀
    unfolding spans_after
    made_spans e =
        over_items no_span sp sp₀ (spans_from 0 (names_upto t c)) m.spans_long (omega (arith, all_spans, fit.spans_room))
        (λ g p. sym (places_front c (omega arith) g (omega (arith, all_spans)))) (λ j p. m.spans_past j (omega (arith, all_spans)))
        ∙ sym (cond-true _ _ _ e)
