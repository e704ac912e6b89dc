-- Demand 3 on the words that are left: a function's own among them are its stream's words. Assumes nothing.
use mathlib.Core.Path.{◌≡◌, refl, sym, ap, ap₂, subst⁻¹, ◌∙◌}
use mathlib.Core.Bool.{Bool, true, false}
use mathlib.Core.List.{List, [], ◌++◌, append_assoc, append-nil}
use Prim.Native.Nat.{ℕ, zero, suc, ◌+◌, ◌*◌, ◌≤◌, ◌<◌}
use native.Mathlib.Omega.{arith}
use lib.ListN.{length, get_or, take, drop, get_or-append}
use lib.Seq.{take_at, drop_at, get_or-append-add}
use lib.Dec.{ltb}
use borrow.Author.Tests.{ltb-true, ltb-false}
use Rattle.pool.specs.Names.{Semantic}
use Rattle.pool.specs.NameWords.{over}
use Rattle.rules.specs.Run.{Stream, State, side}
use Rattle.rules.specs.Out.{consts, line_words, each_function}
use Rattle.rules.specs.Demand.{Demand3, Labels, Loops, Constants, Indices}
use Rattle.codegen.specs.Walks.{stack_code, ran}
use Rattle.codegen.specs.Listing.{markers_of, constants_of, stream_of, met_of, first_of}
use Rattle.codegen.specs.Demand.{counted_at, before, own_words, Demand3On}
use Rattle.codegen.proofs.LayLaws.{markers_length, constants_length}
use Rattle.codegen.proofs.StreamsLaws.{all_length, more_length}

module _ (t : Semantic) (recs : List ℕ) where
  abbrev A : State
  A = ran t recs

  -- what stands before, between and behind
  split : (g : Stream → List ℕ) (f m : ℕ) → f < m → (rest : List ℕ) × (first_of A g m ≡ first_of A g f ++ (g (stream_of A f) ++ rest))
  unfolding each_function
  split g f zero h = absurd (omega arith)
  split g f (suc m) h = go (ltb f m) refl (λ i. split g f m i)
    where
      x : List ℕ
      x = g (stream_of A m)

      longer : (rest : List ℕ) × (first_of A g m ≡ first_of A g f ++ (g (stream_of A f) ++ rest))
          → (rest : List ℕ) × (first_of A g m ++ x ≡ first_of A g f ++ (g (stream_of A f) ++ rest))
      longer (rest, e) = (
        rest ++ x,
        ap (λ (l : List ℕ). l ++ x) e ∙ append_assoc (first_of A g f) (g (stream_of A f) ++ rest) x
            ∙ ap (λ (l : List ℕ). first_of A g f ++ l) (append_assoc (g (stream_of A f)) rest x),
      )

      go : (b : Bool) → ltb f m ≡ b → (f < m → (rest : List ℕ) × (first_of A g m ≡ first_of A g f ++ (g (stream_of A f) ++ rest)))
          → (rest : List ℕ) × (first_of A g m ++ x ≡ first_of A g f ++ (g (stream_of A f) ++ rest))
      go true e ih = longer (ih (ltb-true f m e))
      go false e ih =
          let z : m ≡ f = omega (arith, ltb-false f m e) in (
            [],
            ap (λ (k : ℕ). first_of A g k ++ g (stream_of A k)) z ∙ ap (λ (l : List ℕ). first_of A g f ++ l)
                (sym (append-nil (g (stream_of A f)))),
          )

  -- a function's own words
  own_found : (g : Stream → List ℕ) (f m : ℕ) → f < m → (ws : List ℕ)
      → take (length (g (stream_of A f))) (drop (length (first_of A g f)) (over (first_of A g m) ws)) ≡ g (stream_of A f)
  own_found g f m h ws = go (split g f m h)
    where
      xs : List ℕ
      xs = first_of A g m

      a : List ℕ
      a = first_of A g f

      b : List ℕ
      b = g (stream_of A f)

      go : (rest : List ℕ) × (xs ≡ a ++ (b ++ rest)) → take (length b) (drop (length a) (over xs ws)) ≡ b
      go (rest, e) =
          let d = drop (length xs) ws in
          ap (λ (l : List ℕ). take (length b) (drop (length a) (l ++ d))) e
          ∙ ap (λ (l : List ℕ). take (length b) (drop (length a) l)) (append_assoc a (b ++ rest) d)
          ∙ ap (take (length b)) (drop_at a ((b ++ rest) ++ d) (length a) refl) ∙ ap (take (length b)) (append_assoc b rest d)
          ∙ take_at b (rest ++ d) (length b) refl

  -- and a word of its line
  line_word : (f m : ℕ) → f < m → (j : ℕ) → j < 7 → (ws : List ℕ)
      → get_or (over (first_of A (line_words t recs) m) ws) (f * 7 + j) 0 ≡ get_or (line_words t recs (stream_of A f)) j 0
  line_word f m h j i ws = go (split (line_words t recs) f m h)
    where
      xs : List ℕ
      xs = first_of A (line_words t recs) m

      a : List ℕ
      a = first_of A (line_words t recs) f

      b : List ℕ
      b = line_words t recs (stream_of A f)

      go : (rest : List ℕ) × (xs ≡ a ++ (b ++ rest)) → get_or (over xs ws) (f * 7 + j) 0 ≡ get_or b j 0
      go (rest, e) =
          let d = drop (length xs) ws in
          let z : f * 7 + j ≡ length a + j = omega (arith, all_length A (line_words t recs) 7 (λ x. refl) f) in
          ap (λ (k : ℕ). get_or (over xs ws) k 0) z
          ∙ ap (λ (l : List ℕ). get_or (l ++ d) (length a + j) 0) e ∙ ap (λ (l : List ℕ). get_or l (length a + j) 0) (append_assoc a (b ++ rest) d)
          ∙ get_or-append-add a ((b ++ rest) ++ d) j 0 ∙ ap (λ (l : List ℕ). get_or l j 0) (append_assoc b rest d) ∙ get_or-append b (rest ++ d) 0 j i

  module _ (markers constants lines markers' constants' lines' : List ℕ) (em : markers' ≡ over (first_of A markers_of (met_of A)) markers)
      (ec : constants' ≡ over (first_of A constants_of (met_of A)) constants)
      (el : lines' ≡ over (first_of A (line_words t recs) (met_of A)) lines) where
    line_is : (f : ℕ) → f < met_of A → (j : ℕ) → j < 7 → counted_at j lines' f ≡ get_or (line_words t recs (stream_of A f)) j 0
    line_is f h j i = ap (λ (l : List ℕ). get_or l (f * 7 + j) 0) el ∙ line_word f (met_of A) h j i lines

    marks_counted : (f : ℕ) → f < met_of A → counted_at 0 lines' f ≡ length (stream_of A f).marks
    marks_counted f h = line_is f h 0 (omega arith)

    labels_are : (f : ℕ) → f < met_of A → counted_at 1 lines' f ≡ (stream_of A f).labels
    labels_are f h = line_is f h 1 (omega arith)

    consts_counted : (f : ℕ) → f < met_of A → counted_at 2 lines' f ≡ length (consts (stream_of A f).marks)
    consts_counted f h = line_is f h 2 (omega arith)

    markers_before : (f : ℕ) → f ≤ met_of A → before 2 0 lines' f ≡ length (first_of A markers_of f)
    unfolding before each_function
    markers_before zero h = refl
    markers_before (suc f) h =
        let x = stream_of A f in
        ap (λ (k : ℕ). before 2 0 lines' f + 2 * k) (marks_counted f (omega arith))
        ∙ omega (arith, markers_before f (omega arith), more_length A markers_of f, markers_length (consts x.marks) x.marks)

    constants_before : (f : ℕ) → f ≤ met_of A → before 3 2 lines' f ≡ length (first_of A constants_of f)
    unfolding before each_function
    constants_before zero h = refl
    constants_before (suc f) h =
        let x = stream_of A f in
        ap (λ (k : ℕ). before 3 2 lines' f + 3 * k) (consts_counted f (omega arith))
        ∙ omega (arith, constants_before f (omega arith), more_length A constants_of f, constants_length (consts x.marks))

    own_markers : (f : ℕ) → f < met_of A → own_words 2 0 lines' markers' f ≡ markers_of (stream_of A f)
    own_markers f h =
        let x = stream_of A f in
        ap₂ (λ (n : ℕ) (l : List ℕ). take n (drop (before 2 0 lines' f) l))
        (ap (λ (k : ℕ). 2 * k) (marks_counted f h) ∙ sym (markers_length (consts x.marks) x.marks)) em
        ∙ ap (λ (n : ℕ). take (length (markers_of x)) (drop n (over (first_of A markers_of (met_of A)) markers))) (markers_before f (omega arith))
        ∙ own_found markers_of f (met_of A) h markers

    own_constants : (f : ℕ) → f < met_of A → own_words 3 2 lines' constants' f ≡ constants_of (stream_of A f)
    own_constants f h =
        let x = stream_of A f in
        ap₂ (λ (n : ℕ) (l : List ℕ). take n (drop (before 3 2 lines' f) l))
        (ap (λ (k : ℕ). 3 * k) (consts_counted f h) ∙ sym (constants_length (consts x.marks))) ec
        ∙ ap (λ (n : ℕ). take (length (constants_of x)) (drop n (over (first_of A constants_of (met_of A)) constants))) (constants_before f (omega arith))
        ∙ own_found constants_of f (met_of A) h constants

    -- demand 3 of the streams is demand 3 of the words
    pub on_words : Demand3 stack_code t recs (side A) → Demand3On t recs markers' constants' lines' (met_of A)
    on_words d f h =
        let x = stream_of A f in
        let s = d f h in
        let e = own_markers f h in
        let n = marks_counted f h in
        let l = labels_are f h in
        record {
          counted = l ∙ s.counted;
          labels = subst⁻¹ (λ (k : ℕ). Labels (own_words 2 0 lines' markers' f) (counted_at 0 lines' f) k) l
              (both (λ (ws : List ℕ) (k : ℕ). Labels ws k x.labels) e n s.labels);
          loops = both (λ (ws : List ℕ) (k : ℕ). Loops recs x ws k) e n s.loops;
          constants_are = own_constants f h;
          constants_right = both (λ (ws : List ℕ) (k : ℕ). Constants (consts x.marks) ws k) e n s.constants;
          indices = both (λ (ws : List ℕ) (k : ℕ). Indices t f (met_of A) (consts x.marks) ws k) e n s.indices;
        }
      where
        both : (P : List ℕ → ℕ → Type 0) {ws vs : List ℕ} {k n : ℕ} → ws ≡ vs → k ≡ n → P vs n → P ws k
        both P {ws} {vs} {k} {n} e q h = subst⁻¹ (λ (l : List ℕ). P l k) e (subst⁻¹ (λ (i : ℕ). P vs i) q h)
