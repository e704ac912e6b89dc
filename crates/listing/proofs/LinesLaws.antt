-- Laws of a text's lines: the first line and those after it, and the blank lines at the end.
use Rattle.std.proofs.Common.{◌≡◌, refl, sym, ap, ◌∙◌, Bool, true, false, cond, not, List, [], ◌∷◌, ℕ, suc, ◌+◌, ◌≤◌, ◌<◌, length, take, drop, arith}
use lib.ListN.{length-drop}
use lib.Seq.{drop-drop}
use lib.Dec.{eqb}
use Rattle.listing.specs.Lines.{run, is_feed, in_line, lines_of, onto, Took, Over}
use Rattle.listing.specs.Text.{Tables, tables, input, ended}

-- a text that is not empty is its first line and the lines after it
lines_cons : (l : List ℕ) → 0 < length l → lines_of l ≡ take (run in_line l) l ∷ lines_of (drop (suc (run in_line l)) l)
lines_cons [] h = absurd (omega arith)
lines_cons (b ∷ []) h = one (eqb b 10)
  where
    one : (t : Bool) → cond t ([] ∷ []) ((b ∷ []) ∷ [])
        ≡ take (cond (not t) (suc (run in_line [])) 0) (b ∷ []) ∷ lines_of (drop (suc (cond (not t) (suc (run in_line [])) 0)) (b ∷ []))
    one true = refl
    one false = refl
lines_cons (b ∷ c ∷ cs) h = two (eqb b 10) (lines_cons (c ∷ cs) (omega arith))
  where
    bs : List ℕ
    bs = c ∷ cs

    two : (t : Bool) → lines_of bs ≡ take (run in_line bs) bs ∷ lines_of (drop (suc (run in_line bs)) bs)
        → cond t ([] ∷ lines_of bs) (onto b (lines_of bs))
        ≡ take (cond (not t) (suc (run in_line bs)) 0) (b ∷ bs) ∷ lines_of (drop (suc (cond (not t) (suc (run in_line bs)) 0)) (b ∷ bs))
    two true e = refl
    two false e = ap (onto b) e

pub took : (text line rest : List ℕ) (number n : ℕ) → 0 < length text → n ≡ run in_line text → line ≡ take n text → rest ≡ drop 1 (drop n text)
    → Took text number line rest (number + 1)
took text line rest number n h r l e =
    let step : n + 1 ≡ suc n = omega arith in
    let s : rest ≡ drop (suc n) text = e ∙ drop-drop 1 n text ∙ ap (λ (i : ℕ). drop i text) step in
    let t : rest ≡ drop (suc (run in_line text)) text = s ∙ ap (λ (i : ℕ). drop (suc i) text) r in record {
      lines = lines_cons text h ∙ ap (λ (i : ℕ). take i text ∷ lines_of (drop (suc (run in_line text)) text)) (sym r)
          ∙ ap (λ (x : List ℕ). x ∷ lines_of (drop (suc (run in_line text)) text)) (sym l) ∙ ap (λ (x : List ℕ). line ∷ lines_of x) (sym t);
      counted = refl;
      shorter = omega (arith, ap length s, length-drop (suc n) text);
    }

pub over : (text : List ℕ) (number : ℕ) → length text ≡ 0 → Over text number text number
over [] number h = record { lines = refl; none = refl; counted = refl }
over (b ∷ bs) number h = absurd (omega arith)

-- a text of line feeds alone ends well
pub all_blank : (t : Tables) (l : List ℕ) (n : ℕ) → length l ≤ run is_feed l → ended t (lines_of l) n ≡ tables t
all_blank t [] n h = refl
all_blank t (b ∷ bs) n h = by_byte (λ k. all_blank t bs (n + 1) k) (eqb b 10) h
  where
    by_byte : (length bs ≤ run is_feed bs → ended t (lines_of bs) (n + 1) ≡ tables t) → (s : Bool) → suc (length bs) ≤ cond s (suc (run is_feed bs)) 0
        → ended t (cond s ([] ∷ lines_of bs) (onto b (lines_of bs))) n ≡ tables t
    by_byte more true k = more (omega arith)
    by_byte more false k = absurd (omega arith)

ended_line : (t : Tables) (b n : ℕ) (ls : List (List ℕ)) → ended t (onto b ls) n ≡ input n
ended_line t b n [] = refl
ended_line t b n (l ∷ ls) = refl

-- and another line after so many blank ones can't be read
pub not_blank : (t : Tables) (l : List ℕ) (n : ℕ) → run is_feed l < length l → ended t (lines_of l) n ≡ input (n + run is_feed l)
not_blank t [] n h = absurd (omega arith)
not_blank t (b ∷ bs) n h = by_byte (λ k. not_blank t bs (n + 1) k) (eqb b 10) h
  where
    by_byte : (run is_feed bs < length bs → ended t (lines_of bs) (n + 1) ≡ input (n + 1 + run is_feed bs)) → (s : Bool) → cond s (suc (run is_feed bs)) 0 < suc (length bs)
        → ended t (cond s ([] ∷ lines_of bs) (onto b (lines_of bs))) n ≡ input (n + cond s (suc (run is_feed bs)) 0)
    by_byte more true k =
        let e : n + 1 + run is_feed bs ≡ n + suc (run is_feed bs) = omega arith in
        more (omega arith) ∙ ap input e
    by_byte more false k =
        let e : n ≡ n + 0 = omega arith in
        ended_line t b n (lines_of bs) ∙ ap input e
