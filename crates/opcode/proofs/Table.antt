-- A rule of a table, proved at all of its entries by one test that antt computes, one entry after the other.
-- Assumes nothing.
use Rattle.std.proofs.Common.{◌≡◌, ◌∙◌, refl, subst, sym, Bool, true, false, List, [], ◌∷◌, Option, Some, None, Bor, ap, map, slice_get, option_copied}
use Rattle.std.proofs.lemmas.Option.{slice_get_past, slice_get_read, slice_get-map}
use Rattle.std.specs.Slice.{IsItemAt}
use Prim.Native.Nat.{ℕ, zero, suc, ◌+◌, ◌<◌}
use native.Mathlib.Nat.{add-zero, zero-add, add-suc, suc-add, le_of_suc-le-suc, not-suc-le-zero}
use lib.Dec.{T}
use lib.ListN.{length, get_or}

abbrev pub both : Bool → Bool → Bool
both true b = b
both false b = false

pub both_left : (a b : Bool) → T (both a b) → T a
both_left true b t = tt
both_left false b t = t

pub both_right : (a b : Bool) → T (both a b) → T b
both_right true b t = t
both_right false b t = absurd t

module _ {A : Type 0} where
  -- the test f passes at each entry of the list and its place, counted from i
  abbrev pub every : (ℕ → A → Bool) → ℕ → List A → Bool
  every f i [] = true
  every f i (x ∷ xs) = both (f i x) (every f (suc i) xs)

  from :
      (f : ℕ → A → Bool) (d : A) (xs : List A) (i : ℕ) → T (every f i xs) → (k : ℕ) → k < length xs → T (f (i + k) (get_or xs k d))
  from f d [] i t k h = absurd (not-suc-le-zero h)
  from f d (x ∷ xs) i t zero h = subst (λ (m : ℕ). T (f m x)) (sym (add-zero i)) (both_left (f i x) (every f (suc i) xs) t)
  from f d (x ∷ xs) i t (suc k) h =
      subst (λ (m : ℕ). T (f m (get_or xs k d))) (suc-add i k ∙ sym (add-suc i k))
      (from f d xs (suc i) (both_right (f i x) (every f (suc i) xs) t) k (le_of_suc-le-suc h))

  pub at : (f : ℕ → A → Bool) (d : A) (xs : List A) → T (every f 0 xs) → (k : ℕ) → k < length xs → T (f k (get_or xs k d))
  at f d xs t k h = subst (λ (m : ℕ). T (f m (get_or xs k d))) (zero-add k) (from f d xs 0 t k h)

-- what `get` lends and `copied` copies is the list's entry
pub got : {X : Type 0} (xs : List X) (i : ℕ) (r : Option (Bor X)) → IsItemAt xs i r → option_copied r ≡ slice_get xs i
got xs i None h = sym (slice_get_past xs i h.3)
got xs i (Some x) h = sym (slice_get_read xs (length xs) i x.now refl h.3.0 h.1)

-- the same of a table of texts
pub got_text :
    (xs : List (Bor (List ℕ))) (ys : List (List ℕ)) (i : ℕ) (r : Option (Bor (Bor (List ℕ)))) (t : Option (Bor (List ℕ))) → map (λ x. x.now) xs ≡ ys → IsItemAt xs i r
    → t ≡ option_copied r → option_copied t ≡ slice_get ys i
got_text xs ys i r t e h q =
    ap (λ (o : Option (Bor (List ℕ))). option_copied o) (q ∙ got xs i r h) ∙ sym (slice_get-map (λ (x : Bor (List ℕ)). x.now) xs i)
    ∙ ap (λ (l : List (List ℕ)). slice_get l i) e
