-- Words that stand in others from a place on: what stores leave, parts put together, and a whole front. Assumes nothing.
use mathlib.Core.Path.{◌≡◌, refl, sym, ap, ◌∙◌}
use mathlib.Core.List.{List, [], ◌∷◌, ◌++◌}
use mathlib.Core.Logic.{◌⊎◌, inl, inr}
use Prim.Native.Nat.{ℕ, zero, suc, ◌+◌, ◌-◌, ◌≤◌, ◌<◌}
use native.Mathlib.Omega.{arith}
use lib.ListN.{length, get_or, drop, set, length-set, length-append, length-drop, get_or-append}
use lib.Seq.{sets, get_or-set_same, get_or-set_other, get_or-append-add, get_or-drop, ext_get_or}
use Rattle.tables.proofs.SemanticLaws.{split}
use Rattle.pool.specs.NameWords.{over}
use Rattle.pool.specs.NameSteps.{Stands}

-- a run of stores, elsewhere and at its own places
pub sets_other : (vs l : List ℕ) (i j : ℕ) → (j < i) ⊎ (i + length vs ≤ j) → get_or (sets l i vs) j 0 ≡ get_or l j 0
sets_other [] l i j h = refl
sets_other (v ∷ vs) l i j h = sets_other vs (set l i v) (suc i) j (on h) ∙ get_or-set_other l i j v 0 (off h)
  where
    on : (j < i) ⊎ (i + suc (length vs) ≤ j) → (j < suc i) ⊎ (suc i + length vs ≤ j)
    on (inl a) = inl (omega arith)
    on (inr a) = inr (omega arith)

    off : (j < i) ⊎ (i + suc (length vs) ≤ j) → j ≡ i → ⊥
    off (inl a) e = omega arith
    off (inr a) e = omega arith

pub sets_stand : (vs l : List ℕ) (i : ℕ) → i + length vs ≤ length l → Stands (sets l i vs) i vs
sets_stand [] l i h k p = absurd (omega arith)
sets_stand (v ∷ vs) l i h zero p =
    let z : i + 0 ≡ i = omega arith in
    ap (λ (j : ℕ). get_or (sets (set l i v) (suc i) vs) j 0) z ∙ sets_other vs (set l i v) (suc i) i (inl (omega arith)) ∙ get_or-set_same l i v 0 (omega arith)
sets_stand (v ∷ vs) l i h (suc k) p =
    let z : i + suc k ≡ suc i + k = omega arith in
    ap (λ (j : ℕ). get_or (sets (set l i v) (suc i) vs) j 0) z ∙ sets_stand vs (set l i v) (suc i) (omega (arith, length-set l i v)) k (omega arith)

module _ (ws : List ℕ) (i : ℕ) (xs ys : List ℕ) where
  -- parts in a row
  pub stands_append : Stands ws i xs → Stands ws (i + length xs) ys → Stands ws i (xs ++ ys)
  stands_append a b k h = go (split (length xs) k)
    where
      go : (length xs ≤ k) ⊎ (k < length xs) → get_or ws (i + k) 0 ≡ get_or (xs ++ ys) k 0
      go (inr p) = a k p ∙ sym (get_or-append xs ys 0 k p)
      go (inl p) =
          let z : length xs + (k - length xs) ≡ k = omega arith in
          let y : i + k ≡ i + length xs + (k - length xs) = omega arith in
          ap (λ (j : ℕ). get_or ws j 0) y ∙ b (k - length xs) (omega (arith, length-append xs ys)) ∙ sym (get_or-append-add xs ys (k - length xs) 0)
          ∙ ap (λ (j : ℕ). get_or (xs ++ ys) j 0) z

  pub stands_front : Stands ws i (xs ++ ys) → Stands ws i xs
  stands_front a k h = a k (omega (arith, length-append xs ys)) ∙ get_or-append xs ys 0 k h

  pub stands_back : Stands ws i (xs ++ ys) → Stands ws (i + length xs) ys
  stands_back a k h =
      let z : i + length xs + k ≡ i + (length xs + k) = omega arith in
      ap (λ (j : ℕ). get_or ws j 0) z ∙ a (length xs + k) (omega (arith, length-append xs ys)) ∙ get_or-append-add xs ys k 0

-- they stand where the words are the same
pub stands_same : (ws ws' : List ℕ) (i : ℕ) (vs : List ℕ) → ((j : ℕ) → i ≤ j → j < i + length vs → get_or ws' j 0 ≡ get_or ws j 0) → Stands ws i vs → Stands ws' i vs
stands_same ws ws' i vs e a k h = e (i + k) (omega arith) (omega arith) ∙ a k h

-- a front that stands, and what is behind it as it was
pub over_items : {A : Type 0} (d : A) (ws o vs : List A) → length ws ≡ length o → length vs ≤ length o → ((j : ℕ) → j < length vs → get_or ws j d ≡ get_or vs j d)
    → ((j : ℕ) → length vs ≤ j → get_or ws j d ≡ get_or o j d) → ws ≡ over vs o
over_items {A} d ws o vs e h a b =
    ext_get_or d ws (over vs o) (omega (arith, length-append vs (drop (length vs) o), length-drop (length vs) o)) (λ j p. go j (split (length vs) j))
  where
    go : (j : ℕ) → (length vs ≤ j) ⊎ (j < length vs) → get_or ws j d ≡ get_or (over vs o) j d
    go j (inr p) = a j p ∙ sym (get_or-append vs (drop (length vs) o) d j p)
    go j (inl p) =
        let z : length vs + (j - length vs) ≡ j = omega arith in
        b j p ∙ sym (ap (λ (k : ℕ). get_or (over vs o) k d) (sym z) ∙ get_or-append-add vs (drop (length vs) o) (j - length vs) d
        ∙ get_or-drop (length vs) o (j - length vs) d ∙ ap (λ (k : ℕ). get_or o k d) z)

pub over_words : (ws o vs : List ℕ) → length ws ≡ length o → length vs ≤ length o → Stands ws 0 vs → ((j : ℕ) → length vs ≤ j → get_or ws j 0 ≡ get_or o j 0) → ws ≡ over vs o
over_words ws o vs e h a b = over_items 0 ws o vs e h (λ j p. let z : 0 + j ≡ j = omega arith in ap (λ (k : ℕ). get_or ws k 0) (sym z) ∙ a j p) b
