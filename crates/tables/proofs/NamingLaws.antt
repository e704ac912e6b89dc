-- Links counted in an array, each count up to 2, and the search for a record named wrongly. Assumes nothing.
use mathlib.Core.Path.{◌≡◌, refl, sym, ap, subst, ◌∙◌}
use mathlib.Core.Bool.{Bool, true, false, cond, not}
use mathlib.Core.List.{List}
use Prim.Native.Nat.{ℕ, ◌+◌, ◌≤◌, ◌<◌, min}
use native.Mathlib.Omega.{arith}
use native.Mathlib.Decide.{ℕ_discrete}
use native.Mathlib.Numerals.{add-one}
use lib.ListN.{length, get_or, set, replicate, length-set, length-replicate, get_or-replicate}
use lib.Seq.{get_or-set_same, get_or-set_other}
use lib.Dec.{eqb}
use borrow.Author.Tests.{lt-ltb, eq-eqb, ne_eqb, eqb-true}
use Rattle.std.specs.Prelude.{None}
use Rattle.tables.specs.Record.{word, size}
use Rattle.tables.specs.Naming.{one, names, named_by, named, misnamed, naming}
use Rattle.tables.proofs.PlaceLaws.{rest, rest_on, rest_end, rest_start, holds}

pub one_same : (x : ℕ) → one x x ≡ 1
unfolding one
one_same x = rw (eq-eqb x x refl)

pub one_other : (x l : ℕ) → (x ≡ l → ⊥) → one x l ≡ 0
unfolding one
one_other x l d = rw (ne_eqb x l d)

pub one_hit : (x l : ℕ) → 1 ≤ one x l → x ≡ l
unfolding one
one_hit x l h = go (eqb x l) refl h
  where
    go : (b : Bool) → eqb x l ≡ b → 1 ≤ cond b 1 0 → x ≡ l
    go true e h = eqb-true x l e
    go false e h = absurd (omega arith)

-- a count array after the links of the first i records
abbrev pub Counts : List ℕ → ℕ → List ℕ → Type 0
Counts recs i cs = (length cs ≡ 4096) × ((x : ℕ) → x < 4096 → get_or cs x 0 ≡ min 2 (named_by recs x i))

-- one more link l stored: what stands at x
noted_at : (cs : List ℕ) (l x m : ℕ) → x < length cs → get_or cs x 0 ≡ min 2 m → get_or (set cs l (min 2 (get_or cs l 0 + 1))) x 0 ≡ min 2 (one x l + m)
noted_at cs l x m h e = go (ℕ_discrete x l)
  where
    go : Dec (x ≡ l) → get_or (set cs l (min 2 (get_or cs l 0 + 1))) x 0 ≡ min 2 (one x l + m)
    go (yes q) = subst (λ z. get_or (set cs z (min 2 (get_or cs z 0 + 1))) x 0 ≡ min 2 (one x z + m)) q (get_or-set_same cs x _ 0 h ∙ omega (arith, one_same x))
    go (no d) = get_or-set_other cs l x _ 0 d ∙ omega (arith, one_other x l d)

pub counts_none : (recs : List ℕ) → Counts recs 0 (replicate 4096 0)
unfolding named_by
counts_none recs = (length-replicate {A = ℕ} 4096 0, λ x h. get_or-replicate 4096 x 0 0 h)

pub counts_more : (recs cs cs₁ cs₂ : List ℕ) (i a b : ℕ) → Counts recs i cs → a ≡ word recs i 6 → (length cs ≡ 4096 → cs₁ ≡ set cs a (min 2 (get_or cs a 0 + 1)))
    → b ≡ word recs i 7 → (length cs₁ ≡ 4096 → cs₂ ≡ set cs₁ b (min 2 (get_or cs₁ b 0 + 1))) → Counts recs (i + 1) cs₂
unfolding named_by
counts_more recs cs cs₁ cs₂ i a b (n, f) u p v q = (ap length (q length₁) ∙ simp length-set length₁, λ x h. rw (q length₁, add-one i) (second x h))
  where
    length₁ : length cs₁ ≡ 4096
    length₁ = ap length (p n) ∙ simp length-set n

    first : (x : ℕ) → x < 4096 → get_or cs₁ x 0 ≡ min 2 (one x a + named_by recs x i)
    first x h = rw (p n) (noted_at cs a x (named_by recs x i) (omega arith) (f x h))

    second : (x : ℕ) → x < 4096 → get_or (set cs₁ b (min 2 (get_or cs₁ b 0 + 1))) x 0 ≡ min 2 (names recs x i + named_by recs x i)
    second x h = noted_at cs₁ b x _ (omega (arith, length₁)) (first x h) ∙ rw (u, v) (omega arith)

-- the search begins at record 1
pub naming_start : (recs : List ℕ) → rest (misnamed recs) (size recs) 1 ≡ naming recs
naming_start recs = go (ℕ_discrete (size recs) 0)
  where
    go : Dec (size recs ≡ 0) → rest (misnamed recs) (size recs) 1 ≡ naming recs
    go (yes z) = rest_end (misnamed recs) (size recs) 1 (omega arith) ∙ sym (rest_end (misnamed recs) (size recs) 0 (omega arith)) ∙ rest_start (misnamed recs) (size recs)
    go (no z) = sym (rest_on (misnamed recs) (size recs) 0 (omega arith) refl) ∙ rest_start (misnamed recs) (size recs)

-- a count of 1 is a record named once
pub named_same : (recs : List ℕ) (x c : ℕ) → 1 ≤ x → c ≡ min 2 (named recs x) → not (eqb c 1) ≡ misnamed recs x
named_same recs x c p e = rw (lt-ltb 0 x p) (go (ℕ_discrete (named recs x) 1))
  where
    go : Dec (named recs x ≡ 1) → not (eqb c 1) ≡ not (eqb (named recs x) 1)
    go (yes q) = ap not (eq-eqb c 1 (omega arith) ∙ sym (eq-eqb (named recs x) 1 q))
    go (no d) = ap not (ne_eqb c 1 (λ z. d (omega arith)) ∙ sym (ne_eqb (named recs x) 1 d))

-- row 7 holds: every record but 0 is named once
pub once : (recs : List ℕ) → naming recs ≡ None → (x : ℕ) → 1 ≤ x → x < size recs → named recs x ≡ 1
once recs e x p h = eqb-true _ _ (go (eqb (named recs x) 1) (rw (lt-ltb 0 x p) at (holds (misnamed recs) (size recs) e x h)))
  where
    go : (b : Bool) → not b ≡ false → b ≡ true
    go true q = refl
    go false q = sym q
