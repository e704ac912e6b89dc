-- The measure of the visitors: the records left, and a rank at the same record. Assumes nothing.
use mathlib.Core.Path.{◌≡◌, refl, ap, ◌∙◌, subst⁻¹}
use mathlib.Core.Bool.{Bool, true, false, cond, ◌&&◌}
use mathlib.Core.Logic.{◌⊎◌, inl, inr, ⊎_elim}
use mathlib.Core.List.{List}
use Prim.Native.Nat.{ℕ, zero, suc, ◌+◌, ◌*◌, ◌-◌, ◌≤◌, ◌<◌}
use native.Mathlib.Omega.{arith}
use lib.Dec.{ltb, eqb}
use borrow.Author.Tests.{eq-eqb, ne_eqb, ltb-true}
use Rattle.tables.specs.Record.{word, size}
use Rattle.tables.specs.Forest.{guarded, first, next}
use Rattle.context.specs.Does.{nth}
use Rattle.context.proofs.Basics.{on_true, on_false}

-- x is absent, or lies after r within the table
abbrev pub Linked : ℕ → ℕ → ℕ → Type 0
Linked n r x = (x ≡ 0) ⊎ ((r < x) × (x < n))

-- x is absent, or does not lie before a
abbrev pub Along : ℕ → ℕ → Type 0
Along a x = (x ≡ 0) ⊎ (a ≤ x)

zero_or : (n : ℕ) → (n ≡ 0) ⊎ (n ≡ 0 → ⊥)
zero_or zero = inl refl
zero_or (suc n) = inr (λ e. omega arith)

is_guarded : (r n l : ℕ) → Linked n r (guarded r n l)
unfolding guarded
is_guarded r n l = go (ltb r l) (ltb l n) refl refl
  where
    go : (a b : Bool) → ltb r l ≡ a → ltb l n ≡ b → Linked n r (cond (a && b) l 0)
    go true true p q = inr (ltb-true r l p, ltb-true l n q)
    go true false p q = inl refl
    go false b p q = inl refl

module _ (recs : List ℕ) where
  first_linked : (r : ℕ) → Linked (size recs) r (first recs r)
  unfolding first
  first_linked r = is_guarded r (size recs) (word recs r 6)

  next_linked : (r : ℕ) → Linked (size recs) r (next recs r)
  unfolding next
  next_linked zero = inl refl
  next_linked (suc r) = is_guarded (suc r) (size recs) (word recs (suc r) 7)

  next_zero : next recs 0 ≡ 0
  unfolding next
  next_zero = refl

  -- a child's number, as the links give it
  pub child1 : {r x : ℕ} → x ≡ first recs r → Linked (size recs) r x
  child1 {r} e = subst⁻¹ (λ (z : ℕ). Linked (size recs) r z) e (first_linked r)

  pub child2 : {r x a : ℕ} → x ≡ next recs a → Linked (size recs) r a → Linked (size recs) r x
  child2 {r} {x} {a} e l =
      ⊎_elim (λ z. inl (e ∙ ap (next recs) z ∙ next_zero))
      (λ w. subst⁻¹ (λ (z : ℕ). Linked (size recs) r z) e (⊎_elim (λ z. inl z) (λ v. inr (omega (arith, w.0, v.0), v.1)) (next_linked a))) l

  pub linked_past : (n : ℕ) {r x a : ℕ} → Linked (size recs) r a → x ≡ nth recs n a → Linked (size recs) r x
  linked_past n {r} {x} {a} l q = subst⁻¹ (λ (z : ℕ). Linked (size recs) r z) q (go n a l)
    where
      go : (n a : ℕ) → Linked (size recs) r a → Linked (size recs) r (nth recs n a)
      go zero a l = l
      go (suc n) a l = go n (next recs a) (child2 refl l)

  pub linked_nth : (r n : ℕ) {x a : ℕ} → a ≡ first recs r → x ≡ nth recs n a → Linked (size recs) r x
  linked_nth r n e q = linked_past n (child1 e) q

  pub along_next : {a x c : ℕ} → x ≡ next recs c → (c ≡ 0 → ⊥) → Along a c → Along a x
  along_next {a} {x} {c} e ne l =
      ⊎_elim (λ z. absurd (ne z)) (λ w. ⊎_elim (λ z. inl (e ∙ z)) (λ v. inr (omega (arith, w, v.0, e))) (next_linked c)) l

-- ---- measures

-- a visitor of record r: sixteen for each record left, and its rank
abbrev pub level : ℕ → ℕ → ℕ → ℕ
level n r k = (n - r) * 16 + k

-- the same, and 0 for an absent record
unfoldable pub level_or : ℕ → ℕ → ℕ → ℕ
level_or n r k = cond (eqb r 0) 0 (level n r k)

level_none : (n r k : ℕ) → r ≡ 0 → level_or n r k ≡ 0
unfolding level_or
level_none n r k e = on_true (eqb r 0) 0 (level n r k) (eq-eqb r 0 e)

pub level_some : (n r k : ℕ) → (r ≡ 0 → ⊥) → level_or n r k ≡ level n r k
unfolding level_or
level_some n r k ne = on_false (eqb r 0) 0 (level n r k) (ne_eqb r 0 ne)

-- a record that lies after r is below r at any ranks below 16
pub falls_to : (n r x j k t : ℕ) → level n r (suc k) ≡ t → j < 16 → Linked n r x → level_or n x j < t
falls_to n r x j k t e lt l =
    ⊎_elim (λ z. omega (arith, level_none n x j z)) (λ w. omega (arith, level_some n x j (λ z. omega (arith, z, w.0)), w.0, w.1)) l

-- the same of a record that is there
pub falls_child : (n r x j k t : ℕ) → level n r (suc k) ≡ t → j < 16 → Linked n r x → (x ≡ 0 → ⊥) → level n x j < t
falls_child n r x j k t e lt l ne = omega (arith, falls_to n r x j k t e lt l, level_some n x j ne)

-- at the same record the rank falls
pub falls_rank : (n r j k t : ℕ) → level_or n r k ≡ t → (r ≡ 0 → ⊥) → j < k → level n r j < t
falls_rank n r j k t e ne lt = omega (arith, level_some n r k ne)

-- the measures of a record's first child, of a sibling's next and of the one n further, as the goals of calls need them
pub first_falls : (recs : List ℕ) (r j : ℕ) → j < 16 → level_or (size recs) (first recs r) j ≤ (size recs - r) * 16
first_falls recs r j lt =
    let t = falls_to (size recs) r (first recs r) j 0 (level (size recs) r 1) refl lt (first_linked recs r) in omega (arith, t)

pub next_falls : (recs : List ℕ) (a j : ℕ) → j < 16 → level_or (size recs) (next recs a) j ≤ level_or (size recs) a 0
next_falls recs a j lt =
    ⊎_elim (λ z. omega (arith, level_none (size recs) (next recs a) j (ap (next recs) z ∙ next_zero recs)))
    (λ ne. let t = falls_to (size recs) a (next recs a) j 0 (level (size recs) a 1) refl lt (next_linked recs a) in omega (arith, t, level_some (size recs) a 0 ne))
    (zero_or a)

level_rises : (n r j k : ℕ) → j ≤ k → level_or n r j ≤ level_or n r k
level_rises n r j k le =
    ⊎_elim (λ z. omega (arith, level_none n r j z)) (λ ne. omega (arith, le, level_some n r j ne, level_some n r k ne)) (zero_or r)

pub nth_falls : (recs : List ℕ) (n a j : ℕ) → j < 16 → level_or (size recs) (nth recs n a) j ≤ level_or (size recs) a 15
nth_falls recs zero a j lt = level_rises (size recs) a j 15 (omega (arith, lt))
nth_falls recs (suc n) a j lt =
    omega (arith, nth_falls recs n (next recs a) j lt, next_falls recs a 15 (omega arith), level_rises (size recs) a 0 15 (omega arith))
