-- A search for the first broken place, as a loop makes it, and what its answer says. Assumes nothing.
use mathlib.Core.Path.{◌≡◌, refl, sym, ap, ap₂, subst, ◌∙◌}
use mathlib.Core.Bool.{Bool, true, false, cond}
use Prim.Native.Nat.{ℕ, zero, suc, ◌+◌, ◌-◌, ◌≤◌, ◌<◌}
use native.Mathlib.Omega.{arith}
use Rattle.std.specs.Prelude.{Option, None, Some}
use Rattle.tables.specs.Place.{broken_from, broken}

-- what is left of a search over the places below n, at place i
abbrev pub rest : (ℕ → Bool) → ℕ → ℕ → Option ℕ
rest bad n i = broken_from bad i (n - i)

module _ (bad : ℕ → Bool) (n i : ℕ) where
  open_one : (m : ℕ) → m ≡ suc (n - (i + 1)) → broken_from bad i m ≡ cond (bad i) (Some i) (rest bad n (i + 1))
  open_one m e = rw e

  one : i < n → rest bad n i ≡ cond (bad i) (Some i) (rest bad n (i + 1))
  one h = open_one (n - i) (omega arith)

  -- the rule holds at i: go on
  pub rest_on : i < n → bad i ≡ false → rest bad n i ≡ rest bad n (i + 1)
  rest_on h e = one h ∙ ap (λ (b : Bool). cond b (Some i) (rest bad n (i + 1))) e

  -- the rule is broken at i
  pub rest_at : i < n → bad i ≡ true → rest bad n i ≡ Some i
  rest_at h e = one h ∙ ap (λ (b : Bool). cond b (Some i) (rest bad n (i + 1))) e

  pub rest_end : n ≤ i → rest bad n i ≡ None
  rest_end h = let z : n - i ≡ 0 = omega arith in rw z

pub rest_start : (bad : ℕ → Bool) (n : ℕ) → rest bad n 0 ≡ broken bad n
rest_start bad n = let z : n - 0 ≡ n = omega arith in rw z

-- searches by tests that agree
pub alike_from : (bad bad' : ℕ → Bool) (i n : ℕ) → ((k : ℕ) → i ≤ k → k < i + n → bad k ≡ bad' k) → broken_from bad i n ≡ broken_from bad' i n
alike_from bad bad' i zero h = refl
alike_from bad bad' i (suc n) h =
    ap₂ (λ (t : Bool) (x : Option ℕ). cond t (Some i) x) (h i (omega arith) (omega arith)) (alike_from bad bad' (i + 1) n (λ k p q. h k (omega arith) (omega arith)))

-- no place is broken: the rule holds at each
holds_from : (bad : ℕ → Bool) (i n : ℕ) → broken_from bad i n ≡ None → (k : ℕ) → k < n → bad (i + k) ≡ false
holds_from bad i zero e k h = absurd (omega arith)
holds_from bad i (suc n) e k h = go (bad i) refl (λ e k h. holds_from bad (i + 1) n e k h) k h
  where
    go : (b : Bool) → bad i ≡ b → (broken_from bad (i + 1) n ≡ None → (k : ℕ) → k < n → bad (i + 1 + k) ≡ false) → (k : ℕ) → k < suc n → bad (i + k) ≡ false
    go true q ih k g =
        absurd (let z : Some i ≡ None = sym (ap (λ (b : Bool). cond b (Some i) (broken_from bad (i + 1) n)) q) ∙ e in let y : ◌≡◌ {A = ℕ} 0 1 = cc in omega arith)
    go false q ih zero g = let z : i + 0 ≡ i = omega arith in rw z q
    go false q ih (suc k) g =
        let z : i + suc k ≡ i + 1 + k = omega arith in
        rw z (ih (sym (ap (λ (b : Bool). cond b (Some i) (broken_from bad (i + 1) n)) q) ∙ e) k (omega arith))

pub holds : (bad : ℕ → Bool) (n : ℕ) → broken bad n ≡ None → (k : ℕ) → k < n → bad k ≡ false
holds bad n e k h = let z : 0 + k ≡ k = omega arith in subst (λ (j : ℕ). bad j ≡ false) z (holds_from bad 0 n e k h)
