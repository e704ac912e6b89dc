-- The words of constants: a literal's, an entry's, and what putting an entry does. Assumes nothing.
use mathlib.Core.Path.{◌≡◌, refl, sym, ap, ap₂, ◌∙◌}
use mathlib.Core.Bool.{false, cond, ◌&&◌}
use mathlib.Core.List.{List}
use Prim.Native.Nat.{ℕ}
use native.Mathlib.Decide.{ℕ_discrete}
use lib.Dec.{eqb}
use borrow.Author.Tests.{eq-eqb, ne_eqb}
use Rattle.pool.specs.Value.{plain, Const, same, effect_at}
use Rattle.pool.specs.declared.consts.ConstWords.{ConstWords}
use Rattle.pool.specs.Consts.{made, const_of, constant}

module _ (recs : List ℕ) where
  pub plain_const : (k l h : ℕ) → eqb k 7 ≡ false → const_of recs k l h ≡ made (plain k l h)
  unfolding const_of
  plain_const k l h e = ap (λ b. cond b (record { value = effect_at recs l; source = l }) (made (plain k l h))) e

  const_effect : (k l h : ℕ) → k ≡ 7 → (const_of recs k l h).value ≡ effect_at recs l
  unfolding const_of
  const_effect k l h e = ap (λ b. (cond b (record { value = effect_at recs l; source = l }) (made (plain k l h))).value) (eq-eqb k 7 e)

  const_plain : (k l h : ℕ) → (k ≡ 7 → ⊥) → (const_of recs k l h).value ≡ plain k l h
  const_plain k l h d = ap (λ (c : Const). c.value) (plain_const k l h (ne_eqb k 7 d))

  -- the comparison of two constants by their words, where not both are effects
  pub by_words : (a b : ConstWords) → ((a.kind ≡ 7) × (b.kind ≡ 7) → ⊥)
      → eqb a.kind b.kind && (eqb a.low b.low && eqb a.high b.high) ≡ same (constant recs a).value (constant recs b).value
  by_words a b d = go (ℕ_discrete a.kind 7) (ℕ_discrete b.kind 7)
    where
      go : Dec (a.kind ≡ 7) → Dec (b.kind ≡ 7) → eqb a.kind b.kind && (eqb a.low b.low && eqb a.high b.high) ≡ same (constant recs a).value (constant recs b).value
      go (yes p) (yes q) = absurd (d (p, q))
      go (yes p) (no q) =
          rw (const_effect a.kind a.low a.high p, const_plain b.kind b.low b.high q, ne_eqb a.kind b.kind (λ e. q (sym e ∙ p))) refl
      go (no p) (yes q) =
          rw (const_plain a.kind a.low a.high p, const_effect b.kind b.low b.high q, ne_eqb a.kind b.kind (λ e. p (e ∙ q))) refl
      go (no p) (no q) = rw (const_plain a.kind a.low a.high p, const_plain b.kind b.low b.high q) refl

  pub both_effects : (a b : ConstWords) → a.kind ≡ 7 → b.kind ≡ 7
      → same (effect_at recs a.low) (effect_at recs b.low) ≡ same (constant recs a).value (constant recs b).value
  both_effects a b p q = sym (ap₂ same (const_effect a.kind a.low a.high p) (const_effect b.kind b.low b.high q))
