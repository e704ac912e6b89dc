-- The search through the entries of a table. Assumes nothing.
use Rattle.std.proofs.lemmas.Bool.{cond-false}
use mathlib.Core.Path.{◌≡◌, refl, sym, ap, ap₂, ◌∙◌}
use mathlib.Core.Bool.{Bool, true, false, cond, ◌||◌}
use mathlib.Core.List.{List}
use mathlib.Core.Logic.{◌⊎◌, inl, inr}
use Prim.Native.Nat.{ℕ, zero, suc, ◌+◌, ◌*◌, ◌-◌, ◌<◌, ◌≤◌, min}
use native.Mathlib.Omega.{arith}
use lib.ListN.{length, get_or-eq_default}
use Rattle.std.specs.Prelude.{Option, Some, None, option_map}
use Rattle.std.specs.List.{find as first_of, range_with_len}
use Rattle.pool.specs.Value.{Value, Const, same, find, seen, found}
use Rattle.pool.specs.Consts.{const_of, at, entry, entries, table}
use Rattle.tables.proofs.SemanticLaws.{split}

module _ (recs ws : List ℕ) (v : Value) where
  abbrev pub hit : ℕ → Bool
  hit i = same (entry recs ws i).value v

  -- the entries past the words are alike
  zero_past : (i j : ℕ) → length ws ≤ i → at ws i j ≡ 0
  zero_past i j g = let z : length ws ≤ i * 3 + j = omega arith in get_or-eq_default ws 0 z

  hit_past : (i j : ℕ) → length ws ≤ i → length ws ≤ j → hit i ≡ hit j
  hit_past i j f g =
      ap (λ (c : Const). same c.value v)
      (ap₂ (λ x y. const_of recs x y (at ws i 2)) (zero_past i 0 f ∙ sym (zero_past j 0 g)) (zero_past i 1 f ∙ sym (zero_past j 1 g))
      ∙ ap (λ z. const_of recs (at ws j 0) (at ws j 1) z) (zero_past i 2 f ∙ sym (zero_past j 2 g)))

  none_past : (i j m : ℕ) → length ws ≤ i → length ws ≤ j → hit i ≡ false → seen (entries recs ws j m) v ≡ false
  unfolding entries seen
  none_past i j zero f g e = refl
  none_past i j (suc m) f g e = ap₂ ◌||◌ (hit_past j i g f ∙ e) (none_past i (suc j) m f (omega arith) e)

  -- the first equal one of n entries from entry i on
  abbrev first_from : ℕ → ℕ → Option ℕ
  first_from i n = cond (seen (entries recs ws i n) v) (Some (i + find (entries recs ws i n) v)) None

  -- m of them are looked at: all, or one past the words too
  looked : (i m n : ℕ) → m ≤ n → (m ≡ n) ⊎ (length ws < i + m) → (length ws < i → hit (i - 1) ≡ false) → first_of hit (range_with_len i m) ≡ first_from i n
  unfolding entries seen find
  looked i zero zero a h b = refl
  looked i zero (suc n) a (inl e) b = absurd (omega arith)
  looked i zero (suc n) a (inr h) b = sym (cond-false _ _ None (none_past (i - 1) i (suc n) (omega arith) (omega arith) (b (omega arith))))
  looked i (suc m) zero a h b = absurd (omega arith)
  looked i (suc m) (suc n) a h b =
      let z : i + 1 ≡ suc i = omega arith in
      let y : suc i - 1 ≡ i = omega arith in
      go (hit i) (λ e. ap (λ k. first_of hit (range_with_len k m)) z ∙ looked (suc i) m n (omega arith) (on h) (λ _. ap hit y ∙ e)) refl
    where
      on : (suc m ≡ suc n) ⊎ (length ws < i + suc m) → (m ≡ n) ⊎ (length ws < suc i + m)
      on (inl e) = inl (omega arith)
      on (inr e) = inr (omega arith)

      go : (b : Bool) → (hit i ≡ false → first_of hit (range_with_len (i + 1) m) ≡ first_from (suc i) n) → hit i ≡ b
          → cond b (Some i) (first_of hit (range_with_len (i + 1) m))
          ≡ cond (b || seen (entries recs ws (suc i) n) v) (Some (i + cond b 0 (suc (find (entries recs ws (suc i) n) v)))) None
      go true ih e = let z : i ≡ i + 0 = omega arith in ap Some z
      go false ih e =
          let z : suc i + find (entries recs ws (suc i) n) v ≡ i + suc (find (entries recs ws (suc i) n) v) = omega arith in
          ih e ∙ ap (λ k. cond (seen (entries recs ws (suc i) n) v) (Some k) None) z

  itself : (r : Option ℕ) → r ≡ option_map (λ x. x) r
  itself None = refl
  itself (Some x) = refl

  -- the least of n and one past the words is n, or past the words
  reach : (n m : ℕ) → m ≡ min n (length ws + 1) → (m ≡ n) ⊎ (length ws < 0 + m)
  reach n m e = go (split n (length ws + 1))
    where
      go : (n ≤ length ws + 1) ⊎ (length ws + 1 < n) → (m ≡ n) ⊎ (length ws < 0 + m)
      go (inl h) = inl (omega arith)
      go (inr h) = inr (omega arith)

  pub sought : (n m : ℕ) (r : Option ℕ) → m ≡ min n (length ws + 1) → option_map (λ x. x) r ≡ first_of hit (range_with_len 0 m) → r ≡ found (table recs ws n) v
  sought n m r e q =
      let z : 0 + find (table recs ws n) v ≡ find (table recs ws n) v = omega arith in
      itself r ∙ q ∙ looked 0 m n (omega arith) (reach n m e) (λ h. absurd (omega arith)) ∙ ap (λ k. cond (seen (table recs ws n) v) (Some k) None) z
