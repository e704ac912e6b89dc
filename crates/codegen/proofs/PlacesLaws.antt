-- The functions' records by number: what accepted tables give, and one turn of the pass. Assumes nothing.
use mathlib.Core.Path.{◌≡◌, sym, subst, ◌∙◌}
use mathlib.Core.Bool.{true}
use mathlib.Core.List.{List}
use Prim.Native.Nat.{ℕ, ◌+◌, ◌<◌}
use native.Mathlib.Omega.{arith}
use native.Mathlib.Decide.{ℕ_discrete}
use lib.ListN.{length, get_or, set, length-set}
use lib.Seq.{get_or-set_same, get_or-set_other}
use borrow.Author.Tests.{eqb-true, eq-eqb}
use Rattle.tables.specs.Record.{words, word, size, is_function}
use Rattle.tables.proofs.CheckLaws.{Kept}
use Rattle.tables.proofs.NumberingLaws.{numbers_differ}
use Rattle.codegen.specs.Places.{Numbered}

-- accepted tables number their functions
pub kept_numbered : (strings bytes symbols references functions members records : List ℕ) → Kept strings bytes symbols references functions members records
    → Numbered records 256
kept_numbered strings bytes symbols references functions members records k = record {
  few = k.fits.records_limit;
  below = λ r h f. omega (arith, k.number_own r h f, k.number_inside r h f, k.fits.functions_limit);
  apart = λ r q h f i g e. numbers_differ records k.one r q h f i g (sym (k.number_own r h f) ∙ e ∙ k.number_own q i g);
}

-- the Functions among the first i records have their places
pub record Laid (recs : List ℕ) (n i : ℕ) (table : List ℕ) : Type 0 where
  pub long : length table ≡ n
  pub laid : (r : ℕ) → r < i → r < size recs → is_function (words recs r) ≡ true → get_or table (word recs r 2) 0 ≡ r

module _ (recs : List ℕ) (n : ℕ) (own : Numbered recs n) where
  pub laid_function : (a : List ℕ) (i p : ℕ) → i < size recs → word recs i 0 ≡ 30 → p ≡ word recs i 2 → Laid recs n i a → Laid recs n (i + 1) (set a p i)
  laid_function a i p inside f e h = subst (λ (j : ℕ). Laid recs n (i + 1) (set a j i)) (sym e) (record {
    long = length-set a (word recs i 2) i ∙ h.long;
    laid = λ r lt q g. at r lt q g (ℕ_discrete r i);
  })
    where
      fun : is_function (words recs i) ≡ true
      fun = eq-eqb (word recs i 0) 30 f

      at : (r : ℕ) → r < i + 1 → r < size recs → is_function (words recs r) ≡ true → Dec (r ≡ i) → get_or (set a (word recs i 2) i) (word recs r 2) 0 ≡ r
      at r lt q g (yes z) =
          subst (λ (y : ℕ). get_or (set a (word recs i 2) i) (word recs y 2) 0 ≡ y) (sym z)
          (get_or-set_same a (word recs i 2) i 0 (omega (arith, own.below i inside fun, h.long)))
      at r lt q g (no z) = get_or-set_other a (word recs i 2) (word recs r 2) i 0 (λ y. z (own.apart r i q g inside fun y)) ∙ h.laid r (omega arith) q g

  pub laid_other : (a : List ℕ) (i : ℕ) → (word recs i 0 ≡ 30 → ⊥) → Laid recs n i a → Laid recs n (i + 1) a
  laid_other a i d h = record { long = h.long; laid = λ r lt q g. at r lt q g (ℕ_discrete r i) }
    where
      at : (r : ℕ) → r < i + 1 → r < size recs → is_function (words recs r) ≡ true → Dec (r ≡ i) → get_or a (word recs r 2) 0 ≡ r
      at r lt q g (yes z) = absurd (d (subst (λ (y : ℕ). word recs y 0 ≡ 30) z (eqb-true (word recs r 0) 30 g)))
      at r lt q g (no z) = h.laid r (omega arith) q g
