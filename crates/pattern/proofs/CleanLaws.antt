-- The clean-up labels of one pattern in the code. Assumes nothing.
use mathlib.Core.Path.{◌≡◌, refl, ap, ◌∙◌}
use mathlib.Core.List.{List}
use Prim.Native.Nat.{ℕ, suc, ◌+◌, ◌-◌, ◌≤◌, ◌<◌}
use native.Mathlib.Omega.{arith}
use Rattle.opcode.specs.Words.{pair_of}
use Rattle.rules.specs.Marker.{Pop, Label, Do, mark}
use Rattle.rules.specs.Run.{emit}
use Rattle.context.specs.Words.{cap}
use Rattle.context.specs.Sinks.{pushed}
use Rattle.context.specs.Rep.{SameSizes, Moves}
use Rattle.context.specs.declared.Context.{Context}
use Rattle.context.proofs.RepLaws.{then_moves, removes}
use Rattle.context.proofs.MarkLaws.{placed, said}
use Rattle.context.proofs.StayLaws.{push_stays}
use Rattle.context.proofs.SizeLaws.{pushed_sizes}
use Rattle.plain.proofs.GoLaws.{cap_after}
use Rattle.pattern.specs.declared.clean.CleanStack.{CleanStack}
use Rattle.pattern.specs.Tests.{cleanup_run}
use Rattle.pattern.specs.Promises.{Cleans}

-- ---- a label more

-- ---- the clean-up: the labels from the n-th on are placed, and what places the others places all

pub record CleanTurn (s : CleanStack) (w₀ : Context) (n₀ : ℕ) (w : Context) (n : ℕ) : Type 0 where
  pub work : (recs : List ℕ) (r x : ℕ) → s.first.0 ≡ cap x → (w' : Context) → Moves recs w w' (λ c. cleanup_run r x (n - 1))
      → Moves recs w₀ w' (λ c. cleanup_run r x (n₀ - 1))
  pub consts : w.consts ≡ w₀.consts
  pub sizes : SameSizes w₀ w

module _ {s : CleanStack} {w₀ w : Context} where
  -- one label and a Pop
  pub clean_again : {n₀ n m l : ℕ} {w₁ w₂ : Context} → CleanTurn s w₀ n₀ w n → 1 < n → m ≡ n - 1 → l ≡ cap (s.first.0 + m)
      → w₁ ≡ pushed (pair_of 52 l) w → w₂ ≡ pushed (pair_of 0 0) w₁ → CleanTurn s w₀ n₀ w₂ m
  unfolding cleanup_run
  clean_again {n = n} {m = m} t lt em el a b =
      record {
        work = λ recs r x e w' h.
            let z : n - 1 ≡ suc (m - 1) = omega arith in
            let y : m ≡ suc (m - 1) = omega arith in
            let one : Moves recs _ _ (λ c A. emit (mark r (Do Pop 0)) (emit (mark r (Label (x + suc (m - 1)))) A))
            = record {
              moves = λ c o₀ A g. said r Pop 0 refl refl b
                  (placed r (x + suc (m - 1)) refl (el ∙ cap_after s.first.0 m x e ∙ ap (λ (i : ℕ). cap (x + i)) y) a g);
              sizes = pushed_sizes _ _ b ∙ pushed_sizes _ _ a;
            } in
            t.work recs r x e w' (removes (λ c A. ap (λ (i : ℕ). cleanup_run r x i A) z) (then_moves one h));
        consts = push_stays _ _ b ∙ push_stays _ _ a ∙ t.consts;
        sizes = pushed_sizes _ _ b ∙ pushed_sizes _ _ a ∙ t.sizes;
      }

  -- the first label
  pub clean_done : {n l : ℕ} {w₁ : Context} → CleanTurn s w₀ s.taken w n → n ≤ 1 → l ≡ cap (s.first.0 + 0)
      → w₁ ≡ pushed (pair_of 52 l) w → Cleans w₀ w₁ s
  unfolding cleanup_run
  clean_done {n} t le el a =
      record {
        cleans = λ recs. record {
          moves = λ r x e.
              let z : n - 1 ≡ 0 = omega arith in
              let y : x + 0 ≡ x = omega arith in
              t.work recs r x e _ (removes (λ c A. ap (λ (i : ℕ). cleanup_run r x i A) z)
              (record { moves = λ c o₀ A g. placed r x refl (el ∙ cap_after s.first.0 0 x e ∙ ap cap y) a g; sizes = pushed_sizes _ _ a }));
          sizes = pushed_sizes _ _ a ∙ t.sizes;
        };
      }
