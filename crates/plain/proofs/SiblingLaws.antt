-- What the siblings' iterator gives, against links and trees. Assumes nothing.
use Rattle.std.specs.Prelude.{Option, Some, None, unwrap_or, get_or, not}
use Rattle.std.specs.List.{last_or, prefix_len}
use mathlib.Core.Path.{◌≡◌, refl, sym, ap, ◌∙◌}
use mathlib.Core.Bool.{Bool, true, false, cond}
use mathlib.Core.List.{List, [], ◌∷◌}
use Prim.Native.Nat.{ℕ, zero, suc, ◌+◌, ◌-◌}
use native.Mathlib.Omega.{arith}
use lib.Dec.{eqb}
use lib.ListN.{length}
use Rattle.tables.specs.Record.{word}
use Rattle.tables.specs.Forest.{Forest, next, forest, own_tree}
use Rattle.tables.specs.Kinds.{kind_of}
use Rattle.tables.specs.declared.kind.Kind.{Kind}
use Rattle.tables.specs.declared.kind.Kind.TheVariants as kind
use Rattle.tables.specs.contracts.kind.Kind.{the_type}
use Rattle.tables.proofs.KindLaws.{compared}
use denote.Enum.Bare.{sameb}
use Rattle.tables.proofs.ForestLaws.{grown}
use Rattle.rules.specs.Arms.{arguments}
use Rattle.context.specs.Does.{nth}
use Rattle.plain.specs.Siblings.{numbers}
use Rattle.plain.proofs.CountLaws.{row, numbers_none, numbers_some, nth_absent}

last_item : (d : ℕ) (xs : List ℕ) → last_or (Some d) xs ≡ Some (get_or (d ∷ xs) (length xs) 0)
last_item d [] = refl
last_item d (x ∷ xs) = last_item x xs

pub last_number : (xs : List ℕ) → unwrap_or (last_or None xs) 0 ≡ get_or xs (length xs - 1) 0
last_number [] = refl
last_number (x ∷ xs) =
    ap (λ (o : Option ℕ). unwrap_or o 0) (last_item x xs) ∙ ap (λ (k : ℕ). get_or (x ∷ xs) k 0) (let z : length xs ≡ suc (length xs) - 1 = omega arith in z)

one_more : (b : Bool) {m n : ℕ} → m ≡ n → cond (not b) (1 + m) 0 ≡ cond b 0 (suc n)
one_more true e = refl
one_more false e = omega (arith, e)

module _ (recs : List ℕ) where
  pub number_at : (j c : ℕ) → nth recs j c ≡ get_or (numbers (forest recs c)) j 0
  number_at zero zero = sym (ap (λ (l : List ℕ). get_or l 0 0) (numbers_none recs 0 refl))
  number_at zero (suc c) = sym (ap (λ (l : List ℕ). get_or l 0 0) (numbers_some recs (suc c) _ (λ e. omega arith) refl))
  number_at (suc j) zero = nth_absent recs (suc j) 0 refl ∙ sym (ap (λ (l : List ℕ). get_or l (suc j) 0) (numbers_none recs 0 refl))
  number_at (suc j) (suc c) =
      number_at j (next recs (suc c)) ∙ sym (ap (λ (l : List ℕ). get_or l (suc j) 0) (numbers_some recs (suc c) _ (λ e. omega arith) refl))

  -- not a Handler
  abbrev pub is_argument : ℕ → Bool
  is_argument r = not (eqb (word recs r 0) 32)

  pub not_handler : (x : ℕ) (k : Kind) (b : Bool) → k ≡ kind_of (word recs x 0) → b ≡ not (sameb the_type k kind.Handler) → b ≡ is_argument x
  not_handler x k b q e = e ∙ ap not (compared (word recs x 0) k kind.Handler q tt)

  pub arguments_first : (c : ℕ) → prefix_len is_argument (numbers (forest recs c)) ≡ arguments (row recs c)
  arguments_first = grown recs (λ (f : Forest). prefix_len is_argument (numbers f) ≡ arguments (own_tree f)) refl (λ r k s. one_more (eqb (word recs (suc r) 0) 32) s)
