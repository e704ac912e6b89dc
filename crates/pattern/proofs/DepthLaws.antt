-- The arms of visit_pattern_depth. Assumes nothing.
use mathlib.Core.Path.{◌≡◌, refl, sym, ap, ◌∙◌}
use mathlib.Core.Bool.{Bool, true, false, ◌||◌}
use mathlib.Core.List.{List}
use Prim.Native.Nat.{ℕ, zero, suc, ◌+◌, ◌*◌, ◌/◌, ◌≤◌, ◌<◌}
use native.Mathlib.Omega.{arith}
use lib.Dec.{eqb}
use borrow.Author.Tests.{eq-eqb, ne_eqb}
use Rattle.opcode.specs.Words.{pair_of}
use Rattle.tables.specs.Record.{word, words, is_kind}
use Rattle.tables.specs.Forest.{Forest, first, forest, own_tree}
use Rattle.tables.proofs.ForestLaws.{first_onward, forest_absent, forest_record}
use Rattle.rules.specs.Step.{width}
use Rattle.rules.specs.Patterns.{item, key, is_nested}
use Rattle.context.specs.Words.{cap, more}
use Rattle.context.specs.Sinks.{pushed}
use Rattle.context.specs.declared.Context.{Context}
use Rattle.context.proofs.Basics.{on_true, on_false}
use Rattle.context.proofs.RepLaws.{resim, moves_sim, stay}
use Rattle.plain.proofs.GoLaws.{cap_after}
use Rattle.pattern.specs.declared.clean.CleanStack.{CleanStack}
use Rattle.pattern.specs.Tests.{first_labels, lit_run, ident_run, table_run, pattern_run, first_run}
use Rattle.pattern.specs.Promises.{WithLabel, Deepens, VisitsPattern, VisitsNested}
use Rattle.pattern.proofs.TurnLaws.{rank, rank_falls, Turn, first_some, nested_sizes, nested_visits}

-- ---- kinds

nested_as : (k n : ℕ) → k ≡ n → eqb n 37 || eqb n 38 ≡ true → eqb k 37 || eqb k 38 ≡ true
nested_as k n e q = ap (λ (z : ℕ). eqb z 37 || eqb z 38) e ∙ q

nested_other : (k : ℕ) → (k ≡ 37 → ⊥) → (k ≡ 38 → ⊥) → eqb k 37 || eqb k 38 ≡ false
nested_other k a b = ap (λ (z : Bool). z || eqb k 38) (ne_eqb k 37 a) ∙ ne_eqb k 38 b

-- a pattern that has none inside takes no label
none_inside : (recs : List ℕ) (d h q : ℕ) → (q ≡ 0 → ⊥) → is_nested (words recs q) ≡ false → h ≡ first_labels d h (forest recs q)
none_inside recs d h zero ne z = absurd (ne refl)
none_inside recs d h (suc q) ne z = sym (ap (first_labels d h) (forest_record recs q) ∙ on_false (is_nested (words recs (suc q))) _ _ z)

module _ (recs notes : List ℕ) {q d : ℕ} {s : CleanStack} where
  -- ---- a Table and a List

  module _ {D m n l c₀ c i : ℕ} {s₁ s₂ : CleanStack} {w w₁ w₂ w₃ w₄ : Context} (e₀ : c₀ ≡ first recs q)
      (em : m ≡ width (own_tree (forest recs c₀))) (eD : D ≡ more d) (deep : Deepens w w₁ s s₁ D) (el : l ≡ cap (s₁.first.0 + D))
      (test : (p : ℕ) → WithLabel recs w₁ w₂ l (λ r y. table_run r y p (words recs q) n)) where
    pub table_visits : n ≡ cap (m / 2) → Turn recs notes key q D w₂ c₀ s₁ w₃ c i s₂ → c ≡ 0 → w₄ ≡ pushed (pair_of 0 0) w₃
        → VisitsNested recs notes w w₄ 37 q d s s₂
    table_visits en t ec pop =
        record {
          visits = λ k nq.
              nested_visits recs notes key nq (on_true (is_kind 37 (words recs q)) _ _ (eq-eqb _ 37 k)) (nested_as (word recs q 0) 37 k refl) e₀
              (en ∙ ap (λ (x : ℕ). cap (x / 2)) (em ∙ ap (λ (x : ℕ). width (own_tree (forest recs x))) e₀) ∙ ap cap (sym (on_true (is_kind 37 (words recs q)) _ _ (eq-eqb _ 37 k))))
              eD deep el test t ec pop;
          sizes = nested_sizes deep (test q) t pop;
        }

    pub list_visits : n ≡ cap m → Turn recs notes item q D w₂ c₀ s₁ w₃ c i s₂ → c ≡ 0 → w₄ ≡ pushed (pair_of 0 0) w₃
        → VisitsNested recs notes w w₄ 38 q d s s₂
    list_visits en t ec pop =
        record {
          visits = λ k nq.
              let no : is_kind 37 (words recs q) ≡ false = ne_eqb (word recs q 0) 37 (λ z. let y : ◌≡◌ {A = ℕ} 38 37 = sym k ∙ z in omega arith) in
              nested_visits recs notes item nq (on_false (is_kind 37 (words recs q)) _ _ no) (nested_as (word recs q 0) 38 k refl) e₀
              (en ∙ ap cap (em ∙ ap (λ (x : ℕ). width (own_tree (forest recs x))) e₀) ∙ ap cap (sym (on_false (is_kind 37 (words recs q)) _ _ no)))
              eD deep el test t ec pop;
          sizes = nested_sizes deep (test q) t pop;
        }

  -- ---- no pattern

  pub visit_none : {w : Context} → q ≡ 0 → VisitsPattern recs notes w w q d s s
  visit_none e =
      record {
        first = refl;
        taken = λ f. sym (ap (λ (x : ℕ). first_labels d s.taken (forest recs x)) e ∙ ap (first_labels d s.taken) (forest_absent recs));
        visits = λ f r x z. resim (λ v sc A.
            ap (λ (y : ℕ). first_run notes r x d s.taken (forest recs y) A) e ∙ ap (λ (y : Forest). first_run notes r x d s.taken y A) (forest_absent recs)) stay;
        sizes = refl;
      }

  -- ---- a pattern that has none inside

  module _ {l : ℕ} (nq : q ≡ 0 → ⊥) (el : l ≡ cap (s.first.0 + d)) where
    pub visit_ident : {w w' : Context} → word recs q 0 ≡ 36
        → ((recs : List ℕ) → WithLabel recs w w' l (λ r y. ident_run notes r y q))
        → VisitsPattern recs notes w w' q d s s
    unfolding pattern_run
    visit_ident k test =
        let no : is_nested (words recs q) ≡ false
        = nested_other (word recs q 0) (λ z. let y : ◌≡◌ {A = ℕ} 36 37 = sym k ∙ z in omega arith) (λ z. let y : ◌≡◌ {A = ℕ} 36 38 = sym k ∙ z in omega arith) in
        record {
          first = refl;
          taken = λ f. none_inside recs d s.taken q nq no;
          visits = λ f r x e. resim (λ v sc A.
              first_some recs notes r x d s.taken q A nq ∙ on_false (is_nested (words recs q)) _ _ no ∙ on_true (is_kind 36 (words recs q)) _ _ (eq-eqb _ 36 k))
              (moves_sim ((test recs).moves r (x + d) (el ∙ cap_after s.first.0 d x e)));
          sizes = (test recs).sizes;
        }

    pub visit_lit : {w w' : Context} → (word recs q 0 ≡ 37 → ⊥) → (word recs q 0 ≡ 38 → ⊥) → (word recs q 0 ≡ 36 → ⊥)
        → ((p : ℕ) → WithLabel recs w w' l (λ r y. lit_run r y p (words recs q))) → VisitsPattern recs notes w w' q d s s
    unfolding pattern_run
    visit_lit n₁ n₂ n₃ test =
        let no : is_nested (words recs q) ≡ false = nested_other (word recs q 0) n₁ n₂ in
        record {
          first = refl;
          taken = λ f. none_inside recs d s.taken q nq no;
          visits = λ f r x e. resim (λ v sc A.
              first_some recs notes r x d s.taken q A nq ∙ on_false (is_nested (words recs q)) _ _ no ∙ on_false (is_kind 36 (words recs q)) _ _ (ne_eqb _ 36 n₃))
              (moves_sim ((test q).moves r (x + d) (el ∙ cap_after s.first.0 d x e)));
          sizes = (test q).sizes;
        }

-- ---- the measure: twice the records left, and one less for a Table's or List's visit of its children

abbrev pub visit_rank : List ℕ → ℕ → ℕ
visit_rank recs q = rank recs q * 2

abbrev pub nested_rank : List ℕ → ℕ → ℕ
nested_rank recs q = suc (rank recs (first recs q) * 2)

pub nested_falls : (recs : List ℕ) (q t : ℕ) → (q ≡ 0 → ⊥) → visit_rank recs q ≡ t → nested_rank recs q < t
nested_falls recs q t ne e = let z : rank recs (first recs q) < rank recs q = rank_falls recs q (first recs q) (first_onward recs q) ne in omega arith

pub child_falls : (recs : List ℕ) (q c₀ c t : ℕ) → c₀ ≡ first recs q → rank recs c ≤ rank recs c₀ → nested_rank recs q ≡ t → visit_rank recs c < t
child_falls recs q c₀ c t e le n = let z : rank recs c₀ ≡ rank recs (first recs q) = ap (rank recs) e in omega arith
