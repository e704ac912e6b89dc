-- Effects through their records: what the links lead to, in the terms of the tree. Assumes nothing.
use Rattle.std.proofs.Math.Bool.{and-false, and-true}
use mathlib.Core.Path.{◌≡◌, refl, sym, ap, ap₂, subst, ◌∙◌}
use mathlib.Core.Bool.{beq, Bool, true, false, cond, ◌&&◌}
use mathlib.Core.List.{List, [], ◌∷◌}
use mathlib.Core.Logic.{inl, inr}
use Prim.Native.Nat.{ℕ, zero, suc, ◌-◌, ◌<◌}
use native.Mathlib.Omega.{arith}
use lib.Dec.{eqb}
use borrow.Author.Tests.{eq-eqb, ne_eqb}
use Rattle.tables.specs.Record.{Words, words, word, size}
use Rattle.tables.specs.Forest.{bare, forest, own_tree, children, first, next}
use Rattle.tables.proofs.ForestLaws.{forest_absent, forest_record, next_zero, next_onward, Onward}
use Rattle.pool.specs.Value.{zeros, child, below, ident_names, same, same_numbers, same_bool, effect_at}
use Rattle.pool.specs.Consts.{name_at, names_from, names_below, is_variadic}

same_beq : (a b : Bool) → same_bool a b ≡ beq a b
same_beq true true = refl
same_beq true false = refl
same_beq false true = refl
same_beq false false = refl

module _ (recs : List ℕ) where
  -- the first of the siblings at a link
  pub words_none : (l : ℕ) → l ≡ 0 → child (own_tree (forest recs l)) 0 ≡ zeros
  words_none l e = ap (λ z. child (own_tree (forest recs z)) 0) e ∙ ap (λ f. child (own_tree f) 0) (forest_absent recs)

  pub words_some : (l : ℕ) → (l ≡ 0 → ⊥) → child (own_tree (forest recs l)) 0 ≡ words recs l
  words_some zero ne = absurd (ne refl)
  words_some (suc r) ne = ap (λ f. child (own_tree f) 0) (forest_record recs r)

  -- the second is the first at the next link
  pub words_second : (l : ℕ) → child (own_tree (forest recs l)) 1 ≡ child (own_tree (forest recs (next recs l))) 0
  words_second zero = ap (λ f. child (own_tree f) 1) (forest_absent recs) ∙ sym (words_none (next recs 0) (sym (next_zero recs 0 refl)))
  words_second (suc r) = ap (λ f. child (own_tree f) 1) (forest_record recs r)

  -- the name of a Handler without and with its Ident
  name_other : (r : ℕ) → (word recs r 0 ≡ 6 → ⊥) → name_at recs r ≡ (child (own_tree (children recs r)) 0).q
  name_other r d = ap (λ b. cond b (word recs r 2) (child (own_tree (children recs r)) 0).q) (ne_eqb _ _ d)

  pub name_none : (r a : ℕ) → (word recs r 0 ≡ 6 → ⊥) → a ≡ first recs r → a ≡ 0 → 0 ≡ name_at recs r
  name_none r a d e z = sym (name_other r d ∙ ap (λ (w : Words). w.q) (words_none (first recs r) (sym e ∙ z)))

  pub name_ident : (r a : ℕ) → (word recs r 0 ≡ 6 → ⊥) → a ≡ first recs r → (a ≡ 0 → ⊥) → word recs a 3 ≡ name_at recs r
  name_ident r a d e z =
      ap (λ (x : ℕ). word recs x 3) e ∙ sym (name_other r d ∙ ap (λ (w : Words). w.q) (words_some (first recs r) (λ q. z (e ∙ q))))

  pub variadic_none : (l : ℕ) → l ≡ 0 → false ≡ is_variadic recs l
  variadic_none l e = sym (ap (λ (w : Words). eqb w.detail 1) (words_none l e))

  pub variadic_some : (l : ℕ) → (l ≡ 0 → ⊥) → eqb (word recs l 1) 1 ≡ is_variadic recs l
  variadic_some l ne = sym (ap (λ (w : Words). eqb w.detail 1) (words_some l ne))

  pub below_none : (l : ℕ) → l ≡ 0 → names_below recs l ≡ []
  below_none l e = ap (λ z. names_below recs z) e ∙ ap (λ f. ident_names (below (own_tree f) 0)) (forest_absent recs)

  pub below_second : (l : ℕ) → ident_names (below (own_tree (forest recs l)) 1) ≡ names_below recs (next recs l)
  below_second zero = ap (λ f. ident_names (below (own_tree f) 1)) (forest_absent recs) ∙ sym (below_none (next recs 0) (sym (next_zero recs 0 refl)))
  below_second (suc r) = ap (λ f. ident_names (below (own_tree f) 1)) (forest_record recs r)

  below_some : (l : ℕ) → (l ≡ 0 → ⊥) → names_below recs l ≡ ident_names (cond (eqb (word recs l 0) 30) bare (own_tree (forest recs (first recs l))))
  below_some zero ne = absurd (ne refl)
  below_some (suc r) ne = ap (λ f. ident_names (below (own_tree f) 0)) (forest_record recs r)

  -- a Function's children are no part of the tree around it
  pub below_function : (l : ℕ) → (l ≡ 0 → ⊥) → word recs l 0 ≡ 30 → names_below recs l ≡ []
  below_function l ne e = below_some l ne ∙ ap (λ b. ident_names (cond b bare (own_tree (forest recs (first recs l))))) (eq-eqb _ _ e)

  pub below_other : (l : ℕ) → (l ≡ 0 → ⊥) → (word recs l 0 ≡ 30 → ⊥) → names_below recs l ≡ names_from recs (first recs l)
  below_other l ne e = below_some l ne ∙ ap (λ b. ident_names (cond b bare (own_tree (forest recs (first recs l))))) (ne_eqb _ _ e)

  pub names_none : (l : ℕ) → l ≡ 0 → names_from recs l ≡ []
  names_none l e = ap (λ z. names_from recs z) e ∙ ap (λ f. ident_names (own_tree f)) (forest_absent recs)

  pub names_some : (l : ℕ) → (l ≡ 0 → ⊥) → names_from recs l ≡ word recs l 3 ∷ names_from recs (next recs l)
  names_some zero ne = absurd (ne refl)
  names_some (suc r) ne = ap (λ f. ident_names (own_tree f)) (forest_record recs r)

  -- two rows of siblings, as a walk along both compares them
  alike : (x y : ℕ) → (x ≡ 0 → ⊥) → (y ≡ 0 → ⊥) → same_numbers (names_from recs x) (names_from recs y)
      ≡ eqb (word recs x 3) (word recs y 3) && same_numbers (names_from recs (next recs x)) (names_from recs (next recs y))
  alike x y nx ny = ap₂ same_numbers (names_some x nx) (names_some y ny)

  pub alike_short : (x y : ℕ) → (x ≡ 0 → ⊥) → y ≡ 0 → false ≡ same_numbers (names_from recs x) (names_from recs y)
  alike_short x y nx e = sym (ap₂ same_numbers (names_some x nx) (names_none y e))

  pub alike_other : (x y : ℕ) → (x ≡ 0 → ⊥) → (y ≡ 0 → ⊥) → (word recs x 3 ≡ word recs y 3 → ⊥) → false ≡ same_numbers (names_from recs x) (names_from recs y)
  alike_other x y nx ny d = sym (alike x y nx ny ∙ ap (λ b. b && same_numbers (names_from recs (next recs x)) (names_from recs (next recs y))) (ne_eqb _ _ d))

  pub alike_next : (x y : ℕ) → (x ≡ 0 → ⊥) → (y ≡ 0 → ⊥) → word recs x 3 ≡ word recs y 3
      → same_numbers (names_from recs (next recs x)) (names_from recs (next recs y)) ≡ same_numbers (names_from recs x) (names_from recs y)
  alike_next x y nx ny e = sym (alike x y nx ny ∙ ap (λ b. b && same_numbers (names_from recs (next recs x)) (names_from recs (next recs y))) (eq-eqb _ _ e))

  pub alike_end : (x y : ℕ) → x ≡ 0 → eqb y 0 ≡ same_numbers (names_from recs x) (names_from recs y)
  alike_end x zero e = sym (ap₂ same_numbers (names_none x e) (names_none 0 refl))
  alike_end x (suc y) e = ne_eqb (suc y) 0 (λ q. omega arith) ∙ sym (ap₂ same_numbers (names_none x e) (names_some (suc y) (λ q. omega arith)))

  -- how far a walk along siblings can go
  unfoldable pub reach : ℕ → ℕ
  reach x = cond (eqb x 0) 0 (suc (size recs - x))

  reach_some : (x : ℕ) → (x ≡ 0 → ⊥) → reach x ≡ suc (size recs - x)
  unfolding reach
  reach_some x ne = ap (λ b. cond b 0 (suc (size recs - x))) (ne_eqb x 0 ne)

  reach_onward : (c x : ℕ) → Onward recs c x → reach x < suc (size recs - c)
  unfolding reach
  reach_onward c x (inl e) = let z : reach x ≡ 0 = ap (λ b. cond b 0 (suc (size recs - x))) (eq-eqb x 0 e) in omega arith
  reach_onward c x (inr (a, b)) = omega (arith, reach_some x (λ e. omega arith))

  pub reach_falls : (c x : ℕ) → (c ≡ 0 → ⊥) → x ≡ next recs c → reach x < reach c
  reach_falls c x ne e = omega (arith, reach_some c ne, reach_onward c x (subst (λ z. Onward recs c z) (sym e) (next_onward recs c)))

  -- two effects by their parts: names, parameters' names, variadic
  abbrev parts : ℕ → ℕ → List ℕ → List ℕ → Bool → Bool → Bool
  parts n m x y v w = eqb n m && (same_numbers x y && same_bool v w)

  abbrev names_in : ℕ → List ℕ
  names_in r = ident_names (below (own_tree (children recs r)) 1)

  abbrev variadic_in : ℕ → Bool
  variadic_in r = eqb (child (own_tree (children recs r)) 1).detail 1

  names_of : (r l : ℕ) → l ≡ next recs (first recs r) → names_in r ≡ names_below recs l
  names_of r l e = below_second (first recs r) ∙ ap (names_below recs) (sym e)

  variadic_of : (r l : ℕ) → l ≡ next recs (first recs r) → variadic_in r ≡ is_variadic recs l
  variadic_of r l e = ap (λ (w : Words). eqb w.detail 1) (words_second (first recs r)) ∙ ap (is_variadic recs) (sym e)

  module _ (a b c d na nb : ℕ) (ec : c ≡ next recs (first recs a)) (ed : d ≡ next recs (first recs b)) (ea : na ≡ name_at recs a) (eb : nb ≡ name_at recs b) where
    abbrev xs : List ℕ
    xs = names_below recs c

    abbrev ys : List ℕ
    ys = names_below recs d

    by_parts : same (effect_at recs a) (effect_at recs b) ≡ parts na nb xs ys (is_variadic recs c) (is_variadic recs d)
    by_parts =
        ap₂ (λ n m. parts n m (names_in a) (names_in b) (variadic_in a) (variadic_in b)) (sym ea) (sym eb)
        ∙ ap₂ (λ x y. parts na nb x y (variadic_in a) (variadic_in b)) (names_of a c ec) (names_of b d ed)
        ∙ ap₂ (parts na nb xs ys) (variadic_of a c ec) (variadic_of b d ed)

    pub other_name : (na ≡ nb → ⊥) → false ≡ same (effect_at recs a) (effect_at recs b)
    other_name ne = sym (by_parts ∙ ap (λ t. t && (same_numbers xs ys && same_bool (is_variadic recs c) (is_variadic recs d))) (ne_eqb na nb ne))

    module _ (e : na ≡ nb) (v w : Bool) (ev : v ≡ is_variadic recs c) (ew : w ≡ is_variadic recs d) where
      same_name : same (effect_at recs a) (effect_at recs b) ≡ same_numbers xs ys && beq v w
      same_name =
          by_parts ∙ ap (λ t. t && (same_numbers xs ys && same_bool (is_variadic recs c) (is_variadic recs d))) (eq-eqb na nb e)
          ∙ ap (λ t. same_numbers xs ys && t) (ap₂ same_bool (sym ev) (sym ew) ∙ same_beq v w)

      pub other_variadic : beq v w ≡ false → false ≡ same (effect_at recs a) (effect_at recs b)
      other_variadic z = sym (same_name ∙ ap (λ t. same_numbers xs ys && t) z ∙ and-false (same_numbers xs ys))

      pub same_parameters : beq v w ≡ true → (s : Bool) (us vs : List ℕ) → s ≡ same_numbers us vs → us ≡ xs → vs ≡ ys → s ≡ same (effect_at recs a) (effect_at recs b)
      same_parameters z s us vs es eu ev' =
          es ∙ ap₂ same_numbers eu ev' ∙ sym (same_name ∙ ap (λ t. same_numbers xs ys && t) z ∙ and-true (same_numbers xs ys))
