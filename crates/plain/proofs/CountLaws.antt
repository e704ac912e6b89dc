-- Counts of siblings and the siblings themselves, link by link. Assumes nothing.
use mathlib.Core.Path.{◌≡◌, refl, sym, ap, ◌∙◌}
use mathlib.Core.Bool.{Bool, true, false, cond, ◌&&◌}
use mathlib.Core.List.{List, [], ◌∷◌}
use mathlib.Core.Logic.{inl, inr}
use Prim.Native.Nat.{ℕ, zero, suc, ◌+◌, ◌-◌, ◌≤◌, ◌<◌}
use native.Mathlib.Omega.{arith}
use lib.Dec.{eqb}
use lib.ListN.{length}
use borrow.Author.Tests.{eq-eqb, ne_eqb, eqb-true, eqb-false}
use Rattle.tables.specs.Record.{Words, words, word, size, is_kind}
use Rattle.tables.specs.Forest.{Forest, none, tree, Nodes, bare, node, first, next, forest, own_tree}
use Rattle.tables.proofs.ForestLaws.{forest_absent, forest_record, next_onward, Onward, next_zero}
use Rattle.rules.specs.Step.{width}
use Rattle.rules.specs.Arms.{arguments, handlers, is_tail}
use Rattle.context.specs.Does.{nth}
use Rattle.plain.specs.Siblings.{numbers}
use Rattle.context.proofs.Basics.{clash}
use Rattle.context.proofs.PartLaws.{width_none, width_some}

fewer : (b : Bool) (n m : ℕ) → n ≤ m → cond b 0 (suc n) ≤ suc m
fewer true n m h = omega arith
fewer false n m h = omega arith

arguments_width : (k : Nodes) → arguments k ≤ width k
arguments_width bare = omega arith
arguments_width (node w k s) = fewer (is_kind 32 w) (arguments s) (width s) (arguments_width s)

-- what is-tail asks of a record, by its children
tail_kids : Words → Nodes → Bool
tail_kids w bare = is_kind 13 w
tail_kids w (node w' k s) = is_kind 13 w && eqb (handlers s) 0

tail_split : (w : Words) (k s : Nodes) → is_tail (node w k s) ≡ tail_kids w k
unfolding tail_kids
tail_split w bare s = refl
tail_split w (node w' k s') s = refl

count_numbers : (f : Forest) → length (numbers f) ≡ width (own_tree f)
count_numbers none = refl
count_numbers (tree r w k s) = ap suc (count_numbers s)

module _ (recs : List ℕ) where
  abbrev pub row : ℕ → Nodes
  row c = own_tree (forest recs c)

  -- links go forward, so there are no more siblings than records
  width_after : (n c x : ℕ) → Onward recs c x → size recs ≤ suc n + c → (size recs ≤ n + x → width (row x) ≤ suc n) → width (row x) ≤ suc n
  width_after n c x (inl e) h ih = let z : width (row x) ≡ 0 = width_none recs x e in omega arith
  width_after n c x (inr (a, b)) h ih = ih (omega arith)

  width_end : (c x : ℕ) → Onward recs c x → size recs ≤ c → width (row x) ≡ 0
  width_end c x (inl e) h = width_none recs x e
  width_end c x (inr (a, b)) h = absurd (omega arith)

  width_along : (n c : ℕ) → size recs ≤ n + c → width (row c) ≤ suc n
  width_along zero zero h = let z : width (row 0) ≡ 0 = width_none recs 0 refl in omega arith
  width_along (suc n) zero h = let z : width (row 0) ≡ 0 = width_none recs 0 refl in omega arith
  width_along zero (suc c) h =
      let y : width (row (suc c)) ≡ suc (width (row (next recs (suc c)))) = width_some recs (suc c) (λ e. omega arith) in
      let z : width (row (next recs (suc c))) ≡ 0 = width_end (suc c) (next recs (suc c)) (next_onward recs (suc c)) (omega arith) in
      omega arith
  width_along (suc n) (suc c) h =
      let y : width (row (suc c)) ≡ suc (width (row (next recs (suc c)))) = width_some recs (suc c) (λ e. omega arith) in
      let z : width (row (next recs (suc c))) ≤ suc n = width_after n (suc c) (next recs (suc c)) (next_onward recs (suc c)) h (λ g. width_along n _ g) in
      omega arith

  pub width_most : (c : ℕ) → width (row c) ≤ suc (size recs)
  width_most c = width_along (size recs) c (omega arith)

  pub arguments_most : (c : ℕ) → arguments (row c) ≤ suc (size recs)
  arguments_most c = omega (arith, arguments_width (row c), width_most c)

  pub width_falls : (c x : ℕ) → (c ≡ 0 → ⊥) → x ≡ next recs c → width (row c) ≡ suc (width (row x))
  width_falls c x ne e = width_some recs c ne ∙ ap (λ (z : ℕ). suc (width (row z))) (sym e)

  -- the siblings' numbers
  pub numbers_none : (c : ℕ) → c ≡ 0 → numbers (forest recs c) ≡ []
  numbers_none c e = ap (λ (x : ℕ). numbers (forest recs x)) e ∙ ap numbers (forest_absent recs)

  pub numbers_some : (c x : ℕ) → (c ≡ 0 → ⊥) → x ≡ next recs c → numbers (forest recs c) ≡ c ∷ numbers (forest recs x)
  numbers_some zero x ne e = absurd (ne refl)
  numbers_some (suc c) x ne e = ap numbers (forest_record recs c) ∙ ap (λ (z : ℕ). suc c ∷ numbers (forest recs z)) (sym e)

  pub numbers_width : (c : ℕ) → length (numbers (forest recs c)) ≡ width (row c)
  numbers_width c = count_numbers (forest recs c)

  arguments_some : (c : ℕ) → (c ≡ 0 → ⊥) → arguments (row c) ≡ cond (eqb (word recs c 0) 32) 0 (suc (arguments (row (next recs c))))
  arguments_some zero ne = absurd (ne refl)
  arguments_some (suc c) ne = ap (λ (f : Forest). arguments (own_tree f)) (forest_record recs c)

  -- the n-th sibling
  pub nth_absent : (j c : ℕ) → c ≡ 0 → nth recs j c ≡ 0
  nth_absent zero c e = e
  nth_absent (suc j) c e = nth_absent j (next recs c) (ap (next recs) e ∙ sym (next_zero recs 0 refl))

  pub nth_some : (j c : ℕ) → j < width (row c) → nth recs j c ≡ 0 → ⊥
  nth_some zero c h e = let z : width (row c) ≡ 0 = width_none recs c e in omega arith
  nth_some (suc j) zero h e = let z : width (row 0) ≡ 0 = width_none recs 0 refl in omega arith
  nth_some (suc j) (suc c) h e =
      let z : width (row (suc c)) ≡ suc (width (row (next recs (suc c)))) = width_some recs (suc c) (λ q. omega arith) in
      nth_some j (next recs (suc c)) (omega arith) e

  -- n siblings on
  pub width_past : (n c : ℕ) → width (row c) - n ≡ width (row (nth recs n c))
  width_past zero c = omega arith
  width_past (suc n) zero =
      let y : width (row 0) ≡ 0 = width_none recs 0 refl in
      let z : width (row (nth recs (suc n) 0)) ≡ 0 = width_none recs (nth recs (suc n) 0) (nth_absent (suc n) 0 refl) in
      omega arith
  width_past (suc n) (suc c) =
      let y : width (row (suc c)) ≡ suc (width (row (next recs (suc c)))) = width_some recs (suc c) (λ e. omega arith) in
      let z : width (row (next recs (suc c))) - n ≡ width (row (nth recs n (next recs (suc c)))) = width_past n (next recs (suc c)) in
      omega arith

  -- no siblings are left where there is no record
  pub width_zero : (c : ℕ) → width (row c) ≡ 0 → c ≡ 0
  width_zero zero e = refl
  width_zero (suc c) e = absurd (let z = width_some recs (suc c) (λ q. omega arith) in omega arith)

  -- the last one
  abbrev pub end_of : ℕ → ℕ
  end_of c = nth recs (width (row c) - 1) c

  pub end_here : (c x : ℕ) → x ≡ next recs c → x ≡ 0 → c ≡ end_of c
  end_here zero x e q = sym (nth_absent (width (row 0) - 1) 0 refl)
  end_here (suc c) x e q =
      let z : width (row (suc c)) ≡ suc (width (row x)) = width_falls (suc c) x (λ y. omega arith) e in
      let y : width (row x) ≡ 0 = width_none recs x q in
      let u : width (row (suc c)) - 1 ≡ 0 = omega arith in
      sym (ap (λ (j : ℕ). nth recs j (suc c)) u)

  pub end_after : (c x : ℕ) → x ≡ next recs c → (x ≡ 0 → ⊥) → end_of x ≡ end_of c
  end_after zero x e ne = absurd (ne (e ∙ sym (next_zero recs 0 refl)))
  end_after (suc c) x e ne =
      let z : width (row (suc c)) ≡ suc (width (row x)) = width_falls (suc c) x (λ y. omega arith) e in
      let y : width (row x) ≡ suc (width (row (next recs x))) = width_some recs x ne in
      let u : width (row (suc c)) - 1 ≡ suc (width (row x) - 1) = omega arith in
      sym (ap (λ (j : ℕ). nth recs j (suc c)) u ∙ ap (nth recs (width (row x) - 1)) (sym e))

  -- what a Return returns
  pub tail_none : (c : ℕ) → c ≡ 0 → false ≡ is_tail (row c)
  tail_none c e = sym (ap (λ (x : ℕ). is_tail (row x)) e ∙ ap (λ (f : Forest). is_tail (own_tree f)) (forest_absent recs))

  tail_some : (c : ℕ) → (c ≡ 0 → ⊥) → is_tail (row c) ≡ tail_kids (words recs c) (cond (eqb (word recs c 0) 30) bare (row (first recs c)))
  tail_some zero ne = absurd (ne refl)
  tail_some (suc c) ne = ap (λ (f : Forest). is_tail (own_tree f)) (forest_record recs c) ∙ tail_split (words recs (suc c))
      (cond (eqb (word recs (suc c) 0) 30) bare (row (first recs (suc c)))) (row (next recs (suc c)))

  tail_no : (w : Words) (k : Nodes) → is_kind 13 w ≡ false → tail_kids w k ≡ false
  unfolding tail_kids
  tail_no w bare e = e
  tail_no w (node w' k s) e = ap (λ (b : Bool). b && eqb (handlers s) 0) e

  pub tail_other : (c k : ℕ) → (c ≡ 0 → ⊥) → k ≡ word recs c 0 → (k ≡ 13 → ⊥) → false ≡ is_tail (row c)
  tail_other c k ne e d = sym (tail_some c ne ∙ tail_no (words recs c) _ (ne_eqb (word recs c 0) 13 (λ z. d (e ∙ z))))

  -- what is returned by its call is a Call
  pub tail_call : (a : ℕ) → is_tail (row a) ≡ true → (a ≡ 0 → ⊥) × (word recs a 0 ≡ 13)
  tail_call a h = (ne, go (eqb (word recs a 0) 13) refl)
    where
      ne : a ≡ 0 → ⊥
      ne e = clash (sym h ∙ sym (tail_none a e))

      go : (b : Bool) → eqb (word recs a 0) 13 ≡ b → word recs a 0 ≡ 13
      go true e = eqb-true (word recs a 0) 13 e
      go false e = absurd (clash (sym h ∙ sym (tail_other a (word recs a 0) ne refl (eqb-false (word recs a 0) 13 e))))

  -- whether a Call has Handlers, by the first record behind its arguments
  module _ (c k x : ℕ) (ne : c ≡ 0 → ⊥) (e : k ≡ word recs c 0) (q : k ≡ 13) (ex : x ≡ first recs c) where
    call : is_kind 13 (words recs c) ≡ true
    call = eq-eqb (word recs c 0) 13 (sym e ∙ q)

    kids : cond (eqb (word recs c 0) 30) bare (row (first recs c)) ≡ row x
    kids =
        ap (λ (b : Bool). cond b bare (row (first recs c))) (ne_eqb (word recs c 0) 30 (λ z. let y : ◌≡◌ {A = ℕ} 30 13 = sym z ∙ sym e ∙ q in omega arith))
        ∙ ap row (sym ex)

    -- a Call's own children, its callee first
    tail_row : (y : ℕ) → tail_kids (words recs c) (row y) ≡ eqb (handlers (row (next recs y))) 0
    unfolding tail_kids
    tail_row zero =
        ap (tail_kids (words recs c)) (ap (λ (f : Forest). own_tree f) (forest_absent recs)) ∙ call
        ∙ sym (ap (λ (s : Nodes). eqb (handlers s) 0) (ap row (sym (next_zero recs 0 refl)) ∙ ap (λ (f : Forest). own_tree f) (forest_absent recs)))
    tail_row (suc y) =
        ap (λ (f : Forest). tail_kids (words recs c) (own_tree f)) (forest_record recs y)
        ∙ ap (λ (b : Bool). b && eqb (handlers (row (next recs (suc y)))) 0) call

    pub tail_by : (a n h : ℕ) → a ≡ next recs x → n ≡ arguments (row a) → h ≡ nth recs n a → eqb h 0 ≡ is_tail (row c)
    tail_by a n h ea en eh = by (eqb h 0) refl ∙ sym (tail_some c ne ∙ ap (tail_kids (words recs c)) kids ∙ tail_row x ∙ ap (λ (z : ℕ). eqb (handlers (row z)) 0) (sym ea))
      where
        left : handlers (row a) ≡ width (row h)
        left = width_past (arguments (row a)) a ∙ ap (λ (z : ℕ). width (row z)) (ap (λ (z : ℕ). nth recs z a) (sym en) ∙ sym eh)

        by : (b : Bool) → eqb h 0 ≡ b → eqb h 0 ≡ eqb (handlers (row a)) 0
        by true z = z ∙ sym (eq-eqb (handlers (row a)) 0 (left ∙ width_none recs h (eqb-true h 0 z)))
        by false z = z ∙ sym (ne_eqb (handlers (row a)) 0 (λ y. eqb-false h 0 z (width_zero h (sym left ∙ y))))
