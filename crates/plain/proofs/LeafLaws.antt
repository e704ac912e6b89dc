-- Constants that a record brings, and names by record numbers. Assumes nothing.
use mathlib.Core.Path.{◌≡◌, refl, sym, ap, ◌∙◌}
use mathlib.Core.Bool.{Bool, true, false, cond}
use mathlib.Core.List.{List, [], ◌∷◌}
use Prim.Native.Nat.{ℕ, zero, suc, ◌+◌, ◌*◌, ◌≤◌, ◌<◌}
use native.Mathlib.Omega.{arith}
use lib.ListN.{length, get_or-eq_default}
use lib.Dec.{ltb}
use borrow.Author.Tests.{ne_eqb, ltb-true, ltb-false}
use Rattle.opcode.specs.declared.index.FunctionId.{FunctionId}
use Rattle.tables.specs.Record.{Words, words, word, size}
use Rattle.tables.specs.Forest.{none, tree, first, forest, children, own_tree}
use Rattle.pool.specs.Value.{Null, zeros, plain, lit, int, str, function, yield, effect_at, child as words-at}
use Rattle.pool.specs.Consts.{const_of, constant, made, words as three}
use Rattle.pool.specs.ConstValues.{words_of, lit_of}
use Rattle.pool.specs.declared.value.ConstValue.TheVariants as value
use Rattle.pool.proofs.EffectLaws.{words_none, words_some}
use Rattle.rules.specs.Step.{Use, ChildPath}
use Rattle.rules.specs.Marker.{ConstOp, LoadConst, Load, mark}
use Rattle.rules.specs.Run.{State, emit, here, number_of, spot_at, sought}
use Rattle.rules.specs.Out.{brought, const_number}
use Rattle.context.specs.Words.{limit, cap}
use Rattle.context.specs.Sinks.{loads, used as used_of}
use Rattle.context.specs.Rep.{Walk, Rep, Lent, Scoped}
use Rattle.context.specs.declared.Context.{Context}
use Rattle.context.specs.Does.{nth, child, reach, access_noted, noted_look}
use Rattle.context.proofs.ConstLaws.{loaded}
use Rattle.context.proofs.NameLaws.{accessed}
use Rattle.context.proofs.VisitLaws.{spot_child, ident_number, number_spot}
use Rattle.plain.specs.Runs.{use_at}

-- ---- constants

pub lit_brought : (recs : List ℕ) (r d p q : ℕ) → constant recs (words_of (lit_of d p q)) ≡ brought r (lit d p q)
unfolding const_of
lit_brought recs r zero p q = refl
lit_brought recs r (suc zero) p q = refl
lit_brought recs r (suc (suc zero)) p q = refl
lit_brought recs r (suc (suc (suc zero))) p q = refl
lit_brought recs r (suc (suc (suc (suc zero)))) p q = refl
lit_brought recs r (suc (suc (suc (suc (suc d))))) p q = refl

-- a literal is no effect
lit_kind : (d p q : ℕ) → (words_of (lit_of d p q)).kind ≤ 5
lit_kind zero p q = omega arith
lit_kind (suc zero) p q = omega arith
lit_kind (suc (suc zero)) p q = omega arith
lit_kind (suc (suc (suc zero))) p q = omega arith
lit_kind (suc (suc (suc (suc zero)))) p q = omega arith
lit_kind (suc (suc (suc (suc (suc d))))) p q = omega arith

-- a constant that is not an effect's
pub plain_brought : (recs : List ℕ) (r k p q p' : ℕ) → (k ≡ 7 → ⊥) → p ≡ p' → const_of recs k p q ≡ brought r (plain k p' q)
unfolding const_of
plain_brought recs r k p q p' ne e =
    ap (λ (b : Bool). cond b (record { value = effect_at recs p; source = p }) (made (plain k p q))) (ne_eqb k 7 ne) ∙ ap (λ (x : ℕ). made (plain k x q)) e

-- a record that has a kind lies in the table, so its number is a word where the table is not too long
pub kind_inside : (recs : List ℕ) (r : ℕ) → (word recs r 0 ≡ 0 → ⊥) → r ≤ size recs
kind_inside recs r ne = go (ltb (r * 8 + 0) (length recs)) refl
  where
    go : (b : Bool) → ltb (r * 8 + 0) (length recs) ≡ b → r ≤ size recs
    go true e = let h : r * 8 + 0 < length recs = ltb-true (r * 8 + 0) (length recs) e in omega arith
    go false e = let h : length recs ≤ r * 8 + 0 = ltb-false (r * 8 + 0) (length recs) e in absurd (ne (get_or-eq_default recs 0 h))

-- so its effect is a constant of words
pub effect_brought : (e : Lent) → Scoped e → (r k n h : ℕ) → word e.records r 0 ≡ suc k → n ≡ cap r → const_of e.records 7 n h ≡ brought r (effect_at e.records r)
unfolding const_of
effect_brought e d r k n h q en =
    let lt : size e.records < limit = d.small in
    let le : r ≤ size e.records = kind_inside e.records r (λ z. let y : ◌≡◌ {A = ℕ} 0 (suc k) = sym z ∙ q in omega arith) in
    let z : n ≡ r = omega arith in
    ap (λ (x : ℕ). const_of e.records 7 x h) z

module _ {c : Walk} {recs : List ℕ} {o₀ : Context} {A : State} {w w' : Context} (r : ℕ) where
  -- push_load_const of a value that no record brings, and the two that import
  pub plain_loaded : (y : ConstOp) (k p q : ℕ) {n : ℕ} → (k ≡ 7 → ⊥) → n ≡ p → w' ≡ loads recs (const_number y) (three k n q) w → Rep c recs o₀ A w
      → Rep c recs o₀ (emit (mark r (Load y (plain k p q))) A) w'
  plain_loaded y k p q {n} ne e h x = loaded _ y r (plain k p q) (λ z. absurd (ne z)) (plain_brought recs r k n q p ne e) h x

  pub nulled : w' ≡ loads recs 6 (words_of value.Null) w → Rep c recs o₀ A w
      → Rep c recs o₀ (emit (mark r (Load LoadConst Null)) A) w'
  nulled h x = plain_loaded LoadConst 0 0 0 (λ z. omega arith) refl h x

  pub yielded : w' ≡ loads recs 6 (words_of value.Yield) w → Rep c recs o₀ A w
      → Rep c recs o₀ (emit (mark r (Load LoadConst yield)) A) w'
  yielded h x = plain_loaded LoadConst 8 0 0 (λ z. omega arith) refl h x

  pub int_loaded : {i : ℕ} (n : ℕ) → i ≡ n → w' ≡ loads recs 6 (words_of (value.Int i 0)) w → Rep c recs o₀ A w
      → Rep c recs o₀ (emit (mark r (Load LoadConst (int n))) A) w'
  int_loaded n e h x = plain_loaded LoadConst 2 n 0 (λ z. omega arith) e h x

  pub str_loaded : (y : ConstOp) {s : ℕ} (n : ℕ) → s ≡ n → w' ≡ loads recs (const_number y) (words_of (value.Str s)) w → Rep c recs o₀ A w
      → Rep c recs o₀ (emit (mark r (Load y (str n))) A) w'
  str_loaded y n e h x = plain_loaded y 4 n 0 (λ z. omega arith) e h x

  pub function_loaded : {f : FunctionId} (n : ℕ) → f.0 ≡ n → w' ≡ loads recs 6 (words_of (value.Function f)) w → Rep c recs o₀ A w
      → Rep c recs o₀ (emit (mark r (Load LoadConst (function n))) A) w'
  function_loaded n e h x = plain_loaded LoadConst 6 n 0 (λ z. omega arith) e h x

  pub lit_loaded : (d p q : ℕ) → w' ≡ loads recs 6 (words_of (lit_of d p q)) w → Rep c recs o₀ A w
      → Rep c recs o₀ (emit (mark r (Load LoadConst (lit d p q))) A) w'
  lit_loaded d p q h x = loaded _ LoadConst r (lit d p q) (λ z. absurd (let y : (words_of (lit_of d p q)).kind ≤ 5 = lit_kind d p q in omega arith)) (lit_brought recs r d p q) h x

-- the effect that record r, of kind k + 1, brings
pub effect_loaded : {c : Walk} (e : Lent) {o₀ : Context} {A : State} {w w' : Context} (r : ℕ) → Scoped e → {k n : ℕ} → word e.records r 0 ≡ suc k → n ≡ cap r
    → w' ≡ loads e.records 6 (words_of (value.Effect n)) w → Rep c e.records o₀ A w
    → Rep c e.records o₀ (emit (mark r (Load LoadConst (effect_at e.records r))) A) w'
effect_loaded e r d {k} {n} q en h x = loaded _ LoadConst r (effect_at e.records r) (λ z. refl) (effect_brought e d r k n 0 q en) h x

-- ---- names

module _ {c : Walk} (e : Lent) {o₀ : Context} {A : State} {w w' : Context} (r : ℕ) where
  -- the Ident at record i
  pub used_at : (u : Use) (i : ℕ) → w' ≡ used_of u i (access_noted e.notes u i) w → Rep c e.records o₀ A w
      → Rep c e.records o₀ (use_at e r u i A) w'
  used_at u i h x = accessed r e.notes zeros u (here i zeros) refl h x

  -- the Ident that is child j
  pub used_child : (u : Use) (j : ℕ) {i : ℕ} → i ≡ nth e.records j (first e.records r) → w' ≡ used_of u i (access_noted e.notes u i) w
      → Rep c e.records o₀ A w
      → Rep c e.records o₀ (sought r u (number_of (spot_at (tree r (words e.records r) (children e.records r) none) (j ∷ [])))
      (noted_look e.notes (words e.records c.function) u (spot_at (tree r (words e.records r) (children e.records r) none) (j ∷ []))) A) w'
  used_child u j {i} q h x =
      accessed r e.notes (words e.records c.function) u (spot_at (tree r (words e.records r) (children e.records r) none) (j ∷ []))
      (ident_number e.records r (words e.records r) j q) h x

-- the step that names what is below child j
pub use_below : (e : Lent) (fn w : Words) (r : ℕ) (u : Use) (l j : ℕ) (js : ChildPath) → l ≡ nth e.records j (first e.records r) → (A : State)
    → sought r u (number_of (spot_at (tree r w (children e.records r) none) (j ∷ js)))
    (noted_look e.notes fn u (spot_at (tree r w (children e.records r) none) (j ∷ js))) A
    ≡ use_at e r u (reach e.records l js) A
use_below e fn w r u l j js q A =
    ap (λ (i : ℕ). use_at e r u i A)
    (ap number_of (spot_child e.records r w j js) ∙ number_spot e.records (reach e.records (nth e.records j (first e.records r)) js)
    ∙ ap (λ (x : ℕ). reach e.records x js) (sym q))

-- ---- a word of a record that may be absent

module _ (recs : List ℕ) where
  pub field_absent : (g : Words → ℕ) (c : ℕ) → c ≡ 0 → g zeros ≡ g (words-at (own_tree (forest recs c)) 0)
  field_absent g c e = sym (ap g (words_none recs c e))

  pub field_present : (g : Words → ℕ) (c x : ℕ) → (c ≡ 0 → ⊥) → x ≡ g (words recs c) → x ≡ g (words-at (own_tree (forest recs c)) 0)
  field_present g c x ne e = e ∙ sym (ap g (words_some recs c ne))

  pub child_first : (c : ℕ) → (c ≡ 0 → ⊥) → (word recs c 0 ≡ 30 → ⊥) → first recs c ≡ child recs c 0
  child_first zero ne e = absurd (ne refl)
  child_first (suc l) ne e = sym (ap (λ (b : Bool). cond b 0 (first recs (suc l))) (ne_eqb _ 30 e))
