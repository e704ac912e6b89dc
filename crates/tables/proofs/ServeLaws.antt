-- What one step among a record's children does to `fits`, and that the steps end. Assumes nothing.
use mathlib.Core.Path.{◌≡◌, refl, sym, ap, subst, ◌∙◌}
use mathlib.Core.Bool.{Bool, true, false, cond, ◌&&◌}
use mathlib.Core.List.{List, [], ◌∷◌}
use mathlib.Core.Logic.{inl, inr}
use Prim.Native.Nat.{ℕ, zero, suc, ◌-◌, ◌≤◌, ◌<◌}
use native.Mathlib.Omega.{arith}
use lib.ListN.{drop}
use lib.Dec.{eqb}
use borrow.Author.Tests.{eq-eqb, ne_eqb}
use Rattle.std.specs.Prelude.{Option, None, Some}
use Rattle.std.specs.Option.{is_some, IfSome, option_eq}
use Rattle.std.proofs.Common.{nat_eq}
use Rattle.tables.specs.declared.children.Class.{Class}
use Rattle.tables.specs.Record.{Words, words, word, size}
use Rattle.tables.specs.Forest.{first, next}
use Rattle.tables.specs.Children.{Want, times, any, maybe, pairs, belongs, heads, leads, past, past_pairs, fits, words_of, from, fits_on, Serves}
use Rattle.tables.specs.Children.{bracket, expected, rooted, right_children}
use Rattle.tables.proofs.ForestLaws.{Onward, forest_absent, forest_record, next_onward, next_zero}

pub clash : {A : Type 0} → false ≡ true → A
clash e = absurd (let z : ◌≡◌ {A = ℕ} 0 1 = cc in omega arith)

-- record c stands first, and its later siblings follow
from_none : (recs : List ℕ) → from recs 0 ≡ []
from_none recs = ap words_of (forest_absent recs)

from_some : (recs : List ℕ) (c : ℕ) → (c ≡ 0 → ⊥) → from recs c ≡ words recs c ∷ from recs (next recs c)
from_some recs zero ne = absurd (ne refl)
from_some recs (suc c) ne = ap words_of (forest_record recs c)

after : (recs : List ℕ) (c : ℕ) → drop 1 (from recs c) ≡ from recs (next recs c)
after recs zero = ap (drop 1) (from_none recs) ∙ sym (ap (from recs) (sym (next_zero recs 0 refl)) ∙ from_none recs)
after recs (suc c) = ap (λ xs. drop 1 xs) (from_some recs (suc c) (λ e. omega arith))

pub heads_none : (recs : List ℕ) (c : ℕ) (cls : Class) → c ≡ 0 → false ≡ heads cls (from recs c)
heads_none recs c cls e = sym (ap (λ z. heads cls (from recs z)) e ∙ ap (heads cls) (from_none recs))

pub heads_some : (recs : List ℕ) (c : ℕ) (cls : Class) → (c ≡ 0 → ⊥) → belongs cls (word recs c 0) ≡ heads cls (from recs c)
heads_some recs c cls ne = sym (ap (heads cls) (from_some recs c ne))

-- no children are left
pub ended : (recs : List ℕ) (c : ℕ) → eqb c 0 ≡ fits [] (from recs c)
unfolding fits
ended recs zero = sym (ap (fits []) (from_none recs))
ended recs (suc c) = ne_eqb (suc c) 0 (λ e. omega arith) ∙ sym (ap (fits []) (from_some recs (suc c) (λ e. omega arith)))

-- child d is the one after the last
pub ends_here : (recs : List ℕ) (d : Option ℕ) {b : Bool} → b ≡ option_eq nat_eq d (Some 0) → b ≡ fits_on recs [] d
ends_here recs None e = e
ends_here recs (Some d) e = e ∙ ended recs d

-- the parts of a list that the wants look at
module _ (ws : List Want) where
  times_on : (n : ℕ) (c : Class) (xs : List Words) → heads c xs ≡ true → fits (times (suc n) c ∷ ws) xs ≡ fits (times n c ∷ ws) (drop 1 xs)
  unfolding fits
  times_on n c [] e = clash e
  times_on n c (x ∷ xs) e = ap (λ (b : Bool). (b && leads n c xs) && fits ws (drop n xs)) e

  times_off : (n : ℕ) (c : Class) (xs : List Words) → heads c xs ≡ false → fits (times (suc n) c ∷ ws) xs ≡ false
  unfolding fits
  times_off n c [] e = refl
  times_off n c (x ∷ xs) e = ap (λ (b : Bool). (b && leads n c xs) && fits ws (drop n xs)) e

  any_on : (c : Class) (xs : List Words) → heads c xs ≡ true → fits (any c ∷ ws) xs ≡ fits (any c ∷ ws) (drop 1 xs)
  unfolding fits
  any_on c [] e = clash e
  any_on c (x ∷ xs) e = ap (λ (b : Bool). fits ws (cond b (past c xs) (x ∷ xs))) e

  any_off : (c : Class) (xs : List Words) → heads c xs ≡ false → fits (any c ∷ ws) xs ≡ fits ws xs
  unfolding fits
  any_off c [] e = refl
  any_off c (x ∷ xs) e = ap (λ (b : Bool). fits ws (cond b (past c xs) (x ∷ xs))) e

  maybe_on : (c : Class) (xs : List Words) → heads c xs ≡ true → fits (maybe c ∷ ws) xs ≡ fits ws (drop 1 xs)
  unfolding fits
  maybe_on c [] e = clash e
  maybe_on c (x ∷ xs) e = ap (λ (b : Bool). fits ws (cond b xs (x ∷ xs))) e

  maybe_off : (c : Class) (xs : List Words) → heads c xs ≡ false → fits (maybe c ∷ ws) xs ≡ fits ws xs
  unfolding fits
  maybe_off c [] e = refl
  maybe_off c (x ∷ xs) e = ap (λ (b : Bool). fits ws (cond b xs (x ∷ xs))) e

  pairs_on : (a b : Class) (xs : List Words) → heads a xs ≡ true → heads b (drop 1 xs) ≡ true
      → fits (pairs a b ∷ ws) xs ≡ fits (pairs a b ∷ ws) (drop 1 (drop 1 xs))
  unfolding fits
  pairs_on a b [] e f = clash e
  pairs_on a b (x ∷ []) e f = clash f
  pairs_on a b (x ∷ y ∷ xs) e f =
      ap (λ (t : Bool). fits ws (cond (t && belongs b y.kind) (past_pairs a b xs) (x ∷ y ∷ xs))) e
      ∙ ap (λ (t : Bool). fits ws (cond t (past_pairs a b xs) (x ∷ y ∷ xs))) f

  pairs_off : (a b : Class) (xs : List Words) → heads a xs ≡ false → fits (pairs a b ∷ ws) xs ≡ fits ws xs
  unfolding fits
  pairs_off a b [] e = refl
  pairs_off a b (x ∷ []) e = refl
  pairs_off a b (x ∷ y ∷ xs) e = ap (λ (t : Bool). fits ws (cond (t && belongs b y.kind) (past_pairs a b xs) (x ∷ y ∷ xs))) e

  pairs_odd : (a b : Class) (xs : List Words) → heads a xs ≡ true → heads b (drop 1 xs) ≡ false → fits (pairs a b ∷ ws) xs ≡ fits ws xs
  unfolding fits
  pairs_odd a b [] e f = refl
  pairs_odd a b (x ∷ []) e f = refl
  pairs_odd a b (x ∷ y ∷ xs) e f =
      ap (λ (t : Bool). fits ws (cond (t && belongs b y.kind) (past_pairs a b xs) (x ∷ y ∷ xs))) e
      ∙ ap (λ (t : Bool). fits ws (cond t (past_pairs a b xs) (x ∷ y ∷ xs))) f

-- the same on records: child c is of the class, and d is the next one
module _ (recs : List ℕ) (c d : ℕ) (q : d ≡ next recs c) where
  onward : drop 1 (from recs c) ≡ from recs d
  onward = after recs c ∙ ap (from recs) (sym q)

  pub took_times : (cls : Class) (n : ℕ) → 0 < n → heads cls (from recs c) ≡ true → (ws : List Want)
      → fits (times n cls ∷ ws) (from recs c) ≡ fits (times (n - 1) cls ∷ ws) (from recs d)
  took_times cls n h e ws =
      let z : n ≡ suc (n - 1) = omega arith in
      ap (λ (m : ℕ). fits (times m cls ∷ ws) (from recs c)) z ∙ times_on ws (n - 1) cls _ e ∙ ap (fits (times (n - 1) cls ∷ ws)) onward

  pub took_one : (cls : Class) → heads cls (from recs c) ≡ true → Serves recs (times 1 cls) c (Some d)
  unfolding fits
  took_one cls e = record { serves = λ ws. took_times cls 1 (omega arith) e ws }

  pub took_any : (cls : Class) → heads cls (from recs c) ≡ true → (ws : List Want) → fits (any cls ∷ ws) (from recs c) ≡ fits (any cls ∷ ws) (from recs d)
  took_any cls e ws = any_on ws cls _ e ∙ ap (fits (any cls ∷ ws)) onward

  pub took_maybe : (cls : Class) → heads cls (from recs c) ≡ true → Serves recs (maybe cls) c (Some d)
  took_maybe cls e = record { serves = λ ws. maybe_on ws cls _ e ∙ ap (fits ws) onward }

  pub took_pair : (f : ℕ) → f ≡ next recs d → (a b : Class) → heads a (from recs c) ≡ true → heads b (from recs d) ≡ true → (ws : List Want)
      → fits (pairs a b ∷ ws) (from recs c) ≡ fits (pairs a b ∷ ws) (from recs f)
  took_pair f z a b e g ws =
      pairs_on ws a b _ e (ap (heads b) onward ∙ g) ∙ ap (λ xs. fits (pairs a b ∷ ws) (drop 1 xs)) onward
      ∙ ap (fits (pairs a b ∷ ws)) (after recs d ∙ ap (from recs) (sym z))

  pub odd_pair : (a b : Class) → heads a (from recs c) ≡ true → heads b (from recs d) ≡ false → Serves recs (pairs a b) c (Some c)
  odd_pair a b e g = record { serves = λ ws. pairs_odd ws a b _ e (ap (heads b) onward ∙ g) }

-- child c is not of the class, or is counted no more
module _ (recs : List ℕ) (c : ℕ) where
  pub left_times : (cls : Class) (n : ℕ) → 0 < n → heads cls (from recs c) ≡ false → (ws : List Want) → fits (times n cls ∷ ws) (from recs c) ≡ false
  left_times cls n h e ws = let z : n ≡ suc (n - 1) = omega arith in ap (λ (m : ℕ). fits (times m cls ∷ ws) (from recs c)) z ∙ times_off ws (n - 1) cls _ e

  pub done_times : (cls : Class) (n : ℕ) → n ≤ 0 → Serves recs (times n cls) c (Some c)
  unfolding fits
  done_times cls zero h = record { serves = λ ws. refl }
  done_times cls (suc n) h = absurd (omega arith)

  pub left_any : (cls : Class) → heads cls (from recs c) ≡ false → Serves recs (any cls) c (Some c)
  left_any cls e = record { serves = λ ws. any_off ws cls _ e }

  pub left_maybe : (cls : Class) → heads cls (from recs c) ≡ false → Serves recs (maybe cls) c (Some c)
  left_maybe cls e = record { serves = λ ws. maybe_off ws cls _ e }

  pub left_pair : (a b : Class) → heads a (from recs c) ≡ false → Serves recs (pairs a b) c (Some c)
  left_pair a b e = record { serves = λ ws. pairs_off ws a b _ e }

split_off : (b m f : Bool) → (b && m) && f ≡ (b && true) && (m && f)
split_off true m f = refl
split_off false m f = refl

-- n of a class are one and n - 1 more
pub counted_off : (n : ℕ) (c : Class) (ws : List Want) (xs : List Words) → 0 < n → fits (times n c ∷ ws) xs ≡ fits (times 1 c ∷ times (n - 1) c ∷ ws) xs
unfolding fits
counted_off zero c ws xs h = absurd (omega arith)
counted_off (suc n) c ws [] h = refl
counted_off (suc n) c ws (x ∷ xs) h =
    let z : n ≡ suc n - 1 = omega arith in
    split_off (belongs c x.kind) (leads n c xs) (fits ws (drop n xs)) ∙ ap (λ (m : ℕ). fits (times 1 c ∷ times m c ∷ ws) (x ∷ xs)) z

-- one of the class: b tells whether it is there, and then d is the next one
pub one_served : (recs : List ℕ) (c : ℕ) (cls : Class) (d : Option ℕ) {b : Bool} {P : ℕ → Type 0} → b ≡ heads cls (from recs c) → is_some d ≡ b
    → IfSome d P → ((e : ℕ) → P e → e ≡ next recs c) → Serves recs (times 1 cls) c d
one_served recs c cls None h s k f = record { serves = λ ws. left_times recs c cls 1 (omega arith) (sym h ∙ sym s) ws }
one_served recs c cls (Some e) h s k f = took_one recs c e (f e k) cls (sym h ∙ sym s)

-- how many records can still follow record c
abbrev pub ahead : List ℕ → ℕ → ℕ
ahead recs zero = 0
ahead recs (suc c) = suc (size recs - suc c)

falls_to : (recs : List ℕ) (c d : ℕ) → (c ≡ 0 → ⊥) → Onward recs c d → ahead recs d < ahead recs c
falls_to recs zero zero ne o = absurd (ne refl)
falls_to recs zero (suc d) ne o = absurd (ne refl)
falls_to recs (suc c) zero ne o = omega arith
falls_to recs (suc c) (suc d) ne (inl e) = absurd (omega arith)
falls_to recs (suc c) (suc d) ne (inr (a, b)) = omega arith

-- a child of any class is no absent one
present : (recs : List ℕ) (c : ℕ) (cls : Class) → heads cls (from recs c) ≡ true → c ≡ 0 → ⊥
present recs c cls e z = clash (heads_none recs c cls z ∙ e)

pub falls : (recs : List ℕ) (c d : ℕ) (cls : Class) → d ≡ next recs c → heads cls (from recs c) ≡ true → ahead recs d < ahead recs c
falls recs c d cls q e = falls_to recs c d (present recs c cls e) (subst (Onward recs c) (sym q) (next_onward recs c))

-- [1: x] by the detail
pub bracket_on : (w : Words) (x : Want) (ws : List Want) → w.detail ≡ 1 → bracket w x ws ≡ x ∷ ws
bracket_on w x ws e = ap (λ (b : Bool). cond b (x ∷ ws) ws) (eq-eqb w.detail 1 e)

pub bracket_off : (w : Words) (x : Want) (ws : List Want) → (w.detail ≡ 1 → ⊥) → bracket w x ws ≡ ws
bracket_off w x ws ne = ap (λ (b : Bool). cond b (x ∷ ws) ws) (ne_eqb w.detail 1 ne)

-- the answer b for the children of record r, and what record 0 needs besides
module _ (recs : List ℕ) (r c : ℕ) (q : c ≡ first recs r) (b : Bool) (a : b ≡ fits (expected (words recs r)) (from recs c)) where
  answer : right_children recs r ≡ b && cond (eqb r 0) (rooted recs) true
  unfolding right_children
  answer = ap (λ (t : Bool). t && cond (eqb r 0) (rooted recs) true) (ap (λ l. fits (expected (words recs r)) (from recs l)) (sym q) ∙ sym a)

  settled : (t z : Bool) → b ≡ t → eqb r 0 ≡ z → t && cond z (rooted recs) true ≡ right_children recs r
  settled t z e h = sym (answer ∙ ap (λ (t : Bool). t && cond (eqb r 0) (rooted recs) true) e ∙ ap (λ (z : Bool). t && cond z (rooted recs) true) h)

  pub wrong_here : b ≡ false → false ≡ right_children recs r
  wrong_here e = settled false _ e refl

  pub right_root : b ≡ true → r ≡ 0 → rooted recs ≡ right_children recs r
  right_root e h = settled true true e (eq-eqb r 0 h)

  pub right_here : b ≡ true → (r ≡ 0 → ⊥) → true ≡ right_children recs r
  right_here e h = settled true false e (ne_eqb r 0 h)
