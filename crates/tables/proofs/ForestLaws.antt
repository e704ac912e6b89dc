-- The forest of the records: how it unfolds, and induction over it. Assumes nothing.
use mathlib.Core.Path.{◌≡◌, refl, sym, ap₂, subst, ◌∙◌}
use mathlib.Core.Bool.{Bool, true, false, cond, ◌&&◌}
use mathlib.Core.List.{List}
use mathlib.Core.Logic.{◌⊎◌, inl, inr}
use Prim.Native.Nat.{ℕ, zero, suc, ◌+◌, ◌≤◌, ◌<◌}
use native.Mathlib.Omega.{arith}
use lib.ListN.{get_or}
use lib.Dec.{T, ltb, ltb→lt}
use Rattle.tables.specs.Record.{Words, words, size}
use Rattle.tables.specs.Forest.{Forest, none, tree, guarded, link, first, next, grow, forest, children, fold, fold1}

pub and_l : (a b : Bool) → T (a && b) → T a
and_l true b t = tt
and_l false b t = t

pub and_r : (a b : Bool) → T (a && b) → T b
and_r true b t = t
and_r false b t = absurd t

-- a link is absent, or goes forward and stays inside
abbrev pub Onward : List ℕ → ℕ → ℕ → Type 0
Onward recs r l = (l ≡ 0) ⊎ ((r < l) × (l < size recs))

is_guarded : (r n l : ℕ) → (guarded r n l ≡ 0) ⊎ ((r < guarded r n l) × (guarded r n l < n))
unfolding guarded
is_guarded r n l = go (ltb r l && ltb l n) refl
  where
    go : (b : Bool) → ltb r l && ltb l n ≡ b → (cond b l 0 ≡ 0) ⊎ ((r < cond b l 0) × (cond b l 0 < n))
    go true e = let t : T (ltb r l && ltb l n) = subst T (sym e) tt in
        inr (ltb→lt r l (and_l (ltb r l) (ltb l n) t), ltb→lt l n (and_r (ltb r l) (ltb l n) t))
    go false e = inl refl

pub first_onward : (recs : List ℕ) (r : ℕ) → Onward recs r (first recs r)
unfolding first
first_onward recs r = is_guarded r _ _

pub next_onward : (recs : List ℕ) (r : ℕ) → Onward recs r (next recs r)
unfolding next
next_onward recs zero = inl refl
next_onward recs (suc r) = is_guarded (suc r) _ _

-- one more unit of fuel changes nothing
grow_zero : (recs : List ℕ) (n : ℕ) → grow recs n 0 ≡ none
unfolding grow
grow_zero recs zero = refl
grow_zero recs (suc n) = refl

at_end : (recs : List ℕ) (r l : ℕ) → Onward recs r l → size recs ≤ r → grow recs 0 l ≡ grow recs 1 l
at_end recs r l (inl e) h = rw e (grow_zero recs 0 ∙ sym (grow_zero recs 1))
at_end recs r l (inr (a, b)) h = absurd (omega arith)

at_link : (recs : List ℕ) (m r l : ℕ) → Onward recs r l → size recs ≤ suc m + r
    → (size recs ≤ m + l → grow recs (suc m) l ≡ grow recs (suc (suc m)) l) → grow recs (suc m) l ≡ grow recs (suc (suc m)) l
at_link recs m r l (inl e) h ih = rw e (grow_zero recs (suc m) ∙ sym (grow_zero recs (suc (suc m))))
at_link recs m r l (inr (a, b)) h ih = ih (omega arith)

grow_more : (recs : List ℕ) (n r : ℕ) → size recs ≤ n + r → grow recs (suc n) r ≡ grow recs (suc (suc n)) r
unfolding grow
grow_more recs zero zero h = refl
grow_more recs (suc n) zero h = refl
grow_more recs zero (suc r) h =
    ap₂ (tree (suc r) (words recs (suc r))) (at_end recs (suc r) _ (first_onward recs (suc r)) (omega arith)) (at_end recs (suc r) _ (next_onward recs (suc r)) (omega arith))
grow_more recs (suc n) (suc r) h =
    ap₂ (tree (suc r) (words recs (suc r))) (at_link recs n (suc r) _ (first_onward recs (suc r)) h (λ g. grow_more recs n _ g))
    (at_link recs n (suc r) _ (next_onward recs (suc r)) h (λ g. grow_more recs n _ g))

-- an absent link is none, a record is a tree of what its two links lead to
pub forest_absent : (recs : List ℕ) → forest recs 0 ≡ none
unfolding forest
forest_absent recs = grow_zero recs (suc (size recs))

enough : (recs : List ℕ) (n r l : ℕ) → size recs ≡ n → Onward recs r l → grow recs n l ≡ grow recs (suc n) l
enough recs n r l e (inl z) = rw z (grow_zero recs n ∙ sym (grow_zero recs (suc n)))
enough recs zero r l e (inr (a, b)) = absurd (omega arith)
enough recs (suc n) r l e (inr (a, b)) = grow_more recs n l (omega arith)

pub forest_record : (recs : List ℕ) (r : ℕ) → forest recs (suc r) ≡ tree (suc r) (words recs (suc r)) (forest recs (first recs (suc r))) (forest recs (next recs (suc r)))
unfolding forest grow
forest_record recs r =
    ap₂ (tree (suc r) (words recs (suc r))) (enough recs _ (suc r) _ refl (first_onward recs (suc r))) (enough recs _ (suc r) _ refl (next_onward recs (suc r)))

-- an induction for all grown forests: the fuel of `grow` is met here once and for all
pub grown : (recs : List ℕ) (P : Forest → Type 0) → P none
    → ((r : ℕ) → P (forest recs (first recs (suc r))) → P (forest recs (next recs (suc r)))
    → P (tree (suc r) (words recs (suc r)) (forest recs (first recs (suc r))) (forest recs (next recs (suc r)))))
    → (l : ℕ) → P (forest recs l)
grown recs P base step l = go (size recs) l (omega arith)
  where
    nothing : P (forest recs 0)
    nothing = subst P (sym (forest_absent recs)) base

    past : (r k : ℕ) → Onward recs r k → size recs ≤ r → P (forest recs k)
    past r k (inl e) h = subst (λ z. P (forest recs z)) (sym e) nothing
    past r k (inr (a, b)) h = absurd (omega arith)

    along : (n r k : ℕ) → Onward recs r k → size recs ≤ suc n + r → (size recs ≤ n + k → P (forest recs k)) → P (forest recs k)
    along n r k (inl e) h ih = subst (λ z. P (forest recs z)) (sym e) nothing
    along n r k (inr (a, b)) h ih = ih (omega arith)

    go : (n k : ℕ) → size recs ≤ n + k → P (forest recs k)
    go zero zero h = nothing
    go (suc n) zero h = nothing
    go zero (suc r) h =
        subst P (sym (forest_record recs r)) (step r (past (suc r) _ (first_onward recs (suc r)) (omega arith)) (past (suc r) _ (next_onward recs (suc r)) (omega arith)))
    go (suc n) (suc r) h =
        subst P (sym (forest_record recs r))
        (step r (along n (suc r) _ (first_onward recs (suc r)) h (λ g. go n _ g)) (along n (suc r) _ (next_onward recs (suc r)) h (λ g. go n _ g)))

-- in a forest grown from the records every tree is that of its record
abbrev pub Genuine : List ℕ → Forest → Type 0
Genuine recs none = Unit {0}
Genuine recs (tree r w k s) = (w ≡ words recs r) × (k ≡ children recs r) × Genuine recs k × Genuine recs s

pub genuine : (recs : List ℕ) (l : ℕ) → Genuine recs (forest recs l)
genuine recs l = grown recs (λ f. Genuine recs f) tt (λ r a b. (refl, refl, a, b)) l

-- one induction for every algebra: P holds of a record and its children where it holds of each child
abbrev pub Each : (ℕ → Words → Forest → Type 0) → Forest → Type 0
Each P none = Unit {0}
Each P (tree r w k s) = P r w k × Each P s

pub each : (P : ℕ → Words → Forest → Type 0) → ((r : ℕ) (w : Words) (k : Forest) → Each P k → P r w k) → (f : Forest) → Each P f
each P step none = tt
each P step (tree r w k s) = (step r w k (each P step k), each P step s)

-- what holds of each child's two values holds of the j-th pair, defaults included
pub each_at : {A B : Type 0} (f : ℕ → Words → Forest → List A → A) (g : ℕ → Words → Forest → List B → B) (Q : A → B → Type 0) (a : A) (b : B) → Q a b
    → (k : Forest) → Each (λ r w s. Q (fold1 f r w s) (fold1 g r w s)) k → (j : ℕ) → Q (get_or (fold f k) j a) (get_or (fold g k) j b)
each_at f g Q a b q none e j = q
each_at f g Q a b q (tree r w k s) (p, e) zero = p
each_at f g Q a b q (tree r w k s) (p, e) (suc j) = each_at f g Q a b q s e j

pub next_zero : (recs : List ℕ) (r : ℕ) → r ≡ 0 → 0 ≡ next recs r
unfolding next
next_zero recs zero e = refl
next_zero recs (suc r) e = absurd (omega arith)

pub next_some : (recs : List ℕ) (r : ℕ) → (r ≡ 0 → ⊥) → link recs r 7 ≡ next recs r
unfolding next
next_some recs zero ne = absurd (ne refl)
next_some recs (suc r) ne = refl
