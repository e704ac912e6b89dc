-- Labels placed in a list of markers, and the labels from b up to b + n, both as counts; names of labels in the computed test. Assumes nothing.
use mathlib.Core.Path.{◌≡◌, refl, sym, subst}
use mathlib.Core.Bool.{Bool, true, false, cond, ◌||◌}
use mathlib.Core.List.{List, [], ◌∷◌, ◌++◌, reverse_aux}
use Prim.Native.Nat.{ℕ, zero, suc, ◌+◌, ◌≤◌, ◌<◌}
use native.Mathlib.Omega.{arith}
use native.Mathlib.Decide.{ℕ_discrete}
use lib.ListN.{length, get_or, get_or-append, length-append}
use lib.Dec.{T, eqb, eqb→eq, eqb_refl}
use Rattle.pool.specs.Names.{Access, local, global, upvalue, missing}
use Rattle.rules.specs.Marker.{Way, Label, To, Back, Leave, Load, Do, Mark, mark}
use Rattle.rules.specs.Step.{Use}
use Rattle.rules.specs.Run.{Loop, loop}
use Rattle.rules.proofs.Segment.{sought_marks, leaving}
use Rattle.rules.proofs.Check.{has, del, none_left}

unfoldable pub one : ℕ → ℕ → ℕ
one k l = cond (eqb k l) 1 0

pub one_same : (k : ℕ) → one k k ≡ 1
unfolding one
one_same k = go (eqb k k) (eqb_refl k)
  where
    go : (b : Bool) → T b → ◌≡◌ {A = ℕ} (cond b 1 0) 1
    go true t = refl
    go false t = absurd t

pub one_hit : (k l : ℕ) → 1 ≤ one k l → k ≡ l
unfolding one
one_hit k l h = go (eqb k l) refl h
  where
    go : (b : Bool) → eqb k l ≡ b → 1 ≤ cond b 1 0 → k ≡ l
    go true e h = eqb→eq k l (subst T (sym e) tt)
    go false e h = absurd (omega arith)

pub one_other : (k l : ℕ) → (k ≡ l → ⊥) → one k l ≡ 0
unfolding one
one_other k l h = go (eqb k l) refl
  where
    go : (b : Bool) → eqb k l ≡ b → ◌≡◌ {A = ℕ} (cond b 1 0) 0
    go true e = absurd (h (eqb→eq k l (subst T (sym e) tt)))
    go false e = refl

-- how often label l is placed
abbrev pub placed : ℕ → List Mark → ℕ
placed l [] = 0
placed l (mark r (Label k) ∷ xs) = one k l + placed l xs
placed l (mark r (To h k) ∷ xs) = placed l xs
placed l (mark r (Back k) ∷ xs) = placed l xs
placed l (mark r (Leave x k) ∷ xs) = placed l xs
placed l (mark r (Load c v) ∷ xs) = placed l xs
placed l (mark r (Do c x) ∷ xs) = placed l xs

pub placed_append : (l : ℕ) (xs ys : List Mark) → placed l (xs ++ ys) ≡ placed l xs + placed l ys
placed_append l [] ys = omega arith
placed_append l (mark r (Label k) ∷ xs) ys = omega (arith, placed_append l xs ys)
placed_append l (mark r (To h k) ∷ xs) ys = placed_append l xs ys
placed_append l (mark r (Back k) ∷ xs) ys = placed_append l xs ys
placed_append l (mark r (Leave x k) ∷ xs) ys = placed_append l xs ys
placed_append l (mark r (Load c v) ∷ xs) ys = placed_append l xs ys
placed_append l (mark r (Do c x) ∷ xs) ys = placed_append l xs ys

pub placed_back : (l : ℕ) (xs ys : List Mark) → placed l (reverse_aux xs ys) ≡ placed l xs + placed l ys
placed_back l [] ys = omega arith
placed_back l (mark r (Label k) ∷ xs) ys = omega (arith, placed_back l xs (mark r (Label k) ∷ ys))
placed_back l (mark r (To h k) ∷ xs) ys = placed_back l xs (mark r (To h k) ∷ ys)
placed_back l (mark r (Back k) ∷ xs) ys = placed_back l xs (mark r (Back k) ∷ ys)
placed_back l (mark r (Leave x k) ∷ xs) ys = placed_back l xs (mark r (Leave x k) ∷ ys)
placed_back l (mark r (Load c v) ∷ xs) ys = placed_back l xs (mark r (Load c v) ∷ ys)
placed_back l (mark r (Do c x) ∷ xs) ys = placed_back l xs (mark r (Do c x) ∷ ys)

-- a name looked up, and a Break or Continue, place no label
pub placed_sought : (l r : ℕ) (u : Use) (x : Access) → placed l (sought_marks r u x) ≡ 0
placed_sought l r u (local n) = refl
placed_sought l r u (global n) = refl
placed_sought l r u (upvalue n) = refl
placed_sought l r u (missing x) = refl

pub placed_leaving : (l r : ℕ) (x : Way) (ls : List Loop) → placed l (leaving r x ls) ≡ 0
placed_leaving l r x [] = refl
placed_leaving l r x (loop o c b ∷ ls) = refl

-- how often l stands among b, b + 1, .. b + n - 1
unfoldable pub inside : ℕ → ℕ → ℕ → ℕ
inside b zero l = 0
inside b (suc n) l = one b l + inside (suc b) n l

pub inside_add : (b n m l : ℕ) → inside b (n + m) l ≡ inside b n l + inside (b + n) m l
unfolding inside
inside_add b zero m l = let e : 0 + m ≡ m = omega arith in let f : b + 0 ≡ b = omega arith in rw (e, f) (omega arith)
inside_add b (suc n) m l =
    let e : suc n + m ≡ suc (n + m) = omega arith in
    let f : b + suc n ≡ suc b + n = omega arith in
    rw (e, f) (omega (arith, inside_add (suc b) n m l))

pub inside_below : (b n l : ℕ) → l < b → inside b n l ≡ 0
unfolding inside
inside_below b zero l h = refl
inside_below b (suc n) l h = omega (arith, one_other b l (λ e. omega arith), inside_below (suc b) n l (omega arith))

pub inside_above : (b n l : ℕ) → b + n ≤ l → inside b n l ≡ 0
unfolding inside
inside_above b zero l h = refl
inside_above b (suc n) l h = omega (arith, one_other b l (λ e. omega arith), inside_above (suc b) n l (omega arith))

pub inside_at : (b n l : ℕ) → b ≤ l → l < b + n → inside b n l ≡ 1
unfolding inside
inside_at b zero l h g = absurd (omega arith)
inside_at b (suc n) l h g = go (ℕ_discrete b l) (λ u v. inside_at (suc b) n l u v)
  where
    go : Dec (b ≡ l) → (suc b ≤ l → l < suc b + n → inside (suc b) n l ≡ 1) → one b l + inside (suc b) n l ≡ 1
    go (yes e) ih = rw (← e) (omega (arith, one_same b, inside_below (suc b) n b (omega arith)))
    go (no d) ih = omega (arith, one_other b l d, ih (omega arith) (omega arith))

-- the labels that a list of names stands for, counted
abbrev pub pending : List ℕ → List ℕ → ℕ → ℕ
pending env [] l = 0
pending env (i ∷ is) l = one (get_or env i 0) l + pending env is l

pub none_pending : (env pend : List ℕ) (l : ℕ) → T (none_left pend) → pending env pend l ≡ 0
none_pending env [] l t = refl
none_pending env (i ∷ is) l t = absurd t

abbrev pub Below : ℕ → List ℕ → Type 0
Below n [] = Unit {0}
Below n (i ∷ is) = (i < n) × Below n is

pub below_suc : (n : ℕ) (is : List ℕ) → Below n is → Below (suc n) is
below_suc n [] h = tt
below_suc n (i ∷ is) (h, hs) = (omega arith, below_suc n is hs)

pub below_has : (n i : ℕ) (is : List ℕ) → Below n is → T (has i is) → i < n
below_has n i [] h t = absurd t
below_has n i (j ∷ js) (h, hs) t = go (eqb i j) refl t (λ t. below_has n i js hs t)
  where
    go : (b : Bool) → eqb i j ≡ b → T (b || has i js) → (T (has i js) → i < n) → i < n
    go true e t ih = rw (eqb→eq i j (subst T (sym e) tt)) h
    go false e t ih = ih t

pub below_del : (n i : ℕ) (is : List ℕ) → Below n is → Below n (del i is)
below_del n i [] h = tt
below_del n i (j ∷ js) (h, hs) = go (eqb i j) (below_del n i js hs)
  where
    go : (b : Bool) → Below n (del i js) → Below n (cond b js (j ∷ del i js))
    go true ih = hs
    go false ih = (h, ih)

pub pending_del : (env : List ℕ) (i : ℕ) (is : List ℕ) (l : ℕ) → T (has i is) → pending env is l ≡ one (get_or env i 0) l + pending env (del i is) l
pending_del env i [] l t = absurd t
pending_del env i (j ∷ js) l t = go (eqb i j) refl t (λ t. pending_del env i js l t)
  where
    go : (b : Bool) → eqb i j ≡ b → T (b || has i js) → (T (has i js) → pending env js l ≡ one (get_or env i 0) l + pending env (del i js) l)
        → one (get_or env j 0) l + pending env js l ≡ one (get_or env i 0) l + pending env (cond b js (j ∷ del i js)) l
    go true e t ih = rw (eqb→eq i j (subst T (sym e) tt))
    go false e t ih = omega (arith, ih t)

pub pending_grown : (env : List ℕ) (b : ℕ) (is : List ℕ) (l : ℕ) → Below (length env) is → pending (env ++ (b ∷ [])) is l ≡ pending env is l
pending_grown env b [] l h = refl
pending_grown env b (i ∷ is) l (h, hs) = rw (get_or-append env (b ∷ []) 0 i h, pending_grown env b is l hs)

pub length_grown : (env : List ℕ) (b : ℕ) → length (env ++ (b ∷ [])) ≡ suc (length env)
length_grown env b = omega (arith, length-append env (b ∷ []))
