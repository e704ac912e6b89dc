-- Constants by value: equal ones are one, each is found, and a later table only adds at the end. Assumes nothing.
use mathlib.Core.Path.{◌≡◌, refl, sym, ap, ap₂, subst, ◌∙◌}
use mathlib.Core.Bool.{Bool, true, false, cond, ◌&&◌, ◌||◌}
use mathlib.Core.List.{List, [], ◌∷◌, ◌++◌, Memᴰ, append-nil, append_assoc}
use Prim.Native.Nat.{ℕ, zero, suc, ◌+◌, ◌≤◌, ◌<◌, min}
use native.Mathlib.Omega.{arith}
use native.Mathlib.Decide.{ℕ_discrete}
use lib.ListN.{length, get_or, length-append}
use lib.Dec.{eqb}
use borrow.Author.Tests.{eq-eqb, eqb-true}
use Rattle.std.proofs.lemmas.Bool.{true≢false, or_parts, and_parts}
use Rattle.pool.specs.Value.{Value, plain, effect, Null, Const, same, same_numbers, same_bool, find, seen, intern, start, found}
use Rattle.pool.specs.Consts.{made, added, most, interned}
use Rattle.pool.specs.declared.consts.Added.{Added}
use Rattle.std.specs.Prelude.{Option, Some, None, unwrap_or, is_some}

-- ---- `same` is equality

list_self : (xs : List ℕ) → same_numbers xs xs ≡ true
list_self [] = refl
list_self (x ∷ xs) = ap₂ ◌&&◌ (eq-eqb x x refl) (list_self xs)

bool_self : (b : Bool) → same_bool b b ≡ true
bool_self true = refl
bool_self false = refl

pub same_self : (v : Value) → same v v ≡ true
same_self (plain k p q) = ap₂ ◌&&◌ (eq-eqb k k refl) (ap₂ ◌&&◌ (eq-eqb p p refl) (eq-eqb q q refl))
same_self (effect n ps b) = ap₂ ◌&&◌ (eq-eqb n n refl) (ap₂ ◌&&◌ (list_self ps) (bool_self b))

list_eq : (xs ys : List ℕ) → same_numbers xs ys ≡ true → xs ≡ ys
list_eq [] [] e = refl
list_eq [] (y ∷ ys) e = absurd (true≢false (sym e))
list_eq (x ∷ xs) [] e = absurd (true≢false (sym e))
list_eq (x ∷ xs) (y ∷ ys) e = let z = and_parts (eqb x y) (same_numbers xs ys) e in ap₂ ◌∷◌ (eqb-true x y z.0) (list_eq xs ys z.1)

bool_eq : (a b : Bool) → same_bool a b ≡ true → a ≡ b
bool_eq true true e = refl
bool_eq true false e = absurd (true≢false (sym e))
bool_eq false true e = absurd (true≢false (sym e))
bool_eq false false e = refl

pub same_eq : (v w : Value) → same v w ≡ true → v ≡ w
same_eq (plain k p q) (plain k' p' q') e =
    let z = and_parts (eqb k k') _ e in
    let y = and_parts (eqb p p') (eqb q q') z.1 in
    ap₂ (λ a b. plain a b q) (eqb-true k k' z.0) (eqb-true p p' y.0) ∙ ap (plain k' p') (eqb-true q q' y.1)
same_eq (plain k p q) (effect n ps b) e = absurd (true≢false (sym e))
same_eq (effect n ps b) (plain k p q) e = absurd (true≢false (sym e))
same_eq (effect n ps b) (effect n' ps' b') e =
    let z = and_parts (eqb n n') _ e in
    let y = and_parts (same_numbers ps ps') (same_bool b b') z.1 in
    ap₂ (λ x ys. effect x ys b) (eqb-true n n' z.0) (list_eq ps ps' y.0) ∙ ap (effect n' ps') (bool_eq b b' y.1)

-- ---- the search

pub find_unseen : (cs : List Const) (v : Value) → seen cs v ≡ false → find cs v ≡ length cs
unfolding find seen
find_unseen [] v e = refl
find_unseen (c ∷ cs) v e = let z = or_parts (same c.value v) (seen cs v) e in rw z.0 (ap suc (find_unseen cs v z.1))

pub find_seen : (cs : List Const) (v : Value) → seen cs v ≡ true → find cs v < length cs
unfolding find seen
find_seen [] v e = absurd (true≢false (sym e))
find_seen (c ∷ cs) v e = go (same c.value v) e (λ q. find_seen cs v q)
  where
    go : (b : Bool) → b || seen cs v ≡ true → (seen cs v ≡ true → find cs v < length cs) → cond b 0 (suc (find cs v)) < suc (length cs)
    go true e ih = omega arith
    go false e ih = omega (arith, ih e)

pub seen_inside : (cs : List Const) (v : Value) → find cs v < length cs → seen cs v ≡ true
seen_inside cs v h = go (seen cs v) refl
  where
    go : (b : Bool) → seen cs v ≡ b → b ≡ true
    go true e = refl
    go false e = absurd (omega (arith, find_unseen cs v e))

-- what is found is the value itself
pub find_value : (cs : List Const) (d : Const) (v : Value) → seen cs v ≡ true → (get_or cs (find cs v) d).value ≡ v
unfolding find seen
find_value [] d v e = absurd (true≢false (sym e))
find_value (c ∷ cs) d v e = go (same c.value v) refl e (λ q. find_value cs d v q)
  where
    go : (b : Bool) → same c.value v ≡ b → b || seen cs v ≡ true → (seen cs v ≡ true → (get_or cs (find cs v) d).value ≡ v)
        → (get_or (c ∷ cs) (cond b 0 (suc (find cs v))) d).value ≡ v
    go true q e ih = same_eq c.value v q
    go false q e ih = ih e

-- ---- one value more

pub intern_old : (cs : List Const) (c : Const) → seen cs c.value ≡ true → intern cs c ≡ cs
unfolding intern
intern_old cs c e = ap (λ b. cond b cs (cs ++ (c ∷ []))) e

pub intern_new : (cs : List Const) (c : Const) → seen cs c.value ≡ false → intern cs c ≡ cs ++ (c ∷ [])
unfolding intern
intern_new cs c e = ap (λ b. cond b cs (cs ++ (c ∷ []))) e

pub intern_length : (cs : List Const) (c : Const) → (length cs ≤ length (intern cs c)) × (length (intern cs c) ≤ suc (length cs))
unfolding intern
intern_length cs c = go (seen cs c.value)
  where
    go : (b : Bool) → (length cs ≤ length (cond b cs (cs ++ (c ∷ [])))) × (length (cond b cs (cs ++ (c ∷ []))) ≤ suc (length cs))
    go true = (omega arith, omega arith)
    go false = (omega (arith, length-append cs (c ∷ [])), omega (arith, length-append cs (c ∷ [])))

find_append : (cs ds : List Const) (v : Value) → seen cs v ≡ true → find (cs ++ ds) v ≡ find cs v
unfolding find seen
find_append [] ds v h = absurd (true≢false (sym h))
find_append (c ∷ cs) ds v h = go (same c.value v) h (λ h. find_append cs ds v h)
  where
    go : (b : Bool) → b || seen cs v ≡ true → (seen cs v ≡ true → find (cs ++ ds) v ≡ find cs v) → cond b 0 (suc (find (cs ++ ds) v)) ≡ cond b 0 (suc (find cs v))
    go true h ih = refl
    go false h ih = ap suc (ih h)

seen_append : (cs ds : List Const) (v : Value) → seen cs v ≡ true → seen (cs ++ ds) v ≡ true
unfolding seen
seen_append [] ds v h = absurd (true≢false (sym h))
seen_append (c ∷ cs) ds v h = go (same c.value v) h (λ h. seen_append cs ds v h)
  where
    go : (b : Bool) → b || seen cs v ≡ true → (seen cs v ≡ true → seen (cs ++ ds) v ≡ true) → b || seen (cs ++ ds) v ≡ true
    go true h ih = refl
    go false h ih = ih h

find_last : (cs : List Const) (c : Const) → seen cs c.value ≡ false → find (cs ++ (c ∷ [])) c.value ≡ length cs
unfolding find seen
find_last [] c e = ap (λ b. cond b 0 1) (same_self c.value)
find_last (d ∷ cs) c e = let z = or_parts (same d.value c.value) (seen cs c.value) e in rw z.0 (ap suc (find_last cs c z.1))

-- the index in the table before is the index in the table after
pub find_intern : (cs : List Const) (c : Const) → find (intern cs c) c.value ≡ find cs c.value
find_intern cs c = go (seen cs c.value) refl
  where
    go : (b : Bool) → seen cs c.value ≡ b → find (intern cs c) c.value ≡ find cs c.value
    go true e = ap (λ ds. find ds c.value) (intern_old cs c e)
    go false e = ap (λ ds. find ds c.value) (intern_new cs c e) ∙ find_last cs c e ∙ sym (find_unseen cs c.value e)

pub seen_intern : (cs : List Const) (c : Const) → seen (intern cs c) c.value ≡ true
seen_intern cs c = seen_inside (intern cs c) c.value (go (seen cs c.value) refl)
  where
    go : (b : Bool) → seen cs c.value ≡ b → find (intern cs c) c.value < length (intern cs c)
    go true e = omega (arith, find_intern cs c, find_seen cs c.value e, (intern_length cs c).0)
    go false e = omega (arith, find_intern cs c, find_unseen cs c.value e, ap length (intern_new cs c e), length-append cs (c ∷ []))

-- ---- the answer of adding, by what the search found among n entries

some_none : {A : Type 0} {x : A} → ◌≡◌ {A = Option A} (Some x) None → ⊥
some_none e = true≢false (ap is_some e)

pub found_seen : (cs : List Const) (v : Value) (i : ℕ) → Some i ≡ found cs v → (seen cs v ≡ true) × (i ≡ find cs v)
found_seen cs v i e = go (seen cs v) refl e
  where
    go : (b : Bool) → seen cs v ≡ b → Some i ≡ cond b (Some (find cs v)) None → (seen cs v ≡ true) × (i ≡ find cs v)
    go true s e = (s, ap (λ (o : Option ℕ). unwrap_or o 0) e)
    go false s e = absurd (some_none e)

pub found_unseen : (cs : List Const) (v : Value) → None ≡ found cs v → seen cs v ≡ false
found_unseen cs v e = go (seen cs v) refl e
  where
    go : (b : Bool) → seen cs v ≡ b → None ≡ cond b (Some (find cs v)) None → seen cs v ≡ false
    go true s e = absurd (some_none (sym e))
    go false s e = s

-- an index for one that is not there: the end of the table
pub found_or : (cs : List Const) (v : Value) → unwrap_or (found cs v) (length cs) ≡ find cs v
found_or cs v = go (seen cs v) refl
  where
    go : (b : Bool) → seen cs v ≡ b → unwrap_or (cond b (Some (find cs v)) None) (length cs) ≡ find cs v
    go true s = refl
    go false s = sym (find_unseen cs v s)

pub added_old : (cs : List Const) (fits : Bool) (c : Const) (n i : ℕ) → length cs ≡ n → n ≤ most → Some i ≡ found cs c.value
    → ◌≡◌ {A = Added} (record { index = i; count = n; kept = true }) (added cs fits c)
added_old cs fits c n i e m q =
    let s = found_seen cs c.value i q in
    let z : length (intern cs c) ≡ length cs = ap length (intern_old cs c s.0) in
    let l : n ≡ min (length (intern cs c)) most = omega arith in
    rw (s.1, l, s.0) refl

pub added_new : (cs : List Const) (fits : Bool) (c : Const) (n m : ℕ) → length cs ≡ n → None ≡ found cs c.value → m ≡ min (n + 1) most
    → ◌≡◌ {A = Added} (record { index = n; count = m; kept = fits }) (added cs fits c)
added_new cs fits c n m e q em =
    let s = found_unseen cs c.value q in
    let z : length (intern cs c) ≡ n + 1 = ap length (intern_new cs c s) ∙ length-append cs (c ∷ []) ∙ omega arith in
    let l : m ≡ min (length (intern cs c)) most = omega arith in
    let i : n ≡ find cs c.value = sym e ∙ sym (find_unseen cs c.value s) in
    rw (i, l, s) refl

-- ---- a table made by adding one constant after the other

-- pairwise different
abbrev pub New : Value → List Const → Type 0
New v [] = Unit {0}
New v (c ∷ cs) = (same v c.value ≡ false) × New v cs

abbrev pub Different : List Const → Type 0
Different [] = Unit {0}
Different (c ∷ cs) = New c.value cs × Different cs

new_append : (v : Value) (c : Const) (cs : List Const) → New v cs → same v c.value ≡ false → New v (cs ++ (c ∷ []))
new_append v c [] n e = (e, tt)
new_append v c (d ∷ cs) (a, n) e = (a, new_append v c cs n e)

different_append : (cs : List Const) (c : Const) → Different cs → seen cs c.value ≡ false → Different (cs ++ (c ∷ []))
unfolding seen
different_append [] c d e = (tt, tt)
different_append (b ∷ cs) c (n, d) e =
    let z = or_parts (same b.value c.value) (seen cs c.value) e in (new_append b.value c cs n z.0, different_append cs c d z.1)

pub different_start : Different start
different_start = (tt, tt)

pub different_intern : (cs : List Const) (c : Const) → Different cs → Different (intern cs c)
unfolding intern
different_intern cs c d = go (seen cs c.value) refl
  where
    go : (b : Bool) → seen cs c.value ≡ b → Different (cond b cs (cs ++ (c ∷ [])))
    go true e = d
    go false e = different_append cs c d e

pub different_interned : (cs xs : List Const) → Different cs → Different (interned cs xs)
unfolding interned
different_interned cs [] d = d
different_interned cs (x ∷ xs) d = different_interned (intern cs x) xs (different_intern cs x d)

-- two entries by their places
new_at : (v : Value) (cs : List Const) (d : Const) → New v cs → (j : ℕ) → j < length cs → same v (get_or cs j d).value ≡ false
new_at v [] d n j h = absurd (omega arith)
new_at v (c ∷ cs) d (a, n) zero h = a
new_at v (c ∷ cs) d (a, n) (suc j) h = new_at v cs d n j (omega arith)

pub differ : (cs : List Const) (d : Const) → Different cs → (i j : ℕ) → i < j → j < length cs → same (get_or cs i d).value (get_or cs j d).value ≡ false
differ [] d f i j h g = absurd (omega arith)
differ (c ∷ cs) d (n, f) zero zero h g = absurd (omega arith)
differ (c ∷ cs) d (n, f) zero (suc j) h g = new_at c.value cs d n j (omega arith)
differ (c ∷ cs) d (n, f) (suc i) zero h g = absurd (omega arith)
differ (c ∷ cs) d (n, f) (suc i) (suc j) h g = differ cs d f i j (omega arith) (omega arith)

-- a later table only adds at the end
pub intern_grows : (cs : List Const) (c : Const) → (more : List Const) × (intern cs c ≡ cs ++ more)
unfolding intern
intern_grows cs c = go (seen cs c.value)
  where
    go : (b : Bool) → (more : List Const) × (cond b cs (cs ++ (c ∷ [])) ≡ cs ++ more)
    go true = ([], sym (append-nil cs))
    go false = (c ∷ [], refl)

pub grows : (cs xs : List Const) → (more : List Const) × (interned cs xs ≡ cs ++ more)
unfolding interned
grows cs [] = ([], sym (append-nil cs))
grows cs (x ∷ xs) =
    let f = intern_grows cs x in
    let g = grows (intern cs x) xs in
    (f.0 ++ g.0, g.1 ∙ ap (λ ds. ds ++ g.0) f.1 ∙ append_assoc cs f.0 g.0)

-- so the index of a value that was seen is its index ever after
pub find_later : (cs : List Const) (c : Const) (v : Value) → seen cs v ≡ true → find (intern cs c) v ≡ find cs v
find_later cs c v h = let g = intern_grows cs c in ap (λ ds. find ds v) g.1 ∙ find_append cs g.0 v h

pub seen_later : (cs : List Const) (c : Const) (v : Value) → seen cs v ≡ true → seen (intern cs c) v ≡ true
seen_later cs c v h = let g = intern_grows cs c in ap (λ ds. seen ds v) g.1 ∙ seen_append cs g.0 v h

pub find_interned : (cs xs : List Const) (v : Value) → seen cs v ≡ true → find (interned cs xs) v ≡ find cs v
find_interned cs xs v h = let g = grows cs xs in ap (λ ds. find ds v) g.1 ∙ find_append cs g.0 v h

pub seen_interned : (cs xs : List Const) (v : Value) → seen cs v ≡ true → seen (interned cs xs) v ≡ true
seen_interned cs xs v h = let g = grows cs xs in ap (λ ds. seen ds v) g.1 ∙ seen_append cs g.0 v h

-- each added value is found inside
pub index_inside : (cs xs : List Const) (c : Const) → Memᴰ c xs → find (interned cs xs) c.value < length (interned cs xs)
unfolding interned
index_inside cs (x ∷ xs) c (Memᴰ.head e) =
    subst (λ (z : Const). find (interned (intern cs x) xs) z.value < length (interned (intern cs x) xs)) (sym e)
    (find_seen (interned (intern cs x) xs) x.value (seen_interned (intern cs x) xs x.value (seen_intern cs x)))
index_inside cs (x ∷ xs) c (Memᴰ.tail m) = index_inside (intern cs x) xs c m
index_inside cs [] c m = elim m [ ]

-- each entry past the first ones was added
abbrev pub Named : List Const → List Const → ℕ → Type 0
Named cs xs i = (c : Const) × Memᴰ c xs × (find cs c.value ≡ i)

named_next : (cs xs : List Const) (x : Const) (i : ℕ) → Named cs xs i → Named cs (x ∷ xs) i
named_next cs xs x i (c, m, e) = (c, Memᴰ.tail m, e)

added_last : (cs xs : List Const) (x : Const) → seen cs x.value ≡ false → find (interned (intern cs x) xs) x.value ≡ length cs
added_last cs xs x e = find_interned (intern cs x) xs x.value (seen_intern cs x) ∙ find_intern cs x ∙ find_unseen cs x.value e

pub named_all : (cs xs : List Const) (i : ℕ) → length cs ≤ i → i < length (interned cs xs) → Named (interned cs xs) xs i
unfolding interned
named_all cs [] i h g = absurd (omega arith)
named_all cs (x ∷ xs) i h g = go (seen cs x.value) refl (ℕ_discrete (length cs) i) (λ u. named_all (intern cs x) xs i u g)
  where
    go : (b : Bool) → seen cs x.value ≡ b → Dec (length cs ≡ i) → (length (intern cs x) ≤ i → Named (interned (intern cs x) xs) xs i)
        → Named (interned (intern cs x) xs) (x ∷ xs) i
    go true e d ih = named_next (interned (intern cs x) xs) xs x i (ih (omega (arith, ap length (intern_old cs x e))))
    go false e (yes p) ih = (x, Memᴰ.head refl, added_last cs xs x e ∙ p)
    go false e (no d) ih = named_next (interned (intern cs x) xs) xs x i (ih (omega (arith, (intern_length cs x).1)))

-- of a function's table: Null, then what was added
pub record Right (xs : List Const) : Type 0 where
  pub differing : (i j : ℕ) → i < j → j < length (interned start xs)
      → same (get_or (interned start xs) i (made Null)).value (get_or (interned start xs) j (made Null)).value ≡ false
  pub inside : (c : Const) → Memᴰ c xs → find (interned start xs) c.value < length (interned start xs)
  pub null_first : find (interned start xs) Null ≡ 0
  pub named : (i : ℕ) → 1 ≤ i → i < length (interned start xs) → Named (interned start xs) xs i

pub right : (xs : List Const) → Right xs
unfolding find seen
right xs =
    record {
      differing = differ (interned start xs) (made Null) (different_interned start xs different_start);
      inside = λ c m. index_inside start xs c m;
      null_first = find_interned start xs Null refl;
      named = λ i h g. named_all start xs i h g;
    }
