-- What holds of every function's names: what each is made of, where the written ones stand, and that each answer and each capture lies inside its table.
-- Assumes nothing.
use mathlib.Core.Path.{◌≡◌, refl, sym, ap, subst, ◌∙◌}
use mathlib.Core.Logic.{◌⊎◌, inl, inr}
use mathlib.Core.Bool.{Bool, true, false, cond}
use mathlib.Core.List.{List, [], ◌∷◌, ◌++◌}
use Prim.Native.Nat.{ℕ, zero, suc, ◌+◌, ◌≤◌, ◌<◌}
use native.Mathlib.Omega.{arith}
use lib.ListN.{length, get_or, take, get_or-append, get_or-eq_default}
use lib.Seq.{get_or_at, take-append-le, take_all}
use lib.Dec.{ltb, leb, eqb}
use borrow.Author.Tests.{ltb-true, ltb-false, leb-true, leb-false, eq-eqb, eqb-true}
use Rattle.std.proofs.lemmas.Bool.{cond-true}
use Rattle.std.specs.Prelude.{Option, Some, None, option_map}
use Rattle.tables.specs.Semantic.{symbol_of}
use Rattle.tables.specs.declared.refusal.RunRule.TheVariants.{Reference, Store}
use Rattle.pool.specs.Names.{Semantic, function_count, is_global, parent, count_of_members, start_of_share, share}
use Rattle.pool.specs.Names.{Upvalue, upvalue_symbols, Names, no_names, names_upto, names}
use Rattle.pool.specs.Names.{index_of, Access, local, global, upvalue, missing}
use Rattle.pool.specs.Names.{load, store, load_symbol, store_symbol, first_found, global_or, local_or}
use Rattle.pool.specs.declared.scope.Table.TheVariants.{Locals, Globals, Upvalues}
use Rattle.pool.specs.NameWords.{entries_of, captured_as, class_of, entry_for, chosen, made}
use Rattle.pool.specs.NameSteps.{parent_owner, owner_names}
use Rattle.pool.specs.declared.names.Class.TheVariants.{Global as Shared}
use Rattle.pool.proofs.NameTables.{one, symbols_length, chosen_length, entries_length}
use Rattle.pool.proofs.NameUpto.{parent_names, names_more, names_length, share_length}

module _ (t : Semantic) where
  -- a function's names do not change when further functions come
  pub names_stay : (n f : ℕ) → f < n → get_or (names_upto t n) f no_names ≡ names t f
  unfolding names
  names_stay zero f h = absurd (omega arith)
  names_stay (suc n) f h = go (ltb f n) refl (λ g. names_stay n f g)
    where
      go : (b : Bool) → ltb f n ≡ b → (f < n → get_or (names_upto t n) f no_names ≡ get_or (names_upto t (suc f)) f no_names)
          → get_or (names_upto t (suc n)) f no_names ≡ get_or (names_upto t (suc f)) f no_names
      go true e ih =
          let g : f < length (names_upto t n) = omega (arith, ltb-true f n e, names_length t n) in
          ap (λ (l : List Names). get_or l f no_names) (names_more t n)
          ∙ (get_or-append (names_upto t n) (made (class_of t (parent_names t n)) (share t n) ∷ []) no_names f g ∙ ih (ltb-true f n e))
      go false e ih = let z : n ≡ f = omega (arith, ltb-false f n e) in ap (λ (m : ℕ). get_or (names_upto t (suc m)) f no_names) z

  -- the first of them are those of fewer functions
  pub names_take : (n f : ℕ) → f ≤ n → take f (names_upto t n) ≡ names_upto t f
  unfolding names_upto
  names_take zero f h = let z : f ≡ 0 = omega arith in rw z
  names_take (suc n) f h = go (leb f n) refl (λ g. names_take n f g)
    where
      go : (b : Bool) → leb f n ≡ b → (f ≤ n → take f (names_upto t n) ≡ names_upto t f) → take f (names_upto t (suc n)) ≡ names_upto t f
      go true e ih =
          let g : f ≤ length (names_upto t n) = omega (arith, leb-true f n e, names_length t n) in
          ap (take f) (names_more t n) ∙ (take-append-le f (names_upto t n) (made (class_of t (parent_names t n)) (share t n) ∷ []) g ∙ ih (leb-true f n e))
      go false e ih =
          let z : suc n ≡ f = omega (arith, leb-false f n e) in
          let g : length (names_upto t (suc n)) ≤ f = omega (arith, names_length t (suc n)) in
          take_all f (names_upto t (suc n)) g ∙ ap (names_upto t) z

  -- made by a pass for each table
  pub names_made : (f : ℕ) → names t f ≡ made (class_of t (parent_names t f)) (share t f)
  unfolding names
  names_made f =
      ap (λ (l : List Names). get_or l f no_names) (names_more t f)
      ∙ get_or_at (names_upto t f) (made (class_of t (parent_names t f)) (share t f)) [] no_names f (names_length t f)

  pub names_next : (n : ℕ) → names_upto t (suc n) ≡ names_upto t n ++ (names t n ∷ [])
  names_next n = names_more t n ∙ ap (λ (m : Names). names_upto t n ++ (m ∷ [])) (sym (names_made n))

  -- the parent's names, if it comes before its child
  pub parent_is : (f : ℕ) → parent t f < f → parent_names t f ≡ names t (parent t f)
  parent_is f h = names_stay f (parent t f) h

  parent_by_owner : (f : ℕ) → parent_names t f ≡ owner_names t (parent_owner t.functions f)
  parent_by_owner f = go (ltb (parent t f) f) refl
    where
      go : (b : Bool) → ltb (parent t f) f ≡ b → parent_names t f ≡ owner_names t (cond b (suc (parent t f)) 0)
      go true e = parent_is f (ltb-true _ _ e)
      go false e =
          let h : length (names_upto t f) ≤ parent t f = omega (arith, ltb-false (parent t f) f e, names_length t f) in
          get_or-eq_default (names_upto t f) no_names h

  pub names_owned : (f : ℕ) → names t f ≡ made (class_of t (owner_names t (parent_owner t.functions f))) (share t f)
  names_owned f = names_made f ∙ ap (λ (n : Names). made (class_of t n) (share t f)) (parent_by_owner f)

  -- "1 name per member": each member is in one of the three tables
  pub names_count : (f : ℕ) → length (names t f).locals + length (names t f).globals + length (names t f).upvalues ≡ length (share t f)
  names_count f =
      let c0 = chosen Locals (class_of t (parent_names t f)) (share t f) in
      let c1 = chosen Globals (class_of t (parent_names t f)) (share t f) in
      rw (names_made f) (omega (arith, symbols_length c0, symbols_length c1, chosen_length (class_of t (parent_names t f)) (share t f)))

  pub names_members : start_of_share t (function_count t) ≡ length t.members → (f : ℕ) → f < function_count t
      → length (names t f).locals + length (names t f).globals + length (names t f).upvalues ≡ count_of_members t f
  names_members whole f h = names_count f ∙ share_length t whole f h

  pub entries_count : start_of_share t (function_count t) ≡ length t.members → (f : ℕ) → f < function_count t → length (entries_of (names t f)) ≡ count_of_members t f
  entries_count whole f h = entries_length (names t f) ∙ names_members whole f h

-- a place that is found is inside the list, and has the symbol
abbrev pub Found : List ℕ → ℕ → Option ℕ → Type 0
Found xs s (Some i) = (i < length xs) × (get_or xs i 0 ≡ s)
Found xs s None = Unit {0}

pub index_found : (xs : List ℕ) (s : ℕ) → Found xs s (index_of xs s)
unfolding index_of
index_found [] s = tt
index_found (x ∷ xs) s = go (eqb x s) refl (index_of xs s) (index_found xs s)
  where
    go : (b : Bool) → eqb x s ≡ b → (p : Option ℕ) → Found xs s p → Found (x ∷ xs) s (cond b (Some 0) (option_map suc p))
    go true e p h = (omega arith, eqb-true x s e)
    go false e (Some i) h = (omega (arith, h.0), h.1)
    go false e None h = tt

-- an element of the list is found, at the latest where it stands
pub index_of_element : (xs : List ℕ) (s k : ℕ) → k < length xs → get_or xs k 0 ≡ s → (i : ℕ) × (index_of xs s ≡ Some i) × (i ≤ k)
unfolding index_of
index_of_element [] s k h e = absurd (omega arith)
index_of_element (x ∷ xs) s zero h e = (0, cond-true _ _ _ (eq-eqb x s e), omega arith)
index_of_element (x ∷ xs) s (suc k) h e = go (eqb x s) (index_of_element xs s k (omega arith) e)
  where
    go : (b : Bool) → ((i : ℕ) × (index_of xs s ≡ Some i) × (i ≤ k)) → (i : ℕ) × (cond b (Some 0) (option_map suc (index_of xs s)) ≡ Some i) × (i ≤ suc k)
    go true w = (0, refl, omega arith)
    go false w = (suc w.0, ap (option_map suc) w.1, omega (arith, w.2))

-- an answer names a place inside its table
abbrev pub InTable : Names → Access → Type 0
InTable n (local i) = i < length n.locals
InTable n (global i) = i < length n.globals
InTable n (upvalue i) = i < length n.upvalues
InTable n (missing rule) = Unit {0}

module _ (n : Names) (s : ℕ) where
  loaded : (l u g : Option ℕ) → Found n.locals s l → Found (upvalue_symbols n.upvalues) s u → Found n.globals s g → InTable n (first_found l u g)
  loaded (Some i) u g hl hu hg = hl.0
  loaded None (Some i) g hl hu hg = omega (arith, hu.0, symbols_length n.upvalues)
  loaded None None (Some i) hl hu hg = hg.0
  loaded None None None hl hu hg = tt

  stored : (b : Bool) (g l : Option ℕ) → Found n.globals s g → Found n.locals s l → InTable n (cond b (global_or Store g) (local_or Store l))
  stored true (Some i) l hg hl = hg.0
  stored true None l hg hl = tt
  stored false g (Some i) hg hl = hl.0
  stored false g None hg hl = tt

either : (P : Access → Type 0) (b : Bool) (x y : Access) → P x → P y → P (cond b x y)
either P true x y p q = p
either P false x y p q = q

module _ (t : Semantic) (f r : ℕ) where
  pub load_inside : InTable (names t f) (load t f r)
  unfolding load
  load_inside =
      let n = names t f in
      let s = symbol_of t.references r in
      either (InTable n) (ltb r (length t.references)) (load_symbol n s) (missing Reference)
      (loaded n s (index_of n.locals s) (index_of (upvalue_symbols n.upvalues) s) (index_of n.globals s)
      (index_found n.locals s) (index_found (upvalue_symbols n.upvalues) s) (index_found n.globals s)) tt

  pub store_inside : InTable (names t f) (store t f r)
  unfolding store
  store_inside =
      let n = names t f in
      let s = symbol_of t.references r in
      either (InTable n) (ltb r (length t.references)) (store_symbol t n s) (missing Reference)
      (stored n s (is_global t s) (index_of n.globals s) (index_of n.locals s) (index_found n.globals s) (index_found n.locals s)) tt

-- "a capture's (table: the parent's locals or upvalues)": its index lies inside that table, and it holds the same symbol there
abbrev pub Captures : Names → Upvalue → Type 0
Captures up u =
    ((u.capture ≡ 1) × (u.index < length up.locals) × (get_or up.locals u.index 0 ≡ u.symbol))
    ⊎ ((u.capture ≡ 2) × (u.index < length up.upvalues) × (get_or (upvalue_symbols up.upvalues) u.index 0 ≡ u.symbol))

abbrev All : (Upvalue → Type 0) → List Upvalue → Type 0
All P [] = Unit {0}
All P (u ∷ us) = P u × All P us

all_append : (P : Upvalue → Type 0) (xs ys : List Upvalue) → All P xs → All P ys → All P (xs ++ ys)
all_append P [] ys a b = b
all_append P (x ∷ xs) ys a b = (a.0, all_append P xs ys a.1 b)

all_at : (P : Upvalue → Type 0) (xs : List Upvalue) (d : Upvalue) → All P xs → (k : ℕ) → k < length xs → P (get_or xs k d)
all_at P [] d a k h = absurd (omega arith)
all_at P (x ∷ xs) d a zero h = a.0
all_at P (x ∷ xs) d a (suc k) h = all_at P xs d a.1 k (omega arith)

module _ (t : Semantic) (up : Names) where
  by_place : (s : ℕ) (b : Bool) (l u : Option ℕ) → Found up.locals s l → Found (upvalue_symbols up.upvalues) s u
      → All (Captures up) (entry_for Upvalues (cond b Shared (captured_as l u)) s)
  by_place s true l u hl hu = tt
  by_place s false (Some i) u hl hu = (inl (refl, hl.0, hl.1), tt)
  by_place s false None (Some i) hl hu = (inr (refl, omega (arith, hu.0, symbols_length up.upvalues), hu.1), tt)
  by_place s false None None hl hu = tt

  all_capture : (ss : List ℕ) → All (Captures up) (chosen Upvalues (class_of t up) ss)
  unfolding chosen
  all_capture [] = tt
  all_capture (s ∷ ss) =
      all_append (Captures up) (one Upvalues (class_of t up) s) (chosen Upvalues (class_of t up) ss)
      (by_place s (is_global t s) (index_of up.locals s) (index_of (upvalue_symbols up.upvalues) s)
      (index_found up.locals s) (index_found (upvalue_symbols up.upvalues) s)) (all_capture ss)

pub capture_inside : (t : Semantic) (f k : ℕ) (d : Upvalue) → k < length (names t f).upvalues → Captures (parent_names t f) (get_or (names t f).upvalues k d)
capture_inside t f k d h =
    let e = names_made t f in
    let all = subst (λ (n : Names). All (Captures (parent_names t f)) n.upvalues) (sym e) (all_capture t (parent_names t f) (share t f)) in
    all_at (Captures (parent_names t f)) (names t f).upvalues d all k h
