-- The words of notes, and what is read back from them. Assumes nothing.
use Rattle.std.proofs.lemmas.Bool.{cond_both}
use mathlib.Core.Path.{◌≡◌, refl, ap}
use mathlib.Core.Bool.{Bool, true, false, cond}
use mathlib.Core.Logic.{◌⊎◌, inl, inr}
use Prim.Native.Nat.{ℕ, ◌+◌, ◌*◌, ◌/◌, ◌%◌, ◌≤◌, ◌<◌}
use native.Mathlib.Omega.{arith}
use lib.ListN.{length}
use lib.Dec.{ltb}
use Rattle.std.specs.Prelude.{Option, Some, None}
use Rattle.tables.specs.declared.refusal.RunRule.TheVariants.{Reference, Load, Store}
use Rattle.tables.specs.Semantic.{symbol_of}
use Rattle.pool.specs.Names.{Semantic, is_global, upvalue_symbols, Names, names, index_of}
use Rattle.pool.specs.Names.{Access, local, global, upvalue, missing, first_found, local_or, global_or, load, store}
use Rattle.pool.specs.Notes.{load_note, store_note, load_of, store_of}
use Rattle.pool.proofs.NamesLaws.{InTable, load_inside, store_inside}

-- a note's opcode and index
code_of : (c i : ℕ) → (c * 4096 + i % 4096) / 4096 ≡ c
code_of c i = omega arith

index_back : (c i : ℕ) → i < 4096 → (c * 4096 + i % 4096) % 4096 ≡ i
index_back c i h = omega arith

-- what a load comes to, and what a store comes to: the rule of one that is missing
abbrev LoadRule : Access → Type 0
LoadRule (local i) = Unit {0}
LoadRule (global i) = Unit {0}
LoadRule (upvalue i) = Unit {0}
LoadRule (missing x) = (x ≡ Load) ⊎ (x ≡ Reference)

abbrev StoreRule : Access → Type 0
StoreRule (local i) = Unit {0}
StoreRule (global i) = Unit {0}
StoreRule (upvalue i) = ⊥
StoreRule (missing x) = (x ≡ Store) ⊎ (x ≡ Reference)

load_rule : (t : Semantic) (f r : ℕ) → LoadRule (load t f r)
unfolding load
load_rule t f r =
    let n = names t f in
    let s = symbol_of t.references r in
    cond_both (ltb r (length t.references)) _ _ LoadRule (λ _. go (index_of n.locals s) (index_of (upvalue_symbols n.upvalues) s) (index_of n.globals s)) (λ _. inr refl)
  where
    go : (l u g : Option ℕ) → LoadRule (first_found l u g)
    go (Some i) u g = tt
    go None (Some i) g = tt
    go None None (Some i) = tt
    go None None None = inl refl

store_rule : (t : Semantic) (f r : ℕ) → StoreRule (store t f r)
unfolding store
store_rule t f r =
    let n = names t f in
    let s = symbol_of t.references r in
    cond_both (ltb r (length t.references)) _ _ StoreRule (λ _. go (is_global t s) (index_of n.globals s) (index_of n.locals s)) (λ _. inr refl)
  where
    go : (b : Bool) (g l : Option ℕ) → StoreRule (cond b (global_or Store g) (local_or Store l))
    go true (Some i) l = tt
    go true None l = inl refl
    go false g (Some i) = tt
    go false g None = inl refl

-- a note is read back, if a note holds every index
module _ (n : Names) (few : length n.locals + length n.globals + length n.upvalues ≤ 4096) where
  load_read : (a : Access) → InTable n a → LoadRule a → load_of (load_note a) ≡ a
  unfolding load_of
  load_read (local i) h r = let z = index_back 3 i (omega arith) in rw (code_of 3 i) (ap local z)
  load_read (global i) h r = let z = index_back 4 i (omega arith) in rw (code_of 4 i) (ap global z)
  load_read (upvalue i) h r = let z = index_back 5 i (omega arith) in rw (code_of 5 i) (ap upvalue z)
  load_read (missing x) h (inl e) = rw e
  load_read (missing x) h (inr e) = rw e

  store_read : (a : Access) → InTable n a → StoreRule a → store_of (store_note a) ≡ a
  unfolding store_of
  store_read (local i) h r = let z = index_back 7 i (omega arith) in rw (code_of 7 i) (ap local z)
  store_read (global i) h r = let z = index_back 8 i (omega arith) in rw (code_of 8 i) (ap global z)
  store_read (upvalue i) h r = absurd r
  store_read (missing x) h (inl e) = rw e
  store_read (missing x) h (inr e) = rw e

module _ (t : Semantic) (f r : ℕ) (few : length (names t f).locals + length (names t f).globals + length (names t f).upvalues ≤ 4096) where
  pub load_back : load_of (load_note (load t f r)) ≡ load t f r
  load_back = load_read (names t f) few (load t f r) (load_inside t f r) (load_rule t f r)

  pub store_back : store_of (store_note (store t f r)) ≡ store t f r
  store_back = store_read (names t f) few (store t f r) (store_inside t f r) (store_rule t f r)
