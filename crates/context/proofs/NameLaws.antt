-- A load or a store by the notes, and what it makes of a state. Assumes nothing.
use mathlib.Core.Path.{◌≡◌, refl, sym, ap, ◌∙◌, subst}
use mathlib.Core.Bool.{Bool, true, false, cond}
use mathlib.Core.List.{List}
use Prim.Native.Nat.{ℕ, ◌+◌, ◌/◌, ◌%◌, ◌≤◌}
use native.Mathlib.Omega.{arith}
use lib.ListN.{get_or}
use lib.Dec.{eqb, ltb}
use Rattle.std.specs.Prelude.{Ok}
use Rattle.opcode.specs.declared.index.UpvalueNameId.{UpvalueNameId}
use Rattle.tables.specs.Record.{Words}
use Rattle.pool.specs.Names.{Access, local, global, upvalue, missing}
use Rattle.pool.specs.NameWords.{access_of}
use Rattle.pool.specs.declared.lookup.Access.TheVariants.{Upvalue}
use Rattle.pool.specs.Notes.{RECORDS, LOADS, STORES, load_of, store_of, load_noted, store_noted}
use Rattle.rules.specs.declared.Flow.TheVariants.{Refused}
use Rattle.rules.specs.Marker.{LoadUpvalue}
use Rattle.rules.specs.Step.{Use, Get, Set}
use Rattle.rules.specs.Run.{State, Spot, number_of, local_code, global_code, sought}
use Rattle.context.specs.Words.{limit, cap}
use Rattle.context.specs.Sinks.{used as used_of}
use Rattle.context.specs.declared.Context.{Context}
use Rattle.context.specs.Rep.{Walk, Rep}
use Rattle.context.specs.Does.{access_noted, noted_look}
use Rattle.context.proofs.RepLaws.{halted}
use Rattle.context.proofs.MarkLaws.{said}

-- a noted index is a word
abbrev pub Small : Access → Type 0
Small (local n) = n ≤ limit
Small (global n) = n ≤ limit
Small (upvalue n) = n ≤ limit
Small (missing x) = Unit {0}

small_if : (b : Bool) (x y : Access) → Small x → Small y → Small (cond b x y)
small_if true x y p q = p
small_if false x y p q = q

load_small : (n : ℕ) → Small (load_of n)
unfolding load_of
load_small n =
    let z : n % 4096 ≤ limit = omega arith in
    small_if (eqb (n / 4096) 3) _ _ z (small_if (eqb (n / 4096) 4) _ _ z (small_if (eqb (n / 4096) 5) _ _ z (small_if (eqb (n / 4096) 11) _ _ tt tt)))

store_small : (n : ℕ) → Small (store_of n)
unfolding store_of
store_small n =
    let z : n % 4096 ≤ limit = omega arith in
    small_if (eqb (n / 4096) 7) _ _ z (small_if (eqb (n / 4096) 8) _ _ z (small_if (eqb (n / 4096) 12) _ _ tt tt))

pub noted_small : (ns : List ℕ) (u : Use) (i : ℕ) → Small (access_noted ns u i)
unfolding load_noted store_noted
noted_small ns Get i = small_if (ltb i RECORDS) _ _ (load_small (get_or ns (LOADS + i) 0)) tt
noted_small ns Set i = small_if (ltb i RECORDS) _ _ (store_small (get_or ns (STORES + i) 0)) tt

-- a store never comes to an upvalue
abbrev is_upvalue : Access → ℕ
is_upvalue (local n) = 0
is_upvalue (global n) = 0
is_upvalue (upvalue n) = 1
is_upvalue (missing x) = 0

never_if : (b : Bool) (x y : Access) → is_upvalue x ≡ 0 → is_upvalue y ≡ 0 → is_upvalue (cond b x y) ≡ 0
never_if true x y p q = p
never_if false x y p q = q

pub store_never : (ns : List ℕ) (i n : ℕ) → store_noted ns i ≡ upvalue n → ⊥
unfolding store_noted store_of
store_never ns i n e =
    let w = get_or ns (STORES + i) 0 in
    let z : is_upvalue (store_noted ns i) ≡ 0
    = never_if (ltb i RECORDS) _ _ (never_if (eqb (w / 4096) 7) _ _ refl (never_if (eqb (w / 4096) 8) _ _ refl (never_if (eqb (w / 4096) 12) _ _ refl refl))) refl in
    let y : ◌≡◌ {A = ℕ} 1 0 = sym (ap is_upvalue e) ∙ z in omega arith

pub store_captured : (ns : List ℕ) (i : ℕ) (x : UpvalueNameId) → access_of (Ok (Upvalue x)) ≡ store_noted ns i → ⊥
store_captured ns i x e = store_never ns i x.0 (sym e)

module _ {c : Walk} {records : List ℕ} {x₀ : Context} {A : State} {x x' : Context} (r : ℕ) where
  used : (u : Use) (i : ℕ) (y : Access) → Small y → x' ≡ used_of u i y x → Rep c records x₀ A x → Rep c records x₀ (sought r u i y A) x'
  used u i (local n) s k h = said r (local_code u) n refl (let e : n ≡ cap n = omega arith in e) k h
  used u i (global n) s k h = said r (global_code u) n refl (let e : n ≡ cap n = omega arith in e) k h
  used u i (upvalue n) s k h = said r LoadUpvalue n refl (let e : n ≡ cap n = omega arith in e) k h
  used u i (missing y) s k h = halted (Refused y i) k h

  -- the Ident at the spot p, whose number is i
  pub accessed : (ns : List ℕ) (fn : Words) (u : Use) {i : ℕ} (p : Spot) → number_of p ≡ i → x' ≡ used_of u i (access_noted ns u i) x
      → Rep c records x₀ A x → Rep c records x₀ (sought r u (number_of p) (noted_look ns fn u p) A) x'
  accessed ns fn u {i} p e k h =
      subst (λ (j : ℕ). Rep c records x₀ (sought r u j (access_noted ns u j) A) x') (sym e) (used u i (access_noted ns u i) (noted_small ns u i) k h)
