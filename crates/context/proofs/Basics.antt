-- Small laws of choices and states. Assumes nothing.
use mathlib.Core.Path.{◌≡◌, refl, sym, ap}
use mathlib.Core.Bool.{Bool, true, false, cond}
use mathlib.Core.List.{List}
use mathlib.Core.Logic.{◌⊎◌, inl, inr}
use Prim.Native.Nat.{ℕ, suc}
use native.Mathlib.Omega.{arith}
use Rattle.tables.specs.Record.{Words}
use Rattle.rules.specs.declared.Flow.{Flow}
use Rattle.rules.specs.declared.Flow.TheVariants.{Go, Cut, Refused}
use Rattle.rules.specs.Marker.{Mark}
use Rattle.rules.specs.Run.{Loop, State, st, marks, labels, loops, opened, flow, side, emit, bump, halt, begin, finish, kept, nested}
use Rattle.context.specs.Words.{cap, more, is_go}

pub clash : true ≡ false → ⊥
clash e = let z : ◌≡◌ {A = ℕ} 0 1 = cc in omega arith

pub on_true : {A : Type 0} (b : Bool) (x y : A) → b ≡ true → cond b x y ≡ x
on_true b x y e = ap (λ (c : Bool). cond c x y) e

pub on_false : {A : Type 0} (b : Bool) (x y : A) → b ≡ false → cond b x y ≡ y
on_false b x y e = ap (λ (c : Bool). cond c x y) e

pub bool_or : (b : Bool) → (b ≡ true) ⊎ (b ≡ false)
bool_or true = inl refl
bool_or false = inr refl

pub is_go_lem : (f : Flow) → is_go f ≡ true → f ≡ Go
is_go_lem Go e = refl
is_go_lem (Cut k a b) e = absurd (clash (sym e))
is_go_lem (Refused x r) e = absurd (clash (sym e))

pub shape : (A : State) → flow A ≡ Go → A ≡ st (marks A) (labels A) (loops A) (opened A) Go (side A)
shape (st m l ls os f e) q = ap (λ (g : Flow). st m l ls os g e) q

pub more_cap : (n : ℕ) → more (cap n) ≡ cap (suc n)
more_cap n = omega arith

-- what does nothing to a state that does not go on
abbrev pub Rests : (State → State) → Type 0
Rests f = (A : State) → is_go (flow A) ≡ false → f A ≡ A

pub no_emit : (x : Mark) → Rests (emit x)
unfolding emit
no_emit x (st m l ls os Go e) q = absurd (clash q)
no_emit x (st m l ls os (Cut k a b) e) q = refl
no_emit x (st m l ls os (Refused n r) e) q = refl

pub no_bump : Rests bump
unfolding bump
no_bump (st m l ls os Go e) q = absurd (clash q)
no_bump (st m l ls os (Cut k a b) e) q = refl
no_bump (st m l ls os (Refused n r) e) q = refl

pub no_halt : (f : Flow) → Rests (halt f)
unfolding halt
no_halt f (st m l ls os Go e) q = absurd (clash q)
no_halt f (st m l ls os (Cut k a b) e) q = refl
no_halt f (st m l ls os (Refused n r) e) q = refl

pub no_begin : (trim : List Loop → List Loop) (x : Loop) → Rests (begin trim x)
unfolding begin
no_begin trim x (st m l ls os Go e) q = absurd (clash q)
no_begin trim x (st m l ls os (Cut k a b) e) q = refl
no_begin trim x (st m l ls os (Refused n r) e) q = refl

pub no_finish : Rests finish
unfolding finish
no_finish (st m l ls os Go e) q = absurd (clash q)
no_finish (st m l ls os (Cut k a b) e) q = refl
no_finish (st m l ls os (Refused n r) e) q = refl

pub no_kept : (v : State → State) → Rests (kept v)
unfolding kept
no_kept v (st m l ls os Go e) q = absurd (clash q)
no_kept v (st m l ls os (Cut k a b) e) q = refl
no_kept v (st m l ls os (Refused n r) e) q = refl

pub no_nested : (nest : Bool) (r : ℕ) (w : Words) (v : State → State) → Rests (nested nest r w v)
unfolding nested
no_nested false r w v A q = refl
no_nested true r w v (st m l ls os Go e) q = absurd (clash q)
no_nested true r w v (st m l ls os (Cut k a b) e) q = refl
no_nested true r w v (st m l ls os (Refused n x) e) q = refl
