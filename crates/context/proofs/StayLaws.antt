-- The lent constants stay, words and slice, where none is added. Assumes nothing.
use mathlib.Core.Path.{◌≡◌, refl, ap, ◌∙◌}
use mathlib.Core.Bool.{Bool, true, false, cond}
use Prim.Native.Nat.{ℕ, zero, suc}
use Rattle.opcode.specs.declared.opcode.Words.{Words as MarkerWords}
use Rattle.pool.specs.Names.{Access, local, global, upvalue, missing}
use Rattle.rules.specs.Step.{Use}
use Rattle.rules.specs.declared.Flow.{Flow}
use Rattle.context.specs.Words.{more}
use Rattle.context.specs.Sinks.{goes, took, took_many, Takes, stopped, writes, marked, pushed, used}
use Rattle.context.specs.declared.Context.{Context}

-- one of two contexts that both have those of x
either : (b : Bool) (y z x : Context) → y.consts ≡ x.consts → z.consts ≡ x.consts → (cond b y z).consts ≡ x.consts
either true y z x e h = e
either false y z x e h = h

pushed_lent : (w : MarkerWords) (x : Context) → (pushed w x).consts ≡ x.consts
unfolding pushed
pushed_lent w x = either (writes x) (marked w x) x x refl refl

stopped_lent : (f : Flow) (x : Context) → (stopped f x).consts ≡ x.consts
unfolding stopped
stopped_lent f x = either (goes x) (record x { flow = f }) x x refl refl

took_lent : (x : Context) → (took x).consts ≡ x.consts
unfolding took
took_lent x = either (goes x) (record x { label_count = more x.label_count }) x x refl refl

took_many_lent : (n : ℕ) (x : Context) → (took_many n x).consts ≡ x.consts
took_many_lent zero x = refl
took_many_lent (suc n) x = took_lent (took_many n x) ∙ took_many_lent n x

used_lent : (u : Use) (i : ℕ) (a : Access) (x : Context) → (used u i a x).consts ≡ x.consts
used_lent u i (local n) x = pushed_lent _ x
used_lent u i (global n) x = pushed_lent _ x
used_lent u i (upvalue n) x = pushed_lent _ x
used_lent u i (missing y) x = stopped_lent _ x

-- ---- by what the sinks say

pub push_stays : (w : MarkerWords) (x : Context) {x' : Context} → x' ≡ pushed w x → x'.consts ≡ x.consts
push_stays w x e = ap (λ (y : Context). y.consts) e ∙ pushed_lent w x

pub stop_stays : (f : Flow) (x : Context) {x' : Context} → x' ≡ stopped f x → x'.consts ≡ x.consts
stop_stays f x e = ap (λ (y : Context). y.consts) e ∙ stopped_lent f x

pub take_stays : {x x' : Context} {n l : ℕ} → Takes x x' n l → x'.consts ≡ x.consts
take_stays {x} {n = n} e = ap (λ (y : Context). y.consts) e.context ∙ took_many_lent n x

pub use_stays : (u : Use) (i : ℕ) (a : Access) (x : Context) {x' : Context} → x' ≡ used u i a x → x'.consts ≡ x.consts
use_stays u i a x e = ap (λ (y : Context). y.consts) e ∙ used_lent u i a x
