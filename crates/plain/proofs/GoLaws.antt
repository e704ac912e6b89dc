-- What steps do to the flow and the labels. Assumes nothing.
use mathlib.Core.Path.{◌≡◌, refl, sym, ap, ◌∙◌}
use mathlib.Core.Bool.{false}
use mathlib.Core.List.{List, ◌++◌}
use Prim.Native.Nat.{ℕ, suc, ◌+◌, ◌<◌}
use native.Mathlib.Omega.{arith}
use lib.ListN.{get_or, get_or-append, length}
use lib.Seq.{get_or-append-add}
use Rattle.pool.specs.Names.{Access, local, global, upvalue, missing}
use Rattle.rules.specs.declared.Flow.{Flow}
use Rattle.rules.specs.declared.Flow.TheVariants.{Go, Cut, Refused}
use Rattle.rules.specs.Marker.{Mark}
use Rattle.rules.specs.Step.{Use}
use Rattle.rules.specs.Run.{State, st, labels, flow, emit, bump, halt, sought}
use Rattle.context.specs.Words.{cap, is_go}
use Rattle.context.proofs.Basics.{clash}

-- ---- flow and labels after a step

pub emit_flow : (x : Mark) (A : State) → flow (emit x A) ≡ flow A
unfolding emit
emit_flow x (st m l ls os Go e) = refl
emit_flow x (st m l ls os (Cut k a b) e) = refl
emit_flow x (st m l ls os (Refused n r) e) = refl

pub emit_labels : (x : Mark) (A : State) → labels (emit x A) ≡ labels A
unfolding emit
emit_labels x (st m l ls os Go e) = refl
emit_labels x (st m l ls os (Cut k a b) e) = refl
emit_labels x (st m l ls os (Refused n r) e) = refl

pub bump_flow : (A : State) → flow (bump A) ≡ flow A
unfolding bump
bump_flow (st m l ls os Go e) = refl
bump_flow (st m l ls os (Cut k a b) e) = refl
bump_flow (st m l ls os (Refused n r) e) = refl

pub bump_labels : (A : State) → flow A ≡ Go → labels (bump A) ≡ suc (labels A)
unfolding bump
bump_labels (st m l ls os Go e) g = refl
bump_labels (st m l ls os (Cut k a b) e) g = absurd (clash (sym (ap is_go g)))
bump_labels (st m l ls os (Refused n r) e) g = absurd (clash (sym (ap is_go g)))

halt_labels : (f : Flow) (A : State) → labels (halt f A) ≡ labels A
unfolding halt
halt_labels f (st m l ls os Go e) = refl
halt_labels f (st m l ls os (Cut k a b) e) = refl
halt_labels f (st m l ls os (Refused n r) e) = refl

-- what has ended does not go on
pub halt_not : (f : Flow) (A : State) → is_go f ≡ false → is_go (flow (halt f A)) ≡ false
unfolding halt
halt_not f (st m l ls os Go e) n = n
halt_not f (st m l ls os (Cut k a b) e) n = refl
halt_not f (st m l ls os (Refused x r) e) n = refl

-- a name takes no label, and where the run goes on after it, it went on before
pub sought_labels : (r : ℕ) (u : Use) (i : ℕ) (x : Access) (A : State) → labels (sought r u i x A) ≡ labels A
sought_labels r u i (local n) A = emit_labels _ A
sought_labels r u i (global n) A = emit_labels _ A
sought_labels r u i (upvalue n) A = emit_labels _ A
sought_labels r u i (missing x) A = halt_labels _ A

pub sought_flow : (r : ℕ) (u : Use) (i : ℕ) (x : Access) (A : State) → flow (sought r u i x A) ≡ Go → flow A ≡ Go
sought_flow r u i (local n) A g = sym (emit_flow _ A) ∙ g
sought_flow r u i (global n) A g = sym (emit_flow _ A) ∙ g
sought_flow r u i (upvalue n) A g = sym (emit_flow _ A) ∙ g
sought_flow r u i (missing x) A g = absurd (clash (sym (ap is_go g) ∙ halt_not (Refused x i) A refl))

-- ---- labels by their names

-- those of before are as they were
pub env_kept : (env ls : List ℕ) (k : ℕ) → k < length env → get_or (env ++ ls) k 0 ≡ get_or env k 0
env_kept env ls k h = get_or-append env ls 0 k h

pub env_new : (env ls : List ℕ) (k : ℕ) → get_or (env ++ ls) (length env + k) 0 ≡ get_or ls k 0
env_new env ls k = get_or-append-add env ls k 0

-- the word of the label that was taken k after
pub cap_after : (l k n : ℕ) → l ≡ cap n → cap (l + k) ≡ cap (n + k)
cap_after l k n e = omega arith
