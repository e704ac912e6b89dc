-- A visit does nothing unless the run goes on. Assumes nothing.
use mathlib.Core.Path.{◌≡◌, refl, ap, ◌∙◌}
use mathlib.Core.Bool.{Bool, true, false}
use mathlib.Core.List.{List, [], ◌∷◌}
use Prim.Native.Nat.{ℕ}
use Rattle.tables.specs.Record.{Words, is_do}
use Rattle.tables.specs.Forest.{Forest, none, tree, own_tree}
use Rattle.tables.proofs.ForestLaws.{Each, each, each_at}
use Rattle.pool.specs.Names.{Access, local, global, upvalue, missing}
use Rattle.rules.specs.Marker.{Way, Mark}
use Rattle.rules.specs.Step.{Role, pass, keep, Use, Step, push_op, push_const, get_label, place, jump, jump_back, visit, begin_loop, end_loop, exit, check_return}
use Rattle.rules.specs.Step.{access, refuse, inner}
use Rattle.rules.specs.Arms.{stream_steps}
use Rattle.rules.specs.Kinds.{steps}
use Rattle.rules.specs.Run.{Lookup, Loop, loop, State, st, flow, labels, loops, emit, bump, halt, begin, finish, way_out, outward, barred, sought, kept, nested}
use Rattle.rules.specs.Run.{Mode, idle, exec, act, named, Visit, absent, child_visit, stream, visit_alg, visits_of, spot_at, number_of}
use Rattle.rules.specs.declared.Flow.{Flow}
use Rattle.rules.specs.declared.Flow.TheVariants.{Go, Cut, Refused}

-- the run does not go on
abbrev pub Ended : Flow → Type 0
Ended Go = ⊥
Ended (Cut k a b) = Unit {0}
Ended (Refused x r) = Unit {0}

abbrev pub Sticky : (State → State) → Type 0
Sticky v = (s : State) → Ended (flow s) → v s ≡ s

pub emit_sticky : (x : Mark) → Sticky (emit x)
unfolding emit
emit_sticky x (st m l ls os Go e) h = absurd h
emit_sticky x (st m l ls os (Cut k a b) e) h = refl
emit_sticky x (st m l ls os (Refused n q) e) h = refl

way_sticky : (r : ℕ) (w : Words) (x : Way) (ls : List Loop) → Sticky (way_out r w x ls)
unfolding emit halt
way_sticky r w x [] (st m l ls os Go e) h = absurd h
way_sticky r w x [] (st m l ls os (Cut k a b) e) h = refl
way_sticky r w x [] (st m l ls os (Refused n q) e) h = refl
way_sticky r w x (loop o c d ∷ us) (st m l ls os Go e) h = absurd h
way_sticky r w x (loop o c d ∷ us) (st m l ls os (Cut k a b) e) h = refl
way_sticky r w x (loop o c d ∷ us) (st m l ls os (Refused n q) e) h = refl

barred_sticky : (w : Words) (d : Bool) → Sticky (barred w d)
unfolding barred halt
barred_sticky w true (st m l ls os Go e) h = absurd h
barred_sticky w true (st m l ls os (Cut k a b) e) h = refl
barred_sticky w true (st m l ls os (Refused n q) e) h = refl
barred_sticky w false s h = refl

sought_sticky : (r : ℕ) (u : Use) (i : ℕ) (x : Access) → Sticky (sought r u i x)
unfolding emit halt
sought_sticky r u i x (st m l ls os Go e) h = absurd h
sought_sticky r u i (local n) (st m l ls os (Cut k a b) e) h = refl
sought_sticky r u i (global n) (st m l ls os (Cut k a b) e) h = refl
sought_sticky r u i (upvalue n) (st m l ls os (Cut k a b) e) h = refl
sought_sticky r u i (missing x) (st m l ls os (Cut k a b) e) h = refl
sought_sticky r u i (local n) (st m l ls os (Refused y q) e) h = refl
sought_sticky r u i (global n) (st m l ls os (Refused y q) e) h = refl
sought_sticky r u i (upvalue n) (st m l ls os (Refused y q) e) h = refl
sought_sticky r u i (missing x) (st m l ls os (Refused y q) e) h = refl

nested_sticky : (b : Bool) (r : ℕ) (w : Words) (v : State → State) → Sticky (nested b r w v)
unfolding nested
nested_sticky false r w v s h = refl
nested_sticky true r w v (st m l ls os Go e) h = absurd h
nested_sticky true r w v (st m l ls os (Cut k a b) e) h = refl
nested_sticky true r w v (st m l ls os (Refused n q) e) h = refl

module _ (t : Lookup) (o : Mode) (fn : Words) (r : ℕ) (w : Words) (k : Forest) (vs : Role → ℕ → State → State) (body : State → State)
    (sticky : (a : Role) (j : ℕ) → Sticky (vs a j)) where
  act_sticky : (x : Step) (env : List ℕ) → Sticky (act t o fn r w k vs body x env)
  unfolding emit bump halt begin finish outward kept
  act_sticky (visit pass a j) env s h = sticky a j s h
  act_sticky (exit x) env s h = way_sticky r w x (loops s) s h
  act_sticky check_return env s h = barred_sticky w (is_do fn) s h
  act_sticky (access u p) env s h = sought_sticky r u (number_of (spot_at (tree r w k none) p)) (t fn u (spot_at (tree r w k none) p)) s h
  act_sticky inner env s h = nested_sticky o.nest r w body s h
  act_sticky (push_op c x) env (st m l ls os Go e) h = absurd h
  act_sticky (push_op c x) env (st m l ls os (Cut y a b) e) h = refl
  act_sticky (push_op c x) env (st m l ls os (Refused n q) e) h = refl
  act_sticky (push_const c p v) env (st m l ls os Go e) h = absurd h
  act_sticky (push_const c p v) env (st m l ls os (Cut y a b) e) h = refl
  act_sticky (push_const c p v) env (st m l ls os (Refused n q) e) h = refl
  act_sticky get_label env (st m l ls os Go e) h = absurd h
  act_sticky get_label env (st m l ls os (Cut y a b) e) h = refl
  act_sticky get_label env (st m l ls os (Refused n q) e) h = refl
  act_sticky (place i) env (st m l ls os Go e) h = absurd h
  act_sticky (place i) env (st m l ls os (Cut y a b) e) h = refl
  act_sticky (place i) env (st m l ls os (Refused n q) e) h = refl
  act_sticky (jump x i) env (st m l ls os Go e) h = absurd h
  act_sticky (jump x i) env (st m l ls os (Cut y a b) e) h = refl
  act_sticky (jump x i) env (st m l ls os (Refused n q) e) h = refl
  act_sticky (jump_back i) env (st m l ls os Go e) h = absurd h
  act_sticky (jump_back i) env (st m l ls os (Cut y a b) e) h = refl
  act_sticky (jump_back i) env (st m l ls os (Refused n q) e) h = refl
  act_sticky (visit keep c j) env (st m l ls os Go e) h = absurd h
  act_sticky (visit keep c j) env (st m l ls os (Cut y a b) e) h = refl
  act_sticky (visit keep c j) env (st m l ls os (Refused n q) e) h = refl
  act_sticky (begin_loop i j) env (st m l ls os Go e) h = absurd h
  act_sticky (begin_loop i j) env (st m l ls os (Cut y a b) e) h = refl
  act_sticky (begin_loop i j) env (st m l ls os (Refused n q) e) h = refl
  act_sticky end_loop env (st m l ls os Go e) h = absurd h
  act_sticky end_loop env (st m l ls os (Cut y a b) e) h = refl
  act_sticky end_loop env (st m l ls os (Refused n q) e) h = refl
  act_sticky (refuse x) env (st m l ls os Go e) h = absurd h
  act_sticky (refuse x) env (st m l ls os (Cut y a b) e) h = refl
  act_sticky (refuse x) env (st m l ls os (Refused n q) e) h = refl

  pub exec_sticky : (is : List Step) (env : List ℕ) → Sticky (exec t o fn r w k vs body is env)
  unfolding exec
  exec_sticky [] env s h = refl
  exec_sticky (x ∷ is) env s h =
      ap (λ (z : State). exec t o fn r w k vs body is (named t o fn r w k vs body x env (labels s)) z) (act_sticky x env s h)
      ∙ exec_sticky is (named t o fn r w k vs body x env (labels s)) s h

module _ (t : Lookup) (o : Mode) where
  abbrev Sticky-all : Visit → Type 0
  Sticky-all v = (a : Role) (fn : Words) → Sticky (v a fn)

  children_sticky : (k : Forest) → Each (λ r w k. Sticky-all (visit_alg t o r w k (visits_of t o k))) k → (fn : Words) (a : Role) (j : ℕ)
      → Sticky (child_visit (visits_of t o k) fn a j)
  children_sticky k h fn a j = each_at (visit_alg t o) (visit_alg t o) (λ x y. Sticky-all x) absent absent (λ a fn s h. refl) k h j a fn

  sticky_step : (r : ℕ) (w : Words) (k : Forest) → Each (λ r w k. Sticky-all (visit_alg t o r w k (visits_of t o k))) k → Sticky-all (visit_alg t o r w k (visits_of t o k))
  sticky_step r w k h a fn = exec_sticky t o fn r w k (child_visit (visits_of t o k) fn) (stream t o r w k (visits_of t o k)) (children_sticky k h fn) (steps o.code
      a w (own_tree k)) []

  pub visits_sticky : (k : Forest) (fn : Words) (a : Role) (j : ℕ) → Sticky (child_visit (visits_of t o k) fn a j)
  visits_sticky k fn a j = children_sticky k (each (λ r w k. Sticky-all (visit_alg t o r w k (visits_of t o k))) sticky_step k) fn a j

  pub visit_sticky : (r : ℕ) (w : Words) (k : Forest) (a : Role) (fn : Words) → Sticky (visit_alg t o r w k (visits_of t o k) a fn)
  visit_sticky r w k a fn = exec_sticky t o fn r w k (child_visit (visits_of t o k) fn) (stream t o r w k (visits_of t o k)) (visits_sticky k fn) (steps o.code a w
      (own_tree k)) []

  pub stream_sticky : (r : ℕ) (w : Words) (k : Forest) → Sticky (stream t o r w k (visits_of t o k))
  unfolding stream
  stream_sticky r w k = exec_sticky t o w r w k (child_visit (visits_of t o k) w) idle (visits_sticky k w) (stream_steps w) []
