-- What every primitive keeps of the open loops, the flow and what goes through all functions, every visit and every run keep. Assumes nothing.
use mathlib.Core.Path.{◌≡◌, refl}
use mathlib.Core.Bool.{Bool, true, false, cond}
use mathlib.Core.List.{List, [], ◌∷◌}
use Prim.Native.Nat.{ℕ, zero, suc}
use lib.Dec.{T, eqb}
use borrow.Author.Tests.{eqb-true, eqb-false}
use Rattle.tables.specs.Record.{Words, is_do, is_function}
use Rattle.tables.specs.Forest.{Forest, none, tree, Nodes, own_tree}
use Rattle.tables.specs.declared.refusal.RunRule.{RunRule}
use Rattle.tables.specs.declared.refusal.RunRule.TheVariants.{Skipped}
use Rattle.tables.proofs.ForestLaws.{Each, each, and_r}
use Rattle.pool.specs.Value.{function}
use Rattle.pool.specs.Names.{Access, local, global, upvalue, missing}
use Rattle.rules.specs.Marker.{Way, Mark, Call}
use Rattle.rules.specs.Step.{
  Role,
  Keep,
  pass,
  keep,
  Use,
  ChildPath,
  Step,
  push_op,
  push_const,
  get_label,
  place,
  jump,
  jump_back,
  visit,
  begin_loop,
  end_loop,
  exit,
  check_return,
  access,
  refuse,
  inner,
  load,
}
use Rattle.rules.specs.Arms.{function_steps, stream_steps}
use Rattle.rules.specs.Kinds.{steps}
use Rattle.rules.specs.declared.Flow.{Flow}
use Rattle.rules.specs.declared.error.ErrorKind.{ErrorKind}
use Rattle.rules.specs.declared.Flow.TheVariants.{Go, Cut, Refused}
use Rattle.rules.specs.Run.{
  error_number,
  Lookup,
  Error,
  error,
  Loop,
  loop,
  Stream,
  Side,
  State,
  st,
  loops,
  flow,
  side,
  emit,
  bump,
  halt,
  begin,
  drop1,
  finish,
  way_out,
  outward,
  barred,
  nowhere,
  from_tree,
  spot_below,
  number_of,
  spot_at,
  sought,
  settle,
  kept,
  anew,
  returned,
  entered,
  nested,
  idle,
  keeping,
  Mode,
  exec,
  child_visit,
  stream,
  visits_of,
  function_run,
}
use Rattle.rules.proofs.Visits.{visit_of}
use Rattle.rules.proofs.StepsOk.{function_only}
use Rattle.rules.proofs.Tame.{no_name, no_function, pure}
use Rattle.rules.proofs.Pure.{none_pure, steps_pure, stream_pure}

-- what holds of every record of some trees, by its number and its words
abbrev pub Everywhere : (ℕ → Words → Type 0) → Forest → Type 0
Everywhere Q none = Unit {0}
Everywhere Q (tree r w k s) = Q r w × Everywhere Q k × Everywhere Q s

pub everywhere : (Q : ℕ → Words → Type 0) → ((r : ℕ) (w : Words) → Q r w) → (f : Forest) → Everywhere Q f
everywhere Q h none = tt
everywhere Q h (tree r w k s) = (h r w, everywhere Q h k, everywhere Q h s)

from_everywhere : (Q : ℕ → Words → Type 0) (j : ℕ) (f : Forest) → Everywhere Q f → Everywhere Q (from_tree j f)
from_everywhere Q zero f h = h
from_everywhere Q (suc j) none h = tt
from_everywhere Q (suc j) (tree r w k s) (q, g, gs) = from_everywhere Q j s gs

-- one error more, one function more, one finished stream more
abbrev pub with_error : Error → Side → Side
with_error x e = record { errors = x ∷ e.errors; met = e.met; streams = e.streams }

abbrev pub with_function : Side → Side
with_function e = record { errors = e.errors; met = suc e.met; streams = e.streams }

abbrev pub with_stream : Stream → Side → Side
with_stream x e = record { errors = e.errors; met = e.met; streams = x ∷ e.streams }

-- P of the open loops, the flow and the side; Q of the records. A refusal is at a record, or at 0 where there is none; a stream is that of a Function
pub record Invariant (o : Mode) (P : List Loop → Flow → Side → Type 0) (Q : ℕ → Words → Type 0) : Type 0 where
  pub opening : (x : Loop) (ls : List Loop) (e : Side) → P ls Go e → P (o.trim (x ∷ ls)) Go e
  pub closing : (ls : List Loop) (e : Side) → P ls Go e → P (drop1 ls) Go e
  pub cutting : (k : ErrorKind) (a b : ℕ) (ls : List Loop) (e : Side) → P ls Go e → P ls (Cut k a b) e
  pub noting : (k : ErrorKind) (a b : ℕ) (ls : List Loop) (e : Side) → P ls (Cut k a b) e → P ls Go (with_error (error (error_number k) a b) e)
  pub refusing : (x : RunRule) (r : ℕ) (w : Words) (ls : List Loop) (e : Side) → Q r w → P ls Go e → P ls (Refused x r) e
  pub losing : (x : RunRule) (ls : List Loop) (e : Side) → P ls Go e → P ls (Refused x 0) e
  pub starting : (ls : List Loop) (e : Side) → P ls Go e → P [] Go (with_function e)
  pub ending : (x : Stream) (w : Words) (ls ls' : List Loop) (f : Flow) (e e' : Side) → Q x.at w → is_function w ≡ true → P ls Go e → P ls' f e'
      → P ls f (with_stream x e')

module _ (o : Mode) (P : List Loop → Flow → Side → Type 0) (Q : ℕ → Words → Type 0) (inv : Invariant o P Q) where
  abbrev pub Keeps : (State → State) → Type 0
  Keeps v = (s : State) → P (loops s) (flow s) (side s) → P (loops (v s)) (flow (v s)) (side (v s))

  emit_keeps : (x : Mark) → Keeps (emit x)
  unfolding emit
  emit_keeps x (st m l ls os Go e) h = h
  emit_keeps x (st m l ls os (Cut k a b) e) h = h
  emit_keeps x (st m l ls os (Refused n r) e) h = h

  bump_keeps : Keeps bump
  unfolding bump
  bump_keeps (st m l ls os Go e) h = h
  bump_keeps (st m l ls os (Cut k a b) e) h = h
  bump_keeps (st m l ls os (Refused n r) e) h = h

  -- an end of the run that P allows
  abbrev Allows : Flow → Type 0
  Allows f = (ls : List Loop) (e : Side) → P ls Go e → P ls f e

  halt_keeps : (f : Flow) → Allows f → Keeps (halt f)
  unfolding halt
  halt_keeps f q (st m l ls os Go e) h = q ls e h
  halt_keeps f q (st m l ls os (Cut k a b) e) h = h
  halt_keeps f q (st m l ls os (Refused n r) e) h = h

  begin_keeps : (x : Loop) → Keeps (begin o.trim x)
  unfolding begin
  begin_keeps x (st m l ls os Go e) h = inv.opening x ls e h
  begin_keeps x (st m l ls os (Cut k a b) e) h = h
  begin_keeps x (st m l ls os (Refused n r) e) h = h

  finish_keeps : Keeps finish
  unfolding finish
  finish_keeps (st m l ls os Go e) h = inv.closing ls e h
  finish_keeps (st m l ls os (Cut k a b) e) h = h
  finish_keeps (st m l ls os (Refused n r) e) h = h

  way_keeps : (r : ℕ) (w : Words) (x : Way) (us : List Loop) → Keeps (way_out r w x us)
  way_keeps r w x [] s h = halt_keeps _ (inv.cutting _ _ _) s h
  way_keeps r w x (loop i c b ∷ us) s h = emit_keeps _ s h

  barred_keeps : (w : Words) (b : Bool) → Keeps (barred w b)
  unfolding barred
  barred_keeps w true s h = halt_keeps _ (inv.cutting _ _ _) s h
  barred_keeps w false s h = h

  sought_keeps : (r : ℕ) (u : Use) (i : ℕ) (x : Access) → ((y : RunRule) → Allows (Refused y i)) → Keeps (sought r u i x)
  sought_keeps r u i (local n) q s h = emit_keeps _ s h
  sought_keeps r u i (global n) q s h = emit_keeps _ s h
  sought_keeps r u i (upvalue n) q s h = emit_keeps _ s h
  sought_keeps r u i (missing x) q s h = halt_keeps _ (q x) s h

  settle_keeps : Keeps settle
  settle_keeps (st m l ls os Go e) h = h
  settle_keeps (st m l ls os (Cut k a b) e) h = inv.noting k a b ls e h
  settle_keeps (st m l ls os (Refused n r) e) h = h

  keeping_keeps : (y : Keep) (v : State → State) → Keeps v → Keeps (keeping y v)
  unfolding kept
  keeping_keeps pass v k s h = k s h
  keeping_keeps keep v k (st m l ls os Go e) h = settle_keeps (v (st m l ls os Go e)) (k (st m l ls os Go e) h)
  keeping_keeps keep v k (st m l ls os (Cut x a b) e) h = h
  keeping_keeps keep v k (st m l ls os (Refused n r) e) h = h

  -- the function at record r
  module _ (r : ℕ) (w : Words) (q : Q r w) (fun : is_function w ≡ true) (v : State → State) (k : Keeps v) where
    returned_keeps : (m : List Mark) (l : ℕ) (ls os : List Loop) (e : Side) (u : State) → P ls Go e → P (loops u) (flow u) (side u)
        → P (loops (returned r w m l ls os u)) (flow (returned r w m l ls os u)) (side (returned r w m l ls os u))
    returned_keeps m l ls os e (st m' l' ls' os' f e') h h' = inv.ending _ w ls ls' f e e' q fun h h'

    entered_keeps : (b : Bool) (m : List Mark) (l : ℕ) (ls os : List Loop) (e : Side) → P ls Go e
        → P (loops (entered b r w v m l ls os e)) (flow (entered b r w v m l ls os e)) (side (entered b r w v m l ls os e))
    entered_keeps true m l ls os e h = returned_keeps m l ls os e (settle (v (anew e))) h (settle_keeps (v (anew e)) (k (anew e) (inv.starting ls e h)))
    entered_keeps false m l ls os e h = inv.refusing Skipped r w ls e q h

    nested_keeps : (b : Bool) → Keeps (nested b r w v)
    unfolding nested
    nested_keeps false s h = h
    nested_keeps true (st m l ls os Go e) h = entered_keeps (eqb w.p e.met) m l ls os e h
    nested_keeps true (st m l ls os (Cut x a b) e) h = h
    nested_keeps true (st m l ls os (Refused n i) e) h = h

  -- a refusal at a path
  below_allows : (f : Forest) (js : ChildPath) → Everywhere Q f → (y : RunRule) → Allows (Refused y (number_of (spot_below f js)))
  below_allows none [] g y = inv.losing y
  below_allows none (j ∷ js) g y = inv.losing y
  below_allows (tree r w k s) [] (q, g, gs) y = λ ls e h. inv.refusing y r w ls e q h
  below_allows (tree r w k s) (j ∷ js) (q, g, gs) y = go (is_function w) (below_allows (from_tree j k) js (from_everywhere Q j k g) y)
    where
      go : (b : Bool) → Allows (Refused y (number_of (spot_below (from_tree j k) js)))
          → Allows (Refused y (number_of (cond b nowhere (spot_below (from_tree j k) js))))
      go true ih = inv.losing y
      go false ih = ih

  module _ (t : Lookup) (fn : Words) (r : ℕ) (w : Words) (k : Forest) (vs : Role → ℕ → State → State) (body : State → State) (here : Q r w)
      (inside : Everywhere Q k) (child-keeps : (a : Role) (j : ℕ) → Keeps (vs a j)) where
    spot_allows : (p : ChildPath) (y : RunRule) → Allows (Refused y (number_of (spot_at (tree r w k none) p)))
    spot_allows [] y = λ ls e h. inv.refusing y r w ls e here h
    spot_allows (j ∷ js) y = below_allows (from_tree j k) js (from_everywhere Q j k inside) y

    -- steps that run no function
    exec_keeps : (is : List Step) → T (pure is) → (env : List ℕ) → Keeps (exec t o fn r w k vs body is env)
    unfolding exec pure outward
    exec_keeps [] q env s h = h
    exec_keeps (push_op c x ∷ is) q env s h = exec_keeps is (and_r (no_name c) (pure is) q) _ _ (emit_keeps _ s h)
    exec_keeps (push_const c p v ∷ is) q env s h = exec_keeps is (and_r (no_function v) (pure is) q) _ _ (emit_keeps _ s h)
    exec_keeps (get_label ∷ is) q env s h = exec_keeps is q _ _ (bump_keeps s h)
    exec_keeps (place i ∷ is) q env s h = exec_keeps is q _ _ (emit_keeps _ s h)
    exec_keeps (jump x i ∷ is) q env s h = exec_keeps is q _ _ (emit_keeps _ s h)
    exec_keeps (jump_back i ∷ is) q env s h = exec_keeps is q _ _ (emit_keeps _ s h)
    exec_keeps (visit y a j ∷ is) q env s h = exec_keeps is q _ _ (keeping_keeps y (vs a j) (child-keeps a j) s h)
    exec_keeps (begin_loop i j ∷ is) q env s h = exec_keeps is q _ _ (begin_keeps _ s h)
    exec_keeps (end_loop ∷ is) q env s h = exec_keeps is q _ _ (finish_keeps s h)
    exec_keeps (exit x ∷ is) q env s h = exec_keeps is q _ _ (way_keeps r w x (loops s) s h)
    exec_keeps (check_return ∷ is) q env s h = exec_keeps is q _ _ (barred_keeps w (is_do fn) s h)
    exec_keeps (access u p ∷ is) q env s h =
        exec_keeps is q _ _ (sought_keeps r u (number_of (spot_at (tree r w k none) p)) (t fn u (spot_at (tree r w k none) p)) (spot_allows p) s h)
    exec_keeps (refuse x ∷ is) q env s h = exec_keeps is q _ _ (halt_keeps _ (λ ls e g. inv.refusing x r w ls e here g) s h)
    exec_keeps (inner ∷ is) q env s h = absurd q

    -- a Function's steps
    function_steps_keep : is_function w ≡ true → Keeps body → (ns : Nodes) → Keeps (exec t o fn r w k vs body (function_steps w ns) [])
    unfolding exec
    function_steps_keep f b ns s h = go (is_do w)
      where
        now : P (loops (nested o.nest r w body s)) (flow (nested o.nest r w body s)) (side (nested o.nest r w body s))
        now = nested_keeps r w here f body b o.nest s h

        after : (x : Mark) (u : State) → P (loops u) (flow u) (side u) → P (loops (emit x u)) (flow (emit x u)) (side (emit x u))
        after x u = emit_keeps x u

        go : (d : Bool)
            → (let u = exec t o fn r w k vs body (cond d (inner ∷ load (function w.p) ∷ push_op Call 0 ∷ []) (inner ∷ load (function w.p) ∷ [])) [] s in
            P (loops u) (flow u) (side u))
        go true = after _ _ (after _ _ now)
        go false = after _ _ now

  module _ (t : Lookup) where
    abbrev Kept : ℕ → Words → Forest → Type 0
    Kept r w k = Q r w → Everywhere Q k → (a : Role) (fn : Words) → Keeps (visit_of t o r w k a fn)

    children_kept : (k : Forest) → Each Kept k → Everywhere Q k → (fn : Words) (a : Role) (j : ℕ) → Keeps (child_visit (visits_of t o k) fn a j)
    children_kept none h g fn a j = λ s h. h
    children_kept (tree r w k s) (h, hs) (q, g, gs) fn a zero = h q g a fn
    children_kept (tree r w k s) (h, hs) (q, g, gs) fn a (suc j) = children_kept s hs gs fn a j

    stream_kept : (r : ℕ) (w : Words) (k : Forest) → Each Kept k → Q r w → Everywhere Q k → Keeps (stream t o r w k (visits_of t o k))
    unfolding stream
    stream_kept r w k h q g = exec_keeps t w r w k (child_visit (visits_of t o k) w) idle q g (children_kept k h g w) (stream_steps w) (stream_pure w) []

    kept_step : (r : ℕ) (w : Words) (k : Forest) → Each Kept k → Kept r w k
    kept_step r w k h q g a fn = go (is_function w) refl
      where
        vs : Role → ℕ → State → State
        vs = child_visit (visits_of t o k) fn

        body : State → State
        body = stream t o r w k (visits_of t o k)

        go : (b : Bool) → is_function w ≡ b → Keeps (visit_of t o r w k a fn)
        go true f =
            function_only (λ is. Keeps (exec t o fn r w k vs body is [])) o.code a w (own_tree k) (eqb-true w.kind 30 f)
            (exec_keeps t fn r w k vs body q g (children_kept k h g fn) [] none_pure [])
            (function_steps_keep t fn r w k vs body q g (children_kept k h g fn) f (stream_kept r w k h q g) (own_tree k))
        go false n =
            exec_keeps t fn r w k vs body q g (children_kept k h g fn) (steps o.code a w (own_tree k))
            (steps_pure o.code a w (own_tree k) (eqb-false w.kind 30 n)) []

    -- every record, every function's own stream
    pub visit_keeps : (r : ℕ) (w : Words) (k : Forest) → Q r w → Everywhere Q k → (a : Role) (fn : Words) → Keeps (visit_of t o r w k a fn)
    visit_keeps r w k = kept_step r w k (each Kept kept_step k)

    pub stream_keeps : (r : ℕ) (w : Words) (k : Forest) → Q r w → Everywhere Q k → Keeps (stream t o r w k (visits_of t o k))
    stream_keeps r w k = stream_kept r w k (each Kept kept_step k)

    -- and every function run where it stands
    pub function_keeps : (r : ℕ) (w : Words) (k : Forest) → is_function w ≡ true → Q r w → Everywhere Q k → Keeps (function_run t o r w k)
    function_keeps r w k f q g = nested_keeps r w q f (stream t o r w k (visits_of t o k)) (stream_keeps r w k q g) true
