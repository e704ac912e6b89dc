-- Function by function equals nested: in a run that is not refused, each function's stream is that of walking its own tree alone. Assumes nothing.
use mathlib.Core.Path.{◌≡◌, refl, sym, ap, ap₂, subst, ◌∙◌}
use mathlib.Core.Bool.{Bool, true, false, cond}
use mathlib.Core.List.{List, [], ◌∷◌}
use Prim.Native.Nat.{ℕ, zero, suc}
use lib.ListN.{get_or}
use lib.Dec.{eqb}
use Rattle.tables.specs.Record.{Words, words, is_do}
use Rattle.tables.specs.Forest.{Forest, none, tree, children, first, own_tree}
use Rattle.tables.proofs.ForestLaws.{Each, each, each_at, Genuine, genuine}
use Rattle.pool.specs.Names.{Access, local, global, upvalue, missing}
use Rattle.rules.specs.declared.StackCode.{StackCode}
use Rattle.rules.specs.Marker.{Way, Code, Pop, LoadLocals, Return, Label, To, Back, Load, Do, Mark, mark}
use Rattle.rules.specs.Step.{Role, Expr, pass, keep, Use, Step, push_op, push_const, get_label, place, jump, jump_back, visit, begin_loop, end_loop, exit}
use Rattle.rules.specs.Step.{check_return, access, refuse, inner, expr}
use Rattle.rules.specs.Arms.{stream_steps}
use Rattle.rules.specs.Kinds.{steps}
use Rattle.rules.specs.Run.{Lookup, Loop, loop, Stream, Side, State, st, flow, side, marks, loops, opened, labels, emit, bump, halt, begin, finish, way_out, outward}
use Rattle.rules.specs.Run.{barred, sought, settle, kept, anew, returned, entered, nested, idle, Mode, act, named, exec, Visit, absent, child_visit, stream}
use Rattle.rules.specs.Run.{visit_alg, visits_of, function_run, nothing, alone, spot_at, number_of}
use Rattle.rules.specs.declared.Flow.{Flow}
use Rattle.rules.specs.declared.Flow.TheVariants.{Go, Cut, Refused}
use Rattle.rules.proofs.Sticky.{Sticky, emit_sticky, exec_sticky, visits_sticky}
use Rattle.rules.proofs.Numbers.{Every}

-- two states that are the same but for what goes through all functions
pub data Like : State → State → Type 0 where
  like : (m : List Mark) (l : ℕ) (ls os : List Loop) (f : Flow) (e e' : Side) → Like (st m l ls os f e) (st m l ls os f e')

-- not refused
abbrev pub Runs : Flow → Type 0
Runs Go = Unit {0}
Runs (Cut k a b) = Unit {0}
Runs (Refused x r) = ⊥

abbrev pub Agree : (State → State) → (State → State) → Type 0
Agree v v' = (s t : State) → Like s t → Runs (flow (v s)) → Like (v s) (v' t)

settle_like : (s t : State) → Like s t → Like (settle s) (settle t)
settle_like s t (like m l ls os Go e e') = like m l ls os Go _ _
settle_like s t (like m l ls os (Cut k a b) e e') = like m l ls os Go _ _
settle_like s t (like m l ls os (Refused x r) e e') = like m l ls os (Refused x r) _ _

settle_runs : (s : State) → Runs (flow (settle s)) → Runs (flow s)
settle_runs (st m l ls os Go e) n = tt
settle_runs (st m l ls os (Cut k a b) e) n = tt
settle_runs (st m l ls os (Refused x r) e) n = n

-- a run that is not refused in the end was not refused before
sticky_runs : (v : State → State) → Sticky v → (s : State) → Runs (flow (v s)) → Runs (flow s)
sticky_runs v k (st m l ls os Go e) n = tt
sticky_runs v k (st m l ls os (Cut x a b) e) n = tt
sticky_runs v k (st m l ls os (Refused x r) e) n = subst (λ (z : State). Runs (flow z)) (k (st m l ls os (Refused x r) e) tt) n

out_like : (r : ℕ) (w : Words) (x : Way) (us : List Loop) → Agree (way_out r w x us) (way_out r w x us)
unfolding emit halt
out_like r w x [] s t (like m l ls os Go e e') n = like _ _ _ _ _ _ _
out_like r w x (loop o c b ∷ us) s t (like m l ls os Go e e') n = like _ _ _ _ _ _ _
out_like r w x [] s t (like m l ls os (Cut k a b) e e') n = like _ _ _ _ _ _ _
out_like r w x (loop o c d ∷ us) s t (like m l ls os (Cut k a b) e e') n = like _ _ _ _ _ _ _
out_like r w x [] s t (like m l ls os (Refused y q) e e') n = absurd n
out_like r w x (loop o c d ∷ us) s t (like m l ls os (Refused y q) e e') n = absurd n

outward_like : (r : ℕ) (w : Words) (x : Way) → Agree (outward r w x) (outward r w x)
unfolding outward
outward_like r w x s t (like m l ls os f e e') n = out_like r w x ls s t (like m l ls os f e e') n

barred_like : (w : Words) (d : Bool) → Agree (barred w d) (barred w d)
unfolding barred halt
barred_like w false s t h n = h
barred_like w true s t (like m l ls os Go e e') n = like _ _ _ _ _ _ _
barred_like w true s t (like m l ls os (Cut k a b) e e') n = like _ _ _ _ _ _ _
barred_like w true s t (like m l ls os (Refused x q) e e') n = absurd n

halt_like : (f : Flow) → Agree (halt f) (halt f)
unfolding halt
halt_like f s t (like m l ls os Go e e') n = like _ _ _ _ _ _ _
halt_like f s t (like m l ls os (Cut k a b) e e') n = like _ _ _ _ _ _ _
halt_like f s t (like m l ls os (Refused x q) e e') n = absurd n

emit_like : (x : Mark) → Agree (emit x) (emit x)
unfolding emit
emit_like x s t (like m l ls os Go e e') n = like _ _ _ _ _ _ _
emit_like x s t (like m l ls os (Cut k a b) e e') n = like _ _ _ _ _ _ _
emit_like x s t (like m l ls os (Refused y q) e e') n = absurd n

sought_like : (r : ℕ) (u : Use) (i : ℕ) (x : Access) → Agree (sought r u i x) (sought r u i x)
sought_like r u i (local n) s t h z = emit_like _ s t h z
sought_like r u i (global n) s t h z = emit_like _ s t h z
sought_like r u i (upvalue n) s t h z = emit_like _ s t h z
sought_like r u i (missing x) s t h z = halt_like _ s t h z

bump_like : Agree bump bump
unfolding bump
bump_like s t (like m l ls os Go e e') n = like _ _ _ _ _ _ _
bump_like s t (like m l ls os (Cut k a b) e e') n = like _ _ _ _ _ _ _
bump_like s t (like m l ls os (Refused y q) e e') n = absurd n

begin_like : (trim : List Loop → List Loop) (x : Loop) → Agree (begin trim x) (begin trim x)
unfolding begin
begin_like trim x s t (like m l ls os Go e e') n = like _ _ _ _ _ _ _
begin_like trim x s t (like m l ls os (Cut k a b) e e') n = like _ _ _ _ _ _ _
begin_like trim x s t (like m l ls os (Refused y q) e e') n = absurd n

finish_like : Agree finish finish
unfolding finish
finish_like s t (like m l ls os Go e e') n = like _ _ _ _ _ _ _
finish_like s t (like m l ls os (Cut k a b) e e') n = like _ _ _ _ _ _ _
finish_like s t (like m l ls os (Refused y q) e e') n = absurd n

kept_like : (v v' : State → State) → Agree v v' → Agree (kept v) (kept v')
unfolding kept
kept_like v v' g s t (like m l ls os Go e e') n =
    settle_like (v (st m l ls os Go e)) (v' (st m l ls os Go e')) (g _ _ (like m l ls os Go e e') (settle_runs (v (st m l ls os Go e)) n))
kept_like v v' g s t (like m l ls os (Cut k a b) e e') n = like _ _ _ _ _ _ _
kept_like v v' g s t (like m l ls os (Refused y q) e e') n = absurd n

-- a function inside leaves the stream around it as it was
returned_like : (r : ℕ) (w : Words) (m : List Mark) (l : ℕ) (ls os : List Loop) (e' : Side) (u : State) → Runs (flow (returned r w m l ls os (settle u)))
    → Like (returned r w m l ls os (settle u)) (st m l ls os Go e')
returned_like r w m l ls os e' (st m' l' ls' os' Go e) n = like _ _ _ _ _ _ _
returned_like r w m l ls os e' (st m' l' ls' os' (Cut k a b) e) n = like _ _ _ _ _ _ _
returned_like r w m l ls os e' (st m' l' ls' os' (Refused x q) e) n = absurd n

entered_like : (b : Bool) (r : ℕ) (w : Words) (v : State → State) (m : List Mark) (l : ℕ) (ls os : List Loop) (e e' : Side) → Runs (flow (entered b r w v m l ls os e))
    → Like (entered b r w v m l ls os e) (st m l ls os Go e')
entered_like true r w v m l ls os e e' n = returned_like r w m l ls os e' (v (anew e)) n
entered_like false r w v m l ls os e e' n = absurd n

nested_like : (r : ℕ) (w : Words) (v v' : State → State) → Agree (nested true r w v) (nested false r w v')
unfolding nested
nested_like r w v v' s t (like m l ls os Go e e') n = entered_like (eqb w.p e.met) r w v m l ls os e e' n
nested_like r w v v' s t (like m l ls os (Cut k a b) e e') n = like _ _ _ _ _ _ _
nested_like r w v v' s t (like m l ls os (Refused x q) e e') n = absurd n

-- the two modes: with and without the functions inside
abbrev pub nesting : StackCode → (List Loop → List Loop) → Mode
nesting sc trim = record { code = sc; nest = true; trim = trim }

abbrev pub flat : StackCode → (List Loop → List Loop) → Mode
flat sc trim = record { code = sc; nest = false; trim = trim }

module _ (sc : StackCode) (t : Lookup) (trim : List Loop → List Loop) where
  module _ (fn : Words) (r : ℕ) (w : Words) (k : Forest) (vs vs' : Role → ℕ → State → State) (body body' : State → State)
      (sticky : (a : Role) (j : ℕ) → Sticky (vs a j)) (agree : (a : Role) (j : ℕ) → Agree (vs a j) (vs' a j)) where
    act_like : (x : Step) (env : List ℕ) → Agree (act t (nesting sc trim) fn r w k vs body x env) (act t (flat sc trim) fn r w k vs' body' x env)
    act_like (push_op c x) env = emit_like _
    act_like (push_const c p v) env = emit_like _
    act_like get_label env = bump_like
    act_like (place i) env = emit_like _
    act_like (jump h i) env = emit_like _
    act_like (jump_back i) env = emit_like _
    act_like (visit pass a j) env = agree a j
    act_like (visit keep a j) env = kept_like (vs a j) (vs' a j) (agree a j)
    act_like (begin_loop i j) env = begin_like trim _
    act_like end_loop env = finish_like
    act_like (exit x) env = outward_like r w x
    act_like check_return env = barred_like w (is_do fn)
    act_like (access u p) env = sought_like r u _ (t fn u (spot_at (tree r w k none) p))
    act_like (refuse x) env = halt_like _
    act_like inner env = nested_like r w body body'

    same_labels : (s s' : State) → Like s s' → labels s ≡ labels s'
    same_labels s s' (like m l ls os f e e') = refl

    same_named : (x : Step) (env : List ℕ) (l : ℕ) → named t (nesting sc trim) fn r w k vs body x env l ≡ named t (flat sc trim) fn r w k vs' body' x env l
    same_named (push_op c x) env l = refl
    same_named (push_const c p v) env l = refl
    same_named get_label env l = refl
    same_named (place i) env l = refl
    same_named (jump h i) env l = refl
    same_named (jump_back i) env l = refl
    same_named (visit y a j) env l = refl
    same_named (begin_loop i j) env l = refl
    same_named end_loop env l = refl
    same_named (exit x) env l = refl
    same_named check_return env l = refl
    same_named (access u p) env l = refl
    same_named (refuse x) env l = refl
    same_named inner env l = refl

    exec_like : (is : List Step) (env : List ℕ) → Agree (exec t (nesting sc trim) fn r w k vs body is env) (exec t (flat sc trim) fn r w k vs' body' is env)
    unfolding exec
    exec_like [] env s s' h n = h
    exec_like (x ∷ is) env s s' h n =
        let env' = named t (nesting sc trim) fn r w k vs body x env (labels s) in
        let a = act t (nesting sc trim) fn r w k vs body x env s in
        let g = act_like x env s s' h (sticky_runs (exec t (nesting sc trim) fn r w k vs body is env') (exec_sticky t (nesting sc trim) fn r w k vs body sticky is env') a n) in
        subst (λ (z : List ℕ). Like (exec t (nesting sc trim) fn r w k vs body is env' a) (exec t (flat sc trim) fn r w k vs' body' is z (act t (flat sc trim) fn r w k
        vs' body' x env s')))
        (same_named x env (labels s) ∙ ap (λ (l : ℕ). named t (flat sc trim) fn r w k vs' body' x env l) (same_labels s s' h))
        (exec_like is env' a (act t (flat sc trim) fn r w k vs' body' x env s') g n)

  abbrev Agree-all : Visit → Visit → Type 0
  Agree-all v v' = (a : Role) (fn : Words) → Agree (v a fn) (v' a fn)

  abbrev Alike : ℕ → Words → Forest → Type 0
  Alike r w k = Agree-all (visit_alg t (nesting sc trim) r w k (visits_of t (nesting sc trim) k)) (visit_alg t (flat sc trim) r w k (visits_of t (flat sc trim) k))

  children_alike : (k : Forest) → Each Alike k → (fn : Words) (a : Role) (j : ℕ)
      → Agree (child_visit (visits_of t (nesting sc trim) k) fn a j) (child_visit (visits_of t (flat sc trim) k) fn a j)
  children_alike k h fn a j = each_at (visit_alg t (nesting sc trim)) (visit_alg t (flat sc trim)) Agree-all absent absent (λ a fn s s' h n. h) k h j a fn

  alike_step : (r : ℕ) (w : Words) (k : Forest) → Each Alike k → Alike r w k
  alike_step r w k h a fn =
      exec_like fn r w k (child_visit (visits_of t (nesting sc trim) k) fn) (child_visit (visits_of t (flat sc trim) k) fn) (stream t (nesting sc trim) r w k
      (visits_of t (nesting sc trim) k))
      (stream t (flat sc trim) r w k (visits_of t (flat sc trim) k)) (visits_sticky t (nesting sc trim) k fn) (children_alike k h fn) (steps sc a w (own_tree k)) []

  -- a function's own markers, labels, loops and flow are the same with and without the functions inside
  pub stream_alike : (r : ℕ) (w : Words) (k : Forest)
      → Agree (stream t (nesting sc trim) r w k (visits_of t (nesting sc trim) k)) (stream t (flat sc trim) r w k (visits_of t (flat sc trim) k))
  unfolding stream
  stream_alike r w k =
      exec_like w r w k (child_visit (visits_of t (nesting sc trim) k) w) (child_visit (visits_of t (flat sc trim) k) w) idle idle (visits_sticky t (nesting sc trim) k w)
      (children_alike k (each Alike alike_step k) w) (stream_steps w) []

-- the stream that a state ends
abbrev pub stream_at : ℕ → Words → State → Stream
stream_at r w s = record { number = w.p; at = r; labels = labels s; marks = marks s; opened = opened s }

abbrev pub streams : State → List Stream
streams s = (side s).streams

module _ (P : Stream → Type 0) where
  -- where the run is not refused, all finished streams keep P
  abbrev Keeps : (State → State) → Type 0
  Keeps v = (s : State) → Runs (flow (v s)) → Every P (streams s) → Every P (streams (v s))

  -- a step that finishes no stream
  abbrev Same : (State → State) → Type 0
  Same v = (s : State) → streams (v s) ≡ streams s

  same_keeps : (v : State → State) → Same v → Keeps v
  same_keeps v e s n h = subst (λ (xs : List Stream). Every P xs) (sym (e s)) h

  settle_same : Same settle
  settle_same (st m l ls os Go e) = refl
  settle_same (st m l ls os (Cut k a b) e) = refl
  settle_same (st m l ls os (Refused x r) e) = refl

  emit_same : (x : Mark) → Same (emit x)
  unfolding emit
  emit_same x (st m l ls os Go e) = refl
  emit_same x (st m l ls os (Cut k a b) e) = refl
  emit_same x (st m l ls os (Refused y r) e) = refl

  halt_same : (f : Flow) → Same (halt f)
  unfolding halt
  halt_same f (st m l ls os Go e) = refl
  halt_same f (st m l ls os (Cut k a b) e) = refl
  halt_same f (st m l ls os (Refused y r) e) = refl

  bump_same : Same bump
  unfolding bump
  bump_same (st m l ls os Go e) = refl
  bump_same (st m l ls os (Cut k a b) e) = refl
  bump_same (st m l ls os (Refused y r) e) = refl

  begin_same : (trim : List Loop → List Loop) (x : Loop) → Same (begin trim x)
  unfolding begin
  begin_same trim x (st m l ls os Go e) = refl
  begin_same trim x (st m l ls os (Cut k a b) e) = refl
  begin_same trim x (st m l ls os (Refused y r) e) = refl

  finish_same : Same finish
  unfolding finish
  finish_same (st m l ls os Go e) = refl
  finish_same (st m l ls os (Cut k a b) e) = refl
  finish_same (st m l ls os (Refused y r) e) = refl

  out_same : (r : ℕ) (w : Words) (x : Way) (us : List Loop) → Same (way_out r w x us)
  out_same r w x [] s = halt_same _ s
  out_same r w x (loop o c b ∷ us) s = emit_same _ s

  barred_same : (w : Words) (d : Bool) → Same (barred w d)
  unfolding barred
  barred_same w true s = halt_same _ s
  barred_same w false s = refl

  sought_same : (r : ℕ) (u : Use) (i : ℕ) (x : Access) → Same (sought r u i x)
  sought_same r u i (local n) s = emit_same _ s
  sought_same r u i (global n) s = emit_same _ s
  sought_same r u i (upvalue n) s = emit_same _ s
  sought_same r u i (missing x) s = halt_same _ s

  emit_keeps : (x : Mark) → Keeps (emit x)
  emit_keeps x = same_keeps (emit x) (emit_same x)

  halt_keeps : (f : Flow) → Keeps (halt f)
  halt_keeps f = same_keeps (halt f) (halt_same f)

  -- one after the other
  then_keeps : (v v' : State → State) → Keeps v → Sticky v' → Keeps v' → Keeps (λ s. v' (v s))
  then_keeps v v' k y k' s n h = k' (v s) n (k s (sticky_runs v' y (v s) n) h)

  kept_keeps : (v : State → State) → Keeps v → Keeps (kept v)
  unfolding kept
  kept_keeps v k (st m l ls os Go e) n h =
      let s = v (st m l ls os Go e) in
      subst (λ (xs : List Stream). Every P xs) (sym (settle_same s)) (k (st m l ls os Go e) (settle_runs s n) h)
  kept_keeps v k (st m l ls os (Cut x a b) e) n h = h
  kept_keeps v k (st m l ls os (Refused x r) e) n h = h

  returned_keeps : (r : ℕ) (w : Words) (m : List Mark) (l : ℕ) (ls os : List Loop) (u u' : State) → Like u u' → Every P (streams u) → P (stream_at r w u')
      → Every P (streams (returned r w m l ls os (settle u)))
  returned_keeps r w m l ls os u u' (like m' l' ls' os' Go e e') h p = (p, h)
  returned_keeps r w m l ls os u u' (like m' l' ls' os' (Cut k a b) e e') h p = (p, h)
  returned_keeps r w m l ls os u u' (like m' l' ls' os' (Refused x q) e e') h p = (p, h)

  returned_runs : (r : ℕ) (w : Words) (m : List Mark) (l : ℕ) (ls os : List Loop) (u : State) → Runs (flow (returned r w m l ls os (settle u))) → Runs (flow u)
  returned_runs r w m l ls os (st m' l' ls' os' Go e) n = tt
  returned_runs r w m l ls os (st m' l' ls' os' (Cut k a b) e) n = tt
  returned_runs r w m l ls os (st m' l' ls' os' (Refused x q) e) n = n

  abbrev pub blank : State
  blank = anew (record { errors = []; met = 0; streams = [] })

  entered_keeps : (b : Bool) (r : ℕ) (w : Words) (v v' : State → State) (m : List Mark) (l : ℕ) (ls os : List Loop) (e : Side) → Keeps v → Agree v v' → P (stream_at r
      w (v' blank))
      → Runs (flow (entered b r w v m l ls os e)) → Every P e.streams → Every P (streams (entered b r w v m l ls os e))
  entered_keeps false r w v v' m l ls os e k g p n h = absurd n
  entered_keeps true r w v v' m l ls os e k g p n h =
      let n' = returned_runs r w m l ls os (v (anew e)) n in
      returned_keeps r w m l ls os (v (anew e)) (v' blank) (g (anew e) blank (like _ _ _ _ _ _ _) n') (k (anew e) n' h) p

  pub nested_keeps : (r : ℕ) (w : Words) (v v' : State → State) → Keeps v → Agree v v' → P (stream_at r w (v' blank)) → Keeps (nested true r w v)
  unfolding nested
  nested_keeps r w v v' k g p (st m l ls os Go e) n h = entered_keeps (eqb w.p e.met) r w v v' m l ls os e k g p n h
  nested_keeps r w v v' k g p (st m l ls os (Cut x a b) e) n h = h
  nested_keeps r w v v' k g p (st m l ls os (Refused x q) e) n h = h

  module _ (sc : StackCode) (t : Lookup) (trim : List Loop → List Loop) (fn : Words) (r : ℕ) (w : Words) (k : Forest) (vs : Role → ℕ → State → State) (body : State → State)
      (sticky : (a : Role) (j : ℕ) → Sticky (vs a j)) (keeps : (a : Role) (j : ℕ) → Keeps (vs a j)) (inside : Keeps (nested true r w body)) where
    act_keeps : (x : Step) (env : List ℕ) → Keeps (act t (nesting sc trim) fn r w k vs body x env)
    unfolding outward
    act_keeps (push_op c x) env = emit_keeps (mark r (Do c x))
    act_keeps (push_const c p v) env = emit_keeps (mark (number_of (spot_at (tree r w k none) p)) (Load c v))
    act_keeps get_label env = same_keeps bump bump_same
    act_keeps (place i) env = emit_keeps (mark r (Label (get_or env i 0)))
    act_keeps (jump h i) env = emit_keeps (mark r (To h (get_or env i 0)))
    act_keeps (jump_back i) env = emit_keeps (mark r (Back (get_or env i 0)))
    act_keeps (visit pass a j) env = keeps a j
    act_keeps (visit keep a j) env = kept_keeps (vs a j) (keeps a j)
    act_keeps (begin_loop i j) env = let x = loop r (get_or env i 0) (get_or env j 0) in same_keeps (begin trim x) (begin_same trim x)
    act_keeps end_loop env = same_keeps finish finish_same
    act_keeps (exit x) env = same_keeps (outward r w x) (λ s. out_same r w x (loops s) s)
    act_keeps check_return env = same_keeps (barred w (is_do fn)) (barred_same w (is_do fn))
    act_keeps (access u p) env =
        let i = number_of (spot_at (tree r w k none) p) in
        let x = t fn u (spot_at (tree r w k none) p) in
        same_keeps (sought r u i x) (sought_same r u i x)
    act_keeps (refuse x) env = halt_keeps (Refused x r)
    act_keeps inner env = inside

    exec_keeps : (is : List Step) (env : List ℕ) → Keeps (exec t (nesting sc trim) fn r w k vs body is env)
    unfolding exec
    exec_keeps [] env s n h = h
    exec_keeps (x ∷ is) env s n h =
        let env' = named t (nesting sc trim) fn r w k vs body x env (labels s) in
        let a = act t (nesting sc trim) fn r w k vs body x env s in
        let n' = sticky_runs (exec t (nesting sc trim) fn r w k vs body is env') (exec_sticky t (nesting sc trim) fn r w k vs body sticky is env') a n in
        exec_keeps is env' a n (act_keeps x env s n' h)

-- every finished stream is that of its function walked alone
module _ (sc : StackCode) (t : Lookup) (trim : List Loop → List Loop) (recs : List ℕ) where
  abbrev pub alone_stream : ℕ → Stream
  alone_stream r = stream_at r (words recs r) (alone t (nesting sc trim) r (words recs r) (children recs r))

  abbrev pub Is-alone : Stream → Type 0
  Is-alone x = x ≡ alone_stream x.at

  abbrev Body : ℕ → Words → Forest → State → State
  Body r w k = stream t (nesting sc trim) r w k (visits_of t (nesting sc trim) k)

  abbrev KeepsAlone : ℕ → Words → Forest → Type 0
  KeepsAlone r w k = w ≡ words recs r → k ≡ children recs r → Genuine recs k → (a : Role) (fn : Words)
      → Keeps Is-alone (visit_alg t (nesting sc trim) r w k (visits_of t (nesting sc trim) k) a fn)

  children_keep : (k : Forest) → Each KeepsAlone k → Genuine recs k → (fn : Words) (a : Role) (j : ℕ) → Keeps Is-alone (child_visit (visits_of t (nesting sc trim) k) fn a j)
  children_keep none h g fn a j = λ s n h. h
  children_keep (tree r w k s) (h, hs) (e, d, g, gs) fn a zero = h e d g a fn
  children_keep (tree r w k s) (h, hs) (e, d, g, gs) fn a (suc j) = children_keep s hs gs fn a j

  -- the two visits of a stream, and the markers at its end
  body_keeps : (r : ℕ) (w : Words) (k : Forest) → Each KeepsAlone k → Genuine recs k → Keeps Is-alone (Body r w k)
  unfolding stream exec
  body_keeps r w k h g = go (is_do w)
    where
      v : ℕ → State → State
      v j = child_visit (visits_of t (nesting sc trim) k) w Expr j

      two : Keeps Is-alone (λ s. v 1 (v 0 s))
      two = then_keeps Is-alone (v 0) (v 1) (children_keep k h g w Expr 0) (visits_sticky t (nesting sc trim) k w Expr 1) (children_keep k h g w Expr 1)

      say1 : (u : State → State) (c : Code) → Keeps Is-alone u → Keeps Is-alone (λ s. emit (mark r (Do c 0)) (u s))
      say1 u c y = then_keeps Is-alone u (emit (mark r (Do c 0))) y (emit_sticky (mark r (Do c 0))) (emit_keeps Is-alone (mark r (Do c 0)))

      go : (d : Bool) → Keeps Is-alone (exec t (nesting sc trim) w r w k (child_visit (visits_of t (nesting sc trim) k) w) idle
          (cond d (expr 0 ∷ expr 1 ∷ push_op Pop 0 ∷ push_op LoadLocals 0 ∷ push_op Return 0 ∷ []) (expr 0 ∷ expr 1 ∷ push_op Return 0 ∷ [])) [])
      go true = say1 (λ s. emit (mark r (Do LoadLocals 0)) (emit (mark r (Do Pop 0)) (v 1 (v 0 s)))) Return
          (say1 (λ s. emit (mark r (Do Pop 0)) (v 1 (v 0 s))) LoadLocals (say1 (λ s. v 1 (v 0 s)) Pop two))
      go false = say1 (λ s. v 1 (v 0 s)) Return two

  body_alone : (r : ℕ) (w : Words) (k : Forest) → w ≡ words recs r → k ≡ children recs r
      → Is-alone (stream_at r w (stream t (flat sc trim) r w k (visits_of t (flat sc trim) k) (blank Is-alone)))
  unfolding alone
  body_alone r w k e d = ap₂ (λ (x : Words) (y : Forest). stream_at r x (alone t (nesting sc trim) r x y)) e d

  inside_keeps : (r : ℕ) (w : Words) (k : Forest) → w ≡ words recs r → k ≡ children recs r → Each KeepsAlone k → Genuine recs k → Keeps Is-alone (nested true r w (Body r w k))
  inside_keeps r w k e d h g =
      nested_keeps Is-alone r w (Body r w k) (stream t (flat sc trim) r w k (visits_of t (flat sc trim) k)) (body_keeps r w k h g) (stream_alike sc t trim r w k)
      (body_alone r w k e d)

  keeps_step : (r : ℕ) (w : Words) (k : Forest) → Each KeepsAlone k → KeepsAlone r w k
  keeps_step r w k h e d g a fn =
      exec_keeps Is-alone sc t trim fn r w k (child_visit (visits_of t (nesting sc trim) k) fn) (Body r w k) (visits_sticky t (nesting sc trim) k fn) (children_keep k h g fn)
      (inside_keeps r w k e d h g) (steps sc a w (own_tree k)) []

  -- the whole run: each finished stream is that of its function walked alone
  pub run_alone : Runs (flow (function_run t (nesting sc trim) 0 (words recs 0) (children recs 0) nothing))
      → Every Is-alone (streams (function_run t (nesting sc trim) 0 (words recs 0) (children recs 0) nothing))
  run_alone n = inside_keeps 0 (words recs 0) (children recs 0) refl refl (each KeepsAlone keeps_step (children recs 0)) (genuine recs (first recs 0)) nothing n tt
