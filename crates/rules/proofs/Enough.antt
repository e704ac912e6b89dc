-- A stack that keeps only the newest n open loops gives the same run, for trees nested at most n levels. Assumes nothing.
use mathlib.Core.Path.{◌≡◌, refl, sym, ap, subst, ◌∙◌}
use mathlib.Core.Bool.{Bool, true, false, cond}
use mathlib.Core.List.{List, [], ◌∷◌}
use Prim.Native.Nat.{ℕ, zero, suc, ◌+◌, ◌≤◌}
use native.Mathlib.Omega.{arith}
use lib.ListN.{get_or, take as front}
use lib.Seq.{take-take}
use lib.Dec.{T, eqb}
use Rattle.tables.specs.Record.{Words, words, is_do, is_loop}
use Rattle.tables.specs.Forest.{Forest, none, tree, children, root, levels, own_tree}
use Rattle.tables.proofs.ForestLaws.{Each, each, and_l, and_r}
use Rattle.pool.specs.Names.{Access, local, global, upvalue, missing}
use Rattle.rules.specs.declared.StackCode.{StackCode}
use Rattle.rules.specs.Marker.{Way, Mark}
use Rattle.rules.specs.Step.{
  Role,
  Keep,
  pass,
  keep,
  Use,
  Step,
  push_op,
  push_const,
  get_label,
  place,
  jump,
  jump_back,
  visit,
  begin_loop,
  end_loop,
  exit,
  check_return,
  access,
  refuse,
  inner,
}
use Rattle.rules.specs.Arms.{stream_steps}
use Rattle.rules.specs.Kinds.{steps}
use Rattle.rules.specs.declared.Flow.{Flow}
use Rattle.rules.specs.declared.Flow.TheVariants.{Go, Cut, Refused}
use Rattle.rules.specs.Run.{
  Lookup,
  Loop,
  loop,
  Side,
  State,
  st,
  marks,
  labels,
  opened,
  flow,
  side,
  emit,
  bump,
  halt,
  begin,
  drop1,
  finish,
  way_out,
  outward,
  barred,
  number_of,
  spot_at,
  sought,
  settle,
  kept,
  anew,
  returned,
  entered,
  nested,
  idle,
  keeping,
  Mode,
  act,
  named,
  exec,
  child_visit,
  stream,
  visits_of,
  function_run,
  nothing,
  run,
  alone,
}
use Rattle.rules.proofs.Check.{Inside, outside, within, Chk, chk, sound_at, settled, fits, next, ok, begun}
use Rattle.rules.proofs.StepsOk.{steps_ok, stream_ok}
use Rattle.rules.proofs.StepParts.{Pass}
use Rattle.rules.proofs.Sticky.{Ended, Sticky, exec_sticky, visits_sticky}
use Rattle.rules.proofs.Numbers.{Every}
use Rattle.rules.proofs.Visits.{visit_of}
use Rattle.rules.proofs.Alone.{Runs, streams, Is-alone, run_alone}
use Rattle.rules.proofs.Stack.{newest}

-- every open loop is kept
abbrev pub every : StackCode → Bool → Mode
every sc b = record { code = sc; nest = b; trim = λ ls. ls }

-- two states that are the same but for the open loops, of which the newest i are the same
pub data SameTop (i : ℕ) : State → State → Type 0 where
  same_top : (m : List Mark) (l : ℕ) (ls ls' os : List Loop) (f : Flow) (e : Side) → front i ls ≡ front i ls' → SameTop i (st m l ls os f e) (st m l ls' os f e)

abbrev pub Alike : ℕ → (State → State) → (State → State) → Type 0
Alike i v v' = (s u : State) → SameTop i s u → SameTop i (v s) (v' u)

top_fewer : (i : ℕ) (ls ls' : List Loop) → front (suc i) ls ≡ front (suc i) ls' → front i ls ≡ front i ls'
top_fewer i ls ls' q = let g : i ≤ suc i = omega arith in sym (take-take i (suc i) ls g) ∙ ap (front i) q ∙ take-take i (suc i) ls' g

same_fewer : (i : ℕ) (s u : State) → SameTop (suc i) s u → SameTop i s u
same_fewer i s u (same_top m l ls ls' os f e q) = same_top m l ls ls' os f e (top_fewer i ls ls' q)

empty_not : (i : ℕ) (x : Loop) (xs : List Loop) → front (suc i) [] ≡ front (suc i) (x ∷ xs) → ⊥
empty_not i x xs q = let z : ◌≡◌ {A = ℕ} 0 1 = cc in omega arith

top_dropped : (i : ℕ) (ls ls' : List Loop) → front (suc i) ls ≡ front (suc i) ls' → front i (drop1 ls) ≡ front i (drop1 ls')
top_dropped i [] [] q = refl
top_dropped i [] (x ∷ ls') q = absurd (empty_not i x ls' q)
top_dropped i (x ∷ ls) [] q = absurd (empty_not i x ls (sym q))
top_dropped i (x ∷ ls) (y ∷ ls') q = cc

top_pushed : (n i : ℕ) (x : Loop) (ls ls' : List Loop) → suc i ≤ n → front i ls ≡ front i ls' → front (suc i) (x ∷ ls) ≡ front (suc i) (front n (x ∷ ls'))
top_pushed n i x ls ls' g q = ap (λ z. x ∷ z) q ∙ sym (take-take (suc i) n (x ∷ ls') g)

-- the primitives
emit_alike : (i : ℕ) (x : Mark) → Alike i (emit x) (emit x)
unfolding emit
emit_alike i x s u (same_top m l ls ls' os Go e q) = same_top _ _ _ _ _ _ _ q
emit_alike i x s u (same_top m l ls ls' os (Cut k a b) e q) = same_top _ _ _ _ _ _ _ q
emit_alike i x s u (same_top m l ls ls' os (Refused y r) e q) = same_top _ _ _ _ _ _ _ q

halt_alike : (i : ℕ) (f : Flow) → Alike i (halt f) (halt f)
unfolding halt
halt_alike i f s u (same_top m l ls ls' os Go e q) = same_top _ _ _ _ _ _ _ q
halt_alike i f s u (same_top m l ls ls' os (Cut k a b) e q) = same_top _ _ _ _ _ _ _ q
halt_alike i f s u (same_top m l ls ls' os (Refused y r) e q) = same_top _ _ _ _ _ _ _ q

settle_alike : (i : ℕ) → Alike i settle settle
settle_alike i s u (same_top m l ls ls' os Go e q) = same_top _ _ _ _ _ _ _ q
settle_alike i s u (same_top m l ls ls' os (Cut k a b) e q) = same_top _ _ _ _ _ _ _ q
settle_alike i s u (same_top m l ls ls' os (Refused y r) e q) = same_top _ _ _ _ _ _ _ q

keeping_alike : (i : ℕ) (y : Keep) (v v' : State → State) → Alike i v v' → Alike i (keeping y v) (keeping y v')
unfolding kept
keeping_alike i pass v v' h s u c = h s u c
keeping_alike i keep v v' h s u (same_top m l ls ls' os Go e q) =
    settle_alike i (v (st m l ls os Go e)) (v' (st m l ls' os Go e)) (h _ _ (same_top m l ls ls' os Go e q))
keeping_alike i keep v v' h s u (same_top m l ls ls' os (Cut k a b) e q) = same_top _ _ _ _ _ _ _ q
keeping_alike i keep v v' h s u (same_top m l ls ls' os (Refused y r) e q) = same_top _ _ _ _ _ _ _ q

barred_alike : (i : ℕ) (w : Words) (d : Bool) → Alike i (barred w d) (barred w d)
unfolding barred
barred_alike i w true s u c = halt_alike i _ s u c
barred_alike i w false s u c = c

sought_alike : (i r : ℕ) (y : Use) (j : ℕ) (x : Access) → Alike i (sought r y j x) (sought r y j x)
sought_alike i r y j (local n) s u c = emit_alike i _ s u c
sought_alike i r y j (global n) s u c = emit_alike i _ s u c
sought_alike i r y j (upvalue n) s u c = emit_alike i _ s u c
sought_alike i r y j (missing x) s u c = halt_alike i _ s u c

-- a Break or Continue looks at the newest loop only
way_alike : (i r : ℕ) (w : Words) (x : Way) (us us' : List Loop) → 1 ≤ i → front i us ≡ front i us' → Alike i (way_out r w x us) (way_out r w x us')
way_alike zero r w x us us' p q s u c = absurd (omega arith)
way_alike (suc i) r w x [] [] p q s u c = halt_alike (suc i) _ s u c
way_alike (suc i) r w x [] (y ∷ us') p q s u c = absurd (empty_not i y us' q)
way_alike (suc i) r w x (y ∷ us) [] p q s u c = absurd (empty_not i y us (sym q))
way_alike (suc i) r w x (loop o a b ∷ us) (loop o' a' b' ∷ us') p q s u c =
    let z : loop o a b ≡ loop o' a' b' = cc in
    subst (λ (y : Loop). SameTop (suc i) (way_out r w x (loop o a b ∷ us) s) (way_out r w x (y ∷ us') u)) z (emit_alike (suc i) _ s u c)

-- a function's own stream begins with no open loop, and leaves those around it as they were
returned_alike : (i r : ℕ) (w : Words) (m : List Mark) (l : ℕ) (ls ls' os : List Loop) → front i ls ≡ front i ls' → (j : ℕ) (s u : State) → SameTop j s u
    → SameTop i (returned r w m l ls os s) (returned r w m l ls' os u)
returned_alike i r w m l ls ls' os q j s u (same_top m₁ l₁ ls₁ ls₂ os₁ f e c) = same_top _ _ _ _ _ _ _ q

entered_alike : (i : ℕ) (b : Bool) (r : ℕ) (w : Words) (v v' : State → State) (m : List Mark) (l : ℕ) (ls ls' os : List Loop) (e : Side) → front i ls ≡ front i ls' → Alike 1 v v'
    → SameTop i (entered b r w v m l ls os e) (entered b r w v' m l ls' os e)
entered_alike i true r w v v' m l ls ls' os e q h =
    returned_alike i r w m l ls ls' os q 1 (settle (v (anew e))) (settle (v' (anew e)))
    (settle_alike 1 (v (anew e)) (v' (anew e)) (h (anew e) (anew e) (same_top _ _ _ _ _ _ _ refl)))
entered_alike i false r w v v' m l ls ls' os e q h = same_top _ _ _ _ _ _ _ q

nested_alike : (i : ℕ) (b : Bool) (r : ℕ) (w : Words) (v v' : State → State) → Alike 1 v v' → Alike i (nested b r w v) (nested b r w v')
unfolding nested
nested_alike i false r w v v' h s u c = c
nested_alike i true r w v v' h s u (same_top m l ls ls' os Go e q) = entered_alike i (eqb w.p e.met) r w v v' m l ls ls' os e q h
nested_alike i true r w v v' h s u (same_top m l ls ls' os (Cut k a b) e q) = same_top _ _ _ _ _ _ _ q
nested_alike i true r w v v' h s u (same_top m l ls ls' os (Refused x y) e q) = same_top _ _ _ _ _ _ _ q

-- inside the record's own loop one more is the same
abbrev depth_in : Inside → ℕ → ℕ
depth_in outside i = i
depth_in (within c b) i = suc i

abbrev inside_of : Chk → Inside
inside_of (chk c pend done free lp) = lp

-- a: the record is a loop
abbrev depth_at : Bool → ℕ → ℕ
depth_at a i = cond a (suc i) i

same_depth : (a : Bool) (lp : Inside) (i : ℕ) → T (settled a lp) → depth_at a i ≡ depth_in lp i
same_depth true outside i t = absurd t
same_depth true (within c b) i t = refl
same_depth false outside i t = refl
same_depth false (within c b) i t = absurd t

depth_fewer : (lp : Inside) (i : ℕ) (s u : State) → SameTop (depth_in lp i) s u → SameTop i s u
depth_fewer outside i s u c = c
depth_fewer (within c b) i s u d = same_fewer i s u d

depth_some : (lp : Inside) (i : ℕ) → 1 ≤ i → 1 ≤ depth_in lp i
depth_some outside i p = p
depth_some (within c b) i p = omega arith

-- the labels' names do not depend on the mode or on the visits
same_named : (t : Lookup) (o o' : Mode) (fn : Words) (r : ℕ) (w : Words) (k : Forest) (vs vs' : Role → ℕ → State → State) (body body' : State → State)
    → (x : Step) (env : List ℕ) (l : ℕ) → named t o fn r w k vs body x env l ≡ named t o' fn r w k vs' body' x env l
same_named t o o' fn r w k vs vs' body body' (push_op c x) env l = refl
same_named t o o' fn r w k vs vs' body body' (push_const c p v) env l = refl
same_named t o o' fn r w k vs vs' body body' get_label env l = refl
same_named t o o' fn r w k vs vs' body body' (place i) env l = refl
same_named t o o' fn r w k vs vs' body body' (jump h i) env l = refl
same_named t o o' fn r w k vs vs' body body' (jump_back i) env l = refl
same_named t o o' fn r w k vs vs' body body' (visit y a j) env l = refl
same_named t o o' fn r w k vs vs' body body' (begin_loop i j) env l = refl
same_named t o o' fn r w k vs vs' body body' end_loop env l = refl
same_named t o o' fn r w k vs vs' body body' (exit x) env l = refl
same_named t o o' fn r w k vs vs' body body' check_return env l = refl
same_named t o o' fn r w k vs vs' body body' (access u p) env l = refl
same_named t o o' fn r w k vs vs' body body' (refuse x) env l = refl
same_named t o o' fn r w k vs vs' body body' inner env l = refl

-- one record: the newest i loops are the same around it, and there is room for its own; b: the functions inside are run too
module _ (sc : StackCode) (t : Lookup) (b : Bool) (n : ℕ) (fn : Words) (r : ℕ) (w : Words) (k : Forest) (vs vs' : Role → ℕ → State → State) (body body' : State →
    State) (a : Bool) (i : ℕ)
    (some : 1 ≤ i) (room : depth_at a i ≤ n) (sticky : (x : Role) (j : ℕ) → Sticky (vs x j)) (sticky' : (x : Role) (j : ℕ) → Sticky (vs' x j))
    (child-alike : (x : Role) (j : ℕ) → Alike (depth_at a i) (vs x j) (vs' x j)) (body_alike : Alike 1 body body') where
  child_in : (lp : Inside) → T (settled a lp) → (x : Role) (j : ℕ) → Alike (depth_in lp i) (vs x j) (vs' x j)
  child_in lp c x j = subst (λ (z : ℕ). Alike z (vs x j) (vs' x j)) (same_depth a lp i c) (child-alike x j)

  act_alike : (x : Step) (env : List ℕ) (m : List Mark) (l : ℕ) (ls ls' os : List Loop) (e : Side) (c : ℕ) (pend done free : List ℕ) (lp : Inside)
      → T (fits a (chk c pend done free lp) x) → front (depth_in lp i) ls ≡ front (depth_in lp i) ls'
      → SameTop (depth_in (inside_of (next (chk c pend done free lp) x)) i) (act t (every sc b) fn r w k vs body x env (st m l ls os Go e))
      (act t (newest sc b n) fn r w k vs' body' x env (st m l ls' os Go e))
  unfolding emit bump halt begin finish outward
  act_alike (push_op y x) env m l ls ls' os e c pend done free lp z q = same_top _ _ _ _ _ _ _ q
  act_alike (push_const y p v) env m l ls ls' os e c pend done free lp z q = same_top _ _ _ _ _ _ _ q
  act_alike get_label env m l ls ls' os e c pend done free lp z q = same_top _ _ _ _ _ _ _ q
  act_alike (place j) env m l ls ls' os e c pend done free lp z q = same_top _ _ _ _ _ _ _ q
  act_alike (jump h j) env m l ls ls' os e c pend done free lp z q = same_top _ _ _ _ _ _ _ q
  act_alike (jump_back j) env m l ls ls' os e c pend done free lp z q = same_top _ _ _ _ _ _ _ q
  act_alike (visit y x j) env m l ls ls' os e c pend done free lp z q =
      keeping_alike (depth_in lp i) y (vs x j) (vs' x j) (child_in lp (and_r (sound_at pend done lp) _ z) x j) _ _ (same_top m l ls ls' os Go e q)
  act_alike (begin_loop p j) env m l ls ls' os e c pend done free (within p' j') z q = absurd z
  act_alike (begin_loop p j) env m l ls ls' os e c pend done free outside z q =
      same_top _ _ _ _ _ _ _ (top_pushed n i (loop r (get_or env p 0) (get_or env j 0)) ls ls' (loop_room a (and_l a _ z) room) q)
    where
      loop_room : (a : Bool) → T a → depth_at a i ≤ n → suc i ≤ n
      loop_room true z h = h
      loop_room false z h = absurd z
  act_alike end_loop env m l ls ls' os e c pend done free outside z q = absurd z
  act_alike end_loop env m l ls ls' os e c pend done free (within p j) z q = same_top _ _ _ _ _ _ _ (top_dropped i ls ls' q)
  act_alike (exit x) env m l ls ls' os e c pend done free lp z q =
      way_alike (depth_in lp i) r w x ls ls' (depth_some lp i some) q _ _ (same_top m l ls ls' os Go e q)
  act_alike check_return env m l ls ls' os e c pend done free lp z q = barred_alike (depth_in lp i) w (is_do fn) _ _ (same_top m l ls ls' os Go e q)
  act_alike (access u p) env m l ls ls' os e c pend done free lp z q =
      sought_alike (depth_in lp i) r u (number_of (spot_at (tree r w k none) p)) (t fn u (spot_at (tree r w k none) p)) _ _ (same_top m l ls ls' os Go e q)
  act_alike (refuse x) env m l ls ls' os e c pend done free lp z q = same_top _ _ _ _ _ _ _ q
  act_alike inner env m l ls ls' os e c pend done free lp z q = nested_alike (depth_in lp i) b r w body body' body_alike _ _ (same_top m l ls ls' os Go e q)

  -- where the run does not go on, nothing is opened or left
  ended_alike : (is : List Step) (env : List ℕ) (lp : Inside) (s u : State) → Ended (flow s) → Ended (flow u) → SameTop (depth_in lp i) s u
      → SameTop i (exec t (every sc b) fn r w k vs body is env s) (exec t (newest sc b n) fn r w k vs' body' is env u)
  ended_alike is env lp s u h h' c =
      subst (λ (z : State). SameTop i z (exec t (newest sc b n) fn r w k vs' body' is env u)) (sym (exec_sticky t (every sc b) fn r w k vs body sticky is env s h))
      (subst (λ (z : State). SameTop i s z) (sym (exec_sticky t (newest sc b n) fn r w k vs' body' sticky' is env u h')) (depth_fewer lp i s u c))

  exec_alike : (is : List Step) (env : List ℕ) (s u : State) (d : Chk) → T (ok a d is) → SameTop (depth_in (inside_of d) i) s u
      → SameTop i (exec t (every sc b) fn r w k vs body is env s) (exec t (newest sc b n) fn r w k vs' body' is env u)
  unfolding exec ok
  exec_alike [] env s u d z c = depth_fewer (inside_of d) i s u c
  exec_alike (x ∷ is) env s u (chk c pend done free lp) z (same_top m l ls ls' os Go e q) =
      let d = chk c pend done free lp in
      let env' = named t (every sc b) fn r w k vs body x env l in
      let s' = act t (every sc b) fn r w k vs body x env (st m l ls os Go e) in
      let u' = act t (newest sc b n) fn r w k vs' body' x env (st m l ls' os Go e) in
      subst (λ (y : List ℕ). SameTop i (exec t (every sc b) fn r w k vs body is env' s') (exec t (newest sc b n) fn r w k vs' body' is y u'))
      (same_named t (every sc b) (newest sc b n) fn r w k vs vs' body body' x env l)
      (exec_alike is env' s' u' (next d x) (and_r (fits a d x) _ z) (act_alike x env m l ls ls' os e c pend done free lp (and_l (fits a d x) _ z) q))
  exec_alike (x ∷ is) env s u (chk c pend done free lp) z (same_top m l ls ls' os (Cut y p v) e q) =
      ended_alike (x ∷ is) env lp (st m l ls os (Cut y p v) e) (st m l ls' os (Cut y p v) e) tt tt (same_top _ _ _ _ _ _ _ q)
  exec_alike (x ∷ is) env s u (chk c pend done free lp) z (same_top m l ls ls' os (Refused y p) e q) =
      ended_alike (x ∷ is) env lp (st m l ls os (Refused y p) e) (st m l ls' os (Refused y p) e) tt tt (same_top _ _ _ _ _ _ _ q)

  pub steps_alike : (is : List Step) → Pass a is → Alike i (exec t (every sc b) fn r w k vs body is []) (exec t (newest sc b n) fn r w k vs' body' is [])
  steps_alike is z s u c = exec_alike is [] s u begun z c

module _ (sc : StackCode) (t : Lookup) (b : Bool) (n : ℕ) where
  -- as many levels below as there is room for
  abbrev Fit : ℕ → Words → Forest → Type 0
  Fit r w k = (i : ℕ) → 1 ≤ i → i + suc (levels k) ≤ n → (a : Role) (fn : Words) → Alike i (visit_of t (every sc b) r w k a fn) (visit_of t (newest sc b n) r w k a fn)

  children_fit : (k : Forest) → Each Fit k → (i : ℕ) → 1 ≤ i → i + levels k ≤ n → (fn : Words) (a : Role) (j : ℕ)
      → Alike i (child_visit (visits_of t (every sc b) k) fn a j) (child_visit (visits_of t (newest sc b n) k) fn a j)
  children_fit none h i p g fn a j = λ s u c. c
  children_fit (tree r w k s) (h, hs) i p g fn a zero = h i p (omega arith) a fn
  children_fit (tree r w k s) (h, hs) i p g fn a (suc j) = children_fit s hs i p (omega arith) fn a j

  stream_fit : (r : ℕ) (w : Words) (k : Forest) → Each Fit k → 1 + levels k ≤ n
      → Alike 1 (stream t (every sc b) r w k (visits_of t (every sc b) k)) (stream t (newest sc b n) r w k (visits_of t (newest sc b n) k))
  unfolding stream
  stream_fit r w k h g =
      steps_alike sc t b n w r w k (child_visit (visits_of t (every sc b) k) w) (child_visit (visits_of t (newest sc b n) k) w) idle idle false 1 (omega arith) (omega arith)
      (visits_sticky t (every sc b) k w) (visits_sticky t (newest sc b n) k w) (children_fit k h 1 (omega arith) g w) (λ s u c. c) (stream_steps w) (stream_ok w)

  room_below : (a : Bool) (i d : ℕ) → i + suc d ≤ n → depth_at a i + d ≤ n
  room_below true i d g = omega arith
  room_below false i d g = omega arith

  level_some : (a : Bool) (i : ℕ) → 1 ≤ i → 1 ≤ depth_at a i
  level_some true i p = omega arith
  level_some false i p = p

  fit_step : (r : ℕ) (w : Words) (k : Forest) → Each Fit k → Fit r w k
  fit_step r w k h i p g a fn =
      let c = room_below (is_loop w) i (levels k) g in
      steps_alike sc t b n fn r w k (child_visit (visits_of t (every sc b) k) fn) (child_visit (visits_of t (newest sc b n) k) fn) (stream t (every sc b) r w k
      (visits_of t (every sc b) k))
      (stream t (newest sc b n) r w k (visits_of t (newest sc b n) k)) (is_loop w) i p (omega (arith, c)) (visits_sticky t (every sc b) k fn) (visits_sticky t (newest
      sc b n) k fn)
      (children_fit k h (depth_at (is_loop w) i) (level_some (is_loop w) i p) c fn) (stream_fit r w k h (omega arith)) (steps sc a w (own_tree k)) (steps_ok sc a w (own_tree k))

  -- a record's visit, with room for the newest i loops around it and one for each level below
  pub visit_enough : (r : ℕ) (w : Words) (k : Forest) (i : ℕ) → 1 ≤ i → i + suc (levels k) ≤ n → (a : Role) (fn : Words)
      → Alike i (visit_of t (every sc b) r w k a fn) (visit_of t (newest sc b n) r w k a fn)
  visit_enough r w k = fit_step r w k (each Fit fit_step k)

  -- a function's own stream
  pub stream_enough : (r : ℕ) (w : Words) (k : Forest) → levels (tree r w k none) ≤ n
      → Alike 1 (stream t (every sc b) r w k (visits_of t (every sc b) k)) (stream t (newest sc b n) r w k (visits_of t (newest sc b n) k))
  stream_enough r w k g = stream_fit r w k (each Fit fit_step k) (omega arith)

-- the open loops apart, all is the same
pub same_parts : (i : ℕ) (s u : State) → SameTop i s u
    → (marks s ≡ marks u) × (labels s ≡ labels u) × (opened s ≡ opened u) × (flow s ≡ flow u) × (side s ≡ side u)
same_parts i s u (same_top m l ls ls' os f e q) = (refl, refl, refl, refl, refl)

returned_same : (r : ℕ) (w : Words) (m : List Mark) (l : ℕ) (ls os : List Loop) (i : ℕ) (s u : State) → SameTop i s u → returned r w m l ls os s ≡ returned r w m l ls os u
returned_same r w m l ls os i s u (same_top m₁ l₁ ls₁ ls₂ os₁ f e q) = refl

entered_same : (b : Bool) (r : ℕ) (w : Words) (v v' : State → State) → Alike 1 v v' → (m : List Mark) (l : ℕ) (ls os : List Loop) (e : Side)
    → entered b r w v m l ls os e ≡ entered b r w v' m l ls os e
entered_same true r w v v' h m l ls os e =
    returned_same r w m l ls os 1 (settle (v (anew e))) (settle (v' (anew e)))
    (settle_alike 1 (v (anew e)) (v' (anew e)) (h (anew e) (anew e) (same_top _ _ _ _ _ _ _ refl)))
entered_same false r w v v' h m l ls os e = refl

nested_same : (b : Bool) (r : ℕ) (w : Words) (v v' : State → State) → Alike 1 v v' → (s : State) → nested b r w v s ≡ nested b r w v' s
unfolding nested
nested_same false r w v v' h s = refl
nested_same true r w v v' h (st m l ls os Go e) = entered_same (eqb w.p e.met) r w v v' h m l ls os e
nested_same true r w v v' h (st m l ls os (Cut k a b) e) = refl
nested_same true r w v v' h (st m l ls os (Refused x q) e) = refl

-- a function with at most n levels, run where it stands: the whole state is the same, from any state
pub function_enough : (sc : StackCode) (t : Lookup) (b : Bool) (n r : ℕ) (w : Words) (k : Forest) → levels (tree r w k none) ≤ n → (s : State)
    → function_run t (newest sc b n) r w k s ≡ function_run t (every sc b) r w k s
function_enough sc t b n r w k g s = sym (nested_same true r w _ _ (stream_enough sc t b n r w k g) s)

-- a tree of at most n levels: the run that keeps the newest n open loops is the run that keeps all
pub run_enough : (sc : StackCode) (t : Lookup) (recs : List ℕ) (n : ℕ) → levels (root recs) ≤ n → function_run t (newest sc true n) 0 (words recs 0) (children recs 0)
    nothing ≡ run sc t recs
unfolding run
run_enough sc t recs n g = function_enough sc t true n 0 (words recs 0) (children recs 0) g nothing

-- and so is a function walked alone, but for the loops still open
pub alone_top : (sc : StackCode) (t : Lookup) (n r : ℕ) (w : Words) (k : Forest) → levels (tree r w k none) ≤ n → SameTop 1 (alone t (every sc false) r w k) (alone t
    (newest sc false n) r w k)
unfolding alone
alone_top sc t n r w k g = stream_enough sc t false n r w k g _ _ (same_top _ _ _ _ _ _ _ refl)

pub alone_enough : (sc : StackCode) (t : Lookup) (n r : ℕ) (w : Words) (k : Forest) → levels (tree r w k none) ≤ n
    → (marks (alone t (every sc false) r w k) ≡ marks (alone t (newest sc false n) r w k)) × (labels (alone t (every sc false) r w k) ≡ labels (alone t (newest sc
    false n) r w k))
    × (opened (alone t (every sc false) r w k) ≡ opened (alone t (newest sc false n) r w k)) × (flow (alone t (every sc false) r w k) ≡ flow (alone t (newest sc false n) r w k))
    × (side (alone t (every sc false) r w k) ≡ side (alone t (newest sc false n) r w k))
alone_enough sc t n r w k g = same_parts 1 (alone t (every sc false) r w k) (alone t (newest sc false n) r w k) (alone_top sc t n r w k g)

-- each finished stream of the run is that of its function walked alone with the newest n open loops kept
pub run_alone_enough : (sc : StackCode) (t : Lookup) (recs : List ℕ) (n : ℕ) → levels (root recs) ≤ n → Runs (flow (run sc t recs)) → Every (Is-alone sc t (front n)
    recs) (streams (run sc t recs))
run_alone_enough sc t recs n g c =
    let e = run_enough sc t recs n g in
    subst (λ (s : State). Every (Is-alone sc t (front n) recs) (streams s)) e (run_alone sc t (front n) recs (subst (λ (s : State). Runs (flow s)) (sym e) c))
