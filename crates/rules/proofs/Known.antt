-- Every Function constant is the number of a function that the run has met. Assumes nothing.
use mathlib.Core.Path.{◌≡◌, refl, sym, subst}
use mathlib.Core.Bool.{Bool, true, false, cond, ◌&&◌}
use mathlib.Core.List.{List, [], ◌∷◌}
use Prim.Native.Nat.{ℕ, suc, ◌≤◌, ◌<◌}
use native.Mathlib.Omega.{arith}
use native.Mathlib.Decide.{ℕ_discrete}
use lib.ListN.{get_or}
use lib.Dec.{T, eqb, eqb→eq, T_not}
use Rattle.tables.specs.Record.{Words, words, is_do}
use Rattle.tables.specs.Forest.{Forest, none, tree, children, own_tree}
use Rattle.tables.proofs.ForestLaws.{and_l, and_r, Each, each, each_at}
use Rattle.pool.specs.Names.{Access, local, global, upvalue, missing}
use Rattle.pool.specs.Value.{Value, plain, effect, function}
use Rattle.rules.specs.declared.StackCode.{StackCode}
use Rattle.rules.specs.Marker.{Way, Pop, Call, LoadUpvalue, LoadLocals, Return, LoadConst, Label, To, Back, Leave, Load, Do, Mark, mark}
use Rattle.rules.specs.Step.{Role, pass, keep, Use, Step, push_op, push_const, get_label, place, jump, jump_back, visit, begin_loop, end_loop, exit, check_return}
use Rattle.rules.specs.Step.{access, refuse, inner, expr, load}
use Rattle.rules.specs.Arms.{stream_steps}
use Rattle.rules.specs.Kinds.{steps}
use Rattle.rules.specs.Run.{Lookup, Loop, loop, way_kind, label_of, local_code, global_code, Stream, Side, State, st, marks, labels, loops, flow, side, emit, bump}
use Rattle.rules.specs.Run.{halt, begin, finish, way_out, outward, barred, sought, settle, kept, anew, returned, entered, nested, idle, full, act, named, exec}
use Rattle.rules.specs.Run.{Visit, absent, child_visit, stream, visit_alg, visits_of, nothing, run, spot_at, number_of}
use Rattle.rules.specs.declared.Flow.{Flow}
use Rattle.rules.specs.declared.error.ErrorKind.TheVariants.{ReturnOutsideFunction}
use Rattle.rules.specs.declared.Flow.TheVariants.{Go, Cut, Refused}
use Rattle.rules.proofs.StepsOk.{function_only}
use Rattle.rules.proofs.Tame.{no_function, no_name, pure}
use Rattle.rules.proofs.Pure.{steps_pure}
use Rattle.rules.proofs.Visits.{visit_of}
use Rattle.rules.proofs.Numbers.{Every}

-- a value that, if it is a Function, is one of the first n
abbrev pub Known : ℕ → Value → Type 0
Known n (plain k p q) = T (eqb k 6) → p < n
Known n (effect f ps v) = Unit {0}

abbrev pub KnownMark : ℕ → Mark → Type 0
KnownMark n (mark r (Label l)) = Unit {0}
KnownMark n (mark r (To h l)) = Unit {0}
KnownMark n (mark r (Back l)) = Unit {0}
KnownMark n (mark r (Leave x l)) = Unit {0}
KnownMark n (mark r (Load c v)) = Known n v
KnownMark n (mark r (Do c x)) = Unit {0}

abbrev pub AllKnown : ℕ → List Mark → Type 0
AllKnown n [] = Unit {0}
AllKnown n (m ∷ ms) = KnownMark n m × AllKnown n ms

known_more : (n m : ℕ) → n ≤ m → (v : Value) → Known n v → Known m v
known_more n m h (plain k p q) f = λ t. let g = f t in omega arith
known_more n m h (effect f ps v) k = tt

mark_more : (n m : ℕ) → n ≤ m → (x : Mark) → KnownMark n x → KnownMark m x
mark_more n m h (mark r (Label l)) k = tt
mark_more n m h (mark r (To x l)) k = tt
mark_more n m h (mark r (Back l)) k = tt
mark_more n m h (mark r (Leave x l)) k = tt
mark_more n m h (mark r (Load c v)) k = known_more n m h v k
mark_more n m h (mark r (Do c x)) k = tt

all_more : (n m : ℕ) → n ≤ m → (ms : List Mark) → AllKnown n ms → AllKnown m ms
all_more n m h [] k = tt
all_more n m h (x ∷ ms) (k, ks) = (mark_more n m h x k, all_more n m h ms ks)

streams_more : (n m : ℕ) → n ≤ m → (xs : List Stream) → Every (λ x. AllKnown n x.marks) xs → Every (λ x. AllKnown m x.marks) xs
streams_more n m h [] k = tt
streams_more n m h (x ∷ xs) (k, ks) = (all_more n m h x.marks k, streams_more n m h xs ks)

no_known : (n : ℕ) (v : Value) → T (no_function v) → Known n v
no_known n (plain k p q) t = λ u. absurd (T_not (eqb k 6) t u)
no_known n (effect f ps v) t = tt

-- of a state: the markers of the current stream and of all that are finished
pub record Holds (s : State) : Type 0 where
  pub current : AllKnown (side s).met (marks s)
  pub done : Every (λ x. AllKnown (side s).met x.marks) (side s).streams

-- and the functions met are no fewer after
pub record Keeps (v : State → State) : Type 0 where
  pub holds : (s : State) → Holds s → Holds (v s)
  pub more : (s : State) → (side s).met ≤ (side (v s)).met

same_holds : (s s' : State) → marks s' ≡ marks s → (side s').met ≡ (side s).met → (side s').streams ≡ (side s).streams → Holds s → Holds s'
same_holds s s' a b c h =
    record {
      current = subst (λ (n : ℕ). AllKnown n (marks s')) (sym b) (subst (λ (m : List Mark). AllKnown (side s).met m) (sym a) h.current);
      done = subst (λ (n : ℕ). Every (λ x. AllKnown n x.marks) (side s').streams) (sym b)
          (subst (λ (xs : List Stream). Every (λ x. AllKnown (side s).met x.marks) xs) (sym c) h.done);
    }

-- a step that writes no constant
emit_holds : (x : Mark) (s : State) → (flow s ≡ Go → KnownMark (side s).met x) → Holds s → Holds (emit x s)
unfolding emit
emit_holds x (st m l ls os Go e) k h = record { current = (k refl, h.current); done = h.done }
emit_holds x (st m l ls os (Cut y a b) e) k h = h
emit_holds x (st m l ls os (Refused y q) e) k h = h

emit_more : (x : Mark) (s : State) → (side s).met ≤ (side (emit x s)).met
unfolding emit
emit_more x (st m l ls os Go e) = omega arith
emit_more x (st m l ls os (Cut y a b) e) = omega arith
emit_more x (st m l ls os (Refused y q) e) = omega arith

emit_keeps : (x : Mark) → ((n : ℕ) → KnownMark n x) → Keeps (emit x)
emit_keeps x k = record { holds = λ s h. emit_holds x s (λ e. k (side s).met) h; more = emit_more x }

-- a step that changes neither markers, nor streams, nor the functions met
abbrev Still : (State → State) → Type 0
Still v = (s : State) → (marks (v s) ≡ marks s) × ((side (v s)).met ≡ (side s).met) × ((side (v s)).streams ≡ (side s).streams)

still_keeps : (v : State → State) → Still v → Keeps v
still_keeps v k = record { holds = λ s h. same_holds s (v s) (k s).0 (k s).1 (k s).2 h; more = λ s. let e = (k s).1 in omega arith }

halt_still : (f : Flow) → Still (halt f)
unfolding halt
halt_still f (st m l ls os Go e) = (refl, refl, refl)
halt_still f (st m l ls os (Cut y a b) e) = (refl, refl, refl)
halt_still f (st m l ls os (Refused y q) e) = (refl, refl, refl)

bump_still : Still bump
unfolding bump
bump_still (st m l ls os Go e) = (refl, refl, refl)
bump_still (st m l ls os (Cut y a b) e) = (refl, refl, refl)
bump_still (st m l ls os (Refused y q) e) = (refl, refl, refl)

begin_still : (trim : List Loop → List Loop) (x : Loop) → Still (begin trim x)
unfolding begin
begin_still trim x (st m l ls os Go e) = (refl, refl, refl)
begin_still trim x (st m l ls os (Cut y a b) e) = (refl, refl, refl)
begin_still trim x (st m l ls os (Refused y q) e) = (refl, refl, refl)

finish_still : Still finish
unfolding finish
finish_still (st m l ls os Go e) = (refl, refl, refl)
finish_still (st m l ls os (Cut y a b) e) = (refl, refl, refl)
finish_still (st m l ls os (Refused y q) e) = (refl, refl, refl)

settle_still : Still settle
settle_still (st m l ls os Go e) = (refl, refl, refl)
settle_still (st m l ls os (Cut y a b) e) = (refl, refl, refl)
settle_still (st m l ls os (Refused y q) e) = (refl, refl, refl)

-- one after the other
then_keeps : (v v' : State → State) → Keeps v → Keeps v' → Keeps (λ s. v' (v s))
then_keeps v v' k k' = record { holds = λ s h. k'.holds (v s) (k.holds s h); more = λ s. omega (arith, k.more s, k'.more (v s)) }

way_holds : (r : ℕ) (w : Words) (x : Way) (us : List Loop) → Keeps (way_out r w x us)
way_holds r w x [] = still_keeps (halt (Cut (way_kind x) w.start w.end)) (halt_still (Cut (way_kind x) w.start w.end))
way_holds r w x (loop o c b ∷ us) = emit_keeps (mark r (Leave x (label_of x c b))) (λ n. tt)

out_keeps : (r : ℕ) (w : Words) (x : Way) → Keeps (outward r w x)
unfolding outward
out_keeps r w x = record { holds = λ s h. (way_holds r w x (loops s)).holds s h; more = λ s. (way_holds r w x (loops s)).more s }

barred_keeps : (w : Words) (d : Bool) → Keeps (barred w d)
unfolding barred
barred_keeps w true = still_keeps (halt (Cut ReturnOutsideFunction w.start w.end)) (halt_still (Cut ReturnOutsideFunction w.start w.end))
barred_keeps w false = record { holds = λ s h. h; more = λ s. omega arith }

sought_keeps : (r : ℕ) (u : Use) (i : ℕ) (x : Access) → Keeps (sought r u i x)
sought_keeps r u i (local n) = emit_keeps (mark r (Do (local_code u) n)) (λ n. tt)
sought_keeps r u i (global n) = emit_keeps (mark r (Do (global_code u) n)) (λ n. tt)
sought_keeps r u i (upvalue n) = emit_keeps (mark r (Do LoadUpvalue n)) (λ n. tt)
sought_keeps r u i (missing x) = still_keeps (halt (Refused x i)) (halt_still (Refused x i))

kept_keeps : (v : State → State) → Keeps v → Keeps (kept v)
unfolding kept
kept_keeps v k = record { holds = holds; more = more }
  where
    step : Keeps (λ s. settle (v s))
    step = then_keeps v settle k (still_keeps settle settle_still)

    holds : (s : State) → Holds s → Holds (kept v s)
    holds (st m l ls os Go e) h = step.holds (st m l ls os Go e) h
    holds (st m l ls os (Cut y a b) e) h = h
    holds (st m l ls os (Refused y q) e) h = h

    more : (s : State) → (side s).met ≤ (side (kept v s)).met
    more (st m l ls os Go e) = step.more (st m l ls os Go e)
    more (st m l ls os (Cut y a b) e) = omega arith
    more (st m l ls os (Refused y q) e) = omega arith

-- a function inside: the current stream waits, and the functions met are more by one at least
returned_holds : (r : ℕ) (w : Words) (m : List Mark) (l : ℕ) (ls os : List Loop) (n : ℕ) (u : State) → n ≤ (side u).met → AllKnown n m → Holds u → Holds (returned r w m l ls os u)
returned_holds r w m l ls os n (st m' l' ls' os' f e) g k h = record { current = all_more n e.met g m k; done = (h.current, h.done) }

returned_met : (r : ℕ) (w : Words) (m : List Mark) (l : ℕ) (ls os : List Loop) (u : State) → (side (returned r w m l ls os u)).met ≡ (side u).met
returned_met r w m l ls os (st m' l' ls' os' f e) = refl

anew_holds : (e : Side) → Every (λ x. AllKnown e.met x.marks) e.streams → Holds (anew e)
anew_holds e h = record { current = tt; done = streams_more e.met (suc e.met) (omega arith) e.streams h }

module _ (r : ℕ) (w : Words) (v : State → State) (k : Keeps v) where
  settled : Keeps (λ s. settle (v s))
  settled = then_keeps v settle k (still_keeps settle settle_still)

  entered_holds : (b : Bool) (m : List Mark) (l : ℕ) (ls os : List Loop) (e : Side) → Holds (st m l ls os Go e) → Holds (entered b r w v m l ls os e)
  entered_holds true m l ls os e h =
      returned_holds r w m l ls os e.met (settle (v (anew e))) (omega (arith, settled.more (anew e))) h.current (settled.holds (anew e) (anew_holds e h.done))
  entered_holds false m l ls os e h = same_holds (st m l ls os Go e) (entered false r w v m l ls os e) refl refl refl h

  entered_more : (b : Bool) (m : List Mark) (l : ℕ) (ls os : List Loop) (e : Side) → e.met ≤ (side (entered b r w v m l ls os e)).met
  entered_more true m l ls os e = omega (arith, settled.more (anew e), returned_met r w m l ls os (settle (v (anew e))))
  entered_more false m l ls os e = omega arith

  -- where the run goes on after it, the function has been met
  entered_known : (b : Bool) (m : List Mark) (l : ℕ) (ls os : List Loop) (e : Side) → eqb w.p e.met ≡ b → flow (entered b r w v m l ls os e) ≡ Go
      → w.p < (side (entered b r w v m l ls os e)).met
  entered_known true m l ls os e q g =
      omega (arith, eqb→eq w.p e.met (subst T (sym q) tt), settled.more (anew e), returned_met r w m l ls os (settle (v (anew e))))
  entered_known false m l ls os e q g = absurd (let z : ◌≡◌ {A = ℕ} 0 1 = cc in omega arith)

  nested_keeps : Keeps (nested true r w v)
  unfolding nested
  nested_keeps = record { holds = holds; more = more }
    where
      holds : (s : State) → Holds s → Holds (nested true r w v s)
      holds (st m l ls os Go e) h = entered_holds (eqb w.p e.met) m l ls os e h
      holds (st m l ls os (Cut y a b) e) h = h
      holds (st m l ls os (Refused y q) e) h = h

      more : (s : State) → (side s).met ≤ (side (nested true r w v s)).met
      more (st m l ls os Go e) = entered_more (eqb w.p e.met) m l ls os e
      more (st m l ls os (Cut y a b) e) = omega arith
      more (st m l ls os (Refused y q) e) = omega arith

  nested_known : (s : State) → flow (nested true r w v s) ≡ Go → w.p < (side (nested true r w v s)).met
  unfolding nested
  nested_known (st m l ls os Go e) g = entered_known (eqb w.p e.met) m l ls os e refl g
  nested_known (st m l ls os (Cut y a b) e) g = absurd (let z : ◌≡◌ {A = ℕ} 0 1 = cc in omega arith)
  nested_known (st m l ls os (Refused y q) e) g = absurd (let z : ◌≡◌ {A = ℕ} 0 1 = cc in omega arith)

  -- a Function's steps: its stream, then its constant, then a Do's call
  function_keeps : Keeps (λ s. emit (mark r (Load LoadConst (function w.p))) (nested true r w v s))
  function_keeps =
      record {
        holds = λ s h. emit_holds (mark r (Load LoadConst (function w.p))) (nested true r w v s) (λ e u. nested_known s e) (nested_keeps.holds s h);
        more = λ s. omega (arith, nested_keeps.more s, emit_more (mark r (Load LoadConst (function w.p))) (nested true r w v s));
      }

and_one : (b : Bool) → T b → T (b && true)
and_one true u = tt
and_one false u = u

module _ (sc : StackCode) (t : Lookup) (fn : Words) (r : ℕ) (w : Words) (k : Forest) (vs : Role → ℕ → State → State) (body : State → State) (keeps : (a : Role) (j : ℕ)
    → Keeps (vs a j))
    (inside : Keeps body) where
  act_keeps : (x : Step) (env : List ℕ) → T (pure (x ∷ [])) → Keeps (act t (full sc) fn r w k vs body x env)
  unfolding pure
  act_keeps (push_op c x) env q = emit_keeps (mark r (Do c x)) (λ n. tt)
  act_keeps (push_const c p v) env q =
      emit_keeps (mark (number_of (spot_at (tree r w k none) p)) (Load c v)) (λ n. no_known n v (and_l (no_function v) true q))
  act_keeps get_label env q = still_keeps bump bump_still
  act_keeps (place i) env q = emit_keeps (mark r (Label (get_or env i 0))) (λ n. tt)
  act_keeps (jump h i) env q = emit_keeps (mark r (To h (get_or env i 0))) (λ n. tt)
  act_keeps (jump_back i) env q = emit_keeps (mark r (Back (get_or env i 0))) (λ n. tt)
  act_keeps (visit pass a j) env q = keeps a j
  act_keeps (visit keep a j) env q = kept_keeps (vs a j) (keeps a j)
  act_keeps (begin_loop i j) env q = let x = loop r (get_or env i 0) (get_or env j 0) in still_keeps (begin (λ ls. ls) x) (begin_still (λ ls. ls) x)
  act_keeps end_loop env q = still_keeps finish finish_still
  act_keeps (exit x) env q = out_keeps r w x
  act_keeps check_return env q = barred_keeps w (is_do fn)
  act_keeps (access u p) env q = sought_keeps r u (number_of (spot_at (tree r w k none) p)) (t fn u (spot_at (tree r w k none) p))
  act_keeps (refuse x) env q = still_keeps (halt (Refused x r)) (halt_still (Refused x r))
  act_keeps inner env q = absurd q

  -- the first step of a list, and the others
  first_pure : (x : Step) (is : List Step) → T (pure (x ∷ is)) → T (pure (x ∷ [])) × T (pure is)
  unfolding pure
  first_pure (push_op c x) is q = (and_one (no_name c) (and_l (no_name c) (pure is) q), and_r (no_name c) (pure is) q)
  first_pure (push_const c p v) is q = (and_one (no_function v) (and_l (no_function v) (pure is) q), and_r (no_function v) (pure is) q)
  first_pure get_label is q = (tt, q)
  first_pure (place i) is q = (tt, q)
  first_pure (jump h i) is q = (tt, q)
  first_pure (jump_back i) is q = (tt, q)
  first_pure (visit y a j) is q = (tt, q)
  first_pure (begin_loop i j) is q = (tt, q)
  first_pure end_loop is q = (tt, q)
  first_pure (exit x) is q = (tt, q)
  first_pure check_return is q = (tt, q)
  first_pure (access u p) is q = (tt, q)
  first_pure (refuse x) is q = (tt, q)
  first_pure inner is q = absurd q

  exec_keeps : (is : List Step) (env : List ℕ) → T (pure is) → Keeps (exec t (full sc) fn r w k vs body is env)
  unfolding exec
  exec_keeps [] env q = record { holds = λ s h. h; more = λ s. omega arith }
  exec_keeps (x ∷ is) env q =
      let p = first_pure x is q in
      let go : (s : State) → Keeps (exec t (full sc) fn r w k vs body is (named t (full sc) fn r w k vs body x env (labels s))) = λ s. exec_keeps is _ p.1 in
      let a = act_keeps x env p.0 in
      record {
        holds = λ s h. (go s).holds (act t (full sc) fn r w k vs body x env s) (a.holds s h);
        more = λ s. omega (arith, a.more s, (go s).more (act t (full sc) fn r w k vs body x env s));
      }

module _ (sc : StackCode) (t : Lookup) where
  abbrev Keeps-all : Visit → Type 0
  Keeps-all v = (a : Role) (fn : Words) → Keeps (v a fn)

  children_keep : (k : Forest) → Each (λ r w k. Keeps-all (visit_of t (full sc) r w k)) k → (fn : Words) (a : Role) (j : ℕ) → Keeps (child_visit (visits_of t (full sc) k) fn a j)
  children_keep k h fn a j =
      each_at (visit_alg t (full sc)) (visit_alg t (full sc)) (λ x y. Keeps-all x) absent absent (λ a fn. record { holds = λ s h. h; more = λ s. omega arith }) k h j a fn

  stream_keep : (r : ℕ) (w : Words) (k : Forest) → Each (λ r w k. Keeps-all (visit_of t (full sc) r w k)) k → Keeps (stream t (full sc) r w k (visits_of t (full sc) k))
  unfolding stream pure
  stream_keep r w k h =
      exec_keeps sc t w r w k (child_visit (visits_of t (full sc) k) w) idle (children_keep k h w) (record { holds = λ s h. h; more = λ s. omega arith }) (stream_steps
      w) [] (go (is_do w))
    where
      go : (d : Bool) → T (pure (cond d (expr 0 ∷ expr 1 ∷ push_op Pop 0 ∷ push_op LoadLocals 0 ∷ push_op Return 0 ∷ []) (expr 0 ∷ expr 1 ∷ push_op Return 0 ∷ [])))
      go true = tt
      go false = tt

  -- a Function, and any other record
  visit_keep : (r : ℕ) (w : Words) (k : Forest) → Each (λ r w k. Keeps-all (visit_of t (full sc) r w k)) k → Keeps-all (visit_of t (full sc) r w k)
  unfolding exec
  visit_keep r w k h a fn = go (ℕ_discrete w.kind 30)
    where
      vs : Role → ℕ → State → State
      vs = child_visit (visits_of t (full sc) k) fn

      body : State → State
      body = stream t (full sc) r w k (visits_of t (full sc) k)

      own : (d : Bool) → Keeps (exec t (full sc) fn r w k vs body (cond d (inner ∷ load (function w.p) ∷ push_op Call 0 ∷ []) (inner ∷ load (function w.p) ∷ [])) [])
      own true = then_keeps _ (emit (mark r (Do Call 0))) (function_keeps r w body (stream_keep r w k h)) (emit_keeps (mark r (Do Call 0)) (λ n. tt))
      own false = function_keeps r w body (stream_keep r w k h)

      go : Dec (w.kind ≡ 30) → Keeps (exec t (full sc) fn r w k vs body (steps sc a w (own_tree k)) [])
      go (yes e) = function_only (λ is. Keeps (exec t (full sc) fn r w k vs body is [])) sc a w (own_tree k) e (record { holds = λ s h. h; more = λ s. omega arith })
          (own (is_do w))
      go (no ne) = exec_keeps sc t fn r w k vs body (children_keep k h fn) (stream_keep r w k h) (steps sc a w (own_tree k)) [] (steps_pure sc a w (own_tree k) ne)

  -- every Function constant of every stream is the number of a function met
  pub run_known : (recs : List ℕ) → Every (λ x. AllKnown (side (run sc t recs)).met x.marks) (side (run sc t recs)).streams
  unfolding run
  run_known recs =
      let w = words recs 0 in
      let k = children recs 0 in
      ((nested_keeps 0 w (stream t (full sc) 0 w k (visits_of t (full sc) k)) (stream_keep 0 w k (each (λ r w k. Keeps-all (visit_of t (full sc) r w k)) visit_keep k))
      ).holds nothing
      (record { current = tt; done = tt })).done
