-- What a run writes, takes, names, keeps and meets is at most the weight of its steps, cut short or not. Assumes nothing.
use mathlib.Core.Bool.{Bool, true, false, cond}
use mathlib.Core.List.{List, [], ◌∷◌}
use Prim.Native.Nat.{ℕ, zero, suc, ◌+◌, ◌≤◌}
use native.Mathlib.Omega.{arith}
use lib.ListN.{get_or, length}
use lib.Dec.{eqb}
use Rattle.tables.specs.Record.{Words, is_do}
use Rattle.tables.specs.Forest.{Forest, none, tree, fold, fold1, own_tree}
use Rattle.tables.proofs.ForestLaws.{Each, each, each_at}
use Rattle.pool.specs.Value.{Value, Null, same}
use Rattle.pool.specs.Names.{Access, local, global, upvalue, missing}
use Rattle.rules.specs.declared.StackCode.{StackCode}
use Rattle.rules.specs.Marker.{Way, LoadUpvalue, Op, Label, To, Back, Leave, Load, Do, Mark, mark}
use Rattle.rules.specs.Step.{
  Role,
  Keep,
  pass,
  keep,
  Use,
  Step,
  push_op,
  push_const,
  get_label,
  place,
  jump,
  jump_back,
  visit,
  begin_loop,
  end_loop,
  exit,
  check_return,
  access,
  refuse,
  inner,
}
use Rattle.rules.specs.Arms.{stream_steps}
use Rattle.rules.specs.Kinds.{steps}
use Rattle.rules.specs.Run.{
  Lookup,
  Loop,
  loop,
  way_kind,
  label_of,
  local_code,
  global_code,
  Stream,
  Side,
  State,
  st,
  labels,
  loops,
  emit,
  bump,
  halt,
  begin,
  finish,
  way_out,
  outward,
  barred,
  sought,
  settle,
  kept,
  keeping,
  anew,
  returned,
  entered,
  nested,
  idle,
  Mode,
  exec,
  act,
  named,
  Visit,
  absent,
  child_visit,
  stream,
  visit_alg,
  visits_of,
  spot_at,
  number_of,
}
use Rattle.rules.specs.declared.Flow.{Flow}
use Rattle.rules.specs.declared.error.ErrorKind.TheVariants.{ReturnOutsideFunction}
use Rattle.rules.specs.declared.Flow.TheVariants.{Go, Cut, Refused}

-- c added n times
unfoldable pub rep : ℕ → ℕ → ℕ
rep c zero = 0
rep c (suc n) = c + rep c n

-- what one of each costs: Null named, another constant named, any other marker, a label taken, an error kept, a stream finished, a function met
pub record Rates : Type 0 where
  pub on_null : ℕ
  pub on_const : ℕ
  pub on_marker : ℕ
  pub on_label : ℕ
  pub on_error : ℕ
  pub on_stream : ℕ
  pub on_met : ℕ

module _ (R : Rates) where
  abbrev pub value_cost : Value → ℕ
  value_cost v = cond (same Null v) R.on_null R.on_const

  abbrev pub op_cost : Op → ℕ
  op_cost (Label l) = R.on_marker
  op_cost (To h l) = R.on_marker
  op_cost (Back l) = R.on_marker
  op_cost (Leave x l) = R.on_marker
  op_cost (Load c v) = value_cost v
  op_cost (Do c n) = R.on_marker

  abbrev pub marks_cost : List Mark → ℕ
  marks_cost [] = 0
  marks_cost (mark r x ∷ ms) = op_cost x + marks_cost ms

  abbrev pub streams_cost : List Stream → ℕ
  streams_cost [] = 0
  streams_cost (x ∷ xs) = (marks_cost x.marks + rep R.on_label x.labels) + (R.on_stream + streams_cost xs)

  abbrev pub side_cost : Side → ℕ
  side_cost e = rep R.on_error (length e.errors) + (rep R.on_met e.met + streams_cost e.streams)

  -- all that there is so far: of the stream being written, and of the finished ones
  abbrev pub load : State → ℕ
  load (st m l ls os f e) = (marks_cost m + rep R.on_label l) + side_cost e

  abbrev pub keep_cost : Keep → ℕ
  keep_cost pass = 0
  keep_cost keep = R.on_error

  -- a function inside: its own stream, which may end in an error
  abbrev pub inner_cost : ℕ → ℕ
  inner_cost body = body + (R.on_error + (R.on_stream + R.on_met))

  -- ks: the cost of each child in each role; body: that of the record's own stream
  module _ (ks : Role → ℕ → ℕ) (body : ℕ) where
    abbrev pub step_cost : Step → ℕ
    step_cost (push_op c x) = R.on_marker
    step_cost (push_const c p v) = value_cost v
    step_cost get_label = R.on_label
    step_cost (place i) = R.on_marker
    step_cost (jump h i) = R.on_marker
    step_cost (jump_back i) = R.on_marker
    step_cost (visit y a j) = keep_cost y + ks a j
    step_cost (begin_loop i j) = 0
    step_cost end_loop = 0
    step_cost (exit x) = R.on_marker
    step_cost check_return = 0
    step_cost (access u p) = R.on_marker
    step_cost (refuse x) = 0
    step_cost inner = inner_cost body

    unfoldable pub weigh : List Step → ℕ
    weigh [] = 0
    weigh (x ∷ is) = step_cost x + weigh is

  abbrev pub child_cost : List (Role → ℕ) → Role → ℕ → ℕ
  child_cost ks a j = get_or ks j (λ a. 0) a

  abbrev pub stream_cost : Words → List (Role → ℕ) → ℕ
  stream_cost w ks = weigh (child_cost ks) 0 (stream_steps w)

  abbrev pub cost_alg : StackCode → ℕ → Words → Forest → List (Role → ℕ) → Role → ℕ
  cost_alg sc r w k ks a = weigh (child_cost ks) (stream_cost w ks) (steps sc a w (own_tree k))

  -- the cost of some trees, and of one record in a role
  abbrev pub costs_of : StackCode → Forest → List (Role → ℕ)
  costs_of sc f = fold (cost_alg sc) f

  abbrev pub cost_of : StackCode → ℕ → Words → Forest → Role → ℕ
  cost_of sc r w k = fold1 (cost_alg sc) r w k

  abbrev pub Within : (State → State) → ℕ → Type 0
  Within v c = (s : State) → load (v s) ≤ load s + c

  emit_within : (r : ℕ) (x : Op) → Within (emit (mark r x)) (op_cost x)
  unfolding emit
  emit_within r x (st m l ls os Go e) = omega arith
  emit_within r x (st m l ls os (Cut y a b) e) = omega arith
  emit_within r x (st m l ls os (Refused y q) e) = omega arith

  bump_within : Within bump R.on_label
  unfolding bump rep
  bump_within (st m l ls os Go e) = omega arith
  bump_within (st m l ls os (Cut y a b) e) = omega arith
  bump_within (st m l ls os (Refused y q) e) = omega arith

  halt_within : (f : Flow) (c : ℕ) → Within (halt f) c
  unfolding halt
  halt_within f c (st m l ls os Go e) = omega arith
  halt_within f c (st m l ls os (Cut y a b) e) = omega arith
  halt_within f c (st m l ls os (Refused y q) e) = omega arith

  begin_within : (trim : List Loop → List Loop) (x : Loop) → Within (begin trim x) 0
  unfolding begin
  begin_within trim x (st m l ls os Go e) = omega arith
  begin_within trim x (st m l ls os (Cut y a b) e) = omega arith
  begin_within trim x (st m l ls os (Refused y q) e) = omega arith

  finish_within : Within finish 0
  unfolding finish
  finish_within (st m l ls os Go e) = omega arith
  finish_within (st m l ls os (Cut y a b) e) = omega arith
  finish_within (st m l ls os (Refused y q) e) = omega arith

  way_within : (r : ℕ) (w : Words) (x : Way) (us : List Loop) → Within (way_out r w x us) R.on_marker
  way_within r w x [] s = halt_within (Cut (way_kind x) w.start w.end) R.on_marker s
  way_within r w x (loop o c b ∷ us) s = emit_within r (Leave x (label_of x c b)) s

  barred_within : (w : Words) (d : Bool) → Within (barred w d) 0
  unfolding barred
  barred_within w true s = halt_within (Cut ReturnOutsideFunction w.start w.end) 0 s
  barred_within w false s = omega arith

  sought_within : (r : ℕ) (u : Use) (i : ℕ) (x : Access) → Within (sought r u i x) R.on_marker
  sought_within r u i (local n) s = emit_within r (Do (local_code u) n) s
  sought_within r u i (global n) s = emit_within r (Do (global_code u) n) s
  sought_within r u i (upvalue n) s = emit_within r (Do LoadUpvalue n) s
  sought_within r u i (missing x) s = halt_within (Refused x i) R.on_marker s

  settle_within : Within settle R.on_error
  unfolding rep
  settle_within (st m l ls os Go e) = omega arith
  settle_within (st m l ls os (Cut y a b) e) = omega arith
  settle_within (st m l ls os (Refused y q) e) = omega arith

  keeping_within : (y : Keep) (v : State → State) (c : ℕ) → Within v c → Within (keeping y v) (keep_cost y + c)
  unfolding kept
  keeping_within pass v c h s = omega (arith, h s)
  keeping_within keep v c h (st m l ls os Go e) = omega (arith, h (st m l ls os Go e), settle_within (v (st m l ls os Go e)))
  keeping_within keep v c h (st m l ls os (Cut y a b) e) = omega arith
  keeping_within keep v c h (st m l ls os (Refused y q) e) = omega arith

  returned_within : (r : ℕ) (w : Words) (m : List Mark) (l : ℕ) (ls os : List Loop) (u : State)
      → load (returned r w m l ls os u) ≤ (marks_cost m + rep R.on_label l) + (load u + R.on_stream)
  returned_within r w m l ls os (st m' l' ls' os' f e) = omega arith

  entered_within : (b : Bool) (r : ℕ) (w : Words) (v : State → State) (c : ℕ) → Within v c → (m : List Mark) (l : ℕ) (ls os : List Loop) (e : Side)
      → load (entered b r w v m l ls os e) ≤ load (st m l ls os Go e) + inner_cost c
  unfolding rep
  entered_within true r w v c h m l ls os e =
      omega (arith, returned_within r w m l ls os (settle (v (anew e))), settle_within (v (anew e)), h (anew e))
  entered_within false r w v c h m l ls os e = omega arith

  pub nested_within : (b : Bool) (r : ℕ) (w : Words) (v : State → State) (c : ℕ) → Within v c → Within (nested b r w v) (inner_cost c)
  unfolding nested
  nested_within false r w v c h s = omega arith
  nested_within true r w v c h (st m l ls os Go e) = entered_within (eqb w.p e.met) r w v c h m l ls os e
  nested_within true r w v c h (st m l ls os (Cut y a b) e) = omega arith
  nested_within true r w v c h (st m l ls os (Refused y q) e) = omega arith

  module _ (t : Lookup) (o : Mode) (fn : Words) (r : ℕ) (w : Words) (k : Forest) (vs : Role → ℕ → State → State) (body : State → State) (ks : Role → ℕ → ℕ) (c : ℕ)
      (within : (a : Role) (j : ℕ) → Within (vs a j) (ks a j)) (inside : Within body c) where
    act_within : (x : Step) (env : List ℕ) → Within (act t o fn r w k vs body x env) (step_cost ks c x)
    unfolding outward
    act_within (push_op y x) env s = emit_within r (Do y x) s
    act_within (push_const y p v) env s = emit_within (number_of (spot_at (tree r w k none) p)) (Load y v) s
    act_within get_label env s = bump_within s
    act_within (place i) env s = emit_within r (Label (get_or env i 0)) s
    act_within (jump h i) env s = emit_within r (To h (get_or env i 0)) s
    act_within (jump_back i) env s = emit_within r (Back (get_or env i 0)) s
    act_within (visit y a j) env s = keeping_within y (vs a j) (ks a j) (within a j) s
    act_within (begin_loop i j) env s = begin_within o.trim (loop r (get_or env i 0) (get_or env j 0)) s
    act_within end_loop env s = finish_within s
    act_within (exit x) env s = way_within r w x (loops s) s
    act_within check_return env s = barred_within w (is_do fn) s
    act_within (access u p) env s = sought_within r u (number_of (spot_at (tree r w k none) p)) (t fn u (spot_at (tree r w k none) p)) s
    act_within (refuse x) env s = halt_within (Refused x r) 0 s
    act_within inner env s = nested_within o.nest r w body c inside s

    pub exec_within : (is : List Step) (env : List ℕ) → Within (exec t o fn r w k vs body is env) (weigh ks c is)
    unfolding exec weigh
    exec_within [] env s = omega arith
    exec_within (x ∷ is) env s =
        omega (arith, act_within x env s, exec_within is (named t o fn r w k vs body x env (labels s)) (act t o fn r w k vs body x env s))

  abbrev WithinAll : Visit → (Role → ℕ) → Type 0
  WithinAll v c = (a : Role) (fn : Words) → Within (v a fn) (c a)

  module _ (t : Lookup) (o : Mode) where
    abbrev Each-within : Forest → Type 0
    Each-within k = Each (λ r w k. WithinAll (visit_alg t o r w k (visits_of t o k)) (cost_of o.code r w k)) k

    children_within : (k : Forest) → Each-within k → (fn : Words) (a : Role) (j : ℕ) → Within (child_visit (visits_of t o k) fn a j) (child_cost (costs_of o.code k) a j)
    children_within k h fn a j = each_at (visit_alg t o) (cost_alg o.code) WithinAll absent (λ a. 0) (λ a fn s. omega arith) k h j a fn

    body_within : (r : ℕ) (w : Words) (k : Forest) → Each-within k → Within (stream t o r w k (visits_of t o k)) (stream_cost w (costs_of o.code k))
    unfolding stream
    body_within r w k h =
        exec_within t o w r w k (child_visit (visits_of t o k) w) idle (child_cost (costs_of o.code k)) 0 (children_within k h w) (λ s. omega arith) (stream_steps w) []

    within_step : (r : ℕ) (w : Words) (k : Forest) → Each-within k → WithinAll (visit_alg t o r w k (visits_of t o k)) (cost_of o.code r w k)
    within_step r w k h a fn =
        exec_within t o fn r w k (child_visit (visits_of t o k) fn) (stream t o r w k (visits_of t o k)) (child_cost (costs_of o.code k)) (stream_cost w (costs_of
        o.code k))
        (children_within k h fn) (body_within r w k h) (steps o.code a w (own_tree k)) []

    each_within : (k : Forest) → Each-within k
    each_within k = each (λ r w k. WithinAll (visit_alg t o r w k (visits_of t o k)) (cost_of o.code r w k)) within_step k

    -- whatever a visit does, from any state, cut short or refused or not, it costs no more than the tree says
    pub visit_within : (r : ℕ) (w : Words) (k : Forest) (a : Role) (fn : Words) → Within (visit_alg t o r w k (visits_of t o k) a fn) (cost_of o.code r w k a)
    visit_within r w k a fn = within_step r w k (each_within k) a fn

    -- and a function's own stream
    pub stream_within : (r : ℕ) (w : Words) (k : Forest) → Within (stream t o r w k (visits_of t o k)) (stream_cost w (costs_of o.code k))
    stream_within r w k = body_within r w k (each_within k)
