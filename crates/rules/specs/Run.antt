-- The run: steps on a state. Nothing is done unless the run goes on. Definitions only.
use Rattle.std.specs.Prelude.{Bool, true, false, cond, List, [], ◌∷◌, ◌++◌, ℕ, zero, suc, get_or, eqb}
use Rattle.tables.specs.Record.{Words, words, is_do, is_function, is_ident}
use Rattle.tables.specs.Forest.{Forest, none, tree, children, fold, own_tree}
use Rattle.tables.specs.declared.refusal.RunRule.TheVariants.{Reference, Skipped}
use Rattle.pool.specs.Names.{Semantic, Access, local, global, upvalue, missing, load as load-name, store as store-name}
use Rattle.rules.specs.Marker.{Way, Break, Continue, Code, LoadLocal, LoadGlobal, LoadUpvalue, StoreLocal, StoreGlobal, Label, To, Back, Leave, Load, Do, Mark, mark}
use Rattle.rules.specs.Step.{
  Role,
  Keep,
  pass,
  keep,
  Use,
  Get,
  Set,
  ChildPath,
  Step,
  push_op,
  push_const,
  get_label,
  place,
  jump,
  jump_back,
  visit,
  begin_loop,
  end_loop,
  exit,
  check_return,
  access,
  refuse,
  inner,
}
use Rattle.rules.specs.Arms.{stream_steps}
use Rattle.rules.specs.Kinds.{steps}
use Rattle.rules.specs.declared.StackCode.{StackCode}
use Rattle.rules.specs.declared.error.ErrorKind.{ErrorKind}
use Rattle.rules.specs.declared.error.ErrorKind.TheVariants.{BreakOutsideLoop, ContinueOutsideLoop, ReturnOutsideFunction, Other}
use Rattle.rules.specs.declared.Flow.{Flow}
use Rattle.rules.specs.declared.Flow.TheVariants.{Go, Cut, Refused}

-- "kind 0 Break, 1 Continue, 2 Return"
abbrev pub error_number : ErrorKind → ℕ
error_number BreakOutsideLoop = 0
error_number ContinueOutsideLoop = 1
error_number ReturnOutsideFunction = 2
error_number (Other n) = n

-- an error: the number of its kind, start and end
pub data Error : Type 0 where
  error : ℕ → ℕ → ℕ → Error

-- a loop with the labels that `visit_expr` keeps for its body: its record, its continue label, its break label
pub data Loop : Type 0 where
  loop : ℕ → ℕ → ℕ → Loop

-- a function's stream: its number and its record, the labels taken, the markers and the loops opened, newest first
pub record Stream : Type 0 where
  pub number : ℕ
  pub at : ℕ
  pub labels : ℕ
  pub marks : List Mark
  pub opened : List Loop

-- what goes through all functions: the errors, newest first, the number of functions met, the streams that are finished
pub record Side : Type 0 where
  pub errors : List Error
  pub met : ℕ
  pub streams : List Stream

-- the current stream: its markers, newest first, its labels, the loops that are open, innermost first, and all that were opened; then the flow
pub data State : Type 0 where
  st : List Mark → ℕ → List Loop → List Loop → Flow → Side → State

abbrev pub marks : State → List Mark
marks (st m l ls os f e) = m

abbrev pub labels : State → ℕ
labels (st m l ls os f e) = l

abbrev pub loops : State → List Loop
loops (st m l ls os f e) = ls

abbrev pub opened : State → List Loop
opened (st m l ls os f e) = os

abbrev pub flow : State → Flow
flow (st m l ls os f e) = f

abbrev pub side : State → Side
side (st m l ls os f e) = e

-- push_code
unfoldable pub emit : Mark → State → State
emit x (st m l ls os Go e) = st (x ∷ m) l ls os Go e
emit x (st m l ls os (Cut k a b) e) = st m l ls os (Cut k a b) e
emit x (st m l ls os (Refused n r) e) = st m l ls os (Refused n r) e

-- get_label
unfoldable pub bump : State → State
bump (st m l ls os Go e) = st m (suc l) ls os Go e
bump (st m l ls os (Cut k a b) e) = st m l ls os (Cut k a b) e
bump (st m l ls os (Refused n r) e) = st m l ls os (Refused n r) e

-- an error or a refusal
unfoldable pub halt : Flow → State → State
halt f (st m l ls os Go e) = st m l ls os f e
halt f (st m l ls os (Cut k a b) e) = st m l ls os (Cut k a b) e
halt f (st m l ls os (Refused n r) e) = st m l ls os (Refused n r) e

-- continue_stack().push and break_stack().push; `trim` says how much of the stack is kept
unfoldable pub begin : (List Loop → List Loop) → Loop → State → State
begin trim x (st m l ls os Go e) = st m l (trim (x ∷ ls)) (x ∷ os) Go e
begin trim x (st m l ls os (Cut k a b) e) = st m l ls os (Cut k a b) e
begin trim x (st m l ls os (Refused n r) e) = st m l ls os (Refused n r) e

abbrev pub drop1 : List Loop → List Loop
drop1 [] = []
drop1 (x ∷ ls) = ls

-- continue_stack().pop and break_stack().pop
unfoldable pub finish : State → State
finish (st m l ls os Go e) = st m l (drop1 ls) os Go e
finish (st m l ls os (Cut k a b) e) = st m l ls os (Cut k a b) e
finish (st m l ls os (Refused n r) e) = st m l ls os (Refused n r) e

abbrev pub way_kind : Way → ErrorKind
way_kind Break = BreakOutsideLoop
way_kind Continue = ContinueOutsideLoop

abbrev pub label_of : Way → ℕ → ℕ → ℕ
label_of Break c b = b
label_of Continue c b = c

-- a Break or Continue names the innermost open loop's label, or is an error
abbrev pub way_out : ℕ → Words → Way → List Loop → State → State
way_out r w x [] s = halt (Cut (way_kind x) w.start w.end) s
way_out r w x (loop o c b ∷ ls) s = emit (mark r (Leave x (label_of x c b))) s

unfoldable pub outward : ℕ → Words → Way → State → State
outward r w x s = way_out r w x (loops s) s

-- a Return in a Do is an error
unfoldable pub barred : Words → Bool → State → State
barred w inDo s = cond inDo (halt (Cut ReturnOutsideFunction w.start w.end) s) s

-- the record at a path from the first of some trees
pub data Spot : Type 0 where
  here : ℕ → Words → Spot
  nowhere : Spot

abbrev pub from_tree : ℕ → Forest → Forest
from_tree zero f = f
from_tree (suc j) none = none
from_tree (suc j) (tree r w k s) = from_tree j s

-- what is inside a Function is no part of the tree around it
abbrev pub spot_below : Forest → ChildPath → Spot
spot_below none [] = nowhere
spot_below none (j ∷ js) = nowhere
spot_below (tree r w k s) [] = here r w
spot_below (tree r w k s) (j ∷ js) = cond (is_function w) nowhere (spot_below (from_tree j k) js)

abbrev pub spot_at : Forest → ChildPath → Spot
spot_at none [] = nowhere
spot_at none (j ∷ js) = nowhere
spot_at (tree r w k s) [] = here r w
spot_at (tree r w k s) (j ∷ js) = spot_below (from_tree j k) js

abbrev pub number_of : Spot → ℕ
number_of (here r w) = r
number_of nowhere = 0

-- what loading or storing an Ident comes to, in the function fn
abbrev pub Lookup : Type 0
Lookup = Words → Use → Spot → Access

-- by the lent tables; a record that is no Ident has no reference
abbrev pub look : Semantic → Lookup
look t fn Get (here r w) = cond (is_ident w) (load-name t fn.p w.p) (missing Reference)
look t fn Set (here r w) = cond (is_ident w) (store-name t fn.p w.p) (missing Reference)
look t fn Get nowhere = missing Reference
look t fn Set nowhere = missing Reference

abbrev pub local_code : Use → Code
local_code Get = LoadLocal
local_code Set = StoreLocal

abbrev pub global_code : Use → Code
global_code Get = LoadGlobal
global_code Set = StoreGlobal

-- load and store: an instruction, or a refusal at the Ident; a store never comes to an upvalue
abbrev pub sought : ℕ → Use → ℕ → Access → State → State
sought r u i (local n) s = emit (mark r (Do (local_code u) n)) s
sought r u i (global n) s = emit (mark r (Do (global_code u) n)) s
sought r u i (upvalue n) s = emit (mark r (Do LoadUpvalue n)) s
sought r u i (missing x) s = halt (Refused x i) s

-- a block keeps an error, and the run goes on
abbrev pub settle : State → State
settle (st m l ls os Go e) = st m l ls os Go e
settle (st m l ls os (Cut k a b) e) = st m l ls os Go (record { errors = error (error_number k) a b ∷ e.errors; met = e.met; streams = e.streams })
settle (st m l ls os (Refused n r) e) = st m l ls os (Refused n r) e

unfoldable pub kept : (State → State) → State → State
kept v (st m l ls os Go e) = settle (v (st m l ls os Go e))
kept v (st m l ls os (Cut k a b) e) = st m l ls os (Cut k a b) e
kept v (st m l ls os (Refused n r) e) = st m l ls os (Refused n r) e

-- gen_function_code: a function's own stream is begun anew
abbrev pub anew : Side → State
anew e = st [] 0 [] [] Go (record { errors = e.errors; met = suc e.met; streams = e.streams })

-- and left behind
abbrev pub returned : ℕ → Words → List Mark → ℕ → List Loop → List Loop → State → State
returned r w m l ls os (st m' l' ls' os' f e) =
    st m l ls os f
    (record { errors = e.errors; met = e.met; streams = record { number = w.p; at = r; labels = l'; marks = m'; opened = os' } ∷ e.streams })

-- number 16: "a function met after an error skipped one" has not the number of functions met before
abbrev pub entered : Bool → ℕ → Words → (State → State) → List Mark → ℕ → List Loop → List Loop → Side → State
entered true r w v m l ls os e = returned r w m l ls os (settle (v (anew e)))
entered false r w v m l ls os e = st m l ls os (Refused Skipped r) e

-- the functions inside are run where they stand, or (nest is false) left out
unfoldable pub nested : Bool → ℕ → Words → (State → State) → State → State
nested false r w v s = s
nested true r w v (st m l ls os Go e) = entered (eqb w.p e.met) r w v m l ls os e
nested true r w v (st m l ls os (Cut k a b) e) = st m l ls os (Cut k a b) e
nested true r w v (st m l ls os (Refused n q) e) = st m l ls os (Refused n q) e

abbrev pub idle : State → State
idle s = s

abbrev pub keeping : Keep → (State → State) → State → State
keeping pass v = v
keeping keep v = kept v

-- how a run goes: its stack code, whether the functions inside are run too, and how many open loops are kept
pub record Mode : Type 0 where
  pub code : StackCode
  pub nest : Bool
  pub trim : List Loop → List Loop

-- Document 01's run: nested functions run inside, every open loop is kept.
abbrev pub full : StackCode → Mode
full sc = record { code = sc; nest = true; trim = λ ls. ls }

-- one record's visit in the function fn: vs are its children's visits, body its own stream if it is a Function
module _ (t : Lookup) (o : Mode) (fn : Words) (r : ℕ) (w : Words) (k : Forest) (vs : Role → ℕ → State → State) (body : State → State) where
  abbrev pub act : Step → List ℕ → State → State
  act (push_op c x) env = emit (mark r (Do c x))
  act (push_const c p v) env = emit (mark (number_of (spot_at (tree r w k none) p)) (Load c v))
  act get_label env = bump
  act (place i) env = emit (mark r (Label (get_or env i 0)))
  act (jump h i) env = emit (mark r (To h (get_or env i 0)))
  act (jump_back i) env = emit (mark r (Back (get_or env i 0)))
  act (visit y a j) env = keeping y (vs a j)
  act (begin_loop i j) env = begin o.trim (loop r (get_or env i 0) (get_or env j 0))
  act end_loop env = finish
  act (exit x) env = outward r w x
  act check_return env = barred w (is_do fn)
  act (access u p) env = sought r u (number_of (spot_at (tree r w k none) p)) (t fn u (spot_at (tree r w k none) p))
  act (refuse x) env = halt (Refused x r)
  act inner env = nested o.nest r w body

  -- the labels taken so far, by name
  abbrev pub named : Step → List ℕ → ℕ → List ℕ
  named (push_op c x) env l = env
  named (push_const c p v) env l = env
  named get_label env l = env ++ (l ∷ [])
  named (place i) env l = env
  named (jump h i) env l = env
  named (jump_back i) env l = env
  named (visit y a j) env l = env
  named (begin_loop i j) env l = env
  named end_loop env l = env
  named (exit x) env l = env
  named check_return env l = env
  named (access u p) env l = env
  named (refuse x) env l = env
  named inner env l = env

  unfoldable pub exec : List Step → List ℕ → State → State
  exec [] env s = s
  exec (x ∷ is) env s = exec is (named x env (labels s)) (act x env s)

-- a record's visit is told its role and the function that it stands in
abbrev pub Visit : Type 0
Visit = Role → Words → State → State

abbrev pub absent : Visit
absent a fn s = s

abbrev pub child_visit : List Visit → Words → Role → ℕ → State → State
child_visit vs fn a j = get_or vs j absent a fn

-- a function's own stream: "Nested functions count for themselves"
unfoldable pub stream : Lookup → Mode → ℕ → Words → Forest → List Visit → State → State
stream t o r w k vs = exec t o w r w k (child_visit vs w) idle (stream_steps w) []

abbrev pub visit_alg : Lookup → Mode → ℕ → Words → Forest → List Visit → Visit
visit_alg t o r w k vs a fn = exec t o fn r w k (child_visit vs fn) (stream t o r w k vs) (steps o.code a w (own_tree k)) []

-- the visits of some trees, and the stream of one function
abbrev pub visits_of : Lookup → Mode → Forest → List Visit
visits_of t o f = fold (visit_alg t o) f

abbrev pub function_run : Lookup → Mode → ℕ → Words → Forest → State → State
function_run t o r w k = nested true r w (stream t o r w k (visits_of t o k))

abbrev pub nothing : State
nothing = st [] 0 [] [] Go (record { errors = []; met = 0; streams = [] })

-- the whole run, from record 0
unfoldable pub run : StackCode → Lookup → List ℕ → State
run sc t recs = function_run t (full sc) 0 (words recs 0) (children recs 0) nothing

-- one function walked alone: no function inside is run
abbrev pub flat : Mode → Mode
flat o = record { code = o.code; nest = false; trim = o.trim }

unfoldable pub alone : Lookup → Mode → ℕ → Words → Forest → State
alone t o r w k = stream t (flat o) r w k (visits_of t (flat o) k) (anew (record { errors = []; met = 0; streams = [] }))
