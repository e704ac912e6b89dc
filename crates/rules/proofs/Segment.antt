-- What a visit writes when nothing cuts it short, read off its steps alone: its segment. Definitions.
use mathlib.Core.List.{List, [], ◌∷◌, ◌++◌, reverse_aux}
use Prim.Native.Nat.{ℕ, suc, ◌+◌}
use lib.ListN.{get_or}
use Rattle.tables.specs.Record.{Words}
use Rattle.tables.specs.Forest.{Forest, none, tree, fold, fold1, own_tree}
use Rattle.pool.specs.Names.{Access, local, global, upvalue, missing}
use Rattle.rules.specs.declared.StackCode.{StackCode}
use Rattle.rules.specs.Marker.{Way, LoadUpvalue, Label, To, Back, Leave, Load, Do, Mark, mark}
use Rattle.rules.specs.Step.{Role, Use, Step, push_op, push_const, get_label, place, jump, jump_back, visit, begin_loop, end_loop, exit, check_return, access, refuse, inner}
use Rattle.rules.specs.Arms.{stream_steps}
use Rattle.rules.specs.Kinds.{steps}
use Rattle.rules.specs.Run.{Lookup, Loop, loop, label_of, drop1, Stream, number_of, spot_at, local_code, global_code}

-- labels taken; markers, from the first label and the open loops; loops opened, from the first label; functions inside, and their streams, oldest first
pub record Seg : Type 0 where
  pub count : ℕ
  pub code : ℕ → List Loop → List Mark
  pub log : ℕ → List Loop
  pub funs : ℕ
  pub made : List Stream

abbrev pub no_seg : Seg
no_seg = record { count = 0; code = λ b ls. []; log = λ b. []; funs = 0; made = [] }

-- a name found is one instruction
abbrev pub sought_marks : ℕ → Use → Access → List Mark
sought_marks r u (local n) = mark r (Do (local_code u) n) ∷ []
sought_marks r u (global n) = mark r (Do (global_code u) n) ∷ []
sought_marks r u (upvalue n) = mark r (Do LoadUpvalue n) ∷ []
sought_marks r u (missing x) = []

-- a Break or Continue names the innermost open loop's label
abbrev pub leaving : ℕ → Way → List Loop → List Mark
leaving r x [] = []
leaving r x (loop o c b ∷ ls) = mark r (Leave x (label_of x c b)) ∷ []

-- a function's finished stream
abbrev pub finished : ℕ → Words → Seg → Stream
finished r w g = record { number = w.p; at = r; labels = g.count; marks = reverse_aux (g.code 0 []) []; opened = reverse_aux (g.log 0) [] }

module _ (t : Lookup) (fn : Words) (r : ℕ) (w : Words) (k : Forest) (ks : Role → ℕ → Seg) (body : Seg) where
  -- the markers; env are the labels taken so far, b the next label, ls the open loops
  unfoldable pub seg_code : List Step → List ℕ → ℕ → List Loop → List Mark
  seg_code [] env b ls = []
  seg_code (push_op c x ∷ is) env b ls = mark r (Do c x) ∷ seg_code is env b ls
  seg_code (push_const c p v ∷ is) env b ls = mark (number_of (spot_at (tree r w k none) p)) (Load c v) ∷ seg_code is env b ls
  seg_code (get_label ∷ is) env b ls = seg_code is (env ++ (b ∷ [])) (suc b) ls
  seg_code (place i ∷ is) env b ls = mark r (Label (get_or env i 0)) ∷ seg_code is env b ls
  seg_code (jump h i ∷ is) env b ls = mark r (To h (get_or env i 0)) ∷ seg_code is env b ls
  seg_code (jump_back i ∷ is) env b ls = mark r (Back (get_or env i 0)) ∷ seg_code is env b ls
  seg_code (visit y a j ∷ is) env b ls = (ks a j).code b ls ++ seg_code is env (b + (ks a j).count) ls
  seg_code (begin_loop i j ∷ is) env b ls = seg_code is env b (loop r (get_or env i 0) (get_or env j 0) ∷ ls)
  seg_code (end_loop ∷ is) env b ls = seg_code is env b (drop1 ls)
  seg_code (exit x ∷ is) env b ls = leaving r x ls ++ seg_code is env b ls
  seg_code (check_return ∷ is) env b ls = seg_code is env b ls
  seg_code (access u p ∷ is) env b ls = sought_marks r u (t fn u (spot_at (tree r w k none) p)) ++ seg_code is env b ls
  seg_code (refuse x ∷ is) env b ls = seg_code is env b ls
  seg_code (inner ∷ is) env b ls = seg_code is env b ls

  -- the labels taken
  unfoldable pub seg_count : List Step → ℕ
  seg_count [] = 0
  seg_count (push_op c x ∷ is) = seg_count is
  seg_count (push_const c p v ∷ is) = seg_count is
  seg_count (get_label ∷ is) = suc (seg_count is)
  seg_count (place i ∷ is) = seg_count is
  seg_count (jump h i ∷ is) = seg_count is
  seg_count (jump_back i ∷ is) = seg_count is
  seg_count (visit y a j ∷ is) = (ks a j).count + seg_count is
  seg_count (begin_loop i j ∷ is) = seg_count is
  seg_count (end_loop ∷ is) = seg_count is
  seg_count (exit x ∷ is) = seg_count is
  seg_count (check_return ∷ is) = seg_count is
  seg_count (access u p ∷ is) = seg_count is
  seg_count (refuse x ∷ is) = seg_count is
  seg_count (inner ∷ is) = seg_count is

  -- the loops opened, with the labels that they keep for the body
  unfoldable pub seg_log : List Step → List ℕ → ℕ → List Loop
  seg_log [] env b = []
  seg_log (push_op c x ∷ is) env b = seg_log is env b
  seg_log (push_const c p v ∷ is) env b = seg_log is env b
  seg_log (get_label ∷ is) env b = seg_log is (env ++ (b ∷ [])) (suc b)
  seg_log (place i ∷ is) env b = seg_log is env b
  seg_log (jump h i ∷ is) env b = seg_log is env b
  seg_log (jump_back i ∷ is) env b = seg_log is env b
  seg_log (visit y a j ∷ is) env b = (ks a j).log b ++ seg_log is env (b + (ks a j).count)
  seg_log (begin_loop i j ∷ is) env b = loop r (get_or env i 0) (get_or env j 0) ∷ seg_log is env b
  seg_log (end_loop ∷ is) env b = seg_log is env b
  seg_log (exit x ∷ is) env b = seg_log is env b
  seg_log (check_return ∷ is) env b = seg_log is env b
  seg_log (access u p ∷ is) env b = seg_log is env b
  seg_log (refuse x ∷ is) env b = seg_log is env b
  seg_log (inner ∷ is) env b = seg_log is env b

  -- the functions met
  unfoldable pub seg_funs : List Step → ℕ
  seg_funs [] = 0
  seg_funs (push_op c x ∷ is) = seg_funs is
  seg_funs (push_const c p v ∷ is) = seg_funs is
  seg_funs (get_label ∷ is) = seg_funs is
  seg_funs (place i ∷ is) = seg_funs is
  seg_funs (jump h i ∷ is) = seg_funs is
  seg_funs (jump_back i ∷ is) = seg_funs is
  seg_funs (visit y a j ∷ is) = (ks a j).funs + seg_funs is
  seg_funs (begin_loop i j ∷ is) = seg_funs is
  seg_funs (end_loop ∷ is) = seg_funs is
  seg_funs (exit x ∷ is) = seg_funs is
  seg_funs (check_return ∷ is) = seg_funs is
  seg_funs (access u p ∷ is) = seg_funs is
  seg_funs (refuse x ∷ is) = seg_funs is
  seg_funs (inner ∷ is) = suc body.funs + seg_funs is

  -- their streams, in the order of their ends
  unfoldable pub seg_made : List Step → List Stream
  seg_made [] = []
  seg_made (push_op c x ∷ is) = seg_made is
  seg_made (push_const c p v ∷ is) = seg_made is
  seg_made (get_label ∷ is) = seg_made is
  seg_made (place i ∷ is) = seg_made is
  seg_made (jump h i ∷ is) = seg_made is
  seg_made (jump_back i ∷ is) = seg_made is
  seg_made (visit y a j ∷ is) = (ks a j).made ++ seg_made is
  seg_made (begin_loop i j ∷ is) = seg_made is
  seg_made (end_loop ∷ is) = seg_made is
  seg_made (exit x ∷ is) = seg_made is
  seg_made (check_return ∷ is) = seg_made is
  seg_made (access u p ∷ is) = seg_made is
  seg_made (refuse x ∷ is) = seg_made is
  seg_made (inner ∷ is) = (body.made ++ (finished r w body ∷ [])) ++ seg_made is

  -- a record's segment from its steps
  abbrev pub step_seg : List Step → Seg
  step_seg is = record { count = seg_count is; code = λ b ls. seg_code is [] b ls; log = λ b. seg_log is [] b; funs = seg_funs is; made = seg_made is }

-- a record's segment is told its role and the function that it stands in
abbrev pub Segs : Type 0
Segs = Role → Words → Seg

abbrev pub no_segs : Segs
no_segs a fn = no_seg

abbrev pub child_seg : List Segs → Words → Role → ℕ → Seg
child_seg vs fn a j = get_or vs j no_segs a fn

-- a function's own stream
abbrev pub stream_seg : Lookup → ℕ → Words → Forest → List Segs → Seg
stream_seg t r w k vs = step_seg t w r w k (child_seg vs w) no_seg (stream_steps w)

abbrev pub seg_alg : StackCode → Lookup → ℕ → Words → Forest → List Segs → Segs
seg_alg sc t r w k vs a fn = step_seg t fn r w k (child_seg vs fn) (stream_seg t r w k vs) (steps sc a w (own_tree k))

abbrev pub segs_of : StackCode → Lookup → Forest → List Segs
segs_of sc t f = fold (seg_alg sc t) f

-- the segment of one record, and of one function's stream
abbrev pub seg_of : StackCode → Lookup → ℕ → Words → Forest → Segs
seg_of sc t r w k = fold1 (seg_alg sc t) r w k

abbrev pub body_seg : StackCode → Lookup → ℕ → Words → Forest → Seg
body_seg sc t r w k = stream_seg t r w k (segs_of sc t k)
