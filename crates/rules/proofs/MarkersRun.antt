-- Where the run ends clean, every function met has as many markers as are counted from its own tree alone. Assumes nothing.
use mathlib.Core.Path.{◌≡◌, refl, sym, ap, subst, ◌∙◌}
use mathlib.Core.Bool.{Bool, true, false, cond, ◌&&◌, ◌||◌}
use mathlib.Core.List.{List, [], ◌∷◌}
use Prim.Native.Nat.{ℕ, zero, suc, ◌+◌, ◌<◌, ◌%◌}
use native.Mathlib.Omega.{arith}
use lib.ListN.{length}
use lib.Dec.{T, eqb, eqb→eq}
use Rattle.tables.specs.Record.{Words, words, is_do, is_function}
use Rattle.tables.specs.Forest.{Forest, none, tree, children, first, Nodes, bare, own_tree}
use Rattle.tables.proofs.ForestLaws.{Genuine, genuine, Each, each}
use Rattle.pool.specs.Names.{Access, local, global, upvalue, missing}
use Rattle.pool.specs.Value.{function}
use Rattle.rules.specs.declared.StackCode.{StackCode}
use Rattle.rules.specs.Marker.{Way, Mark, Pop, LoadLocals, Return, Call, ReturnCall}
use Rattle.rules.specs.Step.{Role, Expr, Callee, Tail, Target, Before, After, Keep, pass, keep, Use, Step}
use Rattle.rules.specs.Step.{push_op, push_const, get_label, place, jump, jump_back, visit, begin_loop, end_loop, exit, check_return, access, refuse, inner, expr, load}
use Rattle.rules.specs.Arms.{stream_steps, method_steps, call_steps, target_steps, before_steps, after_steps}
use Rattle.rules.specs.Kinds.{steps, steps_of, kinds}
use Rattle.rules.specs.MarkerCount.{step_markers, list_markers, child_markers, markers_in, markers_counted}
use Rattle.rules.specs.declared.Flow.{Flow}
use Rattle.rules.specs.declared.error.ErrorKind.{ErrorKind}
use Rattle.rules.specs.declared.Flow.TheVariants.{Go, Cut, Refused}
use Rattle.rules.specs.Run.{Lookup, Loop, loop, Stream, Side, State, st, marks, side, emit, bump, halt, begin, finish, way_kind, outward, barred, number_of, spot_at}
use Rattle.rules.specs.Run.{sought, settle, kept, anew, returned, entered, nested, idle, keeping, full, act, exec, child_visit, stream, visits_of, nothing, run}
use Rattle.rules.specs.Out.{stream_numbered}
use Rattle.rules.proofs.Count.{inside_at}
use Rattle.rules.proofs.StepsOk.{function_only}
use Rattle.rules.proofs.Writes.{Clean, Clean-back, writes_clean, cut_go, refused_go, settle_same, settle_clean, entered_body, clean_back}
use Rattle.rules.proofs.Segment.{seg_of, body_seg}
use Rattle.rules.proofs.Visits.{visit_of, visit_writes, stream_writes}
use Rattle.rules.proofs.Numbers.{Every, run_numbered, stream_found}

module _ (P : Stream → Type 0) where
  -- from s to s' there are c markers more, and every finished stream has P
  abbrev Told : ℕ → State → State → Type 0
  Told c s s' = (length (marks s') ≡ length (marks s) + c) × Every P (side s').streams

  -- what a visit adds where it ends clean
  abbrev Tells : (State → State) → ℕ → Type 0
  Tells v c = (s : State) → Clean (v s) → Every P (side s).streams → Told c s (v s)

  emit_told : (x : Mark) → Tells (emit x) 1
  unfolding emit
  emit_told x (st m l ls os Go e) c q = (omega arith, q)
  emit_told x (st m l ls os (Cut k a b) e) c q = absurd (cut_go k a b c.0)
  emit_told x (st m l ls os (Refused n r) e) c q = absurd (refused_go n r c.0)

  bump_told : Tells bump 0
  unfolding bump
  bump_told (st m l ls os Go e) c q = (omega arith, q)
  bump_told (st m l ls os (Cut k a b) e) c q = (omega arith, q)
  bump_told (st m l ls os (Refused n r) e) c q = (omega arith, q)

  halt_told : (f : Flow) → Tells (halt f) 0
  unfolding halt
  halt_told f (st m l ls os Go e) c q = (omega arith, q)
  halt_told f (st m l ls os (Cut k a b) e) c q = (omega arith, q)
  halt_told f (st m l ls os (Refused n r) e) c q = (omega arith, q)

  -- an error or a refusal does not end clean
  cut_told : (k : ErrorKind) (a b n : ℕ) → Tells (halt (Cut k a b)) n
  unfolding halt
  cut_told k a b n (st m l ls os Go e) c q = absurd (cut_go k a b c.0)
  cut_told k a b n (st m l ls os (Cut k' a' b') e) c q = absurd (cut_go k' a' b' c.0)
  cut_told k a b n (st m l ls os (Refused x r) e) c q = absurd (refused_go x r c.0)

  begin_told : (trim : List Loop → List Loop) (x : Loop) → Tells (begin trim x) 0
  unfolding begin
  begin_told trim x (st m l ls os Go e) c q = (omega arith, q)
  begin_told trim x (st m l ls os (Cut k a b) e) c q = (omega arith, q)
  begin_told trim x (st m l ls os (Refused n r) e) c q = (omega arith, q)

  finish_told : Tells finish 0
  unfolding finish
  finish_told (st m l ls os Go e) c q = (omega arith, q)
  finish_told (st m l ls os (Cut k a b) e) c q = (omega arith, q)
  finish_told (st m l ls os (Refused n r) e) c q = (omega arith, q)

  outward_told : (r : ℕ) (w : Words) (x : Way) → Tells (outward r w x) 1
  unfolding outward
  outward_told r w x (st m l [] os f e) c q = cut_told (way_kind x) w.start w.end 1 (st m l [] os f e) c q
  outward_told r w x (st m l (loop o d b ∷ ls) os f e) c q = emit_told _ (st m l (loop o d b ∷ ls) os f e) c q

  barred_told : (w : Words) (b : Bool) → Tells (barred w b) 0
  unfolding barred
  barred_told w true s c q = halt_told _ s c q
  barred_told w false s c q = (omega arith, q)

  sought_told : (r : ℕ) (u : Use) (i : ℕ) (x : Access) → Tells (sought r u i x) 1
  unfolding halt
  sought_told r u i (local n) s c q = emit_told _ s c q
  sought_told r u i (global n) s c q = emit_told _ s c q
  sought_told r u i (upvalue n) s c q = emit_told _ s c q
  sought_told r u i (missing x) (st m l ls os Go e) c q = absurd (refused_go x i c.0)
  sought_told r u i (missing x) (st m l ls os (Cut k a b) e) c q = absurd (cut_go k a b c.0)
  sought_told r u i (missing x) (st m l ls os (Refused n j) e) c q = absurd (refused_go n j c.0)

  keeping_told : (y : Keep) (v : State → State) (n : ℕ) → Tells v n → Tells (keeping y v) n
  unfolding kept
  keeping_told pass v n h s c q = h s c q
  keeping_told keep v n h (st m l ls os Go e) c q =
      let s = st m l ls os Go e in subst (λ z. Told n s z) (sym (settle_same (v s) c)) (h s (settle_clean (v s) c) q)
  keeping_told keep v n h (st m l ls os (Cut k a b) e) c q = absurd (cut_go k a b c.0)
  keeping_told keep v n h (st m l ls os (Refused x r) e) c q = absurd (refused_go x r c.0)

  -- a function's own stream is kept, and the stream around it is as it was
  module _ (r : ℕ) (w : Words) (n : ℕ)
      (own : (m : List Mark) (l : ℕ) (os : List Loop) → length m ≡ n → P (record { number = w.p; at = r; labels = l; marks = m; opened = os })) where
    returned_told : (m : List Mark) (l : ℕ) (ls os : List Loop) (s : State) → length (marks s) ≡ n → Every P (side s).streams
        → Every P (side (returned r w m l ls os s)).streams × (marks (returned r w m l ls os s) ≡ m)
    returned_told m l ls os (st m' l' ls' os' f e) z q = ((own m' l' os' z, q), refl)

    entered_told : (b : Bool) (v : State → State) → Tells v n → (m : List Mark) (l : ℕ) (ls os : List Loop) (e : Side)
        → Clean (entered b r w v m l ls os e) → Every P e.streams → Told 0 (st m l ls os Go e) (entered b r w v m l ls os e)
    entered_told true v h m l ls os e c q =
        let d = (entered_body true r w v m l ls os e c).1 in
        let u = h (anew e) (settle_clean (v (anew e)) d) q in
        let z = settle_same (v (anew e)) d in
        let y : length (marks (v (anew e))) ≡ n = omega (arith, u.0) in
        let x = returned_told m l ls os (settle (v (anew e))) (ap (λ s. length (marks s)) z ∙ y) (subst (λ s. Every P (side s).streams) (sym z) u.1) in
        (ap length x.1 ∙ omega arith, x.0)
    entered_told false v h m l ls os e c q = absurd (refused_go _ r c.0)

    nested_told : (v : State → State) → Tells v n → Tells (nested true r w v) 0
    unfolding nested
    nested_told v h (st m l ls os Go e) c q = entered_told (eqb w.p e.met) v h m l ls os e c q
    nested_told v h (st m l ls os (Cut k a b) e) c q = (omega arith, q)
    nested_told v h (st m l ls os (Refused x j) e) c q = (omega arith, q)

  -- a list of steps; the stream inside is asked for where a step runs it
  module _ (sc : StackCode) (t : Lookup) (fn : Words) (r : ℕ) (w : Words) (k : Forest) (vs : Role → ℕ → State → State) (body : State → State) (ks : Role → ℕ → ℕ)
      (child_back : (x : Role) (j : ℕ) → Clean-back (vs x j)) (body_back : Clean-back body) (child-told : (x : Role) (j : ℕ) → Tells (vs x j) (ks x j)) where
    abbrev Fine : Step → Type 0
    Fine (push_op c x) = Unit {0}
    Fine (push_const c p v) = Unit {0}
    Fine get_label = Unit {0}
    Fine (place i) = Unit {0}
    Fine (jump h i) = Unit {0}
    Fine (jump_back i) = Unit {0}
    Fine (visit y x j) = Unit {0}
    Fine (begin_loop i j) = Unit {0}
    Fine end_loop = Unit {0}
    Fine (exit x) = Unit {0}
    Fine check_return = Unit {0}
    Fine (access u p) = Unit {0}
    Fine (refuse x) = Unit {0}
    Fine inner = Tells (nested true r w body) 0

    fine : Tells (nested true r w body) 0 → (x : Step) → Fine x
    fine h (push_op c x) = tt
    fine h (push_const c p v) = tt
    fine h get_label = tt
    fine h (place i) = tt
    fine h (jump x i) = tt
    fine h (jump_back i) = tt
    fine h (visit y x j) = tt
    fine h (begin_loop i j) = tt
    fine h end_loop = tt
    fine h (exit x) = tt
    fine h check_return = tt
    fine h (access u p) = tt
    fine h (refuse x) = tt
    fine h inner = h

    abbrev All-fine : List Step → Type 0
    All-fine [] = Unit {0}
    All-fine (x ∷ is) = Fine x × All-fine is

    all_fine : Tells (nested true r w body) 0 → (is : List Step) → All-fine is
    all_fine h [] = tt
    all_fine h (x ∷ is) = (fine h x, all_fine h is)

    act_told : (x : Step) (env : List ℕ) → Fine x → Tells (act t (full sc) fn r w k vs body x env) (step_markers ks x)
    act_told (push_op c x) env g s d q = emit_told _ s d q
    act_told (push_const c p v) env g s d q = emit_told _ s d q
    act_told get_label env g s d q = bump_told s d q
    act_told (place i) env g s d q = emit_told _ s d q
    act_told (jump h i) env g s d q = emit_told _ s d q
    act_told (jump_back i) env g s d q = emit_told _ s d q
    act_told (visit y x j) env g s d q = keeping_told y (vs x j) (ks x j) (child-told x j) s d q
    act_told (begin_loop i j) env g s d q = begin_told _ _ s d q
    act_told end_loop env g s d q = finish_told s d q
    act_told (exit x) env g s d q = outward_told r w x s d q
    act_told check_return env g s d q = barred_told w (is_do fn) s d q
    act_told (access u p) env g s d q = sought_told r u (number_of (spot_at (tree r w k none) p)) (t fn u (spot_at (tree r w k none) p)) s d q
    act_told (refuse x) env g s d q = halt_told _ s d q
    act_told inner env g s d q = g s d q

    exec_told : (is : List Step) (env : List ℕ) → All-fine is → Tells (exec t (full sc) fn r w k vs body is env) (list_markers ks is)
    unfolding exec list_markers
    exec_told [] env g s c q = (omega arith, q)
    exec_told (x ∷ is) env (g, gs) s c q =
        let s1 = act t (full sc) fn r w k vs body x env s in
        let u = act_told x env g s (clean_back t (full sc) fn r w k vs body child_back body_back is _ s1 c) q in
        let y = exec_told is _ gs s1 c u.1 in
        (omega (arith, u.0, y.0), y.1)

-- a Function's steps visit no child, and do not look at them
function_same : (sc : StackCode) (ks ks' : Role → ℕ → ℕ) (a : Role) (w : Words) (k : Nodes) → w.kind ≡ 30 → list_markers ks (steps sc a w k) ≡ list_markers ks' (steps sc a w k)
unfolding list_markers
function_same sc ks ks' a w k e = function_only (λ is. list_markers ks is ≡ list_markers ks' is) sc a w k e refl (go (is_do w))
  where
    go : (b : Bool) → list_markers ks (cond b (inner ∷ load (function w.p) ∷ push_op Call 0 ∷ []) (inner ∷ load (function w.p) ∷ []))
        ≡ list_markers ks' (cond b (inner ∷ load (function w.p) ∷ push_op Call 0 ∷ []) (inner ∷ load (function w.p) ∷ []))
    go true = refl
    go false = refl

bare_same : (sc : StackCode) (a : Role) (w : Words) (k : Nodes) → w.kind ≡ 30 → steps sc a w k ≡ steps sc a w bare
unfolding steps
bare_same sc Expr w k e = ap (λ (n : ℕ). steps_of n (kinds sc) w k) e ∙ sym (ap (λ (n : ℕ). steps_of n (kinds sc) w bare) e)
bare_same sc Callee w k e =
    ap (λ (n : ℕ). cond (eqb n 12 && (eqb (w.detail % 8) 1 || eqb (w.detail % 8) 4)) (method_steps sc w k) (steps_of n (kinds sc) w k)) e
    ∙ sym (ap (λ (n : ℕ). cond (eqb n 12 && (eqb (w.detail % 8) 1 || eqb (w.detail % 8) 4)) (method_steps sc w bare) (steps_of n (kinds sc) w bare)) e)
bare_same sc Tail w k e =
    ap (λ (n : ℕ). cond (eqb n 13) (call_steps ReturnCall w k) []) e ∙ sym (ap (λ (n : ℕ). cond (eqb n 13) (call_steps ReturnCall w bare) []) e)
bare_same sc Target w k e = ap (λ (n : ℕ). cond (eqb n 34) (target_steps w k) []) e ∙ sym (ap (λ (n : ℕ). cond (eqb n 34) (target_steps w bare) []) e)
bare_same sc Before w k e = ap (λ (n : ℕ). cond (eqb n 34) (before_steps w k) []) e ∙ sym (ap (λ (n : ℕ). cond (eqb n 34) (before_steps w bare) []) e)
bare_same sc After w k e = ap (λ (n : ℕ). cond (eqb n 34) (after_steps w k) []) e ∙ sym (ap (λ (n : ℕ). cond (eqb n 34) (after_steps w bare) []) e)

abbrev counts : StackCode → Role → Words → Nodes → ℕ
counts sc a w k = list_markers (child_markers (markers_in sc k)) (steps sc a w k)

node_same : (sc : StackCode) (a : Role) (w : Words) (k : Nodes) → counts sc a w k ≡ counts sc a w (cond (is_function w) bare k)
node_same sc a w k = go (is_function w) refl
  where
    go : (b : Bool) → is_function w ≡ b → counts sc a w k ≡ counts sc a w (cond b bare k)
    go true e =
        let z = eqb→eq w.kind 30 (subst T (sym e) tt) in
        function_same sc (child_markers (markers_in sc k)) (child_markers (markers_in sc bare)) a w k z
        ∙ ap (λ (is : List Step). list_markers (child_markers (markers_in sc bare)) is) (bare_same sc a w k z)
    go false e = refl

module _ (sc : StackCode) (t : Lookup) (recs : List ℕ) where
  abbrev pub Counted : Stream → Type 0
  Counted x = length x.marks ≡ markers_counted sc (words recs x.at) (own_tree (children recs x.at))

  child_back : (k : Forest) (fn : Words) (a : Role) (j : ℕ) → Clean-back (child_visit (visits_of t (full sc) k) fn a j)
  child_back none fn a j = λ s c. c
  child_back (tree r w k s) fn a zero = writes_clean (visit_of t (full sc) r w k a fn) (seg_of sc t r w k a fn) (visit_writes sc t r w k a fn)
  child_back (tree r w k s) fn a (suc j) = child_back s fn a j

  abbrev Tally : ℕ → Words → Forest → Type 0
  Tally r w k = w ≡ words recs r → k ≡ children recs r → Genuine recs k → (a : Role) (fn : Words) → Tells Counted (visit_of t (full sc) r w k a fn) (counts sc a w (own_tree k))

  children_told : (k : Forest) → Each Tally k → Genuine recs k → (fn : Words) (a : Role) (j : ℕ)
      → Tells Counted (child_visit (visits_of t (full sc) k) fn a j) (child_markers (markers_in sc (own_tree k)) a j)
  children_told none h g fn a j = λ s c q. (omega arith, q)
  children_told (tree r w k s) (h, hs) (e, f, g, gs) fn a zero = subst (λ (n : ℕ). Tells Counted (visit_of t (full sc) r w k a fn) n) (node_same sc a w (own_tree k))
      (h e f g a fn)
  children_told (tree r w k s) (h, hs) (e, f, g, gs) fn a (suc j) = children_told s hs gs fn a j

  stream_told : (r : ℕ) (w : Words) (k : Forest) → Each Tally k → Genuine recs k
      → Tells Counted (stream t (full sc) r w k (visits_of t (full sc) k)) (markers_counted sc w (own_tree k))
  unfolding stream markers_counted
  stream_told r w k h g =
      exec_told Counted sc t w r w k (child_visit (visits_of t (full sc) k) w) idle (child_markers (markers_in sc (own_tree k))) (child_back k w) (λ s c. c)
      (children_told k h g w) (stream_steps w) [] (go (is_do w))
    where
      go : (b : Bool) → All-fine Counted sc t w r w k (child_visit (visits_of t (full sc) k) w) idle (child_markers (markers_in sc (own_tree k))) (child_back k w) (λ s c. c)
          (children_told k h g w) (cond b (expr 0 ∷ expr 1 ∷ push_op Pop 0 ∷ push_op LoadLocals 0 ∷ push_op Return 0 ∷ []) (expr 0 ∷ expr 1 ∷ push_op Return 0 ∷ []))
      go true = (tt, (tt, (tt, (tt, (tt, tt)))))
      go false = (tt, (tt, (tt, tt)))

  function_told : (r : ℕ) (w : Words) (k : Forest) → Each Tally k → w ≡ words recs r → k ≡ children recs r → Genuine recs k
      → Tells Counted (nested true r w (stream t (full sc) r w k (visits_of t (full sc) k))) 0
  function_told r w k h e f g =
      nested_told Counted r w (markers_counted sc w (own_tree k))
      (λ m l os z. z ∙ ap (λ (x : Words). markers_counted sc x (own_tree k)) e ∙ ap (λ (x : Forest). markers_counted sc (words recs r) (own_tree x)) f)
      (stream t (full sc) r w k (visits_of t (full sc) k)) (stream_told r w k h g)

  tally_step : (r : ℕ) (w : Words) (k : Forest) → Each Tally k → Tally r w k
  tally_step r w k h e f g a fn =
      let vs = child_visit (visits_of t (full sc) k) fn in
      let body = stream t (full sc) r w k (visits_of t (full sc) k) in
      let ks = child_markers (markers_in sc (own_tree k)) in
      let jump_back : Clean-back body = writes_clean body (body_seg sc t r w k) (stream_writes sc t r w k) in
      exec_told Counted sc t fn r w k vs body ks (child_back k fn) jump_back (children_told k h g fn) (steps sc a w (own_tree k)) []
      (all_fine Counted sc t fn r w k vs body ks (child_back k fn) jump_back (children_told k h g fn) (function_told r w k h e f g) (steps sc a w (own_tree k)))

  -- every stream of a run that ends clean
  pub run_markers : Clean (run sc t recs) → Every Counted (side (run sc t recs)).streams
  unfolding run
  run_markers c =
      let k = children recs 0 in
      (function_told 0 (words recs 0) k (each Tally tally_step k) refl refl (genuine recs (first recs 0)) nothing c tt).1

  -- and that of each function met, by its number
  pub met_markers : Clean (run sc t recs) → (n : ℕ) → n < (side (run sc t recs)).met → Counted (stream_numbered (side (run sc t recs)).streams n)
  met_markers c n h =
      (stream_found Counted (side (run sc t recs)).streams n (run_markers c)
      (omega (arith, run_numbered sc t recs n, inside_at 0 (side (run sc t recs)).met n (omega arith) (omega arith)))).0
