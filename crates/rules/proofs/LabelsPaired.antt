-- Number 14, "lengths differ": a run that ends clean met no AssignMulti with two sides of other lengths. That it visited every record which can be one
-- follows from `steps_count`, which holds whatever the children count: here each child counts its faults, and none that is visited has any.
-- Assumes nothing.
use mathlib.Core.Path.{◌≡◌, refl, sym, ap, subst}
use mathlib.Core.Bool.{Bool, true, false, cond, ◌&&◌, ◌||◌}
use mathlib.Core.List.{List, [], ◌∷◌}
use Prim.Native.Nat.{ℕ, zero, suc, ◌+◌, ◌%◌, ◌≤◌}
use native.Mathlib.Omega.{arith}
use lib.Dec.{T, eqb, eqb→eq}
use Rattle.tables.specs.Record.{Words, words, is_kind, is_function, is_do}
use Rattle.tables.specs.Forest.{Forest, none, tree, children, root, Nodes, bare, own_tree}
use Rattle.tables.specs.declared.children.Class.TheVariants.{Params, Block}
use Rattle.tables.specs.declared.refusal.RunRule.{RunRule}
use Rattle.tables.specs.declared.refusal.RunRule.TheVariants.{Lengths}
use Rattle.tables.specs.Children.{fits, suits, words_of, node_words}
use Rattle.tables.proofs.ForestLaws.{Each, each}
use Rattle.pool.specs.Value.{function}
use Rattle.rules.specs.declared.StackCode.{StackCode}
use Rattle.rules.specs.declared.StackCode.TheVariants.{Code1}
use Rattle.rules.specs.Marker.{Mark, Pop, LoadLocals, Return, Call}
use Rattle.rules.specs.Step.{
  Role,
  Expr,
  Callee,
  Tail,
  Target,
  Before,
  After,
  Keep,
  pass,
  keep,
  Step,
  push_op,
  push_const,
  get_label,
  place,
  jump,
  jump_back,
  visit,
  begin_loop,
  end_loop,
  exit,
  check_return,
  access,
  refuse,
  inner,
  expr,
  load,
  null,
  visits,
  visits_down,
  width,
}
use Rattle.rules.specs.Arms.{stream_steps, method_steps}
use Rattle.rules.specs.Kinds.{kinds, steps_of, steps}
use Rattle.rules.specs.declared.Flow.TheVariants.{Go, Cut, Refused}
use Rattle.rules.specs.Run.{
  Lookup,
  Loop,
  Side,
  State,
  st,
  halt,
  settle,
  kept,
  anew,
  returned,
  entered,
  nested,
  idle,
  keeping,
  full,
  act,
  exec,
  child_visit,
  stream,
  visits_of,
  nothing,
  run,
}
use Rattle.rules.proofs.Segment.{Seg, no_seg, seg_count, seg_of, body_seg}
use Rattle.rules.proofs.Writes.{Clean, Clean-back, writes_clean, cut_go, refused_go, settle_clean, clean_back}
use Rattle.rules.proofs.Visits.{visit_of, visit_writes, stream_writes}
use Rattle.rules.proofs.Shapes.{Shaped}
use Rattle.rules.proofs.LabelShapes.{formed, own_words, kind_at, AllKinds, sum, sum_zero, expected_as, plays, quiet, quiet_cases}
use Rattle.rules.proofs.LabelSteps.{Counts, reaches, double}
use Rattle.rules.proofs.LabelKinds.{steps_count}
use Rattle.rules.proofs.LabelsCounted.{paired, Paired, sum_shift, quiet_below}

abbrev fault : Bool → ℕ
fault b = cond b 0 1

-- how many AssignMultis have sides of other lengths, inside Functions too
abbrev pub unpaired : Forest → ℕ
unpaired none = 0
unpaired (tree r w k s) = fault (paired w (own_tree k)) + (unpaired k + unpaired s)

abbrev unpaired_at : Forest → ℕ → ℕ
unpaired_at none j = 0
unpaired_at (tree r w k s) zero = fault (paired w (own_tree k)) + unpaired k
unpaired_at (tree r w k s) (suc j) = unpaired_at s j

unpaired_sum : (f : Forest) → unpaired f ≡ sum (unpaired_at f) 0 (width (own_tree f))
unpaired_sum none = refl
unpaired_sum (tree r w k s) = omega (arith, unpaired_sum s, sum_shift (unpaired_at (tree r w k s)) (unpaired_at s) (λ i. refl) 0 (width (own_tree s)))

none_true : (c : Bool) → fault c ≡ 0 → T c
none_true true e = tt
none_true false e = absurd (omega arith)

-- so none is in a function's own tree
pub own_paired : (f : Forest) → unpaired f ≡ 0 → Paired (own_tree f)
own_paired none e = tt
own_paired (tree r w k s) e = go (is_function w) refl (none_true (paired w (own_tree k)) (omega arith)) (own_paired k (omega arith)) (own_paired s (omega arith))
  where
    go : (b : Bool) → is_function w ≡ b → T (paired w (own_tree k)) → Paired (own_tree k) → Paired (own_tree s)
        → T (paired w (cond b bare (own_tree k))) × Paired (cond b bare (own_tree k)) × Paired (own_tree s)
    go true q x p ps =
        (subst (λ (n : ℕ). T (cond (eqb n 27) (eqb (w.p + w.p) (width bare)) true)) (sym (eqb→eq w.kind 30 (subst T (sym q) tt))) tt, tt, ps)
    go false q x p ps = (x, p, ps)

-- what is never visited has none
or_right : (a b : Bool) → T b → T (a || b)
or_right true b p = tt
or_right false b p = p

quiet_one : (w : Words) (k : Forest) → T (quiet w.kind) → T (suits w (words_of k)) → (fault (paired w (own_tree k)) ≡ 0) × AllKinds quiet (own_tree k)
quiet_one w k q m =
    let N = own_tree k in
    let z : ◌≡◌ {A = ℕ} 0 0 = refl in (
      quiet_cases (λ n. fault (cond (eqb n 27) (eqb (w.p + w.p) (width N)) true) ≡ 0) z z z z z z z w.kind q,
      (quiet_below Code1 w N q (or_right (is_function w) _ (subst (λ xs. T (suits w xs)) (own_words k) m))).1,
    )

quiet_unpaired : (f : Forest) → Shaped f → AllKinds quiet (own_tree f) → unpaired f ≡ 0
quiet_unpaired none m q = refl
quiet_unpaired (tree r w k s) (m, mk, ms) (q, qs) = let g = quiet_one w k q m in omega (arith, g.0, quiet_unpaired k mk g.1, quiet_unpaired s ms qs)

quiet_at : (f : Forest) → Shaped f → (j : ℕ) → T (quiet (kind_at (own_tree f) j)) → unpaired_at f j ≡ 0
quiet_at none m j q = refl
quiet_at (tree r w k s) (m, mk, ms) zero q = let g = quiet_one w k q m in omega (arith, g.0, quiet_unpaired k mk g.1)
quiet_at (tree r w k s) (m, mk, ms) (suc j) q = quiet_at s ms j q

absent_at : (f : Forest) (j : ℕ) → width (own_tree f) ≤ j → unpaired_at f j ≡ 0
absent_at none j g = refl
absent_at (tree r w k s) zero g = absurd (omega arith)
absent_at (tree r w k s) (suc j) g = absent_at s j (omega arith)

-- Child of every child visited, Body of the body of a Function, and no refusal
module _ (Child : Role → ℕ → Type 0) (Body : Type 0) where
  abbrev Clear : List Step → Type 0
  Clear [] = Unit {0}
  Clear (push_op c x ∷ is) = Clear is
  Clear (push_const c p v ∷ is) = Clear is
  Clear (get_label ∷ is) = Clear is
  Clear (place i ∷ is) = Clear is
  Clear (jump h i ∷ is) = Clear is
  Clear (jump_back i ∷ is) = Clear is
  Clear (visit y a j ∷ is) = Child a j × Clear is
  Clear (begin_loop i j ∷ is) = Clear is
  Clear (end_loop ∷ is) = Clear is
  Clear (exit x ∷ is) = Clear is
  Clear (check_return ∷ is) = Clear is
  Clear (access u p ∷ is) = Clear is
  Clear (refuse x ∷ is) = ⊥
  Clear (inner ∷ is) = Body × Clear is

  module _ (sc : StackCode) (t : Lookup) (fn : Words) (r : ℕ) (w : Words) (k : Forest) (vs : Role → ℕ → State → State) (body : State → State)
      (child-clean : (x : Role) (j : ℕ) → Clean-back (vs x j)) (Body-Clean : Clean-back body)
      (child : (a : Role) (j : ℕ) (s : State) → Clean (vs a j s) → Child a j) (own : (s : State) → Clean (body s) → Body) where
    keeping_clear : (y : Keep) (a : Role) (j : ℕ) (s : State) → Clean (keeping y (vs a j) s) → Child a j
    unfolding kept
    keeping_clear pass a j s c = child a j s c
    keeping_clear keep a j (st m l ls os Go e) c = child a j (st m l ls os Go e) (settle_clean (vs a j (st m l ls os Go e)) c)
    keeping_clear keep a j (st m l ls os (Cut x p q) e) c = absurd (cut_go x p q c.0)
    keeping_clear keep a j (st m l ls os (Refused n i) e) c = absurd (refused_go n i c.0)

    halt_never : (x : RunRule) (s : State) → Clean (halt (Refused x r) s) → ⊥
    unfolding halt
    halt_never x (st m l ls os Go e) c = refused_go x r c.0
    halt_never x (st m l ls os (Cut k a b) e) c = cut_go k a b c.0
    halt_never x (st m l ls os (Refused n i) e) c = refused_go n i c.0

    returned_clear : (m : List Mark) (l : ℕ) (ls os : List Loop) → Clean-back (returned r w m l ls os)
    returned_clear m l ls os (st m' l' ls' os' f e) c = c

    entered_clear : (b : Bool) (m : List Mark) (l : ℕ) (ls os : List Loop) (e : Side) → Clean (entered b r w body m l ls os e) → Body
    entered_clear true m l ls os e c = own (anew e) (settle_clean (body (anew e)) (returned_clear m l ls os (settle (body (anew e))) c))
    entered_clear false m l ls os e c = absurd (refused_go _ r c.0)

    nested_clear : (s : State) → Clean (nested true r w body s) → Body
    unfolding nested
    nested_clear (st m l ls os Go e) c = entered_clear (eqb w.p e.met) m l ls os e c
    nested_clear (st m l ls os (Cut x p q) e) c = absurd (cut_go x p q c.0)
    nested_clear (st m l ls os (Refused n i) e) c = absurd (refused_go n i c.0)

    abbrev after_step : Step → List ℕ → State → State
    after_step x env s = act t (full sc) fn r w k vs body x env s

    exec_clear : (is : List Step) (env : List ℕ) (s : State) → Clean (exec t (full sc) fn r w k vs body is env s) → Clear is
    unfolding exec
    exec_clear [] env s c = tt
    exec_clear (push_op y x ∷ is) env s c = exec_clear is _ (after_step (push_op y x) env s) c
    exec_clear (push_const y p v ∷ is) env s c = exec_clear is _ (after_step (push_const y p v) env s) c
    exec_clear (get_label ∷ is) env s c = exec_clear is _ (after_step get_label env s) c
    exec_clear (place i ∷ is) env s c = exec_clear is _ (after_step (place i) env s) c
    exec_clear (jump h i ∷ is) env s c = exec_clear is _ (after_step (jump h i) env s) c
    exec_clear (jump_back i ∷ is) env s c = exec_clear is _ (after_step (jump_back i) env s) c
    exec_clear (visit y a j ∷ is) env s c =
        let u = after_step (visit y a j) env s in
        (keeping_clear y a j s (clean_back t (full sc) fn r w k vs body child-clean Body-Clean is _ u c), exec_clear is _ u c)
    exec_clear (begin_loop i j ∷ is) env s c = exec_clear is _ (after_step (begin_loop i j) env s) c
    exec_clear (end_loop ∷ is) env s c = exec_clear is _ (after_step end_loop env s) c
    exec_clear (exit x ∷ is) env s c = exec_clear is _ (after_step (exit x) env s) c
    exec_clear (check_return ∷ is) env s c = exec_clear is _ (after_step check_return env s) c
    exec_clear (access u p ∷ is) env s c = exec_clear is _ (after_step (access u p) env s) c
    exec_clear (refuse x ∷ is) env s c = halt_never x s (clean_back t (full sc) fn r w k vs body child-clean Body-Clean is _ (after_step (refuse x) env s) c)
    exec_clear (inner ∷ is) env s c =
        let u = after_step inner env s in
        (nested_clear s (clean_back t (full sc) fn r w k vs body child-clean Body-Clean is _ u c), exec_clear is _ u c)

  -- children that count nothing may as well not be there
  module _ (t : Lookup) (fn : Words) (r : ℕ) (w : Words) (k : Forest) (ks : Role → ℕ → Seg) (body : Seg)
      (zero-count : (a : Role) (j : ℕ) → Child a j → (ks a j).count ≡ 0) where
    clear_count : (is : List Step) → Clear is → seg_count t fn r w k ks body is ≡ seg_count t fn r w k (λ a j. no_seg) body is
    unfolding seg_count
    clear_count [] c = refl
    clear_count (push_op y x ∷ is) c = clear_count is c
    clear_count (push_const y p v ∷ is) c = clear_count is c
    clear_count (get_label ∷ is) c = ap suc (clear_count is c)
    clear_count (place i ∷ is) c = clear_count is c
    clear_count (jump h i ∷ is) c = clear_count is c
    clear_count (jump_back i ∷ is) c = clear_count is c
    clear_count (visit y a j ∷ is) (v, c) = omega (arith, zero-count a j v, clear_count is c)
    clear_count (begin_loop i j ∷ is) c = clear_count is c
    clear_count (end_loop ∷ is) c = clear_count is c
    clear_count (exit x ∷ is) c = clear_count is c
    clear_count (check_return ∷ is) c = clear_count is c
    clear_count (access u p ∷ is) c = clear_count is c
    clear_count (refuse x ∷ is) c = absurd c
    clear_count (inner ∷ is) (v, c) = clear_count is c

-- the steps of a kind that has none of its own in any role
plain_steps : (P : List Step → Type 0) (sc : StackCode) (a : Role) (w : Words) (N : Nodes) (n : ℕ) → w.kind ≡ n → eqb n 12 ≡ false → eqb n 13 ≡ false → eqb n 34 ≡
    false → T (plays a w.kind)
    → P (steps sc a w N) → P (steps_of n (kinds sc) w N)
unfolding steps
plain_steps P sc Expr w N n e x y z q p = subst (λ (m : ℕ). P (steps_of m (kinds sc) w N)) e p
plain_steps P sc Callee w N n e x y z q p =
    let m = eqb (w.detail % 8) 1 || eqb (w.detail % 8) 4 in
    let p' : P (cond (eqb n 12 && m) (method_steps sc w N) (steps_of n (kinds sc) w N)) =
    subst (λ (i : ℕ). P (cond (eqb i 12 && m) (method_steps sc w N) (steps_of i (kinds sc) w N))) e p in
    subst (λ b. P (cond (b && m) (method_steps sc w N) (steps_of n (kinds sc) w N))) x p'
plain_steps P sc Tail w N n e x y z q p = absurd (subst T y (subst (λ (i : ℕ). T (eqb i 13)) e q))
plain_steps P sc Target w N n e x y z q p = absurd (subst T z (subst (λ (i : ℕ). T (eqb i 34)) e q))
plain_steps P sc Before w N n e x y z q p = absurd (subst T z (subst (λ (i : ℕ). T (eqb i 34)) e q))
plain_steps P sc After w N n e x y z q p = absurd q

-- a segment of which only the count matters
abbrev counting : ℕ → Seg
counting n = record { count = n; code = λ b ls. []; log = λ b. []; funs = 0; made = [] }

if_true : (b : Bool) (x y : ℕ) → T b → cond b x y ≡ x
if_true true x y t = refl
if_true false x y t = absurd t

both_zero : (b : Bool) (x : ℕ) → x ≡ 0 → cond b x 0 ≡ 0
both_zero true x e = e
both_zero false x e = refl

nothing_counted : (N : Nodes) → Counts (λ a j. no_seg) (λ j. 0) N
nothing_counted N = record { visits = λ a j p. refl; afters = λ j. refl; absent = λ a j g. refl; silent = λ j q. refl }

module _ (sc : StackCode) (t : Lookup) where
  child_back : (k : Forest) (fn : Words) (a : Role) (j : ℕ) → Clean-back (child_visit (visits_of t (full sc) k) fn a j)
  child_back none fn a j = λ s c. c
  child_back (tree r w k s) fn a zero = writes_clean (visit_of t (full sc) r w k a fn) (seg_of sc t r w k a fn) (visit_writes sc t r w k a fn)
  child_back (tree r w k s) fn a (suc j) = child_back s fn a j

  stream_back : (r : ℕ) (w : Words) (k : Forest) → Clean-back (stream t (full sc) r w k (visits_of t (full sc) k))
  stream_back r w k = writes_clean (stream t (full sc) r w k (visits_of t (full sc) k)) (body_seg sc t r w k) (stream_writes sc t r w k)

  -- a visit that ends clean found all lengths right
  abbrev Right-lengths : ℕ → Words → Forest → Type 0
  Right-lengths r w k =
      T (suits w (words_of k)) → Shaped k → (a : Role) (fn : Words) → T (plays a w.kind) → (s : State) → Clean (visit_of t (full sc) r w k a fn s)
      → fault (paired w (own_tree k)) + unpaired k ≡ 0

  child_right : (k : Forest) → Each Right-lengths k → Shaped k → (fn : Words) (a : Role) (j : ℕ) → T (plays a (kind_at (own_tree k) j)) → (s : State)
      → Clean (child_visit (visits_of t (full sc) k) fn a j s) → unpaired_at k j ≡ 0
  child_right none h m fn a j q s c = refl
  child_right (tree r w k s) (h, hs) (m, mk, ms) fn a zero q u c = h m mk a fn q u c
  child_right (tree r w k s) (h, hs) (m, mk, ms) fn a (suc j) q u c = child_right s hs ms fn a j q u c

  module _ (k : Forest) (h : Each Right-lengths k) (m : Shaped k) where
    -- each child as a segment that counts its faults
    abbrev faults : Role → ℕ → Seg
    faults a j = counting (cond (plays a (kind_at (own_tree k) j)) (unpaired_at k j) 0)

    abbrev NoFault : Role → ℕ → Type 0
    NoFault a j = (faults a j).count ≡ 0

    faults_counted : Counts faults (unpaired_at k) (own_tree k)
    faults_counted =
        record {
          visits = λ a j p. if_true (plays a (kind_at (own_tree k) j)) (unpaired_at k j) 0 p;
          afters = λ j. refl;
          absent = λ a j g. both_zero (plays a (kind_at (own_tree k) j)) (unpaired_at k j) (absent_at k j g);
          silent = quiet_at k m;
        }

    no_fault : (fn : Words) (a : Role) (j : ℕ) (s : State) → Clean (child_visit (visits_of t (full sc) k) fn a j s) → NoFault a j
    no_fault fn a j s c = go (plays a (kind_at (own_tree k) j)) (λ q. child_right k h m fn a j q s c)
      where
        go : (b : Bool) → (T b → unpaired_at k j ≡ 0) → cond b (unpaired_at k j) 0 ≡ 0
        go true f = f tt
        go false f = refl

    -- a Function's own stream
    stream_right : (r : ℕ) (w : Words) → w.kind ≡ 30 → T (suits w (words_of k)) → (s : State) → Clean (stream t (full sc) r w k (visits_of t (full sc) k) s) → unpaired k ≡ 0
    unfolding stream
    stream_right r w e u s c =
        let N = own_tree k in
        let l =
        exec_clear NoFault (Unit {0}) sc t w r w k (child_visit (visits_of t (full sc) k) w) idle (child_back k w) (λ s c. c) (no_fault w) (λ s c. tt) (stream_steps w) [] s c in
        let f = subst (λ (n : ℕ). T (fits (expected_as n w) (node_words N))) e (subst (λ xs. T (suits w xs)) (own_words k) u) in
        omega (arith, unpaired_sum k, double t w r w k faults no_seg N (unpaired_at k) faults_counted Params Block tt tt f, go (is_do w) l)
      where
        go : (b : Bool) → Clear NoFault (Unit {0}) (cond b (expr 0 ∷ expr 1 ∷ push_op Pop 0 ∷ push_op LoadLocals 0 ∷ push_op Return 0 ∷ []) (expr 0 ∷ expr 1 ∷ push_op
            Return 0 ∷ []))
            → (faults Expr 0).count + (faults Expr 1).count ≡ 0
        go true (x, (y, z)) = omega (arith, x, y)
        go false (x, (y, z)) = omega (arith, x, y)

    -- an AssignMulti with other lengths is refused
    multi_right : (Body : Type 0) (w : Words) (a : Role) → T (plays a w.kind) → Clear NoFault Body (steps sc a w (own_tree k)) → T (paired w (own_tree k))
    multi_right Body w a q c = go (is_kind 27 w) refl
      where
        even : (b : Bool) → Clear NoFault Body (cond b (visits Expr w.p w.p (visits_down Target w.p (null ∷ []))) (refuse Lengths ∷ [])) → T b
        even true c = tt
        even false c = c

        go : (b : Bool) → is_kind 27 w ≡ b → T (cond b (eqb (w.p + w.p) (width (own_tree k))) true)
        go true e =
            even (eqb (w.p + w.p) (width (own_tree k)))
            (plain_steps (λ is. Clear NoFault Body is) sc a w (own_tree k) 27 (eqb→eq w.kind 27 (subst T (sym e) tt)) refl refl refl q c)
        go false e = tt

    -- any record but a Function: what is visited has no fault, and all is visited that could have one
    record_right : (Body : Type 0) (r : ℕ) (w : Words) (a : Role) (fn : Words) → is_function w ≡ false → T (suits w (words_of k)) → T (plays a w.kind)
        → Clear NoFault Body (steps sc a w (own_tree k)) → fault (paired w (own_tree k)) + unpaired k ≡ 0
    record_right Body r w a fn e u q c =
        let N = own_tree k in
        let x = multi_right Body w a q c in
        let f : T (suits w (node_words N)) = subst (λ xs. T (suits w xs)) (own_words k) u in
        let y : T (reaches w.kind w N) = subst (λ b. T (cond b false (paired w N))) (sym e) x in
        omega (
          arith,
          if_true (paired w N) 0 1 x,
          steps_count sc t fn r w k faults no_seg a w N (unpaired_at k) faults_counted q f (formed k m) y,
          steps_count sc t fn r w k (λ a j. no_seg) no_seg a w N (λ j. 0) (nothing_counted N) q f (formed k m) y,
          clear_count NoFault Body t fn r w k faults no_seg (λ a j z. z) (steps sc a w N) c,
          sum_zero (λ j. 0) 0 (width N) (λ i g l. refl),
          unpaired_sum k,
        )

    -- a Function: its body has been run
    function_right : (w : Words) (a : Role) → w.kind ≡ 30 → T (plays a w.kind) → Clear NoFault (unpaired k ≡ 0) (steps sc a w (own_tree k))
        → fault (paired w (own_tree k)) + unpaired k ≡ 0
    function_right w a e q c =
        let z : fault (paired w (own_tree k)) ≡ 0 =
        subst (λ (n : ℕ). fault (cond (eqb n 27) (eqb (w.p + w.p) (width (own_tree k))) true) ≡ 0) (sym e) refl in
        omega (arith, z, go (is_do w) (plain_steps (λ is. Clear NoFault (unpaired k ≡ 0) is) sc a w (own_tree k) 30 e refl refl refl q c))
      where
        go : (b : Bool) → Clear NoFault (unpaired k ≡ 0) (cond b (inner ∷ load (function w.p) ∷ push_op Call 0 ∷ []) (inner ∷ load (function w.p) ∷ [])) → unpaired k ≡ 0
        go true (x, y) = x
        go false (x, y) = x

  right_step : (r : ℕ) (w : Words) (k : Forest) → Each Right-lengths k → Right-lengths r w k
  right_step r w k h u m a fn q s c = go (is_function w) refl
    where
      vs : Role → ℕ → State → State
      vs = child_visit (visits_of t (full sc) k) fn

      clear : (Body : Type 0) → ((s : State) → Clean (stream t (full sc) r w k (visits_of t (full sc) k) s) → Body) → Clear (NoFault k h m) Body (steps sc a w (own_tree k))
      clear Body own =
          exec_clear (NoFault k h m) Body sc t fn r w k vs (stream t (full sc) r w k (visits_of t (full sc) k)) (child_back k fn) (stream_back r w k) (no_fault k h m fn) own
          (steps sc a w (own_tree k)) [] s c

      go : (b : Bool) → is_function w ≡ b → fault (paired w (own_tree k)) + unpaired k ≡ 0
      go true e =
          let i = eqb→eq w.kind 30 (subst T (sym e) tt) in
          function_right k h m w a i q (clear (unpaired k ≡ 0) (stream_right k h m r w i u))
      go false e = record_right k h m (Unit {0}) r w a fn e u q (clear (Unit {0}) (λ s c. tt))

  all_right : (f : Forest) → Each Right-lengths f
  all_right f = each Right-lengths right_step f

  -- a function's stream that ends clean, with all functions inside
  pub stream_unpaired : (r : ℕ) (w : Words) (k : Forest) → w.kind ≡ 30 → T (suits w (words_of k)) → Shaped k → (s : State)
      → Clean (stream t (full sc) r w k (visits_of t (full sc) k) s) → unpaired k ≡ 0
  stream_unpaired r w k e u m = stream_right k (all_right k) m r w e u

  -- the whole run
  pub run_unpaired : (recs : List ℕ) → (words recs 0).kind ≡ 30 → Shaped (root recs) → Clean (run sc t recs) → unpaired (root recs) ≡ 0
  unfolding run
  run_unpaired recs e (u, m, z) c =
      let w = words recs 0 in
      let k = children recs 0 in
      let x =
      nested_clear (λ a j. Unit {0}) (unpaired k ≡ 0) sc t w 0 w k (λ a j s. s) (stream t (full sc) 0 w k (visits_of t (full sc) k)) (λ a j s c. c) (stream_back 0 w k)
      (λ a j s c. tt)
      (stream_unpaired 0 w k e u m) nothing c in
      let y : fault (paired w (own_tree k)) ≡ 0 = subst (λ (n : ℕ). fault (cond (eqb n 27) (eqb (w.p + w.p) (width (own_tree k))) true) ≡ 0) (sym e) refl in
      omega (arith, x, y)
