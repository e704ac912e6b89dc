-- Two look-ups that agree on every record of a tree, in the function that it stands in, give the same run. Assumes nothing.
use mathlib.Core.Path.{◌≡◌, refl, ap, ◌∙◌}
use mathlib.Core.Bool.{Bool, true, false, cond}
use mathlib.Core.List.{List, [], ◌∷◌}
use Prim.Native.Nat.{ℕ, zero, suc}
use lib.ListN.{get_or}
use lib.Dec.{T, eqb}
use borrow.Author.Tests.{eqb-true, eqb-false}
use Rattle.tables.specs.Record.{Words, is_do, is_function}
use Rattle.tables.specs.Forest.{Forest, none, tree, Nodes, own_tree}
use Rattle.tables.proofs.ForestLaws.{and_r}
use Rattle.pool.specs.Value.{function}
use Rattle.pool.specs.Names.{Access}
use Rattle.rules.specs.declared.Flow.TheVariants.{Go, Cut, Refused}
use Rattle.rules.specs.Marker.{LoadConst, Pop, LoadLocals, Call, Return, Load, Do, mark}
use Rattle.rules.specs.Step.{
  Role,
  Expr,
  Keep,
  pass,
  keep,
  Use,
  ChildPath,
  Step,
  push_op,
  push_const,
  get_label,
  place,
  jump,
  jump_back,
  visit,
  begin_loop,
  end_loop,
  exit,
  check_return,
  access,
  refuse,
  inner,
  expr,
  load,
}
use Rattle.rules.specs.Arms.{function_steps}
use Rattle.rules.specs.Kinds.{steps}
use Rattle.rules.specs.Run.{State, st, emit, here, nowhere, from_tree, spot_below, spot_at, number_of, Lookup, sought, settle, kept, anew, returned, entered, nested}
use Rattle.rules.specs.Run.{idle, keeping, Mode, exec, Visit, absent, child_visit, stream, visit_alg, visits_of, function_run, flat, alone}
use Rattle.rules.proofs.StepsOk.{function_only}
use Rattle.rules.proofs.Tame.{no_name, no_function, pure}
use Rattle.rules.proofs.Pure.{steps_pure}

-- the function that the children of a record stand in
abbrev pub inside : Words → Words → Words
inside fn w = cond (is_function w) w fn

-- on every record of the trees, which stand in the function fn
unfoldable pub Alike : Lookup → Lookup → Words → Forest → Type 0
Alike L M fn none = Unit {0}
Alike L M fn (tree r w k s) = ((u : Use) → L fn u (here r w) ≡ M fn u (here r w)) × Alike L M (inside fn w) k × Alike L M fn s

-- on what is not there
abbrev pub Nowhere : Lookup → Lookup → Type 0
Nowhere L M = (fn : Words) (u : Use) → L fn u nowhere ≡ M fn u nowhere

module _ (L M : Lookup) (absent-same : Nowhere L M) where
  from_alike : (fn : Words) (j : ℕ) (f : Forest) → Alike L M fn f → Alike L M fn (from_tree j f)
  unfolding Alike
  from_alike fn zero f h = h
  from_alike fn (suc j) none h = tt
  from_alike fn (suc j) (tree r w k s) h = from_alike fn j s h.2

  below_same : (fn : Words) (u : Use) (f : Forest) (js : ChildPath) → Alike L M fn f → L fn u (spot_below f js) ≡ M fn u (spot_below f js)
  unfolding Alike
  below_same fn u none [] h = absent-same fn u
  below_same fn u none (j ∷ js) h = absent-same fn u
  below_same fn u (tree r w k s) [] h = h.0 u
  below_same fn u (tree r w k s) (j ∷ js) h = go (is_function w) h.1 (λ q. below_same fn u (from_tree j k) js (from_alike fn j k q))
    where
      go : (b : Bool) → Alike L M (cond b w fn) k → (Alike L M fn k → L fn u (spot_below (from_tree j k) js) ≡ M fn u (spot_below (from_tree j k) js))
          → L fn u (cond b nowhere (spot_below (from_tree j k) js)) ≡ M fn u (cond b nowhere (spot_below (from_tree j k) js))
      go true q ih = absent-same fn u
      go false q ih = ih q

  module _ (o : Mode) where
    kept_same : (v v' : State → State) → ((s : State) → v s ≡ v' s) → (s : State) → kept v s ≡ kept v' s
    unfolding kept
    kept_same v v' h (st m l ls os Go e) = ap settle (h (st m l ls os Go e))
    kept_same v v' h (st m l ls os (Cut k a b) e) = refl
    kept_same v v' h (st m l ls os (Refused n r) e) = refl

    keeping_same : (y : Keep) (v v' : State → State) → ((s : State) → v s ≡ v' s) → (s : State) → keeping y v s ≡ keeping y v' s
    keeping_same pass v v' h s = h s
    keeping_same keep v v' h s = kept_same v v' h s

    nested_same : (b : Bool) (r : ℕ) (w : Words) (v v' : State → State) → ((s : State) → v s ≡ v' s) → (s : State) → nested b r w v s ≡ nested b r w v' s
    unfolding nested
    nested_same false r w v v' h s = refl
    nested_same true r w v v' h (st m l ls os Go e) = go (eqb w.p e.met)
      where
        go : (b : Bool) → entered b r w v m l ls os e ≡ entered b r w v' m l ls os e
        go true = ap (λ (s : State). returned r w m l ls os (settle s)) (h (anew e))
        go false = refl
    nested_same true r w v v' h (st m l ls os (Cut k a b) e) = refl
    nested_same true r w v v' h (st m l ls os (Refused n q) e) = refl

    module _ (fn : Words) (r : ℕ) (w : Words) (k : Forest) (vs vs' : Role → ℕ → State → State) (body body' : State → State)
        (visits_same : (a : Role) (j : ℕ) (s : State) → vs a j s ≡ vs' a j s)
        (looks_same : (u : Use) (p : ChildPath) → L fn u (spot_at (tree r w k none) p) ≡ M fn u (spot_at (tree r w k none) p)) where
      exec_same : (is : List Step) → T (pure is) → (env : List ℕ) (s : State) → exec L o fn r w k vs body is env s ≡ exec M o fn r w k vs' body' is env s
      unfolding exec pure
      exec_same [] q env s = refl
      exec_same (push_op c x ∷ is) q env s = exec_same is (and_r (no_name c) (pure is) q) _ _
      exec_same (push_const c p v ∷ is) q env s = exec_same is (and_r (no_function v) (pure is) q) _ _
      exec_same (get_label ∷ is) q env s = exec_same is q _ _
      exec_same (place i ∷ is) q env s = exec_same is q _ _
      exec_same (jump h i ∷ is) q env s = exec_same is q _ _
      exec_same (jump_back i ∷ is) q env s = exec_same is q _ _
      exec_same (visit y a j ∷ is) q env s =
          ap (λ (z : State). exec L o fn r w k vs body is env z) (keeping_same y (vs a j) (vs' a j) (visits_same a j) s) ∙ exec_same is q env (keeping y (vs' a j) s)
      exec_same (begin_loop i j ∷ is) q env s = exec_same is q _ _
      exec_same (end_loop ∷ is) q env s = exec_same is q _ _
      exec_same (exit x ∷ is) q env s = exec_same is q _ _
      exec_same (check_return ∷ is) q env s = exec_same is q _ _
      exec_same (access u p ∷ is) q env s =
          let x = spot_at (tree r w k none) p in
          ap (λ (z : Access). exec L o fn r w k vs body is env (sought r u (number_of x) z s)) (looks_same u p) ∙ exec_same is q env (sought r u (number_of x) (M fn u x) s)
      exec_same (refuse x ∷ is) q env s = exec_same is q _ _
      exec_same (inner ∷ is) q env s = absurd q

    none_same : (fn : Words) (r : ℕ) (w : Words) (k : Forest) (vs vs' : Role → ℕ → State → State) (body body' : State → State) (s : State)
        → exec L o fn r w k vs body [] [] s ≡ exec M o fn r w k vs' body' [] [] s
    unfolding exec
    none_same fn r w k vs vs' body body' s = refl

    -- a Function's own steps
    function_same : (fn : Words) (r : ℕ) (w : Words) (k : Forest) (vs vs' : Role → ℕ → State → State) (body body' : State → State) → ((s : State) → body s ≡ body' s)
        → (ns : Nodes) (s : State) → exec L o fn r w k vs body (function_steps w ns) [] s ≡ exec M o fn r w k vs' body' (function_steps w ns) [] s
    unfolding exec
    function_same fn r w k vs vs' body body' h ns s = go (is_do w)
      where
        list : Bool → List Step
        list b = cond b (inner ∷ load (function w.p) ∷ push_op Call 0 ∷ []) (inner ∷ load (function w.p) ∷ [])

        go : (b : Bool) → exec L o fn r w k vs body (list b) [] s ≡ exec M o fn r w k vs' body' (list b) [] s
        go true = ap (λ (z : State). emit (mark r (Do Call 0)) (emit (mark r (Load LoadConst (function w.p))) z)) (nested_same o.nest r w body body' h s)
        go false = ap (λ (z : State). emit (mark r (Load LoadConst (function w.p))) z) (nested_same o.nest r w body body' h s)

    -- the record's own paths, where the children stand in the function fn
    own_paths : (fn : Words) (r : ℕ) (w : Words) (k : Forest) → ((u : Use) → L fn u (here r w) ≡ M fn u (here r w)) → Alike L M fn k → (u : Use) (p : ChildPath)
        → L fn u (spot_at (tree r w k none) p) ≡ M fn u (spot_at (tree r w k none) p)
    own_paths fn r w k own h u [] = own u
    own_paths fn r w k own h u (j ∷ js) = below_same fn u (from_tree j k) js (from_alike fn j k h)

    abbrev Same : Words → List Visit → List Visit → Type 0
    Same fn vs vs' = (j : ℕ) (a : Role) (s : State) → get_or vs j absent a fn s ≡ get_or vs' j absent a fn s

    stream_by : (r : ℕ) (w : Words) (k : Forest) (vs vs' : List Visit) → Same w vs vs' → (s : State) → stream L o r w k vs s ≡ stream M o r w k vs' s
    unfolding stream exec
    stream_by r w k vs vs' q s = go (is_do w)
      where
        both : (end : State → State) → end (get_or vs 1 absent Expr w (get_or vs 0 absent Expr w s)) ≡ end (get_or vs' 1 absent Expr w (get_or vs' 0 absent Expr w s))
        both end = ap (λ (z : State). end (get_or vs 1 absent Expr w z)) (q 0 Expr s) ∙ ap end (q 1 Expr (get_or vs' 0 absent Expr w s))

        do_end : State → State
        do_end z = emit (mark r (Do Return 0)) (emit (mark r (Do LoadLocals 0)) (emit (mark r (Do Pop 0)) z))

        fn_end : State → State
        fn_end z = emit (mark r (Do Return 0)) z

        list : Bool → List Step
        list b = cond b (expr 0 ∷ expr 1 ∷ push_op Pop 0 ∷ push_op LoadLocals 0 ∷ push_op Return 0 ∷ []) (expr 0 ∷ expr 1 ∷ push_op Return 0 ∷ [])

        go : (b : Bool) → exec L o w r w k (child_visit vs w) idle (list b) [] s ≡ exec M o w r w k (child_visit vs' w) idle (list b) [] s
        go true = both do_end
        go false = both fn_end

    record_by : (r : ℕ) (w : Words) (k : Forest) (fn : Words) → ((u : Use) → L fn u (here r w) ≡ M fn u (here r w)) → Alike L M (inside fn w) k
        → Same (inside fn w) (visits_of L o k) (visits_of M o k) → (a : Role) (s : State)
        → visit_alg L o r w k (visits_of L o k) a fn s ≡ visit_alg M o r w k (visits_of M o k) a fn s
    record_by r w k fn own h q a s = go (is_function w) refl h q
      where
        go : (b : Bool) → is_function w ≡ b → Alike L M (cond b w fn) k → Same (cond b w fn) (visits_of L o k) (visits_of M o k)
            → visit_alg L o r w k (visits_of L o k) a fn s ≡ visit_alg M o r w k (visits_of M o k) a fn s
        go true e h q =
            function_only (λ is. exec L o fn r w k (child_visit (visits_of L o k) fn) (stream L o r w k (visits_of L o k)) is [] s
            ≡ exec M o fn r w k (child_visit (visits_of M o k) fn) (stream M o r w k (visits_of M o k)) is [] s) o.code a w (own_tree k) (eqb-true w.kind 30 e)
            (none_same fn r w k _ _ _ _ s)
            (function_same fn r w k _ _ _ _ (stream_by r w k (visits_of L o k) (visits_of M o k) q) (own_tree k) s)
        go false e h q =
            exec_same fn r w k (child_visit (visits_of L o k) fn) (child_visit (visits_of M o k) fn) (stream L o r w k (visits_of L o k)) (stream M o r w k (visits_of M o k))
            (λ a j s. q j a s) (own_paths fn r w k own h) (steps o.code a w (own_tree k)) (steps_pure o.code a w (own_tree k) (eqb-false w.kind 30 e)) [] s

    pub visits_alike : (f : Forest) (fn : Words) → Alike L M fn f → Same fn (visits_of L o f) (visits_of M o f)
    unfolding Alike
    visits_alike none fn h j a s = refl
    visits_alike (tree r w k t) fn h zero a s = record_by r w k fn h.0 h.1 (visits_alike k (inside fn w) h.1) a s
    visits_alike (tree r w k t) fn h (suc j) a s = visits_alike t fn h.2 j a s

    -- a function's own stream
    pub stream_alike : (r : ℕ) (w : Words) (k : Forest) → Alike L M w k → (s : State) → stream L o r w k (visits_of L o k) s ≡ stream M o r w k (visits_of M o k) s
    stream_alike r w k h s = stream_by r w k (visits_of L o k) (visits_of M o k) (visits_alike k w h) s

    pub function_alike : (r : ℕ) (w : Words) (k : Forest) → Alike L M w k → (s : State) → function_run L o r w k s ≡ function_run M o r w k s
    function_alike r w k h s = nested_same true r w (stream L o r w k (visits_of L o k)) (stream M o r w k (visits_of M o k)) (stream_alike r w k h) s

  pub alone_alike : (o : Mode) (r : ℕ) (w : Words) (k : Forest) → Alike L M w k → alone L o r w k ≡ alone M o r w k
  unfolding alone
  alone_alike o r w k h = stream_alike (flat o) r w k h _
