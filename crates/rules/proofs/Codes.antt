-- "The rest is as in code 1" (document 02, job 11): trees with no Return, and no Member that isn't safe, have the same run in both codes. Assumes nothing.
use mathlib.Core.Path.{◌≡◌, refl, ◌∙◌, ap, ap₂, fun_ext}
use mathlib.Core.Bool.{Bool, true, false, not, ◌&&◌, ◌||◌}
use mathlib.Core.List.{List, [], ◌∷◌}
use Prim.Native.Nat.{ℕ}
use lib.Dec.{T, eqb, ltb}
use Rattle.tables.specs.Record.{Words, words, is_kind}
use Rattle.tables.specs.Forest.{Forest, none, tree, children, Nodes, own_tree}
use Rattle.pool.specs.Names.{Semantic}
use Rattle.rules.specs.declared.StackCode.{StackCode}
use Rattle.rules.specs.declared.StackCode.TheVariants.{Code1, Code2}
use Rattle.rules.specs.Step.{
  Role,
  Expr,
  Callee,
  Tail,
  Target,
  Before,
  After,
  Step,
  push_op,
  push_const,
  get_label,
  place,
  jump,
  jump_back,
  visit,
  begin_loop,
  end_loop,
  exit,
  check_return,
  access,
  refuse,
  inner,
}
use Rattle.rules.specs.Arms.{stream_steps}
use Rattle.rules.specs.Kinds.{steps}
use Rattle.rules.specs.Run.{
  Lookup,
  look,
  Loop,
  State,
  flow,
  side,
  nested,
  idle,
  Mode,
  exec,
  Visit,
  child_visit,
  stream,
  visit_alg,
  visits_of,
  nothing,
  run,
}
use Rattle.rules.specs.Out.{ended, outcome}

-- neither a Return nor a Member that isn't safe
abbrev pub in_both : Words → Bool
in_both w = not (is_kind 21 w) && (not (is_kind 12 w) || not (ltb w.detail 8))

-- of all records of some trees
abbrev pub InBoth : Forest → Type 0
InBoth none = Unit {0}
InBoth (tree r w k s) = T (in_both w) × InBoth k × InBoth s

other_same : (a : Role) (w : Words) (k : Nodes) → eqb w.kind 12 ≡ false → eqb w.kind 21 ≡ false → steps Code2 a w k ≡ steps Code1 a w k
unfolding steps
other_same Expr w k e f = rw (e, f) refl
other_same Callee w k e f = rw (e, f) refl
other_same Tail w k e f = refl
other_same Target w k e f = refl
other_same Before w k e f = refl
other_same After w k e f = refl

safe_same : (a : Role) (w : Words) (k : Nodes) → ltb w.detail 8 ≡ false → eqb w.kind 21 ≡ false → steps Code2 a w k ≡ steps Code1 a w k
unfolding steps
safe_same Expr w k e f = rw (e, f) refl
safe_same Callee w k e f = rw (e, f) refl
safe_same Tail w k e f = refl
safe_same Target w k e f = refl
safe_same Before w k e f = refl
safe_same After w k e f = refl

pub steps_same : (a : Role) (w : Words) (k : Nodes) → T (in_both w) → steps Code2 a w k ≡ steps Code1 a w k
steps_same a w k = go (eqb w.kind 21) (eqb w.kind 12) (ltb w.detail 8) refl refl refl
  where
    go : (x y z : Bool) → eqb w.kind 21 ≡ x → eqb w.kind 12 ≡ y → ltb w.detail 8 ≡ z → T (not x && (not y || not z)) → steps Code2 a w k ≡ steps Code1 a w k
    go true y z e f g h = absurd h
    go false false z e f g h = other_same a w k f e
    go false true true e f g h = absurd h
    go false true false e f g h = safe_same a w k g e

-- in any mode
module _ (t : Lookup) (nest : Bool) (trim : List Loop → List Loop) where
  abbrev mode : StackCode → Mode
  mode sc = record { code = sc; nest = nest; trim = trim }

  -- a list of steps does not look at the code
  exec_same : (fn : Words) (r : ℕ) (w : Words) (k : Forest) (vs : Role → ℕ → State → State) (body : State → State) (is : List Step) (env : List ℕ) (s : State)
      → exec t (mode Code2) fn r w k vs body is env s ≡ exec t (mode Code1) fn r w k vs body is env s
  unfolding exec
  exec_same fn r w k vs body [] env s = refl
  exec_same fn r w k vs body (push_op c x ∷ is) env s = exec_same fn r w k vs body is _ _
  exec_same fn r w k vs body (push_const c p v ∷ is) env s = exec_same fn r w k vs body is _ _
  exec_same fn r w k vs body (get_label ∷ is) env s = exec_same fn r w k vs body is _ _
  exec_same fn r w k vs body (place i ∷ is) env s = exec_same fn r w k vs body is _ _
  exec_same fn r w k vs body (jump h i ∷ is) env s = exec_same fn r w k vs body is _ _
  exec_same fn r w k vs body (jump_back i ∷ is) env s = exec_same fn r w k vs body is _ _
  exec_same fn r w k vs body (visit y a j ∷ is) env s = exec_same fn r w k vs body is _ _
  exec_same fn r w k vs body (begin_loop i j ∷ is) env s = exec_same fn r w k vs body is _ _
  exec_same fn r w k vs body (end_loop ∷ is) env s = exec_same fn r w k vs body is _ _
  exec_same fn r w k vs body (exit x ∷ is) env s = exec_same fn r w k vs body is _ _
  exec_same fn r w k vs body (check_return ∷ is) env s = exec_same fn r w k vs body is _ _
  exec_same fn r w k vs body (access u p ∷ is) env s = exec_same fn r w k vs body is _ _
  exec_same fn r w k vs body (refuse x ∷ is) env s = exec_same fn r w k vs body is _ _
  exec_same fn r w k vs body (inner ∷ is) env s = exec_same fn r w k vs body is _ _

  body_same : (r : ℕ) (w : Words) (k : Forest) (vs : List Visit) → stream t (mode Code2) r w k vs ≡ stream t (mode Code1) r w k vs
  unfolding stream
  body_same r w k vs = fun_ext (λ s. exec_same w r w k (child_visit vs w) idle (stream_steps w) [] s)

  visit_same : (r : ℕ) (w : Words) (k : Forest) (vs : List Visit) → T (in_both w) → visit_alg t (mode Code2) r w k vs ≡ visit_alg t (mode Code1) r w k vs
  visit_same r w k vs h = fun_ext (λ a. fun_ext (λ fn. fun_ext (λ s. go a fn s)))
    where
      go : (a : Role) (fn : Words) (s : State) → visit_alg t (mode Code2) r w k vs a fn s ≡ visit_alg t (mode Code1) r w k vs a fn s
      go a fn s =
          let N = own_tree k in
          let v = child_visit vs fn in
          ap₂ (λ (body : State → State) (is : List Step). exec t (mode Code2) fn r w k v body is [] s) (body_same r w k vs) (steps_same a w N h)
          ∙ exec_same fn r w k v (stream t (mode Code1) r w k vs) (steps Code1 a w N) [] s

  pub visits_same : (f : Forest) → InBoth f → visits_of t (mode Code2) f ≡ visits_of t (mode Code1) f
  visits_same none h = refl
  visits_same (tree r w k s) (h, hk, hs) =
      ap₂ (λ (v : Visit) (vs : List Visit). v ∷ vs) (ap (visit_alg t (mode Code2) r w k) (visits_same k hk) ∙ visit_same r w k (visits_of t (mode Code1) k) h) (visits_same s hs)

  -- a function's own stream
  pub stream_same : (r : ℕ) (w : Words) (k : Forest) → InBoth k
      → stream t (mode Code2) r w k (visits_of t (mode Code2) k) ≡ stream t (mode Code1) r w k (visits_of t (mode Code1) k)
  stream_same r w k h = ap (stream t (mode Code2) r w k) (visits_same k h) ∙ body_same r w k (visits_of t (mode Code1) k)

-- the whole run, and what is written
pub run_same : (t : Lookup) (recs : List ℕ) → InBoth (children recs 0) → run Code2 t recs ≡ run Code1 t recs
unfolding run
run_same t recs h =
    ap (λ (v : State → State). nested true 0 (words recs 0) v nothing) (stream_same t true (λ ls. ls) 0 (words recs 0) (children recs 0) h)

pub outcome_same : (t : Semantic) (recs : List ℕ) → InBoth (children recs 0) → outcome Code2 t recs ≡ outcome Code1 t recs
unfolding outcome
outcome_same t recs h = ap (λ (s : State). ended t recs (flow s) (side s)) (run_same (look t) recs h)
