-- The folds over the trees: a visit that ends clean has written its record's segment, and so has the whole run; what holds of a segment by its steps
-- holds of every record's. Assumes nothing.
use mathlib.Core.Path.{◌≡◌, ◌∙◌}
use mathlib.Core.Bool.{Bool, false}
use mathlib.Core.List.{List, [], ◌∷◌, ◌++◌, reverse_aux}
use Prim.Native.Nat.{ℕ, suc, ◌+◌}
use native.Mathlib.Omega.{arith}
use lib.Dec.{T}
use Rattle.tables.specs.Record.{Words, words, is_loop}
use Rattle.tables.specs.Forest.{Forest, children, fold1, own_tree}
use Rattle.tables.proofs.ForestLaws.{Each, each, each_at}
use Rattle.rules.specs.declared.StackCode.{StackCode}
use Rattle.rules.specs.Step.{Role, Step}
use Rattle.rules.specs.Arms.{stream_steps}
use Rattle.rules.specs.Kinds.{steps}
use Rattle.rules.specs.declared.Flow.TheVariants.{Go}
use Rattle.rules.specs.Run.{Lookup, Stream, st, Mode, full, Visit, absent, child_visit, idle, stream, visit_alg, visits_of, run}
use Rattle.rules.proofs.Segment.{Seg, no_seg, finished, step_seg, Segs, no_segs, child_seg, seg_alg, segs_of, seg_of, body_seg}
use Rattle.rules.proofs.Check.{ok, begun}
use Rattle.rules.proofs.StepsOk.{steps_ok, stream_ok}
use Rattle.rules.proofs.Placing.{Good, good_none, good_steps}
use Rattle.rules.proofs.Writes.{Clean, Writes, exec_steps, idle_writes, nested_same, nested_number}

-- the visit of one record
abbrev pub visit_of : Lookup → Mode → ℕ → Words → Forest → Visit
visit_of t o r w k = fold1 (visit_alg t o) r w k

-- the segment of the function at record r of a table, and its finished stream
abbrev pub body_of : StackCode → Lookup → List ℕ → ℕ → Seg
body_of sc t recs r = body_seg sc t r (words recs r) (children recs r)

abbrev pub stream_at : StackCode → Lookup → List ℕ → ℕ → Stream
stream_at sc t recs r = finished r (words recs r) (body_of sc t recs r)

module _ (sc : StackCode) (t : Lookup) where
  abbrev Writes-all : Visit → Segs → Type 0
  Writes-all v g = (a : Role) (fn : Words) → Writes (v a fn) (g a fn)

  children_write : (k : Forest) → Each (λ r w k. Writes-all (visit_of t (full sc) r w k) (seg_of sc t r w k)) k
      → (fn : Words) (a : Role) (j : ℕ) → Writes (child_visit (visits_of t (full sc) k) fn a j) (child_seg (segs_of sc t k) fn a j)
  children_write k h fn a j = each_at (visit_alg t (full sc)) (seg_alg sc t) Writes-all absent no_segs (λ a fn. idle_writes) k h j a fn

  stream_step : (r : ℕ) (w : Words) (k : Forest) → Each (λ r w k. Writes-all (visit_of t (full sc) r w k) (seg_of sc t r w k)) k
      → Writes (stream t (full sc) r w k (visits_of t (full sc) k)) (body_seg sc t r w k)
  unfolding stream
  stream_step r w k h =
      exec_steps sc t w r w k (child_visit (visits_of t (full sc) k) w) idle (child_seg (segs_of sc t k) w) no_seg false (children_write k h w) idle_writes
      (stream_steps w) (stream_ok w)

  writes_step : (r : ℕ) (w : Words) (k : Forest) → Each (λ r w k. Writes-all (visit_of t (full sc) r w k) (seg_of sc t r w k)) k
      → Writes-all (visit_of t (full sc) r w k) (seg_of sc t r w k)
  writes_step r w k h a fn =
      exec_steps sc t fn r w k (child_visit (visits_of t (full sc) k) fn) (stream t (full sc) r w k (visits_of t (full sc) k)) (child_seg (segs_of sc t k) fn)
      (body_seg sc t r w k) (is_loop w)
      (children_write k h fn) (stream_step r w k h) (steps sc a w (own_tree k)) (steps_ok sc a w (own_tree k))

  every_writes : (f : Forest) → Each (λ r w k. Writes-all (visit_of t (full sc) r w k) (seg_of sc t r w k)) f
  every_writes f = each (λ r w k. Writes-all (visit_of t (full sc) r w k) (seg_of sc t r w k)) writes_step f

  -- a visit that ends clean has written its record's segment
  pub visit_writes : (r : ℕ) (w : Words) (k : Forest) (a : Role) (fn : Words) → Writes (visit_of t (full sc) r w k a fn) (seg_of sc t r w k a fn)
  visit_writes r w k = writes_step r w k (every_writes k)

  -- and so has a function's own stream
  pub stream_writes : (r : ℕ) (w : Words) (k : Forest) → Writes (stream t (full sc) r w k (visits_of t (full sc) k)) (body_seg sc t r w k)
  stream_writes r w k = stream_step r w k (every_writes k)

  -- the whole run
  pub run_writes : (recs : List ℕ) → Clean (run sc t recs)
      → run sc t recs ≡ st [] 0 [] [] Go
      (record { errors = []; met = suc (body_of sc t recs 0).funs; streams = reverse_aux ((body_of sc t recs 0).made ++ (stream_at sc t recs 0 ∷ [])) [] })
  unfolding run
  run_writes recs c =
      let w = words recs 0 in
      let k = children recs 0 in
      let g = body_of sc t recs 0 in
      let z : 0 + suc g.funs ≡ suc g.funs = omega arith in
      nested_same 0 w (stream t (full sc) 0 w k (visits_of t (full sc) k)) g (stream_writes 0 w k) [] 0 [] [] _ c ∙ rw z

  -- and record 0 has number 0
  pub run_number : (recs : List ℕ) → Clean (run sc t recs) → (words recs 0).p ≡ 0
  unfolding run
  run_number recs c = nested_number 0 (words recs 0) (stream t (full sc) 0 (words recs 0) (children recs 0) (visits_of t (full sc) (children recs 0))) [] 0 [] [] _ c

  -- what holds of a segment by its steps, of whatever children and body
  module _ (P : Seg → Type 0) (empty : P no_seg)
      (by-steps : (fn : Words) (r : ℕ) (w : Words) (k : Forest) (ks : Role → ℕ → Seg) (body : Seg) (a : Bool) → ((x : Role) (j : ℕ) → P (ks x j)) → P body
      → (is : List Step) → T (ok a begun is) → P (step_seg t fn r w k ks body is)) where
    abbrev All : Segs → Type 0
    All g = (a : Role) (fn : Words) → P (g a fn)

    children_hold : (k : Forest) → Each (λ r w k. All (seg_of sc t r w k)) k → (fn : Words) (a : Role) (j : ℕ) → P (child_seg (segs_of sc t k) fn a j)
    children_hold k h fn a j = each_at (seg_alg sc t) (seg_alg sc t) (λ x y. All x) no_segs no_segs (λ a fn. empty) k h j a fn

    body_step : (r : ℕ) (w : Words) (k : Forest) → Each (λ r w k. All (seg_of sc t r w k)) k → P (body_seg sc t r w k)
    body_step r w k h = by-steps w r w k (child_seg (segs_of sc t k) w) no_seg false (children_hold k h w) empty (stream_steps w) (stream_ok w)

    hold_step : (r : ℕ) (w : Words) (k : Forest) → Each (λ r w k. All (seg_of sc t r w k)) k → All (seg_of sc t r w k)
    hold_step r w k h a fn =
        by-steps fn r w k (child_seg (segs_of sc t k) fn) (body_seg sc t r w k) (is_loop w) (children_hold k h fn) (body_step r w k h)
        (steps sc a w (own_tree k)) (steps_ok sc a w (own_tree k))

    every_holds : (f : Forest) → Each (λ r w k. All (seg_of sc t r w k)) f
    every_holds f = each (λ r w k. All (seg_of sc t r w k)) hold_step f

    -- holds of every record's segment, of every child's, and of every function's own stream
    pub seg_holds : (r : ℕ) (w : Words) (k : Forest) (a : Role) (fn : Words) → P (seg_of sc t r w k a fn)
    seg_holds r w k = hold_step r w k (every_holds k)

    pub child_holds : (k : Forest) (fn : Words) (a : Role) (j : ℕ) → P (child_seg (segs_of sc t k) fn a j)
    child_holds k = children_hold k (every_holds k)

    pub body_holds : (r : ℕ) (w : Words) (k : Forest) → P (body_seg sc t r w k)
    body_holds r w k = body_step r w k (every_holds k)

  -- each label of a segment is placed once, and no two loops keep one label
  pub seg_good : (r : ℕ) (w : Words) (k : Forest) (a : Role) (fn : Words) → Good (seg_of sc t r w k a fn)
  seg_good = seg_holds Good good_none (λ fn r w k ks body a good u. good_steps t fn r w k ks body a good)

  pub child_good : (k : Forest) (fn : Words) (a : Role) (j : ℕ) → Good (child_seg (segs_of sc t k) fn a j)
  child_good = child_holds Good good_none (λ fn r w k ks body a good u. good_steps t fn r w k ks body a good)

  pub body_good : (r : ℕ) (w : Words) (k : Forest) → Good (body_seg sc t r w k)
  body_good = body_holds Good good_none (λ fn r w k ks body a good u. good_steps t fn r w k ks body a good)
