-- Where the run ends clean, what holds of every function's stream by its record holds of every stream that the run made. Assumes nothing.
use mathlib.Core.Path.{◌≡◌, refl, sym, ap, subst, ◌∙◌}
use mathlib.Core.Bool.{Bool, true, false, cond}
use mathlib.Core.List.{List, [], ◌∷◌, ◌++◌, reverse_aux}
use Prim.Native.Nat.{ℕ, zero, suc, ◌<◌}
use native.Mathlib.Omega.{arith}
use native.Mathlib.Decide.{ℕ_discrete}
use lib.Dec.{T}
use Rattle.tables.specs.Record.{Words, words, is_do}
use Rattle.tables.specs.Forest.{Forest, none, tree, children, first, own_tree}
use Rattle.tables.proofs.ForestLaws.{and_r, Genuine, genuine, Each, each}
use Rattle.pool.specs.Value.{function}
use Rattle.rules.specs.declared.StackCode.{StackCode}
use Rattle.rules.specs.Marker.{Pop, Call, LoadLocals, Return}
use Rattle.rules.specs.Step.{
  Role,
  Expr,
  Step,
  push_op,
  push_const,
  get_label,
  place,
  jump,
  jump_back,
  visit,
  begin_loop,
  end_loop,
  exit,
  check_return,
  access,
  refuse,
  inner,
  expr,
  load,
}
use Rattle.rules.specs.Kinds.{steps}
use Rattle.rules.specs.Run.{Lookup, Stream, side, run}
use Rattle.rules.specs.Out.{stream_numbered}
use Rattle.rules.proofs.Segment.{Seg, no_seg, finished, seg_made, child_seg, segs_of, seg_of, body_seg}
use Rattle.rules.proofs.StepsOk.{function_only}
use Rattle.rules.proofs.Tame.{no_name, no_function, pure}
use Rattle.rules.proofs.Pure.{none_pure, steps_pure}
use Rattle.rules.proofs.Count.{inside_at}
use Rattle.rules.proofs.Writes.{Clean}
use Rattle.rules.proofs.Visits.{body_of, stream_at, run_writes}
use Rattle.rules.proofs.Numbers.{run_numbered, Every, stream_found}

every_append : (P : Stream → Type 0) (xs ys : List Stream) → Every P xs → Every P ys → Every P (xs ++ ys)
every_append P [] ys p q = q
every_append P (x ∷ xs) ys (a, p) q = (a, every_append P xs ys p q)

every_back : (P : Stream → Type 0) (xs ys : List Stream) → Every P xs → Every P ys → Every P (reverse_aux xs ys)
every_back P [] ys p q = q
every_back P (x ∷ xs) ys (a, p) q = every_back P xs (x ∷ ys) p (a, q)

module _ (P : Stream → Type 0) (t : Lookup) (fn : Words) (r : ℕ) (w : Words) (k : Forest) (ks : Role → ℕ → Seg) (body : Seg)
    (child-made : (x : Role) (j : ℕ) → Every P (ks x j).made) where
  -- steps that run no function
  made_pure : (is : List Step) → T (pure is) → Every P (seg_made t fn r w k ks body is)
  unfolding seg_made pure
  made_pure [] q = tt
  made_pure (push_op c x ∷ is) q = made_pure is (and_r (no_name c) (pure is) q)
  made_pure (push_const c p v ∷ is) q = made_pure is (and_r (no_function v) (pure is) q)
  made_pure (get_label ∷ is) q = made_pure is q
  made_pure (place i ∷ is) q = made_pure is q
  made_pure (jump x i ∷ is) q = made_pure is q
  made_pure (jump_back i ∷ is) q = made_pure is q
  made_pure (visit y x j ∷ is) q = every_append P (ks x j).made _ (child-made x j) (made_pure is q)
  made_pure (begin_loop i j ∷ is) q = made_pure is q
  made_pure (end_loop ∷ is) q = made_pure is q
  made_pure (exit x ∷ is) q = made_pure is q
  made_pure (check_return ∷ is) q = made_pure is q
  made_pure (access u p ∷ is) q = made_pure is q
  made_pure (refuse x ∷ is) q = made_pure is q
  made_pure (inner ∷ is) q = absurd q

  -- a Function's steps
  made_function : Every P (body.made ++ (finished r w body ∷ [])) → (d : Bool)
      → Every P (seg_made t fn r w k ks body (cond d (inner ∷ load (function w.p) ∷ push_op Call 0 ∷ []) (inner ∷ load (function w.p) ∷ [])))
  unfolding seg_made
  made_function h true = every_append P (body.made ++ (finished r w body ∷ [])) [] h tt
  made_function h false = every_append P (body.made ++ (finished r w body ∷ [])) [] h tt

  -- a function's own stream has no function but in its children
  made_stream : (b : Bool)
      → Every P (seg_made t fn r w k ks body (cond b (expr 0 ∷ expr 1 ∷ push_op Pop 0 ∷ push_op LoadLocals 0 ∷ push_op Return 0 ∷ []) (expr 0 ∷ expr 1 ∷ push_op Return 0 ∷ [])))
  unfolding seg_made
  made_stream true = every_append P (ks Expr 0).made _ (child-made Expr 0) (every_append P (ks Expr 1).made [] (child-made Expr 1) tt)
  made_stream false = every_append P (ks Expr 0).made _ (child-made Expr 0) (every_append P (ks Expr 1).made [] (child-made Expr 1) tt)

-- what holds of every Function's stream by its record holds of all streams made
module _ (sc : StackCode) (t : Lookup) (recs : List ℕ) (P : Stream → Type 0) (of-record : (r : ℕ) → (words recs r).kind ≡ 30 → P (stream_at sc t recs r)) where
  abbrev Made : ℕ → Words → Forest → Type 0
  Made r w k = w ≡ words recs r → k ≡ children recs r → Genuine recs k → (a : Role) (fn : Words) → Every P (seg_of sc t r w k a fn).made

  children_made : (k : Forest) → Each Made k → Genuine recs k → (fn : Words) (a : Role) (j : ℕ) → Every P (child_seg (segs_of sc t k) fn a j).made
  children_made none h g fn a j = tt
  children_made (tree r w k s) (h, hs) (e, f, g, gs) fn a zero = h e f g a fn
  children_made (tree r w k s) (h, hs) (e, f, g, gs) fn a (suc j) = children_made s hs gs fn a j

  body_made : (r : ℕ) (w : Words) (k : Forest) → Each Made k → w ≡ words recs r → k ≡ children recs r → Genuine recs k → w.kind ≡ 30
      → Every P ((body_seg sc t r w k).made ++ (finished r w (body_seg sc t r w k) ∷ []))
  body_made r w k h e f g n =
      every_append P (body_seg sc t r w k).made (finished r w (body_seg sc t r w k) ∷ [])
      (made_stream P t w r w k (child_seg (segs_of sc t k) w) no_seg (children_made k h g w) (is_do w)) (
        subst (λ z. P (finished r z (body_seg sc t r z k))) (sym e)
            (subst (λ z. P (finished r (words recs r) (body_seg sc t r (words recs r) z))) (sym f) (of-record r (sym (ap (λ (x : Words). x.kind) e) ∙ n))),
        tt,
      )

  made_step : (r : ℕ) (w : Words) (k : Forest) → Each Made k → Made r w k
  made_step r w k h e f g a fn = go (ℕ_discrete w.kind 30)
    where
      go : Dec (w.kind ≡ 30) → Every P (seg_made t fn r w k (child_seg (segs_of sc t k) fn) (body_seg sc t r w k) (steps sc a w (own_tree k)))
      go (yes n) =
          function_only (λ is. Every P (seg_made t fn r w k (child_seg (segs_of sc t k) fn) (body_seg sc t r w k) is)) sc a w (own_tree k) n
          (made_pure P t fn r w k (child_seg (segs_of sc t k) fn) (body_seg sc t r w k) (children_made k h g fn) [] none_pure)
          (made_function P t fn r w k (child_seg (segs_of sc t k) fn) (body_seg sc t r w k) (children_made k h g fn) (body_made r w k h e f g n) (is_do w))
      go (no ne) =
          made_pure P t fn r w k (child_seg (segs_of sc t k) fn) (body_seg sc t r w k) (children_made k h g fn) (steps sc a w (own_tree k)) (steps_pure sc a w (own_tree k) ne)

  module _ (root : (words recs 0).kind ≡ 30) where
    pub all_made : Every P ((body_of sc t recs 0).made ++ (stream_at sc t recs 0 ∷ []))
    all_made = body_made 0 (words recs 0) (children recs 0) (each Made made_step (children recs 0)) refl refl (genuine recs (first recs 0)) root

    -- a run that ends clean: what holds by its record holds of every stream
    pub run_streams : Clean (run sc t recs) → Every P (side (run sc t recs)).streams
    run_streams c =
        subst (λ z. Every P (side z).streams) (sym (run_writes sc t recs c)) (every_back P ((body_of sc t recs 0).made ++ (stream_at sc t recs 0 ∷ [])) [] all_made tt)

    -- and of the stream of each function met, by its number
    pub run_stream : Clean (run sc t recs) → (n : ℕ) → n < (side (run sc t recs)).met
        → P (stream_numbered (side (run sc t recs)).streams n) × ((stream_numbered (side (run sc t recs)).streams n).number ≡ n)
    run_stream c n h =
        stream_found P (side (run sc t recs)).streams n (run_streams c)
        (omega (arith, run_numbered sc t recs n, inside_at 0 (side (run sc t recs)).met n (omega arith) (omega arith)))
