-- Where the run ends clean, the label count of every function met is the one counted from its own tree alone. Assumes nothing.
use mathlib.Core.Path.{◌≡◌, refl, sym, ap, subst, ◌∙◌}
use mathlib.Core.Bool.{Bool, true, false, cond}
use mathlib.Core.List.{List, [], ◌∷◌, ◌++◌, reverse_aux}
use Prim.Native.Nat.{ℕ, zero, suc, ◌<◌}
use native.Mathlib.Omega.{arith}
use native.Mathlib.Decide.{ℕ_discrete}
use lib.Dec.{T}
use Rattle.tables.specs.Record.{Words, words, is_do}
use Rattle.tables.specs.Forest.{Forest, none, tree, children, first, root, own_tree}
use Rattle.tables.specs.Children.{suits, words_of}
use Rattle.tables.proofs.ForestLaws.{Genuine, genuine, Each, each, and_r}
use Rattle.pool.specs.Value.{function}
use Rattle.rules.specs.declared.StackCode.{StackCode}
use Rattle.rules.specs.Marker.{Call}
use Rattle.rules.specs.Step.{Role, Step, push_op, push_const, get_label, place, jump, jump_back, visit, begin_loop, end_loop, exit, check_return, access, refuse, inner, load}
use Rattle.rules.specs.Arms.{stream_steps}
use Rattle.rules.specs.Kinds.{steps}
use Rattle.rules.specs.Counts.{labels_counted}
use Rattle.rules.specs.Run.{Lookup, Stream, side, run}
use Rattle.rules.specs.Out.{stream_numbered}
use Rattle.rules.proofs.Segment.{Seg, no_seg, finished, seg_made, child_seg, segs_of, seg_of, body_seg}
use Rattle.rules.proofs.Count.{inside_at}
use Rattle.rules.proofs.StepsOk.{function_only}
use Rattle.rules.proofs.Writes.{Clean}
use Rattle.rules.proofs.Visits.{body_of, stream_at, run_writes}
use Rattle.rules.proofs.Numbers.{run_numbered, Every, stream_found}
use Rattle.rules.proofs.Tame.{no_name, no_function, pure}
use Rattle.rules.proofs.Pure.{steps_pure, stream_pure}
use Rattle.rules.proofs.Shapes.{Shaped}
use Rattle.rules.proofs.LabelsCounted.{body_labels}
use Rattle.rules.proofs.LabelsPaired.{unpaired, own_paired, run_unpaired}

every_append : (P : Stream → Type 0) (xs ys : List Stream) → Every P xs → Every P ys → Every P (xs ++ ys)
every_append P [] ys p q = q
every_append P (x ∷ xs) ys (a, p) q = (a, every_append P xs ys p q)

every_back : (P : Stream → Type 0) (xs ys : List Stream) → Every P xs → Every P ys → Every P (reverse_aux xs ys)
every_back P [] ys p q = q
every_back P (x ∷ xs) ys (a, p) q = every_back P xs (x ∷ ys) p (a, q)

-- steps that run no function bring only their children's streams
module _ (P : Stream → Type 0) (t : Lookup) (fn : Words) (r : ℕ) (w : Words) (k : Forest) (ks : Role → ℕ → Seg) (body : Seg)
    (child : (x : Role) (j : ℕ) → Every P (ks x j).made) where
  made_pure : (is : List Step) → T (pure is) → Every P (seg_made t fn r w k ks body is)
  unfolding seg_made pure
  made_pure [] q = tt
  made_pure (push_op c x ∷ is) q = made_pure is (and_r (no_name c) (pure is) q)
  made_pure (push_const c p v ∷ is) q = made_pure is (and_r (no_function v) (pure is) q)
  made_pure (get_label ∷ is) q = made_pure is q
  made_pure (place i ∷ is) q = made_pure is q
  made_pure (jump x i ∷ is) q = made_pure is q
  made_pure (jump_back i ∷ is) q = made_pure is q
  made_pure (visit y x j ∷ is) q = every_append P (ks x j).made _ (child x j) (made_pure is q)
  made_pure (begin_loop i j ∷ is) q = made_pure is q
  made_pure (end_loop ∷ is) q = made_pure is q
  made_pure (exit x ∷ is) q = made_pure is q
  made_pure (check_return ∷ is) q = made_pure is q
  made_pure (access u p ∷ is) q = made_pure is q
  made_pure (refuse x ∷ is) q = made_pure is q
  made_pure (inner ∷ is) q = absurd q

module _ (sc : StackCode) (t : Lookup) (recs : List ℕ) where
  -- "Labels counted", of one function's stream
  abbrev pub LabelsCounted : Stream → Type 0
  LabelsCounted x = x.labels ≡ labels_counted sc (own_tree (children recs x.at))

  abbrev Made : ℕ → Words → Forest → Type 0
  Made r w k =
      k ≡ children recs r → Genuine recs k → T (suits w (words_of k)) → Shaped k → unpaired k ≡ 0 → (a : Role) (fn : Words) → Every LabelsCounted (seg_of sc t r w k a fn).made

  children_made : (k : Forest) → Each Made k → Genuine recs k → Shaped k → unpaired k ≡ 0 → (fn : Words) (a : Role) (j : ℕ)
      → Every LabelsCounted (child_seg (segs_of sc t k) fn a j).made
  children_made none h g m z fn a j = tt
  children_made (tree r w k s) (h, hs) (e, f, g, gs) (u, m, ms) z fn a zero = h f g u m (omega arith) a fn
  children_made (tree r w k s) (h, hs) (e, f, g, gs) (u, m, ms) z fn a (suc j) = children_made s hs gs ms (omega arith) fn a j

  body_made : (r : ℕ) (w : Words) (k : Forest) → Each Made k → w.kind ≡ 30 → k ≡ children recs r → Genuine recs k → T (suits w (words_of k)) → Shaped k → unpaired k ≡ 0
      → Every LabelsCounted ((body_seg sc t r w k).made ++ (finished r w (body_seg sc t r w k) ∷ []))
  body_made r w k h e f g u m z =
      every_append LabelsCounted (body_seg sc t r w k).made (finished r w (body_seg sc t r w k) ∷ [])
      (made_pure LabelsCounted t w r w k (child_seg (segs_of sc t k) w) no_seg (children_made k h g m z w) (stream_steps w) (stream_pure w))
      (body_labels sc t r w k e u m (own_paired k z) ∙ ap (λ c. labels_counted sc (own_tree c)) f, tt)

  made_step : (r : ℕ) (w : Words) (k : Forest) → Each Made k → Made r w k
  unfolding seg_made
  made_step r w k h f g u m z a fn = go (ℕ_discrete w.kind 30)
    where
      ks : Role → ℕ → Seg
      ks = child_seg (segs_of sc t k) fn

      body : Seg
      body = body_seg sc t r w k

      own : Every LabelsCounted (body.made ++ (finished r w body ∷ [])) → (d : Bool)
          → Every LabelsCounted (seg_made t fn r w k ks body (cond d (inner ∷ load (function w.p) ∷ push_op Call 0 ∷ []) (inner ∷ load (function w.p) ∷ [])))
      own x true = every_append LabelsCounted (body.made ++ (finished r w body ∷ [])) [] x tt
      own x false = every_append LabelsCounted (body.made ++ (finished r w body ∷ [])) [] x tt

      go : Dec (w.kind ≡ 30) → Every LabelsCounted (seg_made t fn r w k ks body (steps sc a w (own_tree k)))
      go (yes e) =
          function_only (λ is. Every LabelsCounted (seg_made t fn r w k ks body is)) sc a w (own_tree k) e tt (own (body_made r w k h e f g u m z) (is_do w))
      go (no ne) = made_pure LabelsCounted t fn r w k ks body (children_made k h g m z fn) (steps sc a w (own_tree k)) (steps_pure sc a w (own_tree k) ne)

  -- every stream of a run that ends clean
  pub run_counted : (words recs 0).kind ≡ 30 → Shaped (root recs) → Clean (run sc t recs) → Every LabelsCounted (side (run sc t recs)).streams
  run_counted e (u, m, x) c =
      let k = children recs 0 in
      let z = run_unpaired sc t recs e (u, m, x) c in
      subst (λ s. Every LabelsCounted (side s).streams) (sym (run_writes sc t recs c))
      (every_back LabelsCounted ((body_of sc t recs 0).made ++ (stream_at sc t recs 0 ∷ [])) []
      (body_made 0 (words recs 0) k (each Made made_step k) e refl (genuine recs (first recs 0)) u m (omega arith)) tt)

  -- and that of each function met, by its number
  pub met_counted : (words recs 0).kind ≡ 30 → Shaped (root recs) → Clean (run sc t recs) → (n : ℕ) → n < (side (run sc t recs)).met
      → LabelsCounted (stream_numbered (side (run sc t recs)).streams n)
  met_counted e m c n h =
      (stream_found LabelsCounted (side (run sc t recs)).streams n (run_counted e m c)
      (omega (arith, run_numbered sc t recs n, inside_at 0 (side (run sc t recs)).met n (omega arith) (omega arith)))).0
