-- The labels that a record's steps take: its own, and those of all its children. Assumes nothing.
use mathlib.Core.Path.{◌≡◌, refl, sym, ap, subst, ◌∙◌}
use mathlib.Core.Bool.{Bool, true, false, cond, ◌||◌}
use mathlib.Core.List.{List, [], ◌∷◌}
use Prim.Native.Nat.{ℕ, suc, ◌+◌, ◌/◌}
use native.Mathlib.Omega.{arith}
use lib.ListN.{drop}
use lib.Dec.{T, eqb, eqb→eq}
use Rattle.tables.specs.Record.{Words, is_kind}
use Rattle.tables.specs.Forest.{Forest, Nodes, bare, node}
use Rattle.tables.specs.declared.children.Class.TheVariants.{Expr as expression, Function, Handler, Case, Block}
use Rattle.tables.specs.Children.{any, maybe, one, belongs, fits, suits, node_words}
use Rattle.tables.proofs.ForestLaws.{and_l}
use Rattle.rules.specs.Run.{Lookup}
use Rattle.rules.specs.declared.StackCode.{StackCode}
use Rattle.rules.specs.Marker.{Code, Pop, Swap, Jump, Call, ReturnCall, BuildTable, BuildList}
use Rattle.rules.specs.Step.{Role, Expr, Callee, Tail, Target, Before, After, Step, push_op, place, jump, null, width}
use Rattle.rules.specs.Arms.{block_steps, is_method, method_steps, arguments, handlers, bodies, call_steps, target_steps, before_steps}
use Rattle.rules.specs.Patterns.{cases_tests, match_steps}
use Rattle.rules.specs.Kinds.{Kind, kinds, steps_of, expr_steps, steps}
use Rattle.rules.specs.Counts.{handler_count, call_labels, pattern_sum, case_sum, own_labels}
use Rattle.rules.proofs.Segment.{Seg, seg_count}
use Rattle.rules.proofs.LabelShapes.{
  Formed,
  sum,
  rest_kinds,
  not_kind,
  unless,
  kinds_at,
  kinds_map,
  expected_as,
  fits_one,
  fits_any,
  any_listed,
  pairs_listed,
  fits_arguments,
  listed,
  is_listed,
  plays,
  class_plays,
}
use Rattle.rules.proofs.LabelPatterns.{cases_count}
use Rattle.rules.proofs.LabelSteps.{Counts, own_as, reaches}
use Rattle.rules.proofs.LabelSteps as by

also : {A B : Type 0} → A → B → A × B
also a b = (a, b)

module _ (sc : StackCode) (t : Lookup) (fn : Words) (r : ℕ) (w₀ : Words) (f : Forest) (ks : Role → ℕ → Seg) (body : Seg) where
  abbrev count : List Step → ℕ
  count is = seg_count t fn r w₀ f ks body is

  -- Block, Call and Match are read off their children
  blocks_count : (w : Words) (N : Nodes) (L : ℕ → ℕ) → Counts ks L N → T (fits (any expression ∷ []) (node_words N)) → count (block_steps w N) ≡ 0 + sum L 0 (width N)
  unfolding seg_count
  blocks_count w bare L h u = refl
  blocks_count w (node w' k s) L h u =
      let a = any_listed (node w' k s) u in
      omega (arith, by.block_count t fn r w₀ f ks body (node w' k s) L h s 0 (λ i _ l. kinds_at is_listed (node w' k s) a i (omega arith)))

  call_count : (c : Code) (w : Words) (N : Nodes) (L : ℕ → ℕ) → Counts ks L N
      → T (fits (one expression ∷ any expression ∷ maybe Function ∷ any Handler ∷ []) (node_words N))
      → count (call_steps c w N) ≡ call_labels (handler_count N) + sum L 0 (width N)
  call_count c w bare L h u = absurd (fits_one expression (any expression ∷ maybe Function ∷ any Handler ∷ []) bare u).is
  call_count c w (node w' k s) L h u =
      let N = node w' k s in
      let g = fits_one expression (any expression ∷ maybe Function ∷ any Handler ∷ []) N u in
      let e = fits_arguments s g.rest in
      let a : handler_count N ≡ handlers s =
      unless (is_kind 32 w') _ (handler_count s) (not_kind w'.kind 32 (omega arith) g.is) ∙ omega (arith, e.0) in
      let b : suc (width s) ≡ suc (arguments s + handlers s) = omega (arith, e.0) in
      let z : sum L 0 (suc (width s)) ≡ sum L 0 (suc (arguments s + handlers s)) = ap (λ n. sum L 0 n) b in
      omega (
        arith,
        by.calls_count t fn r w₀ f ks body N L h c (cond (is_method w') (suc (arguments s)) (arguments s)) (arguments s) (handlers s)
            (class_plays expression tt w'.kind g.is)
            (λ i x y. rest_kinds is_listed 1 N e.1 i x (omega (arith, e.0))),
        ap call_labels a,
        z,
      )

  match_count : (w : Words) (N : Nodes) (L : ℕ → ℕ) → Counts ks L N → T (fits (one expression ∷ any Case ∷ []) (node_words N)) → Formed N
      → count (match_steps w N) ≡ suc (case_sum N) + sum L 0 (width N)
  unfolding seg_count
  match_count w bare L h u m = absurd (fits_one expression (any Case ∷ []) bare u).is
  match_count w (node w' k s) L h u (m, mk, ms) =
      let N = node w' k s in
      let g = fits_one expression (any Case ∷ []) N u in
      let c = fits_any Case s g.rest in
      let last = place 0 ∷ push_op Swap 2 ∷ push_op Pop 0 ∷ [] in
      let more = null ∷ jump Jump 0 ∷ bodies 1 1 (width s) last in
      omega (
        arith,
        by.seen t fn r w₀ f ks body N L h expression tt 0 g.is,
        by.takes_count t fn r w₀ f ks body (width s) (cases_tests (suc (width s)) 1 s more),
        cases_count t fn r w₀ f ks body s (suc (width s)) 1 more c ms,
        by.bodies_count t fn r w₀ f ks body N L h 1 1 (width s) last
            (λ i x y. rest_kinds is_listed 1 N (kinds_map (belongs Case) is_listed (class_plays Case tt) s c) i x y),
        unless (is_kind 33 w') (suc (pattern_sum k)) 0 (not_kind w'.kind 33 (omega arith) g.is),
      )

  -- one fact for each entry of the list of kinds
  abbrev Entry : ℕ → (Words → Nodes → List Step) → Type 0
  Entry n list =
      (w : Words) (N : Nodes) (L : ℕ → ℕ) → Counts ks L N → T (fits (expected_as n w) (node_words N)) → Formed N → T (reaches n w N)
      → count (list w N) ≡ own_as sc n w N + sum L 0 (width N)

  abbrev Entries : List Kind → Type 0
  Entries [] = Unit {0}
  Entries (x ∷ xs) = Entry x.number x.list × Entries xs

  -- Function, Params, Handler, Case, Item
  parts_counted : Entries (drop 27 (kinds sc))
  unfolding seg_count own_labels
  parts_counted =
      also (λ w N L h u m v. absurd v)
      (also (λ w N L h u m v. omega (arith, by.stores_count t fn r w₀ f ks body (width N) [], by.params_count t fn r w₀ f ks body N L h w u))
      (also (λ w N L h u m v. omega (arith, by.handler_labels t fn r w₀ f ks body N L h u))
      (also (λ w N L h u m v. omega (arith, by.case_body t fn r w₀ f ks body N L h w.p u))
      (also (λ w N L h u m v. omega (arith, by.item_count t fn r w₀ f ks body N L h w u))
      tt))))

  -- Import, GloAssign, Assign, AssignOp, AssignUnpack, AssignMulti
  stores_counted : Entries (drop 21 (kinds sc))
  unfolding seg_count own_labels
  stores_counted =
      also (λ w N L h u m v. by.import_count t fn r w₀ f ks body N L h w u)
      (also (λ w N L h u m v. omega (arith, by.named t fn r w₀ f ks body N L h expression tt u))
      (also (λ w N L h u m v. omega (arith, by.assign_count t fn r w₀ f ks body N L h u Target (λ n v. v)))
      (also (λ w N L h u m v. by.assign_op_count t fn r w₀ f ks body N L h w u)
      (also (λ w N L h u m v. by.unpack_count t fn r w₀ f ks body N L h w u)
      (also (λ w N L h u m v. by.multi_count t fn r w₀ f ks body N L h w u v)
      parts_counted)))))

  -- Call, If, Match, Loop, While, For, Break, Continue, Return
  controls_counted : Entries (drop 12 (kinds sc))
  unfolding seg_count own_labels
  controls_counted =
      also (λ w N L h u m v. call_count Call w N L h u)
      (also (λ w N L h u m v. by.if_count t fn r w₀ f ks body N L h w u)
      (also (λ w N L h u m v. match_count w N L h u m)
      (also (λ w N L h u m v. omega (arith, by.single t fn r w₀ f ks body N L h Block tt u))
      (also (λ w N L h u m v. omega (arith, by.double t fn r w₀ f ks body N L h expression Block tt tt u))
      (also (λ w N L h u m v. by.for_count t fn r w₀ f ks body N L h w u)
      (also (λ w N L h u m v. omega (arith, by.leaf t fn r w₀ f ks body N L h u))
      (also (λ w N L h u m v. omega (arith, by.leaf t fn r w₀ f ks body N L h u))
      (also (λ w N L h u m v. by.return_count t fn r w₀ f ks body N L h sc w u)
      stores_counted))))))))

  -- Lit, Ident, Paren, Block, Fn, Effect, Table, List, Unary, Binary, TypeCheck, Member
  values_counted : Entries (kinds sc)
  unfolding seg_count own_labels
  values_counted =
      also (λ w N L h u m v. omega (arith, by.leaf t fn r w₀ f ks body N L h u))
      (also (λ w N L h u m v. omega (arith, by.leaf t fn r w₀ f ks body N L h u))
      (also (λ w N L h u m v. omega (arith, by.single t fn r w₀ f ks body N L h expression tt u))
      (also (λ w N L h u m v. blocks_count w N L h u)
      (also (λ w N L h u m v. by.fn_count t fn r w₀ f ks body N L h w u)
      (also (λ w N L h u m v. omega (arith, by.effect_count t fn r w₀ f ks body N L h u))
      (also (λ w N L h u m v. omega (arith, by.row_count t fn r w₀ f ks body N L h (push_op BuildTable (width N / 2) ∷ []) (pairs_listed N u)))
      (also (λ w N L h u m v. omega (arith, by.row_count t fn r w₀ f ks body N L h (push_op BuildList (width N) ∷ []) (any_listed N u)))
      (also (λ w N L h u m v. omega (arith, by.single t fn r w₀ f ks body N L h expression tt u))
      (also (λ w N L h u m v. by.binary_count t fn r w₀ f ks body N L h w u)
      (also (λ w N L h u m v. omega (arith, by.single t fn r w₀ f ks body N L h expression tt u))
      (also (λ w N L h u m v. by.member_count_lem t fn r w₀ f ks body N L h sc w u)
      controls_counted)))))))))))

  counted_at : (xs : List Kind) → Entries xs → (n : ℕ) → T (listed n xs) → Entry n (steps_of n xs)
  counted_at [] e n l w N L h u m v = absurd l
  counted_at (x ∷ xs) (e, es) n l w N L h u m v = go (eqb n x.number) refl l (λ l. counted_at xs es n l w N L h u m v)
    where
      go : (b : Bool) → eqb n x.number ≡ b → T (b || listed n xs) → (T (listed n xs) → count (steps_of n xs w N) ≡ own_as sc n w N + sum L 0 (width N))
          → count (cond b (x.list w N) (steps_of n xs w N)) ≡ own_as sc n w N + sum L 0 (width N)
      go true q l ih =
          let z : x.number ≡ n = sym (eqb→eq n x.number (subst T (sym q) tt)) in
          subst (λ (i : ℕ). T (fits (expected_as i w) (node_words N)) → T (reaches i w N) → count (x.list w N) ≡ own_as sc i w N + sum L 0 (width N)) z
          (λ u v. e w N L h u m v) u v
      go false q l ih = ih l

  -- a record of a kind known by a test
  when_kind : (n : ℕ) (b : Bool) (w : Words) (N : Nodes) (L : ℕ → ℕ) (x y : List Step) → (T b → w.kind ≡ n) → T (suits w (node_words N))
      → (T (fits (expected_as n w) (node_words N)) → count x ≡ own_as sc n w N + sum L 0 (width N)) → ((T b → ⊥) → count y ≡ own_labels sc w N + sum L 0 (width N))
      → count (cond b x y) ≡ own_labels sc w N + sum L 0 (width N)
  unfolding own_labels
  when_kind n true w N L x y e u p q =
      subst (λ (i : ℕ). T (fits (expected_as i w) (node_words N)) → count x ≡ own_as sc i w N + sum L 0 (width N)) (sym (e tt)) p u
  when_kind n false w N L x y e u p q = q (λ z. z)

  -- the labels of a record's visit in a role that its kind has: the record's own and those of all its children
  pub steps_count : (a : Role) (w : Words) (N : Nodes) (L : ℕ → ℕ) → Counts ks L N → T (plays a w.kind) → T (suits w (node_words N)) → Formed N
      → T (reaches w.kind w N) → count (steps sc a w N) ≡ own_labels sc w N + sum L 0 (width N)
  unfolding steps own_labels
  steps_count Expr w N L h p u m v = counted_at (kinds sc) values_counted w.kind p w N L h u m v
  steps_count Callee w N L h p u m v =
      when_kind 12 (is_method w) w N L (method_steps sc w N) (expr_steps sc w N) (λ b. eqb→eq w.kind 12 (and_l (is_kind 12 w) _ b)) u
      (λ u. by.method_count t fn r w₀ f ks body N L h sc w u)
      (λ _. counted_at (kinds sc) values_counted w.kind p w N L h u m v)
  steps_count Tail w N L h p u m v =
      when_kind 13 (is_kind 13 w) w N L (call_steps ReturnCall w N) [] (eqb→eq w.kind 13) u (λ u. call_count ReturnCall w N L h u) (λ d. absurd (d p))
  steps_count Target w N L h p u m v =
      when_kind 34 (is_kind 34 w) w N L (target_steps w N) [] (eqb→eq w.kind 34) u (λ u. by.target_count t fn r w₀ f ks body N L h w u) (λ d. absurd (d p))
  steps_count Before w N L h p u m v =
      when_kind 34 (is_kind 34 w) w N L (before_steps w N) [] (eqb→eq w.kind 34) u (λ u. by.before_count t fn r w₀ f ks body N L h w u) (λ d. absurd (d p))
  steps_count After w N L h p u m v = absurd p
