-- The cost of a tree is at most what its records may cost together, kind by kind. Assumes nothing.
use mathlib.Core.Path.{◌≡◌, refl, sym, ap, subst, ◌∙◌}
use mathlib.Core.Bool.{Bool, true, false, cond}
use mathlib.Core.List.{List, [], ◌∷◌}
use Prim.Native.Nat.{ℕ, zero, suc, ◌+◌, ◌*◌, ◌-◌, ◌/◌, ◌%◌, ◌≤◌}
use native.Mathlib.Omega.{arith}
use lib.Dec.{T, ltb, eqb, eqb→eq}
use Rattle.tables.specs.Record.{Words, is_kind, is_do}
use Rattle.tables.specs.Forest.{Forest, none, tree, Nodes, breadth, own_tree}
use Rattle.tables.specs.Children.{suits, words_of}
use Rattle.tables.proofs.ForestLaws.{and_l, Each, each}
use Rattle.pool.specs.Value.{lit}
use Rattle.rules.specs.declared.StackCode.{StackCode}
use Rattle.rules.specs.declared.StackCode.TheVariants.{Code1, Code2}
use Rattle.rules.specs.Marker.{Code, Jump, Pop, Copy, Swap, BuildTable, BuildList, ImportGlob, Call, Return, ReturnCall, LoadLocals}
use Rattle.rules.specs.Step.{
  Role,
  Expr,
  Callee,
  Tail,
  Target,
  Before,
  After,
  pass,
  Set,
  Step,
  push_op,
  get_label,
  place,
  jump,
  jump_back,
  visit,
  end_loop,
  access,
  expr,
  null,
  visits,
  visits_down,
  width,
}
use Rattle.rules.specs.Arms.{
  lit_steps,
  ident_steps,
  paren_steps,
  fn_steps,
  effect_steps,
  table_steps,
  list_steps,
  unary_steps,
  type_check_steps,
  handler_steps,
  loop_steps,
  while_steps,
  break_steps,
  continue_steps,
  item_steps,
  glo_assign_steps,
  assign_steps,
  block_steps,
  stream_steps,
  no_opcode,
  is_short_form,
  binary_steps,
  property,
  get_code,
  set_code,
  safe_jump,
  unlabelled,
  member_label,
  member_steps,
  is_method,
  method_steps,
  arguments,
  handlers,
  registers,
  bodies,
  call_with,
  call_steps,
  items_stored,
  if_steps,
  for_steps,
  is_tail,
  return_label,
  return_steps,
  simple_import,
  import_steps,
  unpacked,
  assign_op_steps,
  assign_unpack_steps,
  assign_multi_steps,
  function_steps,
  params_steps,
  target_steps,
  before_steps,
  after_steps,
}
use Rattle.rules.specs.Patterns.{cases_tests, match_steps, case_steps}
use Rattle.rules.specs.Kinds.{Kind, kinds, steps_of, steps}
use Rattle.rules.specs.Run.{from_tree}
use Rattle.rules.proofs.Shapes.{Shaped, for_shape, unpack_shape, function_shape, match_shape}
use Rattle.rules.proofs.Cost.{rep, Rates, weigh, child_cost, stream_cost, costs_of, cost_of}
use Rattle.rules.proofs.CostPatterns.{rep_more, value_most, pattern_rate, cases_weigh}
use Rattle.rules.proofs.CostParts.{
  own_width,
  arguments_most,
  breadth_from,
  budget,
  front,
  extra,
  front_all,
  width_budget,
  rep_front,
  tests_extras,
  Afford,
  Settles,
  Covers,
  one_child,
  two_children,
  three_children,
  left_children,
  some_children,
  covers_from,
  visits_weigh,
  down_weigh,
  block_weigh,
  stores_weigh,
  takes_weigh,
  says_weigh,
  items_weigh,
  registers_weigh,
  unpacked_weigh,
  bodies_weigh,
  either_weigh,
  property_weigh,
  safe_weigh,
}

module _ {R : Rates} {b : Words → ℕ} {g : ℕ} (A : Afford R b g) (sc : StackCode) where
  -- a function's own stream costs its Params, its Block and three markers
  stream_most : (ks : Role → ℕ → ℕ) (w : Words) → weigh R ks 0 (stream_steps w) ≤ ks Expr 0 + (ks Expr 1 + 3 * R.on_marker)
  unfolding weigh
  stream_most ks w = go (is_do w)
    where
      go : (d : Bool) → weigh R ks 0 (cond d (expr 0 ∷ expr 1 ∷ push_op Pop 0 ∷ push_op LoadLocals 0 ∷ push_op Return 0 ∷ []) (expr 0 ∷ expr 1 ∷ push_op Return 0 ∷ []))
          ≤ ks Expr 0 + (ks Expr 1 + 3 * R.on_marker)
      go true = omega arith
      go false = omega arith

  module _ (ks : Role → ℕ → ℕ) (body : ℕ) (small : body ≤ ks Expr 0 + (ks Expr 1 + 3 * R.on_marker)) where
    abbrev W : List Step → ℕ
    W is = weigh R ks body is

    abbrev Here : Forest → Type 0
    Here k = Covers b g ks 0 k

    -- the steps cost what the record and its children may cost, and leave g and a Case's patterns
    abbrev Paid : ℕ → (Words → Nodes → List Step) → Type 0
    Paid n f =
        (w : Words) (k : Forest) → w.kind ≡ n → T (suits w (words_of k)) → Here k → W (f w (own_tree k)) + (g + extra b n w k) ≤ b w + budget b k

    one : (k : Forest) → Here k → (a : Role) → ks a 0 ≤ budget b k
    one k h a = one_child A ks body 0 k h a

    two : (k : Forest) → Here k → (a c : Role) → ks a 0 + ks c 1 ≤ budget b k
    two k h a c = two_children A ks body 0 k h a c

    either : (c : Bool) (x y : List Step) (u z : ℕ) → W x + u ≤ z → W y + u ≤ z → W (cond c x y) + u ≤ z
    either c x y u z p q = either_weigh A ks body c x y u z p q

    -- child 1 alone
    second : (k : Forest) → Here k → (a : Role) → ks a 1 ≤ budget b k
    second k h a = omega (arith, two k h Expr a)

    block_paid : Paid 4 block_steps
    unfolding weigh budget
    block_paid w none e t h = omega (arith, A.fixed w)
    block_paid w (tree r w' k s) e t h = omega (arith, A.fixed w, block_weigh A ks body s 0 r w' k h)

    fn_paid : Paid 5 fn_steps
    unfolding weigh
    fn_paid w k e t h = either (eqb w.detail 1) _ _ _ _ (omega (arith, A.fixed w, second k h Expr)) (omega (arith, A.fixed w, one k h Expr))

    -- all children, and one marker
    all_paid : (c : Code) (x : ℕ) (w : Words) (k : Forest) → Here k → W (visits Expr 0 (width (own_tree k)) (push_op c x ∷ [])) + (g + 0) ≤ b w + budget b k
    unfolding weigh
    all_paid c x w k h =
        omega (
          arith,
          A.fixed w,
          visits_weigh A ks body (width (own_tree k)) k 0 Expr (push_op c x ∷ []) h,
          front_all b (width (own_tree k)) k,
        )

    binary_paid : Paid 10 binary_steps
    unfolding weigh
    binary_paid w k e t h =
        let z = two k h Expr Expr in
        let f = A.fixed w in
        either (eqb w.detail 5) _ _ _ _ (omega arith)
        (either (eqb w.detail 6) _ _ _ _ (omega arith) (either (no_opcode w.detail) _ _ _ _ (omega arith) (omega arith)))

    -- a Member costs most with its label
    label_weigh : (w : Words) (is : List Step → List Step) (x : ℕ) → W (is []) ≤ x → W (is (place 0 ∷ [])) ≤ R.on_marker + x
        → W (member_label sc w is) ≤ R.on_label + (2 * R.on_marker + x)
    unfolding weigh
    label_weigh w is x p q = go (unlabelled sc w.detail)
      where
        go : (c : Bool) → W (cond c (is []) (get_label ∷ safe_jump w (is (place 0 ∷ [])))) ≤ R.on_label + (2 * R.on_marker + x)
        go true = omega arith
        go false = omega (arith, safe_weigh A ks body w (is (place 0 ∷ [])))

    member_paid : Paid 12 (member_steps sc)
    unfolding weigh
    member_paid w k e t h =
        let m = w.detail % 8 in
        let last : List Step → List Step = λ end. push_op (get_code m) 0 ∷ end in
        omega (
          arith,
          A.fixed w,
          two k h Expr Expr,
          label_weigh w (λ end. property m (own_tree k) (last end)) (ks Expr 1 + (R.on_const + R.on_marker))
              (omega (arith, property_weigh A ks body m (own_tree k) (last [])))
              (omega (arith, property_weigh A ks body m (own_tree k) (last (place 0 ∷ [])))),
        )

    method_paid : (w : Words) (k : Forest) → Here k → W (method_steps sc w (own_tree k)) + g ≤ b w + budget b k
    unfolding weigh
    method_paid w k h =
        let m = w.detail % 8 in
        let last : List Step → List Step = λ end. push_op (get_code m) 0 ∷ push_op Swap 2 ∷ end in
        omega (
          arith,
          A.fixed w,
          two k h Expr Expr,
          label_weigh w (λ end. push_op Copy 1 ∷ property m (own_tree k) (last end)) (ks Expr 1 + (R.on_const + 3 * R.on_marker))
              (omega (arith, property_weigh A ks body m (own_tree k) (last [])))
              (omega (arith, property_weigh A ks body m (own_tree k) (last (place 0 ∷ [])))),
        )

    call_some : (c : Code) (w : Words) (n a m r : ℕ) (w' : Words) (k s : Forest) → Here (tree r w' k s) → m ≤ breadth (from_tree a s)
        → W (call_with c n a m) + g ≤ b w + budget b (tree r w' k s)
    unfolding weigh budget
    call_some c w n a zero r w' k s (h, hs) p =
        omega (arith, A.fixed w, h.once Callee, visits_weigh A ks body a s 1 Expr (push_op c n ∷ []) hs, front_all b a s)
    call_some c w n a (suc m) r w' k s (h, hs) p =
        let x = R.on_label + 2 * R.on_marker in
        let more = push_op Call n ∷ jump Jump 0 ∷ bodies 1 (suc a) (suc m) (place 0 ∷ []) in
        omega (
          arith,
          A.fixed w,
          h.once Callee,
          visits_weigh A ks body a s 1 Expr (get_label ∷ registers 1 (suc a) (suc m) more) hs,
          registers_weigh A ks body (suc m) 1 (suc a) more,
          bodies_weigh A ks body x (omega (arith, A.arm)) (suc m) (from_tree a s) 1 (suc a) (place 0 ∷ []) p (covers_from A ks body a s 1 (suc a) (omega arith) hs),
          front_all b a s,
        )

    call_paid : (c : Code) (w : Words) (k : Forest) → Here k → W (call_steps c w (own_tree k)) + g ≤ b w + budget b k
    unfolding weigh
    call_paid c w none h = omega (arith, A.fixed w, one none h Callee)
    call_paid c w (tree r w' k s) h =
        let a = arguments (own_tree s) in
        call_some c w (cond (is_method w') (suc a) a) a (handlers (own_tree s)) r w' k s h
        (omega (arith, breadth_from a s, own_width s, arguments_most (own_tree s)))

    if_paid : Paid 14 if_steps
    unfolding weigh
    if_paid w k e t h =
        let z = three_children A ks body 0 k h Expr Expr Expr in
        let f = A.fixed w in
        either (eqb w.detail 1) _ _ _ _ (omega arith) (omega arith)

    match_paid : Paid 15 match_steps
    unfolding weigh budget
    match_paid w none e t h = omega (arith, A.fixed w)
    match_paid w (tree r w' k s) e t (h, hs) =
        let n = width (own_tree s) in
        let last = place 0 ∷ push_op Swap 2 ∷ push_op Pop 0 ∷ [] in
        let more = null ∷ jump Jump 0 ∷ bodies 1 1 n last in
        omega (
          arith,
          A.fixed w,
          h.once Expr,
          takes_weigh A ks body n (cases_tests (suc n) 1 (own_tree s) more),
          cases_weigh R A.least ks body (own_tree s) (suc n) 1 more,
          tests_extras b (pattern_rate R) A.pattern s (match_shape w r w' k s t e),
          bodies_weigh A ks body R.on_label (omega (arith, A.arm)) n s 1 1 last (omega (arith, own_width s)) hs,
        )

    for_paid : Paid 18 for_steps
    unfolding weigh
    for_paid w k e t h =
        let p = w.p in
        let x = R.on_const + 3 * R.on_marker in
        let more = expr (suc p) ∷ push_op Pop 0 ∷ jump_back 0 ∷ place 1 ∷ push_op Pop 0 ∷ null ∷ end_loop ∷ [] in
        omega (
          arith,
          A.fixed w,
          either (eqb p 1) (access Set (0 ∷ []) ∷ more) (items_stored 0 p (push_op Pop 0 ∷ more)) 0 (rep x p + (R.on_marker + W more)) (omega arith)
              (omega (arith, items_weigh A ks body p 0 (push_op Pop 0 ∷ more))),
          rep_front b x (λ w. omega (arith, A.fixed w)) p k (for_shape w k t e),
          two_children A ks body p (from_tree p k) (covers_from A ks body p k 0 p (omega arith) h) Expr Expr,
          front_all b p k,
        )

    -- and so does a Return
    return_weigh : (c : StackCode) (is : List Step) → W (return_label c is) ≤ R.on_label + (2 * R.on_marker + W is)
    unfolding weigh
    return_weigh Code1 is = omega arith
    return_weigh Code2 is = omega arith

    return_paid : Paid 21 (return_steps sc)
    unfolding weigh
    return_paid w k e t h =
        let f = A.fixed w in
        either (is_tail (own_tree k)) _ _ _ _ (omega (arith, return_weigh sc (visit pass Tail 0 ∷ null ∷ []), one k h Tail))
        (omega (arith, return_weigh sc (expr 0 ∷ push_op Return 0 ∷ null ∷ []), one k h Expr))

    simple_weigh : (w : Words) (p : ℕ) → W (simple_import w p) ≤ R.on_marker + R.on_null
    unfolding weigh
    simple_weigh w zero = omega arith
    simple_weigh w (suc p) = omega arith

    import_paid : Paid 22 import_steps
    unfolding weigh
    import_paid w k e t h =
        let f = A.fixed w in
        let n = width (own_tree k) - w.p in
        let items = visits Expr w.p n (push_op Pop 0 ∷ null ∷ []) in
        let z = b w + budget b k in
        let u = R.on_const + g in
        omega (
          arith,
          either (ltb w.detail 2) (simple_import w w.p) (cond (eqb w.detail 2) items (push_op ImportGlob 0 ∷ null ∷ [])) u z (omega (arith, simple_weigh w w.p))
              (either (eqb w.detail 2) items (push_op ImportGlob 0 ∷ null ∷ []) u z
              (omega (
                arith,
                visits_weigh A ks body n (from_tree w.p k) w.p Expr (push_op Pop 0 ∷ null ∷ []) (covers_from A ks body w.p k 0 w.p (omega arith) h),
                front_all b n (from_tree w.p k),
                front_all b w.p k,
              )) (omega arith)),
        )

    assign_op_paid : Paid 25 assign_op_steps
    unfolding weigh
    assign_op_paid w k e t h =
        let f = A.fixed w in
        let z = left_children A ks body k h in
        either (is_short_form w.detail (own_tree k)) _ _ _ _ (either (eqb w.detail 6) _ _ _ _ (omega arith) (omega arith))
        (either (no_opcode w.detail) _ _ _ _ (omega arith) (omega arith))

    unpack_paid : Paid 26 assign_unpack_steps
    unfolding weigh
    unpack_paid w k e t h =
        let p = w.p in
        omega (
          arith,
          A.fixed w,
          one_child A ks body p (from_tree p k) (covers_from A ks body p k 0 p (omega arith) h) Expr,
          says_weigh A ks body (p - 1) Copy 1 (unpacked 0 p (null ∷ [])),
          rep_more R.on_marker (p - 1) p (omega arith),
          unpacked_weigh A ks body p k 0 (null ∷ []) (unpack_shape w k t e) h,
          front_all b p k,
        )

    multi_paid : Paid 27 assign_multi_steps
    unfolding weigh
    multi_paid w k e t h =
        let p = w.p in
        let f = A.fixed w in
        let lefts = visits_down Target p (null ∷ []) in
        let c = covers_from A ks body p k 0 p (omega arith) h in
        either (eqb (p + p) (width (own_tree k))) _ _ _ _
        (omega (
          arith,
          visits_weigh A ks body p (from_tree p k) p Expr lefts c,
          front_all b p (from_tree p k),
          down_weigh A ks body p k Target (null ∷ []) h,
          front_all b p k,
        )) (omega arith)

    function_paid : Paid 30 function_steps
    unfolding weigh
    function_paid w k e t h =
        let f = A.function w e in
        let z = some_children A ks body k (function_shape w k t e) h in
        let p = A.part in
        either (is_do w) _ _ _ _ (omega arith) (omega arith)

    params_paid : Paid 31 params_steps
    unfolding weigh
    params_paid w k e t h =
        omega (
          arith,
          A.fixed w,
          stores_weigh A ks body (width (own_tree k)) [],
          width_budget b R.on_marker (λ w. omega (arith, A.fixed w)) k,
        )

    case_paid : Paid 33 case_steps
    unfolding weigh
    case_paid w k e t h =
        let p = w.p in
        omega (
          arith,
          A.fixed w,
          one_child A ks body p (from_tree p k) (covers_from A ks body p k 0 p (omega arith) h) Expr,
          front_all b p k,
        )

    target_paid : (w : Words) (k : Forest) → Here k → W (target_steps w (own_tree k)) + g ≤ b w + budget b k
    unfolding weigh
    target_paid w k h =
        let f = A.fixed w in
        let last = push_op (set_code (w.detail - 1)) 0 ∷ access Set (0 ∷ []) ∷ [] in
        either (eqb w.detail 0) _ _ _ _ (omega arith)
        (omega (arith, second k h Expr, property_weigh A ks body (w.detail - 1) (own_tree k) last))

    before_most : (w : Words) (k : Nodes) → W (before_steps w k) + 0 ≤ ks Expr 1 + (R.on_const + 4 * R.on_marker)
    unfolding weigh
    before_most w k =
        let last = push_op Copy 2 ∷ push_op Copy 2 ∷ push_op (get_code (w.detail - 1)) 0 ∷ [] in
        either (eqb w.detail 0) _ _ _ _ (omega arith)
        (either (ltb w.detail 4) _ _ _ _ (omega (arith, property_weigh A ks body (w.detail - 1) k last)) (omega arith))

    after_most : (w : Words) (k : Nodes) → W (after_steps w k) + 0 ≤ 4 * R.on_marker
    unfolding weigh
    after_most w k = either (eqb w.detail 0) _ _ _ _ (omega arith) (either (ltb w.detail 4) _ _ _ _ (omega arith) (omega arith))

    infixr 5 ◌also◌
    data AllPaid : List Kind → Type 0 where
      no_more : AllPaid []
      ◌also◌ : {x : Kind} {xs : List Kind} → Paid x.number x.list → AllPaid xs → AllPaid (x ∷ xs)

    -- the kinds of fixed length
    lit_paid : Paid 1 lit_steps
    unfolding weigh
    lit_paid w k e t h = omega (arith, A.fixed w, value_most R A.least (lit w.detail w.p w.q))

    ident_paid : Paid 2 ident_steps
    unfolding weigh
    ident_paid w k e t h = omega (arith, A.fixed w)

    paren_paid : Paid 3 paren_steps
    unfolding weigh
    paren_paid w k e t h = omega (arith, A.fixed w, one k h Expr)

    effect_paid : Paid 6 effect_steps
    unfolding weigh
    effect_paid w k e t h = omega (arith, A.fixed w)

    unary_paid : Paid 9 unary_steps
    unfolding weigh
    unary_paid w k e t h = omega (arith, A.fixed w, one k h Expr)

    type_check_paid : Paid 11 type_check_steps
    unfolding weigh
    type_check_paid w k e t h = omega (arith, A.fixed w, one k h Expr)

    loop_paid : Paid 16 loop_steps
    unfolding weigh
    loop_paid w k e t h = omega (arith, A.fixed w, one k h Expr)

    while_paid : Paid 17 while_steps
    unfolding weigh
    while_paid w k e t h = omega (arith, A.fixed w, two k h Expr Expr)

    break_paid : Paid 19 break_steps
    unfolding weigh
    break_paid w k e t h = omega (arith, A.fixed w)

    continue_paid : Paid 20 continue_steps
    unfolding weigh
    continue_paid w k e t h = omega (arith, A.fixed w)

    glo_assign_paid : Paid 23 glo_assign_steps
    unfolding weigh
    glo_assign_paid w k e t h = omega (arith, A.fixed w, second k h Expr)

    assign_paid : Paid 24 assign_steps
    unfolding weigh
    assign_paid w k e t h = omega (arith, A.fixed w, two k h Target Expr)

    handler_paid : Paid 32 handler_steps
    unfolding weigh
    handler_paid w k e t h = omega (arith, A.fixed w, three_children A ks body 0 k h Expr Expr Expr)

    item_paid : Paid 39 item_steps
    unfolding weigh
    item_paid w k e t h = omega (arith, A.fixed w)

    calls_paid : (c : Code) → Paid 13 (call_steps c)
    calls_paid c w k e t h = omega (arith, call_paid c w k h)

    table_paid : Paid 7 table_steps
    table_paid w k e t h = all_paid BuildTable (width (own_tree k) / 2) w k h

    list_paid : Paid 8 list_steps
    list_paid w k e t h = all_paid BuildList (width (own_tree k)) w k h

    kinds_paid : AllPaid (kinds sc)
    kinds_paid =
        lit_paid also ident_paid also paren_paid also block_paid also fn_paid also effect_paid also table_paid also list_paid
        also unary_paid also binary_paid also type_check_paid also member_paid also calls_paid Call also if_paid
        also match_paid also loop_paid also while_paid also for_paid also break_paid also continue_paid also return_paid
        also import_paid also glo_assign_paid also assign_paid also assign_op_paid also unpack_paid also multi_paid
        also function_paid also params_paid also handler_paid also case_paid also item_paid also no_more

    none_paid : (n : ℕ) (w : Words) (k : Forest) → W [] + (g + extra b n w k) ≤ b w + budget b k
    unfolding weigh
    none_paid n w k = go (eqb n 33)
      where
        go : (c : Bool) → 0 + (g + cond c (front b w.p k) 0) ≤ b w + budget b k
        go true = omega (arith, A.fixed w, front_all b w.p k)
        go false = omega (arith, A.fixed w)

    paid_at : (xs : List Kind) → AllPaid xs → (n : ℕ) (w : Words) (k : Forest) → w.kind ≡ n → T (suits w (words_of k)) → Here k
        → W (steps_of n xs w (own_tree k)) + (g + extra b n w k) ≤ b w + budget b k
    paid_at [] no_more n w k e t h = none_paid n w k
    paid_at (x ∷ xs) (p also ps) n w k e t h = go (eqb n x.number) refl (paid_at xs ps n w k e t h)
      where
        go : (c : Bool) → eqb n x.number ≡ c → W (steps_of n xs w (own_tree k)) + (g + extra b n w k) ≤ b w + budget b k
            → W (cond c (x.list w (own_tree k)) (steps_of n xs w (own_tree k))) + (g + extra b n w k) ≤ b w + budget b k
        go true q ih =
            let m = eqb→eq n x.number (subst T (sym q) tt) in
            subst (λ (m : ℕ). W (x.list w (own_tree k)) + (g + extra b m w k) ≤ b w + budget b k) (sym m) (p w k (e ∙ m) t h)
        go false q ih = ih

    -- steps that only a record of kind n has, which is no Case
    only : (n : ℕ) (w : Words) (k : Forest) (c : Bool) (x y : List Step) → eqb n 33 ≡ false → (T c → w.kind ≡ n) → W x + g ≤ b w + budget b k
        → W y + (g + extra b w.kind w k) ≤ b w + budget b k → W (cond c x y) + (g + extra b w.kind w k) ≤ b w + budget b k
    only n w k true x y e f p q =
        let z : extra b w.kind w k ≡ 0 = ap (λ (m : ℕ). extra b m w k) (f tt) ∙ ap (λ (c : Bool). cond c (front b w.p k) 0) e in
        omega arith
    only n w k false x y e f p q = q

    once_paid : (a : Role) (w : Words) (k : Forest) → T (suits w (words_of k)) → Here k → W (steps sc a w (own_tree k)) + (g + extra b w.kind w k) ≤ b w + budget b k
    unfolding steps
    once_paid Expr w k t h = paid_at (kinds sc) kinds_paid w.kind w k refl t h
    once_paid Callee w k t h =
        only 12 w k (is_method w) _ _ refl (λ c. eqb→eq w.kind 12 (and_l (is_kind 12 w) _ c)) (method_paid w k h) (paid_at (kinds sc) kinds_paid w.kind w k refl t h)
    once_paid Tail w k t h = only 13 w k (is_kind 13 w) _ _ refl (eqb→eq w.kind 13) (call_paid ReturnCall w k h) (none_paid w.kind w k)
    once_paid Target w k t h = only 34 w k (is_kind 34 w) _ _ refl (eqb→eq w.kind 34) (target_paid w k h) (none_paid w.kind w k)
    once_paid Before w k t h =
        only 34 w k (is_kind 34 w) _ _ refl (eqb→eq w.kind 34) (omega (arith, A.fixed w, before_most w (own_tree k), second k h Expr)) (none_paid w.kind w k)
    once_paid After w k t h =
        only 34 w k (is_kind 34 w) _ _ refl (eqb→eq w.kind 34) (omega (arith, A.fixed w, after_most w (own_tree k))) (none_paid w.kind w k)

    twice_paid : (w : Words) (k : Forest) → Here k → W (steps sc Before w (own_tree k)) + W (steps sc After w (own_tree k)) + (g + extra b w.kind w k) ≤ b w + budget b k
    unfolding steps weigh
    twice_paid w k h = go (is_kind 34 w) (eqb→eq w.kind 34)
      where
        go : (c : Bool) → (T c → w.kind ≡ 34)
            → W (cond c (before_steps w (own_tree k)) []) + W (cond c (after_steps w (own_tree k)) []) + (g + extra b w.kind w k) ≤ b w + budget b k
        go true f =
            let z : extra b w.kind w k ≡ 0 = ap (λ (m : ℕ). extra b m w k) (f tt) in
            omega (arith, A.fixed w, before_most w (own_tree k), after_most w (own_tree k), second k h Expr)
        go false f = omega (arith, none_paid w.kind w k)

  -- the costs of some trees cover them
  shift : (ks ks' : Role → ℕ → ℕ) → ((a : Role) (i : ℕ) → ks' a (suc i) ≡ ks a i) → (f : Forest) (j : ℕ) → Covers b g ks j f → Covers b g ks' (suc j) f
  shift ks ks' e none j h = go
    where
      go : (i : ℕ) → suc j ≤ i → (a : Role) → ks' a i ≡ 0
      go zero p a = absurd (omega arith)
      go (suc i) p a = e a i ∙ h i (omega arith) a
  shift ks ks' e (tree r w k s) j (h, hs) =
      (record { once = λ a. omega (arith, h.once a, e a j); twice = omega (arith, h.twice, e Before j, e After j) }, shift ks ks' e s (suc j) hs)

  abbrev Owes : ℕ → Words → Forest → Type 0
  Owes r w k = T (suits w (words_of k)) → Shaped k → Settles (cost_of R sc r w k) (g + extra b w.kind w k) (b w + budget b k)

  covers : (k : Forest) → Each Owes k → Shaped k → Covers b g (child_cost R (costs_of R sc k)) 0 k
  covers none h z = λ i p a. refl
  covers (tree r w k s) (h, hs) (t, x, y) = (h t x, shift (child_cost R (costs_of R sc s)) (child_cost R (costs_of R sc (tree r w k s))) (λ a i. refl) s 0 (covers s hs y))

  owes : (r : ℕ) (w : Words) (k : Forest) → Each Owes k → Owes r w k
  owes r w k h t z =
      let ks = child_cost R (costs_of R sc k) in
      let c = stream_cost R w (costs_of R sc k) in
      let v = covers k h z in
      record { once = λ a. once_paid ks c (stream_most ks w) a w k t v; twice = twice_paid ks c (stream_most ks w) w k v }

  -- the cost of a record in a role, of what it and those below it may cost
  pub cost_bound : (r : ℕ) (w : Words) (k : Forest) → T (suits w (words_of k)) → Shaped k → (a : Role) → cost_of R sc r w k a + g ≤ b w + budget b k
  cost_bound r w k t z a = omega (arith, (owes r w k (each Owes owes k) t z).once a)

  -- and of a function's own stream
  pub stream_bound : (w : Words) (k : Forest) → 1 ≤ breadth k → Shaped k → stream_cost R w (costs_of R sc k) + g ≤ 3 * R.on_marker + budget b k
  stream_bound w k n z =
      let ks = child_cost R (costs_of R sc k) in
      omega (arith, stream_most ks w, some_children A ks 0 k n (covers k (each Owes owes k) z))
