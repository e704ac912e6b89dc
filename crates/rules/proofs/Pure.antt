-- Only a Function's record runs a function and brings its constant, names are named by load and store alone, and no other operand is greater than the
-- record's detail and the number of nodes below it: every kind's steps pass the tests. Assumes nothing.
use mathlib.Core.Path.{◌≡◌, refl, sym, subst, ◌∙◌}
use mathlib.Core.Bool.{Bool, true, false, not, cond, ◌&&◌}
use mathlib.Core.List.{List, [], ◌∷◌, ◌++◌}
use Prim.Native.Nat.{ℕ, zero, suc, ◌+◌, ◌-◌, ◌/◌, ◌%◌, ◌≤◌}
use native.Mathlib.Omega.{arith}
use native.Mathlib.Nat.{div-mul-le_self}
use lib.Dec.{T, eqb, eqb→eq, ltb}
use Rattle.tables.specs.Record.{Words, is_kind, is_do}
use Rattle.tables.specs.Forest.{Nodes, bare, node}
use Rattle.pool.specs.Value.{lit, below}
use Rattle.rules.specs.declared.StackCode.{StackCode}
use Rattle.rules.specs.declared.StackCode.TheVariants.{Code1, Code2}
use Rattle.rules.specs.Marker.{Code, Jump, JumpPopIfNull, Pop, Copy, Swap, BuildTable, BuildList, Call, ReturnCall}
use Rattle.rules.specs.Step.{
  Role,
  Expr,
  Callee,
  Tail,
  Target,
  Before,
  After,
  Set,
  Step,
  push_op,
  get_label,
  place,
  jump,
  jump_back,
  end_loop,
  access,
  expr,
  null,
  visits,
  visits_down,
  stores_down,
  get_labels,
  push_ops,
  width,
}
use Rattle.rules.specs.Arms.{
  lit_steps,
  table_steps,
  list_steps,
  binary_steps,
  assign_op_steps,
  assign_unpack_steps,
  assign_multi_steps,
  block_from,
  block_steps,
  unary_code,
  binary_code,
  no_opcode,
  is_short_form,
  get_code,
  set_code,
  property,
  is_method,
  method_steps,
  unlabelled,
  member_steps,
  arguments,
  handlers,
  registers,
  bodies,
  call_with,
  call_steps,
  items_stored,
  for_steps,
  is_tail,
  return_steps,
  simple_import,
  import_steps,
  unpacked,
  stream_steps,
  handler_steps,
  target_steps,
  before_steps,
  after_steps,
}
use Rattle.rules.specs.Patterns.{
  Part,
  item,
  key,
  value,
  parts,
  next_part,
  is_pattern_part,
  is_nested,
  grown,
  taking,
  labels_after,
  lead,
  length_test,
  table_test,
  pattern_steps,
  inside_steps,
  cleanup,
  pattern_labels,
  test_steps,
  case_tests,
  case_labels,
  cases_tests,
  match_steps,
}
use Rattle.rules.specs.Kinds.{Kind, kinds, steps_of, steps}
use Rattle.rules.proofs.EachKind.{EachKind, no_more, ◌also◌}
use Rattle.rules.proofs.Tame.{
  no_function,
  no_name,
  pure,
  both,
  held_by,
  tame,
  tame_pure,
  tally,
  width_most,
  below_most,
  arguments_most,
  Modest,
  held,
  lit_pure,
  get_pure,
  set_pure,
  unary_pure,
  binary_pure,
  coded,
}

module _ (top : ℕ) where
  abbrev Tame : List Step → Type 0
  Tame is = T (tame top is)

  either : (b : Bool) (x y : List Step) → Tame x → Tame y → Tame (cond b x y)
  either true x y p q = p
  either false x y p q = q

  visits_tame : (a : Role) (j n : ℕ) (is : List Step) → Tame is → Tame (visits a j n is)
  unfolding tame
  visits_tame a j zero is t = t
  visits_tame a j (suc n) is t = visits_tame a (suc j) n is t

  visits_down_tame : (a : Role) (n : ℕ) (is : List Step) → Tame is → Tame (visits_down a n is)
  unfolding tame
  visits_down_tame a zero is t = t
  visits_down_tame a (suc n) is t = visits_down_tame a n is t

  stores_down_tame : (n : ℕ) (is : List Step) → Tame is → Tame (stores_down n is)
  unfolding tame
  stores_down_tame zero is t = t
  stores_down_tame (suc n) is t = stores_down_tame n is t

  get_labels_tame : (n : ℕ) (is : List Step) → Tame is → Tame (get_labels n is)
  unfolding tame
  get_labels_tame zero is t = t
  get_labels_tame (suc n) is t = get_labels_tame n is t

  push_ops_tame : (n : ℕ) (c : Code) (x : ℕ) (is : List Step) → T (no_name c) → T (held_by top x) → Tame is → Tame (push_ops n c x is)
  unfolding tame
  push_ops_tame zero c x is u v t = t
  push_ops_tame (suc n) c x is u v t = both (no_name c) _ u (both (held_by top x) _ v (push_ops_tame n c x is u v t))

  registers_tame : (i j n : ℕ) (is : List Step) → Tame is → Tame (registers i j n is)
  unfolding tame
  registers_tame i j zero is t = t
  registers_tame i j (suc n) is t = registers_tame (suc i) (suc j) n is t

  bodies_tame : (i j n : ℕ) (is : List Step) → Tame is → Tame (bodies i j n is)
  unfolding tame
  bodies_tame i j zero is t = t
  bodies_tame i j (suc n) is t = bodies_tame (suc i) (suc j) n is t

  items_tame : (i n : ℕ) (is : List Step) → Tame is → Tame (items_stored i n is)
  unfolding tame
  items_tame i zero is t = t
  items_tame i (suc n) is t = items_tame (suc i) n is t

  unpacked_tame : (i n : ℕ) (is : List Step) → Tame is → Tame (unpacked i n is)
  unfolding tame
  unpacked_tame i zero is t = t
  unpacked_tame i (suc n) is t = unpacked_tame (suc i) n is t

  property_tame : (m : ℕ) (k : Nodes) (is : List Step) → Tame is → Tame (property m k is)
  unfolding tame
  property_tame m k is t = either (eqb m 0) (expr 1 ∷ is) _ t (either (ltb m 3) _ is t t)

  block_tame : (j : ℕ) (k : Nodes) → Tame (block_from j k)
  unfolding tame
  block_tame j bare = tt
  block_tame j (node w k s) = block_tame (suc j) s

  blocks_tame : (w : Words) (k : Nodes) → Tame (block_steps w k)
  unfolding tame
  blocks_tame w bare = tt
  blocks_tame w (node w' k s) = block_tame 0 s

  calls_tame : (c : Code) → T (no_name c) → (n a h : ℕ) → T (held_by top n) → Tame (call_with c n a h)
  unfolding tame
  calls_tame c u n a zero v = visits_tame Expr 1 a (push_op c n ∷ []) (both (no_name c) _ u (both (held_by top n) true v tt))
  calls_tame c u n a (suc h) v =
      visits_tame Expr 1 a (get_label ∷ registers 1 (suc a) (suc h) (push_op Call n ∷ jump Jump 0 ∷ bodies 1 (suc a) (suc h) (place 0 ∷ [])))
      (registers_tame 1 (suc a) (suc h) (push_op Call n ∷ jump Jump 0 ∷ bodies 1 (suc a) (suc h) (place 0 ∷ []))
      (both (held_by top n) _ v (bodies_tame 1 (suc a) (suc h) (place 0 ∷ []) tt)))

  call_tame : (c : Code) → T (no_name c) → (w : Words) (k : Nodes) → Modest top w k → Tame (call_steps c w k)
  call_tame c u w bare m = calls_tame c u 0 0 0 tt
  call_tame c u w (node w' k s) m = calls_tame c u _ (arguments s) (handlers s) (counted (is_method w'))
    where
      counted : (b : Bool) → T (held_by top (cond b (suc (arguments s)) (arguments s)))
      counted true = held top (suc (arguments s)) (omega (arith, arguments_most s, m.nodes))
      counted false = held top (arguments s) (omega (arith, arguments_most s, m.nodes))

  -- patterns
  taking_tame : (d h : ℕ) (is : List Step) → Tame is → Tame (taking d h is)
  unfolding tame
  taking_tame d h is t = either (ltb (suc d) h) is (get_label ∷ is) t t

  test_tame : (l : ℕ) (at : List ℕ) (w : Words) (k : Nodes) (is : List Step) → Tame is → Tame (table_test l at w k is)
  unfolding tame
  test_tame l at w k is t = either (eqb w.detail 1) is (length_test l at w k is) t t

  pattern_tame : (m d h : ℕ) (at : List ℕ) (w : Words) (k : Nodes) (inside : List Step → List Step) (is : List Step) → ((is : List Step) → Tame is → Tame (inside is)) → Tame is
      → Tame (pattern_steps m d h at w k inside is)
  unfolding tame
  pattern_tame m d h at w k inside is ih t =
      either (is_nested w) _ _ (taking_tame d h _ (test_tame (m + suc d) at w k (inside (push_op Pop 0 ∷ is)) (ih (push_op Pop 0 ∷ is) t)))
      (either (is_kind 36 w) (jump JumpPopIfNull (m + d) ∷ access Set at ∷ is) _ t (both (no_function (lit w.detail w.p w.q)) _ (lit_pure w.detail w.p w.q) t))

  lead_tame : (part : Part) (at : List ℕ) (i : ℕ) (w : Words) (is : List Step) → Tame is → Tame (lead part at i w is)
  unfolding tame
  lead_tame item at i w is t = t
  lead_tame key at i w is t = both (no_function (lit w.detail w.p w.q)) _ (lit_pure w.detail w.p w.q) t
  lead_tame value at i w is t = t

  inside_tame : (f : Nodes) (part : Part) (m d h : ℕ) (at : List ℕ) (i : ℕ) (is : List Step) → Tame is → Tame (inside_steps part m d h at i f is)
  inside_tame bare part m d h at i is t = t
  inside_tame (node w k s) part m d h at i is t =
      let rest = inside_steps (next_part part) m d (cond (is_pattern_part part && is_nested w) (labels_after (parts w) (suc d) (grown d h) k) h) at (suc i) s is in
      let inside : List Step → List Step = λ is. inside_steps (parts w) m (suc d) (grown d h) (at ++ (i ∷ [])) 0 k is in
      let u = inside_tame s (next_part part) m d (cond (is_pattern_part part && is_nested w) (labels_after (parts w) (suc d) (grown d h) k) h) at (suc i) is t in
      lead_tame part at i w (cond (is_pattern_part part) (pattern_steps m d h (at ++ (i ∷ [])) w k inside rest) rest)
      (either (is_pattern_part part) (pattern_steps m d h (at ++ (i ∷ [])) w k inside rest) rest
      (pattern_tame m d h (at ++ (i ∷ [])) w k inside rest (λ is t. inside_tame k (parts w) m (suc d) (grown d h) (at ++ (i ∷ [])) 0 is t) u) u)

  cleanup_tame : (h m : ℕ) (is : List Step) → Tame is → Tame (cleanup m h is)
  unfolding tame
  cleanup_tame zero m is t = t
  cleanup_tame (suc zero) m is t = t
  cleanup_tame (suc (suc h)) m is t = cleanup_tame (suc h) m is t

  tests_tame : (m i : ℕ) (at : List ℕ) (w : Words) (k : Nodes) (is : List Step) → Tame is → Tame (test_steps m i at w k is)
  unfolding tame
  tests_tame m i at w k is t =
      pattern_tame m 0 1 at w k (λ is. inside_steps (parts w) m 1 (grown 0 1) at 0 k is) (push_op Pop 0 ∷ jump Jump i ∷ cleanup m (pattern_labels w k) is)
      (λ is t. inside_tame k (parts w) m 1 (grown 0 1) at 0 is t) (cleanup_tame (pattern_labels w k) m is t)

  case_tests_tame : (k : Nodes) (m i j c n : ℕ) (is : List Step) → Tame is → Tame (case_tests m i j c n k is)
  case_tests_tame bare m i j c n is t = t
  case_tests_tame (node w k s) m i j c zero is t = t
  case_tests_tame (node w k s) m i j c (suc n) is t =
      tests_tame m i (j ∷ c ∷ []) w k (case_tests (m + pattern_labels w k) i j (suc c) n s is) (case_tests_tame s (m + pattern_labels w k) i j (suc c) n is t)

  cases_tests_tame : (s : Nodes) (m j : ℕ) (is : List Step) → Tame is → Tame (cases_tests m j s is)
  cases_tests_tame bare m j is t = t
  cases_tests_tame (node w k s) m j is t =
      case_tests_tame k m j j 0 w.p (cases_tests (m + case_labels w.p k) (suc j) s is) (cases_tests_tame s (m + case_labels w.p k) (suc j) is t)

  matches_tame : (w : Words) (k : Nodes) → Tame (match_steps w k)
  unfolding tame
  matches_tame w bare = tt
  matches_tame w (node w' k s) =
      let last = place 0 ∷ push_op Swap 2 ∷ push_op Pop 0 ∷ [] in
      let more = null ∷ jump Jump 0 ∷ bodies 1 1 (width s) last in
      get_labels_tame (width s) (cases_tests (suc (width s)) 1 s more) (cases_tests_tame s (suc (width s)) 1 more (bodies_tame 1 1 (width s) last tt))

  members_tame : (sc : StackCode) (w : Words) (k : Nodes) → Tame (member_steps sc w k)
  unfolding tame
  members_tame sc w k = either (unlabelled sc w.detail) _ _ (got [] tt) (either (ltb w.detail 8) _ _ (got (place 0 ∷ []) tt) (got (place 0 ∷ []) tt))
    where
      m : ℕ
      m = w.detail % 8

      got : (end : List Step) → Tame end → Tame (property m k (push_op (get_code m) 0 ∷ end))
      got end p = property_tame m k (push_op (get_code m) 0 ∷ end) (both (no_name (get_code m)) (tame top end) (get_pure m) p)

  methods_tame : (sc : StackCode) (w : Words) (k : Nodes) → Tame (method_steps sc w k)
  unfolding tame
  methods_tame sc w k = either (unlabelled sc w.detail) _ _ (got [] tt) (either (ltb w.detail 8) _ _ (got (place 0 ∷ []) tt) (got (place 0 ∷ []) tt))
    where
      m : ℕ
      m = w.detail % 8

      got : (end : List Step) → Tame end → Tame (property m k (push_op (get_code m) 0 ∷ push_op Swap 2 ∷ end))
      got end p = property_tame m k (push_op (get_code m) 0 ∷ push_op Swap 2 ∷ end) (both (no_name (get_code m)) (tame top end) (get_pure m) p)

  fors_tame : (w : Words) (k : Nodes) → Tame (for_steps w k)
  unfolding tame
  fors_tame w k =
      let more = expr (suc w.p) ∷ push_op Pop 0 ∷ jump_back 0 ∷ place 1 ∷ push_op Pop 0 ∷ null ∷ end_loop ∷ [] in
      either (eqb w.p 1) (access Set (0 ∷ []) ∷ more) (items_stored 0 w.p (push_op Pop 0 ∷ more)) tt (items_tame 0 w.p (push_op Pop 0 ∷ more) tt)

  simple_tame : (w : Words) (p : ℕ) → Tame (simple_import w p)
  unfolding tame
  simple_tame w zero = tt
  simple_tame w (suc p) = tt

  -- each kind but Function
  abbrev TameKind : Kind → Type 0
  TameKind x = T (not (eqb x.number 30)) → (w : Words) (k : Nodes) → Modest top w k → Tame (x.list w k)

  tame_at : (xs : List Kind) → EachKind TameKind xs → (n : ℕ) → (n ≡ 30 → ⊥) → (w : Words) (k : Nodes) → Modest top w k → Tame (steps_of n xs w k)
  unfolding tame
  tame_at [] no_more n ne w k m = tt
  tame_at (x ∷ xs) (h also hs) n ne w k m = go (eqb n x.number) refl (tame_at xs hs n ne w k m)
    where
      other : (b : Bool) → eqb x.number 30 ≡ b → n ≡ x.number → T (not b)
      other true e q = absurd (ne (q ∙ eqb→eq x.number 30 (subst T (sym e) tt)))
      other false e q = tt

      go : (b : Bool) → eqb n x.number ≡ b → Tame (steps_of n xs w k) → Tame (cond b (x.list w k) (steps_of n xs w k))
      go true e ih = h (other (eqb x.number 30) refl (eqb→eq n x.number (subst T (sym e) tt))) w k m
      go false e ih = ih

  lits_tame : (w : Words) (k : Nodes) → Tame (lit_steps w k)
  unfolding tame
  lits_tame w k = both (no_function (lit w.detail w.p w.q)) true (lit_pure w.detail w.p w.q) tt

  binaries_tame : (w : Words) (k : Nodes) → Tame (binary_steps w k)
  unfolding tame
  binaries_tame w k =
      either (eqb w.detail 5) _ _ tt (either (eqb w.detail 6) _ _ tt (either (no_opcode w.detail) _ _ tt (coded (binary_code w.detail) (binary_pure w.detail))))

  assign_ops_tame : (w : Words) (k : Nodes) → Tame (assign_op_steps w k)
  unfolding tame
  assign_ops_tame w k =
      either (is_short_form w.detail k) _ _ (either (eqb w.detail 6) _ _ tt tt)
      (either (no_opcode w.detail) _ _ tt (coded (binary_code w.detail) (binary_pure w.detail)))

  imports_tame : (w : Words) (k : Nodes) → Tame (import_steps w k)
  unfolding tame
  imports_tame w k =
      either (ltb w.detail 2) _ _ (simple_tame w w.p) (either (eqb w.detail 2) _ _ (visits_tame Expr w.p (width k - w.p) (push_op Pop 0 ∷ null ∷ []) tt) tt)

  unpacks_tame : (w : Words) (k : Nodes) → Tame (assign_unpack_steps w k)
  unfolding tame
  unpacks_tame w k = push_ops_tame (w.p - 1) Copy 1 (unpacked 0 w.p (null ∷ [])) tt tt (unpacked_tame 0 w.p (null ∷ []) tt)

  multis_tame : (w : Words) (k : Nodes) → Tame (assign_multi_steps w k)
  unfolding tame
  multis_tame w k =
      either (eqb (w.p + w.p) (width k)) _ _ (visits_tame Expr w.p w.p (visits_down Target w.p (null ∷ [])) (visits_down_tame Target w.p (null ∷ []) tt)) tt

  returns_tame : (sc : StackCode) (w : Words) (k : Nodes) → Tame (return_steps sc w k)
  unfolding tame
  returns_tame Code1 w k = either (is_tail k) _ _ tt tt
  returns_tame Code2 w k = either (is_tail k) _ _ tt tt

  -- one instruction of a computed operand at the end
  counted : (x : ℕ) → x ≤ top → T (held_by top x && true)
  counted x h = both (held_by top x) true (held top x h) tt

  handlers_tame : (w : Words) (k : Nodes) → Modest top w k → Tame (handler_steps w k)
  unfolding tame
  handlers_tame w k m = counted (width (below k 1)) (omega (arith, below_most k 1, m.nodes))

  tables_tame : (w : Words) (k : Nodes) → Modest top w k → Tame (table_steps w k)
  unfolding tame
  tables_tame w k m =
      visits_tame Expr 0 (width k) (push_op BuildTable (width k / 2) ∷ []) (counted (width k / 2) (omega (arith, width_most k, m.nodes, div-mul-le_self (width k) 2)))

  lists_tame : (w : Words) (k : Nodes) → Modest top w k → Tame (list_steps w k)
  unfolding tame
  lists_tame w k m = visits_tame Expr 0 (width k) (push_op BuildList (width k) ∷ []) (counted (width k) (omega (arith, width_most k, m.nodes)))

  kinds_tame : (sc : StackCode) → EachKind TameKind (kinds sc)
  unfolding tame
  kinds_tame sc =
      (λ h w k m. lits_tame w k) also (λ h w k m. tt) also (λ h w k m. tt) also (λ h w k m. blocks_tame w k) also (λ h w k m. either (eqb w.detail 1) _ _ tt tt) also
      (λ h w k m. tt) also
      (λ h w k m. tables_tame w k m) also (λ h w k m. lists_tame w k m) also
      (λ h w k m. coded (unary_code w.detail) (unary_pure w.detail)) also (λ h w k m. binaries_tame w k) also (λ h w k m. counted w.detail m.detail) also
      (λ h w k m. members_tame sc w k) also (λ h w k m. call_tame Call tt w k m) also (λ h w k m. either (eqb w.detail 1) _ _ tt tt) also
      (λ h w k m. matches_tame w k) also (λ h w k m. tt) also (λ h w k m. tt) also (λ h w k m. fors_tame w k) also (λ h w k m. tt) also (λ h w k m. tt) also
      (λ h w k m. returns_tame sc w k) also (λ h w k m. imports_tame w k) also (λ h w k m. tt) also (λ h w k m. tt) also (λ h w k m. assign_ops_tame w k) also
      (λ h w k m. unpacks_tame w k) also (λ h w k m. multis_tame w k) also (λ h w k m. absurd h) also (λ h w k m. stores_down_tame (width k) [] tt) also
      (λ h w k m. handlers_tame w k m) also (λ h w k m. tt) also (λ h w k m. tt) also no_more

  targets_tame : (w : Words) (k : Nodes) → Tame (target_steps w k)
  unfolding tame
  targets_tame w k =
      either (eqb w.detail 0) _ _ tt
      (property_tame (w.detail - 1) k (push_op (set_code (w.detail - 1)) 0 ∷ access Set (0 ∷ []) ∷ []) (both (no_name (set_code (w.detail - 1))) true (set_pure (w.detail - 1)) tt))

  befores_tame : (w : Words) (k : Nodes) → Tame (before_steps w k)
  unfolding tame
  befores_tame w k =
      either (eqb w.detail 0) _ _ tt (either (ltb w.detail 4) _ _
      (property_tame (w.detail - 1) k (push_op Copy 2 ∷ push_op Copy 2 ∷ push_op (get_code (w.detail - 1)) 0 ∷ []) got) got)
    where
      got : T (no_name (get_code (w.detail - 1)) && true)
      got = both (no_name (get_code (w.detail - 1))) true (get_pure (w.detail - 1)) tt

  afters_tame : (w : Words) (k : Nodes) → Tame (after_steps w k)
  unfolding tame
  afters_tame w k = either (eqb w.detail 0) _ _ tt (either (ltb w.detail 4) _ _ put_on put_on)
    where
      put_on : T (no_name (set_code (w.detail - 1)) && true)
      put_on = both (no_name (set_code (w.detail - 1))) true (set_pure (w.detail - 1)) tt

  -- only a Function's steps bring a Function
  pub steps_tame : (sc : StackCode) (a : Role) (w : Words) (k : Nodes) → (w.kind ≡ 30 → ⊥) → Modest top w k → Tame (steps sc a w k)
  unfolding steps tame
  steps_tame sc Expr w k ne m = tame_at (kinds sc) (kinds_tame sc) w.kind ne w k m
  steps_tame sc Callee w k ne m = either (is_method w) (method_steps sc w k) _ (methods_tame sc w k) (tame_at (kinds sc) (kinds_tame sc) w.kind ne w k m)
  steps_tame sc Tail w k ne m = either (is_kind 13 w) (call_steps ReturnCall w k) [] (call_tame ReturnCall tt w k m) tt
  steps_tame sc Target w k ne m = either (is_kind 34 w) (target_steps w k) [] (targets_tame w k) tt
  steps_tame sc Before w k ne m = either (is_kind 34 w) (before_steps w k) [] (befores_tame w k) tt
  steps_tame sc After w k ne m = either (is_kind 34 w) (after_steps w k) [] (afters_tame w k) tt

  -- the steps around a function's body
  pub stream_tame : (w : Words) → Tame (stream_steps w)
  unfolding tame
  stream_tame w = either (is_do w) _ _ tt tt

-- every list is so for some n
every_modest : (w : Words) (k : Nodes) → Modest (w.detail + tally k) w k
every_modest w k = record { detail = omega arith; nodes = omega arith }

pub none_pure : T (pure [])
unfolding pure
none_pure = tt

pub steps_pure : (sc : StackCode) (a : Role) (w : Words) (k : Nodes) → (w.kind ≡ 30 → ⊥) → T (pure (steps sc a w k))
steps_pure sc a w k ne = tame_pure (w.detail + tally k) (steps sc a w k) (steps_tame (w.detail + tally k) sc a w k ne (every_modest w k))

pub stream_pure : (w : Words) → T (pure (stream_steps w))
stream_pure w = tame_pure 0 (stream_steps w) (stream_tame 0 w)
