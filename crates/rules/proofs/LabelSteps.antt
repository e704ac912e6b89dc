-- The labels that parts of step lists take, and whole lists that do not depend on the children. Assumes nothing.
use mathlib.Core.Path.{◌≡◌, refl, sym, ap, subst}
use mathlib.Core.Bool.{Bool, true, false, cond, not, ◌||◌}
use mathlib.Core.List.{List, [], ◌∷◌}
use Prim.Native.Nat.{ℕ, zero, suc, ◌+◌, ◌-◌, ◌%◌, ◌≤◌, ◌<◌}
use native.Mathlib.Omega.{arith}
use lib.Dec.{T, eqb, ltb, eqb→eq, ltb→lt, nltb→le}
use Rattle.tables.specs.Record.{Words}
use Rattle.tables.specs.Forest.{Forest, Nodes, bare, node}
use Rattle.tables.specs.declared.children.Class.{Class}
use Rattle.tables.specs.declared.children.Class.TheVariants.{Expr as expression, Pattern, Ident, Block, Function, Params, Left, Item}
use Rattle.tables.specs.Children.{times, any, one, belongs, fits, member, property as wanted, left_property, imported, bracket, node_words}
use Rattle.rules.specs.Run.{Lookup}
use Rattle.rules.specs.declared.StackCode.{StackCode}
use Rattle.rules.specs.declared.StackCode.TheVariants.{Code1, Code2}
use Rattle.rules.specs.Marker.{Code, Pop, Copy, Swap, Jump, Call, ImportGlob, Return}
use Rattle.rules.specs.Step.{
  Role,
  Expr,
  Callee,
  Tail,
  Target,
  Before,
  After,
  pass,
  Set,
  Step,
  push_op,
  get_label,
  place,
  jump,
  jump_back,
  visit,
  end_loop,
  access,
  expr,
  null,
  visits,
  visits_down,
  stores_down,
  get_labels,
  push_ops,
  width,
}
use Rattle.rules.specs.Arms.{
  block_from,
  fn_steps,
  no_opcode,
  is_short_form,
  property,
  safe_jump,
  get_code,
  set_code,
  method_steps,
  unlabelled,
  member_steps,
  registers,
  bodies,
  call_with,
  if_steps,
  items_stored,
  for_targets,
  for_steps,
  is_tail,
  return_label,
  return_steps,
  simple_import,
  import_steps,
  binary_steps,
  unpacked,
  assign_op_steps,
  assign_unpack_steps,
  assign_multi_steps,
  target_steps,
  before_steps,
}
use Rattle.rules.specs.Counts.{call_labels, return_labels, own_labels}
use Rattle.rules.proofs.Segment.{Seg, seg_count}
use Rattle.rules.proofs.LabelShapes.{
  as_kind,
  kind_at,
  after,
  kind_after,
  sum,
  sum_split,
  sum_zero,
  rest_kinds,
  member_zero,
  tail_kind,
  AllKinds,
  kinds_at,
  kinds_map,
  fits_none,
  fits_one,
  Leading,
  fits_times,
  fits_single,
  fits_two,
  fits_three,
  fits_any,
  is_listed,
  plays,
  visited,
  class_plays,
  quiet,
  ident_quiet,
  params_quiet,
  pattern_quiet,
}

-- what is known of the children: a visited one takes L of its number; one that is never visited has none
pub record Counts (ks : Role → ℕ → Seg) (L : ℕ → ℕ) (N : Nodes) : Type 0 where
  pub visits : (a : Role) (j : ℕ) → T (plays a (kind_at N j)) → (ks a j).count ≡ L j
  pub afters : (j : ℕ) → (ks After j).count ≡ 0
  pub absent : (a : Role) (j : ℕ) → width N ≤ j → (ks a j).count ≡ 0
  pub silent : (j : ℕ) → T (quiet (kind_at N j)) → L j ≡ 0

-- a record's own labels with the kind apart
abbrev pub own_as : StackCode → ℕ → Words → Nodes → ℕ
own_as sc n w k = own_labels sc (as_kind n w) k

-- a visit of the kind reaches all children: not a Function's, and an AssignMulti's only if the lengths agree
abbrev pub reaches : ℕ → Words → Nodes → Bool
reaches n w N = cond (eqb n 30) false (cond (eqb n 27) (eqb (w.p + w.p) (width N)) true)

module _ (t : Lookup) (fn : Words) (r : ℕ) (w₀ : Words) (f : Forest) (ks : Role → ℕ → Seg) (body : Seg) where
  abbrev count : List Step → ℕ
  count is = seg_count t fn r w₀ f ks body is

  pub either : (b : Bool) (x y : List Step) (n : ℕ) → count x ≡ n → count y ≡ n → count (cond b x y) ≡ n
  either true x y n p q = p
  either false x y n p q = q

  -- a choice by what it is known to be
  branch : (P : Bool → Type 0) (b : Bool) (x y : List Step) (n : ℕ) → P b → (P true → count x ≡ n) → (P false → count y ≡ n) → count (cond b x y) ≡ n
  branch P true x y n u p q = p u
  branch P false x y n u p q = q u

  pub takes_count : (n : ℕ) (is : List Step) → count (get_labels n is) ≡ n + count is
  unfolding seg_count
  takes_count zero is = omega arith
  takes_count (suc n) is = omega (arith, takes_count n is)

  says_count : (n : ℕ) (c : Code) (x : ℕ) (is : List Step) → count (push_ops n c x is) ≡ count is
  unfolding seg_count
  says_count zero c x is = refl
  says_count (suc n) c x is = says_count n c x is

  pub stores_count : (n : ℕ) (is : List Step) → count (stores_down n is) ≡ count is
  unfolding seg_count
  stores_count zero is = refl
  stores_count (suc n) is = stores_count n is

  items_count : (i n : ℕ) (is : List Step) → count (items_stored i n is) ≡ count is
  unfolding seg_count
  items_count i zero is = refl
  items_count i (suc n) is = items_count (suc i) n is

  targets_count : (p : ℕ) (is : List Step) → count (for_targets p is) ≡ count is
  unfolding seg_count
  targets_count p is = either (eqb p 1) (access Set (0 ∷ []) ∷ is) (items_stored 0 p (push_op Pop 0 ∷ is)) (count is) refl (items_count 0 p (push_op Pop 0 ∷ is))

  registers_count : (i j n : ℕ) (is : List Step) → count (registers i j n is) ≡ n + count is
  unfolding seg_count
  registers_count i j zero is = omega arith
  registers_count i j (suc n) is = omega (arith, registers_count (suc i) (suc j) n is)

  safe_count : (w : Words) (is : List Step) → count (safe_jump w is) ≡ count is
  unfolding seg_count
  safe_count w is = either (ltb w.detail 8) is _ (count is) refl refl

  module _ (N : Nodes) (L : ℕ → ℕ) (h : Counts ks L N) where
    -- the labels of all children
    abbrev all : ℕ
    all = sum L 0 (width N)

    -- children j to j + n are visited in a role
    abbrev Plays : Role → ℕ → ℕ → Type 0
    Plays a j n = (i : ℕ) → j ≤ i → i < j + n → T (plays a (kind_at N i))

    pub visits_count : (a : Role) (j n : ℕ) (is : List Step) → Plays a j n → count (visits a j n is) ≡ sum L j n + count is
    unfolding seg_count
    visits_count a j zero is p = omega arith
    visits_count a j (suc n) is p =
        omega (arith, h.visits a j (p j (omega arith) (omega arith)), visits_count a (suc j) n is (λ i g l. p i (omega arith) (omega arith)))

    visits_down_count : (a : Role) (n : ℕ) (is : List Step) → Plays a 0 n → count (visits_down a n is) ≡ sum L 0 n + count is
    unfolding seg_count
    visits_down_count a zero is p = omega arith
    visits_down_count a (suc n) is p =
        omega (
          arith,
          h.visits a n (p n (omega arith) (omega arith)),
          visits_down_count a n is (λ i g l. p i g (omega arith)),
          sum_split L n 1 0 n (suc n) (omega arith) (omega arith),
        )

    unpacked_count : (i n : ℕ) (is : List Step) → Plays Target i n → count (unpacked i n is) ≡ sum L i n + count is
    unfolding seg_count
    unpacked_count i zero is p = omega arith
    unpacked_count i (suc n) is p =
        omega (arith, h.visits Target i (p i (omega arith) (omega arith)), unpacked_count (suc i) n is (λ j g l. p j (omega arith) (omega arith)))

    pub bodies_count : (i j n : ℕ) (is : List Step) → Plays Expr j n → count (bodies i j n is) ≡ sum L j n + count is
    unfolding seg_count
    bodies_count i j zero is p = omega arith
    bodies_count i j (suc n) is p =
        omega (arith, h.visits Expr j (p j (omega arith) (omega arith)), bodies_count (suc i) (suc j) n is (λ x g l. p x (omega arith) (omega arith)))

    pub block_count : (s : Nodes) (j : ℕ) → Plays Expr j (suc (width s)) → count (block_from j s) ≡ sum L j (suc (width s))
    unfolding seg_count
    block_count bare j p = omega (arith, h.visits Expr j (p j (omega arith) (omega arith)))
    block_count (node w k s) j p =
        omega (arith, h.visits Expr j (p j (omega arith) (omega arith)), block_count s (suc j) (λ i g l. p i (omega arith) (omega arith)))

    -- how many children there are fixes the sum
    all_of : (n : ℕ) → width N ≡ n → all ≡ sum L 0 n
    all_of n e = ap (λ m. sum L 0 m) e

    all_from : (p n : ℕ) → width N ≡ p + n → all ≡ sum L 0 p + sum L p n
    all_from p n e = sum_split L p n 0 p (width N) (omega arith) (sym e)

    -- a child of a class is visited as an expression, or is silent
    pub seen : (c : Class) → T (visited c) → (j : ℕ) → T (belongs c (kind_at N j)) → (ks Expr j).count ≡ L j
    seen c v j u = h.visits Expr j (class_plays c v (kind_at N j) u)

    ident : (j : ℕ) → T (belongs Ident (kind_at N j)) → L j ≡ 0
    ident j u = h.silent j (ident_quiet (kind_at N j) u)

    pub leaf : T (fits [] (node_words N)) → all ≡ 0
    leaf u = all_of 0 (fits_none N u)

    pub single : (c : Class) → T (visited c) → T (fits (one c ∷ []) (node_words N)) → (ks Expr 0).count ≡ all
    single c v u = let g = fits_single c N u in omega (arith, all_of 1 g.0, seen c v 0 g.1)

    pub double : (c d : Class) → T (visited c) → T (visited d) → T (fits (one c ∷ one d ∷ []) (node_words N)) → (ks Expr 0).count + (ks Expr 1).count ≡ all
    double c d v x u = let g = fits_two c d N u in omega (arith, all_of 2 g.wide, seen c v 0 g.is0, seen d x 1 g.is1)

    -- the first is an Ident
    pub named : (d : Class) → T (visited d) → T (fits (one Ident ∷ one d ∷ []) (node_words N)) → (ks Expr 1).count ≡ all
    named d x u = let g = fits_two Ident d N u in omega (arith, all_of 2 g.wide, ident 0 g.is0, seen d x 1 g.is1)

    -- all are visited
    pub row_count : (is : List Step) → AllKinds is_listed N → count (visits Expr 0 (width N) is) ≡ all + count is
    row_count is k = visits_count Expr 0 (width N) is (λ i g l. kinds_at is_listed N k i (omega arith))

    -- all are silent
    mute : AllKinds quiet N → all ≡ 0
    mute k = sum_zero L 0 (width N) (λ i g l. h.silent i (kinds_at quiet N k i (omega arith)))

    idents : T (fits (any Ident ∷ []) (node_words N)) → all ≡ 0
    idents u = mute (kinds_map (belongs Ident) quiet ident_quiet N (fits_any Ident N u))

    -- Fn, Binary, If
    pub fn_count : (w : Words) → T (fits (bracket w (one Ident) (one Function ∷ [])) (node_words N)) → count (fn_steps w N) ≡ 0 + all
    unfolding seg_count
    fn_count w u =
        branch (λ b. T (fits (cond b (one Ident ∷ one Function ∷ []) (one Function ∷ [])) (node_words N))) (eqb w.detail 1) _ _ (0 + all) u
        (λ u. omega (arith, named Function tt u)) (λ u. omega (arith, single Function tt u))

    -- a label where b
    counted_if : (b : Bool) (x y : List Step) → count x ≡ 1 + all → count y ≡ 0 + all → count (cond b x y) ≡ cond b 1 0 + all
    counted_if true x y p q = p
    counted_if false x y p q = q

    short_count : (x y : Bool) (a b c : List Step) → count a ≡ 1 + all → count b ≡ 1 + all → count c ≡ 0 + all → count (cond x a (cond y b c)) ≡ cond (x || y) 1 0 + all
    short_count true y a b c p q z = p
    short_count false true a b c p q z = q
    short_count false false a b c p q z = z

    pub binary_count : (w : Words) → T (fits (one expression ∷ one expression ∷ []) (node_words N))
        → count (binary_steps w N) ≡ cond (eqb w.detail 5 || eqb w.detail 6) 1 0 + all
    unfolding seg_count
    binary_count w u =
        let d = double expression expression tt tt u in
        short_count (eqb w.detail 5) (eqb w.detail 6) _ _ _ (omega (arith, d)) (omega (arith, d))
        (either (no_opcode w.detail) _ _ (0 + all) (omega (arith, d)) (omega (arith, d)))

    pub if_count : (w : Words) → T (fits (one expression ∷ one Block ∷ bracket w (one expression) []) (node_words N)) → count (if_steps w N) ≡ 2 + all
    unfolding seg_count
    if_count w u =
        branch (λ b. T (fits (one expression ∷ one Block ∷ cond b (one expression ∷ []) []) (node_words N))) (eqb w.detail 1) _ _ (2 + all) u
        (λ u.
        let g = fits_three expression Block expression N u in
        omega (arith, all_of 3 g.wide, seen expression tt 0 g.is0, seen Block tt 1 g.is1, seen expression tt 2 g.is2))
        (λ u. omega (arith, double expression Block tt tt u))

    pub effect_count : T (fits (one Ident ∷ one Params ∷ []) (node_words N)) → all ≡ 0
    effect_count u =
        let g = fits_two Ident Params N u in
        omega (arith, all_of 2 g.wide, ident 0 g.is0, h.silent 1 (params_quiet (kind_at N 1) g.is1))

    -- n: the member that the steps see, m: the one that the shape sees
    property_count : (m n : ℕ) (is : List Step) → (T (eqb m 0) → T (eqb n 0)) → width N ≡ suc (width (after 1 N)) → T (fits (wanted m) (node_words (after 1 N)))
        → count (property n N is) ≡ sum L 1 (width (after 1 N)) + count is
    unfolding seg_count
    property_count m n is q e = go (eqb m 0) (eqb m 1 || eqb m 2) q
      where
        of : (l : ℕ) → width (after 1 N) ≡ l → sum L 1 (width (after 1 N)) ≡ sum L 1 l
        of l z = ap (λ x. sum L 1 x) z

        at : (c : Class) → T (belongs c (kind_at (after 1 N) 0)) → T (belongs c (kind_at N 1))
        at c u = subst (λ x. T (belongs c x)) (kind_after 1 N 0 1 refl) u

        plain : (ks Expr 1).count ≡ 0 → count (property n N is) ≡ count is
        plain z = either (eqb n 0) (expr 1 ∷ is) _ (count is) (omega (arith, z)) (either (ltb n 3) _ is (count is) refl refl)

        go : (x y : Bool) → (T x → T (eqb n 0)) → T (fits (cond x (one expression ∷ []) (cond y (one Ident ∷ []) [])) (node_words (after 1 N)))
            → count (property n N is) ≡ sum L 1 (width (after 1 N)) + count is
        go true y q u =
            let g = fits_single expression (after 1 N) u in
            branch T (eqb n 0) (expr 1 ∷ is) _ _ (q tt) (λ v. omega (arith, of 1 g.0, seen expression tt 1 (at expression g.1))) (λ v. absurd v)
        go false true q u =
            let g = fits_single Ident (after 1 N) u in
            let i = at Ident g.1 in
            omega (arith, of 1 g.0, ident 1 i, plain (omega (arith, seen Ident tt 1 i, ident 1 i)))
        go false false q u =
            let g = fits_none (after 1 N) u in
            omega (arith, of 0 g, plain (h.absent Expr 1 (omega (arith, e, g))))

    -- a Member, as callee too
    module _ (sc : StackCode) (w : Words) (u : T (fits (one expression ∷ wanted (member w.detail)) (node_words N))) where
      -- a label where it is not left out
      labelled : (b : Bool) (x y : List Step) → (ks Expr 0).count + count x ≡ 0 + all → (ks Expr 0).count + count y ≡ 1 + all
          → (ks Expr 0).count + count (cond b x y) ≡ cond b 0 1 + all
      labelled true x y p q = p
      labelled false x y p q = q

      member_rest : (is : List Step) → (ks Expr 0).count + count (property (w.detail % 8) N is) ≡ all + count is
      member_rest is =
          let g = fits_one expression (wanted (member w.detail)) N u in
          omega (
            arith,
            seen expression tt 0 g.is,
            all_of (suc (width (after 1 N))) g.wide,
            property_count (member w.detail) (w.detail % 8) is (member_zero w.detail) g.wide g.rest,
          )

      pub member_count_lem : count (member_steps sc w N) ≡ cond (unlabelled sc w.detail) 0 1 + all
      unfolding seg_count
      member_count_lem =
          labelled (unlabelled sc w.detail) (more []) (get_label ∷ safe_jump w (more (place 0 ∷ []))) (omega (arith, member_rest (last [])))
          (omega (arith, safe_count w (more (place 0 ∷ [])), member_rest (last (place 0 ∷ []))))
        where
          last : List Step → List Step
          last end = push_op (get_code (w.detail % 8)) 0 ∷ end

          more : List Step → List Step
          more end = property (w.detail % 8) N (last end)

      pub method_count : count (method_steps sc w N) ≡ cond (unlabelled sc w.detail) 0 1 + all
      unfolding seg_count
      method_count =
          labelled (unlabelled sc w.detail) (more []) (get_label ∷ safe_jump w (more (place 0 ∷ []))) (omega (arith, member_rest (last [])))
          (omega (arith, safe_count w (more (place 0 ∷ [])), member_rest (last (place 0 ∷ []))))
        where
          last : List Step → List Step
          last end = push_op (get_code (w.detail % 8)) 0 ∷ push_op Swap 2 ∷ end

          more : List Step → List Step
          more end = push_op Copy 1 ∷ property (w.detail % 8) N (last end)

    -- Call: a arguments, n Handlers
    pub calls_count : (c : Code) (x a n : ℕ) → T (is_listed (kind_at N 0)) → Plays Expr 1 (a + n) → count (call_with c x a n) ≡ call_labels n + sum L 0 (suc (a + n))
    unfolding seg_count
    calls_count c x a zero p q =
        omega (
          arith,
          h.visits Callee 0 p,
          visits_count Expr 1 a (push_op c x ∷ []) (λ i g l. q i g (omega arith)),
          sum_split L a 0 1 (suc a) (a + 0) (omega arith) refl,
        )
    calls_count c x a (suc n) p q =
        let last = bodies 1 (suc a) (suc n) (place 0 ∷ []) in
        let more = get_label ∷ registers 1 (suc a) (suc n) (push_op Call x ∷ jump Jump 0 ∷ last) in
        omega (
          arith,
          h.visits Callee 0 p,
          visits_count Expr 1 a more (λ i g l. q i g (omega arith)),
          registers_count 1 (suc a) (suc n) (push_op Call x ∷ jump Jump 0 ∷ last),
          bodies_count 1 (suc a) (suc n) (place 0 ∷ []) (λ i g l. q i (omega arith) (omega arith)),
          sum_split L a (suc n) 1 (suc a) (a + suc n) (omega arith) refl,
        )

    -- For, by its p Idents
    pub for_count : (w : Words) → T (fits (times w.p Ident ∷ one expression ∷ one Block ∷ []) (node_words N)) → count (for_steps w N) ≡ 3 + all
    unfolding seg_count
    for_count w u =
        let p = w.p in
        let g = fits_times p Ident (one expression ∷ one Block ∷ []) N u in
        let e = fits_two expression Block (after p N) g.rest in
        omega (
          arith,
          targets_count p (expr (suc p) ∷ push_op Pop 0 ∷ jump_back 0 ∷ place 1 ∷ push_op Pop 0 ∷ null ∷ end_loop ∷ []),
          all_from p 2 (omega (arith, g.wide, e.wide)),
          sum_zero L 0 p (λ i _ l. ident i (g.are i (omega arith))),
          seen expression tt p (subst (λ n. T (belongs expression n)) (kind_after p N 0 p (omega arith)) e.is0),
          seen Block tt (suc p) (subst (λ n. T (belongs Block n)) (kind_after p N 1 (suc p) (omega arith)) e.is1),
        )

    pub return_count : (sc : StackCode) (w : Words) → T (fits (one expression ∷ []) (node_words N)) → count (return_steps sc w N) ≡ return_labels sc + all
    unfolding seg_count
    return_count sc w u =
        let g = fits_single expression N u in
        branch (λ b. T b → T (eqb (kind_at N 0) 13)) (is_tail N) _ _ (return_labels sc + all) (tail_kind N)
        (λ q. omega (arith, label_count sc (visit pass Tail 0 ∷ null ∷ []), h.visits Tail 0 (q tt), all_of 1 g.0))
        (λ q. omega (arith, label_count sc (expr 0 ∷ push_op Return 0 ∷ null ∷ []), single expression tt u))
      where
        label_count : (sc : StackCode) (is : List Step) → count (return_label sc is) ≡ return_labels sc + count is
        label_count Code1 is = omega arith
        label_count Code2 is = omega arith

    -- Import: the Items are visited
    simple_count : (w : Words) (p : ℕ) → count (simple_import w p) ≡ 0
    unfolding seg_count
    simple_count w zero = refl
    simple_count w (suc p) = refl

    pub import_count : (w : Words) → T (fits (times w.p Ident ∷ imported w.detail) (node_words N)) → count (import_steps w N) ≡ 0 + all
    unfolding seg_count
    import_count w u =
        go (eqb w.detail 2) (eqb w.detail 1) (ltb w.detail 2)
        (λ x. (λ y. omega (arith, eqb→eq w.detail 2 x, eqb→eq w.detail 1 y), λ y. omega (arith, eqb→eq w.detail 2 x, ltb→lt w.detail 2 y))) g.rest
      where
        p : ℕ
        p = w.p

        g : Leading p Ident (imported w.detail) N
        g = fits_times p Ident (imported w.detail) N u

        past : (n : ℕ) → width (after p N) ≡ n → all ≡ sum L p n
        past n e = omega (arith, sum_zero L 0 p (λ i _ l. ident i (g.are i (omega arith))), all_from p n (omega (arith, g.wide)))

        -- without Items there is at most an alias
        alias : (y : Bool) → T (fits (cond y (one Ident ∷ []) []) (node_words (after p N))) → all ≡ 0
        alias true v =
            let i = fits_single Ident (after p N) v in
            omega (arith, past 1 i.0, ident p (subst (λ n. T (belongs Ident n)) (kind_after p N 0 p (omega arith)) i.1))
        alias false v = past 0 (fits_none (after p N) v)

        items : T (fits (any Item ∷ []) (node_words (after p N))) → Plays Expr p (width N - p)
        items v i a b =
            rest_kinds is_listed p N (kinds_map (belongs Item) is_listed (class_plays Item tt) (after p N) (fits_any Item (after p N) v)) i a
            (omega (arith, g.wide))

        go : (x y z : Bool) → (T x → (T y → ⊥) × (T z → ⊥)) → T (fits (cond y (one Ident ∷ []) (cond x (any Item ∷ []) [])) (node_words (after p N)))
            → count (cond z (simple_import w p) (cond x (visits Expr p (width N - p) (push_op Pop 0 ∷ null ∷ [])) (push_op ImportGlob 0 ∷ null ∷ []))) ≡ 0 + all
        go true true z q v = absurd ((q tt).0 tt)
        go true false true q v = absurd ((q tt).1 tt)
        go true false false q v =
            omega (arith, visits_count Expr p (width N - p) (push_op Pop 0 ∷ null ∷ []) (items v), past (width N - p) (omega (arith, g.wide)))
        go false y true q v = omega (arith, alias y v, simple_count w p)
        go false y false q v = omega (arith, alias y v)

    -- the assignments: Lefts are targets
    pub assign_count : T (fits (one Left ∷ one expression ∷ []) (node_words N)) → (a : Role) → ((n : ℕ) → T (eqb n 34) → T (plays a n))
        → (ks a 0).count + (ks Expr 1).count ≡ all
    assign_count u a q =
        let g = fits_two Left expression N u in
        omega (arith, all_of 2 g.wide, h.visits a 0 (q (kind_at N 0) g.is0), seen expression tt 1 g.is1)

    pub assign_op_count : (w : Words) → T (fits (one Left ∷ one expression ∷ []) (node_words N)) → count (assign_op_steps w N) ≡ cond (is_short_form w.detail N) 1 0 + all
    unfolding seg_count
    assign_op_count w u =
        let e = assign_count u Before (λ n v. v) in
        counted_if (is_short_form w.detail N) _ _
        (either (eqb w.detail 6) _ _ (1 + all) (omega (arith, e, h.afters 0)) (omega (arith, e, h.afters 0)))
        (either (no_opcode w.detail) _ _ (0 + all) (omega (arith, e)) (omega (arith, e, h.afters 0)))

    pub unpack_count : (w : Words) → T (fits (times w.p Left ∷ one expression ∷ []) (node_words N)) → count (assign_unpack_steps w N) ≡ 0 + all
    unfolding seg_count
    unpack_count w u =
        let p = w.p in
        let g = fits_times p Left (one expression ∷ []) N u in
        let e = fits_single expression (after p N) g.rest in
        omega (
          arith,
          says_count (p - 1) Copy 1 (unpacked 0 p (null ∷ [])),
          unpacked_count 0 p (null ∷ []) (λ i _ l. g.are i (omega arith)),
          all_from p 1 (omega (arith, g.wide, e.0)),
          seen expression tt p (subst (λ n. T (belongs expression n)) (kind_after p N 0 p (omega arith)) e.1),
        )

    pub multi_count : (w : Words) → T (fits (times w.p Left ∷ any expression ∷ []) (node_words N)) → T (eqb (w.p + w.p) (width N)) → count (assign_multi_steps w N) ≡ 0 + all
    unfolding seg_count
    multi_count w u v =
        let p = w.p in
        let g = fits_times p Left (any expression ∷ []) N u in
        let e : p + p ≡ width N = eqb→eq (p + p) (width N) v in
        let k = kinds_map (belongs expression) is_listed (class_plays expression tt) (after p N) (fits_any expression (after p N) g.rest) in
        branch T (eqb (p + p) (width N)) _ _ (0 + all) v
        (λ _.
        omega (
          arith,
          visits_count Expr p p (visits_down Target p (null ∷ [])) (λ i a b. rest_kinds is_listed p N k i a (omega (arith, g.wide, e))),
          visits_down_count Target p (null ∷ []) (λ i _ l. g.are i (omega arith)),
          all_from p p (sym e),
        ))
        (λ v. absurd v)

    -- a Left as target, and before the right side
    no_property : (n : ℕ) (is : List Step) → (n ≡ 0 → ⊥) → count (property n N is) ≡ count is
    unfolding seg_count
    no_property n is d =
        branch (λ b. T b → ⊥) (eqb n 0) _ _ (count is) (λ v. d (eqb→eq n 0 v)) (λ d. absurd (d tt)) (λ d. either (ltb n 3) _ is (count is) refl refl)

    left_property_count : (m : ℕ) (is : List Step) → T (fits (one Ident ∷ wanted m) (node_words N)) → count (property m N is) ≡ all + count is
    left_property_count m is u =
        let g = fits_one Ident (wanted m) N u in
        omega (arith, ident 0 g.is, all_of (suc (width (after 1 N))) g.wide, property_count m m is (λ v. v) g.wide g.rest)

    left_name : T (fits (one Ident ∷ []) (node_words N)) → all ≡ 0
    left_name u = let g = fits_single Ident N u in omega (arith, all_of 1 g.0, ident 0 g.1)

    abbrev LeftForm : Words → Bool → Type 0
    LeftForm w b = T (fits (one Ident ∷ cond b [] (wanted (w.detail - 1))) (node_words N))

    pub target_count : (w : Words) → T (fits (one Ident ∷ left_property w.detail) (node_words N)) → count (target_steps w N) ≡ 0 + all
    unfolding seg_count
    target_count w u =
        branch (LeftForm w) (eqb w.detail 0) _ _ (0 + all) u (λ u. omega (arith, left_name u))
        (λ u. omega (arith, left_property_count (w.detail - 1) (push_op (set_code (w.detail - 1)) 0 ∷ access Set (0 ∷ []) ∷ []) u))

    pub before_count : (w : Words) → T (fits (one Ident ∷ left_property w.detail) (node_words N)) → count (before_steps w N) ≡ 0 + all
    unfolding seg_count
    before_count w u =
        branch (LeftForm w) (eqb w.detail 0) _ _ (0 + all) u (λ u. omega (arith, left_name u))
        (λ u.
        branch (λ b. b ≡ ltb w.detail 4) (ltb w.detail 4) _ _ (0 + all) refl
        (λ e. omega (arith, left_property_count (w.detail - 1) (push_op Copy 2 ∷ push_op Copy 2 ∷ push_op (get_code (w.detail - 1)) 0 ∷ []) u))
        (λ e.
        omega (
          arith,
          left_property_count (w.detail - 1) [] u,
          no_property (w.detail - 1) [] (λ z. omega (arith, nltb→le w.detail 4 (subst (λ b. T (not b)) e tt))),
        )))

    -- Params, Handler, Case, Item
    pub params_count : (w : Words) → T (fits (bracket w (one Ident) (any Ident ∷ [])) (node_words N)) → all ≡ 0
    params_count w u = go (eqb w.detail 1) u
      where
        go : (b : Bool) → T (fits (cond b (one Ident ∷ any Ident ∷ []) (any Ident ∷ [])) (node_words N)) → all ≡ 0
        go true u =
            let g = fits_one Ident (any Ident ∷ []) N u in
            omega (
              arith,
              all_of (suc (width (after 1 N))) g.wide,
              ident 0 g.is,
              sum_zero L 1 (width (after 1 N)) (λ i a b. ident i (rest_kinds (belongs Ident) 1 N (fits_any Ident (after 1 N) g.rest) i a b)),
            )
        go false u = idents u

    pub handler_labels : T (fits (one Ident ∷ one Params ∷ one Block ∷ []) (node_words N)) → (ks Expr 1).count + (ks Expr 2).count ≡ all
    handler_labels u =
        let g = fits_three Ident Params Block N u in
        omega (arith, all_of 3 g.wide, ident 0 g.is0, seen Params tt 1 g.is1, seen Block tt 2 g.is2)

    pub case_body : (p : ℕ) → T (fits (times p Pattern ∷ one expression ∷ []) (node_words N)) → (ks Expr p).count ≡ all
    case_body p u =
        let g = fits_times p Pattern (one expression ∷ []) N u in
        let e = fits_single expression (after p N) g.rest in
        omega (
          arith,
          all_from p 1 (omega (arith, g.wide, e.0)),
          sum_zero L 0 p (λ i _ l. h.silent i (pattern_quiet (kind_at N i) (g.are i (omega arith)))),
          seen expression tt p (subst (λ n. T (belongs expression n)) (kind_after p N 0 p (omega arith)) e.1),
        )

    pub item_count : (w : Words) → T (fits (one Ident ∷ bracket w (one Ident) []) (node_words N)) → all ≡ 0
    item_count w u = go (eqb w.detail 1) u
      where
        go : (b : Bool) → T (fits (one Ident ∷ cond b (one Ident ∷ []) []) (node_words N)) → all ≡ 0
        go true u = let g = fits_two Ident Ident N u in omega (arith, all_of 2 g.wide, ident 0 g.is0, ident 1 g.is1)
        go false u = left_name u
