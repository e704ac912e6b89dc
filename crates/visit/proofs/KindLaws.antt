-- What each arm's list comes to, where it is more than a row of steps. Assumes nothing.
use mathlib.Core.Path.{◌≡◌, refl, sym, ap, ap₂, ◌∙◌}
use mathlib.Core.Bool.{Bool, true, false, cond}
use mathlib.Core.List.{List, [], ◌∷◌, ◌++◌}
use Prim.Native.Nat.{ℕ, zero, suc, ◌+◌, ◌-◌}
use native.Mathlib.Omega.{arith}
use lib.ListN.{get_or}
use lib.Dec.{eqb}
use borrow.Author.Tests.{eq-eqb, ne_eqb}
use Rattle.opcode.specs.declared.member.MemberKind.{MemberKind}
use Rattle.opcode.specs.declared.operator.BinOp.{BinOp}
use Rattle.tables.specs.Record.{Words, word, words, is_do}
use Rattle.tables.specs.Forest.{Forest, Nodes, first, next, forest, children, own_tree}
use Rattle.tables.specs.declared.refusal.RunRule.TheVariants.{Operator, Lengths}
use Rattle.tables.proofs.ForestLaws.{forest_absent, forest_record}
use Rattle.pool.specs.Value.{Null, child}
use Rattle.rules.specs.declared.StackCode.{StackCode}
use Rattle.rules.specs.declared.StackCode.TheVariants.{Code1, Code2}
use Rattle.rules.specs.declared.error.ErrorKind.TheVariants.{ReturnOutsideFunction}
use Rattle.rules.specs.declared.Flow.TheVariants.{Cut, Refused}
use Rattle.rules.specs.Marker as rule
use Rattle.rules.specs.Marker.{Forward, Jump, JumpIfTrueOrPop, JumpIfFalseOrPop, LoadConst, Code, Pop, Copy, Call, Return, MarkAddStackSize, Label, To, Load, Do, mark}
use Rattle.rules.specs.Step.{
  Role,
  Expr,
  Callee,
  Tail,
  Target,
  Before,
  After,
  pass,
  Get,
  Set,
  Step,
  push_op,
  access,
  get_label,
  place,
  jump,
  jump_back,
  visit,
  end_loop,
  check_return,
  refuse,
  expr,
  null,
  visits,
  visits_down,
  width,
}
use Rattle.rules.specs.Arms.{
  no_opcode,
  binary_code,
  binary_steps,
  property,
  get_code,
  set_code,
  is_method,
  method_steps,
  call_steps,
  call_with,
  arguments,
  handlers,
  registers,
  bodies,
  is_tail,
  return_label,
  return_steps,
  target_steps,
  before_steps,
  is_short_form,
  short_assign_steps,
  assign_op_steps,
  assign_unpack_steps,
  assign_multi_steps,
  unpacked,
  for_steps,
}
use Rattle.rules.specs.Kinds.{steps}
use Rattle.rules.specs.Patterns.{match_steps}
use Rattle.rules.specs.Run.{State, flow, labels, emit, bump, halt, barred, begin, loop, exec}
use Rattle.context.specs.Rep.{Walk, mode, Lent}
use Rattle.context.specs.Does.{nth, visit_in, near, doing, does, through}
use Rattle.context.specs.Words.{is_go}
use Rattle.context.proofs.Basics.{on_true, on_false, is_go_lem, no_emit}
use Rattle.context.proofs.RepLaws.{bumps}
use Rattle.context.proofs.VisitLaws.{visit_does}
use Rattle.context.proofs.PartLaws.{visits_part}
use Rattle.plain.specs.Operators.{member_of, is_meta, binary_of, short_jump}
use Rattle.plain.specs.Runs.{argument_count, repeated, registering, registered, iterate_run, end_for_run, targets_put, return_run}
use Rattle.plain.proofs.GoLaws.{halt_not}
use Rattle.plain.proofs.CountLaws.{row, width_zero}
use Rattle.plain.proofs.OperatorLaws.{left_meta, short_jump_lem}
use Rattle.plain.proofs.RunLaws.{says_part, for_targets_part, registers_part, registered_at}
use Rattle.plain.proofs.EndLaws.{child_words, arguments_past}
use Rattle.pattern.specs.Tests.{cases_run, in_row}
use Rattle.pattern.proofs.MatchLaws.{row_named, match_some}
use Rattle.visit.specs.Runs.{bodied, bodied_all}
use Rattle.visit.proofs.ArmLaws.{property_part}
use Rattle.visit.proofs.RunLaws.{unpacks, downs, visit_still, doing_still, unpacked_part, bodies_part, bodied_still, down_part}

-- a property's name is that of the second child
pub property_name : (recs : List ℕ) (r : ℕ) {a b x : ℕ} → a ≡ first recs r → b ≡ next recs a → x ≡ (child (row recs b) 0).q → x ≡ (child (own_tree (children recs r)) 1).q
property_name recs r {a} {b} p q e =
    e ∙ ap (λ (y : ℕ). (child (row recs y) 0).q) (q ∙ ap (next recs) p) ∙ sym (ap (λ (w : Words). w.q) (child_words recs (first recs r) 0))

module _ (e : Lent) (c : Walk) (r : ℕ) where
  abbrev R : List ℕ
  R = e.records

  abbrev W : Words
  W = words R r

  abbrev K : Nodes
  K = own_tree (children R r)

  -- ---- Lefts

  role_by : (a : Role) → (r ≡ 0 → ⊥) → (is : List Step) → steps c.code a W K ≡ is → (A : State) → visit_in e c a r A ≡ does e c r is A
  role_by a ne is q A = ap (λ (g : State → State). g A) (visit_does e c r ne a) ∙ ap (λ (y : List Step). does e c r y A) q

  pub target_other : (r ≡ 0 → ⊥) → (word R r 0 ≡ 34 → ⊥) → (A : State) → visit_in e c Target r A ≡ A
  unfolding steps does doing exec
  target_other ne d A = role_by Target ne [] (on_false (eqb W.kind 34) _ _ (ne_eqb _ 34 d)) A

  pub before_other : (r ≡ 0 → ⊥) → (word R r 0 ≡ 34 → ⊥) → (A : State) → visit_in e c Before r A ≡ A
  unfolding steps does doing exec
  before_other ne d A = role_by Before ne [] (on_false (eqb W.kind 34) _ _ (ne_eqb _ 34 d)) A

  module _ (ne : r ≡ 0 → ⊥) (k : word R r 0 ≡ 34) where
    target_by : (is : List Step) → target_steps W K ≡ is → (A : State) → visit_in e c Target r A ≡ does e c r is A
    unfolding steps
    target_by is q A = role_by Target ne is (on_true (eqb W.kind 34) _ _ (eq-eqb _ 34 k) ∙ q) A

    before_by : (is : List Step) → before_steps W K ≡ is → (A : State) → visit_in e c Before r A ≡ does e c r is A
    unfolding steps
    before_by is q A = role_by Before ne is (on_true (eqb W.kind 34) _ _ (eq-eqb _ 34 k) ∙ q) A

    pub target_plain : word R r 1 ≡ 0 → (A : State) → visit_in e c Target r A ≡ does e c r (access Set (0 ∷ []) ∷ []) A
    target_plain d A = target_by (access Set (0 ∷ []) ∷ []) (on_true (eqb W.detail 0) _ _ (eq-eqb _ 0 d)) A

    pub target_member : (word R r 1 ≡ 0 → ⊥) → (A : State)
        → visit_in e c Target r A
        ≡ does e c r (push_op (set_code (W.detail - 1)) 0 ∷ access Set (0 ∷ []) ∷ [])
        (does e c r (property (W.detail - 1) K []) (does e c r (access Get (0 ∷ []) ∷ []) A))
    unfolding does doing exec
    target_member d A =
        let after = push_op (set_code (W.detail - 1)) 0 ∷ access Set (0 ∷ []) ∷ [] in
        target_by (access Get (0 ∷ []) ∷ property (W.detail - 1) K after) (on_false (eqb W.detail 0) _ _ (ne_eqb _ 0 d)) A
        ∙ property_part e c r (W.detail - 1) after [] (does e c r (access Get (0 ∷ []) ∷ []) A)

    pub before_plain : word R r 1 ≡ 0 → (A : State) → visit_in e c Before r A ≡ does e c r (access Get (0 ∷ []) ∷ []) A
    before_plain d A = before_by (access Get (0 ∷ []) ∷ []) (on_true (eqb W.detail 0) _ _ (eq-eqb _ 0 d)) A

    module _ (d : word R r 1 ≡ 0 → ⊥) {m : MemberKind} (q : m ≡ member_of (word R r 1 - 1)) where
      pub before_member : is_meta m ≡ false → (A : State)
          → visit_in e c Before r A
          ≡ does e c r (push_op Copy 2 ∷ push_op Copy 2 ∷ push_op (get_code (W.detail - 1)) 0 ∷ [])
          (does e c r (property (W.detail - 1) K []) (does e c r (access Get (0 ∷ []) ∷ []) A))
      unfolding does doing exec
      before_member z A =
          let after = push_op Copy 2 ∷ push_op Copy 2 ∷ push_op (get_code (W.detail - 1)) 0 ∷ [] in
          before_by (access Get (0 ∷ []) ∷ property (W.detail - 1) K after)
          (on_false (eqb W.detail 0) _ _ (ne_eqb _ 0 d) ∙ left_meta W.detail q d _ _ ∙ on_false (is_meta m) _ _ z) A
          ∙ property_part e c r (W.detail - 1) after [] (does e c r (access Get (0 ∷ []) ∷ []) A)

      pub before_meta : is_meta m ≡ true → (A : State)
          → visit_in e c Before r A ≡ does e c r (access Get (0 ∷ []) ∷ push_op Copy 1 ∷ push_op (get_code (W.detail - 1)) 0 ∷ []) A
      before_meta z A =
          before_by (access Get (0 ∷ []) ∷ push_op Copy 1 ∷ push_op (get_code (W.detail - 1)) 0 ∷ [])
          (on_false (eqb W.detail 0) _ _ (ne_eqb _ 0 d) ∙ left_meta W.detail q d _ _ ∙ on_true (is_meta m) _ _ z) A

  -- ---- assignments of several

  pub unpack_run : {n : ℕ} → n ≡ W.p → (A : State)
      → does e c r (assign_unpack_steps W K) A
      ≡ emit (mark r (Load LoadConst Null)) (unpacks e c r 0 n (first R r) (repeated (mark r (Do Copy 1)) (n - 1) (near e c r Expr W.p A)))
  unfolding does doing exec
  unpack_run q A =
      let B = near e c r Expr W.p A in
      says_part e c r (W.p - 1) Copy 1 (unpacked 0 W.p (null ∷ [])) [] B
      ∙ unpacked_part e c r 0 W.p (null ∷ []) [] (repeated (mark r (Do Copy 1)) (W.p - 1) B)
      ∙ ap (λ (m : ℕ). emit (mark r (Load LoadConst Null)) (unpacks e c r 0 m (first R r) (repeated (mark r (Do Copy 1)) (m - 1) B))) (sym q)

  pub multi_yes : {n : ℕ} → n ≡ W.p → W.p + W.p ≡ width K → (A : State)
      → does e c r (assign_multi_steps W K) A
      ≡ emit (mark r (Load LoadConst Null)) (downs e c r n (through e c Expr W.p (nth R W.p (first R r)) A))
  unfolding does doing exec
  multi_yes p q A =
      ap (λ (is : List Step). does e c r is A) (on_true (eqb (W.p + W.p) (width K)) _ _ (eq-eqb _ _ q))
      ∙ visits_part e c r Expr W.p W.p (visits_down Target W.p (null ∷ [])) [] A
      ∙ down_part e c r W.p (null ∷ []) [] (through e c Expr W.p (nth R W.p (first R r)) A)
      ∙ ap (λ (m : ℕ). emit (mark r (Load LoadConst Null)) (downs e c r m (through e c Expr W.p (nth R W.p (first R r)) A))) (sym p)

  pub multi_no : (W.p + W.p ≡ width K → ⊥) → (A : State) → does e c r (assign_multi_steps W K) A ≡ halt (Refused Lengths r) A
  unfolding does doing exec
  multi_no q A = ap (λ (is : List Step). does e c r is A) (on_false (eqb (W.p + W.p) (width K)) _ _ (ne_eqb _ _ q))

  -- ---- calls

  pub callee_method : (r ≡ 0 → ⊥) → is_method W ≡ true → (A : State) → visit_in e c Callee r A ≡ does e c r (method_steps c.code W K) A
  unfolding steps
  callee_method ne q A = role_by Callee ne (method_steps c.code W K) (on_true (is_method W) _ _ q) A

  pub callee_plain : (r ≡ 0 → ⊥) → is_method W ≡ false → (A : State) → visit_in e c Callee r A ≡ visit_in e c Expr r A
  unfolding steps
  callee_plain ne q A =
      role_by Callee ne (steps c.code Expr W K) (on_false (is_method W) _ _ q) A ∙ sym (role_by Expr ne (steps c.code Expr W K) refl A)

  pub tail_visit : (r ≡ 0 → ⊥) → word R r 0 ≡ 13 → (A : State) → visit_in e c Tail r A ≡ does e c r (call_steps rule.ReturnCall W K) A
  unfolding steps
  tail_visit ne q A = role_by Tail ne (call_steps rule.ReturnCall W K) (on_true (eqb W.kind 13) _ _ (eq-eqb _ 13 q)) A

  -- what follows the callee; the first Handler
  abbrev pub rights : ℕ
  rights = next R (first R r)

  abbrev pub handler : ℕ
  handler = nth R (arguments (row R rights)) rights

  abbrev pub count : ℕ
  count = argument_count R (first R r) (arguments (row R rights))

  next_zero : next R 0 ≡ 0
  unfolding next
  next_zero = refl

  call_list : (k : Code) → call_steps k W K ≡ call_with k count (arguments (row R rights)) (handlers (row R rights))
  unfolding argument_count
  call_list k = go (first R r)
    where
      go : (a : ℕ) → (let s = row R (next R a) in call_steps k W (row R a) ≡ call_with k (argument_count R a (arguments s)) (arguments s) (handlers s))
      go zero =
          ap (λ (x : Forest). call_steps k W (own_tree x)) (forest_absent R)
          ∙ sym (ap (λ (x : Forest). call_with k (arguments (own_tree x)) (arguments (own_tree x)) (handlers (own_tree x))) (ap (forest R) next_zero ∙ forest_absent R))
      go (suc a) =
          let s = row R (next R (suc a)) in
          ap (λ (x : Forest). call_steps k W (own_tree x)) (forest_record R a)
          ∙ ap (λ (n : ℕ). call_with k n (arguments s) (handlers s)) (sym (on_false (eqb (suc a) 0) _ _ (ne_eqb (suc a) 0 (λ z. omega (arith, z)))))

  -- the callee and the arguments
  abbrev pub called_with : State → State
  called_with A = through e c Expr (arguments (row R rights)) (nth R 1 (first R r)) (near e c r Callee 0 A)

  no_handlers : handler ≡ 0 → handlers (row R rights) ≡ 0
  no_handlers q = sym (arguments_past R rights) ∙ ap (λ (x : ℕ). width (row R x)) q ∙ ap (λ (x : Forest). width (own_tree x)) (forest_absent R)

  pub call_plain : (k : Code) → handler ≡ 0 → (A : State) → does e c r (call_steps k W K) A ≡ emit (mark r (Do k count)) (called_with A)
  unfolding does doing exec
  call_plain k q A =
      ap (λ (is : List Step). does e c r is A) (call_list k ∙ ap (call_with k count (arguments (row R rights))) (no_handlers q))
      ∙ visits_part e c r Expr 1 (arguments (row R rights)) (push_op k count ∷ []) [] (near e c r Callee 0 A)

  -- a Call's end with h Handlers from child j on, where the call counts n arguments
  abbrev handled_steps : ℕ → ℕ → ℕ → List Step
  handled_steps n j h = get_label ∷ registers 1 j h (push_op Call n ∷ jump Jump 0 ∷ bodies 1 j h (place 0 ∷ []))

  abbrev handled_run : ℕ → ℕ → ℕ → State → State
  handled_run n h at A =
      let B = registering e r h at (bump A) in
      emit (mark r (Label (labels A))) (bodied e c r (labels (bump A)) (labels A) h at (emit (mark r (To Jump (labels A))) (emit (mark r (Do Call n)) B)))

  -- the Handlers' labels are in a row where the run still goes on, and else nothing is done
  handled : (n j h at : ℕ) (A : State) → at ≡ nth R j (first R r) → does e c r (handled_steps n j h) A ≡ handled_run n h at A
  unfolding does doing exec
  handled n j h at A q = part ∙ go (is_go (flow B)) refl
    where
      B : State
      B = registering e r h at (bump A)

      env : List ℕ
      env = (labels A ∷ []) ++ registered e r h at (bump A)

      after : List Step
      after = push_op Call n ∷ jump Jump 0 ∷ bodies 1 j h (place 0 ∷ [])

      part : does e c r (handled_steps n j h) A ≡ doing e c r after env B
      part = registers_part e c r 1 j h at after (labels A ∷ []) (bump A) refl q

      go : (b : Bool) → is_go (flow B) ≡ b → doing e c r after env B ≡ handled_run n h at A
      go true g =
          let C = emit (mark r (To Jump (labels A))) (emit (mark r (Do Call n)) B) in
          bodies_part e c r 1 j h (labels (bump A)) (place 0 ∷ []) env C (λ k lt. registered_at e r (labels A ∷ []) h at k (bump A) (is_go_lem (flow B) g) lt)
          ∙ ap (λ (l : ℕ). emit (mark r (Label (labels A))) (bodied e c r (labels (bump A)) (labels A) h l C)) (sym q)
      go false g =
          doing_still e c r after env B g
          ∙ sym (
          ap (λ (X : State). emit (mark r (Label (labels A))) (bodied e c r (labels (bump A)) (labels A) h at (emit (mark r (To Jump (labels A))) X)))
          (no_emit (mark r (Do Call n)) B g)
          ∙ ap (λ (X : State). emit (mark r (Label (labels A))) (bodied e c r (labels (bump A)) (labels A) h at X)) (no_emit (mark r (To Jump (labels A))) B g)
          ∙ ap (emit (mark r (Label (labels A)))) (bodied_still e c r (labels (bump A)) (labels A) h at B g)
          ∙ no_emit (mark r (Label (labels A))) B g
          )

  handled_at : ℕ → State → State
  handled_at x B =
      emit (mark r (Label (labels B))) (bodied_all e c r (labels (bump B)) (labels B) x
      (emit (mark r (To Jump (labels B))) (emit (mark r (Do Call count)) (registering e r (width (row R x)) x (bump B)))))

  call_through : (k : Code) → (handler ≡ 0 → ⊥) → (A : State) → does e c r (call_steps k W K) A ≡ handled_at handler (called_with A)
  unfolding does doing exec bodied_all handled_at
  call_through k ne A =
      ap (λ (is : List Step). does e c r is A) (call_list k)
      ∙ go (handlers (row R rights)) (λ z. ne (width_zero R handler (arguments_past R rights ∙ z)))
      ∙ visits_part e c r Expr 1 (arguments (row R rights)) (handled_steps count (suc (arguments (row R rights))) (handlers (row R rights))) [] (near e c r Callee 0 A)
      ∙ handled count (suc (arguments (row R rights))) (handlers (row R rights)) handler (called_with A) refl
      ∙ ap (λ (h : ℕ). handled_run count h handler (called_with A)) (sym (arguments_past R rights))
    where
      go : (h : ℕ) → (h ≡ 0 → ⊥) → does e c r (call_with k count (arguments (row R rights)) h) A
          ≡ doing e c r (visits Expr 1 (arguments (row R rights)) (handled_steps count (suc (arguments (row R rights))) h)) [] (near e c r Callee 0 A)
      go zero ne = absurd (ne refl)
      go (suc h) ne = refl

  -- the first Handler being the record x
  pub call_handled : (k : Code) {x : ℕ} → x ≡ handler → (x ≡ 0 → ⊥) → (A : State)
      → does e c r (call_steps k W K) A
      ≡ (let B = called_with A in
      emit (mark r (Label (labels B))) (bodied_all e c r (labels (bump B)) (labels B) x
      (emit (mark r (To Jump (labels B))) (emit (mark r (Do Call count)) (registering e r (width (row R x)) x (bump B))))))
  unfolding handled_at
  call_handled k q ne A = call_through k (λ z. ne (q ∙ z)) A ∙ ap (λ (l : ℕ). handled_at l (called_with A)) (sym q)

  -- ---- operators

  abbrev operated : State → State
  operated B = cond (no_opcode W.detail) (halt (Refused Operator r) B) (emit (mark r (Do (binary_code W.detail) 0)) B)

  pub binary_run : eqb W.detail 5 ≡ false → eqb W.detail 6 ≡ false → (A : State)
      → does e c r (binary_steps W K) A ≡ operated (near e c r Expr 1 (near e c r Expr 0 A))
  unfolding does doing exec
  binary_run p q A =
      ap (λ (is : List Step). does e c r is A) (on_false _ _ _ p ∙ on_false _ _ _ q) ∙ go (no_opcode W.detail)
    where
      go : (b : Bool) → does e c r (cond b (expr 0 ∷ expr 1 ∷ refuse Operator ∷ []) (expr 0 ∷ expr 1 ∷ push_op (binary_code W.detail) 0 ∷ [])) A
          ≡ (let B = near e c r Expr 1 (near e c r Expr 0 A) in cond b (halt (Refused Operator r) B) (emit (mark r (Do (binary_code W.detail) 0)) B))
      go true = refl
      go false = refl

  -- `and=` and `or=`, and the other operators: where one is refused, nothing is done behind it
  pub short_run : {o : BinOp} → o ≡ binary_of W.detail → is_short_form W.detail K ≡ true → (A : State)
      → does e c r (assign_op_steps W K) A ≡ does e c r (short_assign_steps (short_jump o)) A
  short_run {o} p q A =
      ap (λ (is : List Step). does e c r is A) (on_true _ _ _ q ∙ go (eqb W.detail 6))
      ∙ ap (λ (h : Forward). does e c r (short_assign_steps h) A) (sym (short_jump_lem W.detail p))
    where
      go : (b : Bool) → cond b (short_assign_steps JumpIfTrueOrPop) (short_assign_steps JumpIfFalseOrPop) ≡ short_assign_steps (cond b JumpIfTrueOrPop JumpIfFalseOrPop)
      go true = refl
      go false = refl

  pub update_run : is_short_form W.detail K ≡ false → (A : State)
      → does e c r (assign_op_steps W K) A
      ≡ emit (mark r (Load LoadConst Null)) (near e c r After 0 (operated (near e c r Expr 1 (near e c r Before 0 A))))
  unfolding does doing exec
  update_run q A = ap (λ (is : List Step). does e c r is A) (on_false _ _ _ q) ∙ go (no_opcode W.detail)
    where
      B : State
      B = near e c r Expr 1 (near e c r Before 0 A)

      C : State
      C = halt (Refused Operator r) B

      go : (b : Bool) → does e c r (cond b (visit pass Before 0 ∷ expr 1 ∷ refuse Operator ∷ [])
          (visit pass Before 0 ∷ expr 1 ∷ push_op (binary_code W.detail) 0 ∷ visit pass After 0 ∷ null ∷ [])) A
          ≡ emit (mark r (Load LoadConst Null)) (near e c r After 0 (cond b C (emit (mark r (Do (binary_code W.detail) 0)) B)))
      go true =
          let n : is_go (flow C) ≡ false = halt_not (Refused Operator r) B refl in
          sym (ap (emit (mark r (Load LoadConst Null))) (visit_still e c After (nth R 0 (first R r)) C n) ∙ no_emit (mark r (Load LoadConst Null)) C n)
      go false = refl

  -- ---- Return

  abbrev checked : State → State
  checked A = barred W (is_do (words R c.function)) A

  pub ret_barred : is_do (words R c.function) ≡ true → (A : State) → does e c r (return_steps c.code W K) A ≡ checked A
  unfolding does doing exec barred
  ret_barred q A = go (is_tail K)
    where
      still : is_go (flow (checked A)) ≡ false
      still = ap (λ (b : Bool). is_go (flow (barred W b A))) q ∙ halt_not (Cut ReturnOutsideFunction W.start W.end) A refl

      go : (b : Bool) → does e c r (cond b (check_return ∷ return_label c.code (visit pass Tail 0 ∷ null ∷ []))
          (check_return ∷ return_label c.code (expr 0 ∷ push_op Return 0 ∷ null ∷ []))) A ≡ checked A
      go true = doing_still e c r (return_label c.code (visit pass Tail 0 ∷ null ∷ [])) [] (checked A) still
      go false = doing_still e c r (return_label c.code (expr 0 ∷ push_op Return 0 ∷ null ∷ [])) [] (checked A) still

  pub ret_tail : is_tail K ≡ true → (A : State)
      → does e c r (return_steps c.code W K) A ≡ emit (mark r (Load LoadConst Null)) (near e c r Tail 0 (return_run c.code r (checked A)))
  unfolding does doing exec
  ret_tail q A = ap (λ (is : List Step). does e c r is A) (on_true (is_tail K) _ _ q) ∙ go c.code
    where
      go : (sc : StackCode) → doing e c r (return_label sc (visit pass Tail 0 ∷ null ∷ [])) [] (checked A)
          ≡ emit (mark r (Load LoadConst Null)) (near e c r Tail 0 (return_run sc r (checked A)))
      go Code1 = refl
      go Code2 = refl

  pub ret_plain : is_tail K ≡ false → (A : State)
      → does e c r (return_steps c.code W K) A
      ≡ emit (mark r (Load LoadConst Null)) (emit (mark r (Do Return 0)) (near e c r Expr 0 (return_run c.code r (checked A))))
  unfolding does doing exec
  ret_plain q A = ap (λ (is : List Step). does e c r is A) (on_false (is_tail K) _ _ q) ∙ go c.code
    where
      go : (sc : StackCode) → doing e c r (return_label sc (expr 0 ∷ push_op Return 0 ∷ null ∷ [])) [] (checked A)
          ≡ emit (mark r (Load LoadConst Null)) (emit (mark r (Do Return 0)) (near e c r Expr 0 (return_run sc r (checked A))))
      go Code1 = refl
      go Code2 = refl

  -- ---- For, Import and Match

  pub for_run : {n a : ℕ} → n ≡ W.p → a ≡ first R r → (A : State)
      → does e c r (for_steps W K) A
      ≡ (let l = labels A in let m = labels (bump A) in let k = labels (bump (bump A)) in
      end_for_run r l m (near e c r Expr (suc W.p) (targets_put e r n a
      (emit (mark r (Do Pop 0)) (emit (mark r (Do MarkAddStackSize 3)) (emit (mark r (Label k)) (emit (mark r (To Jump m))
      (iterate_run r l k (near e c r Expr W.p (begin (mode c).trim (loop r l m) (bump (bump (bump A)))))))))))))
  unfolding does doing exec
  for_run p q A =
      let l = labels A in
      let m = labels (bump A) in
      let k = labels (bump (bump A)) in
      for_targets_part e c r W.p (first R r) (expr (suc W.p) ∷ push_op Pop 0 ∷ jump_back 0 ∷ place 1 ∷ push_op Pop 0 ∷ null ∷ end_loop ∷ []) (l ∷ m ∷ k ∷ [])
      (emit (mark r (Do Pop 0)) (emit (mark r (Do MarkAddStackSize 3)) (emit (mark r (Label k)) (emit (mark r (To Jump m))
      (iterate_run r l k (near e c r Expr W.p (begin (mode c).trim (loop r l m) (bump (bump (bump A))))))))))
      refl
      ∙ ap₂ (λ (n a : ℕ). end_for_run r l m (near e c r Expr (suc W.p) (targets_put e r n a
      (emit (mark r (Do Pop 0)) (emit (mark r (Do MarkAddStackSize 3)) (emit (mark r (Label k)) (emit (mark r (To Jump m))
      (iterate_run r l k (near e c r Expr W.p (begin (mode c).trim (loop r l m) (bump (bump (bump A))))))))))))) (sym p) (sym q)

  -- an Import's Items
  pub items_run : (A : State)
      → does e c r (visits Expr W.p (width K - W.p) (push_op Pop 0 ∷ null ∷ [])) A
      ≡ emit (mark r (Load LoadConst Null)) (emit (mark r (Do Pop 0)) (through e c Expr (width K - W.p) (nth R W.p (first R r)) A))
  unfolding does doing exec
  items_run A = visits_part e c r Expr W.p (width K - W.p) (push_op Pop 0 ∷ null ∷ []) [] A

  -- the Cases' blocks behind the tests
  blocks_at : ℕ → ℕ → State → State
  blocks_at l n A =
      let B = near e c r Expr 0 (bump A) in
      emit (mark r (Do Pop 0)) (emit (mark r (Do rule.Swap 2)) (emit (mark r (Label (labels A))) (bodied_all e c r (labels B) (labels A) l
      (emit (mark r (To Jump (labels A))) (emit (mark r (Load LoadConst Null)) (cases_run e.notes r (labels B) (forest R l) (bumps n B)))))))

  blocks_behind : (first R r ≡ 0 → ⊥) → (A : State) → does e c r (match_steps W K) A ≡ blocks_at rights (width (row R rights)) A
  unfolding doing exec bodied_all blocks_at
  blocks_behind ne A =
      let B = near e c r Expr 0 (bump A) in
      let n = width (row R rights) in
      match_some e c r ne A
      ∙ bodies_part e c r 1 1 n (labels B) (place 0 ∷ push_op rule.Swap 2 ∷ push_op Pop 0 ∷ []) (labels A ∷ in_row (labels B) n)
      (emit (mark r (To Jump (labels A))) (emit (mark r (Load LoadConst Null)) (cases_run e.notes r (labels B) (forest R rights) (bumps n B))))
      (λ k lt. ap (λ (i : ℕ). get_or (labels A ∷ in_row (labels B) n) i 0) (let z : 1 + k ≡ suc k = omega arith in z) ∙ row_named (labels B) n k lt)

  -- the first of n Cases being the record l
  pub match_run : {l n : ℕ} → l ≡ rights → n ≡ width (row R l) → (first R r ≡ 0 → ⊥) → (A : State)
      → does e c r (match_steps W K) A
      ≡ (let B = near e c r Expr 0 (bump A) in
      emit (mark r (Do Pop 0)) (emit (mark r (Do rule.Swap 2)) (emit (mark r (Label (labels A))) (bodied_all e c r (labels B) (labels A) l
      (emit (mark r (To Jump (labels A))) (emit (mark r (Load LoadConst Null)) (cases_run e.notes r (labels B) (forest R l) (bumps n B))))))))
  unfolding blocks_at
  match_run p q ne A = blocks_behind ne A ∙ ap₂ (λ (l n : ℕ). blocks_at l n A) (sym p) (ap (λ (x : ℕ). width (row R x)) (sym p) ∙ sym q)
