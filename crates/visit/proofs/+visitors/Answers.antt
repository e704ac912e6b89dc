use Rattle.context.proofs.MarkLaws.{sent}
use Rattle.context.proofs.SizeLaws.{pushed_sizes, loaded_sizes, taken_sizes, used_sizes, opened_sizes, closed_sizes, stopped_sizes}
use Rattle.tables.proofs.KindLaws.{numbered, unlike, other_kind, same_kind, is_do_kind, one_stored, items_stored, stores_one, has_items}
use Rattle.tables.specs.declared.kind.Kind.TheVariants as kind
use Prim.Native.Nat.{ℕ, ◌%◌, ◌-◌, ◌+◌, ◌/◌}
use Rattle.plain.specs.Operators.{is_short}
use mathlib.Core.Bool.{true, false}
use mathlib.Core.Path.{refl, ◌∙◌, sym, ap, ap₂, subst, ◌≡◌}
use native.Mathlib.Omega.{arith}
use borrow.Author.Rules.{rules}
use lib.Dec.{lit<, eqb}
use Rattle.tables.specs.Record.{size, word, words}
use Rattle.tables.specs.Forest.{first, forest, own_tree, Nodes, children}
use Rattle.context.specs.Rep.{lent}
use Rattle.visit.proofs.FallLaws.{falls_to, child1, falls_child}
use Rattle.visit.proofs.LoopLaws.{all_again, all_none, all_end, blocking_start, blocking_last, blocking_again, blocking_still, bodying_start}
use Rattle.visit.proofs.LoopLaws.{bodying_again, bodying_end, downing_start, downing_again, downing_end, downing_never, unpacking_start, unpacking_again, unpacking_end}
use Rattle.rules.specs.Marker.{Pop, Jump, Return, LoadLocals, Call, Copy, Swap, CheckEffect}
use Rattle.rules.specs.Marker.{PopJumpIfFalse, MarkAddStackSize, TypeCheck, Import, ImportGlob, BuildList, LoadConst, BuildTable, GetItem}
use Rattle.rules.specs.Step.{Expr, Target, Callee, width, Get, Before, Set, push_op, Tail, After}
use Rattle.rules.specs.Run.{exec, number_of}
use Rattle.context.specs.Does.{doing, does, nth, own_stream}
use Rattle.context.proofs.RepLaws.{label, labelled, resim, given, stay, halted, finished}
use Rattle.context.proofs.MarkLaws.{placed, jumped, said, backed}
use Rattle.visit.proofs.ArmLaws.{
  next_of,
  visited,
  either_yes,
  either_no,
  not_either,
  through_at,
  absent,
  propped,
  got,
  label_test,
  method_bare,
  method_run,
  by,
  unary,
  cap_word,
  used,
  member_bare,
  member_run,
  ident_at,
  operated_sizes,
  member_tag,
  is_held,
  is_none,
  was_set,
}
use Rattle.visit.proofs.GroupLaws.{to_last, later_by, behind_body, to_later, stream_inside, to_none, last_by}
use Rattle.plain.proofs.LeafLaws.{nulled, effect_loaded, lit_loaded, used_at, str_loaded, function_loaded, int_loaded}
use Rattle.opcode.specs.Operators.{bin_number}
use Rattle.opcode.specs.declared.operator.BinOp.{BinOp}
use Rattle.plain.proofs.OperatorLaws.{is_and, is_or, operated, short_assign_lem}
use Rattle.visit.proofs.KindLaws.{
  binary_run,
  call_plain,
  call_handled,
  callee_method,
  callee_plain,
  match_run,
  for_run,
  before_other,
  before_plain,
  before_member,
  before_meta,
  items_run,
  multi_yes,
  multi_no,
  property_name,
  tail_visit,
  ret_barred,
  ret_tail,
  ret_plain,
  target_other,
  target_plain,
  target_member,
  unpack_run,
  short_run,
  update_run,
}
use Rattle.pool.specs.Value.{child, below}
use Rattle.context.proofs.PartLaws.{block_none, nth_next, visits_part}
use Rattle.visit.proofs.RunLaws.{block_left}
use borrow.Author.Tests.{eq-eqb, ne_eqb, not-true, not-false, lt-ltb, le-ltb}
use Rattle.rules.specs.Arms.{arguments, stream_steps, assign_multi_steps, is_tail}
use Rattle.context.specs.Words.{cap}
use Rattle.plain.specs.Operators.{call_of, short_jump, short_assign}
use Rattle.plain.specs.Runs.{argument_count}
use Rattle.pattern.proofs.MatchLaws.{match_none}
use Rattle.plain.proofs.EndLaws.{below_nodes, simple_part}
use Rattle.context.proofs.LoopLaws.{begun, behind}
use Rattle.plain.proofs.CountLaws.{width_past, tail_call}
use Rattle.context.proofs.InsideLaws.{inside_none, inside_still, inside_skipped, inside_goes}
use mathlib.Core.List.{[], ◌∷◌}
use Rattle.tables.specs.declared.refusal.RunRule.TheVariants.{Lengths}
use Rattle.rules.specs.declared.Flow.TheVariants.{Refused}
use mathlib.Core.Logic.{◌⊎◌, ⊎_elim}
use Rattle.context.proofs.BarLaws.{in_do, bar_yes, bar_no}
use mathlib.Core.Bool.{not}
use Rattle.opcode.specs.declared.operator.BinOp.TheVariants as op
use Rattle.visit.proofs.+visitors.Goals as goal

pub all-returns-then-at-eq0 : goal.all-returns-then-at-eq0
all-returns-then-at-eq0 t c =
    all_none (lent c.args.tree.now) c.args.item c.args.n c.loop.invariant c.if-at-eq0.true

pub all-loop-preserved : goal.all-loop-preserved
all-loop-preserved t c =
    let lt = c.loop-test.true in
    all_again (lent c.args.tree.now) c.args.item c.args.n c.loop.invariant (omega arith) c.if-at-eq0.false
    c.next-at.ensures (omega arith) c.expr.ensures

pub all-returns : goal.all-returns
all-returns t c =
    let le = c.loop-test.false in
    all_end (lent c.args.tree.now) c.args.item c.args.n c.loop.invariant (omega arith)

pub arm-returns-in-If : goal.arm-returns-in-If
arm-returns-in-If t c =
    resim (λ v z A. later_by (lent c.args.tree.now) v c.args.r (numbered _ _ kind.If c.kind.ensures c.in-If.is tt) A)
    c.cond.ensures

pub arm-returns-in-Match : goal.arm-returns-in-Match
arm-returns-in-Match t c =
    resim (λ v z A. later_by (lent c.args.tree.now) v c.args.r (numbered _ _ kind.Match c.kind.ensures c.in-Match.is tt) A)
    c.cases.ensures

pub arm-returns-in-Loop : goal.arm-returns-in-Loop
arm-returns-in-Loop t c =
    resim (λ v z A. later_by (lent c.args.tree.now) v c.args.r (numbered _ _ kind.Loop c.kind.ensures c.in-Loop.is tt) A)
    c.repeat.ensures

pub arm-returns-in-While : goal.arm-returns-in-While
arm-returns-in-While t c =
    resim (λ v z A. later_by (lent c.args.tree.now) v c.args.r (numbered _ _ kind.While c.kind.ensures c.in-While.is tt) A)
    c.whilst.ensures

pub arm-returns-in-For : goal.arm-returns-in-For
arm-returns-in-For t c =
    resim (λ v z A. later_by (lent c.args.tree.now) v c.args.r (numbered _ _ kind.For c.kind.ensures c.in-For.is tt) A)
    c.each.ensures

pub arm-returns-in-Break : goal.arm-returns-in-Break
arm-returns-in-Break t c =
    resim (λ v z A. later_by (lent c.args.tree.now) v c.args.r (numbered _ _ kind.Break c.kind.ensures c.in-Break.is tt) A)
    (c.break_loop.ensures c.args.tree.now.notes.now)

pub arm-returns-in-Continue : goal.arm-returns-in-Continue
arm-returns-in-Continue t c =
    resim (λ v z A. later_by (lent c.args.tree.now) v c.args.r (numbered _ _ kind.Continue c.kind.ensures c.in-Continue.is tt) A)
    (c.continue_loop.ensures c.args.tree.now.notes.now)

pub arm-returns-in-Return : goal.arm-returns-in-Return
arm-returns-in-Return t c =
    resim (λ v z A. later_by (lent c.args.tree.now) v c.args.r (numbered _ _ kind.Return c.kind.ensures c.in-Return.is tt) A)
    c.ret.ensures

pub arm-returns-in-Import : goal.arm-returns-in-Import
arm-returns-in-Import t c =
    resim (λ v z A. later_by (lent c.args.tree.now) v c.args.r (numbered _ _ kind.Import c.kind.ensures c.in-Import.is tt) A)
    c.import.ensures

pub arm-returns-in-GloAssign : goal.arm-returns-in-GloAssign
arm-returns-in-GloAssign t c =
    resim (λ v z A. later_by (lent c.args.tree.now) v c.args.r (numbered _ _ kind.GloAssign c.kind.ensures c.in-GloAssign.is tt) A)
    c.glo.ensures

pub arm-returns-in-Assign : goal.arm-returns-in-Assign
arm-returns-in-Assign t c =
    resim (λ v z A. later_by (lent c.args.tree.now) v c.args.r (numbered _ _ kind.Assign c.kind.ensures c.in-Assign.is tt) A)
    c.assign.ensures

pub arm-returns-in-AssignOp : goal.arm-returns-in-AssignOp
arm-returns-in-AssignOp t c =
    resim (λ v z A. later_by (lent c.args.tree.now) v c.args.r (numbered _ _ kind.AssignOp c.kind.ensures c.in-AssignOp.is tt) A)
    c.update.ensures

pub arm-returns-in-AssignUnpack : goal.arm-returns-in-AssignUnpack
arm-returns-in-AssignUnpack t c =
    resim (λ v z A. later_by (lent c.args.tree.now) v c.args.r (numbered _ _ kind.AssignUnpack c.kind.ensures c.in-AssignUnpack.is tt) A)
    c.unpack.ensures

pub arm-returns-in-AssignMulti : goal.arm-returns-in-AssignMulti
arm-returns-in-AssignMulti t c =
    resim (λ v z A. later_by (lent c.args.tree.now) v c.args.r (numbered _ _ kind.AssignMulti c.kind.ensures c.in-AssignMulti.is tt) A)
    c.multi.ensures

pub arm-returns-in_default : goal.arm-returns-in_default
arm-returns-in_default t c =
    resim (λ v z A. to_last (lent c.args.tree.now) v c.args.r _ refl (unlike _ _ kind.If c.kind.ensures c.in_default.not-If tt)
    (unlike _ _ kind.Match c.kind.ensures c.in_default.not-Match tt) (unlike _ _ kind.Loop c.kind.ensures c.in_default.not-Loop tt)
    (unlike _ _ kind.While c.kind.ensures c.in_default.not-While tt) (unlike _ _ kind.For c.kind.ensures c.in_default.not-For tt)
    (unlike _ _ kind.Break c.kind.ensures c.in_default.not-Break tt) (unlike _ _ kind.Continue c.kind.ensures c.in_default.not-Continue tt)
    (unlike _ _ kind.Return c.kind.ensures c.in_default.not-Return tt) (unlike _ _ kind.Import c.kind.ensures c.in_default.not-Import tt)
    (unlike _ _ kind.GloAssign c.kind.ensures c.in_default.not-GloAssign tt) (unlike _ _ kind.Assign c.kind.ensures c.in_default.not-Assign tt)
    (unlike _ _ kind.AssignOp c.kind.ensures c.in_default.not-AssignOp tt) (unlike _ _ kind.AssignUnpack c.kind.ensures c.in_default.not-AssignUnpack tt)
    (unlike _ _ kind.AssignMulti c.kind.ensures c.in_default.not-AssignMulti tt) A) c.rest.ensures

pub assign-returns : goal.assign-returns
unfolding does doing exec
assign-returns t c =
    record {
      sim = λ z v o₀ A h.
          let h1 = visited z Expr (next_of c.args.tree.now.records.now c.next-right.ensures c.first-left.ensures) c.expr.ensures h in
          let h2 = visited z Target c.first-left.ensures c.target.ensures h1 in
          nulled c.args.r c.push_null.ensures h2;
      sizes = loaded_sizes _ _ _ _ c.push_null.ensures ∙ c.target.ensures.sizes ∙ c.expr.ensures.sizes;
    }

neither_short : (o : BinOp) → (o ≡ op.And → ⊥) → (o ≡ op.Or → ⊥) → false ≡ is_short o
neither_short op.Add a b = refl
neither_short op.Sub a b = refl
neither_short op.Mul a b = refl
neither_short op.Div a b = refl
neither_short op.Rem a b = refl
neither_short op.And a b = absurd (a refl)
neither_short op.Or a b = absurd (b refl)
neither_short op.Eq a b = refl
neither_short op.Ne a b = refl
neither_short op.Lt a b = refl
neither_short op.Le a b = refl
neither_short op.Gt a b = refl
neither_short op.Ge a b = refl
neither_short op.Is a b = refl

pub binary-returns-in-And : goal.binary-returns-in-And
binary-returns-in-And t c =
    resim (λ v z A. either_yes (lent c.args.tree.now) v c.args.r _ _ _ A (sym (is_and (word c.args.tree.now.records.now c.args.r 1)
    c.binary_operator-operator.ensures) ∙ ap (λ (o : BinOp). eqb (bin_number o) 5) c.in-And.is))
    c.short_circuit.ensures

pub binary-returns-in-Or : goal.binary-returns-in-Or
binary-returns-in-Or t c =
    resim (λ v z A. either_no (lent c.args.tree.now) v c.args.r _ _ _ A (sym (is_and (word c.args.tree.now.records.now c.args.r 1)
    c.binary_operator-operator.ensures) ∙ ap (λ (o : BinOp). eqb (bin_number o) 5) c.in-Or.is))
    (resim (λ v z A. either_yes (lent c.args.tree.now) v c.args.r _ _ _ A (sym (is_or (word c.args.tree.now.records.now c.args.r 1)
    c.binary_operator-operator.ensures) ∙ ap (λ (o : BinOp). eqb (bin_number o) 6) c.in-Or.is))
    c.short_circuit-in-Or.ensures)

pub binary-returns-in_default : goal.binary-returns-in_default
binary-returns-in_default t c =
    record {
      sim = λ z v o₀ A h.
          let h1 = visited z Expr c.first-left.ensures c.expr.ensures h in
          let h2 = visited z Expr (next_of c.args.tree.now.records.now c.next-right.ensures c.first-left.ensures) c.expr-in_default.ensures h1 in
          given (binary_run (lent c.args.tree.now) v c.args.r (sym (is_and (word c.args.tree.now.records.now c.args.r 1)
          c.binary_operator-operator.ensures) ∙ (not_either c.binary_operator-operator.result (sym (neither_short c.binary_operator-operator.result
          c.in_default.not-And c.in_default.not-Or))).0) (sym (is_or (word c.args.tree.now.records.now c.args.r 1) c.binary_operator-operator.ensures) ∙ (not_either
          c.binary_operator-operator.result (sym (neither_short c.binary_operator-operator.result c.in_default.not-And c.in_default.not-Or))).1) A) (operated (word
          c.args.tree.now.records.now c.args.r 1)
          c.binary_operator-operator.ensures c.args.r c.push_binary.ensures h2);
      sizes = operated_sizes _ _ _ c.push_binary.ensures ∙ c.expr-in_default.ensures.sizes ∙ c.expr.ensures.sizes;
    }

pub block-returns-then-child-eq0 : goal.block-returns-then-child-eq0
unfolding does doing exec
block-returns-then-child-eq0 t c =
    record {
      sim = λ z v o₀ A h.
          given (block_none (lent c.args.tree.now) v c.args.r (sym c.first-child.ensures ∙ c.if-child-eq0.true) A) (nulled c.args.r c.push_null.ensures h);
      sizes = loaded_sizes _ _ _ _ c.push_null.ensures;
    }

pub block-loop-cx-init : goal.block-loop-cx-init
block-loop-cx-init t c =
    blocking_start (lent c.args.tree.now) c.args.r _ (child1 c.args.tree.now.records.now c.first-child.ensures) c.if-child-eq0.false

pub block-returns-then-child-eq0-2 : goal.block-returns-then-child-eq0-2
block-returns-then-child-eq0-2 t c =
    resim (λ v z A. block_left (lent c.args.tree.now) v c.args.r c.first-child.ensures c.if-child-eq0.false A)
    (blocking_last (lent c.args.tree.now) c.args.r c.loop-cx.invariant (sym c.goes_on.ensures ∙ c.loop-cx-test.true) c.expr.ensures
    c.keep_error.ensures c.next-child.ensures c.if-child-eq0-2.true)

pub block-loop-cx-preserved : goal.block-loop-cx-preserved
block-loop-cx-preserved t c =
    blocking_again (lent c.args.tree.now) c.args.r c.loop-cx.invariant (sym c.goes_on.ensures ∙ c.loop-cx-test.true) c.expr.ensures
    c.keep_error.ensures c.next-child.ensures c.if-child-eq0-2.false
    (record {
      sim = λ z v o₀ A h.
          said c.args.r Pop 0 refl refl (sent _ c.push_code.ensures.1 c.push_code.ensures.2) h;
      sizes = pushed_sizes _ _ c.push_code.ensures.2;
    })

pub block-returns : goal.block-returns
block-returns t c =
    resim (λ v z A. block_left (lent c.args.tree.now) v c.args.r c.first-child.ensures c.if-child-eq0.false A)
    (blocking_still (lent c.args.tree.now) c.args.r c.loop-cx.invariant (sym c.goes_on.ensures ∙ c.loop-cx-test.false))

pub bodies-loop-at-init : goal.bodies-loop-at-init
bodies-loop-at-init t c =
    bodying_start (lent c.args.tree.now) c.args.first _ _ _

pub bodies-loop-at-preserved : goal.bodies-loop-at-preserved
bodies-loop-at-preserved t c =
    let same = pushed_sizes _ _ c.push_code.ensures.2 ∙ c.expr.ensures.sizes ∙ pushed_sizes _ _ c.push_label.ensures in
    bodying_again (lent c.args.tree.now) c.args.first _ _ c.loop-at.invariant c.loop-at-test.true c.next-at.ensures
    c.next_label-label.ensures
    (λ r i j q d. record {
      sim = λ z v o₀ A h.
          let h1 = placed r i refl q c.push_label.ensures h in
          let h2 = visited z Expr refl c.expr.ensures h1 in
          jumped r Jump j refl d (sent _ c.push_code.ensures.1 c.push_code.ensures.2) h2;
      sizes = same;
    }) same

pub bodies-returns : goal.bodies-returns
bodies-returns t c =
    record {
      bodies = λ r i j p q. bodying_end (lent c.args.tree.now) c.args.first _ _ c.loop-at.invariant c.loop-at-test.false
          r i j p q;
      sizes = c.loop-at.invariant.sizes;
    }

pub body-returns-then-eq : goal.body-returns-then-eq
unfolding does doing exec
body-returns-then-eq t c =
    resim (λ v z A. either_yes (lent c.args.tree.now) v c.args.r _ _ _ A
    (sym (is_do_kind (word c.args.tree.now.records.now c.args.r 1) _ _ c.function_kind.ensures c.eq.ensures) ∙ c.if-eq.true))
    (record {
      sim = λ z v o₀ A h.
          let h1 = visited z Expr c.first-params.ensures c.expr.ensures h in
          let h2 = visited z Expr (next_of c.args.tree.now.records.now c.next-block.ensures c.first-params.ensures) c.expr-2.ensures h1 in
          let h3 = said c.args.r Pop 0 refl refl (sent _ c.push_code.ensures.1 c.push_code.ensures.2) h2 in
          let h4 = said c.args.r LoadLocals 0 refl refl (sent _ c.push_code-then-eq.ensures.1 c.push_code-then-eq.ensures.2) h3 in
          said c.args.r Return 0 refl refl (sent _ c.push_code-then-eq-2.ensures.1 c.push_code-then-eq-2.ensures.2) h4;
      sizes = pushed_sizes _ _ c.push_code-then-eq-2.ensures.2 ∙ pushed_sizes _ _ c.push_code-then-eq.ensures.2
          ∙ pushed_sizes _ _ c.push_code.ensures.2 ∙ c.expr-2.ensures.sizes ∙ c.expr.ensures.sizes;
    })

pub body-returns : goal.body-returns
unfolding does doing exec
body-returns t c =
    resim (λ v z A. either_no (lent c.args.tree.now) v c.args.r _ _ _ A
    (sym (is_do_kind (word c.args.tree.now.records.now c.args.r 1) _ _ c.function_kind.ensures c.eq.ensures) ∙ c.if-eq.false))
    (record {
      sim = λ z v o₀ A h.
          let h1 = visited z Expr c.first-params.ensures c.expr.ensures h in
          let h2 = visited z Expr (next_of c.args.tree.now.records.now c.next-block.ensures c.first-params.ensures) c.expr-2.ensures h1 in
          said c.args.r Return 0 refl refl (sent _ c.push_code-2.ensures.1 c.push_code-2.ensures.2) h2;
      sizes = pushed_sizes _ _ c.push_code-2.ensures.2 ∙ c.expr-2.ensures.sizes ∙ c.expr.ensures.sizes;
    })

pub call-returns-then-handlers-eq0 : goal.call-returns-then-handlers-eq0
call-returns-then-handlers-eq0 t c =
    record {
      sim = λ z v o₀ A h.
          let h1 = visited z Callee c.first-callee.ensures c.called.ensures h in
          let h2 = through_at z (c.arguments_len-n.ensures ∙ ap (λ (x : ℕ). arguments (own_tree (forest c.args.tree.now.records.now x))) (next_of c.args.tree.now.records.now
          c.next-arguments.ensures c.first-callee.ensures)) (next_of c.args.tree.now.records.now c.next-arguments.ensures c.first-callee.ensures) c.all.ensures h1 in
          given (call_plain (lent c.args.tree.now) v c.args.r (call_of c.args.tail) (sym (c.nth-handlers.ensures ∙ ap₂
          (nth c.args.tree.now.records.now)
          (c.arguments_len-n.ensures ∙ ap (λ (x : ℕ). arguments (own_tree (forest c.args.tree.now.records.now x))) (next_of c.args.tree.now.records.now
          c.next-arguments.ensures c.first-callee.ensures)) (next_of c.args.tree.now.records.now c.next-arguments.ensures c.first-callee.ensures)) ∙ c.if-handlers-eq0.true) A)
          (said c.args.r (call_of c.args.tail) _ refl (c.argument_count-argument_count.ensures ∙ ap₂ (λ (x y : ℕ). cap (argument_count c.args.tree.now.records.now x y))
          c.first-callee.ensures (c.arguments_len-n.ensures ∙ ap (λ (x : ℕ). arguments (own_tree (forest c.args.tree.now.records.now
          x))) (next_of c.args.tree.now.records.now c.next-arguments.ensures c.first-callee.ensures))) c.push_calling.ensures h2);
      sizes = pushed_sizes _ _ c.push_calling.ensures ∙ c.all.ensures.sizes ∙ c.called.ensures.sizes;
    }

pub call-returns : goal.call-returns
call-returns t c =
    record {
      sim = λ z v o₀ A h.
          let h1 = visited z Callee c.first-callee.ensures c.called.ensures h in
          let h2 = through_at z (c.arguments_len-n.ensures ∙ ap (λ (x : ℕ). arguments (own_tree (forest c.args.tree.now.records.now x))) (next_of c.args.tree.now.records.now
          c.next-arguments.ensures c.first-callee.ensures)) (next_of c.args.tree.now.records.now c.next-arguments.ensures c.first-callee.ensures) c.all.ensures h1 in
          let l = label c.get_label-end_label.ensures h2 in
          let h3 = labelled c.get_label-end_label.ensures h2 in
          let k = c.registers-handler_label.ensures.registers.label ∙ h3.labels in
          let h4 = (c.registers-handler_label.ensures.registers.moves c.args.r).moves v o₀ _ h3 in
          let h5 = said c.args.r Call _ refl (c.argument_count-argument_count.ensures ∙ ap₂ (λ (x y : ℕ). cap (argument_count c.args.tree.now.records.now x y))
          c.first-callee.ensures (c.arguments_len-n.ensures ∙ ap (λ (x : ℕ). arguments (own_tree (forest c.args.tree.now.records.now x))) (next_of c.args.tree.now.records.now
          c.next-arguments.ensures c.first-callee.ensures))) (sent _ c.push_code.ensures.1 c.push_code.ensures.2) h4 in
          let h6 = jumped c.args.r Jump _ refl l (sent _ c.push_code-2.ensures.1 c.push_code-2.ensures.2) h5 in
          let h7 = (c.bodies.ensures.bodies c.args.r _ _ k l).sim z v o₀ _ h6 in
          given (call_handled (lent c.args.tree.now) v c.args.r (call_of c.args.tail) (c.nth-handlers.ensures ∙ ap₂ (nth
          c.args.tree.now.records.now) (c.arguments_len-n.ensures ∙ ap (λ (x : ℕ). arguments (own_tree (forest c.args.tree.now.records.now x))) (next_of c.args.tree.now.records.now
          c.next-arguments.ensures c.first-callee.ensures)) (next_of c.args.tree.now.records.now c.next-arguments.ensures c.first-callee.ensures)) c.if-handlers-eq0.false A)
          (placed c.args.r _ refl l c.push_label.ensures h7);
      sizes = pushed_sizes _ _ c.push_label.ensures ∙ c.bodies.ensures.sizes ∙ pushed_sizes _ _ c.push_code-2.ensures.2
          ∙ pushed_sizes _ _ c.push_code.ensures.2 ∙ (c.registers-handler_label.ensures.registers.moves c.args.r).sizes
          ∙ taken_sizes c.get_label-end_label.ensures ∙ c.all.ensures.sizes ∙ c.called.ensures.sizes;
    }

pub called-returns-then-callee-eq0 : goal.called-returns-then-callee-eq0
called-returns-then-callee-eq0 t c =
    resim (λ v z A. absent (lent c.args.tree.now) v Callee c.if-callee-eq0.true A) stay

pub called-returns-then-not-is_method : goal.called-returns-then-not-is_method
called-returns-then-not-is_method t c =
    resim (λ v z A. callee_plain (lent c.args.tree.now) v c.args.callee c.if-callee-eq0.false (sym c.is_method.ensures ∙
    not-true _ (ap not c.if-not-is_method.true)) A) c.expr.ensures

pub called-returns-then-is_unlabelled : goal.called-returns-then-is_unlabelled
called-returns-then-is_unlabelled t c =
    resim (λ v z A. callee_method (lent c.args.tree.now) v c.args.callee c.if-callee-eq0.false (sym c.is_method.ensures
    ∙ not-false _ (ap not c.if-not-is_method.false)) A)
    (record {
      sim = λ z v o₀ A h.
          let h1 = visited z Expr c.first-table.ensures c.expr-2.ensures h in
          let t = label_test (word c.args.tree.now.records.now c.args.callee 1) h1 c.is_unlabelled.ensures in
          let k = said c.args.callee Copy 1 refl refl (sent _ c.push_code.ensures.1 c.push_code.ensures.2) h1 in
          let p = propped z c.args.callee (word c.args.tree.now.records.now c.args.callee 1 % 8) c.property_of-property.ensures c.prop.ensures k in
          let g = got c.args.callee (word c.args.tree.now.records.now c.args.callee 1 % 8) c.property_of-property.ensures c.push_get.ensures p in
          given (method_bare (lent c.args.tree.now) v c.args.callee (t ∙ c.if-is_unlabelled.true) A) (said c.args.callee
          Swap 2 refl refl (sent _ c.push_code-then-is_unlabelled.ensures.1 c.push_code-then-is_unlabelled.ensures.2) g);
      sizes = pushed_sizes _ _ c.push_code-then-is_unlabelled.ensures.2 ∙ pushed_sizes _ _ c.push_get.ensures ∙ c.prop.ensures.sizes
          ∙ pushed_sizes _ _ c.push_code.ensures.2 ∙ c.expr-2.ensures.sizes;
    })

pub called-returns : goal.called-returns
called-returns t c =
    resim (λ v z A. callee_method (lent c.args.tree.now) v c.args.callee c.if-callee-eq0.false (sym c.is_method.ensures
    ∙ not-false _ (ap not c.if-not-is_method.false)) A)
    (record {
      sim = λ z v o₀ A h.
          let h1 = visited z Expr c.first-table.ensures c.expr-2.ensures h in
          let t = label_test (word c.args.tree.now.records.now c.args.callee 1) h1 c.is_unlabelled.ensures in
          let l = label c.get_label-safe_label.ensures h1 in
          let h2 = labelled c.get_label-safe_label.ensures h1 in
          let h3 = (c.push_safe_jump.ensures.jumps.moves _ l).moves v o₀ _ h2 in
          let k = said c.args.callee Copy 1 refl refl (sent _ c.push_code-2.ensures.1 c.push_code-2.ensures.2) h3 in
          let p = propped z c.args.callee (word c.args.tree.now.records.now c.args.callee 1 % 8) c.property_of-property.ensures c.prop-2.ensures k in
          let g = got c.args.callee (word c.args.tree.now.records.now c.args.callee 1 % 8) c.property_of-property.ensures c.push_get-2.ensures p in
          let q = said c.args.callee Swap 2 refl refl (sent _ c.push_code-3.ensures.1 c.push_code-3.ensures.2) g in
          given (method_run (lent c.args.tree.now) v c.args.callee (t ∙ c.if-is_unlabelled.false) A) (placed c.args.callee _
          refl l c.push_label.ensures q);
      sizes = pushed_sizes _ _ c.push_label.ensures ∙ pushed_sizes _ _ c.push_code-3.ensures.2 ∙ pushed_sizes _ _ c.push_get-2.ensures
          ∙ c.prop-2.ensures.sizes ∙ pushed_sizes _ _ c.push_code-2.ensures.2 ∙ c.push_safe_jump.ensures.jumps.sizes
          ∙ taken_sizes c.get_label-safe_label.ensures ∙ c.expr-2.ensures.sizes;
    })

pub cases-returns-then-value-eq0 : goal.cases-returns-then-value-eq0
cases-returns-then-value-eq0 t c =
    resim (λ v z A. match_none (lent c.args.tree.now) v c.args.r (sym c.first-value.ensures ∙ c.if-value-eq0.true) A) stay

pub cases-returns : goal.cases-returns
cases-returns t c =
    record {
      sim = λ z v o₀ A h.
          let l = label c.get_label-end_label.ensures h in
          let h1 = labelled c.get_label-end_label.ensures h in
          let h2 = visited z Expr c.first-value.ensures c.expr.ensures h1 in
          let k = label c.get_labels-block_label.ensures h2 in
          let h3 = labelled c.get_labels-block_label.ensures h2 in
          let h4 = (c.patterns.ensures.tests c.args.r _ k).sim z v o₀ _ h3 in
          let h5 = nulled c.args.r c.push_null.ensures h4 in
          let h6 = jumped c.args.r Jump _ refl l (sent _ c.push_code.ensures.1 c.push_code.ensures.2) h5 in
          let h7 = (c.bodies.ensures.bodies c.args.r _ _ k l).sim z v o₀ _ h6 in
          let h8 = placed c.args.r _ refl l c.push_label.ensures h7 in
          let h9 = said c.args.r Swap 2 refl refl (sent _ c.push_code-2.ensures.1 c.push_code-2.ensures.2) h8 in
          given (match_run (lent c.args.tree.now) v c.args.r (next_of c.args.tree.now.records.now c.next-cases.ensures c.first-value.ensures) c.width.ensures (λ
          e. c.if-value-eq0.false (c.first-value.ensures ∙ e)) A) (said c.args.r Pop 0 refl refl (sent _ c.push_code-3.ensures.1 c.push_code-3.ensures.2) h9);
      sizes = pushed_sizes _ _ c.push_code-3.ensures.2 ∙ pushed_sizes _ _ c.push_code-2.ensures.2 ∙ pushed_sizes _ _ c.push_label.ensures
          ∙ c.bodies.ensures.sizes ∙ pushed_sizes _ _ c.push_code.ensures.2 ∙ loaded_sizes _ _ _ _ c.push_null.ensures ∙ c.patterns.ensures.sizes
          ∙ taken_sizes c.get_labels-block_label.ensures ∙ c.expr.ensures.sizes ∙ taken_sizes c.get_label-end_label.ensures;
    }

pub catch-returns : goal.catch-returns
unfolding does doing exec
catch-returns t c =
    let same = c.expr-2.ensures.sizes ∙ c.expr.ensures.sizes ∙ pushed_sizes _ _ c.push_code.ensures.2 ∙ loaded_sizes _ _ _ _ c.push_load_const.ensures in
    record {
      catches = λ q. record {
        sim = λ z v o₀ A h.
            let h1 = effect_loaded (lent c.args.tree.now) c.args.handler z q c.capped.ensures c.push_load_const.ensures h in
            let h2 = said c.args.handler CheckEffect _ refl (c.params_len.ensures ∙ ap (λ (y : ℕ). cap (width (below (own_tree (forest c.args.tree.now.records.now y)) 0)))
            (next_of c.args.tree.now.records.now c.next-params.ensures c.first-effect.ensures) ∙ ap (λ (k : Nodes). cap (width k)) (sym (below_nodes
            c.args.tree.now.records.now (first c.args.tree.now.records.now c.args.handler) 0))) (sent _ c.push_code.ensures.1 c.push_code.ensures.2) h1 in
            let h3 = visited z Expr (next_of c.args.tree.now.records.now c.next-params.ensures c.first-effect.ensures) c.expr.ensures h2 in
            visited z Expr (next_of c.args.tree.now.records.now c.next-body.ensures (next_of c.args.tree.now.records.now c.next-params.ensures c.first-effect.ensures))
            c.expr-2.ensures h3;
        sizes = same;
      };
      sizes = same;
    }

pub cond-returns-then-flag : goal.cond-returns-then-flag
unfolding does doing exec
cond-returns-then-flag t c =
    resim (λ v z A. either_yes (lent c.args.tree.now) v c.args.r _ _ _ A (sym c.flag.ensures ∙ c.if-flag.true))
    (record {
      sim = λ z v o₀ A h.
          let l = label c.get_label-false_label.ensures h in
          let h1 = labelled c.get_label-false_label.ensures h in
          let m = label c.get_label-end_label.ensures h1 in
          let h2 = labelled c.get_label-end_label.ensures h1 in
          let h3 = visited z Expr c.first-test.ensures c.expr.ensures h2 in
          let h4 = jumped c.args.r PopJumpIfFalse _ refl l (sent _ c.push_code.ensures.1 c.push_code.ensures.2) h3 in
          let h5 = visited z Expr (next_of c.args.tree.now.records.now c.next-consequent.ensures c.first-test.ensures) c.expr-2.ensures h4 in
          let h6 = jumped c.args.r Jump _ refl m (sent _ c.push_code-2.ensures.1 c.push_code-2.ensures.2) h5 in
          let h7 = placed c.args.r _ refl l c.push_label.ensures h6 in
          let h8 = visited z Expr
          (next_of c.args.tree.now.records.now c.next-alternate.ensures (next_of c.args.tree.now.records.now c.next-consequent.ensures c.first-test.ensures))
          c.expr-then-flag.ensures h7 in
          placed c.args.r _ refl m c.push_label-then-flag.ensures h8;
      sizes = pushed_sizes _ _ c.push_label-then-flag.ensures ∙ c.expr-then-flag.ensures.sizes ∙ pushed_sizes _ _ c.push_label.ensures
          ∙ pushed_sizes _ _ c.push_code-2.ensures.2 ∙ c.expr-2.ensures.sizes ∙ pushed_sizes _ _ c.push_code.ensures.2 ∙ c.expr.ensures.sizes
          ∙ taken_sizes c.get_label-end_label.ensures ∙ taken_sizes c.get_label-false_label.ensures;
    })

pub cond-returns : goal.cond-returns
unfolding does doing exec
cond-returns t c =
    resim (λ v z A. either_no (lent c.args.tree.now) v c.args.r _ _ _ A (sym c.flag.ensures ∙ c.if-flag.false))
    (record {
      sim = λ z v o₀ A h.
          let l = label c.get_label-false_label.ensures h in
          let h1 = labelled c.get_label-false_label.ensures h in
          let m = label c.get_label-end_label.ensures h1 in
          let h2 = labelled c.get_label-end_label.ensures h1 in
          let h3 = visited z Expr c.first-test.ensures c.expr.ensures h2 in
          let h4 = jumped c.args.r PopJumpIfFalse _ refl l (sent _ c.push_code.ensures.1 c.push_code.ensures.2) h3 in
          let h5 = visited z Expr (next_of c.args.tree.now.records.now c.next-consequent.ensures c.first-test.ensures) c.expr-2.ensures h4 in
          let h6 = jumped c.args.r Jump _ refl m (sent _ c.push_code-2.ensures.1 c.push_code-2.ensures.2) h5 in
          let h7 = placed c.args.r _ refl l c.push_label.ensures h6 in
          let h8 = nulled c.args.r c.push_null.ensures h7 in
          placed c.args.r _ refl m c.push_label-2.ensures h8;
      sizes = pushed_sizes _ _ c.push_label-2.ensures ∙ loaded_sizes _ _ _ _ c.push_null.ensures ∙ pushed_sizes _ _ c.push_label.ensures
          ∙ pushed_sizes _ _ c.push_code-2.ensures.2 ∙ c.expr-2.ensures.sizes ∙ pushed_sizes _ _ c.push_code.ensures.2 ∙ c.expr.ensures.sizes
          ∙ taken_sizes c.get_label-end_label.ensures ∙ taken_sizes c.get_label-false_label.ensures;
    })

pub each-returns : goal.each-returns
each-returns t c =
    record {
      sim = λ z v o₀ A h.
          let l = label c.get_label-continue_label.ensures h in
          let h1 = labelled c.get_label-continue_label.ensures h in
          let m = label c.get_label-break_label.ensures h1 in
          let h2 = labelled c.get_label-break_label.ensures h1 in
          let k = label c.get_label-body_label.ensures h2 in
          let h3 = labelled c.get_label-body_label.ensures h2 in
          let h4 = given (behind_body _ c.args.r A) (begun c.args.r _ _ _ l h3 c.begin_loop.ensures) in
          let h5 = visited z Expr (c.nth-right.ensures ∙ ap₂ (nth c.args.tree.now.records.now) c.p-n.ensures c.first-left.ensures) c.expr.ensures h4 in
          let h6 = (c.iterate.ensures.moves c.args.r _ _ l k).moves v o₀ _ h5 in
          let h7 = jumped c.args.r Jump _ refl m (sent _ c.push_code.ensures.1 c.push_code.ensures.2) h6 in
          let h8 = placed c.args.r _ refl k c.push_label.ensures h7 in
          let h9 = said c.args.r MarkAddStackSize 3 refl refl (sent _ c.push_code-2.ensures.1 c.push_code-2.ensures.2) h8 in
          let i1 = said c.args.r Pop 0 refl refl (sent _ c.push_code-3.ensures.1 c.push_code-3.ensures.2) h9 in
          let i2 = (c.targets.ensures c.args.r).moves v o₀ _ i1 in
          let i3 = visited z Expr (next_of c.args.tree.now.records.now c.next-body.ensures (c.nth-right.ensures ∙ ap₂ (nth c.args.tree.now.records.now) c.p-n.ensures
          c.first-left.ensures) ∙ nth_next c.args.tree.now.records.now (word c.args.tree.now.records.now c.args.r 2) (first c.args.tree.now.records.now c.args.r)) c.expr-2.ensures
          i2 in
          given (for_run (lent c.args.tree.now) v c.args.r c.p-n.ensures c.first-left.ensures A) ((c.end_for.ensures.moves c.args.r _ _ l m).moves v o₀ _ i3);
      sizes = c.end_for.ensures.sizes ∙ c.expr-2.ensures.sizes ∙ (c.targets.ensures c.args.r).sizes ∙ pushed_sizes _ _ c.push_code-3.ensures.2
          ∙ pushed_sizes _ _ c.push_code-2.ensures.2 ∙ pushed_sizes _ _ c.push_label.ensures ∙ pushed_sizes _ _ c.push_code.ensures.2
          ∙ c.iterate.ensures.sizes ∙ c.expr.ensures.sizes ∙ opened_sizes _ _ c.begin_loop.ensures ∙ taken_sizes c.get_label-body_label.ensures
          ∙ taken_sizes c.get_label-break_label.ensures ∙ taken_sizes c.get_label-continue_label.ensures;
    }

pub expr-returns-then-r-eq0 : goal.expr-returns-then-r-eq0
expr-returns-then-r-eq0 t c =
    resim (λ v z A. absent (lent c.args.tree.now) v Expr c.if-r-eq0.true A) stay

pub expr-returns-in-Lit : goal.expr-returns-in-Lit
unfolding does doing exec
expr-returns-in-Lit t c =
    resim (λ v z A. by (lent c.args.tree.now) v c.args.r c.if-r-eq0.false (numbered _ _ kind.Lit c.kind.ensures c.in-Lit.is tt) A)
    (record {
      sim = λ z v o₀ A h.
          lit_loaded c.args.r (word c.args.tree.now.records.now c.args.r 1) (word c.args.tree.now.records.now c.args.r 2) (word c.args.tree.now.records.now
          c.args.r 3) c.push_lit.ensures h;
      sizes = loaded_sizes _ _ _ _ c.push_lit.ensures;
    })

pub expr-returns-in-Ident : goal.expr-returns-in-Ident
unfolding does doing exec
expr-returns-in-Ident t c =
    resim (λ v z A. by (lent c.args.tree.now) v c.args.r c.if-r-eq0.false (numbered _ _ kind.Ident c.kind.ensures c.in-Ident.is tt) A)
    (record {
      sim = λ z v o₀ A h.
          used_at (lent c.args.tree.now) c.args.r Get c.args.r c.load.ensures h;
      sizes = used_sizes Get _ _ _ c.load.ensures;
    })

pub expr-returns-in-Paren : goal.expr-returns-in-Paren
unfolding does doing exec
expr-returns-in-Paren t c =
    resim (λ v z A. by (lent c.args.tree.now) v c.args.r c.if-r-eq0.false (numbered _ _ kind.Paren c.kind.ensures c.in-Paren.is tt)
    A)
    (record {
      sim = λ z v o₀ A h.
          visited z Expr c.first.ensures c.expr.ensures h;
      sizes = c.expr.ensures.sizes;
    })

pub expr-returns-in-Block : goal.expr-returns-in-Block
expr-returns-in-Block t c =
    resim (λ v z A. by (lent c.args.tree.now) v c.args.r c.if-r-eq0.false (numbered _ _ kind.Block c.kind.ensures c.in-Block.is tt) A)
    c.block.ensures

pub expr-returns-in-Fn : goal.expr-returns-in-Fn
expr-returns-in-Fn t c =
    resim (λ v z A. by (lent c.args.tree.now) v c.args.r c.if-r-eq0.false (numbered _ _ kind.Fn c.kind.ensures c.in-Fn.is tt) A)
    c.func.ensures

pub expr-returns-in-Effect : goal.expr-returns-in-Effect
expr-returns-in-Effect t c =
    resim (λ v z A. by (lent c.args.tree.now) v c.args.r c.if-r-eq0.false (numbered _ _ kind.Effect c.kind.ensures c.in-Effect.is tt) A)
    (c.effect.ensures.steps (numbered _ _ kind.Effect c.kind.ensures c.in-Effect.is tt))

pub expr-returns-in-Table : goal.expr-returns-in-Table
expr-returns-in-Table t c =
    resim (λ v z A. by (lent c.args.tree.now) v c.args.r c.if-r-eq0.false (numbered _ _ kind.Table c.kind.ensures c.in-Table.is tt) A)
    c.table.ensures

pub expr-returns-in-List : goal.expr-returns-in-List
expr-returns-in-List t c =
    resim (λ v z A. by (lent c.args.tree.now) v c.args.r c.if-r-eq0.false (numbered _ _ kind.List c.kind.ensures c.in-List.is tt) A)
    c.list.ensures

pub expr-returns-in-Unary : goal.expr-returns-in-Unary
unfolding does doing exec
expr-returns-in-Unary t c =
    resim (λ v z A. by (lent c.args.tree.now) v c.args.r c.if-r-eq0.false (numbered _ _ kind.Unary c.kind.ensures c.in-Unary.is tt)
    A)
    (record {
      sim = λ z v o₀ A h.
          let h1 = visited z Expr c.first-in-Unary.ensures c.expr-in-Unary.ensures h in
          unary c.args.r (word c.args.tree.now.records.now c.args.r 1) c.unary_operator.ensures c.push_unary.ensures h1;
      sizes = pushed_sizes _ _ c.push_unary.ensures ∙ c.expr-in-Unary.ensures.sizes;
    })

pub expr-returns-in-Binary : goal.expr-returns-in-Binary
expr-returns-in-Binary t c =
    resim (λ v z A. by (lent c.args.tree.now) v c.args.r c.if-r-eq0.false (numbered _ _ kind.Binary c.kind.ensures c.in-Binary.is tt)
    A)
    c.binary.ensures

pub expr-returns-in-TypeCheck : goal.expr-returns-in-TypeCheck
unfolding does doing exec
expr-returns-in-TypeCheck t c =
    resim (λ v z A. by (lent c.args.tree.now) v c.args.r c.if-r-eq0.false (numbered _ _ kind.TypeCheck c.kind.ensures c.in-TypeCheck.is tt) A)
    (record {
      sim = λ z v o₀ A h.
          let h1 = visited z Expr c.first-in-TypeCheck.ensures c.expr-in-TypeCheck.ensures h in
          said c.args.r TypeCheck (word c.args.tree.now.records.now c.args.r 1) refl (cap_word _ (let g = c.detail.type_inv in search rules) ∙ ap cap c.detail.ensures)
          (sent _ c.push_code.ensures.1 c.push_code.ensures.2) h1;
      sizes = pushed_sizes _ _ c.push_code.ensures.2 ∙ c.expr-in-TypeCheck.ensures.sizes;
    })

pub expr-returns-in-Member : goal.expr-returns-in-Member
expr-returns-in-Member t c =
    resim (λ v z A. by (lent c.args.tree.now) v c.args.r c.if-r-eq0.false (numbered _ _ kind.Member c.kind.ensures c.in-Member.is tt)
    A)
    c.member.ensures

pub expr-returns-in-Call : goal.expr-returns-in-Call
expr-returns-in-Call t c =
    resim (λ v z A. by (lent c.args.tree.now) v c.args.r c.if-r-eq0.false (numbered _ _ kind.Call c.kind.ensures c.in-Call.is tt)
    A)
    c.call.ensures

pub expr-returns-in_default : goal.expr-returns-in_default
expr-returns-in_default t c =
    resim (λ v z A. to_later (lent c.args.tree.now) v c.args.r _ c.if-r-eq0.false refl (unlike _ _ kind.Lit c.kind.ensures c.in_default.not-Lit tt)
    (unlike _ _ kind.Ident c.kind.ensures c.in_default.not-Ident tt) (unlike _ _ kind.Paren c.kind.ensures c.in_default.not-Paren tt)
    (unlike _ _ kind.Block c.kind.ensures c.in_default.not-Block tt) (unlike _ _ kind.Fn c.kind.ensures c.in_default.not-Fn tt)
    (unlike _ _ kind.Effect c.kind.ensures c.in_default.not-Effect tt) (unlike _ _ kind.Table c.kind.ensures c.in_default.not-Table tt)
    (unlike _ _ kind.List c.kind.ensures c.in_default.not-List tt) (unlike _ _ kind.Unary c.kind.ensures c.in_default.not-Unary tt)
    (unlike _ _ kind.Binary c.kind.ensures c.in_default.not-Binary tt) (unlike _ _ kind.TypeCheck c.kind.ensures c.in_default.not-TypeCheck tt)
    (unlike _ _ kind.Member c.kind.ensures c.in_default.not-Member tt) (unlike _ _ kind.Call c.kind.ensures c.in_default.not-Call tt) A) c.arm.ensures

pub fetch-returns-then-left-eq0 : goal.fetch-returns-then-left-eq0
fetch-returns-then-left-eq0 t c =
    resim (λ v z A. absent (lent c.args.tree.now) v Before c.if-left-eq0.true A) stay

pub fetch-returns-then-ne : goal.fetch-returns-then-ne
fetch-returns-then-ne t c =
    resim (λ v z A. before_other (lent c.args.tree.now) v c.args.left c.if-left-eq0.false (other_kind _ _ kind.Left _ c.kind.ensures c.ne.ensures tt c.if-ne.true) A) stay

pub fetch-returns-then-detail-eq-PLAIN : goal.fetch-returns-then-detail-eq-PLAIN
unfolding does doing exec
fetch-returns-then-detail-eq-PLAIN t c =
    resim (λ v z A. before_plain (lent c.args.tree.now) v c.args.left c.if-left-eq0.false (same_kind _ _ kind.Left _ c.kind.ensures c.ne.ensures tt c.if-ne.false) (sym
    c.detail.ensures ∙ c.if-detail-eq-PLAIN.true) A)
    (record {
      sim = λ z v o₀ A h.
          used z c.args.left 0 Get c.first.ensures c.load.ensures h;
      sizes = used_sizes Get _ _ _ c.load.ensures;
    })

pub fetch-returns-then-is_meta : goal.fetch-returns-then-is_meta
unfolding does doing exec
fetch-returns-then-is_meta t c =
    record {
      sim = λ z v o₀ A h.
          let h1 = used z c.args.left 0 Get c.first.ensures c.load.ensures h in
          let h2 = said c.args.left Copy 1 refl refl (sent _ c.push_code.ensures.1 c.push_code.ensures.2) h1 in
          given (before_meta (lent c.args.tree.now) v c.args.left c.if-left-eq0.false (same_kind _ _ kind.Left _ c.kind.ensures c.ne.ensures tt c.if-ne.false) (λ e.
          c.if-detail-eq-PLAIN.false (c.detail.ensures ∙ e)) c.left_property-property.ensures (sym c.is_meta.ensures ∙ c.if-is_meta.true) A) (got
          c.args.left (word c.args.tree.now.records.now c.args.left 1 - 1) c.left_property-property.ensures c.push_get.ensures h2);
      sizes = pushed_sizes _ _ c.push_get.ensures ∙ pushed_sizes _ _ c.push_code.ensures.2 ∙ used_sizes Get _ _ _ c.load.ensures;
    }

pub fetch-returns : goal.fetch-returns
unfolding does doing exec
fetch-returns t c =
    record {
      sim = λ z v o₀ A h.
          let h1 = used z c.args.left 0 Get c.first.ensures c.load.ensures h in
          let h2 = propped z c.args.left (word c.args.tree.now.records.now c.args.left 1 - 1) c.left_property-property.ensures c.prop.ensures h1 in
          let h3 = said c.args.left Copy 2 refl refl (sent _ c.push_code-2.ensures.1 c.push_code-2.ensures.2) h2 in
          let h4 = said c.args.left Copy 2 refl refl (sent _ c.push_code-3.ensures.1 c.push_code-3.ensures.2) h3 in
          given (before_member (lent c.args.tree.now) v c.args.left c.if-left-eq0.false (same_kind _ _ kind.Left _ c.kind.ensures c.ne.ensures tt c.if-ne.false) (λ e.
          c.if-detail-eq-PLAIN.false (c.detail.ensures ∙ e)) c.left_property-property.ensures (sym c.is_meta.ensures ∙ c.if-is_meta.false) A) (got c.args.left
          (word c.args.tree.now.records.now c.args.left 1 - 1) c.left_property-property.ensures c.push_get-2.ensures h4);
      sizes = pushed_sizes _ _ c.push_get-2.ensures ∙ pushed_sizes _ _ c.push_code-3.ensures.2 ∙ pushed_sizes _ _ c.push_code-2.ensures.2
          ∙ c.prop.ensures.sizes ∙ used_sizes Get _ _ _ c.load.ensures;
    }

pub func-returns-then-not-flag : goal.func-returns-then-not-flag
unfolding does doing exec
func-returns-then-not-flag t c =
    resim (λ v z A. either_no (lent c.args.tree.now) v c.args.r _ _ _ A (sym c.flag.ensures ∙ c.if-not-flag.true))
    (record {
      sim = λ z v o₀ A h.
          visited z Expr c.first.ensures c.expr.ensures h;
      sizes = c.expr.ensures.sizes;
    })

pub func-returns : goal.func-returns
unfolding does doing exec
func-returns t c =
    resim (λ v z A. either_yes (lent c.args.tree.now) v c.args.r _ _ _ A (sym c.flag.ensures ∙ c.if-not-flag.false))
    (record {
      sim = λ z v o₀ A h.
          let h1 = visited z Expr (next_of c.args.tree.now.records.now c.next-function.ensures c.first-name.ensures) c.expr-2.ensures h in
          let h2 = used z c.args.r 0 Set c.first-name.ensures c.store.ensures h1 in
          nulled c.args.r c.push_null.ensures h2;
      sizes = loaded_sizes _ _ _ _ c.push_null.ensures ∙ used_sizes Set _ _ _ c.store.ensures ∙ c.expr-2.ensures.sizes;
    })

pub glo-returns : goal.glo-returns
unfolding does doing exec
glo-returns t c =
    record {
      sim = λ z v o₀ A h.
          let h1 = visited z Expr (next_of c.args.tree.now.records.now c.next-right.ensures c.first-left.ensures) c.expr.ensures h in
          let h2 = used z c.args.r 0 Set c.first-left.ensures c.store.ensures h1 in
          nulled c.args.r c.push_null.ensures h2;
      sizes = loaded_sizes _ _ _ _ c.push_null.ensures ∙ used_sizes Set _ _ _ c.store.ensures ∙ c.expr.ensures.sizes;
    }

pub import-returns-in-Items : goal.import-returns-in-Items
unfolding does doing exec
import-returns-in-Items t c =
    record {
      sim = λ z v o₀ A h.
          let h1 = str_loaded c.args.r Import (word c.args.tree.now.records.now c.args.r 3) c.q.ensures c.push_import.ensures h in
          let d = word c.args.tree.now.records.now c.args.r 1 in
          let q = c.import_kind.ensures in
          let h2 = through_at z
          ((c.width.ensures ∙ ap (λ (x : ℕ). width (own_tree (forest c.args.tree.now.records.now x))) (c.nth-items.ensures ∙ ap₂ (nth c.args.tree.now.records.now)
          c.p.ensures c.first.ensures)) ∙ sym (width_past c.args.tree.now.records.now (word c.args.tree.now.records.now c.args.r
          2) (first c.args.tree.now.records.now c.args.r))) (c.nth-items.ensures ∙ ap₂ (nth c.args.tree.now.records.now) c.p.ensures c.first.ensures)
          c.all.ensures h1 in
          let h3 = said c.args.r Pop 0 refl refl (sent _ c.push_code.ensures.1 c.push_code.ensures.2) h2 in
          given (either_no (lent c.args.tree.now) v c.args.r _ _ _ _ (one_stored d _ false q (ap stores_one c.in-Items.is))
          ∙ either_yes (lent c.args.tree.now) v c.args.r _ _ _ _ (items_stored d _ true q (ap has_items c.in-Items.is)) ∙ items_run
          (lent c.args.tree.now) v c.args.r _) (nulled c.args.r c.push_null-in-Items.ensures h3);
      sizes = loaded_sizes _ _ _ _ c.push_null-in-Items.ensures ∙ pushed_sizes _ _ c.push_code.ensures.2 ∙ c.all.ensures.sizes
          ∙ loaded_sizes _ _ _ _ c.push_import.ensures;
    }

pub import-returns-in-Simple : goal.import-returns-in-Simple
unfolding does doing exec
import-returns-in-Simple t c =
    record {
      sim = λ z v o₀ A h.
          let h1 = str_loaded c.args.r Import (word c.args.tree.now.records.now c.args.r 3) c.q.ensures c.push_import.ensures h in
          let h2 = c.simple.ensures.steps.sim z v o₀ _ h1 in
          given (either_yes (lent c.args.tree.now) v c.args.r _ _ _ _
          (one_stored (word c.args.tree.now.records.now c.args.r 1) _ true c.import_kind.ensures (⊎_elim (λ e. ap stores_one e) (λ e. ap stores_one e) c.in-Simple.is))
          ∙ simple_part (lent c.args.tree.now) v c.args.r (word c.args.tree.now.records.now
          c.args.r 2) _) (nulled c.args.r c.push_null.ensures h2);
      sizes = loaded_sizes _ _ _ _ c.push_null.ensures ∙ c.simple.ensures.steps.sizes ∙ loaded_sizes _ _ _ _ c.push_import.ensures;
    }

pub import-returns-in-Glob : goal.import-returns-in-Glob
unfolding does doing exec
import-returns-in-Glob t c =
    record {
      sim = λ z v o₀ A h.
          let d = word c.args.tree.now.records.now c.args.r 1 in
          let q = c.import_kind.ensures in
          let h1 = str_loaded c.args.r Import (word c.args.tree.now.records.now c.args.r 3) c.q.ensures c.push_import.ensures h in
          let h2 = said c.args.r ImportGlob 0 refl refl (sent _ c.push_code-in-Glob.ensures.1 c.push_code-in-Glob.ensures.2) h1 in
          given (either_no (lent c.args.tree.now) v c.args.r _ _ _ _ (one_stored d _ false q (ap stores_one c.in-Glob.is)) ∙ either_no (lent c.args.tree.now) v c.args.r _ _ _ _
          (items_stored d _ false q (ap has_items c.in-Glob.is))) (nulled c.args.r c.push_null-in-Glob.ensures h2);
      sizes = loaded_sizes _ _ _ _ c.push_null-in-Glob.ensures ∙ pushed_sizes _ _ c.push_code-in-Glob.ensures.2 ∙ loaded_sizes _ _ _ _ c.push_import.ensures;
    }

pub inner-returns-then-not-cx : goal.inner-returns-then-not-cx
inner-returns-then-not-cx t c =
    resim (λ v z A. stream_inside (lent c.args.tree.now) v c.args.r A)
    (inside_none (lent c.args.tree.now) c.args.r (words c.args.tree.now.records.now c.args.r) (λ v. does (lent c.args.tree.now) v c.args.r
    (stream_steps (words c.args.tree.now.records.now c.args.r))) (not-true _ (ap not c.if-not-cx.true)))

pub inner-returns-then-not-goes_on : goal.inner-returns-then-not-goes_on
inner-returns-then-not-goes_on t c =
    resim (λ v z A. stream_inside (lent c.args.tree.now) v c.args.r A)
    (inside_still (lent c.args.tree.now) c.args.r (words c.args.tree.now.records.now c.args.r) (λ v. does (lent c.args.tree.now) v c.args.r
    (stream_steps (words c.args.tree.now.records.now c.args.r))) (sym c.goes_on.ensures ∙
    not-true _ (ap not c.if-not-goes_on.true)))

pub inner-returns-then-not-is_numbered : goal.inner-returns-then-not-is_numbered
inner-returns-then-not-is_numbered t c =
    resim (λ v z A. stream_inside (lent c.args.tree.now) v c.args.r A)
    (inside_skipped (lent c.args.tree.now) c.args.r (words c.args.tree.now.records.now c.args.r) (λ v. does (lent c.args.tree.now) v c.args.r
    (stream_steps (words c.args.tree.now.records.now c.args.r))) (not-false _ (ap not c.if-not-cx.false)) (sym c.goes_on.ensures ∙ not-false _ (ap not c.if-not-goes_on.false))
    c.is_numbered.ensures (not-true _ (ap not
    c.if-not-is_numbered.true)) c.refuse.ensures)

pub inner-returns : goal.inner-returns
inner-returns t c =
    resim (λ v z A. stream_inside (lent c.args.tree.now) v c.args.r A)
    (inside_goes (lent c.args.tree.now) c.args.r (words c.args.tree.now.records.now c.args.r) (λ v. does (lent c.args.tree.now) v c.args.r
    (stream_steps (words c.args.tree.now.records.now c.args.r))) (not-false _ (ap not c.if-not-cx.false)) (sym c.goes_on.ensures ∙ not-false _ (ap not c.if-not-goes_on.false))
    c.is_numbered.ensures (not-false _ (ap not
    c.if-not-is_numbered.false))
    c.begin_function-outer.ensures.outer c.begin_function-outer.ensures.context c.body.ensures c.keep_error.ensures c.end_function.ensures)

pub list-returns : goal.list-returns
unfolding does doing exec
list-returns t c =
    record {
      sim = λ z v o₀ A h.
          let w = (c.width-n.ensures ∙ ap (λ (x : ℕ). width (own_tree (forest c.args.tree.now.records.now x))) c.first-items.ensures) in
          let h1 = through_at z w c.first-items.ensures c.all.ensures h in
          given (visits_part (lent c.args.tree.now) v c.args.r Expr 0 (width (own_tree (children c.args.tree.now.records.now
          c.args.r))) (push_op BuildList (width (own_tree (children c.args.tree.now.records.now c.args.r))) ∷ []) [] A) (said c.args.r
          BuildList _ refl (c.capped.ensures ∙ ap cap w) (sent _ c.push_code.ensures.1 c.push_code.ensures.2) h1);
      sizes = pushed_sizes _ _ c.push_code.ensures.2 ∙ c.all.ensures.sizes;
    }

pub member-returns-then-is_unlabelled : goal.member-returns-then-is_unlabelled
member-returns-then-is_unlabelled t c =
    record {
      sim = λ z v o₀ A h.
          let h1 = visited z Expr c.first-table.ensures c.expr.ensures h in
          let t = label_test (word c.args.tree.now.records.now c.args.r 1) h1 c.is_unlabelled.ensures in
          let p = propped z c.args.r (word c.args.tree.now.records.now c.args.r 1 % 8) c.property_of-property.ensures c.prop.ensures h1 in
          let g = got c.args.r (word c.args.tree.now.records.now c.args.r 1 % 8) c.property_of-property.ensures c.push_get.ensures p in
          given (member_bare (lent c.args.tree.now) v c.args.r (t ∙ c.if-is_unlabelled.true) A) (g);
      sizes = pushed_sizes _ _ c.push_get.ensures ∙ c.prop.ensures.sizes ∙ c.expr.ensures.sizes;
    }

pub member-returns : goal.member-returns
member-returns t c =
    record {
      sim = λ z v o₀ A h.
          let h1 = visited z Expr c.first-table.ensures c.expr.ensures h in
          let t = label_test (word c.args.tree.now.records.now c.args.r 1) h1 c.is_unlabelled.ensures in
          let l = label c.get_label-safe_label.ensures h1 in
          let h2 = labelled c.get_label-safe_label.ensures h1 in
          let h3 = (c.push_safe_jump.ensures.jumps.moves _ l).moves v o₀ _ h2 in
          let p = propped z c.args.r (word c.args.tree.now.records.now c.args.r 1 % 8) c.property_of-property.ensures c.prop-2.ensures h3 in
          let g = got c.args.r (word c.args.tree.now.records.now c.args.r 1 % 8) c.property_of-property.ensures c.push_get-2.ensures p in
          let q = g in
          given (member_run (lent c.args.tree.now) v c.args.r (t ∙ c.if-is_unlabelled.false) A) (placed c.args.r _ refl l c.push_label.ensures q);
      sizes = pushed_sizes _ _ c.push_label.ensures ∙ pushed_sizes _ _ c.push_get-2.ensures ∙ c.prop-2.ensures.sizes
          ∙ c.push_safe_jump.ensures.jumps.sizes ∙ taken_sizes c.get_label-safe_label.ensures ∙ c.expr.ensures.sizes;
    }

pub multi-returns-then-n-width : goal.multi-returns-then-n-width
multi-returns-then-n-width t c =
    resim (λ v z A. multi_no (lent c.args.tree.now) v c.args.r (λ e. c.if-n-width.true (ap (λ (n : ℕ). n + n) c.p-n.ensures
    ∙ e ∙ sym (c.width.ensures ∙ ap (λ (x : ℕ). width (own_tree (forest c.args.tree.now.records.now x))) c.first-left.ensures))) A)
    (record {
      sim = λ z v o₀ A h.
          halted (Refused Lengths c.args.r) c.refuse.ensures h;
      sizes = stopped_sizes _ _ c.refuse.ensures;
    })

pub multi-loop-init : goal.multi-loop-init
multi-loop-init t c =
    let e = c.if-n-width.false ∙ (c.width.ensures ∙ ap (λ (x : ℕ). width (own_tree (forest c.args.tree.now.records.now x))) c.first-left.ensures) in
    downing_start (lent c.args.tree.now) c.args.r _ _ (omega arith) (omega (arith, e)) c.first-left.ensures c.saturating_sub.ensures c.nth-at.ensures

pub multi-returns-then-at-r : goal.multi-returns-then-at-r
multi-returns-then-at-r t c =
    let lt = c.loop-test.true in
    record {
      sim = λ z v o₀ A h.
          let h1 = through_at z c.p-n.ensures (c.nth-right.ensures ∙ ap₂ (nth c.args.tree.now.records.now) c.p-n.ensures c.first-left.ensures) c.all.ensures h in
          (downing_never (lent c.args.tree.now) c.args.r _ c.loop.invariant (omega arith) c.if-at-r.true {f = λ w
          B. does (lent c.args.tree.now) v c.args.r (assign_multi_steps (words c.args.tree.now.records.now c.args.r)
          (own_tree (children c.args.tree.now.records.now c.args.r))) A}).sim z v o₀ _ h1;
      sizes = c.loop.invariant.sizes ∙ c.all.ensures.sizes;
    }

pub multi-loop-preserved : goal.multi-loop-preserved
multi-loop-preserved t c =
    let lt = c.loop-test.true in
    downing_again (lent c.args.tree.now) c.args.r _ c.loop.invariant (omega arith) c.earlier-at.ensures (omega arith)
    c.target.ensures

pub multi-returns : goal.multi-returns
multi-returns t c =
    let le = c.loop-test.false in
    record {
      sim = λ z v o₀ A h.
          let h1 = through_at z c.p-n.ensures (c.nth-right.ensures ∙ ap₂ (nth c.args.tree.now.records.now) c.p-n.ensures c.first-left.ensures) c.all.ensures h in
          let h2 = (downing_end (lent c.args.tree.now) c.args.r _ c.loop.invariant (omega arith)).sim z v o₀ _ h1 in
          given (multi_yes (lent c.args.tree.now) v c.args.r c.p-n.ensures (ap (λ (n : ℕ). n + n) (sym c.p-n.ensures) ∙ c.if-n-width.false ∙
          (c.width.ensures ∙ ap (λ (x : ℕ). width (own_tree (forest c.args.tree.now.records.now x))) c.first-left.ensures))
          A) (nulled c.args.r c.push_null.ensures h2);
      sizes = loaded_sizes _ _ _ _ c.push_null.ensures ∙ c.loop.invariant.sizes ∙ c.all.ensures.sizes;
    }

pub prop-returns-in-Bracket : goal.prop-returns-in-Bracket
unfolding does doing exec
prop-returns-in-Bracket t c =
    resim (λ v z A. either_yes (lent c.args.tree.now) v c.args.r _ _ _ A (eq-eqb _ 0 (sym (member_tag c.args.property) ∙ c.in-Bracket.in-Bracket-own.keys1)))
    (record {
      sim = λ z v o₀ A h.
          visited z Expr (next_of c.args.tree.now.records.now c.next-held.ensures c.first-before.ensures) c.expr.ensures h;
      sizes = c.expr.ensures.sizes;
    })

pub prop-returns-in-Dot : goal.prop-returns-in-Dot
unfolding does doing exec
prop-returns-in-Dot t c =
    resim (λ v z A. either_no (lent c.args.tree.now) v c.args.r _ _ _ A (ne_eqb _ 0 (is_held (subst (λ (n : ℕ). (n ≡ 1)
    ⊎ (n ≡ 2)) (member_tag c.args.property) c.in-Dot.in-Dot-own.keys2)).0) ∙ either_yes (lent c.args.tree.now) v c.args.r _ _ _ A (lt-ltb _ 3 (is_held
    (subst (λ (n : ℕ). (n ≡ 1) ⊎ (n ≡ 2)) (member_tag c.args.property) c.in-Dot.in-Dot-own.keys2)).1))
    (record {
      sim = λ z v o₀ A h.
          str_loaded (number_of (ident_at c.args.tree.now.records.now c.args.r 1)) LoadConst (child (own_tree (children c.args.tree.now.records.now c.args.r)) 1).q (property_name
          c.args.tree.now.records.now c.args.r c.first-before.ensures c.next-held.ensures c.name_of-name.ensures) c.push_load_const.ensures h;
      sizes = loaded_sizes _ _ _ _ c.push_load_const.ensures;
    })

pub prop-returns-in_default : goal.prop-returns-in_default
unfolding does doing exec
prop-returns-in_default t c =
    resim (λ v z A. either_no (lent c.args.tree.now) v c.args.r _ _ _ A (ne_eqb _ 0 (is_none (subst (λ (n : ℕ). (n ≡ 3) ⊎
    ((n ≡ 4) ⊎ (n ≡ 5))) (member_tag c.args.property) c.in_default.in_default-own.keys3)).0) ∙ either_no (lent c.args.tree.now) v c.args.r _ _ _ A
    (le-ltb _ 3 (is_none (subst (λ (n : ℕ). (n ≡ 3) ⊎ ((n ≡ 4) ⊎ (n ≡ 5))) (member_tag c.args.property) c.in_default.in_default-own.keys3)).1))
    stay

pub repeat-returns : goal.repeat-returns
unfolding does doing exec
repeat-returns t c =
    record {
      sim = λ z v o₀ A h.
          let l = label c.get_label-continue_label.ensures h in
          let h1 = labelled c.get_label-continue_label.ensures h in
          let m = label c.get_label-break_label.ensures h1 in
          let h2 = labelled c.get_label-break_label.ensures h1 in
          let h3 = given (behind _ c.args.r A) (begun c.args.r _ _ _ l h2 c.begin_loop.ensures) in
          let h4 = placed c.args.r _ refl l c.push_label.ensures h3 in
          let h5 = visited z Expr c.first-body.ensures c.expr.ensures h4 in
          let i1 = said c.args.r Pop 0 refl refl (sent _ c.push_code.ensures.1 c.push_code.ensures.2) h5 in
          let i2 = backed c.args.r _ refl l (sent _ c.push_code-2.ensures.1 c.push_code-2.ensures.2) i1 in
          let i3 = placed c.args.r _ refl m c.push_label-2.ensures i2 in
          let i4 = nulled c.args.r c.push_null.ensures i3 in
          finished c.end_loop.ensures i4;
      sizes = closed_sizes _ c.end_loop.ensures ∙ loaded_sizes _ _ _ _ c.push_null.ensures ∙ pushed_sizes _ _ c.push_label-2.ensures
          ∙ pushed_sizes _ _ c.push_code-2.ensures.2 ∙ pushed_sizes _ _ c.push_code.ensures.2 ∙ c.expr.ensures.sizes
          ∙ pushed_sizes _ _ c.push_label.ensures ∙ opened_sizes _ _ c.begin_loop.ensures ∙ taken_sizes c.get_label-break_label.ensures
          ∙ taken_sizes c.get_label-continue_label.ensures;
    }

pub rest-returns-then-eq : goal.rest-returns-then-eq
unfolding does doing exec own_stream
rest-returns-then-eq t c =
    resim (λ v z A. last_by (lent c.args.tree.now) v c.args.r (numbered _ _ kind.Function c.kind.ensures c.in-Function.is tt) A)
    (resim (λ v z A. either_yes (lent c.args.tree.now) v c.args.r _ _ _ A
    (sym (is_do_kind (word c.args.tree.now.records.now c.args.r 1) _ _ c.function_kind.ensures c.eq.ensures) ∙ c.if-eq.true))
    (record {
      sim = λ z v o₀ A h.
          let h1 = c.inner.ensures.sim z v o₀ A h in
          let h2 = function_loaded c.args.r (word c.args.tree.now.records.now c.args.r 2) c.function_id-function_id.ensures c.push_load_const.ensures h1
          in
          said c.args.r Call 0 refl refl (sent _ c.push_code.ensures.1 c.push_code.ensures.2) h2;
      sizes = pushed_sizes _ _ c.push_code.ensures.2 ∙ loaded_sizes _ _ _ _ c.push_load_const.ensures ∙ c.inner.ensures.sizes;
    }))

pub rest-returns-else-eq : goal.rest-returns-else-eq
unfolding does doing exec own_stream
rest-returns-else-eq t c =
    resim (λ v z A. last_by (lent c.args.tree.now) v c.args.r (numbered _ _ kind.Function c.kind.ensures c.in-Function.is tt) A)
    (resim (λ v z A. either_no (lent c.args.tree.now) v c.args.r _ _ _ A
    (sym (is_do_kind (word c.args.tree.now.records.now c.args.r 1) _ _ c.function_kind.ensures c.eq.ensures) ∙ c.if-eq.false))
    (record {
      sim = λ z v o₀ A h.
          let h1 = c.inner.ensures.sim z v o₀ A h in
          let h2 = function_loaded c.args.r (word c.args.tree.now.records.now c.args.r 2) c.function_id-function_id.ensures c.push_load_const.ensures h1
          in
          h2;
      sizes = loaded_sizes _ _ _ _ c.push_load_const.ensures ∙ c.inner.ensures.sizes;
    }))

pub rest-returns-in-Params : goal.rest-returns-in-Params
rest-returns-in-Params t c =
    resim (λ v z A. last_by (lent c.args.tree.now) v c.args.r (numbered _ _ kind.Params c.kind.ensures c.in-Params.is tt) A)
    c.params.ensures.steps

pub rest-returns-in-Handler : goal.rest-returns-in-Handler
rest-returns-in-Handler t c =
    resim (λ v z A. last_by (lent c.args.tree.now) v c.args.r (numbered _ _ kind.Handler c.kind.ensures c.in-Handler.is tt) A)
    (c.catch.ensures.catches (numbered _ _ kind.Handler c.kind.ensures c.in-Handler.is tt))

pub rest-returns-in-Case : goal.rest-returns-in-Case
unfolding does doing exec
rest-returns-in-Case t c =
    resim (λ v z A. last_by (lent c.args.tree.now) v c.args.r (numbered _ _ kind.Case c.kind.ensures c.in-Case.is tt) A)
    (record {
      sim = λ z v o₀ A h.
          visited z Expr (c.nth-body.ensures ∙ ap₂ (nth c.args.tree.now.records.now) c.p.ensures c.first.ensures) c.expr.ensures h;
      sizes = c.expr.ensures.sizes;
    })

pub rest-returns-in-Item : goal.rest-returns-in-Item
rest-returns-in-Item t c =
    resim (λ v z A. last_by (lent c.args.tree.now) v c.args.r (numbered _ _ kind.Item c.kind.ensures c.in-Item.is tt) A)
    c.import_item.ensures

pub rest-returns-in_default : goal.rest-returns-in_default
rest-returns-in_default t c =
    resim (λ v z A. to_none (lent c.args.tree.now) v c.args.r _ refl (unlike _ _ kind.Function c.kind.ensures c.in_default.not-Function tt)
    (unlike _ _ kind.Params c.kind.ensures c.in_default.not-Params tt) (unlike _ _ kind.Handler c.kind.ensures c.in_default.not-Handler tt)
    (unlike _ _ kind.Case c.kind.ensures c.in_default.not-Case tt) (unlike _ _ kind.Item c.kind.ensures c.in_default.not-Item tt) A) stay

pub ret-returns-then-is_in_do : goal.ret-returns-then-is_in_do
ret-returns-then-is_in_do t c =
    record {
      sim = λ z v o₀ A h.
          given (ret_barred (lent c.args.tree.now) v c.args.r (in_do (words c.args.tree.now.records.now c.args.r) c.is_in_do.ensures h ∙ c.if-is_in_do.true) A)
          (bar_yes (words c.args.tree.now.records.now c.args.r) c.is_in_do.ensures h c.if-is_in_do.true c.cut.ensures);
      sizes = stopped_sizes _ _ c.cut.ensures;
    }

pub ret-call-requires : goal.ret-call-requires
ret-call-requires t c = (
  falls_child (size c.args.tree.now.records.now) c.args.r _ 8 7 t c.decreases (lit< tt) (child1 c.args.tree.now.records.now c.first-argument.ensures)
      (tail_call c.args.tree.now.records.now _ (sym c.is_tail.ensures ∙ c.if-is_tail.true)).0,
  tt,
)

pub ret-returns-then-is_tail : goal.ret-returns-then-is_tail
ret-returns-then-is_tail t c =
    record {
      sim = λ z v o₀ A h.
          let h1 = bar_no (words c.args.tree.now.records.now c.args.r) c.is_in_do.ensures h c.if-is_in_do.false in
          let h2 = (c.push_return_label.ensures.moves _ c.args.r).moves v o₀ _ h1 in
          let h3 = visited z Tail c.first-argument.ensures (resim (λ v z A. tail_visit (lent c.args.tree.now) v _ (tail_call c.args.tree.now.records.now _ (sym
          c.is_tail.ensures ∙ c.if-is_tail.true)).0 (tail_call c.args.tree.now.records.now _ (sym c.is_tail.ensures ∙ c.if-is_tail.true)).1 A) c.call.ensures) h2 in
          given (ret_tail (lent c.args.tree.now) v c.args.r (ap (λ (x : ℕ). is_tail (own_tree (forest c.args.tree.now.records.now x))) (sym
          c.first-argument.ensures) ∙ sym c.is_tail.ensures ∙ c.if-is_tail.true) A) (nulled c.args.r c.push_null.ensures h3);
      sizes = loaded_sizes _ _ _ _ c.push_null.ensures ∙ c.call.ensures.sizes ∙ (c.push_return_label.ensures.moves c.args.tree.now.records.now c.args.r).sizes;
    }

pub ret-returns : goal.ret-returns
ret-returns t c =
    record {
      sim = λ z v o₀ A h.
          let h1 = bar_no (words c.args.tree.now.records.now c.args.r) c.is_in_do.ensures h c.if-is_in_do.false in
          let h2 = (c.push_return_label.ensures.moves _ c.args.r).moves v o₀ _ h1 in
          let h3 = visited z Expr c.first-argument.ensures c.expr.ensures h2 in
          let h4 = said c.args.r Return 0 refl refl (sent _ c.push_code.ensures.1 c.push_code.ensures.2) h3 in
          given (ret_plain (lent c.args.tree.now) v c.args.r (ap (λ (x : ℕ). is_tail (own_tree (forest c.args.tree.now.records.now x))) (sym
          c.first-argument.ensures) ∙ sym c.is_tail.ensures ∙ c.if-is_tail.false) A) (nulled c.args.r c.push_null-2.ensures h4);
      sizes = loaded_sizes _ _ _ _ c.push_null-2.ensures ∙ pushed_sizes _ _ c.push_code.ensures.2 ∙ c.expr.ensures.sizes
          ∙ (c.push_return_label.ensures.moves c.args.tree.now.records.now c.args.r).sizes;
    }

pub short_circuit-returns : goal.short_circuit-returns
unfolding does doing exec
short_circuit-returns t c =
    record {
      sim = λ z v o₀ A h.
          let l = label c.get_label-label.ensures h in
          let h1 = labelled c.get_label-label.ensures h in
          let h2 = visited z Expr c.first-left.ensures c.expr.ensures h1 in
          let h3 = jumped c.args.r (short_jump c.args.operator) _ refl l c.push_short_jump.ensures h2 in
          let h4 = visited z Expr (next_of c.args.tree.now.records.now c.next-right.ensures c.first-left.ensures) c.expr-2.ensures h3 in
          placed c.args.r _ refl l c.push_label.ensures h4;
      sizes = pushed_sizes _ _ c.push_label.ensures ∙ c.expr-2.ensures.sizes ∙ pushed_sizes _ _ c.push_short_jump.ensures ∙ c.expr.ensures.sizes
          ∙ taken_sizes c.get_label-label.ensures;
    }

pub short-returns : goal.short-returns
unfolding does doing exec
short-returns t c =
    record {
      sim = λ z v o₀ A h.
          let l = label c.get_label-label.ensures h in
          let h1 = labelled c.get_label-label.ensures h in
          let h2 = visited z Before c.first-left.ensures c.fetch.ensures h1 in
          let h3 = jumped c.args.r (short_jump c.args.operator) _ refl l c.push_short_jump.ensures h2 in
          let h4 = visited z Expr (next_of c.args.tree.now.records.now c.next-right.ensures c.first-left.ensures) c.expr.ensures h3 in
          let h5 = placed c.args.r _ refl l c.push_label.ensures h4 in
          let h6 = visited z After c.first-left.ensures c.after.ensures.visits h5 in
          nulled c.args.r c.push_null.ensures h6;
      sizes = loaded_sizes _ _ _ _ c.push_null.ensures ∙ c.after.ensures.visits.sizes ∙ pushed_sizes _ _ c.push_label.ensures ∙ c.expr.ensures.sizes
          ∙ pushed_sizes _ _ c.push_short_jump.ensures ∙ c.fetch.ensures.sizes ∙ taken_sizes c.get_label-label.ensures;
    }

pub table-returns : goal.table-returns
unfolding does doing exec
table-returns t c =
    record {
      sim = λ z v o₀ A h.
          let w = (c.width-n.ensures ∙ ap (λ (x : ℕ). width (own_tree (forest c.args.tree.now.records.now x))) c.first-properties.ensures) in
          let h1 = through_at z w c.first-properties.ensures c.all.ensures h in
          given (visits_part (lent c.args.tree.now) v c.args.r Expr 0 (width (own_tree (children c.args.tree.now.records.now
          c.args.r))) (push_op BuildTable (width (own_tree (children c.args.tree.now.records.now c.args.r)) / 2) ∷ []) [] A) (said c.args.r
          BuildTable _ refl (c.capped.ensures ∙ ap (λ (n : ℕ). cap (n / 2)) w) (sent _ c.push_code.ensures.1 c.push_code.ensures.2) h1);
      sizes = pushed_sizes _ _ c.push_code.ensures.2 ∙ c.all.ensures.sizes;
    }

pub target-returns-then-left-eq0 : goal.target-returns-then-left-eq0
target-returns-then-left-eq0 t c =
    resim (λ v z A. absent (lent c.args.tree.now) v Target c.if-left-eq0.true A) stay

pub target-returns-then-ne : goal.target-returns-then-ne
target-returns-then-ne t c =
    resim (λ v z A. target_other (lent c.args.tree.now) v c.args.left c.if-left-eq0.false (other_kind _ _ kind.Left _ c.kind.ensures c.ne.ensures tt c.if-ne.true) A) stay

pub target-returns-then-detail-eq-PLAIN : goal.target-returns-then-detail-eq-PLAIN
unfolding does doing exec
target-returns-then-detail-eq-PLAIN t c =
    resim (λ v z A. target_plain (lent c.args.tree.now) v c.args.left c.if-left-eq0.false (same_kind _ _ kind.Left _ c.kind.ensures c.ne.ensures tt c.if-ne.false) (sym
    c.detail.ensures ∙ c.if-detail-eq-PLAIN.true) A)
    (record {
      sim = λ z v o₀ A h.
          used z c.args.left 0 Set c.first-ident.ensures c.store.ensures h;
      sizes = used_sizes Set _ _ _ c.store.ensures;
    })

pub target-returns : goal.target-returns
unfolding does doing exec
target-returns t c =
    record {
      sim = λ z v o₀ A h.
          let h1 = used z c.args.left 0 Get c.first-ident.ensures c.load.ensures h in
          let h2 = propped z c.args.left (word c.args.tree.now.records.now c.args.left 1 - 1) c.left_property-property.ensures c.prop.ensures h1 in
          let h3 = was_set c.args.left (word c.args.tree.now.records.now c.args.left 1 - 1) c.left_property-property.ensures c.push_set.ensures h2 in
          given (target_member (lent c.args.tree.now) v c.args.left c.if-left-eq0.false (same_kind _ _ kind.Left _ c.kind.ensures c.ne.ensures tt c.if-ne.false) (λ e.
          c.if-detail-eq-PLAIN.false (c.detail.ensures ∙ e)) A) (used z c.args.left 0 Set c.first-ident.ensures c.store-2.ensures h3);
      sizes = used_sizes Set _ _ _ c.store-2.ensures ∙ pushed_sizes _ _ c.push_set.ensures ∙ c.prop.ensures.sizes
          ∙ used_sizes Get _ _ _ c.load.ensures;
    }

pub unpack-loop-i-init : goal.unpack-loop-i-init
unpack-loop-i-init t c =
    unpacking_start (lent c.args.tree.now) c.args.r _ _ c.first-left.ensures (child1 c.args.tree.now.records.now c.first-left.ensures)

pub unpack-target-requires : goal.unpack-target-requires
unpack-target-requires t c =
    (falls_to (size c.args.tree.now.records.now) c.args.r _ 8 7 t c.decreases (lit< tt) c.loop-i.invariant.link, tt)

pub unpack-loop-i-preserved : goal.unpack-loop-i-preserved
unpack-loop-i-preserved t c =
    unpacking_again (lent c.args.tree.now) c.args.r _ c.loop-i.invariant c.loop-i-test.true c.next-at.ensures
    (record {
      sim = λ z v o₀ A h.
          let h1 = int_loaded c.args.r _ refl c.push_load_const.ensures h in
          let h2 = said c.args.r GetItem 0 refl refl (sent _ c.push_code.ensures.1 c.push_code.ensures.2) h1 in
          visited z Target refl c.target.ensures h2;
      sizes = c.target.ensures.sizes ∙ pushed_sizes _ _ c.push_code.ensures.2 ∙ loaded_sizes _ _ _ _ c.push_load_const.ensures;
    })

pub unpack-returns : goal.unpack-returns
unpack-returns t c =
    let u = unpacking_end (lent c.args.tree.now) c.args.r _ c.loop-i.invariant c.loop-i-test.false in
    record {
      sim = λ z v o₀ A h.
          let h1 = visited z Expr (c.nth-right.ensures ∙ ap₂ (nth c.args.tree.now.records.now) c.p-n.ensures c.first-left.ensures) c.expr.ensures h in
          let h2 = (c.copies.ensures.moves _ c.args.r).moves v o₀ _ h1 in
          let h3 = u.sim z v o₀ _ h2 in
          given (unpack_run (lent c.args.tree.now) v c.args.r c.p-n.ensures A) (nulled c.args.r c.push_null.ensures h3);
      sizes = loaded_sizes _ _ _ _ c.push_null.ensures ∙ u.sizes ∙ (c.copies.ensures.moves c.args.tree.now.records.now c.args.r).sizes ∙ c.expr.ensures.sizes;
    }

pub update-returns-then-is_short_assign : goal.update-returns-then-is_short_assign
update-returns-then-is_short_assign t c =
    resim (λ v z A. short_run (lent c.args.tree.now) v c.args.r c.binary_operator-operator.ensures (sym (short_assign_lem (word
    c.args.tree.now.records.now c.args.r 1) c.binary_operator-operator.ensures (own_tree (children c.args.tree.now.records.now c.args.r))) ∙ ap (λ (x :
    ℕ). short_assign c.binary_operator-operator.result (own_tree (forest c.args.tree.now.records.now x))) (sym c.first-left.ensures) ∙ sym c.is_short_assign.ensures ∙
    c.if-is_short_assign.true) A) c.short.ensures

pub update-returns : goal.update-returns
update-returns t c =
    record {
      sim = λ z v o₀ A h.
          let h1 = visited z Before c.first-left.ensures c.fetch.ensures h in
          let h2 = visited z Expr (next_of c.args.tree.now.records.now c.next-right.ensures c.first-left.ensures) c.expr.ensures h1 in
          let h3 = operated (word c.args.tree.now.records.now c.args.r 1) c.binary_operator-operator.ensures c.args.r c.push_binary.ensures h2 in
          let h4 = visited z After c.first-left.ensures c.after.ensures.visits h3 in
          given (update_run (lent c.args.tree.now) v c.args.r (sym (short_assign_lem (word c.args.tree.now.records.now c.args.r 1)
          c.binary_operator-operator.ensures (own_tree (children c.args.tree.now.records.now c.args.r))) ∙ ap (λ (x : ℕ). short_assign c.binary_operator-operator.result
          (own_tree (forest c.args.tree.now.records.now x))) (sym c.first-left.ensures) ∙ sym c.is_short_assign.ensures ∙ c.if-is_short_assign.false) A) (nulled c.args.r
          c.push_null.ensures h4);
      sizes = loaded_sizes _ _ _ _ c.push_null.ensures ∙ c.after.ensures.visits.sizes ∙ operated_sizes _ _ _ c.push_binary.ensures ∙ c.expr.ensures.sizes
          ∙ c.fetch.ensures.sizes;
    }

pub whilst-returns : goal.whilst-returns
unfolding does doing exec
whilst-returns t c =
    record {
      sim = λ z v o₀ A h.
          let l = label c.get_label-continue_label.ensures h in
          let h1 = labelled c.get_label-continue_label.ensures h in
          let m = label c.get_label-break_label.ensures h1 in
          let h2 = labelled c.get_label-break_label.ensures h1 in
          let h3 = given (behind _ c.args.r A) (begun c.args.r _ _ _ l h2 c.begin_loop.ensures) in
          let h4 = placed c.args.r _ refl l c.push_label.ensures h3 in
          let h5 = visited z Expr c.first-test.ensures c.expr.ensures h4 in
          let h6 = jumped c.args.r PopJumpIfFalse _ refl m (sent _ c.push_code.ensures.1 c.push_code.ensures.2) h5 in
          let h7 = visited z Expr (next_of c.args.tree.now.records.now c.next-body.ensures c.first-test.ensures) c.expr-2.ensures h6 in
          let i1 = said c.args.r Pop 0 refl refl (sent _ c.push_code-2.ensures.1 c.push_code-2.ensures.2) h7 in
          let i2 = backed c.args.r _ refl l (sent _ c.push_code-3.ensures.1 c.push_code-3.ensures.2) i1 in
          let i3 = placed c.args.r _ refl m c.push_label-2.ensures i2 in
          let i4 = nulled c.args.r c.push_null.ensures i3 in
          finished c.end_loop.ensures i4;
      sizes = closed_sizes _ c.end_loop.ensures ∙ loaded_sizes _ _ _ _ c.push_null.ensures ∙ pushed_sizes _ _ c.push_label-2.ensures
          ∙ pushed_sizes _ _ c.push_code-3.ensures.2 ∙ pushed_sizes _ _ c.push_code-2.ensures.2 ∙ c.expr-2.ensures.sizes
          ∙ pushed_sizes _ _ c.push_code.ensures.2 ∙ c.expr.ensures.sizes ∙ pushed_sizes _ _ c.push_label.ensures ∙ opened_sizes _ _ c.begin_loop.ensures
          ∙ taken_sizes c.get_label-break_label.ensures ∙ taken_sizes c.get_label-continue_label.ensures;
    }
