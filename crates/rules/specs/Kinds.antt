-- Which steps a record of each kind has. Definitions only.
use Rattle.std.specs.Prelude.{cond, List, [], ◌∷◌, ℕ, eqb}
use Rattle.tables.specs.Record.{Words, is_kind}
use Rattle.tables.specs.Forest.{Nodes}
use Rattle.rules.specs.declared.StackCode.{StackCode}
use Rattle.rules.specs.Marker.{Call, ReturnCall}
use Rattle.rules.specs.Step.{Role, Expr, Callee, Tail, Target, Before, After, Step}
use Rattle.rules.specs.Arms.{
  lit_steps,
  ident_steps,
  paren_steps,
  block_steps,
  fn_steps,
  function_steps,
  params_steps,
  effect_steps,
  table_steps,
  list_steps,
  unary_steps,
  binary_steps,
  type_check_steps,
  member_steps,
  is_method,
  method_steps,
  call_steps,
  handler_steps,
  if_steps,
  loop_steps,
  while_steps,
  for_steps,
  break_steps,
  continue_steps,
  return_steps,
  import_steps,
  item_steps,
  glo_assign_steps,
  assign_steps,
  assign_op_steps,
  assign_unpack_steps,
  assign_multi_steps,
  target_steps,
  before_steps,
  after_steps,
}
use Rattle.rules.specs.Patterns.{match_steps, case_steps}

-- a kind's number and its steps
pub record Kind : Type 0 where
  pub number : ℕ
  pub list : Words → Nodes → List Step

abbrev pub kind : ℕ → (Words → Nodes → List Step) → Kind
kind n f = record { number = n; list = f }

abbrev pub kinds : StackCode → List Kind
kinds sc =
    kind 1 lit_steps ∷ kind 2 ident_steps ∷ kind 3 paren_steps ∷ kind 4 block_steps ∷ kind 5 fn_steps ∷ kind 6 effect_steps ∷ kind 7 table_steps ∷ kind 8 list_steps
    ∷ kind 9 unary_steps ∷ kind 10 binary_steps ∷ kind 11 type_check_steps ∷ kind 12 (member_steps sc) ∷ kind 13 (call_steps Call) ∷ kind 14 if_steps
    ∷ kind 15 match_steps ∷ kind 16 loop_steps ∷ kind 17 while_steps ∷ kind 18 for_steps ∷ kind 19 break_steps ∷ kind 20 continue_steps ∷ kind 21 (return_steps sc)
    ∷ kind 22 import_steps ∷ kind 23 glo_assign_steps ∷ kind 24 assign_steps ∷ kind 25 assign_op_steps ∷ kind 26 assign_unpack_steps ∷ kind 27 assign_multi_steps
    ∷ kind 30 function_steps ∷ kind 31 params_steps ∷ kind 32 handler_steps ∷ kind 33 case_steps ∷ kind 39 item_steps ∷ []

abbrev pub steps_of : ℕ → List Kind → Words → Nodes → List Step
steps_of n [] w k = []
steps_of n (x ∷ xs) w k = cond (eqb n x.number) (x.list w k) (steps_of n xs w k)

abbrev pub expr_steps : StackCode → Words → Nodes → List Step
expr_steps sc w k = steps_of w.kind (kinds sc) w k

-- a Call is returned, and a Left is assigned to
unfoldable pub steps : StackCode → Role → Words → Nodes → List Step
steps sc Expr w k = expr_steps sc w k
steps sc Callee w k = cond (is_method w) (method_steps sc w k) (expr_steps sc w k)
steps sc Tail w k = cond (is_kind 13 w) (call_steps ReturnCall w k) []
steps sc Target w k = cond (is_kind 34 w) (target_steps w k) []
steps sc Before w k = cond (is_kind 34 w) (before_steps w k) []
steps sc After w k = cond (is_kind 34 w) (after_steps w k) []
