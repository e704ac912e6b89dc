-- The steps of each kind of record but Match, to be held beside `visit_expr` arm by arm. Definitions only.
use Rattle.std.specs.Prelude.{Bool, false, cond, ◌&&◌, ◌||◌, List, [], ◌∷◌, ℕ, zero, suc, ◌+◌, ◌-◌, ◌/◌, ◌%◌, get_or, ltb, eqb}
use Rattle.tables.specs.Record.{Words, is_do, is_kind}
use Rattle.tables.specs.Forest.{Nodes, bare, node}
use Rattle.tables.specs.declared.refusal.RunRule.TheVariants.{Operator, Lengths, Path}
use Rattle.pool.specs.Value.{lit, int, str, function, yield, effect_value, child, below}
use Rattle.rules.specs.declared.StackCode.{StackCode}
use Rattle.rules.specs.declared.StackCode.TheVariants.{Code1, Code2}
use Rattle.rules.specs.Marker.{
  Forward,
  Jump,
  PopJumpIfFalse,
  JumpIfTrueOrPop,
  JumpIfFalseOrPop,
  JumpPopIfNull,
  RegisterHandler,
  Break,
  Continue,
  LoadConst,
  Import,
  ImportFrom,
  Code,
  Pop,
  Copy,
  Swap,
  BuildTable,
  BuildList,
  GetAttr,
  GetItem,
  GetMeta,
  SetAttr,
  SetItem,
  SetMeta,
  Neg,
  Not,
  Add,
  Sub,
  Mul,
  Div,
  Rem,
  Eq,
  Ne,
  Gt,
  Ge,
  Lt,
  Le,
  TypeCheck,
  ImportGlob,
  Iter,
  Call,
  Return,
  LoadLocals,
  CheckEffect,
  MarkAddStackSize,
}
use Rattle.rules.specs.Step.{
  Expr,
  Callee,
  Tail,
  Target,
  Before,
  After,
  pass,
  keep,
  Get,
  Set,
  Step,
  push_op,
  push_const,
  get_label,
  place,
  jump,
  jump_back,
  visit,
  begin_loop,
  end_loop,
  exit,
  check_return,
  access,
  refuse,
  inner,
  expr,
  load,
  null,
  visits,
  visits_down,
  stores_down,
  push_ops,
  width,
}

-- ExprKind::Lit, Ident, Paren
abbrev pub lit_steps : Words → Nodes → List Step
lit_steps w k = load (lit w.detail w.p w.q) ∷ []

abbrev pub ident_steps : Words → Nodes → List Step
ident_steps w k = access Get [] ∷ []

abbrev pub paren_steps : Words → Nodes → List Step
paren_steps w k = expr 0 ∷ []

-- visit_block: "An error ends its expression and is kept by the nearest enclosing block"; a Pop between two expressions
abbrev pub block_from : ℕ → Nodes → List Step
block_from j bare = visit keep Expr j ∷ []
block_from j (node w k s) = visit keep Expr j ∷ push_op Pop 0 ∷ block_from (suc j) s

abbrev pub block_steps : Words → Nodes → List Step
block_steps w bare = null ∷ []
block_steps w (node w' k s) = block_from 0 s

-- ExprKind::Fn, visit_function, and gen_function_code's own stream
abbrev pub fn_steps : Words → Nodes → List Step
fn_steps w k = cond (eqb w.detail 1) (expr 1 ∷ access Set (0 ∷ []) ∷ null ∷ []) (expr 0 ∷ [])

abbrev pub function_steps : Words → Nodes → List Step
function_steps w k = cond (is_do w) (inner ∷ load (function w.p) ∷ push_op Call 0 ∷ []) (inner ∷ load (function w.p) ∷ [])

abbrev pub stream_steps : Words → List Step
stream_steps w = cond (is_do w) (expr 0 ∷ expr 1 ∷ push_op Pop 0 ∷ push_op LoadLocals 0 ∷ push_op Return 0 ∷ []) (expr 0 ∷ expr 1 ∷ push_op Return 0 ∷ [])

-- visit_params: the variadic, which stands last, is stored first, then the others from the last to the first
abbrev pub params_steps : Words → Nodes → List Step
params_steps w k = stores_down (width k) []

-- ExprKind::Effect
abbrev pub effect_steps : Words → Nodes → List Step
effect_steps w k = load (effect_value w k) ∷ access Set (0 ∷ []) ∷ null ∷ []

-- ExprKind::Table, List
abbrev pub table_steps : Words → Nodes → List Step
table_steps w k = visits Expr 0 (width k) (push_op BuildTable (width k / 2) ∷ [])

abbrev pub list_steps : Words → Nodes → List Step
list_steps w k = visits Expr 0 (width k) (push_op BuildList (width k) ∷ [])

-- ExprKind::Unary: "9 Unary (0 Not, 1 Neg)"
abbrev pub unary_code : ℕ → Code
unary_code d = get_or (Not ∷ Neg ∷ []) d Not

abbrev pub unary_steps : Words → Nodes → List Step
unary_steps w k = expr 0 ∷ push_op (unary_code w.detail) 0 ∷ []

-- ExprKind::Binary: "Operators 0 to 13 are Add Sub Mul Div Rem And Or Eq Ne Lt Le Gt Ge Is"
abbrev pub binary_code : ℕ → Code
binary_code d = get_or (Add ∷ Sub ∷ Mul ∷ Div ∷ Rem ∷ Add ∷ Add ∷ Eq ∷ Ne ∷ Lt ∷ Le ∷ Gt ∷ Ge ∷ []) d Add

-- And, Or and Is have no opcode: number 13, "sides already visited"
abbrev pub no_opcode : ℕ → Bool
no_opcode d = eqb d 5 || (eqb d 6 || eqb d 13)

abbrev pub short_steps : Forward → List Step
short_steps h = get_label ∷ expr 0 ∷ jump h 0 ∷ expr 1 ∷ place 0 ∷ []

abbrev pub binary_steps : Words → Nodes → List Step
binary_steps w k =
    cond (eqb w.detail 5) (short_steps JumpIfFalseOrPop)
    (cond (eqb w.detail 6) (short_steps JumpIfTrueOrPop)
    (cond (no_opcode w.detail) (expr 0 ∷ expr 1 ∷ refuse Operator ∷ []) (expr 0 ∷ expr 1 ∷ push_op (binary_code w.detail) 0 ∷ [])))

-- ExprKind::TypeCheck
abbrev pub type_check_steps : Words → Nodes → List Step
type_check_steps w k = expr 0 ∷ push_op TypeCheck w.detail ∷ []

-- visit_member_property: Bracket's expr, the name of a Dot's or DoubleColon's Ident, nothing for the Metas; the property is child 1
abbrev pub property : ℕ → Nodes → List Step → List Step
property m k is = cond (eqb m 0) (expr 1 ∷ is) (cond (ltb m 3) (push_const LoadConst (1 ∷ []) (str (child k 1).q) ∷ is) is)

-- get_opcode and set_opcode
abbrev pub get_code : ℕ → Code
get_code m = get_or (GetItem ∷ GetAttr ∷ GetAttr ∷ []) m GetMeta

abbrev pub set_code : ℕ → Code
set_code m = get_or (SetItem ∷ SetAttr ∷ SetAttr ∷ []) m SetMeta

-- ExprKind::Member: "12 Member (member, +8 if safe)"
abbrev pub safe_jump : Words → List Step → List Step
safe_jump w is = cond (ltb w.detail 8) is (jump JumpPopIfNull 0 ∷ is)

-- in code 1 the label is taken safe or not; code 2: "a Member that isn't safe takes no label" (document 02, job 11)
abbrev pub unlabelled : StackCode → ℕ → Bool
unlabelled Code1 d = false
unlabelled Code2 d = ltb d 8

-- behind the table the label is taken, a safe Member jumps to it, and it is placed after some steps, which are told what follows them
abbrev pub member_label : StackCode → Words → (List Step → List Step) → List Step
member_label sc w is = cond (unlabelled sc w.detail) (is []) (get_label ∷ safe_jump w (is (place 0 ∷ [])))

abbrev pub member_steps : StackCode → Words → Nodes → List Step
member_steps sc w k = expr 0 ∷ member_label sc w (λ end. property (w.detail % 8) k (push_op (get_code (w.detail % 8)) 0 ∷ end))

-- a Member as callee: a Dot or DotMeta hands its table on as the first argument
abbrev pub is_method : Words → Bool
is_method w = is_kind 12 w && (eqb (w.detail % 8) 1 || eqb (w.detail % 8) 4)

abbrev pub method_steps : StackCode → Words → Nodes → List Step
method_steps sc w k =
    expr 0 ∷ member_label sc w (λ end. push_op Copy 1 ∷ property (w.detail % 8) k (push_op (get_code (w.detail % 8)) 0 ∷ push_op Swap 2 ∷ end))

-- ExprKind::Call: "callee, arguments, at most one Function, Handlers"; label 0 is the end, 1, 2, .. the Handlers'
abbrev pub arguments : Nodes → ℕ
arguments bare = 0
arguments (node w k s) = cond (is_kind 32 w) 0 (suc (arguments s))

abbrev pub handlers : Nodes → ℕ
handlers s = width s - arguments s

abbrev pub registers : ℕ → ℕ → ℕ → List Step → List Step
registers i j zero is = is
registers i j (suc n) is = get_label ∷ access Get (j ∷ 0 ∷ []) ∷ jump RegisterHandler i ∷ registers (suc i) (suc j) n is

-- a Handler's or a Case's body behind its label, and on to the end
abbrev pub bodies : ℕ → ℕ → ℕ → List Step → List Step
bodies i j zero is = is
bodies i j (suc n) is = place i ∷ expr j ∷ jump Jump 0 ∷ bodies (suc i) (suc j) n is

abbrev pub call_with : Code → ℕ → ℕ → ℕ → List Step
call_with c n a zero = visit pass Callee 0 ∷ visits Expr 1 a (push_op c n ∷ [])
call_with c n a (suc h) =
    visit pass Callee 0
    ∷ visits Expr 1 a (get_label ∷ registers 1 (suc a) (suc h) (push_op Call n ∷ jump Jump 0 ∷ bodies 1 (suc a) (suc h) (place 0 ∷ [])))

-- the argument count: the arguments, the trailing Function, and a method's table
abbrev pub call_steps : Code → Words → Nodes → List Step
call_steps c w bare = call_with c 0 0 0
call_steps c w (node w' k s) = call_with c (cond (is_method w') (suc (arguments s)) (arguments s)) (arguments s) (handlers s)

-- "32 Handler: Ident, Params, Block"
abbrev pub handler_steps : Words → Nodes → List Step
handler_steps w k = load (effect_value w k) ∷ push_op CheckEffect (width (below k 1)) ∷ expr 1 ∷ expr 2 ∷ []

-- ExprKind::If: "[1: expr]"
abbrev pub if_steps : Words → Nodes → List Step
if_steps w k =
    cond (eqb w.detail 1)
    (get_label ∷ get_label ∷ expr 0 ∷ jump PopJumpIfFalse 0 ∷ expr 1 ∷ jump Jump 1 ∷ place 0 ∷ expr 2 ∷ place 1 ∷ [])
    (get_label ∷ get_label ∷ expr 0 ∷ jump PopJumpIfFalse 0 ∷ expr 1 ∷ jump Jump 1 ∷ place 0 ∷ null ∷ place 1 ∷ [])

-- ExprKind::Loop, While, For: label 0 continues, label 1 breaks
abbrev pub loop_steps : Words → Nodes → List Step
loop_steps w k = get_label ∷ get_label ∷ begin_loop 0 1 ∷ place 0 ∷ expr 0 ∷ push_op Pop 0 ∷ jump_back 0 ∷ place 1 ∷ null ∷ end_loop ∷ []

abbrev pub while_steps : Words → Nodes → List Step
while_steps w k =
    get_label ∷ get_label ∷ begin_loop 0 1 ∷ place 0 ∷ expr 0 ∷ jump PopJumpIfFalse 1 ∷ expr 1 ∷ push_op Pop 0 ∷ jump_back 0 ∷ place 1 ∷ null ∷ end_loop ∷ []

-- each of n Idents gets its item: Copy, the index, GetItem, store
abbrev pub items_stored : ℕ → ℕ → List Step → List Step
items_stored i zero is = is
items_stored i (suc n) is = push_op Copy 1 ∷ load (int i) ∷ push_op GetItem 0 ∷ access Set (i ∷ []) ∷ items_stored (suc i) n is

abbrev pub for_targets : ℕ → List Step → List Step
for_targets p is = cond (eqb p 1) (access Set (0 ∷ []) ∷ is) (items_stored 0 p (push_op Pop 0 ∷ is))

-- "18 For: p Idents, right, Block", "a For's right side being inside it"
abbrev pub for_steps : Words → Nodes → List Step
for_steps w k =
    get_label ∷ get_label ∷ get_label ∷ begin_loop 0 1 ∷ expr w.p ∷ push_op Iter 0 ∷ place 0 ∷ null ∷ load yield ∷ jump RegisterHandler 2 ∷ push_op Call 1 ∷ jump Jump 1
    ∷ place 2 ∷ push_op MarkAddStackSize 3 ∷ push_op Pop 0
    ∷ for_targets w.p (expr (suc w.p) ∷ push_op Pop 0 ∷ jump_back 0 ∷ place 1 ∷ push_op Pop 0 ∷ null ∷ end_loop ∷ [])

-- ExprKind::Break, Continue
abbrev pub break_steps : Words → Nodes → List Step
break_steps w k = exit Break ∷ null ∷ []

abbrev pub continue_steps : Words → Nodes → List Step
continue_steps w k = exit Continue ∷ null ∷ []

-- ExprKind::Return: a Call without Handlers returns by ReturnCall, which its visit as Tail ends in
abbrev pub is_tail : Nodes → Bool
is_tail bare = false
is_tail (node w bare s) = is_kind 13 w
is_tail (node w (node w' k' s') s) = is_kind 13 w && eqb (handlers s') 0

-- code 2: "Return emits no Jump and no Label before its argument" (document 02, job 11)
abbrev pub return_label : StackCode → List Step → List Step
return_label Code1 is = get_label ∷ jump Jump 0 ∷ place 0 ∷ is
return_label Code2 is = is

abbrev pub return_steps : StackCode → Words → Nodes → List Step
return_steps sc w k =
    cond (is_tail k) (check_return ∷ return_label sc (visit pass Tail 0 ∷ null ∷ [])) (check_return ∷ return_label sc (expr 0 ∷ push_op Return 0 ∷ null ∷ []))

-- ExprKind::Import: "p path Idents, then 0 Simple, 1 Simple with alias Ident, 2 Items, 3 Glob"; number 15: "Simple import with no path, alias or not"
abbrev pub simple_import : Words → ℕ → List Step
simple_import w zero = refuse Path ∷ []
simple_import w (suc p) = access Set (cond (eqb w.detail 0) p (suc p) ∷ []) ∷ null ∷ []

abbrev pub import_steps : Words → Nodes → List Step
import_steps w k =
    push_const Import [] (str w.q)
    ∷ cond (ltb w.detail 2) (simple_import w w.p)
    (cond (eqb w.detail 2) (visits Expr w.p (width k - w.p) (push_op Pop 0 ∷ null ∷ [])) (push_op ImportGlob 0 ∷ null ∷ []))

-- "39 Item: Ident [1: alias]"
abbrev pub item_steps : Words → Nodes → List Step
item_steps w k = push_const ImportFrom (0 ∷ []) (str (child k 0).q) ∷ access Set (cond (eqb w.detail 1) 1 0 ∷ []) ∷ []

-- ExprKind::GloAssign, Assign: the right side first
abbrev pub glo_assign_steps : Words → Nodes → List Step
glo_assign_steps w k = expr 1 ∷ access Set (0 ∷ []) ∷ null ∷ []

abbrev pub assign_steps : Words → Nodes → List Step
assign_steps w k = expr 1 ∷ visit pass Target 0 ∷ null ∷ []

-- `and=` and `or=` "with an Ident on the left" (document 02, job 1): 0 is a Left's detail for an Ident
abbrev pub is_short_form : ℕ → Nodes → Bool
is_short_form d k = eqb (child k 0).detail 0 && (eqb d 5 || eqb d 6)

-- "load it, emit JumpIfFalseOrPop (for And) or JumpIfTrueOrPop (for Or) to a label taken before the load, visit the right side, place the label, store, and load Null"
abbrev pub short_assign_steps : Forward → List Step
short_assign_steps h = get_label ∷ visit pass Before 0 ∷ jump h 0 ∷ expr 1 ∷ place 0 ∷ visit pass After 0 ∷ null ∷ []

-- ExprKind::AssignOp; "Member lefts and Is are still number 13"
abbrev pub assign_op_steps : Words → Nodes → List Step
assign_op_steps w k =
    cond (is_short_form w.detail k)
    (cond (eqb w.detail 6) (short_assign_steps JumpIfTrueOrPop) (short_assign_steps JumpIfFalseOrPop))
    (cond (no_opcode w.detail) (visit pass Before 0 ∷ expr 1 ∷ refuse Operator ∷ [])
    (visit pass Before 0 ∷ expr 1 ∷ push_op (binary_code w.detail) 0 ∷ visit pass After 0 ∷ null ∷ []))

-- ExprKind::AssignUnpack: "p Lefts, expr"
abbrev pub unpacked : ℕ → ℕ → List Step → List Step
unpacked i zero is = is
unpacked i (suc n) is = load (int i) ∷ push_op GetItem 0 ∷ visit pass Target i ∷ unpacked (suc i) n is

abbrev pub assign_unpack_steps : Words → Nodes → List Step
assign_unpack_steps w k = expr w.p ∷ push_ops (w.p - 1) Copy 1 (unpacked 0 w.p (null ∷ []))

-- ExprKind::AssignMulti: "p Lefts, exprs"; number 14: "lengths differ"
abbrev pub assign_multi_steps : Words → Nodes → List Step
assign_multi_steps w k =
    cond (eqb (w.p + w.p) (width k)) (visits Expr w.p w.p (visits_down Target w.p (null ∷ []))) (refuse Lengths ∷ [])

-- visit_assign_left: "34 Left: 0, or 1 + member: Ident, [property]"
abbrev pub target_steps : Words → Nodes → List Step
target_steps w k =
    cond (eqb w.detail 0) (access Set (0 ∷ []) ∷ [])
    (access Get (0 ∷ []) ∷ property (w.detail - 1) k (push_op (set_code (w.detail - 1)) 0 ∷ access Set (0 ∷ []) ∷ []))

-- AssignOp's Left before the right side and after the operator
abbrev pub before_steps : Words → Nodes → List Step
before_steps w k =
    cond (eqb w.detail 0) (access Get (0 ∷ []) ∷ [])
    (cond (ltb w.detail 4) (access Get (0 ∷ []) ∷ property (w.detail - 1) k (push_op Copy 2 ∷ push_op Copy 2 ∷ push_op (get_code (w.detail - 1)) 0 ∷ []))
    (access Get (0 ∷ []) ∷ push_op Copy 1 ∷ push_op (get_code (w.detail - 1)) 0 ∷ []))

abbrev pub after_steps : Words → Nodes → List Step
after_steps w k =
    cond (eqb w.detail 0) (access Set (0 ∷ []) ∷ [])
    (cond (ltb w.detail 4) (push_op Swap 3 ∷ push_op Swap 2 ∷ push_op (set_code (w.detail - 1)) 0 ∷ access Set (0 ∷ []) ∷ [])
    (push_op Swap 2 ∷ push_op (set_code (w.detail - 1)) 0 ∷ access Set (0 ∷ []) ∷ []))
