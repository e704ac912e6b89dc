-- What a visit does is a list of steps. The run, the counts and the checks all read the same lists. Definitions only.
use Rattle.std.specs.Prelude.{List, [], ◌∷◌, ℕ, zero, suc}
use Rattle.tables.specs.Forest.{Nodes, bare, node}
use Rattle.tables.specs.declared.refusal.RunRule.{RunRule}
use Rattle.pool.specs.Value.{Value, Null}
use Rattle.rules.specs.Marker.{Forward, Way, ConstOp, LoadConst, Code}

-- how a child is visited: as an expression (or as its own kind where it is none); as what a Call calls; as what a Return returns; a Left as the target of
-- an assignment, and the two halves of an AssignOp
pub data Role : Type 0 where
  Expr Callee Tail Target Before After : Role

-- whether an error of the child is kept here, as a block does, or passed on
pub data Keep : Type 0 where
  pass keep : Keep

-- an Ident is loaded or stored
pub data Use : Type 0 where
  Get Set : Use

-- a record below the one visited, by child numbers; [] is the record itself
abbrev pub ChildPath : Type 0
ChildPath = List ℕ

-- Labels taken by one visit are named 0, 1, .. in the order of taking.
pub data Step : Type 0 where
  -- self.push_code(OpCode::..)
  push_op : Code → ℕ → Step
  -- self.push_load_const(..), and add_const with Import or ImportFrom: the constant is brought by the record at the path
  push_const : ConstOp → ChildPath → Value → Step
  -- let label = self.get_label()
  get_label : Step
  -- self.push_code(label)
  place : ℕ → Step
  -- self.push_code(OpCode::Jump(label)) and the others that name a label further on
  jump : Forward → ℕ → Step
  -- self.push_code(OpCode::JumpBackEdge(label))
  jump_back : ℕ → Step
  -- self.visit_expr(child)?, and the other visits of a child
  visit : Keep → Role → ℕ → Step
  -- self.continue_stack().push(..); self.break_stack().push(..)
  begin_loop : ℕ → ℕ → Step
  -- self.continue_stack().pop(); self.break_stack().pop()
  end_loop : Step
  -- ExprKind::Break, ExprKind::Continue
  exit : Way → Step
  -- if self.function_semantic().kind == FunctionKind::Do { return Err(..) }
  check_return : Step
  -- self.load(ident), self.store(ident)
  access : Use → ChildPath → Step
  -- a panic, which is refused
  refuse : RunRule → Step
  -- self.gen_function_code(function)
  inner : Step

-- a child visited as an expression
abbrev pub expr : ℕ → Step
expr j = visit pass Expr j

-- push_load_const of a value that this record brings
abbrev pub load : Value → Step
load v = push_const LoadConst [] v

abbrev pub null : Step
null = load Null

-- A part of variable length takes the steps that follow it.
-- n children from the j-th on, each visited in a role
abbrev pub visits : Role → ℕ → ℕ → List Step → List Step
visits a j zero is = is
visits a j (suc n) is = visit pass a j ∷ visits a (suc j) n is

-- the first n children, the last first
abbrev pub visits_down : Role → ℕ → List Step → List Step
visits_down a zero is = is
visits_down a (suc n) is = visit pass a n ∷ visits_down a n is

-- the first n children stored, the last first
abbrev pub stores_down : ℕ → List Step → List Step
stores_down zero is = is
stores_down (suc n) is = access Set (n ∷ []) ∷ stores_down n is

abbrev pub get_labels : ℕ → List Step → List Step
get_labels zero is = is
get_labels (suc n) is = get_label ∷ get_labels n is

-- the same instruction n times
abbrev pub push_ops : ℕ → Code → ℕ → List Step → List Step
push_ops zero c x is = is
push_ops (suc n) c x is = push_op c x ∷ push_ops n c x is

-- how many siblings
abbrev pub width : Nodes → ℕ
width bare = 0
width (node w k s) = suc (width s)
