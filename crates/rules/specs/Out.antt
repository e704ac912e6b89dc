-- What a run writes, in words: document 01's paragraph "Out, function by function but for errors". Definitions only.
use Rattle.std.specs.Prelude.{cond, List, [], ◌∷◌, ◌++◌, ℕ, zero, suc, max, length, eqb}
use Rattle.tables.specs.Record.{is_loop}
use Rattle.tables.specs.Forest.{Nodes, bare, node, own_tree, children}
use Rattle.tables.specs.declared.refusal.RunRule.{RunRule}
use Rattle.pool.specs.Value.{Value, plain, effect, Const, find, intern, start, kind_word, low_word, high_word}
use Rattle.pool.specs.Names.{Semantic, Names, Upvalue, names}
use Rattle.rules.specs.declared.StackCode.{StackCode}
use Rattle.rules.specs.Marker.{
  Forward,
  Jump,
  PopJumpIfFalse,
  JumpIfTrueOrPop,
  JumpIfFalseOrPop,
  JumpPopIfNull,
  RegisterHandler,
  Way,
  Break,
  Continue,
  ConstOp,
  LoadConst,
  Import,
  ImportFrom,
  Code,
  Pop,
  Copy,
  Swap,
  LoadLocal,
  LoadGlobal,
  LoadUpvalue,
  StoreLocal,
  StoreGlobal,
  BuildTable,
  BuildList,
  GetAttr,
  GetItem,
  GetMeta,
  SetAttr,
  SetItem,
  SetMeta,
  Neg,
  Not,
  Add,
  Sub,
  Mul,
  Div,
  Rem,
  Eq,
  Ne,
  Gt,
  Ge,
  Lt,
  Le,
  TypeCheck,
  GetLen,
  ImportGlob,
  Iter,
  Call,
  Return,
  ReturnCall,
  LoadLocals,
  CheckEffect,
  MarkAddStackSize,
  Op,
  Label,
  To,
  Back,
  Leave,
  Load,
  Do,
  Mark,
  mark,
}
use Rattle.rules.specs.Run.{Error, error, Stream, Side, side, flow, look, run}
use Rattle.rules.specs.declared.Flow.{Flow}
use Rattle.rules.specs.declared.Flow.TheVariants.{Go, Cut, Refused}

-- "Opcodes are numbered 0 to 51 in the order of `OpCode`, with a name each; 52 is Label."
abbrev pub forward_number : Forward → ℕ
forward_number Jump = 40
forward_number JumpPopIfNull = 44
forward_number PopJumpIfFalse = 46
forward_number JumpIfTrueOrPop = 47
forward_number JumpIfFalseOrPop = 48
forward_number RegisterHandler = 49

abbrev pub way_number : Way → ℕ
way_number Break = 42
way_number Continue = 43

abbrev pub const_number : ConstOp → ℕ
const_number LoadConst = 6
const_number Import = 32
const_number ImportFrom = 33

abbrev pub code_number : Code → ℕ
code_number Pop = 0
code_number Copy = 1
code_number Swap = 2
code_number LoadLocal = 3
code_number LoadGlobal = 4
code_number LoadUpvalue = 5
code_number StoreLocal = 7
code_number StoreGlobal = 8
code_number BuildTable = 9
code_number BuildList = 10
code_number GetAttr = 11
code_number GetItem = 12
code_number GetMeta = 13
code_number SetAttr = 14
code_number SetItem = 15
code_number SetMeta = 16
code_number Neg = 17
code_number Not = 18
code_number Add = 19
code_number Sub = 20
code_number Mul = 21
code_number Div = 22
code_number Rem = 23
code_number Eq = 24
code_number Ne = 25
code_number Gt = 26
code_number Ge = 27
code_number Lt = 28
code_number Le = 29
code_number TypeCheck = 30
code_number GetLen = 31
code_number ImportGlob = 34
code_number Iter = 35
code_number Call = 36
code_number Return = 37
code_number ReturnCall = 38
code_number LoadLocals = 39
code_number CheckEffect = 50
code_number MarkAddStackSize = 51

-- "7 Effect, the Effect or Handler record first bringing it": the record counts for an effect alone
abbrev pub source_of : ℕ → Value → ℕ
source_of r (plain k p q) = 0
source_of r (effect n ps v) = r

abbrev pub brought : ℕ → Value → Const
brought r v = record { value = v; source = source_of r v }

-- the constants that some markers, newest first, name, in order of first use
unfoldable pub consts : List Mark → List Const
consts [] = start
consts (mark r (Label l) ∷ ms) = consts ms
consts (mark r (To h l) ∷ ms) = consts ms
consts (mark r (Back l) ∷ ms) = consts ms
consts (mark r (Leave x l) ∷ ms) = consts ms
consts (mark r (Load c v) ∷ ms) = intern (consts ms) (brought r v)
consts (mark r (Do c n) ∷ ms) = consts ms

-- "markers (code, operand or 0)"
abbrev pub code_word : Op → ℕ
code_word (Label l) = 52
code_word (To h l) = forward_number h
code_word (Back l) = 41
code_word (Leave x l) = way_number x
code_word (Load c v) = const_number c
code_word (Do c n) = code_number c

abbrev pub operand_word : List Const → Op → ℕ
operand_word cs (Label l) = l
operand_word cs (To h l) = l
operand_word cs (Back l) = l
operand_word cs (Leave x l) = l
operand_word cs (Load c v) = find cs v
operand_word cs (Do c n) = n

-- markers newest first, laid before some words in their order
unfoldable pub marker_words : List Const → List Mark → List ℕ → List ℕ
marker_words cs [] ws = ws
marker_words cs (mark r x ∷ ms) ws = marker_words cs ms (code_word x ∷ operand_word cs x ∷ ws)

-- "constants (kind, two words ..)"
unfoldable pub const_words : List Const → List ℕ
const_words [] = []
const_words (c ∷ cs) = kind_word c.value ∷ low_word c ∷ high_word c.value ∷ const_words cs

-- "names (symbol, capture 0 none, 1 Local, 2 Upvalue, its index or 0), locals, globals, upvalues"
unfoldable pub plain_names : List ℕ → List ℕ
plain_names [] = []
plain_names (s ∷ ss) = s ∷ 0 ∷ 0 ∷ plain_names ss

unfoldable pub upvalue_words : List Upvalue → List ℕ
upvalue_words [] = []
upvalue_words (u ∷ us) = u.symbol ∷ u.capture ∷ u.index ∷ upvalue_words us

abbrev pub name_words : Names → List ℕ
name_words n = plain_names n.locals ++ (plain_names n.globals ++ upvalue_words n.upvalues)

-- "errors (kind 0 Break, 1 Continue, 2 Return; start, end) in the order they arose"
unfoldable pub error_words : List Error → List ℕ → List ℕ
error_words [] ws = ws
error_words (error k a b ∷ es) ws = error_words es (k ∷ a ∷ b ∷ ws)

-- "the most Loop, While and For records on one path of the function's own tree, a For's right side counted inside"
unfoldable pub loop_depth : Nodes → ℕ
loop_depth bare = 0
loop_depth (node w k s) = max (cond (is_loop w) (suc (loop_depth k)) (loop_depth k)) (loop_depth s)

-- "a line counting its markers, labels, constants, locals, globals, upvalues and loop depth"
abbrev pub line_words : Semantic → List ℕ → Stream → List ℕ
line_words t recs x =
    length x.marks ∷ x.labels ∷ length (consts x.marks) ∷ length (names t x.number).locals ∷ length (names t x.number).globals
    ∷ length (names t x.number).upvalues ∷ loop_depth (own_tree (children recs x.at)) ∷ []

-- the stream of function n
abbrev pub no_stream : Stream
no_stream = record { number = 0; at = 0; labels = 0; marks = []; opened = [] }

unfoldable pub stream_numbered : List Stream → ℕ → Stream
stream_numbered [] n = no_stream
stream_numbered (x ∷ xs) n = cond (eqb x.number n) x (stream_numbered xs n)

-- "for each function met, always the lowest numbers": some words of each of the first n functions, in order
unfoldable pub each_function : (Stream → List ℕ) → List Stream → ℕ → List ℕ
each_function f xs zero = []
each_function f xs (suc n) = each_function f xs n ++ f (stream_numbered xs n)

-- the five outputs
pub record Out : Type 0 where
  pub markers : List ℕ
  pub constants : List ℕ
  pub names_out : List ℕ
  pub errors : List ℕ
  pub lines : List ℕ

abbrev pub out : Semantic → List ℕ → Side → Out
out t recs e =
    record {
      markers = each_function (λ x. marker_words (consts x.marks) x.marks []) e.streams e.met;
      constants = each_function (λ x. const_words (consts x.marks)) e.streams e.met;
      names_out = each_function (λ x. name_words (names t x.number)) e.streams e.met;
      errors = error_words e.errors [];
      lines = each_function (λ x. line_words t recs x) e.streams e.met;
    }

-- the run's end: a listing, or the first of 10 to 16 with its record
pub data Outcome : Type 0 where
  listed : Out → Outcome
  refused : RunRule → ℕ → Outcome

abbrev pub ended : Semantic → List ℕ → Flow → Side → Outcome
ended t recs Go e = listed (out t recs e)
ended t recs (Cut k a b) e = listed (out t recs e)
ended t recs (Refused x r) e = refused x r

unfoldable pub outcome : StackCode → Semantic → List ℕ → Outcome
outcome sc t recs = ended t recs (flow (run sc (look t) recs)) (side (run sc (look t) recs))
