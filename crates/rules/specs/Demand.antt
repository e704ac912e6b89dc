-- Demand 3 of document 01, on the words written for a function: "the labels run from 0 with no gap, as many as 01 counts from the tree alone and as its line
-- says, each placed exactly once in its stream; every target is one of them .." and what follows. Definitions only.
use Rattle.std.specs.Prelude.{◌≡◌, ◌⊎◌, Option, Some, None, false, ℕ, suc, ◌+◌, ◌*◌, ◌≤◌, ◌<◌, length, get_or, T, eqb}
use mathlib.Core.List.{List, [], ◌∷◌, reverse_aux}
use Rattle.opcode.specs.Kinds.{is_target, operand_kind}
use Rattle.opcode.specs.declared.opcode.OperandKind.{OperandKind}
use Rattle.opcode.specs.declared.opcode.OperandKind.TheVariants as kind
use Rattle.tables.specs.Forest.{children, own_tree}
use Rattle.pool.specs.Value.{Value, plain, effect, Const, same}
use Rattle.pool.specs.Names.{Semantic, Names, Upvalue, names, parent}
use Rattle.rules.specs.declared.StackCode.{StackCode}
use Rattle.rules.specs.Marker.{Mark, mark, Label}
use Rattle.rules.specs.Run.{Loop, loop, Stream, Side}
use Rattle.rules.specs.Out.{consts, marker_words, stream_numbered}
use Rattle.rules.specs.Around.{Around}
use Rattle.rules.specs.Counts.{labels_counted}

-- marker i of some words
abbrev pub code : List ℕ → ℕ → ℕ
code ws i = get_or ws (i * 2) 0

abbrev pub operand : List ℕ → ℕ → ℕ
operand ws i = get_or ws (i * 2 + 1) 0

-- marker j of n is Label l
pub record Places (ws : List ℕ) (n l j : ℕ) : Type 0 where
  pub inside : j < n
  pub is_label : code ws j ≡ 52
  pub number : operand ws j ≡ l

-- "stands later than the instruction naming it, except that JumpBackEdge goes back and Continue may": the label at j, named at i by a code
pub record Stands (c i j : ℕ) : Type 0 where
  pub back : c ≡ 41 → j < i
  pub later : (c ≡ 41 → ⊥) → (c ≡ 43 → ⊥) → i < j

-- "the labels run from 0 with no gap .. each placed exactly once"; "every target is one of them"
pub record Labels (ws : List ℕ) (n labels : ℕ) : Type 0 where
  pub placed : (l : ℕ) → l < labels → (j : ℕ) × Places ws n l j
  pub once : (l i j : ℕ) → Places ws n l i → Places ws n l j → i ≡ j
  pub only : (l j : ℕ) → Places ws n l j → l < labels
  pub targets : (i : ℕ) → i < n → T (is_target (code ws i)) → (j : ℕ) × Places ws n (operand ws i) j × Stands (code ws i) i j

-- a loop that was opened, with its continue and break labels
pub data Opened (o c b : ℕ) : List Loop → Type 0 where
  first : {ls : List Loop} → Opened o c b (loop o c b ∷ ls)
  next : {x : Loop} {ls : List Loop} → Opened o c b ls → Opened o c b (x ∷ ls)

abbrev pub continue_of : Loop → ℕ
continue_of (loop o c b) = c

abbrev pub break_of : Loop → ℕ
break_of (loop o c b) = b

abbrev pub no_loop : Loop
no_loop = loop 0 0 0

-- the record that wrote marker i, of markers newest first
abbrev pub record_of : Mark → ℕ
record_of (mark r x) = r

abbrev pub writer : List Mark → ℕ → ℕ
writer ms i = record_of (get_or (reverse_aux ms []) i (mark 0 (Label 0)))

-- "each Break names the break label, each Continue the continue label, of the innermost loop around it in its own function"; "no two loops of a function
-- share either label"
pub record Loops (recs : List ℕ) (x : Stream) (ws : List ℕ) (n : ℕ) : Type 0 where
  pub breaks : (i : ℕ) → i < n → code ws i ≡ 42 → (o c : ℕ) × Around (writer x.marks i) (suc o) 0 (children recs x.at) × Opened o c (operand ws i) x.opened
  pub continues : (i : ℕ) → i < n → code ws i ≡ 43 → (o b : ℕ) × Around (writer x.marks i) (suc o) 0 (children recs x.at) × Opened o (operand ws i) b x.opened
  pub continues_differ : (i j : ℕ) → i < j → j < length x.opened → continue_of (get_or x.opened i no_loop) ≡ continue_of (get_or x.opened j no_loop) → ⊥
  pub breaks_differ : (i j : ℕ) → i < j → j < length x.opened → break_of (get_or x.opened i no_loop) ≡ break_of (get_or x.opened j no_loop) → ⊥

abbrev pub no_const : Const
no_const = record { value = plain 0 0 0; source = 0 }

-- "constants differ pairwise, each but Null 0 is named by an instruction"
pub record Constants (cs : List Const) (ws : List ℕ) (n : ℕ) : Type 0 where
  pub differ : (i j : ℕ) → i < j → j < length cs → same (get_or cs i no_const).value (get_or cs j no_const).value ≡ false
  pub named : (i : ℕ) → 1 ≤ i → i < length cs → (j : ℕ) × (j < n) × (operand_kind (code ws j) ≡ Some kind.Const) × (operand ws j ≡ i)

-- "An index is its operand for a constant, local, global or upvalue"
abbrev pub Within : List Const → Names → OperandKind → ℕ → Type 0
Within cs ns kind.None x = Unit {0}
Within cs ns kind.Count x = Unit {0}
Within cs ns kind.Type x = Unit {0}
Within cs ns kind.Label x = Unit {0}
Within cs ns kind.Const x = x < length cs
Within cs ns kind.Local x = x < length ns.locals
Within cs ns kind.Global x = x < length ns.globals
Within cs ns kind.Upvalue x = x < length ns.upvalues

abbrev pub WithinFound : List Const → Names → Option OperandKind → ℕ → Type 0
WithinFound cs ns (Some k) x = Within cs ns k x
WithinFound cs ns None x = ⊥

-- "a capture's (table: the parent's locals or upvalues)", 1 or 2
abbrev pub Captured : Names → Upvalue → Type 0
Captured up u = ((u.capture ≡ 1) × (u.index < length up.locals)) ⊎ ((u.capture ≡ 2) × (u.index < length up.upvalues))

abbrev pub no_upvalue : Upvalue
no_upvalue = record { symbol = 0; capture = 0; index = 0 }

-- "or a Function constant's number (the functions met)"
abbrev pub KnownFunction : ℕ → Value → Type 0
KnownFunction met (plain k p q) = T (eqb k 6) → p < met
KnownFunction met (effect n ps v) = Unit {0}

-- "every index lies inside its table"
pub record Indices (t : Semantic) (f met : ℕ) (cs : List Const) (ws : List ℕ) (n : ℕ) : Type 0 where
  pub operands : (i : ℕ) → i < n → WithinFound cs (names t f) (operand_kind (code ws i)) (operand ws i)
  pub captures : (k : ℕ) → k < length (names t f).upvalues → Captured (names t (parent t f)) (get_or (names t f).upvalues k no_upvalue)
  pub functions : (k : ℕ) → k < length cs → KnownFunction met (get_or cs k no_const).value

-- of one function's stream: its words, its constants, its line's label count
pub record FunctionSound (sc : StackCode) (t : Semantic) (recs : List ℕ) (met f : ℕ) (x : Stream) : Type 0 where
  pub counted : x.labels ≡ labels_counted sc (own_tree (children recs x.at))
  pub labels : Labels (marker_words (consts x.marks) x.marks []) (length x.marks) x.labels
  pub loops : Loops recs x (marker_words (consts x.marks) x.marks []) (length x.marks)
  pub constants : Constants (consts x.marks) (marker_words (consts x.marks) x.marks []) (length x.marks)
  pub indices : Indices t f met (consts x.marks) (marker_words (consts x.marks) x.marks []) (length x.marks)

-- "for each function"
abbrev pub Demand3 : StackCode → Semantic → List ℕ → Side → Type 0
Demand3 sc t recs e = (f : ℕ) → f < e.met → FunctionSound sc t recs e.met f (stream_numbered e.streams f)
