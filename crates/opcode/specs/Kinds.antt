-- The kind of each code's operand, and which operands are targets. Document 01, "Leaves": "A label, a constant, a local, a global, an upvalue
-- and a function each have their own numbering". Assumes nothing: definitions.
use Rattle.std.specs.Prelude.{Option, List, [], ◌∷◌, ◌++◌, map, Bool, true, false, ℕ, get_or, slice_get}
use Rattle.opcode.specs.Order.{in_order}
use Rattle.opcode.specs.declared.opcode.OperandKind.{OperandKind}
use Rattle.opcode.specs.declared.opcode.OperandKind.TheVariants as kind
use Rattle.opcode.specs.declared.opcode.OpCode.{OpCode}
use Rattle.opcode.specs.declared.opcode.OpCode.TheVariants as op

-- the operand's type in the enum: an index type, a count, or a type's number
abbrev pub operand_kind_of : OpCode → OperandKind
operand_kind_of op.Pop = kind.None
operand_kind_of (op.Copy x) = kind.Count
operand_kind_of (op.Swap x) = kind.Count
operand_kind_of (op.LoadLocal x) = kind.Local
operand_kind_of (op.LoadGlobal x) = kind.Global
operand_kind_of (op.LoadUpvalue x) = kind.Upvalue
operand_kind_of (op.LoadConst x) = kind.Const
operand_kind_of (op.StoreLocal x) = kind.Local
operand_kind_of (op.StoreGlobal x) = kind.Global
operand_kind_of (op.BuildTable x) = kind.Count
operand_kind_of (op.BuildList x) = kind.Count
operand_kind_of op.GetAttr = kind.None
operand_kind_of op.GetItem = kind.None
operand_kind_of op.GetMeta = kind.None
operand_kind_of op.SetAttr = kind.None
operand_kind_of op.SetItem = kind.None
operand_kind_of op.SetMeta = kind.None
operand_kind_of op.Neg = kind.None
operand_kind_of op.Not = kind.None
operand_kind_of op.Add = kind.None
operand_kind_of op.Sub = kind.None
operand_kind_of op.Mul = kind.None
operand_kind_of op.Div = kind.None
operand_kind_of op.Rem = kind.None
operand_kind_of op.Eq = kind.None
operand_kind_of op.Ne = kind.None
operand_kind_of op.Gt = kind.None
operand_kind_of op.Ge = kind.None
operand_kind_of op.Lt = kind.None
operand_kind_of op.Le = kind.None
operand_kind_of (op.TypeCheck x) = kind.Type
operand_kind_of op.GetLen = kind.None
operand_kind_of (op.Import x) = kind.Const
operand_kind_of (op.ImportFrom x) = kind.Const
operand_kind_of op.ImportGlob = kind.None
operand_kind_of op.Iter = kind.None
operand_kind_of (op.Call x) = kind.Count
operand_kind_of op.Return = kind.None
operand_kind_of (op.ReturnCall x) = kind.Count
operand_kind_of op.LoadLocals = kind.None
operand_kind_of (op.Jump x) = kind.Label
operand_kind_of (op.JumpBackEdge x) = kind.Label
operand_kind_of (op.Break x) = kind.Label
operand_kind_of (op.Continue x) = kind.Label
operand_kind_of (op.JumpPopIfNull x) = kind.Label
operand_kind_of (op.PopJumpIfTrue x) = kind.Label
operand_kind_of (op.PopJumpIfFalse x) = kind.Label
operand_kind_of (op.JumpIfTrueOrPop x) = kind.Label
operand_kind_of (op.JumpIfFalseOrPop x) = kind.Label
operand_kind_of (op.RegisterHandler x) = kind.Label
operand_kind_of (op.CheckEffect x) = kind.Count
operand_kind_of (op.MarkAddStackSize x) = kind.Count

-- by code; "52 is Label"
abbrev pub operand_kinds : List OperandKind
operand_kinds = map operand_kind_of (in_order 0) ++ (kind.Label ∷ [])

unfoldable pub operand_kind : ℕ → Option OperandKind
operand_kind code = slice_get operand_kinds code

abbrev pub is_label : OperandKind → Bool
is_label kind.None = false
is_label kind.Count = false
is_label kind.Type = false
is_label kind.Label = true
is_label kind.Const = false
is_label kind.Local = false
is_label kind.Global = false
is_label kind.Upvalue = false

-- by code; "Words of demand 3": "an instruction is any marker but Label; a target, its operand where `opcode.rs` has a label"
abbrev pub targets : List Bool
targets = map is_label (map operand_kind_of (in_order 0)) ++ (false ∷ [])

unfoldable pub is_target : ℕ → Bool
is_target code = get_or targets code false

unfoldable pub target : ℕ → Option Bool
target code = slice_get targets code
