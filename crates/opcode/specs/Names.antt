-- The name of each code. Document 01, "Leaves": "numbered 0 to 51 in the order of `OpCode`, with a name each; 52 is Label".
-- Assumes nothing: definitions.
use Rattle.std.specs.Prelude.{List, [], ◌∷◌, ◌++◌, map, ℕ, get_or}
use Prim.Native.Char.{code}
use Prim.Native.String.{String}
use Prim.Native.String as text
use Rattle.opcode.specs.Order.{in_order}
use Rattle.opcode.specs.declared.opcode.OpCode.{OpCode}
use Rattle.opcode.specs.declared.opcode.OpCode.TheVariants as op

-- the name in the enum, not the one that `Display` writes
abbrev pub name_of : OpCode → String
name_of op.Pop = "Pop"
name_of (op.Copy x) = "Copy"
name_of (op.Swap x) = "Swap"
name_of (op.LoadLocal x) = "LoadLocal"
name_of (op.LoadGlobal x) = "LoadGlobal"
name_of (op.LoadUpvalue x) = "LoadUpvalue"
name_of (op.LoadConst x) = "LoadConst"
name_of (op.StoreLocal x) = "StoreLocal"
name_of (op.StoreGlobal x) = "StoreGlobal"
name_of (op.BuildTable x) = "BuildTable"
name_of (op.BuildList x) = "BuildList"
name_of op.GetAttr = "GetAttr"
name_of op.GetItem = "GetItem"
name_of op.GetMeta = "GetMeta"
name_of op.SetAttr = "SetAttr"
name_of op.SetItem = "SetItem"
name_of op.SetMeta = "SetMeta"
name_of op.Neg = "Neg"
name_of op.Not = "Not"
name_of op.Add = "Add"
name_of op.Sub = "Sub"
name_of op.Mul = "Mul"
name_of op.Div = "Div"
name_of op.Rem = "Rem"
name_of op.Eq = "Eq"
name_of op.Ne = "Ne"
name_of op.Gt = "Gt"
name_of op.Ge = "Ge"
name_of op.Lt = "Lt"
name_of op.Le = "Le"
name_of (op.TypeCheck x) = "TypeCheck"
name_of op.GetLen = "GetLen"
name_of (op.Import x) = "Import"
name_of (op.ImportFrom x) = "ImportFrom"
name_of op.ImportGlob = "ImportGlob"
name_of op.Iter = "Iter"
name_of (op.Call x) = "Call"
name_of op.Return = "Return"
name_of (op.ReturnCall x) = "ReturnCall"
name_of op.LoadLocals = "LoadLocals"
name_of (op.Jump x) = "Jump"
name_of (op.JumpBackEdge x) = "JumpBackEdge"
name_of (op.Break x) = "Break"
name_of (op.Continue x) = "Continue"
name_of (op.JumpPopIfNull x) = "JumpPopIfNull"
name_of (op.PopJumpIfTrue x) = "PopJumpIfTrue"
name_of (op.PopJumpIfFalse x) = "PopJumpIfFalse"
name_of (op.JumpIfTrueOrPop x) = "JumpIfTrueOrPop"
name_of (op.JumpIfFalseOrPop x) = "JumpIfFalseOrPop"
name_of (op.RegisterHandler x) = "RegisterHandler"
name_of (op.CheckEffect x) = "CheckEffect"
name_of (op.MarkAddStackSize x) = "MarkAddStackSize"

abbrev pub bytes : String → List ℕ
bytes text.[] = []
bytes (text.◌∷◌ c s) = code c ∷ bytes s

-- by code; "52 is Label"
abbrev pub names : List (List ℕ)
names = map bytes (map name_of (in_order 0)) ++ (bytes "Label" ∷ [])

-- no bytes past the last code
unfoldable pub name : ℕ → List ℕ
name k = get_or names k []
