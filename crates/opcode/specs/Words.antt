-- A marker's two words. Document 01, "Leaves": "Opcodes are numbered 0 to 51 in the order of `OpCode`, with a name each; 52 is Label";
-- "The call": "markers (code, operand or 0)". Assumes nothing: definitions.
use Rattle.std.specs.Prelude.{ℕ}
use Rattle.opcode.specs.declared.opcode.Words.{Words}
use Rattle.opcode.specs.declared.opcode.CodeMarker.{CodeMarker}
use Rattle.opcode.specs.declared.opcode.CodeMarker.TheVariants as marker
use Rattle.opcode.specs.declared.opcode.OpCode.{OpCode}
use Rattle.opcode.specs.declared.opcode.OpCode.TheVariants as op

abbrev pub pair_of : ℕ → ℕ → Words
pair_of c x = record { code = c; operand = x }

abbrev pub op_words : OpCode → Words
op_words op.Pop = pair_of 0 0
op_words (op.Copy x) = pair_of 1 x
op_words (op.Swap x) = pair_of 2 x
op_words (op.LoadLocal x) = pair_of 3 x.0
op_words (op.LoadGlobal x) = pair_of 4 x.0
op_words (op.LoadUpvalue x) = pair_of 5 x.0
op_words (op.LoadConst x) = pair_of 6 x.0
op_words (op.StoreLocal x) = pair_of 7 x.0
op_words (op.StoreGlobal x) = pair_of 8 x.0
op_words (op.BuildTable x) = pair_of 9 x
op_words (op.BuildList x) = pair_of 10 x
op_words op.GetAttr = pair_of 11 0
op_words op.GetItem = pair_of 12 0
op_words op.GetMeta = pair_of 13 0
op_words op.SetAttr = pair_of 14 0
op_words op.SetItem = pair_of 15 0
op_words op.SetMeta = pair_of 16 0
op_words op.Neg = pair_of 17 0
op_words op.Not = pair_of 18 0
op_words op.Add = pair_of 19 0
op_words op.Sub = pair_of 20 0
op_words op.Mul = pair_of 21 0
op_words op.Div = pair_of 22 0
op_words op.Rem = pair_of 23 0
op_words op.Eq = pair_of 24 0
op_words op.Ne = pair_of 25 0
op_words op.Gt = pair_of 26 0
op_words op.Ge = pair_of 27 0
op_words op.Lt = pair_of 28 0
op_words op.Le = pair_of 29 0
op_words (op.TypeCheck x) = pair_of 30 x
op_words op.GetLen = pair_of 31 0
op_words (op.Import x) = pair_of 32 x.0
op_words (op.ImportFrom x) = pair_of 33 x.0
op_words op.ImportGlob = pair_of 34 0
op_words op.Iter = pair_of 35 0
op_words (op.Call x) = pair_of 36 x
op_words op.Return = pair_of 37 0
op_words (op.ReturnCall x) = pair_of 38 x
op_words op.LoadLocals = pair_of 39 0
op_words (op.Jump x) = pair_of 40 x.0
op_words (op.JumpBackEdge x) = pair_of 41 x.0
op_words (op.Break x) = pair_of 42 x.0
op_words (op.Continue x) = pair_of 43 x.0
op_words (op.JumpPopIfNull x) = pair_of 44 x.0
op_words (op.PopJumpIfTrue x) = pair_of 45 x.0
op_words (op.PopJumpIfFalse x) = pair_of 46 x.0
op_words (op.JumpIfTrueOrPop x) = pair_of 47 x.0
op_words (op.JumpIfFalseOrPop x) = pair_of 48 x.0
op_words (op.RegisterHandler x) = pair_of 49 x.0
op_words (op.CheckEffect x) = pair_of 50 x
op_words (op.MarkAddStackSize x) = pair_of 51 x

abbrev pub words_of : CodeMarker → Words
words_of (marker.OpCode o) = op_words o
words_of (marker.Label x) = pair_of 52 x.0

abbrev pub code_of : CodeMarker → ℕ
code_of m = (words_of m).code

abbrev pub operand_of : CodeMarker → ℕ
operand_of m = (words_of m).operand
