-- Every opcode stands in the list in order: what holds of each entry, at any operand, holds of every opcode.
-- Assumes nothing.
use Prim.Native.Nat.{ℕ, ◌<◌}
use lib.Dec.{ltb→lt}
use lib.ListN.{get_or}
use Rattle.opcode.specs.Order.{in_order}
use Rattle.opcode.specs.declared.opcode.OpCode.{OpCode}
use Rattle.opcode.specs.declared.opcode.OpCode.TheVariants as op

abbrev pub entry : ℕ → ℕ → OpCode
entry k x = get_or (in_order x) k op.Pop

module _ (P : OpCode → Type 0) (f : (k x : ℕ) → k < 52 → P (entry k x)) where
  pub every_opcode : (o : OpCode) → P o
  every_opcode op.Pop = f 0 0 (ltb→lt 0 52 tt)
  every_opcode (op.Copy x) = f 1 x (ltb→lt 1 52 tt)
  every_opcode (op.Swap x) = f 2 x (ltb→lt 2 52 tt)
  every_opcode (op.LoadLocal x) = f 3 x.0 (ltb→lt 3 52 tt)
  every_opcode (op.LoadGlobal x) = f 4 x.0 (ltb→lt 4 52 tt)
  every_opcode (op.LoadUpvalue x) = f 5 x.0 (ltb→lt 5 52 tt)
  every_opcode (op.LoadConst x) = f 6 x.0 (ltb→lt 6 52 tt)
  every_opcode (op.StoreLocal x) = f 7 x.0 (ltb→lt 7 52 tt)
  every_opcode (op.StoreGlobal x) = f 8 x.0 (ltb→lt 8 52 tt)
  every_opcode (op.BuildTable x) = f 9 x (ltb→lt 9 52 tt)
  every_opcode (op.BuildList x) = f 10 x (ltb→lt 10 52 tt)
  every_opcode op.GetAttr = f 11 0 (ltb→lt 11 52 tt)
  every_opcode op.GetItem = f 12 0 (ltb→lt 12 52 tt)
  every_opcode op.GetMeta = f 13 0 (ltb→lt 13 52 tt)
  every_opcode op.SetAttr = f 14 0 (ltb→lt 14 52 tt)
  every_opcode op.SetItem = f 15 0 (ltb→lt 15 52 tt)
  every_opcode op.SetMeta = f 16 0 (ltb→lt 16 52 tt)
  every_opcode op.Neg = f 17 0 (ltb→lt 17 52 tt)
  every_opcode op.Not = f 18 0 (ltb→lt 18 52 tt)
  every_opcode op.Add = f 19 0 (ltb→lt 19 52 tt)
  every_opcode op.Sub = f 20 0 (ltb→lt 20 52 tt)
  every_opcode op.Mul = f 21 0 (ltb→lt 21 52 tt)
  every_opcode op.Div = f 22 0 (ltb→lt 22 52 tt)
  every_opcode op.Rem = f 23 0 (ltb→lt 23 52 tt)
  every_opcode op.Eq = f 24 0 (ltb→lt 24 52 tt)
  every_opcode op.Ne = f 25 0 (ltb→lt 25 52 tt)
  every_opcode op.Gt = f 26 0 (ltb→lt 26 52 tt)
  every_opcode op.Ge = f 27 0 (ltb→lt 27 52 tt)
  every_opcode op.Lt = f 28 0 (ltb→lt 28 52 tt)
  every_opcode op.Le = f 29 0 (ltb→lt 29 52 tt)
  every_opcode (op.TypeCheck x) = f 30 x (ltb→lt 30 52 tt)
  every_opcode op.GetLen = f 31 0 (ltb→lt 31 52 tt)
  every_opcode (op.Import x) = f 32 x.0 (ltb→lt 32 52 tt)
  every_opcode (op.ImportFrom x) = f 33 x.0 (ltb→lt 33 52 tt)
  every_opcode op.ImportGlob = f 34 0 (ltb→lt 34 52 tt)
  every_opcode op.Iter = f 35 0 (ltb→lt 35 52 tt)
  every_opcode (op.Call x) = f 36 x (ltb→lt 36 52 tt)
  every_opcode op.Return = f 37 0 (ltb→lt 37 52 tt)
  every_opcode (op.ReturnCall x) = f 38 x (ltb→lt 38 52 tt)
  every_opcode op.LoadLocals = f 39 0 (ltb→lt 39 52 tt)
  every_opcode (op.Jump x) = f 40 x.0 (ltb→lt 40 52 tt)
  every_opcode (op.JumpBackEdge x) = f 41 x.0 (ltb→lt 41 52 tt)
  every_opcode (op.Break x) = f 42 x.0 (ltb→lt 42 52 tt)
  every_opcode (op.Continue x) = f 43 x.0 (ltb→lt 43 52 tt)
  every_opcode (op.JumpPopIfNull x) = f 44 x.0 (ltb→lt 44 52 tt)
  every_opcode (op.PopJumpIfTrue x) = f 45 x.0 (ltb→lt 45 52 tt)
  every_opcode (op.PopJumpIfFalse x) = f 46 x.0 (ltb→lt 46 52 tt)
  every_opcode (op.JumpIfTrueOrPop x) = f 47 x.0 (ltb→lt 47 52 tt)
  every_opcode (op.JumpIfFalseOrPop x) = f 48 x.0 (ltb→lt 48 52 tt)
  every_opcode (op.RegisterHandler x) = f 49 x.0 (ltb→lt 49 52 tt)
  every_opcode (op.CheckEffect x) = f 50 x (ltb→lt 50 52 tt)
  every_opcode (op.MarkAddStackSize x) = f 51 x (ltb→lt 51 52 tt)
