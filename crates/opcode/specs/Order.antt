-- The opcodes in the order of the enum, each with the operand x where it has one. Document 01, "Leaves": "Opcodes are numbered 0 to 51 in the
-- order of `OpCode`". Assumes nothing: a definition.
use Rattle.std.specs.Prelude.{List, [], ◌∷◌, ℕ}
use Rattle.opcode.specs.declared.opcode.OpCode.{OpCode}
use Rattle.opcode.specs.declared.opcode.OpCode.TheVariants as op

abbrev pub in_order : ℕ → List OpCode
in_order x =
    op.Pop ∷
    op.Copy x ∷
    op.Swap x ∷
    op.LoadLocal (record { 0 = x }) ∷
    op.LoadGlobal (record { 0 = x }) ∷
    op.LoadUpvalue (record { 0 = x }) ∷
    op.LoadConst (record { 0 = x }) ∷
    op.StoreLocal (record { 0 = x }) ∷
    op.StoreGlobal (record { 0 = x }) ∷
    op.BuildTable x ∷
    op.BuildList x ∷
    op.GetAttr ∷
    op.GetItem ∷
    op.GetMeta ∷
    op.SetAttr ∷
    op.SetItem ∷
    op.SetMeta ∷
    op.Neg ∷
    op.Not ∷
    op.Add ∷
    op.Sub ∷
    op.Mul ∷
    op.Div ∷
    op.Rem ∷
    op.Eq ∷
    op.Ne ∷
    op.Gt ∷
    op.Ge ∷
    op.Lt ∷
    op.Le ∷
    op.TypeCheck x ∷
    op.GetLen ∷
    op.Import (record { 0 = x }) ∷
    op.ImportFrom (record { 0 = x }) ∷
    op.ImportGlob ∷
    op.Iter ∷
    op.Call x ∷
    op.Return ∷
    op.ReturnCall x ∷
    op.LoadLocals ∷
    op.Jump (record { 0 = x }) ∷
    op.JumpBackEdge (record { 0 = x }) ∷
    op.Break (record { 0 = x }) ∷
    op.Continue (record { 0 = x }) ∷
    op.JumpPopIfNull (record { 0 = x }) ∷
    op.PopJumpIfTrue (record { 0 = x }) ∷
    op.PopJumpIfFalse (record { 0 = x }) ∷
    op.JumpIfTrueOrPop (record { 0 = x }) ∷
    op.JumpIfFalseOrPop (record { 0 = x }) ∷
    op.RegisterHandler (record { 0 = x }) ∷
    op.CheckEffect x ∷
    op.MarkAddStackSize x ∷
    []
