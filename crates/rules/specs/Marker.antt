-- The markers of a stream, each kind of operand a constructor of its own. Definitions only.
use Rattle.std.specs.Prelude.{ℕ}
use Rattle.pool.specs.Value.{Value}

-- opcodes that name a label further on
pub data Forward : Type 0 where
  Jump PopJumpIfFalse JumpIfTrueOrPop JumpIfFalseOrPop JumpPopIfNull RegisterHandler : Forward

-- opcodes that leave the innermost loop's body
pub data Way : Type 0 where
  Break Continue : Way

-- opcodes that name a constant
pub data ConstOp : Type 0 where
  LoadConst Import ImportFrom : ConstOp

-- opcodes that name neither
pub data Code : Type 0 where
  Pop Copy Swap LoadLocal LoadGlobal LoadUpvalue StoreLocal StoreGlobal BuildTable BuildList GetAttr GetItem GetMeta SetAttr SetItem SetMeta Neg Not : Code
  Add Sub Mul Div Rem Eq Ne Gt Ge Lt Le TypeCheck GetLen ImportGlob Iter Call Return ReturnCall LoadLocals CheckEffect MarkAddStackSize : Code

-- a label placed, a label named (further on, behind, or a loop's), a constant by value, any other opcode with its operand or 0
pub data Op : Type 0 where
  Label : ℕ → Op
  To : Forward → ℕ → Op
  Back : ℕ → Op
  Leave : Way → ℕ → Op
  Load : ConstOp → Value → Op
  Do : Code → ℕ → Op

-- a marker with the record whose visit wrote it (of a constant: the record that brings it)
pub data Mark : Type 0 where
  mark : ℕ → Op → Mark
