-- The operators by number and their opcodes. Document 01, "Records": "Operators 0 to 13 are Add Sub Mul Div Rem And Or Eq Ne Lt Le Gt Ge Is";
-- "9 Unary (0 Not, 1 Neg)"; row 13: "Is in Binary; And, Or, Is in AssignOp". Assumes nothing: definitions.
use Rattle.std.specs.Prelude.{Option, Some, None, List, [], ◌∷◌, ℕ, slice_get, option_map, option_and_then}
use Rattle.opcode.specs.Words.{op_words}
use Rattle.opcode.specs.declared.opcode.OpCode.{OpCode}
use Rattle.opcode.specs.declared.opcode.OpCode.TheVariants as code
use Rattle.opcode.specs.declared.operator.UnOp.{UnOp}
use Rattle.opcode.specs.declared.operator.UnOp.TheVariants as un
use Rattle.opcode.specs.declared.operator.BinOp.{BinOp}
use Rattle.opcode.specs.declared.operator.BinOp.TheVariants as bin

abbrev pub un_ops : List UnOp
un_ops = un.Not ∷ un.Neg ∷ []

abbrev pub bin_ops : List BinOp
bin_ops =
    bin.Add ∷ bin.Sub ∷ bin.Mul ∷ bin.Div ∷ bin.Rem ∷ bin.And ∷ bin.Or ∷
    bin.Eq ∷ bin.Ne ∷ bin.Lt ∷ bin.Le ∷ bin.Gt ∷ bin.Ge ∷ bin.Is ∷ []

-- the paper's number of each
abbrev pub un_number : UnOp → ℕ
un_number un.Not = 0
un_number un.Neg = 1

abbrev pub bin_number : BinOp → ℕ
bin_number bin.Add = 0
bin_number bin.Sub = 1
bin_number bin.Mul = 2
bin_number bin.Div = 3
bin_number bin.Rem = 4
bin_number bin.And = 5
bin_number bin.Or = 6
bin_number bin.Eq = 7
bin_number bin.Ne = 8
bin_number bin.Lt = 9
bin_number bin.Le = 10
bin_number bin.Gt = 11
bin_number bin.Ge = 12
bin_number bin.Is = 13

unfoldable pub un_op : ℕ → Option UnOp
un_op n = slice_get un_ops n

unfoldable pub bin_op : ℕ → Option BinOp
bin_op n = slice_get bin_ops n

abbrev pub from_un_op : UnOp → OpCode
from_un_op un.Not = code.Not
from_un_op un.Neg = code.Neg

-- And, Or and Is have no opcode
abbrev pub from_bin_op : BinOp → Option OpCode
from_bin_op bin.Add = Some code.Add
from_bin_op bin.Sub = Some code.Sub
from_bin_op bin.Mul = Some code.Mul
from_bin_op bin.Div = Some code.Div
from_bin_op bin.Rem = Some code.Rem
from_bin_op bin.And = None
from_bin_op bin.Or = None
from_bin_op bin.Eq = Some code.Eq
from_bin_op bin.Ne = Some code.Ne
from_bin_op bin.Lt = Some code.Lt
from_bin_op bin.Le = Some code.Le
from_bin_op bin.Gt = Some code.Gt
from_bin_op bin.Ge = Some code.Ge
from_bin_op bin.Is = None

-- from the operator's number to the opcode's
unfoldable pub un_opcode : ℕ → Option ℕ
un_opcode n = option_map (λ o. (op_words (from_un_op o)).code) (un_op n)

unfoldable pub bin_opcode : ℕ → Option ℕ
bin_opcode n = option_map (λ o. (op_words o).code) (option_and_then from_bin_op (bin_op n))
