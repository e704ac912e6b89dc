-- The operators' numbers and the opcodes' are two orders: the four comparisons, by operator, opcode and name. And what a look-up by number says.
-- Assumes nothing.
use Rattle.std.proofs.Common.{◌≡◌, refl, ℕ, Some, option_map}
use Rattle.opcode.specs.Names.{name, bytes}
use Rattle.opcode.specs.Operators.{bin_opcode, bin_op, bin_number, from_bin_op, un_opcode, un_op, un_number, from_un_op}
use Rattle.opcode.specs.Members.{member_kind, member_number, get_of, set_of, get_opcode, set_opcode}
use Rattle.opcode.specs.Words.{op_words}
use Rattle.opcode.specs.declared.operator.UnOp.{UnOp}
use Rattle.opcode.specs.declared.operator.UnOp.TheVariants as un
use Rattle.opcode.specs.declared.operator.BinOp.{BinOp}
use Rattle.opcode.specs.declared.operator.BinOp.TheVariants as bin
use Rattle.opcode.specs.declared.member.MemberKind.{MemberKind}
use Rattle.opcode.specs.declared.member.MemberKind.TheVariants.{
  Bracket,
  Dot,
  DoubleColon,
  BracketMeta,
  DotMeta,
  DoubleColonMeta,
}

pub lt_opcode : (bin_opcode 9 ≡ Some 28) × (name 28 ≡ bytes "Lt")
unfolding bin_opcode bin_op name
lt_opcode = (refl, refl)

pub le_opcode : (bin_opcode 10 ≡ Some 29) × (name 29 ≡ bytes "Le")
unfolding bin_opcode bin_op name
le_opcode = (refl, refl)

pub gt_opcode : (bin_opcode 11 ≡ Some 26) × (name 26 ≡ bytes "Gt")
unfolding bin_opcode bin_op name
gt_opcode = (refl, refl)

pub ge_opcode : (bin_opcode 12 ≡ Some 27) × (name 27 ≡ bytes "Ge")
unfolding bin_opcode bin_op name
ge_opcode = (refl, refl)

-- a look-up by an operator's own number finds that operator
pub un_numbered : (o : UnOp) → un_op (un_number o) ≡ Some o
unfolding un_op
un_numbered un.Not = refl
un_numbered un.Neg = refl

pub bin_numbered : (o : BinOp) → bin_op (bin_number o) ≡ Some o
unfolding bin_op
bin_numbered bin.Add = refl
bin_numbered bin.Sub = refl
bin_numbered bin.Mul = refl
bin_numbered bin.Div = refl
bin_numbered bin.Rem = refl
bin_numbered bin.And = refl
bin_numbered bin.Or = refl
bin_numbered bin.Eq = refl
bin_numbered bin.Ne = refl
bin_numbered bin.Lt = refl
bin_numbered bin.Le = refl
bin_numbered bin.Gt = refl
bin_numbered bin.Ge = refl
bin_numbered bin.Is = refl

pub member_numbered : (k : MemberKind) → member_kind (member_number k) ≡ Some k
unfolding member_kind
member_numbered Bracket = refl
member_numbered Dot = refl
member_numbered DoubleColon = refl
member_numbered BracketMeta = refl
member_numbered DotMeta = refl
member_numbered DoubleColonMeta = refl

-- what was found by number has the opcode that is found by number
pub un_code_lem : (n : ℕ) (o : UnOp) → un_op n ≡ Some o → un_opcode n ≡ Some (op_words (from_un_op o)).code
unfolding un_opcode
un_code_lem n o h = rw h

pub bin_code_lem : (n : ℕ) (o : BinOp) → bin_op n ≡ Some o → bin_opcode n ≡ option_map (λ c. (op_words c).code) (from_bin_op o)
unfolding bin_opcode
bin_code_lem n o h = rw h

pub get_code : (n : ℕ) (k : MemberKind) → member_kind n ≡ Some k → get_opcode n ≡ Some (op_words (get_of k)).code
unfolding get_opcode
get_code n k h = rw h

pub set_code : (n : ℕ) (k : MemberKind) → member_kind n ≡ Some k → set_opcode n ≡ Some (op_words (set_of k)).code
unfolding set_opcode
set_code n k h = rw h
