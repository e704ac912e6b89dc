-- A crate above computes with the definitions at numerals, through the facade.
-- Assumes nothing.
use Rattle.std.proofs.Common.{◌≡◌, refl, true, false, [], ◌∷◌, Some, None}
use Rattle.opcode.specs.Words.{words_of, pair_of}
use Rattle.opcode.specs.Kinds.{operand_kind, is_target}
use Rattle.opcode.specs.Names.{name}
use Rattle.opcode.specs.Operators.{bin_opcode, bin_op}
use Rattle.opcode.specs.Members.{get_opcode, set_opcode, member_kind}
use Rattle.opcode.specs.declared.opcode.CodeMarker.TheVariants as marker
use Rattle.opcode.specs.declared.opcode.OpCode.TheVariants as op
use Rattle.opcode.specs.declared.opcode.OperandKind.TheVariants as kind

jump_words : words_of (marker.OpCode (op.Jump (record { 0 = 3 }))) ≡ pair_of 40 3
jump_words = refl

jump_target : (is_target 40 ≡ true) × (is_target 52 ≡ false) × (is_target 53 ≡ false)
unfolding is_target
jump_target = (refl, refl, refl)

kinds : (operand_kind 3 ≡ Some kind.Local) × (operand_kind 53 ≡ None)
unfolding operand_kind
kinds = (refl, refl)

names : (name 0 ≡ 80 ∷ 111 ∷ 112 ∷ []) × (name 53 ≡ [])
unfolding name
names = (refl, refl)

operators : (bin_opcode 11 ≡ Some 26) × (bin_opcode 13 ≡ None)
unfolding bin_opcode bin_op
operators = (refl, refl)

members : (get_opcode 0 ≡ Some 12) × (set_opcode 5 ≡ Some 16)
unfolding get_opcode set_opcode member_kind
members = (refl, refl)
