-- The members by number and their opcodes. Document 01, "Records": "members 0 to 5 follow .. `MemberKind`".
-- Assumes nothing: definitions.
use Rattle.std.specs.Prelude.{Option, List, [], ◌∷◌, ℕ, slice_get, option_map}
use Rattle.opcode.specs.Words.{op_words}
use Rattle.opcode.specs.declared.opcode.OpCode.{OpCode}
use Rattle.opcode.specs.declared.opcode.OpCode.TheVariants.{GetAttr, GetItem, GetMeta, SetAttr, SetItem, SetMeta}
use Rattle.opcode.specs.declared.member.MemberKind.{MemberKind}
use Rattle.opcode.specs.declared.member.MemberKind.TheVariants.{
  Bracket,
  Dot,
  DoubleColon,
  BracketMeta,
  DotMeta,
  DoubleColonMeta,
}

abbrev pub member_kinds : List MemberKind
member_kinds = Bracket ∷ Dot ∷ DoubleColon ∷ BracketMeta ∷ DotMeta ∷ DoubleColonMeta ∷ []

-- the paper's number of each
abbrev pub member_number : MemberKind → ℕ
member_number Bracket = 0
member_number Dot = 1
member_number DoubleColon = 2
member_number BracketMeta = 3
member_number DotMeta = 4
member_number DoubleColonMeta = 5

unfoldable pub member_kind : ℕ → Option MemberKind
member_kind n = slice_get member_kinds n

abbrev pub get_of : MemberKind → OpCode
get_of Bracket = GetItem
get_of Dot = GetAttr
get_of DoubleColon = GetAttr
get_of BracketMeta = GetMeta
get_of DotMeta = GetMeta
get_of DoubleColonMeta = GetMeta

abbrev pub set_of : MemberKind → OpCode
set_of Bracket = SetItem
set_of Dot = SetAttr
set_of DoubleColon = SetAttr
set_of BracketMeta = SetMeta
set_of DotMeta = SetMeta
set_of DoubleColonMeta = SetMeta

-- from the member's number to the opcode's
unfoldable pub get_opcode : ℕ → Option ℕ
get_opcode n = option_map (λ k. (op_words (get_of k)).code) (member_kind n)

unfoldable pub set_opcode : ℕ → Option ℕ
set_opcode n = option_map (λ k. (op_words (set_of k)).code) (member_kind n)
