-- The operator and the member that a record's detail stands for, and what is pushed for them. Definitions only.
use Rattle.std.specs.Prelude.{Option, Some, None, Bool, true, false, cond, ◌&&◌, ◌||◌, ℕ, eqb, ltb, get_or}
use Rattle.opcode.specs.Words.{op_words}
use Rattle.opcode.specs.Operators.{un_ops, bin_ops, bin_number}
use Rattle.opcode.specs.Members.{member_kinds, member_number}
use Rattle.opcode.specs.declared.operator.UnOp.{UnOp}
use Rattle.opcode.specs.declared.operator.UnOp.TheVariants.{Not}
use Rattle.opcode.specs.declared.operator.BinOp.{BinOp}
use Rattle.opcode.specs.declared.operator.BinOp.TheVariants.{Add}
use Rattle.opcode.specs.declared.opcode.OpCode.{OpCode}
use Rattle.opcode.specs.declared.member.MemberKind.{MemberKind}
use Rattle.opcode.specs.declared.member.MemberKind.TheVariants.{DoubleColonMeta}
use Rattle.tables.specs.Forest.{Nodes}
use Rattle.tables.specs.declared.refusal.RunRule.TheVariants.{Operator}
use Rattle.pool.specs.Value.{child}
use Rattle.rules.specs.declared.Flow.TheVariants.{Refused}
use Rattle.rules.specs.Marker.{Forward, JumpIfTrueOrPop, JumpIfFalseOrPop, Code, Call, ReturnCall}
use Rattle.context.specs.Sinks.{pushed, stopped}
use Rattle.context.specs.declared.Context.{Context}

-- "Operators 0 to 13 are Add Sub .."; "9 Unary (0 Not, 1 Neg)"; "members 0 to 5 follow `MemberKind`". No accepted table has another number
unfoldable pub binary_of : ℕ → BinOp
binary_of d = get_or bin_ops d Add

unfoldable pub unary_of : ℕ → UnOp
unary_of d = get_or un_ops d Not

unfoldable pub member_of : ℕ → MemberKind
member_of m = get_or member_kinds m DoubleColonMeta

-- 3 BracketMeta, 4 DotMeta, 5 DoubleColonMeta
abbrev pub is_meta : MemberKind → Bool
is_meta m = ltb 2 (member_number m)

-- 5 And, 6 Or
abbrev pub is_short : BinOp → Bool
is_short o = eqb (bin_number o) 5 || eqb (bin_number o) 6

-- `and=` and `or=` "with an Ident on the left" (document 02, job 1), the Left being the first of k
unfoldable pub short_assign : BinOp → Nodes → Bool
short_assign o k = eqb (child k 0).detail 0 && is_short o

abbrev pub short_jump : BinOp → Forward
short_jump o = cond (eqb (bin_number o) 6) JumpIfTrueOrPop JumpIfFalseOrPop

-- a Call that is returned, or not
abbrev pub call_of : Bool → Code
call_of true = ReturnCall
call_of false = Call

-- an operator's opcode is pushed; And, Or and Is have none: number 13
abbrev pub with_operator : Option OpCode → ℕ → Context → Context
with_operator (Some x) r = pushed (op_words x)
with_operator None r = stopped (Refused Operator r)
