-- The arms of visit_expr in three groups, as the code has them, and a part that two visitors have. Definitions only.
use Rattle.std.specs.Prelude.{List, [], drop}
use Rattle.opcode.specs.Members.{member_number}
use Rattle.opcode.specs.declared.member.MemberKind.{MemberKind}
use Rattle.tables.specs.Record.{Words}
use Rattle.tables.specs.Forest.{Nodes}
use Rattle.rules.specs.declared.StackCode.{StackCode}
use Rattle.rules.specs.Step.{Step}
use Rattle.rules.specs.Arms.{property}
use Rattle.rules.specs.Kinds.{kinds, steps_of}

-- the kinds from If on, and from Function on
unfoldable pub later_steps : StackCode → Words → Nodes → List Step
later_steps sc w k = steps_of w.kind (drop 13 (kinds sc)) w k

unfoldable pub last_steps : StackCode → Words → Nodes → List Step
last_steps sc w k = steps_of w.kind (drop 27 (kinds sc)) w k

-- visit_member_property alone
abbrev pub property_steps : MemberKind → Words → Nodes → List Step
property_steps m w k = property (member_number m) k []
