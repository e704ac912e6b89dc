use Rattle.tables.proofs.KindLaws.{same_kind}
use Rattle.tables.specs.declared.kind.Kind.TheVariants as kind
use Rattle.opcode.specs.Members.{member_number}
use Rattle.opcode.specs.declared.member.MemberKind.{MemberKind}
use Rattle.plain.proofs.OperatorLaws.{method_by}
use Rattle.tables.specs.Record.{words}
use lib.Dec.{eqb}
use mathlib.Core.Bool.{Bool, ◌||◌, false}
use mathlib.Core.Logic.{⊎_elim}
use mathlib.Core.Path.{◌≡◌, ap, sym, refl}
use Rattle.opcode.specs.declared.member.MemberKind.TheVariants.{Bracket, Dot, DoubleColon, BracketMeta, DotMeta, DoubleColonMeta}
use Rattle.plain.proofs.member.is_method.Goals as goal

abbrev named : MemberKind → Bool
named m = eqb (member_number m) 1 || eqb (member_number m) 4

neither : (k : MemberKind) → (k ≡ Dot → ⊥) → (k ≡ DotMeta → ⊥) → false ≡ named k
neither Bracket n m = refl
neither Dot n m = absurd (n refl)
neither DoubleColon n m = refl
neither BracketMeta n m = refl
neither DotMeta n m = absurd (m refl)
neither DoubleColonMeta n m = refl

pub returns-in-Dot : goal.returns-in-Dot
returns-in-Dot c =
    method_by (words c.args.recs.now c.args.callee) _ refl (same_kind _ _ kind.Member _ c.kind.ensures c.ne.ensures tt c.if-ne.false) c.property_of.ensures
    (sym (⊎_elim (λ e. ap named e) (λ e. ap named e) c.in-Dot.is))

pub returns-in_default : goal.returns-in_default
returns-in_default c =
    method_by (words c.args.recs.now c.args.callee) _ refl (same_kind _ _ kind.Member _ c.kind.ensures c.ne.ensures tt c.if-ne.false) c.property_of.ensures
    (neither c.property_of.result c.in_default.not-Dot c.in_default.not-DotMeta)
