use Rattle.context.proofs.SizeLaws.{used_sizes}
use mathlib.Core.Path.{refl}
use Rattle.tables.proofs.KindLaws.{other_kind, same_kind}
use Rattle.tables.specs.declared.kind.Kind.TheVariants as kind
use Prim.Native.Nat.{ℕ}
use Rattle.context.proofs.RepLaws.{resim, stay}
use Rattle.context.proofs.StayLaws.{use_stays}
use Rattle.context.proofs.VisitLaws.{visit_none}
use Rattle.context.specs.Does.{visit_in}
use Rattle.context.specs.Rep.{lent}
use Rattle.plain.proofs.EndLaws.{after_member, after_other, after_plain}
use Rattle.plain.proofs.LeafLaws.{used_at}
use Rattle.rules.specs.Step.{After, Set}
use mathlib.Core.Path.{◌∙◌, ap}
use Rattle.plain.proofs.assign.after.Goals as goal

pub returns-then-left-eq0-clause-visits : goal.returns-then-left-eq0-clause-visits
returns-then-left-eq0-clause-visits c =
    resim (λ m z A. ap (λ (l : ℕ). visit_in (lent c.args.tree.now) m After l A) c.if-left-eq0.true ∙ visit_none (lent c.args.tree.now) m After A) stay

pub returns-then-ne-clause-visits : goal.returns-then-ne-clause-visits
returns-then-ne-clause-visits c =
    resim (λ m z A. after_other (lent c.args.tree.now) m c.args.left c.if-left-eq0.false _ refl (other_kind _ _ kind.Left _ c.kind.ensures c.ne.ensures tt c.if-ne.true)
    A) stay

pub returns-then-detail-eq-PLAIN-clause-visits : goal.returns-then-detail-eq-PLAIN-clause-visits
returns-then-detail-eq-PLAIN-clause-visits c =
    resim (λ m z A. after_plain (lent c.args.tree.now) m c.args.left c.if-left-eq0.false _ refl _ _ (same_kind _ _ kind.Left _ c.kind.ensures c.ne.ensures tt c.if-ne.false)
    c.detail.ensures c.first-ident.ensures c.if-detail-eq-PLAIN.true A)
    (record { sim = λ z m o₀ A h. used_at (lent c.args.tree.now) c.args.left Set _ c.store.ensures h; sizes = used_sizes Set _ _ _ c.store.ensures })

pub returns-then-detail-eq-PLAIN-clause-consts : goal.returns-then-detail-eq-PLAIN-clause-consts
returns-then-detail-eq-PLAIN-clause-consts c = use_stays Set _ _ _ c.store.ensures

pub returns-clause-consts : goal.returns-clause-consts
returns-clause-consts c = use_stays Set _ _ _ c.store-2.ensures ∙ c.set_member.ensures.consts

pub returns-clause-visits : goal.returns-clause-visits
returns-clause-visits c =
    resim (λ m z A. after_member (lent c.args.tree.now) m c.args.left c.if-left-eq0.false _ refl _ _ (same_kind _ _ kind.Left _ c.kind.ensures c.ne.ensures tt c.if-ne.false)
    c.detail.ensures c.first-ident.ensures c.if-detail-eq-PLAIN.false c.left_property.ensures A)
    (record {
      sim = λ z m o₀ A h. used_at (lent c.args.tree.now) c.args.left Set _ c.store-2.ensures ((c.set_member.ensures.moves c.args.tree.now.records.now c.args.left).moves m o₀ A h);
      sizes = used_sizes Set _ _ _ c.store-2.ensures ∙ (c.set_member.ensures.moves c.args.tree.now.records.now c.args.left).sizes;
    })
