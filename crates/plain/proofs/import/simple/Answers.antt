use Rattle.context.proofs.SizeLaws.{stopped_sizes, used_sizes}
use Prim.Native.Nat.{◌-◌, ℕ}
use Rattle.context.proofs.Basics.{on_false, on_true}
use Rattle.context.proofs.RepLaws.{given, halted}
use Rattle.context.proofs.StayLaws.{stop_stays, use_stays}
use Rattle.context.specs.Rep.{lent}
use Rattle.plain.proofs.EndLaws.{simple_none, simple_put}
use Rattle.plain.proofs.LeafLaws.{used_at}
use Rattle.rules.specs.Step.{Set}
use Rattle.rules.specs.declared.Flow.TheVariants.{Refused}
use Rattle.tables.specs.declared.refusal.RunRule.TheVariants.{Path}
use Rattle.tables.proofs.KindLaws.{is_simple}
use Rattle.tables.specs.Record.{word}
use mathlib.Core.Path.{◌∙◌, ap, sym}
use Rattle.plain.proofs.import.simple.Goals as goal

pub returns-then-n-eq0-clause-consts : goal.returns-then-n-eq0-clause-consts
returns-then-n-eq0-clause-consts c = stop_stays _ _ c.refuse.ensures

pub returns-then-n-eq0-clause-steps : goal.returns-then-n-eq0-clause-steps
returns-then-n-eq0-clause-steps c =
    record {
      sim = λ z m o₀ A h. given (simple_none (lent c.args.tree.now) m c.args.r _ (sym c.p-n.ensures ∙ c.if-n-eq0.true) A) (halted (Refused Path
          c.args.r) c.refuse.ensures h);
      sizes = stopped_sizes _ _ c.refuse.ensures;
    }

pub returns-then-eq-clause-consts : goal.returns-then-eq-clause-consts
returns-then-eq-clause-consts c = use_stays Set _ _ _ c.store.ensures

pub returns-then-eq-clause-steps : goal.returns-then-eq-clause-steps
returns-then-eq-clause-steps c =
    record {
      sim = λ z m o₀ A h. given (simple_put (lent c.args.tree.now) m c.args.r _ _ _ _ (λ y. c.if-n-eq0.false (c.p-n.ensures ∙ y)) c.first-path.ensures
          (c.saturating_sub.ensures ∙ ap (λ (k : ℕ). k - 1) c.p-n.ensures
          ∙ sym (on_true _ _ _ (sym (is_simple (word c.args.tree.now.records.now c.args.r 1) _ _ c.import_kind.ensures c.eq.ensures) ∙ c.if-eq.true))) c.nth.ensures A)
          (used_at (lent c.args.tree.now) c.args.r Set _ c.store.ensures h);
      sizes = used_sizes Set _ _ _ c.store.ensures;
    }

pub returns-clause-consts : goal.returns-clause-consts
returns-clause-consts c = use_stays Set _ _ _ c.store-2.ensures

pub returns-clause-steps : goal.returns-clause-steps
returns-clause-steps c =
    record {
      sim = λ z m o₀ A h. given (simple_put (lent c.args.tree.now) m c.args.r _ _ _ _ (λ y. c.if-n-eq0.false (c.p-n.ensures ∙ y)) c.first-path.ensures
          (c.p-n.ensures ∙ sym (on_false _ _ _ (sym (is_simple (word c.args.tree.now.records.now c.args.r 1) _ _ c.import_kind.ensures c.eq.ensures) ∙ c.if-eq.false)))
          c.nth-2.ensures A)
          (used_at (lent c.args.tree.now) c.args.r Set _ c.store-2.ensures h);
      sizes = used_sizes Set _ _ _ c.store-2.ensures;
    }
