use mathlib.Core.Path.{refl, sym, ap, ◌∙◌}
use Prim.Native.Nat.{ℕ}
use native.Mathlib.Omega.{arith}
use Rattle.context.proofs.LabelLaws.{with_labels, many_taken, none_taken}
use Rattle.context.proofs.Context.get_labels.Goals as goal

pub returns-then-goes_on : goal.returns-then-goes_on
returns-then-goes_on c =
    record {
      label = refl;
      context =
          ap (λ (k : ℕ). with_labels k c.args.self.now) (omega (arith, c.saturating_add-self.ensures, c.capped.ensures))
          ∙ many_taken c.args.n c.args.self.now (omega arith) (sym c.goes_on.ensures ∙ c.if-goes_on.true);
    }

pub returns-else-goes_on : goal.returns-else-goes_on
returns-else-goes_on c =
    record { label = refl; context = none_taken c.args.n c.args.self.now (sym c.goes_on.ensures ∙ c.if-goes_on.false) }
