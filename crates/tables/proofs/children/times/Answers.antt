use mathlib.Core.Path.{◌≡◌, sym, ap, ◌∙◌}
use mathlib.Core.List.{◌∷◌}
use Prim.Native.Nat.{ℕ, ◌+◌, ◌-◌}
use native.Mathlib.Omega.{arith}
use Rattle.tables.specs.Children.{times as times_of, from, fits, fits_on}
use Rattle.tables.proofs.ServeLaws.{counted_off, done_times}
use Rattle.tables.proofs.children.times.Goals as goal

pub returns : goal.returns
returns c = record { serves = λ ws. c.loop.invariant ws ∙ (done_times _ c.loop.at _ _ (omega arith)).serves ws }

pub returns-in_err-at : goal.returns-in_err-at
returns-in_err-at c = record
    { serves = λ ws. c.loop.invariant ws ∙ counted_off _ _ ws _ (omega arith) ∙ c.in_err-at.ensures.serves _ ∙ sym (ap (fits_on _ ws) c.from_residual.ensures) }

pub loop-preserved : goal.loop-preserved
loop-preserved c =
    let a = c.args in
    let one_less : a.n - c.loop.counter - 1 ≡ a.n - (c.loop.counter + 1) = omega arith in
    λ ws. c.loop.invariant ws ∙ counted_off _ _ ws _ (omega arith) ∙ c.in_ok-at.ensures.serves _
    ∙ ap (λ (m : ℕ). fits (times_of m a.class ∷ ws) (from a.recs.now c.in_ok-at.at)) one_less
