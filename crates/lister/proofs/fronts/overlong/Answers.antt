use mathlib.Core.Path.{ap, sym, subst, ◌∙◌}
use Prim.Native.Nat.{ℕ, ◌≤◌}
use Rattle.lister.specs.Genlist.{feeds}
use Rattle.lister.proofs.FeedsLaws.{front_few, next_fits}
use Rattle.lister.proofs.fronts.overlong.Goals as goal

pub overflow_add-result : goal.overflow_add-result
overflow_add-result c =
    let e = c.feeds.ensures ∙ ap feeds c.front.ensures in
    next_fits c.feeds.result (subst (λ (n : ℕ). n ≤ 262143) (sym e) (front_few 262143 c.args.text.now))
