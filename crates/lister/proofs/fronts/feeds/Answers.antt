use Rattle.std.proofs.Common.{eqb, refl, rules, List, ℕ, ◌≡◌}
use Rattle.std.specs.List.{count_by}
use Rattle.std.proofs.lemmas.List.Recursion.{is_sum_by}
use Rattle.lister.specs.Genlist.{feed, feeds}
use Rattle.lister.proofs.fronts.feeds.Goals as goal

pub returns : goal.returns
returns c =
    let counted : (bytes : List ℕ) → feeds bytes ≡ count_by (λ b. eqb b 10) bytes = is_sum_by feeds feed refl (λ _ _. refl) in
    search (rules, counted)
