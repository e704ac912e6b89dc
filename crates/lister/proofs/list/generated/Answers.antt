use mathlib.Core.Path.{ap, ◌∙◌}
use mathlib.Core.List.{List}
use Prim.Native.Nat.{ℕ}
use Rattle.std.proofs.Common.{rules}
use Rattle.listing.specs.Print.{after}
use Rattle.lister.specs.Genlist.{given}
use Rattle.lister.proofs.GenlistLaws.{answer_text_lem}
use Rattle.lister.proofs.list.generated.Goals as goal

pub returns : goal.returns
returns c =
    let g = c.gen_code-answer.ensures in
    c.answered.ensures
    ∙ ap (λ (t : List ℕ). after t c.args.w.now)
    (answer_text_lem (given c.args.tables.now) _ _ _ _ _ _ g.answer (search rules) (search rules) (search rules) (search rules) (search rules))
