use Rattle.std.specs.Prelude.{unwrap_or, get_or}
use Rattle.std.proofs.lemmas.Iterator.{items_from_drains}
use Rattle.std.proofs.lemmas.Iterator.Consumers.{YieldsList-from_first}
use mathlib.Core.List.{List, map-id}
use mathlib.Core.Path.{◌≡◌, ◌∙◌, refl, sym, ap}
use Prim.Native.Nat.{ℕ, ◌-◌}
use lib.ListN.{length}
use Rattle.tables.specs.Forest.{forest}
use Rattle.plain.specs.Siblings.{numbers, left}
use Rattle.plain.proofs.CountLaws.{numbers_width}
use Rattle.plain.proofs.SiblingLaws.{last_number, number_at}
use Rattle.plain.proofs.siblings.last.Goals as goal

pub returns : goal.returns
returns c =
    let ran = c.last.ensures.ran in
    let items : ran.0 ≡ numbers (forest c.args.recs.now c.args.c) =
    sym (map-id ran.0) ∙ items_from_drains ran.0 (ran.1.1.0, ran.1.1.1, λ _. (ran.1.0, ran.1.1.2)) (YieldsList-from_first (λ x. x) left _ refl) ∙ c.new.ensures in
    c.unwrap_or.ensures ∙ ap (λ o. unwrap_or o 0) ran.2 ∙ last_number ran.0
    ∙ ap (λ (l : List ℕ). get_or l (length l - 1) 0) items
    ∙ ap (λ (k : ℕ). get_or (numbers (forest c.args.recs.now c.args.c)) (k - 1) 0) (numbers_width c.args.recs.now c.args.c)
    ∙ sym (number_at c.args.recs.now _ c.args.c)
