use Rattle.std.proofs.Common.{rules, ◌≡◌, ℕ, ◌+◌, Bool, true, false, List, [], ◌∷◌, refl, sym, ap, ◌∙◌}
use Rattle.std.specs.Option.{option_map}
use Rattle.tables.specs.Lent.{first_refused, refused, unfit, lent_broken}
use Rattle.tables.proofs.lent.lent.Goals as goal
use Rattle.tables.proofs.lent.lent.Goals.{then-unfit, else-unfit}
use lib.Dec.{eqb}
use lib.ListN.{length}
use mathlib.Core.Bool.{◌||◌}

-- the tests' places, counted from one more
from_one : (i : ℕ) (bs : List Bool) → option_map (λ k. k + 1) (first_refused i bs) ≡ first_refused (i + 1) bs
from_one i [] = refl
from_one i (true ∷ bs) = refl
from_one i (false ∷ bs) = from_one (i + 1) bs

pub returns : goal.returns
unfolding lent_broken
returns c =
    let t = c.args.tables.now in
    let all = refused t.strings.now t.bytes.now t.symbols.now t.references.now t.functions.now t.members.now t.records.now in
    let e : c.map.result ≡ option_map (λ k. k + 1) c.first.result = search rules in
    let last : c.if-unfit.first ≡ unfit 8 4096 (length t.records.now) || eqb (length t.records.now) 0 =
    elim c.if-unfit.branch [
      | then-unfit w ↦ w.first-is ∙ w.if-unfit.true ∙ simp (sym c.unfit-7.ensures ∙ w.if-unfit.true)
      | else-unfit w ↦ simp (sym c.unfit-7.ensures ∙ w.if-unfit.false) (w.first-is ∙ w.is_empty.ensures)
    ] in
    e
    ∙ ap (option_map (λ k. k + 1)) (c.first.ensures ∙ simp (c.unfit.ensures, c.unfit-2.ensures, c.unfit-3.ensures, c.unfit-4.ensures, c.unfit-5.ensures, c.unfit-6.ensures, last))
    ∙ from_one 0 all
