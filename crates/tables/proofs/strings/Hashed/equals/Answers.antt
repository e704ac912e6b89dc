use mathlib.Core.Path.{sym, ◌∙◌}
use borrow.Author.Tests.{ne_eqb}
use Rattle.tables.proofs.SeenLaws.{other_hash}
use Rattle.tables.proofs.strings.Hashed.equals.Goals as goal

pub returns-else-g-self : goal.returns-else-g-self
returns-else-g-self c =
    let x = c.args.self.now in
    let t = x.tables.now in
    λ p. ne_eqb _ _ c.if-g-self.false ∙ other_hash t.strings.now t.bytes.now c.args.e x.number (λ z. c.if-g-self.false (p ∙ z ∙ sym x.hashed))
