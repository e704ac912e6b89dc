use Rattle.std.proofs.Common.{◌∙◌, ap, refl, Bor, List, ℕ}
use Rattle.opcode.proofs.Rules.{name_or}
use Rattle.listing.specs.Print.{after}
use Rattle.listing.proofs.text.Writer.name.Goals as goal

pub returns : goal.returns
returns c =
    c.text.ensures ∙ ap (λ (bs : List ℕ). after bs c.args.self.now)
    (c.as_bytes.ensures.value ∙ ap (λ (x : Bor (List ℕ)). x.now) c.unwrap_or-name.ensures ∙ name_or c.args.code c.name.result _ refl c.name.ensures)
