use borrow.Author.Rules.{rules}
use Rattle.tables.proofs.ServeLaws.{one_served}
use Rattle.tables.proofs.children.one.Goals as goal

pub returns : goal.returns
returns c = one_served _ _ _ _ c.heads.ensures c.then.ensures.variant c.then.ensures.some (λ e h. search rules)
