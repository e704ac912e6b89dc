use Rattle.listing.proofs.WriterLaws.{after_room, after_full}
use Rattle.listing.proofs.text.Writer.put.Goals as goal

pub returns-then-at-self : goal.returns-then-at-self
returns-then-at-self c = after_room _ _ c.if-at-self.true

pub returns-else-at-self : goal.returns-else-at-self
returns-else-at-self c = after_full _ _ c.if-at-self.false
