use Rattle.std.proofs.Common.{◌≡◌, ◌-◌}
use Rattle.tables.specs.Record.{word, size}
use Rattle.listing.specs.Print.{after, idents}
use Rattle.listing.proofs.print.put_idents.Given as goal

abbrev pub invariant-loop : goal.invariant-loop
invariant-loop l = after (idents (size l.recs) l.recs (word l.recs l.list 1) l.from) l.initial.w ≡ after (idents (l.end - l.counter) l.recs (word l.recs l.list 1) l.r) l.w
