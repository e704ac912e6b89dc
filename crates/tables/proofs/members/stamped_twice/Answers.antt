use mathlib.Core.Path.{sym, ap, ◌∙◌}
use lib.Dec.{ltb}
use Rattle.tables.specs.Seen.{last, symbol_at}
use Rattle.tables.proofs.SeenLaws.{twice_since}
use Rattle.tables.proofs.members.stamped_twice.Goals as goal

pub returns-then-symbol-lt1024 : goal.returns-then-symbol-lt1024
returns-then-symbol-lt1024 c =
    let a = c.args in
    ap (ltb a.start) ((c.requires.stamped c.if-m-lt1024.true).each a.symbol c.if-symbol-lt1024.true
    ∙ ap (λ x. last (symbol_at a.members.now) x a.m) c.requires.known)
    ∙ sym (twice_since a.members.now a.start a.m)
