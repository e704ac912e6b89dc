use mathlib.Core.Path.{◌≡◌}
use Prim.Native.Nat.{◌<◌}
use Rattle.tables.specs.Entries.{member_bad}
use Rattle.tables.specs.Seen.{symbol_at, Stamped}
use Rattle.tables.proofs.PlaceLaws.{rest}
use Rattle.tables.proofs.members.share_broken.Given as goal

abbrev pub invariant-loop-m : goal.invariant-loop-m
invariant-loop-m l =
    (rest (member_bad l.symbols l.members l.start) l.end l.m ≡ rest (member_bad l.symbols l.members l.start) l.end l.start)
    × (l.m < 1024 → Stamped (symbol_at l.members) l.seen l.m)
