use mathlib.Core.Path.{◌≡◌}
use Prim.Native.Nat.{◌<◌, min}
use lib.ListN.{length}
use Rattle.tables.specs.Place.{broken}
use Rattle.tables.specs.Semantic.{share_start}
use Rattle.tables.specs.Entries.{own_bad}
use Rattle.tables.specs.Seen.{symbol_at, Stamped}
use Rattle.tables.proofs.PlaceLaws.{rest}
use Rattle.tables.proofs.members.members_broken.Given as goal

abbrev pub invariant-loop-f : goal.invariant-loop-f
invariant-loop-f l =
    (l.start ≡ min (share_start l.functions l.f) (length l.members))
    × (rest (own_bad l.symbols l.functions l.members) (length l.members) l.start ≡ broken (own_bad l.symbols l.functions l.members) (length l.members))
    × (l.start < 1024 → Stamped (symbol_at l.members) l.seen l.start)
