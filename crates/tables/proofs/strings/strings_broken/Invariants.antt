use mathlib.Core.Path.{◌≡◌}
use Prim.Native.Nat.{◌<◌}
use Rattle.tables.specs.Place.{broken}
use Rattle.tables.specs.Semantic.{pairs}
use Rattle.tables.specs.Entries.{string_bad}
use Rattle.tables.specs.Seen.{hash_at, Chained}
use Rattle.tables.proofs.PlaceLaws.{rest}
use Rattle.tables.proofs.strings.strings_broken.Given as goal

abbrev pub invariant-loop-s : goal.invariant-loop-s
invariant-loop-s l =
    (rest (string_bad l.tables.strings.now l.tables.bytes.now) (pairs l.tables.strings.now) l.s
    ≡ broken (string_bad l.tables.strings.now l.tables.bytes.now) (pairs l.tables.strings.now))
    × (l.s < 1024 → Chained (hash_at l.tables.strings.now l.tables.bytes.now) l.chains l.s)
