use Prim.Native.Nat.{◌≤◌}
use mathlib.Core.Path.{◌≡◌}
use lib.ListN.{length, drop}
use lib.Seq.{paste}
use Rattle.replay.specs.Case.{all_bytes}
use Rattle.replay.proofs.case.narrow.Given as goal

-- Before turn k the first k words are bytes and are written. Assumes nothing.
abbrev pub invariant-loop-k : goal.invariant-loop-k
invariant-loop-k l =
    (l.bytes ≡ paste l.initial.bytes 0 l.words l.k) × (all_bytes l.words ≡ all_bytes (drop l.k l.words)) × (l.k ≤ length l.words) × (l.k ≤ length l.initial.bytes) ×
    (length l.bytes ≡ length l.initial.bytes)
