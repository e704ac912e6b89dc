use mathlib.Core.Path.{◌≡◌}
use Prim.Native.Nat.{◌^◌, min}
use Rattle.tables.specs.Semantic.{share_start}
use Rattle.tables.proofs.semantic.share_start.Given as goal

abbrev pub invariant-loop-g : goal.invariant-loop-g
invariant-loop-g l = l.start ≡ min (share_start l.functions l.g) (2 ^ 63)
