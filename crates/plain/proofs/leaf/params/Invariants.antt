use Prim.Native.Nat.{◌-◌}
use Rattle.context.specs.Rep.{lent}
use Rattle.plain.proofs.LoopLaws.{Down}
use Rattle.plain.proofs.leaf.params.Given as goal

abbrev pub invariant-loop : goal.invariant-loop
invariant-loop l =
    Down (lent l.tree) l.r l.initial.cx l.cx (l.end - l.counter) l.param
