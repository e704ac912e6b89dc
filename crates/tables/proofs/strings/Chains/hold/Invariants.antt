use Rattle.tables.proofs.SeenLaws.{Walk}
use Rattle.tables.proofs.strings.Chains.hold.Given as goal

abbrev pub invariant-loop-c : goal.invariant-loop-c
invariant-loop-c l = Walk l.string.tables.now.strings.now l.string.tables.now.bytes.now l.string.number l.c

abbrev pub decreases-loop-c : goal.decreases-loop-c
decreases-loop-c l = l.c
