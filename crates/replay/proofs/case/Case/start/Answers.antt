use Rattle.std.proofs.Common.{◌+◌, length, arith}
use Rattle.replay.specs.Case.{start}
use Rattle.replay.proofs.CaseLaws.{start_more}
use Rattle.replay.proofs.case.Case.start.Goals as goal

pub loop-j-init : goal.loop-j-init
unfolding start
loop-j-init c = omega arith

pub loop-j-preserved : goal.loop-j-preserved
loop-j-preserved c =
    let s = c.args.self in
    omega (arith, start_more s.words.now s.numbers c.loop-j.j (length s.words.now + 1))
