use Rattle.plain.proofs.CountLaws.{numbers_none, numbers_some}
use mathlib.Core.Path.{ap}
use lib.ListN.{length}
use native.Mathlib.Omega.{arith}
use Rattle.plain.proofs.siblings.SiblingsIterator.next.Goals as goal

pub returns-then-self-eq0-clause-steps : goal.returns-then-self-eq0-clause-steps
returns-then-self-eq0-clause-steps c =
    let none = numbers_none c.args.self.now.records.now _ c.if-self-eq0.true in (none, none)

pub returns-clause-steps : goal.returns-clause-steps
returns-clause-steps c =
    numbers_some c.args.self.now.records.now _ _ c.if-self-eq0.false c.next-self.ensures

pub returns-clause-goes : goal.returns-clause-goes
returns-clause-goes c =
    record {
      on = λ ends. (tt, tt, omega (arith, ap length (numbers_some c.args.self.now.records.now _ _ c.if-self-eq0.false c.next-self.ensures)));
      keeps = tt;
      rests = λ ends. tt;
    }
