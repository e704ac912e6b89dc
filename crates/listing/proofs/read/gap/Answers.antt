use Rattle.std.proofs.Common.{rules, arith}
use Rattle.std.proofs.lemmas.Bool.Decides.{nat_tests}
use borrow.Author.Tests.{tests}
use Rattle.listing.specs.Read.{gap, is_space}
use Rattle.listing.proofs.read.gap.Goals as goal

pub returns-then-k-eq0 : goal.returns-then-k-eq0
unfolding gap
returns-then-k-eq0 c = record { value = grind (arith, nat_tests); bound = omega arith }

pub returns-clause-value : goal.returns-clause-value
unfolding gap
returns-clause-value c = let e = c.run.ensures.value is_space (λ b r q. search (rules, tests)) in grind (arith, nat_tests)
