use Rattle.std.proofs.Common.{sym, ap, ◌∙◌, ◌-◌, ◌≡◌, length, arith, rules, ℕ}
use lib.ListN.{length-set}
use borrow.Author.Tests.{tests}
use Rattle.listing.specs.Read.{values_of, values_from, is_digit}
use Rattle.listing.proofs.ReadLaws.{joined_none, again, stops}
use Rattle.listing.proofs.read.values.Goals as goal

pub loop-k-init : goal.loop-k-init
unfolding values_of
loop-k-init c = let z : length c.args.out.now - 0 ≡ length c.args.out.now = omega arith in
    joined_none _ ∙ ap (λ (n : ℕ). values_from 0 n c.args.line.now) z

pub returns-in_err-value : goal.returns-in_err-value
returns-in_err-value c =
    let p = c.loop-k in
    let r = c.run.ensures.value is_digit (λ b r q. search (rules, tests)) in
    let s = stops p.rest.now _ _ _ p.out (length p.out) p.k _ _ _ c.gap.ensures.value c.split_at.ensures.back r c.split_at-in-loop-k.ensures.front c.split_at-in-loop-k.ensures.back
    (omega arith) p.invariant (let g = c.in_err-value.ensures in sym g) in
    rw c.from_residual.ensures (rw length-set s)

pub loop-k-preserved : goal.loop-k-preserved
loop-k-preserved c =
    let p = c.loop-k in
    let r = c.run.ensures.value is_digit (λ b r q. search (rules, tests)) in
    let s = again p.rest.now _ _ _ p.out (length p.out) p.k _ _ _ c.gap.ensures.value c.split_at.ensures.back r c.split_at-in-loop-k.ensures.front c.split_at-in-loop-k.ensures.back
    (omega arith) p.invariant _ (omega arith) (let g = c.in_ok-value.ensures in sym g) in
    rw length-set s
