use Rattle.std.proofs.Common.{refl, sym, ◌∙◌, arith}
use Rattle.listing.specs.Read.{value_of}
use Rattle.listing.proofs.ReadLaws.{all_off, all_end, value_end, value_past, decimal_none, decimal_off, decimal_large, decimal_value, digit_read, no_digit}
use Rattle.listing.proofs.read.decimal.Goals as goal

pub returns-then-is_empty : goal.returns-then-is_empty
returns-then-is_empty c = sym (decimal_none _ (grind arith))

pub loop-b-init : goal.loop-b-init
unfolding value_of
loop-b-init c = (omega arith, refl, refl)

pub returns-in_err-digit : goal.returns-in_err-digit
returns-in_err-digit c =
    let l = c.args.digits.now in
    let p = c.loop-b in
    let g = c.in_err-digit.ensures in
    c.from_residual.ensures ∙ sym (decimal_off l (sym p.invariant.1 ∙ all_off l p.b-index (omega arith) (no_digit _ g.cases)))

pub returns-in_err-checked_mul : goal.returns-in_err-checked_mul
returns-in_err-checked_mul c =
    let l = c.args.digits.now in
    let p = c.loop-b in
    let s = value_past l p.b-index p.value (omega arith) in
    let e = decimal_large l (omega (arith, s, p.invariant.2)) in grind (arith, e)

pub returns-in_err-value : goal.returns-in_err-value
returns-in_err-value c =
    let l = c.args.digits.now in
    let p = c.loop-b in
    let g = c.in_ok-digit.ensures in
    let d = digit_read _ c.in_ok-digit.digit g.cases (omega arith) in
    let s = value_past l p.b-index p.value (omega arith) in
    let e = decimal_large l (omega (arith, s, p.invariant.2, d.1)) in grind (arith, e)

pub returns : goal.returns
returns c =
    let l = c.args.digits.now in
    let p = c.loop-b in
    decimal_value l p.value (grind arith) (sym p.invariant.1 ∙ all_end l p.b-index (omega arith)) (omega arith) (sym (value_end l p.b-index p.value (omega arith)) ∙ p.invariant.2)
