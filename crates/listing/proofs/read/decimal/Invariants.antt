use Rattle.std.proofs.Common.{◌≡◌, ◌≤◌, drop}
use Rattle.listing.specs.Read.{all_digits, value_from, value_of}
use Rattle.listing.proofs.read.decimal.Given as goal

abbrev pub invariant-loop-b : goal.invariant-loop-b
invariant-loop-b l = (l.value ≤ 4294967295) × (all_digits (drop l.b-index l.digits) ≡ all_digits l.digits) × (value_from l.value (drop l.b-index l.digits) ≡ value_of l.digits)
