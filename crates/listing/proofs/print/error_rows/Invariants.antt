use Rattle.std.proofs.Common.{◌≡◌}
use Rattle.listing.specs.Print.{after, rows_from, error_at}
use Rattle.listing.proofs.print.error_rows.Given as goal

abbrev pub invariant-loop-i : goal.invariant-loop-i
invariant-loop-i l = l.w ≡ after (rows_from (error_at l.errors) l.i 0) l.initial.w
