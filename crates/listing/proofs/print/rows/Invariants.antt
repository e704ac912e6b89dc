use Rattle.std.proofs.Common.{◌≡◌, ℕ, List}
use Rattle.std.specs.Borrow.{MutBor}
use Rattle.listing.specs.declared.text.Writer.{Writer}
use Rattle.listing.specs.Print.{rows_from, after}
use Rattle.listing.proofs.print.rows.Given as goal

abbrev pub invariant-loop-i : goal.invariant-loop-i
invariant-loop-i g l =
    (text : ℕ → List ℕ) → ((i : ℕ) (u v : MutBor Writer) → goal.F-post g l.row u i tt v → v.now ≡ after (text i) u.now)
    → l.w ≡ after (rows_from text l.i 0) l.initial.w
