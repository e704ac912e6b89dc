use Rattle.std.proofs.Common.{◌≡◌, ◌≤◌, length, take, drop}
use Rattle.listing.specs.Lines.{lines_of}
use Rattle.listing.specs.Text.{onward, rows_of}
use Rattle.listing.proofs.read.rows.Given as goal

abbrev pub invariant-loop-line : goal.invariant-loop-line
invariant-loop-line l = record {
  within : l.used ≤ length l.out;
  past : drop l.used l.out ≡ drop l.used l.initial.out;
  follows : onward (take l.used l.out)
      (rows_of l.shape.count l.shape.most (length l.initial.out) l.shape.last l.lines.number l.used (lines_of l.lines.rest.now))
      ≡ rows_of l.shape.count l.shape.most (length l.initial.out) l.shape.last l.initial.lines.number 0 (lines_of l.initial.lines.rest.now);
}

abbrev pub decreases-loop-line : goal.decreases-loop-line
decreases-loop-line l = length l.lines.rest.now
