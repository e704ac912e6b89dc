use Rattle.std.proofs.Common.{◌≡◌, ◌≤◌, length, take, drop}
use Rattle.listing.specs.Lines.{lines_of}
use Rattle.listing.specs.Places.{SameBuffers}
use Rattle.listing.specs.Text.{onward_text, strings_of}
use Rattle.listing.proofs.read.string_lines.Given as goal

abbrev pub invariant-loop-line : goal.invariant-loop-line
invariant-loop-line l = record {
  few : l.table.used ≤ 281;
  inside_words : l.table.used ≤ length l.table.words.now;
  inside_bytes : l.table.held ≤ length l.table.bytes.now;
  same : SameBuffers l.initial.table l.table;
  past_words : drop l.table.used l.table.words.now ≡ drop l.table.used l.initial.table.words.now;
  past_bytes : drop l.table.held l.table.bytes.now ≡ drop l.table.held l.initial.table.bytes.now;
  follows : onward_text (take l.table.used l.table.words.now) (take l.table.held l.table.bytes.now)
      (strings_of (length l.initial.table.words.now) (length l.initial.table.bytes.now) l.lines.number l.table.used l.table.held (lines_of l.lines.rest.now))
      ≡ strings_of (length l.initial.table.words.now) (length l.initial.table.bytes.now) l.initial.lines.number 0 0 (lines_of l.initial.lines.rest.now);
}

abbrev pub decreases-loop-line : goal.decreases-loop-line
decreases-loop-line l = length l.lines.rest.now
