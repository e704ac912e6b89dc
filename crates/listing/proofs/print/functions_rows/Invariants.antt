use Rattle.std.proofs.Common.{◌≡◌, ◌-◌}
use Rattle.listing.specs.Print.{after, functions_text}
use Rattle.listing.proofs.print.functions_rows.Given as goal

abbrev pub invariant-loop-f : goal.invariant-loop-f
invariant-loop-f l =
    after (functions_text l.count 0 l.s.symbols.now l.s.records.now l.s.lines.now l.s.markers.now l.s.constants.now l.s.names.now) l.initial.w
    ≡ after (functions_text (l.count - l.f) l.f l.left.symbols.now l.left.records.now l.left.lines.now l.left.markers.now l.left.constants.now l.left.names.now) l.w
