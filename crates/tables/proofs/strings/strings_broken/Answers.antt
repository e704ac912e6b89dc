use mathlib.Core.Path.{sym, ◌∙◌}
use native.Mathlib.Omega.{arith}
use Rattle.tables.specs.Semantic.{pairs}
use Rattle.tables.specs.Entries.{string_bad}
use Rattle.tables.specs.Seen.{hash_at}
use Rattle.tables.proofs.PlaceLaws.{rest_start}
use Rattle.tables.proofs.EntriesLaws.{go_on, stop_at, ended}
use Rattle.tables.proofs.strings.strings_broken.Goals as goal

pub loop-s-init : goal.loop-s-init
loop-s-init c =
    let t = c.args.tables.now in
    (rest_start (string_bad t.strings.now t.bytes.now) (pairs t.strings.now), λ h. c.new-chains.ensures (hash_at t.strings.now t.bytes.now))

pub returns-then-is_bad : goal.returns-then-is_bad
returns-then-is_bad c =
    let t = c.args.tables.now in
    let l = c.loop-s in
    stop_at (string_bad t.strings.now t.bytes.now) (pairs t.strings.now) l.s _ l.invariant.0 (omega arith)
    (sym c.is_bad.ensures ∙ c.if-is_bad.true)

pub loop-s-preserved : goal.loop-s-preserved
loop-s-preserved c =
    let t = c.args.tables.now in
    let l = c.loop-s in (
      go_on (string_bad t.strings.now t.bytes.now) (pairs t.strings.now) l.s _ l.invariant.0 (omega arith)
          (sym c.is_bad.ensures ∙ c.if-is_bad.false),
      λ h. c.add.ensures (omega arith) (l.invariant.1 (omega arith)),
    )

pub returns : goal.returns
returns c =
    let t = c.args.tables.now in
    let l = c.loop-s in
    ended (string_bad t.strings.now t.bytes.now) (pairs t.strings.now) l.s _ l.invariant.0 (omega arith)
