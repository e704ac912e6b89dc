use Prim.Native.Nat.{◌*◌, ◌+◌, ℕ}
use Rattle.codegen.proofs.LayLaws.{constants_length, markers_length}
use Rattle.codegen.proofs.TurnLaws.{line_put, rest_back, turn_own, turn_place, turn_written}
use Rattle.codegen.specs.Listing.{constants_of, markers_of, stream_of}
use Rattle.codegen.specs.Walks.{noted_run}
use Rattle.rules.specs.Out.{consts}
use lib.ListN.{length}
use mathlib.Core.Path.{◌≡◌, ◌∙◌, ap}
use native.Mathlib.Omega.{arith}
use Rattle.codegen.proofs.streams.turn.Goals as goal

pub returns : goal.returns
returns c =
    let f = c.args.functions.now in
    let t = f.tree in
    let o = c.args.outputs.now in
    let w = turn_written t.notes.now t.records.now f.places.now f.ready f.placed c.args.n c.args.at o.markers.now
    o.constants.now o.lines.now c.requires _ _ _ c.stream-counted.ensures in
    let x = stream_of (noted_run t.notes.now t.records.now) c.args.n in
    let own = turn_own t.notes.now t.records.now f.places.now f.ready f.placed c.args.n c.args.at o.markers.now
    o.constants.now o.lines.now c.requires in
    let p = turn_place t.notes.now t.records.now f.places.now f.ready f.placed c.args.n c.args.at o.markers.now
    o.constants.now o.lines.now c.requires in
    let laid = rest_back c.args.at.markers o.markers.now _ (markers_of x) w.markers in
    let held = rest_back c.args.at.constants o.constants.now _ (constants_of x) w.constants in
    let line = line_put t.records.now f.spans.now c.args.n _ x own.number p c.span_of-span.result _ _ _ _ _ o.lines.now c.requires.lines_fit
    c.put.ensures.words w.marked w.labelled w.counted c.span_of-span.ensures c.depth.ensures in
    let l = markers_length (consts x.marks) x.marks in
    let k = constants_length (consts x.marks) in
    let m : c.args.at.markers + c.stream-counted.result.markers * 2 ≡ c.args.at.markers + length (markers_of x) =
    ap (λ (q : ℕ). c.args.at.markers + q * 2) w.marked ∙ omega arith in
    let h : c.args.at.constants + c.stream-counted.result.consts * 3 ≡ c.args.at.constants + length (constants_of x) =
    ap (λ (q : ℕ). c.args.at.constants + q * 3) w.counted ∙ omega arith in record { outputs = rw (laid, held, line); reached = rw (m, h) }
