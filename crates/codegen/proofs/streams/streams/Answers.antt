use Rattle.codegen.proofs.StreamsLaws.{going_next, going_start, going_turn}
use Rattle.codegen.specs.Walks.{noted_run}
use native.Mathlib.Omega.{arith}
use Rattle.codegen.proofs.streams.streams.Goals as goal

pub loop-n-init : goal.loop-n-init
loop-n-init c =
    let t = c.args.tree.now in going_start (noted_run t.notes.now t.records.now) t.records.now c.args.spans.now c.args.outputs.now

pub turn-at-requires : goal.turn-at-requires
turn-at-requires c =
    let t = c.args.tree.now in
    let lt = c.loop-n-test.true in
    let e = c.requires.all_met in
    going_turn (noted_run t.notes.now t.records.now) t.records.now c.args.spans.now c.args.outputs.now c.requires.spaced _ _ _ c.loop-n.invariant (omega arith)

pub loop-n-preserved : goal.loop-n-preserved
loop-n-preserved c =
    let t = c.args.tree.now in
    let lt = c.loop-n-test.true in
    let e = c.requires.all_met in
    going_next (noted_run t.notes.now t.records.now) t.records.now c.args.spans.now c.args.outputs.now _ _ _ _ _ (omega arith) c.loop-n.invariant
    c.turn-at.ensures.outputs c.turn-at.ensures.reached
