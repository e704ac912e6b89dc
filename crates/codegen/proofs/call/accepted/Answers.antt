use Rattle.codegen.proofs.CallLaws.{flow_ran, listable_of, listed_answered, names_fresh, notes_fresh, refused_answered, unrefused_noted, unrefused_ran}
use Rattle.codegen.proofs.ReadyLaws.{ready_of, walkable_of}
use Rattle.pool.specs.Names.{semantic_of}
use mathlib.Core.Path.{refl}
use Rattle.codegen.proofs.call.accepted.Goals as goal

pub judge-judged-requires : goal.judge-judged-requires
judge-judged-requires c =
    let t = c.args.tables.now in
    let noted = notes_fresh t.symbols.now t.references.now t.functions.now t.members.now t.records.now c.requires.sound _ _ _ _ c.resolve.ensures in
    walkable_of t.symbols.now t.references.now t.functions.now t.members.now t.records.now c.requires.sound _ noted

pub returns-in-Refused-clause-answered : goal.returns-in-Refused-clause-answered
returns-in-Refused-clause-answered c =
    let t = c.args.tables.now in
    let noted = notes_fresh t.symbols.now t.references.now t.functions.now t.members.now t.records.now c.requires.sound _ _ _ _ c.resolve.ensures in
    refused_answered (semantic_of t) t.records.now _ _ _ _
    (flow_ran t.symbols.now t.references.now t.functions.now t.members.now t.records.now c.requires.sound _ noted _ c.judge-judged.ensures.run _ refl)
    c.in-Refused.is

pub listed-requires : goal.listed-requires
listed-requires c =
    let t = c.args.tables.now in
    let noted = notes_fresh t.symbols.now t.references.now t.functions.now t.members.now t.records.now c.requires.sound _ _ _ _ c.resolve.ensures in
    let named = names_fresh t.symbols.now t.references.now t.functions.now t.members.now t.records.now c.requires.sound _ _ _ _ c.resolve.ensures in
    let runs = unrefused_noted t.symbols.now t.references.now t.functions.now t.members.now t.records.now c.requires.sound _ noted _
    c.judge-judged.ensures.run _ refl c.in_default.not-Refused in record {
      ready = ready_of t.symbols.now t.references.now t.functions.now t.members.now t.records.now c.requires.sound _ noted c.held.ensures runs;
      walked = c.judge-judged.ensures.run;
      listable = listable_of t.symbols.now t.references.now t.functions.now t.members.now t.records.now c.requires.sound
          _ _ named _ _ _ _ _ c.requires.roomy _ noted;
    }

pub returns-clause-answered : goal.returns-clause-answered
returns-clause-answered c =
    let t = c.args.tables.now in
    let noted = notes_fresh t.symbols.now t.references.now t.functions.now t.members.now t.records.now c.requires.sound _ _ _ _ c.resolve.ensures in
    let named = names_fresh t.symbols.now t.references.now t.functions.now t.members.now t.records.now c.requires.sound _ _ _ _ c.resolve.ensures in
    let runs = unrefused_ran t.symbols.now t.references.now t.functions.now t.members.now t.records.now c.requires.sound _ noted _
    c.judge-judged.ensures.run _ refl c.in_default.not-Refused in
    listed_answered t.symbols.now t.references.now t.functions.now t.members.now t.records.now c.requires.sound
    _ _ named _ _ _ _ _ c.requires.roomy _ _ runs _ noted c.listed.ensures.listed
