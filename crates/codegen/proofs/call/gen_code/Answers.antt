use Rattle.codegen.proofs.AnswerLaws.{checked_roomy, checked_sound, demanded, refused_answer, run_answer}
use Rattle.codegen.specs.Call.{written_of}
use mathlib.Core.Path.{◌∙◌, refl}
use Rattle.codegen.proofs.call.gen_code.Goals as goal

pub returns-in-Err : goal.returns-in-Err
unfolding written_of
returns-in-Err c =
    let t = c.args.tables.now in record {
      answer = refused_answer t.strings.now t.bytes.now t.symbols.now t.references.now t.functions.now t.members.now t.records.now
          _ _ _ _ _ _ _ c.check.ensures c.in-Err.is;
      markers = refl;
      constants = refl;
      names = refl;
      errors = refl;
      lines = refl;
      demand3 = tt;
      same = record { markers = refl; constants = refl; names = refl; errors = refl; lines = refl };
    }

pub accepted-requires : goal.accepted-requires
accepted-requires c =
    let t = c.args.tables.now in record {
      sound = checked_sound t.strings.now t.bytes.now t.symbols.now t.references.now t.functions.now t.members.now t.records.now
          _ _ _ _ _ _ c.check.ensures c.in_default.is;
      roomy = checked_roomy t.strings.now t.bytes.now t.symbols.now t.references.now t.functions.now t.members.now t.records.now
          _ _ _ _ _ _ c.check.ensures c.in_default.is;
    }

pub returns : goal.returns
returns c =
    let t = c.args.tables.now in
    let w = c.accepted.ensures.answered in
    let v = w.written in
    let sound = checked_sound t.strings.now t.bytes.now t.symbols.now t.references.now t.functions.now t.members.now t.records.now
    _ _ _ _ _ _ c.check.ensures c.in_default.is in record {
      answer = w.answer ∙ run_answer t.strings.now t.bytes.now t.symbols.now t.references.now t.functions.now t.members.now t.records.now
          _ _ _ _ _ _ c.check.ensures c.in_default.is;
      markers = v.markers;
      constants = v.constants;
      names = v.names;
      errors = v.errors;
      lines = v.lines;
      demand3 = demanded t.symbols.now t.references.now t.functions.now t.members.now t.records.now sound _ _ _ w;
      same = c.accepted.ensures.same;
    }
