use Rattle.pool.proofs.NameTables.{all_laid, span_laid}
use Rattle.pool.specs.NameSteps.{class_by, entries_named}
use Rattle.pool.specs.declared.spans.Span.{Span}
use mathlib.Core.Path.{◌∙◌, ap}
use Rattle.pool.proofs.lookup.Lookup.name.Goals as goal

pub returns-then-share-le1024 : goal.returns-then-share-le1024
returns-then-share-le1024 c =
    record {
      words = all_laid (class_by c.args.self.now) c.args.share.now c.args.entries.now _ _ _ _ _ _ _ c.pass-globals.ensures.words
          c.pass-globals.ensures.place c.pass-upvalues.ensures.words c.pass-upvalues.ensures.place c.pass-end.ensures.words
          c.pass-end.ensures.place c.if-share-le1024.true
          ∙ ap (λ (s : Span). entries_named (class_by c.args.self.now) c.args.share.now c.args.entries.now s.start) c.span_of-start.ensures;
      span = span_laid (class_by c.args.self.now) c.args.share.now c.args.entries.now _ _ _ _ _ _ _ c.pass-globals.ensures.words
          c.pass-globals.ensures.place c.pass-upvalues.ensures.words c.pass-upvalues.ensures.place c.pass-end.ensures.words
          c.pass-end.ensures.place c.if-share-le1024.true c.args.spans.now _ c.args.f _ (ap (λ (s : Span). s.start) c.span_of-start.ensures) c.put_span.ensures;
    }
