use mathlib.Core.Path.{refl}
use borrow.Author.Rules.{rules}
use Rattle.codegen.proofs.WalkLaws.{whole_walked, whole_words}
use Rattle.codegen.proofs.walks.judge.Goals as goal

pub returns : goal.returns
returns c =
    let a = c.args.tree.now in record {
      run = whole_walked a.notes.now a.records.now refl c.inner.ensures c.requires;
      words = whole_words a.notes.now a.records.now refl c.inner.ensures c.requires (search rules);
    }
