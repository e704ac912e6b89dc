use borrow.Author.Tests.{lt-ltb, le-ltb}
use Rattle.tables.specs.Forest.{guarded}
use Rattle.tables.proofs.ast.link.Goals.{else-r-x-via-then-r-x+else-x-size, else-r-x-via-else-r-x}
use Rattle.tables.proofs.ast.link.Goals as goal

pub returns-then-x-size : goal.returns-then-x-size
unfolding guarded
returns-then-x-size c = let e = c.word-x.ensures in let f = c.size.ensures in simp (← e, ← f, lt-ltb _ _ c.if-r-x.true, lt-ltb _ _ c.if-x-size.true)

pub returns-else-r-x : goal.returns-else-r-x
unfolding guarded
returns-else-r-x c =
    let e = c.word-x.ensures in
    elim c.else-r-x.branch [
      | else-r-x-via-then-r-x+else-x-size w ↦ let f = w.size.ensures in simp (← e, ← f, lt-ltb _ _ w.if-r-x.true, le-ltb _ _ w.if-x-size.false)
      | else-r-x-via-else-r-x w ↦ simp (← e, le-ltb _ _ w.if-r-x.false)
    ]
