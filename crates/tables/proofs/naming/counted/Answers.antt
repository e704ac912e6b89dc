use Rattle.std.proofs.Common.{◌≡◌, ℕ, ◌<◌, min, get_or, subst, arith}
use Rattle.tables.specs.Naming.{named_by}
use Rattle.tables.proofs.NamingLaws.{counts_none, counts_more}
use Rattle.tables.proofs.naming.counted.Goals as goal

pub loop-r-init : goal.loop-r-init
loop-r-init c = counts_none _

pub loop-r-preserved : goal.loop-r-preserved
loop-r-preserved c =
    let l = c.loop-r in
    counts_more _ l.counts _ _ l.r _ _ l.invariant c.first_word.ensures c.note.ensures c.next_word.ensures c.note-in-loop-r.ensures

pub returns : goal.returns
returns c =
    subst (λ n. (x : ℕ) → x < 4096 → get_or c.loop-r.counts x 0 ≡ min 2 (named_by c.args.recs.now x n)) (omega (arith, c.size-r-end.ensures)) c.loop-r.invariant.1
