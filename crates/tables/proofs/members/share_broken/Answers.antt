use mathlib.Core.Path.{◌≡◌, sym, subst, ◌∙◌}
use native.Mathlib.Omega.{arith}
use Rattle.tables.specs.Entries.{member_bad}
use Rattle.tables.specs.Seen.{symbol_at, Stamped}
use Rattle.tables.proofs.EntriesLaws.{go_on, stop_at, ended, nowhere_not}
use Rattle.tables.proofs.members.share_broken.Goals as goal

pub returns-then-member_bad : goal.returns-then-member_bad
returns-then-member_bad c =
    let a = c.args in
    let l = c.loop-m in record {
      value = stop_at (member_bad a.symbols.now a.members.now a.start) a.end l.m _ l.invariant.0 (omega arith)
          (sym c.member_bad.ensures ∙ c.if-member_bad.true);
      stamped = λ q o h. absurd (nowhere_not _ q);
    }

pub loop-m-preserved : goal.loop-m-preserved
loop-m-preserved c =
    let a = c.args in
    let l = c.loop-m in (
      go_on (member_bad a.symbols.now a.members.now a.start) a.end l.m _ l.invariant.0 (omega arith)
          (sym c.member_bad.ensures ∙ c.if-member_bad.false),
      λ h. c.stamp.ensures (symbol_at a.members.now) (omega arith) c.entry.ensures (l.invariant.1 (omega arith)),
    )

pub returns : goal.returns
returns c =
    let a = c.args in
    let l = c.loop-m in record {
      value = ended (member_bad a.symbols.now a.members.now a.start) a.end l.m _ l.invariant.0 (omega arith);
      stamped = λ q o h.
          let z : l.m ≡ a.end = omega arith in
          subst (λ x. Stamped (symbol_at a.members.now) l.seen x) z (l.invariant.1 (omega arith));
    }
