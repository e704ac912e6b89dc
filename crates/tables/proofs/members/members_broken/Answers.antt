use mathlib.Core.Path.{refl}
use native.Mathlib.Omega.{arith}
use lib.ListN.{length}
use Rattle.tables.specs.Entries.{own_bad}
use Rattle.tables.specs.Seen.{symbol_at}
use Rattle.tables.proofs.PlaceLaws.{rest_start}
use Rattle.tables.proofs.SemanticLaws.{start_zero, start_next}
use Rattle.tables.proofs.EntriesLaws.{share_on, share_at, share_end}
use Rattle.tables.proofs.SeenLaws.{stamped_none}
use Rattle.tables.proofs.members.members_broken.Goals as goal

pub loop-f-init : goal.loop-f-init
loop-f-init c =
    let a = c.args in
    let b = own_bad a.symbols.now a.functions.now a.members.now in
    (omega (arith, start_zero a.functions.now), rest_start b (length a.members.now), λ h. stamped_none (symbol_at a.members.now))

pub returns-in-Some : goal.returns-in-Some
returns-in-Some c =
    let a = c.args in
    let l = c.loop-f in
    let n = start_next a.functions.now l.f in
    share_at a.symbols.now a.functions.now a.members.now l.f l.start
    c.add_count-end.result
    (omega arith)
    l.invariant.0
    (omega arith)
    (λ q. omega (arith, n))
    _
    _
    (omega arith)
    l.invariant.1
    c.share_broken.ensures.value
    _
    c.in-Some.is

pub loop-f-preserved : goal.loop-f-preserved
loop-f-preserved c =
    let a = c.args in
    let l = c.loop-f in
    let n = start_next a.functions.now l.f in (
      omega arith,
      share_on a.symbols.now a.functions.now a.members.now l.f l.start
          c.add_count-end.result
          (omega arith)
          l.invariant.0
          (omega arith)
          (λ q. omega (arith, n))
          _
          _
          (omega arith)
          l.invariant.1
          c.share_broken.ensures.value
          c.in_default.is,
      c.share_broken.ensures.stamped c.in_default.is (omega arith),
    )

pub returns : goal.returns
returns c =
    let a = c.args in
    let l = c.loop-f in
    let n = start_next a.functions.now l.f in
    share_end a.symbols.now a.functions.now a.members.now l.f l.start
    (length a.members.now)
    (omega arith)
    l.invariant.0
    (omega arith)
    (λ q. omega (arith, n))
    _
    _
    (omega arith)
    l.invariant.1
    c.share_broken-2.ensures.value
    refl
