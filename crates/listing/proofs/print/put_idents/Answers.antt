use mathlib.Core.Path.{sym, ap, ◌∙◌}
use mathlib.Core.List.{List, [], ◌∷◌, ◌++◌}
use Prim.Native.Nat.{ℕ, ◌-◌, ◌+◌}
use native.Mathlib.Omega.{arith}
use Rattle.tables.specs.Record.{word, size}
use Rattle.listing.specs.Print.{after, decimal, idents}
use Rattle.listing.proofs.WriterLaws.{left_next, left_none, on}
use Rattle.listing.proofs.PrintLaws.{idents_none, idents_last, idents_more}
use Rattle.listing.proofs.print.put_idents.Goals as goal

pub returns-then-r-eq0 : goal.returns-then-r-eq0
returns-then-r-eq0 c =
    let a = c.args in
    let l = c.loop in
    c.last_param.ensures
    ∙ sym (l.invariant ∙ ap (λ (ts : List ℕ). after ts l.w)
    (idents_last (c.size-end.result - l.counter) a.recs.now (word a.recs.now a.list 1) l.r _ _ (omega arith) c.q-string.ensures c.next-r.ensures c.if-r-eq0.true))

pub loop-preserved : goal.loop-preserved
loop-preserved c =
    let a = c.args in
    let l = c.loop in
    let n = c.size-end.result in
    let s = c.q-string.result in
    let all = idents (size a.recs.now) a.recs.now (word a.recs.now a.list 1) a.from in
    left_next all (decimal s ++ (44 ∷ [])) _ l.w a.w.now
    (l.invariant ∙ ap (λ (ts : List ℕ). after ts l.w)
    (idents_more (n - l.counter) (n - (l.counter + 1)) a.recs.now (word a.recs.now a.list 1) l.r s _ (omega arith) c.q-string.ensures c.next-r.ensures c.if-r-eq0.false))
    (on _ _ _ _ (c.number.ensures ∙ ap (λ (n : ℕ). after (decimal n) l.w) c.from.ensures) c.put.ensures)

pub returns : goal.returns
returns c =
    let a = c.args in
    let l = c.loop in
    left_none _ _ (l.invariant ∙ ap (λ (ts : List ℕ). after ts l.w) (idents_none (c.size-end.result - l.counter) a.recs.now (word a.recs.now a.list 1) l.r (omega arith)))
