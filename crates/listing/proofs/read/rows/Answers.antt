use Rattle.std.proofs.Common.{sym, ap, ◌∙◌, ◌≡◌, ◌+◌, ◌-◌, arith, ℕ, take, length, Some}
use Rattle.std.proofs.lemmas.Slice.{take-put_mid, drop-put_mid}
use borrow.Rule.Slice.PartMut.{put_mid}
use Rattle.listing.specs.Text.{onward, rows_of}
use Rattle.listing.specs.Lines.{lines_of}
use Rattle.listing.specs.Read.{values_of}
use Rattle.listing.proofs.ReadLaws.{agree_on}
use Rattle.listing.proofs.RowsLaws.{rows_further}
use Rattle.listing.proofs.read.rows.Goals as goal

pub loop-line-preserved : goal.loop-line-preserved
loop-line-preserved c =
    let a = c.args in
    let p = c.loop-line in
    let s = a.shape in
    let new = c.values.new.out in
    let k = p.used + s.count - p.used in
    let f = c.in-Some.ensures.0 in
    let v : values_of (length new) c.in-Some.line.bytes.now ≡ Some new = rw c.in_ok-ok_or.ensures.ok_part at c.values.ensures in
    let e : length new ≡ s.count = omega arith in
    let left = lines_of c.next_line.new.self.rest.now in
    let w = take-put_mid p.used k p.out new (p.used + s.count) (omega arith) (omega arith) in
    record {
      within = omega arith;
      past = drop-put_mid p.used k p.out new (p.used + s.count) (omega arith) (omega arith) (omega arith) ∙ agree_on p.used s.count p.out a.out.now p.invariant.past;
      follows = ap (λ (n : ℕ). onward (take (p.used + s.count) (put_mid p.used k p.out new))
          (rows_of s.count s.most (length a.out.now) s.last n (p.used + s.count) left)) f.counted
          ∙ rows_further s.count s.most (length a.out.now) s.last p.lines.number p.used p.out _ _ p.invariant.follows c.in-Some.line.bytes.now _ f.lines (grind arith) new _
          (omega arith) (omega arith) (ap (λ (n : ℕ). values_of n c.in-Some.line.bytes.now) (sym e) ∙ v) w;
    }
