use Rattle.std.proofs.Common.{sym, ap, ◌∙◌, ◌≡◌, ◌+◌, ◌-◌, arith, List, ℕ, drop, take, set, length, Some}
use borrow.Rule.Slice.PartMut.{put_mid}
use lib.ListN.{length-take, length-drop}
use Rattle.listing.proofs.StringsLaws.{written_before, written, written_after}
use Rattle.listing.proofs.read.Strings.add.Goals as goal

pub returns-clause-entered : goal.returns-clause-entered
returns-clause-entered c =
    let a = c.args.self.now in
    let n = c.in_ok-count.count in
    let new = c.hexadecimal.new.out in
    let h = c.in_ok-count.ensures in
    let e : a.held + n - a.held ≡ n = omega arith in
    let s : length new ≡ length a.bytes.now - a.held = omega (arith, length-take (length a.bytes.now - a.held) (drop a.held a.bytes.now), length-drop a.held a.bytes.now) in (
      omega arith,
      omega arith,
      omega arith,
      omega arith,
      h.1 ∙ ap (λ (l : List ℕ). Some (take n l)) (sym (written a.bytes.now new a.held c.requires.bytes s))
          ∙ ap (λ (i : ℕ). Some (take i (drop a.held (put_mid a.held (length a.bytes.now - a.held) a.bytes.now new)))) (sym e),
      written_before a.bytes.now new a.held c.requires.bytes s,
      ap (λ (i : ℕ). set (set a.words.now a.used a.held) (a.used + 1) i) (sym e),
      written_after a.bytes.now new a.held c.requires.bytes s n h.2,
    )
