use Rattle.std.proofs.Common.{◌≡◌, refl, ap, ◌∙◌, ◌+◌, arith, rules, ℕ, take, length, Some, None}
use Rattle.listing.specs.Lines.{lines_of}
use Rattle.listing.specs.Places.{held_after}
use Rattle.listing.specs.Text.{onward_text, strings_of}
use Rattle.listing.proofs.ReadLaws.{agree_on, agree_upto}
use Rattle.listing.proofs.StringsLaws.{text_further, text_refused, given_back}
use Rattle.listing.proofs.read.string_lines.Goals as goal

pub loop-line-init : goal.loop-line-init
loop-line-init c =
    record {
      few = omega arith;
      inside_words = omega arith;
      inside_bytes = omega arith;
      same = record { words = refl; bytes = refl; many_words = refl; many_bytes = refl };
      past_words = refl;
      past_bytes = refl;
      follows = search rules;
    }

pub loop-line-preserved : goal.loop-line-preserved
loop-line-preserved c =
    let a = c.args in
    let p = c.loop-line in
    let s = p.table in
    let new = c.add.new.self in
    let f = c.in-Some.ensures.0 in
    let some : c.add.result ≡ Some tt = search rules in
    let used : new.used ≡ s.used + 2 = rw some at c.add.ensures.used in
    let t = text_further (length a.strings.now) (length a.bytes.now) p.lines.number s.used s.held s.words.now s.bytes.now _ _ p.invariant.follows c.in-Some.line.bytes.now _
    f.lines (grind arith) new.words.now new.bytes.now new.held _ (omega arith) (omega arith) c.add.ensures.entered (ap (held_after new.held) some)
    (omega arith) (omega arith) (omega arith) in rw used record {
      few = omega arith;
      inside_words = omega arith;
      inside_bytes = omega arith;
      same = record {
        words = c.add.ensures.same.words ∙ p.invariant.same.words;
        bytes = c.add.ensures.same.bytes ∙ p.invariant.same.bytes;
        many_words = omega arith;
        many_bytes = omega arith;
      };
      past_words = t.3 ∙ agree_on s.used 2 s.words.now a.strings.now p.invariant.past_words;
      past_bytes = t.5 ∙ agree_upto s.held _ s.bytes.now a.bytes.now t.4 p.invariant.past_bytes;
      follows = ap (λ (n : ℕ). onward_text (take (s.used + 2) new.words.now) (take new.held new.bytes.now)
          (strings_of (length a.strings.now) (length a.bytes.now) n (s.used + 2) new.held (lines_of c.next_line.new.self.rest.now))) f.counted
          ∙ t.0;
    }

pub returns-in_err-ok_or : goal.returns-in_err-ok_or
returns-in_err-ok_or c =
    let a = c.args in
    let p = c.loop-line in
    let s = p.table in
    let new = c.add.new.self in
    let f = c.in-Some.ensures.0 in
    let none : c.add.result ≡ None = search rules in
    let e = text_refused (length a.strings.now) (length a.bytes.now) p.lines.number s.used s.held s.words.now s.bytes.now _ _ p.invariant.follows c.in-Some.line.bytes.now _
    f.lines (grind arith) new.words.now new.bytes.now _ (omega arith) c.add.ensures.entered (ap (held_after new.held) none) (omega arith) (omega arith) in search rules

pub returns-then-is_empty : goal.returns-then-is_empty
returns-then-is_empty c = given_back _ _ c.loop-line.table.words.now c.loop-line.table.bytes.now (search rules) (search rules) (search rules)
