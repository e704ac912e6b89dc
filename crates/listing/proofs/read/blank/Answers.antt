use Rattle.std.proofs.Common.{sym, ap, ◌∙◌, ◌+◌, arith, rules, ℕ}
use borrow.Author.Tests.{tests}
use Rattle.listing.specs.Lines.{is_feed}
use Rattle.listing.specs.Text.{input}
use Rattle.listing.proofs.LinesLaws.{all_blank, not_blank}
use Rattle.listing.proofs.read.blank.Goals as goal

pub returns-then-feeds-lines : goal.returns-then-feeds-lines
returns-then-feeds-lines c =
    let s = c.args.lines.now in
    let r = c.run-feeds.ensures.value is_feed (λ b r q. search (rules, tests)) in
    λ t. not_blank t s.rest.now s.number (omega arith) ∙ ap (λ (n : ℕ). input (s.number + n)) (sym r)

pub returns : goal.returns
returns c =
    let s = c.args.lines.now in
    let r = c.run-feeds.ensures.value is_feed (λ b r q. search (rules, tests)) in
    λ t. all_blank t s.rest.now s.number (omega arith)
