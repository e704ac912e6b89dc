use Rattle.std.proofs.Common.{rules, ◌≡◌, ℕ, Option, None, Some, refl, ap, ◌∙◌}
use Rattle.std.specs.Option.{MatchOption}
use Rattle.tables.specs.Entries.{or_else, symbols_broken, references_broken, parents_broken, counts_broken, members_broken, entries_broken}
use Rattle.tables.proofs.entries.entries.Goals as goal

-- one table more, b after a: r is what the two tell
next : {P : Type 0} (x r a b rest all : Option ℕ) → x ≡ a → MatchOption x P (λ v. r ≡ Some v) → (P → r ≡ b) → all ≡ or_else r rest → all ≡ or_else a (or_else b rest)
next None r a b rest all q h k e = e ∙ ap (λ (z : Option ℕ). or_else z rest) (k h) ∙ ap (λ (z : Option ℕ). or_else z (or_else b rest)) q
next (Some i) r a b rest all q h k e = e ∙ ap (λ (z : Option ℕ). or_else z rest) h ∙ ap (λ (z : Option ℕ). or_else z (or_else b rest)) q

-- and the last
last : {P : Type 0} (x b r : Option ℕ) → MatchOption x P (λ v. r ≡ Some v) → (P → r ≡ b) → r ≡ or_else x b
last None b r h k = k h
last (Some i) b r h k = h

pub returns : goal.returns
unfolding entries_broken
returns c =
    let t = c.args.tables.now in
    next _ c.or_else.result _ (symbols_broken t.strings.now t.symbols.now) _ _ c.strings_broken.ensures c.or_else.ensures (λ p. search rules)
    (next _ c.or_else-2.result _ (references_broken t.symbols.now t.references.now) _ _ refl c.or_else-2.ensures (λ p. search rules)
    (next _ c.or_else-3.result _ (parents_broken t.functions.now) _ _ refl c.or_else-3.ensures (λ p. search rules)
    (next _ c.or_else-4.result _ (counts_broken t.functions.now t.members.now) _ _ refl c.or_else-4.ensures (λ p. search rules)
    (last _ (members_broken t.symbols.now t.functions.now t.members.now) _ c.or_else-5.ensures (λ p. search rules)))))
