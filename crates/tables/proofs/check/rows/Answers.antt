use mathlib.Core.Path.{sym, ◌∙◌}
use Rattle.tables.specs.declared.refusal.RecordRule.TheVariants.{Detail, Link, Children, Naming, Nesting, Numbering}
use Rattle.tables.specs.declared.refusal.Refusal.TheVariants.{Entry, Record}
use Rattle.tables.specs.Naming.{Joined}
use Rattle.tables.specs.Check.{rows_of}
use Rattle.tables.proofs.CheckLaws.{skip, halt, of_strings, one_tree}
use Rattle.tables.proofs.check.rows.Goals as goal

pub returns-in-Some : goal.returns-in-Some
unfolding rows_of
returns-in-Some c =
    λ small some.
    halt Entry _ _ _ _ c.entries.ensures c.in-Some.is

pub returns-in-Some-details : goal.returns-in-Some-details
unfolding rows_of
returns-in-Some-details c =
    λ small some.
    let said = of_strings c.args.tables.now.records.now c.args.tables.now.strings.now _ _ c.details.ensures c.pairs.ensures in
    halt (Record Detail) _ _ _ _ said c.in-Some-details.is
    ∙ skip Entry _ _ _ c.entries.ensures c.in_default.is

pub returns-in-Some-links : goal.returns-in-Some-links
unfolding rows_of
returns-in-Some-links c =
    λ small some.
    let said = of_strings c.args.tables.now.records.now c.args.tables.now.strings.now _ _ c.details.ensures c.pairs.ensures in
    halt (Record Link) _ _ _ _ c.links.ensures c.in-Some-links.is
    ∙ skip (Record Detail) _ _ _ said c.in_default-details.is
    ∙ skip Entry _ _ _ c.entries.ensures c.in_default.is

pub returns-in-Some-children : goal.returns-in-Some-children
unfolding rows_of
returns-in-Some-children c =
    λ small some.
    let said = of_strings c.args.tables.now.records.now c.args.tables.now.strings.now _ _ c.details.ensures c.pairs.ensures in
    halt (Record Children) _ _ _ _ c.children.ensures c.in-Some-children.is
    ∙ skip (Record Link) _ _ _ c.links.ensures c.in_default-links.is
    ∙ skip (Record Detail) _ _ _ said c.in_default-details.is
    ∙ skip Entry _ _ _ c.entries.ensures c.in_default.is

pub returns-in-Some-naming : goal.returns-in-Some-naming
unfolding rows_of
returns-in-Some-naming c =
    λ small some.
    let said = of_strings c.args.tables.now.records.now c.args.tables.now.strings.now _ _ c.details.ensures c.pairs.ensures in
    halt (Record Naming) _ _ _ _ (c.naming.ensures small) c.in-Some-naming.is
    ∙ skip (Record Children) _ _ _ c.children.ensures c.in_default-children.is
    ∙ skip (Record Link) _ _ _ c.links.ensures c.in_default-links.is
    ∙ skip (Record Detail) _ _ _ said c.in_default-details.is
    ∙ skip Entry _ _ _ c.entries.ensures c.in_default.is

pub returns-in-Some-nesting : goal.returns-in-Some-nesting
unfolding rows_of
returns-in-Some-nesting c =
    λ small some.
    let said = of_strings c.args.tables.now.records.now c.args.tables.now.strings.now _ _ c.details.ensures c.pairs.ensures in
    let tree : Joined c.args.tables.now.records.now = one_tree c.args.tables.now.records.now some (sym c.links.ensures ∙ c.in_default-links.is)
    (sym c.children.ensures ∙ c.in_default-children.is) (sym (c.naming.ensures small) ∙ c.in_default-naming.is) in
    halt (Record Nesting) _ _ _ _ (c.nesting.ensures small tree) c.in-Some-nesting.is
    ∙ skip (Record Naming) _ _ _ (c.naming.ensures small) c.in_default-naming.is
    ∙ skip (Record Children) _ _ _ c.children.ensures c.in_default-children.is
    ∙ skip (Record Link) _ _ _ c.links.ensures c.in_default-links.is
    ∙ skip (Record Detail) _ _ _ said c.in_default-details.is
    ∙ skip Entry _ _ _ c.entries.ensures c.in_default.is

pub returns-in-Some-numbering : goal.returns-in-Some-numbering
unfolding rows_of
returns-in-Some-numbering c =
    λ small some.
    let said = of_strings c.args.tables.now.records.now c.args.tables.now.strings.now _ _ c.details.ensures c.pairs.ensures in
    let tree : Joined c.args.tables.now.records.now = one_tree c.args.tables.now.records.now some (sym c.links.ensures ∙ c.in_default-links.is)
    (sym c.children.ensures ∙ c.in_default-children.is) (sym (c.naming.ensures small) ∙ c.in_default-naming.is) in
    halt (Record Numbering) _ _ _ _ (c.numbering.ensures small tree) c.in-Some-numbering.is
    ∙ skip (Record Nesting) _ _ _ (c.nesting.ensures small tree) c.in_default-nesting.is
    ∙ skip (Record Naming) _ _ _ (c.naming.ensures small) c.in_default-naming.is
    ∙ skip (Record Children) _ _ _ c.children.ensures c.in_default-children.is
    ∙ skip (Record Link) _ _ _ c.links.ensures c.in_default-links.is
    ∙ skip (Record Detail) _ _ _ said c.in_default-details.is
    ∙ skip Entry _ _ _ c.entries.ensures c.in_default.is

pub returns : goal.returns
unfolding rows_of
returns c =
    λ small some.
    let said = of_strings c.args.tables.now.records.now c.args.tables.now.strings.now _ _ c.details.ensures c.pairs.ensures in
    let tree : Joined c.args.tables.now.records.now = one_tree c.args.tables.now.records.now some (sym c.links.ensures ∙ c.in_default-links.is)
    (sym c.children.ensures ∙ c.in_default-children.is) (sym (c.naming.ensures small) ∙ c.in_default-naming.is) in
    skip (Record Numbering) _ _ _ (c.numbering.ensures small tree) c.in_default-numbering.is
    ∙ skip (Record Nesting) _ _ _ (c.nesting.ensures small tree) c.in_default-nesting.is
    ∙ skip (Record Naming) _ _ _ (c.naming.ensures small) c.in_default-naming.is
    ∙ skip (Record Children) _ _ _ c.children.ensures c.in_default-children.is
    ∙ skip (Record Link) _ _ _ c.links.ensures c.in_default-links.is
    ∙ skip (Record Detail) _ _ _ said c.in_default-details.is
    ∙ skip Entry _ _ _ c.entries.ensures c.in_default.is
