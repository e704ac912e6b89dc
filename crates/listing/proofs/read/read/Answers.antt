use Rattle.std.proofs.Common.{◌∙◌, rules}
use Rattle.listing.proofs.ReadingLaws.{first, off, stands, refused, accepted, read1, read3, read4, read5, read6, read7}
use Rattle.listing.proofs.read.read.Goals as goal

pub returns-in_err-texts : goal.returns-in_err-texts
returns-in_err-texts c =
    refused c.in_err-texts.field-0.0 (search rules) (off _ (first _ _) c.in_err-texts.ensures) (search rules)

pub returns-in_err-table : goal.returns-in_err-table
returns-in_err-table c =
    refused c.in_err-table.field-0.0 (search rules) (off _ (read1 _ _ c.in_ok-texts.ensures.2) c.in_err-table.ensures) (search rules)

pub returns-in_err-table-2 : goal.returns-in_err-table-2
returns-in_err-table-2 c =
    refused c.in_err-table-2.field-0.0 (search rules) (off _ (read3 _ _ c.in_ok-texts.ensures.2 c.in_ok-table.ensures.1) c.in_err-table-2.ensures) (search rules)

pub returns-in_err-table-3 : goal.returns-in_err-table-3
returns-in_err-table-3 c =
    refused c.in_err-table-3.field-0.0 (search rules)
    (off _ (read4 _ _ c.in_ok-texts.ensures.2 c.in_ok-table.ensures.1 c.in_ok-table-2.ensures.1) c.in_err-table-3.ensures) (search rules)

pub returns-in_err-table-4 : goal.returns-in_err-table-4
returns-in_err-table-4 c =
    refused c.in_err-table-4.field-0.0 (search rules)
    (off _ (read5 _ _ c.in_ok-texts.ensures.2 c.in_ok-table.ensures.1 c.in_ok-table-2.ensures.1 c.in_ok-table-3.ensures.1) c.in_err-table-4.ensures) (search rules)

pub returns-in_err-table-5 : goal.returns-in_err-table-5
returns-in_err-table-5 c =
    refused c.in_err-table-5.field-0.0 (search rules)
    (off _ (read6 _ _ c.in_ok-texts.ensures.2 c.in_ok-table.ensures.1 c.in_ok-table-2.ensures.1 c.in_ok-table-3.ensures.1 c.in_ok-table-4.ensures.1)
    c.in_err-table-5.ensures) (search rules)

pub returns-in_err-blank : goal.returns-in_err-blank
returns-in_err-blank c =
    refused c.in_err-blank.field-0.0 (search rules)
    (read7 _ _ c.in_ok-texts.ensures.2 c.in_ok-table.ensures.1 c.in_ok-table-2.ensures.1 c.in_ok-table-3.ensures.1 c.in_ok-table-4.ensures.1 c.in_ok-table-5.ensures.1
    ∙ c.in_err-blank.ensures _) (search rules)

pub returns : goal.returns
returns c =
    let x = c.in_ok-texts.ensures in
    accepted _ _ _ record { inside = x.0; past = x.3 } record { inside = x.1; past = x.4 } (stands c.in_ok-table.ensures) (stands c.in_ok-table-2.ensures)
    (stands c.in_ok-table-3.ensures) (stands c.in_ok-table-4.ensures) (stands c.in_ok-table-5.ensures)
    (read7 _ _ c.in_ok-texts.ensures.2 c.in_ok-table.ensures.1 c.in_ok-table-2.ensures.1 c.in_ok-table-3.ensures.1 c.in_ok-table-4.ensures.1 c.in_ok-table-5.ensures.1
    ∙ c.in_ok-blank.ensures _) (search rules)
