-- Document 01's table 'Refused by place', rows 1 and 3 to 9: "Checked row by row, a row over all its places before the next, by rising place". Definitions only.
use Rattle.std.specs.Prelude.{List, ℕ, Option, None, Some, Ok, Err}
use Rattle.tables.specs.declared.refusal.RecordRule.TheVariants.{Detail, Link, Children, Naming, Nesting, Numbering}
use Rattle.tables.specs.declared.refusal.Refusal.{Refusal}
use Rattle.tables.specs.declared.refusal.Refusal.TheVariants.{Table, Entry, Record}
use Rattle.tables.specs.Refusal.{Checked}
use Rattle.tables.specs.Record.{size}
use Rattle.tables.specs.Place.{broken}
use Rattle.tables.specs.Semantic.{pairs}
use Rattle.tables.specs.Lent.{lent_broken}
use Rattle.tables.specs.Entries.{entries_broken}
use Rattle.tables.specs.Details.{wrong_detail}
use Rattle.tables.specs.Links.{wrong_links}
use Rattle.tables.specs.Children.{wrong_children}
use Rattle.tables.specs.Naming.{naming}
use Rattle.tables.specs.Nesting.{nesting}
use Rattle.tables.specs.Numbering.{numbering}

-- "a row over all its places before the next": refused at a row's first broken place, else what the next rows say
unfoldable pub refusing : (ℕ → Refusal) → Option ℕ → Checked → Checked
refusing why None next = next
refusing why (Some i) next = Err (why i)

-- rows 3 to 9: "tables 1 to 6 in turn (entry)", "each record", "all records"; 4, 5, 6 and 7, 8, 9 are rows of their own (reading 9)
unfoldable pub rows_of : (strings bytes symbols references functions members records : List ℕ) → Checked
rows_of strings bytes symbols references functions members records =
    refusing Entry (entries_broken strings bytes symbols references functions members)
    (refusing (Record Detail) (broken (wrong_detail records (pairs strings)) (size records))
    (refusing (Record Link) (broken (wrong_links records) (size records))
    (refusing (Record Children) (broken (wrong_children records) (size records))
    (refusing (Record Naming) (naming records)
    (refusing (Record Nesting) (nesting records)
    (refusing (Record Numbering) (numbering records functions)
    (Ok tt)))))))

-- row 1, "lent tables (place: table)", then rows 3 to 9; row 2, "out space", is the generator's
unfoldable pub check_of : (strings bytes symbols references functions members records : List ℕ) → Checked
check_of strings bytes symbols references functions members records =
    refusing Table (lent_broken strings bytes symbols references functions members records)
    (rows_of strings bytes symbols references functions members records)
