-- Row 2 of document 01's table 'Refused by place': the lent outputs, by rising number. Definitions only.
use Rattle.std.specs.Prelude.{Bool, List, [], ◌∷◌, ℕ, ◌*◌, ◌/◌, length, ltb, Option}
use Rattle.tables.specs.Record.{size}
use Rattle.tables.specs.Semantic.{pairs}
use Rattle.tables.specs.Lent.{first_refused}
use Rattle.tables.specs.declared.lent.Tables.{Tables}
use Rattle.codegen.specs.declared.outputs.Outputs.{Outputs}

-- "fewer than": room for fewer whole entries than so many for each of n
unfoldable pub scarce : (each width n words : ℕ) → Bool
scarce each width n words = ltb (words / width) (n * each)

-- "fewer than 32 markers, 3 constants or 1 error per record, 1 name per member, 1 line per function": outputs 0 to 4 in turn
abbrev pub scant : (records members functions markers constants names errors lines : ℕ) → List Bool
scant records members functions markers constants names errors lines =
    scarce 32 2 records markers ∷ scarce 3 3 records constants ∷ scarce 1 3 members names ∷ scarce 1 3 records errors ∷ scarce 1 7 functions lines ∷ []

-- "out space (place: 0 to 4 as listed)", of the numbers of records, members and functions and the outputs' lengths in words
unfoldable pub space_broken : (records members functions markers constants names errors lines : ℕ) → Option ℕ
space_broken records members functions markers constants names errors lines =
    first_refused 0 (scant records members functions markers constants names errors lines)

-- .. of the tables and outputs that are lent
abbrev pub space_in : Tables → Outputs → Option ℕ
space_in t o =
    space_broken (size t.records.now) (length t.members.now) (pairs t.functions.now) (length o.markers.now) (length o.constants.now)
    (length o.names.now) (length o.errors.now) (length o.lines.now)
