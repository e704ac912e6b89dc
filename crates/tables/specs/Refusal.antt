-- The numbers and places of document 01's table 'Refused by place'. Definitions only.
use Rattle.std.specs.Prelude.{cond, ℕ, eqb, Result}
use Rattle.tables.specs.declared.refusal.RecordRule.{RecordRule}
use Rattle.tables.specs.declared.refusal.RecordRule.TheVariants.{Detail, Link, Children, Naming, Nesting, Numbering}
use Rattle.tables.specs.declared.refusal.RunRule.{RunRule}
use Rattle.tables.specs.declared.refusal.RunRule.TheVariants.{Reference, Load, Store, Operator, Lengths, Path, Skipped}
use Rattle.tables.specs.declared.refusal.Refusal.{Refusal}
use Rattle.tables.specs.declared.refusal.Refusal.TheVariants.{Table, Space, Entry, Record, Run}

-- what a check of the lent tables answers
abbrev pub Checked : Type 0
Checked = Result (Unit {0}) Refusal

abbrev pub record_number : RecordRule → ℕ
record_number Detail = 4
record_number Link = 5
record_number Children = 6
record_number Naming = 7
record_number Nesting = 8
record_number Numbering = 9

abbrev pub run_number : RunRule → ℕ
run_number Reference = 10
run_number Load = 11
run_number Store = 12
run_number Operator = 13
run_number Lengths = 14
run_number Path = 15
run_number Skipped = 16

-- and back
abbrev pub rule_of : ℕ → RunRule
rule_of n =
    cond (eqb n 10) Reference
    (cond (eqb n 11) Load (cond (eqb n 12) Store (cond (eqb n 13) Operator (cond (eqb n 14) Lengths (cond (eqb n 15) Path Skipped)))))

abbrev pub number_of : Refusal → ℕ
number_of (Table n) = 1
number_of (Space n) = 2
number_of (Entry n) = 3
number_of (Record x n) = record_number x
number_of (Run x n) = run_number x

abbrev pub place_of : Refusal → ℕ
place_of (Table n) = n
place_of (Space n) = n
place_of (Entry n) = n
place_of (Record x n) = n
place_of (Run x n) = n
