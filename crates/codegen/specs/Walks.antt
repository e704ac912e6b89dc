-- The run by the notes and by the lent tables, and what a walk tells and leaves in the lent words. Definitions only.
use Rattle.std.specs.Prelude.{◌≡◌, false, List, ℕ, ◌≤◌, min, length, take}
use Rattle.tables.specs.Record.{words}
use Rattle.tables.specs.Forest.{children, root, levels}
use Rattle.pool.specs.Names.{Semantic}
use Rattle.rules.specs.declared.StackCode.{StackCode}
use Rattle.rules.specs.declared.StackCode.TheVariants.{Code1}
use Rattle.rules.specs.Run.{State, marks as marks_of, labels as labels_of, flow as flow_of, side as side_of, look, run, alone}
use Rattle.pool.specs.Consts.{most}
use Rattle.context.specs.Words.{cap, KEPT}
use Rattle.context.specs.Rep.{lent_words, Room, Wrote, Scoped}
use Rattle.codegen.specs.declared.walks.Judged.{Judged}
use Rattle.codegen.specs.declared.walks.Counted.{Counted}
use Rattle.context.specs.Does.{noted_look}
use Rattle.context.specs.declared.tree.Tree.{Tree}

-- the stack code that is generated; request 11 of document 02 makes it an argument of the call
abbrev pub stack_code : StackCode
stack_code = Code1

-- the whole run, by the lent tables and by the notes made of them
abbrev pub ran : Semantic → List ℕ → State
ran t recs = run stack_code (look t) recs

abbrev pub noted_run : (ns recs : List ℕ) → State
noted_run ns recs = run stack_code (noted_look ns) recs

abbrev pub run_of : Tree → State
run_of t = noted_run t.notes.now t.records.now

-- the function at record r by itself, by the notes, the newest 128 open loops kept
abbrev pub single : (ns recs : List ℕ) → ℕ → State
single ns recs r = alone (noted_look ns) (record { code = stack_code; nest = false; trim = take KEPT }) r (words recs r) (children recs r)

-- what a walk rests on: a word can number the records, the notes name earlier siblings, and row 8
pub record Walkable (ns recs : List ℕ) : Type 0 where
  pub scoped : Scoped (lent_words recs ns)
  pub shallow : levels (root recs) ≤ KEPT

-- how a run ended, how many functions it met and how many errors it kept
pub record Walked (A : State) (j : Judged) : Type 0 where
  pub flow : j.flow ≡ flow_of A
  pub errors : j.errors ≡ cap (length (side_of A).errors)
  pub met : j.functions ≡ min (side_of A).met most

-- one function's stream: its markers and constants are laid where there is room, and counted
pub record Streamed (recs : List ℕ) (A : State) (code consts code' consts' : List ℕ) (n : Counted) : Type 0 where
  pub wrote : Room consts (marks_of A) → Wrote recs code consts (marks_of A) code' consts' n.consts
  pub place : n.markers ≡ cap (length (marks_of A))
  pub labels : n.labels ≡ cap (labels_of A)
