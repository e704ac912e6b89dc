-- How a context stands for the state of `rules`, and the form of a visitor's contract. Definitions only.
use Rattle.std.specs.Prelude.{◌≡◌, Bool, true, false, List, [], ◌∷◌, ℕ, suc, ◌*◌, ◌≤◌, ◌<◌, min, length, take}
use Rattle.opcode.specs.declared.opcode.Words.{Words as MarkerWords}
use Rattle.opcode.specs.declared.index.LabelId.{LabelId}
use Rattle.tables.specs.Record.{size as size_of}
use Rattle.tables.specs.Forest.{next}
use Rattle.rules.specs.declared.StackCode.{StackCode}
use Rattle.pool.specs.Consts.{laid, put3, most, AllTold}
use Rattle.pool.specs.Notes.{earlier_noted}
use Rattle.rules.specs.Marker.{Op, Label, To, Back, Leave, Load, Do, Mark, mark}
use Rattle.rules.specs.Run.{
  Error,
  error,
  Loop,
  loop,
  State,
  marks as marks_of,
  labels as labels_of,
  loops as loops_of,
  flow as flow_of,
  side as side_of,
  Mode,
}
use Rattle.rules.specs.Out.{consts, code_word, operand_word}
use Rattle.context.specs.Words.{limit, cap, KEPT}
use Rattle.context.specs.Sinks.{put2, label_in}
use Rattle.context.specs.declared.Context.{Context}
use Rattle.context.specs.declared.tree.Tree.{Tree}

-- markers and errors, newest first, laid from the front
unfoldable pub lay : List ℕ → List Mark → List ℕ
lay ws [] = ws
lay ws (mark r x ∷ ms) = put2 (lay ws ms) (length ms) (code_word x) (cap (operand_word (consts (mark r x ∷ ms)) x))

unfoldable pub note : List ℕ → List Error → List ℕ
note ws [] = ws
note ws (error k a b ∷ es) = put3 (note ws es) (length es) k a b

-- the markers are few, and their constants have room; both hold of fewer markers where they hold of more
pub record Room (cs₀ : List ℕ) (ms : List Mark) : Type 0 where
  pub table : length (consts ms) * 3 ≤ length cs₀
  pub few : length ms < limit

pub record Wrote (records o₀ cs₀ : List ℕ) (ms : List Mark) (o cs : List ℕ) (count : ℕ) : Type 0 where
  pub words : o ≡ lay o₀ ms
  pub table : cs ≡ laid cs₀ 0 (consts ms)
  pub told : AllTold records (consts ms)
  pub entries : count ≡ length (consts ms)

-- a walk without the functions inside writes markers and constants
pub record Flat (records o₀ cs₀ : List ℕ) (ms : List Mark) (o cs : List ℕ) (at count : ℕ) : Type 0 where
  pub wrote : Room cs₀ ms → Wrote records o₀ cs₀ ms o cs count
  pub place : at ≡ cap (length ms)

-- a walk with them writes errors, as long as they are few
pub record Noted (o₀ cs₀ : List ℕ) (es : List Error) (o cs : List ℕ) : Type 0 where
  pub errors : length es < limit → o ≡ note o₀ es
  pub consts : cs ≡ cs₀

-- the open loops' continue labels, innermost last; each break label is the one after
unfoldable pub Stack : List LabelId → List Loop → Type 0
Stack ws [] = Unit {0}
Stack ws (loop o c b ∷ ls) = ((label_in ws (length ls)).0 ≡ cap c) × (b ≡ suc c) × Stack ws ls

-- a walk: its stack code, whether the functions inside are walked too, and the record of the function that it is in
pub record Walk : Type 0 where
  pub code : StackCode
  pub nest : Bool
  pub function : ℕ

-- in the function at record r
abbrev pub within : ℕ → Walk → Walk
within r c = record { code = c.code; nest = c.nest; function = r }

abbrev pub mode : Walk → Mode
mode c = record { code = c.code; nest = c.nest; trim = take KEPT }

-- x₀ having been there at the start, the context x stands for the state A: its slices are those that were lent then. Open loops' labels are said where
-- they are written
pub record Rep (c : Walk) (records : List ℕ) (x₀ : Context) (A : State) (x : Context) : Type 0 where
  pub code : x.code.ghost_name ≡ x₀.code.ghost_name
  pub consts : x.consts.ghost_name ≡ x₀.consts.ghost_name
  pub flat : c.nest ≡ false → Flat records x₀.code.now x₀.consts.now (marks_of A) x.code.now x.consts.now x.marker_count x.const_count
  pub noted : c.nest ≡ true → Noted x₀.code.now x₀.consts.now (side_of A).errors x.code.now x.consts.now
  pub labels : x.label_count ≡ cap (labels_of A)
  pub size : length x.continue_stack ≡ KEPT
  pub loops : c.nest ≡ false → Stack x.continue_stack (loops_of A)
  pub depth : x.depth ≡ length (loops_of A)
  pub deep : length (loops_of A) ≤ KEPT
  pub flow : x.flow ≡ flow_of A
  pub errors : x.error_count ≡ cap (length (side_of A).errors)
  pub met : c.nest ≡ true → x.functions ≡ min (side_of A).met most
  pub nest : x.nest ≡ c.nest
  pub function : x.function ≡ c.function
  pub stack : x.stack ≡ c.code

-- the shared tables: the records, and what is noted of each
pub record Lent : Type 0 where
  pub records : List ℕ
  pub notes : List ℕ

abbrev pub lent_words : List ℕ → List ℕ → Lent
lent_words a b = record { records = a; notes = b }

abbrev pub lent : Tree → Lent
lent t = lent_words t.records.now t.notes.now

-- a word can number the records, and each sibling's note names the one before it
pub record Scoped (e : Lent) : Type 0 where
  pub small : size_of e.records < limit
  pub backs : (c : ℕ) → (next e.records c ≡ 0 → ⊥) → earlier_noted e.notes (next e.records c) ≡ c

-- how many words the two slices have that a run writes
unfoldable pub sizes_of : Context → ℕ × ℕ
sizes_of x = (length x.code.now, length x.consts.now)

-- they are as long as they were
abbrev pub SameSizes : Context → Context → Type 0
SameSizes x x' = sizes_of x' ≡ sizes_of x

-- from the context x to x' the state goes by f, whatever the notes, and the slices keep their lengths
pub record Moves (records : List ℕ) (x x' : Context) (f : Walk → State → State) : Type 0 where
  pub moves : (c : Walk) (x₀ : Context) (A : State) → Rep c records x₀ A x → Rep c records x₀ (f c A) x'
  pub sizes : SameSizes x x'

-- the same where the shared tables are right
pub record Sim (e : Lent) (x x' : Context) (f : Walk → State → State) : Type 0 where
  pub sim : Scoped e → (c : Walk) (x₀ : Context) (A : State) → Rep c e.records x₀ A x → Rep c e.records x₀ (f c A) x'
  pub sizes : SameSizes x x'

-- the words x are those of an instruction that names no constant
abbrev pub Shown : MarkerWords → Op → Type 0
Shown x (Label l) = (x.code ≡ code_word (Label l)) × (x.operand ≡ cap l)
Shown x (To h l) = (x.code ≡ code_word (To h l)) × (x.operand ≡ cap l)
Shown x (Back l) = (x.code ≡ code_word (Back l)) × (x.operand ≡ cap l)
Shown x (Leave y l) = (x.code ≡ code_word (Leave y l)) × (x.operand ≡ cap l)
Shown x (Load c v) = ⊥
Shown x (Do c n) = (x.code ≡ code_word (Do c n)) × (x.operand ≡ cap n)
