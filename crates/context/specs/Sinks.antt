-- What the sinks make of a context: the contracts' right sides. Definitions only.
use Rattle.std.specs.Prelude.{◌≡◌, Bool, false, cond, List, [], ◌∷◌, ℕ, zero, suc, ◌+◌, ◌-◌, min, length, get_or, set, take, drop, ◌++◌, replicate, eqb, ltb, Option, None, Some}
use Rattle.std.specs.Borrow.{MutBor}
use Rattle.opcode.specs.declared.opcode.Words.{Words as MarkerWords}
use Rattle.opcode.specs.declared.index.LabelId.{LabelId}
use Rattle.opcode.specs.Words.{pair_of}
use Rattle.pool.specs.Value.{find, intern}
use Rattle.pool.specs.Entries.{put_entry}
use Rattle.pool.specs.Consts.{put3, constant, table, most, written}
use Rattle.pool.specs.Names.{Access, local, global, upvalue, missing}
use Rattle.pool.specs.declared.consts.ConstWords.{ConstWords}
use Rattle.rules.specs.declared.StackCode.{StackCode}
use Rattle.rules.specs.Step.{Use}
use Rattle.rules.specs.Run.{local_code, global_code}
use Rattle.rules.specs.Out.{code_number}
use Rattle.rules.specs.Marker.{LoadUpvalue}
use Rattle.rules.specs.declared.Flow.{Flow}
use Rattle.rules.specs.Run.{error_number}
use Rattle.rules.specs.declared.Flow.TheVariants.{Go, Cut, Refused}
use Rattle.context.specs.Words.{limit, cap, more, KEPT, is_go}
use Rattle.context.specs.declared.Context.{Context}
use Rattle.context.specs.declared.function.Outer.{Outer}

-- the label of a number
abbrev pub label_id : ℕ → LabelId
label_id n = record { 0 = n }

-- other words behind the two lent slices
abbrev pub with_code : List ℕ → Context → Context
with_code ws x = record x { code = record x.code { now = ws } }

abbrev pub with_consts : List ℕ → Context → Context
with_consts ws x = record x { consts = record x.consts { now = ws } }

-- a run begins at the function of record r
abbrev pub beginning : MutBor (List ℕ) → MutBor (List ℕ) → StackCode → Bool → ℕ → Context
beginning code consts sc nest r = record {
  code = code;
  consts = consts;
  marker_count = 0;
  label_count = 0;
  const_count = 1;
  error_count = 0;
  continue_stack = replicate KEPT (label_id 0);
  depth = 0;
  flow = Go;
  functions = 0;
  nest = nest;
  function = r;
  stack = sc;
}

-- done where the run goes on
abbrev pub goes : Context → Bool
goes x = is_go x.flow

abbrev pub going : Context → Context → Context
going x y = cond (goes x) y x

-- get_label
unfoldable pub took : Context → Context
took x = going x (record x { label_count = more x.label_count })

abbrev pub took_many : ℕ → Context → Context
took_many zero x = x
took_many (suc n) x = took (took_many n x)

pub record Takes (x x' : Context) (n l : ℕ) : Type 0 where
  pub label : l ≡ x.label_count
  pub context : x' ≡ took_many n x

-- an end of the run
unfoldable pub stopped : Flow → Context → Context
stopped f x = going x (record x { flow = f })

-- push_code: two words at marker n, where there is room
abbrev pub put2 : List ℕ → ℕ → ℕ → ℕ → List ℕ
put2 ws n c v = put_entry ws n (c ∷ v ∷ [])

-- a marker is written: not in a walk with the functions inside, and not past the largest word
abbrev pub writes : Context → Bool
writes x = cond x.nest false (cond (goes x) (ltb x.marker_count limit) false)

-- its words at its place
abbrev pub marked : MarkerWords → Context → Context
marked v x = record (with_code (put2 x.code.now x.marker_count v.code v.operand) x) { marker_count = x.marker_count + 1 }

unfoldable pub pushed : MarkerWords → Context → Context
pushed v x = cond (writes x) (marked v x) x

-- add_const: the index of a constant in a table of n, and how many there are then
abbrev pub index_in : (recs cs : List ℕ) → ℕ → ConstWords → ℕ
index_in recs cs n v = cap (find (table recs cs n) (constant recs v).value)

abbrev pub count_in : (recs cs : List ℕ) → ℕ → ConstWords → ℕ
count_in recs cs n v = cap (min (length (intern (table recs cs n) (constant recs v))) most)

abbrev pub const_index : List ℕ → ConstWords → Context → ℕ
const_index recs v x = index_in recs x.consts.now x.const_count v

abbrev pub with_const : List ℕ → ConstWords → Context → Context
with_const recs v x =
    record (with_consts (written recs x.consts.now x.const_count v.kind v.low v.high) x) { const_count = count_in recs x.consts.now x.const_count v }

-- push_load_const and the two that import: the constant is added and named by the opcode c, where a marker is written
unfoldable pub loads : List ℕ → ℕ → ConstWords → Context → Context
loads recs c v x = cond (writes x) (marked (pair_of c (const_index recs v x)) (with_const recs v x)) x

-- load and store: a marker, or a refusal at record i; a store never comes to an upvalue
abbrev pub used : Use → ℕ → Access → Context → Context
used u i (local n) x = pushed (pair_of (code_number (local_code u)) n) x
used u i (global n) x = pushed (pair_of (code_number (global_code u)) n) x
used u i (upvalue n) x = pushed (pair_of (code_number LoadUpvalue) n) x
used u i (missing y) x = stopped (Refused y i) x

-- the open loops' labels
abbrev pub label_in : List LabelId → ℕ → LabelId
label_in ls i = get_or ls i (label_id 0)

-- with a label more: where all places are taken, the oldest is dropped
abbrev pub stacked : LabelId → Context → Context
stacked l x =
    cond (ltb x.depth KEPT) (record x { continue_stack = set x.continue_stack x.depth l; depth = x.depth + 1 })
    (record x { continue_stack = set (drop 1 x.continue_stack ++ take 1 x.continue_stack) 127 l })

unfoldable pub opened : LabelId → Context → Context
opened l x = going x (stacked l x)

unfoldable pub closed : Context → Context
closed x = going x (record x { depth = x.depth - 1 })

-- "continue_stack().last()", which is label 0 at a depth that has no place, and the label behind it
abbrev pub continue_of : Context → Option LabelId
continue_of x = cond (eqb x.depth 0) None (Some (label_in x.continue_stack (x.depth - 1)))

abbrev pub behind : Option LabelId → Option LabelId
behind None = None
behind (Some l) = Some (label_id (more l.0))

-- a function inside
abbrev pub outer_of : Context → Outer
outer_of x = record { labels = x.label_count; depth = x.depth; function = x.function }

abbrev pub inside : ℕ → Context → Context
inside r x = record x { label_count = 0; depth = 0; function = r; functions = min (x.functions + 1) most }

abbrev pub back_to : Outer → Context → Context
back_to o x = record x { label_count = o.labels; depth = o.depth; function = o.function }

-- an error is kept; a walk with the functions inside writes its words
abbrev pub noted : Context → (k a b : ℕ) → List ℕ
noted x k a b = cond x.nest (put3 x.code.now x.error_count k a b) x.code.now

abbrev pub keeping : Flow → Context → Context
keeping Go x = x
keeping (Cut k a b) x = record (with_code (noted x (error_number k) a b) x) { flow = Go; error_count = more x.error_count }
keeping (Refused y i) x = x

unfoldable pub kept : Context → Context
kept x = keeping x.flow x
