-- What the steps that make the names promise each other. Definitions only.
use Rattle.std.specs.Prelude.{◌≡◌, cond, List, [], ◌∷◌, ℕ, zero, suc, ◌+◌, ◌*◌, ◌≤◌, ◌<◌, length, get_or, set, ltb, leb, eqb}
use Rattle.tables.specs.Semantic.{symbol_kind, parent_of}
use Rattle.pool.specs.Names.{Semantic, function_count, start_of_share, index_of, upvalue_symbols, Names, no_names, names}
use Rattle.pool.specs.Scope.{owner_of, index_in, stamps}
use Rattle.pool.specs.declared.scope.Scope.{Scope}
use Rattle.pool.specs.declared.scope.Table.TheVariants.{Locals, Globals, Upvalues}
use Rattle.pool.specs.NameWords.{entries_of, span_for, span_of, captured_as, made, entries_laid}
use Rattle.pool.specs.declared.spans.Span.{Span}
use Rattle.pool.specs.declared.lookup.Lookup.{Lookup}
use Rattle.pool.specs.declared.names.Class.{Class}
use Rattle.pool.specs.declared.names.Class.TheVariants.{Global as Shared}

-- the class of a symbol by the stamped names
abbrev pub class_in : List ℕ → Scope → ℕ → Class
class_in symbols sc s = cond (eqb (symbol_kind symbols s) 1) Shared (captured_as (index_in sc Locals s) (index_in sc Upvalues s))

abbrev pub class_by : Lookup → ℕ → Class
class_by l s = class_in l.tables.now.symbols.now l.scope.now s

-- a function's names from place n on, and its span; a share past row 1's limit has none
unfoldable pub entries_named : (ℕ → Class) → List ℕ → List ℕ → ℕ → List ℕ
entries_named cl ss ws n = cond (leb (length ss) 1024) (entries_laid ws n (entries_of (made cl ss))) ws

unfoldable pub spans_named : (ℕ → Class) → List ℕ → List Span → ℕ → List Span
spans_named cl ss sp f = cond (leb (length ss) 1024) (set sp f (span_for (span_of sp f).start (made cl ss))) sp

-- the symbols of n entries from place a on
unfoldable pub symbols_at : List ℕ → ℕ → ℕ → List ℕ
symbols_at ws a zero = []
symbols_at ws a (suc n) = get_or ws (a * 3) 0 ∷ symbols_at ws (suc a) n

-- the names of a span stamped, table by table
abbrev pub stamped_names : Scope → List ℕ → Span → ℕ → Scope
stamped_names sc es s o =
    stamps
    (stamps
    (stamps (record sc { owner = o }) Locals 0 (symbols_at es s.start s.locals))
    Globals 0 (symbols_at es (s.start + s.locals) s.globals))
    Upvalues 0 (symbols_at es (s.start + s.locals + s.globals) s.upvalues)

-- the words vs stand in ws from i on
abbrev pub Stands : List ℕ → ℕ → List ℕ → Type 0
Stands ws i vs = (k : ℕ) → k < length vs → get_or ws (i + k) 0 ≡ get_or vs k 0

-- the lent words have room for all names, and slots hold them
pub record Fits (t : Semantic) (entries spans : ℕ) : Type 0 where
  pub functions_limit : function_count t ≤ 256
  pub members_limit : length t.members ≤ 1024
  pub entries_room : length t.members * 3 ≤ entries
  pub spans_room : function_count t ≤ spans
  pub counted : start_of_share t (function_count t) ≡ length t.members
  pub symbols_limit : (m : ℕ) → m < length t.members → get_or t.members m 0 < 1024

-- a function's parent as an owner: a parent comes before its children, as names-upto has it, and any other number is none
abbrev pub parent_owner : List ℕ → ℕ → ℕ
parent_owner functions f = cond (ltb (parent_of functions f) f) (suc (parent_of functions f)) 0

abbrev pub owner_names : Semantic → ℕ → Names
owner_names t zero = no_names
owner_names t (suc f) = names t f

-- the stamped names are those of the owner
pub record Shown (t : Semantic) (sc : Scope) : Type 0 where
  pub locals : (s : ℕ) → index_in sc Locals s ≡ index_of (owner_names t (owner_of sc)).locals s
  pub globals : (s : ℕ) → index_in sc Globals s ≡ index_of (owner_names t (owner_of sc)).globals s
  pub upvalues : (s : ℕ) → index_in sc Upvalues s ≡ index_of (upvalue_symbols (owner_names t (owner_of sc)).upvalues) s
