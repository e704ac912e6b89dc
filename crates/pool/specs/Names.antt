-- Each function's names and what a load or a store finds. Document 01, 'Down through a function'. Definitions only.
use Rattle.std.specs.Prelude.{Bool, cond, Option, Some, None, option_map, List, [], ◌∷◌, ◌++◌, ℕ, zero, suc, length, get_or, ltb, eqb}
use Rattle.tables.specs.Semantic.{pairs, symbol_kind, symbol_of, parent_of, member_count, share_start, share as share_of}
use Rattle.tables.specs.declared.lent.Tables.{Tables}
use Rattle.tables.specs.declared.refusal.RunRule.{RunRule}
use Rattle.tables.specs.declared.refusal.RunRule.TheVariants.{Reference, Load, Store}

-- tables 3 to 6, as they are lent
pub record Semantic : Type 0 where
  pub symbols : List ℕ
  pub references : List ℕ
  pub functions : List ℕ
  pub members : List ℕ

abbrev pub semantic : (symbols references functions members : List ℕ) → Semantic
semantic symbols references functions members = record { symbols = symbols; references = references; functions = functions; members = members }

abbrev pub semantic_of : Tables → Semantic
semantic_of t = semantic t.symbols.now t.references.now t.functions.now t.members.now

-- "3 symbols: kind (0 Local, 1 Global), name string"
abbrev pub is_global : Semantic → ℕ → Bool
is_global t s = eqb (symbol_kind t.symbols s) 1

-- "5 functions: parent or none, count"
abbrev pub function_count : Semantic → ℕ
function_count t = pairs t.functions

abbrev pub parent : Semantic → ℕ → ℕ
parent t f = parent_of t.functions f

abbrev pub count_of_members : Semantic → ℕ → ℕ
count_of_members t f = member_count t.functions f

-- "6 members: symbols, each function's share in turn"
abbrev pub start_of_share : Semantic → ℕ → ℕ
start_of_share t f = share_start t.functions f

abbrev pub share : Semantic → ℕ → List ℕ
share t f = share_of t.functions t.members f

-- an upvalue: its symbol, and the parent's local (1) or upvalue (2) that it captures, with the index there
pub record Upvalue : Type 0 where
  pub symbol : ℕ
  pub capture : ℕ
  pub index : ℕ

pub record Names : Type 0 where
  pub locals : List ℕ
  pub globals : List ℕ
  pub upvalues : List Upvalue

abbrev pub no_names : Names
no_names = record { locals = []; globals = []; upvalues = [] }

-- the index of a symbol, or none
unfoldable pub index_of : List ℕ → ℕ → Option ℕ
index_of [] s = None
index_of (x ∷ xs) s = cond (eqb x s) (Some 0) (option_map suc (index_of xs s))

abbrev pub upvalue_symbols : List Upvalue → List ℕ
upvalue_symbols [] = []
upvalue_symbols (u ∷ us) = u.symbol ∷ upvalue_symbols us

-- "A Local found in the parent's locals, else in its upvalues, is captured; otherwise it is a local."
abbrev pub captured : ℕ → Option ℕ → Option ℕ → Names → Names
captured s (Some i) u n = record { locals = n.locals; globals = n.globals; upvalues = n.upvalues ++ (record { symbol = s; capture = 1; index = i } ∷ []) }
captured s None (Some i) n = record { locals = n.locals; globals = n.globals; upvalues = n.upvalues ++ (record { symbol = s; capture = 2; index = i } ∷ []) }
captured s None None n = record { locals = n.locals ++ (s ∷ []); globals = n.globals; upvalues = n.upvalues }

-- "A Global goes to globals."
unfoldable pub with_symbol : Semantic → Names → ℕ → Names → Names
with_symbol t up s n =
    cond (is_global t s) (record { locals = n.locals; globals = n.globals ++ (s ∷ []); upvalues = n.upvalues })
    (captured s (index_of up.locals s) (index_of (upvalue_symbols up.upvalues) s) n)

-- "A function's symbols are taken in order."
unfoldable pub with_symbols : Semantic → Names → List ℕ → Names → Names
with_symbols t up [] n = n
with_symbols t up (s ∷ ss) n = with_symbols t up ss (with_symbol t up s n)

-- the names of the first n functions; a parent comes before its children, and `none` names no function
unfoldable pub names_upto : Semantic → ℕ → List Names
names_upto t zero = []
names_upto t (suc n) = let up = names_upto t n in up ++ (with_symbols t (get_or up (parent t n) no_names) (share t n) no_names ∷ [])

unfoldable pub names : Semantic → ℕ → Names
names t f = get_or (names_upto t (suc f)) f no_names

-- what a load or a store comes to: a place in one of the three tables, or the rule that it breaks
pub data Access : Type 0 where
  local global upvalue : ℕ → Access
  missing : RunRule → Access

-- what is found in one table, or the rule that is broken where it is not
abbrev pub local_or : RunRule → Option ℕ → Access
local_or rule (Some i) = local i
local_or rule None = missing rule

abbrev pub global_or : RunRule → Option ℕ → Access
global_or rule (Some i) = global i
global_or rule None = missing rule

abbrev pub else_upvalue : Option ℕ → Option ℕ → Access
else_upvalue (Some i) g = upvalue i
else_upvalue None g = global_or Load g

-- "A load looks in locals, upvalues, globals."
abbrev pub first_found : Option ℕ → Option ℕ → Option ℕ → Access
first_found (Some i) u g = local i
first_found None u g = else_upvalue u g

abbrev pub load_symbol : Names → ℕ → Access
load_symbol n s = first_found (index_of n.locals s) (index_of (upvalue_symbols n.upvalues) s) (index_of n.globals s)

-- number 12: "store: symbol not in the table of its kind (a captured one is not)"
abbrev pub store_symbol : Semantic → Names → ℕ → Access
store_symbol t n s = cond (is_global t s) (global_or Store (index_of n.globals s)) (local_or Store (index_of n.locals s))

-- number 10: "reference out of range, where loaded or stored"
unfoldable pub load : Semantic → ℕ → ℕ → Access
load t f r = cond (ltb r (length t.references)) (load_symbol (names t f) (symbol_of t.references r)) (missing Reference)

unfoldable pub store : Semantic → ℕ → ℕ → Access
store t f r = cond (ltb r (length t.references)) (store_symbol t (names t f) (symbol_of t.references r)) (missing Reference)
