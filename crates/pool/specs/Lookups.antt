-- What a load or a store finds in the names that are stamped. Definitions only.
use Rattle.std.specs.Prelude.{cond, Option, option_map, Result, Ok, Err, List, ℕ, length, ltb, eqb}
use Rattle.tables.specs.Semantic.{symbol_kind, symbol_of}
use Rattle.tables.specs.declared.refusal.RunRule.{RunRule}
use Rattle.tables.specs.declared.refusal.RunRule.TheVariants.{Reference, Store}
use Rattle.pool.specs.Names.{Access, missing, first_found, global_or, local_or}
use Rattle.pool.specs.Scope.{index_in}
use Rattle.pool.specs.declared.scope.Scope.{Scope}
use Rattle.pool.specs.declared.scope.Table.TheVariants.{Locals, Globals, Upvalues}
use Rattle.opcode.specs.declared.index.LocalNameId.{LocalNameId}
use Rattle.opcode.specs.declared.index.GlobalNameId.{GlobalNameId}
use Rattle.opcode.specs.declared.index.UpvalueNameId.{UpvalueNameId}

-- what the code's answers say
abbrev pub local_at : Option LocalNameId → Option ℕ
local_at found = option_map (λ id. id.0) found

abbrev pub global_at : Option GlobalNameId → Option ℕ
global_at found = option_map (λ id. id.0) found

abbrev pub upvalue_at : Option UpvalueNameId → Option ℕ
upvalue_at found = option_map (λ id. id.0) found

-- the symbol of a reference, or number 10: "reference out of range, where loaded or stored"
abbrev pub symbol_in : List ℕ → ℕ → Result ℕ RunRule
symbol_in references r = cond (ltb r (length references)) (Ok (symbol_of references r)) (Err Reference)

-- "A load looks in locals, upvalues, globals."
abbrev pub load_found : Scope → ℕ → Access
load_found sc s = first_found (index_in sc Locals s) (index_in sc Upvalues s) (index_in sc Globals s)

-- number 12: "store: symbol not in the table of its kind (a captured one is not)"
abbrev pub store_found : List ℕ → Scope → ℕ → Access
store_found symbols sc s = cond (eqb (symbol_kind symbols s) 1) (global_or Store (index_in sc Globals s)) (local_or Store (index_in sc Locals s))

-- number 10: "reference out of range, where loaded or stored"
unfoldable pub load_in : List ℕ → Scope → ℕ → Access
load_in references sc r = cond (ltb r (length references)) (load_found sc (symbol_of references r)) (missing Reference)

unfoldable pub store_in : List ℕ → List ℕ → Scope → ℕ → Access
store_in symbols references sc r = cond (ltb r (length references)) (store_found symbols sc (symbol_of references r)) (missing Reference)
