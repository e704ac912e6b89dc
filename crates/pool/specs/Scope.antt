-- What `resolve` works with: the owner whose names are stamped, for each symbol where it was stamped last, and two sorts of chains. An owner is 0 for none
-- and f + 1 for function f. Definitions only.
use Rattle.std.specs.Prelude.{Bool, cond, ◌&&◌, Option, Some, None, List, [], ◌∷◌, ℕ, suc, ◌%◌, get_or, set, replicate, eqb}
use Rattle.pool.specs.Chain.{OWNERS, no_chains}
use Rattle.pool.specs.declared.scope.Table.{Table}
use Rattle.pool.specs.declared.scope.Table.TheVariants.{Locals, Globals, Upvalues}
use Rattle.pool.specs.declared.scope.Stamp.{Stamp}
use Rattle.pool.specs.declared.scope.Scope.{Scope}

abbrev pub SYMBOLS : ℕ
SYMBOLS = 1024

-- "locals, globals, upvalues"
abbrev pub table_number : Table → ℕ
table_number Locals = 1
table_number Globals = 2
table_number Upvalues = 3

abbrev pub same_table : Table → Table → Bool
same_table a b = eqb (table_number a) (table_number b)

abbrev pub no_scope : Scope
no_scope = record { owner = 0; symbols = replicate SYMBOLS None; idents = no_chains 4096; inners = no_chains 257 }

abbrev pub owner_of : Scope → ℕ
owner_of sc = sc.owner % OWNERS

-- the index that a stamp has, which is below 1,024, if it is of that owner's table
abbrev pub index_at : ℕ → Table → Option Stamp → Option ℕ
index_at o k None = None
index_at o k (Some x) = cond (eqb x.owner o && same_table x.table k) (Some (x.index % SYMBOLS)) None

-- a symbol without a stamp of the owner's table is not in it
unfoldable pub index_in : Scope → Table → ℕ → Option ℕ
index_in sc k s = index_at sc.owner k (get_or sc.symbols s None)

abbrev pub stamp_of : Scope → Table → ℕ → Stamp
stamp_of sc k i = record { owner = sc.owner; table = k; index = i }

unfoldable pub stamped : Scope → Table → ℕ → ℕ → Scope
stamped sc k s i = record sc { symbols = set sc.symbols s (Some (stamp_of sc k i)) }

-- a table's symbols from index i on, stamped from the last to the first: of equal ones the first is found
unfoldable pub stamps : Scope → Table → ℕ → List ℕ → Scope
stamps sc k i [] = sc
stamps sc k i (s ∷ ss) = stamped (stamps sc k (suc i) ss) k s i
