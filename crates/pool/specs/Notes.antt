-- What is noted of each record before the walks, three words a record: its earlier sibling, and what a load and a store of it come to. Definitions only.
use Rattle.std.specs.Prelude.{◌≡◌, cond, List, ℕ, ◌+◌, ◌*◌, ◌/◌, ◌%◌, get_or, set, ltb, eqb}
use Rattle.tables.specs.Record.{Words, is_function, is_ident}
use Rattle.tables.specs.Forest.{Forest, none, tree}
use Rattle.tables.specs.Refusal.{run_number}
use Rattle.tables.specs.declared.refusal.RunRule.TheVariants.{Reference, Load, Store}
use Rattle.pool.specs.Names.{Semantic, Access, local, global, upvalue, missing, load, store}

-- records, and where the words of loads and of stores begin: a place for each of 4,096 records
abbrev pub RECORDS : ℕ
RECORDS = 4096

abbrev pub LOADS : ℕ
LOADS = 4096

abbrev pub STORES : ℕ
STORES = 8192

abbrev pub SIZE : ℕ
SIZE = 12288

-- the word of record r from a place on, 0 where there is none
abbrev pub word_at : List ℕ → ℕ → ℕ → ℕ
word_at ns from r = cond (ltb r RECORDS) (get_or ns (from + r) 0) 0

-- the earlier sibling of record r, 0 for none
abbrev pub earlier_noted : List ℕ → ℕ → ℕ
earlier_noted ns r = cond (ltb r RECORDS) (get_or ns r 0) 0

-- record r noted as the earlier sibling of a later record
unfoldable pub note_earlier : List ℕ → ℕ → ℕ → List ℕ
note_earlier ns s r = cond (ltb r s) (cond (ltb s RECORDS) (set ns s r) ns) ns

-- a note is the opcode (3 LoadLocal, 4 LoadGlobal, 5 LoadUpvalue, 7 StoreLocal, 8 StoreGlobal), or the number that refuses, times 4,096, and the index
abbrev pub load_note : Access → ℕ
load_note (local i) = 3 * 4096 + i % 4096
load_note (global i) = 4 * 4096 + i % 4096
load_note (upvalue i) = 5 * 4096 + i % 4096
load_note (missing x) = run_number x * 4096

-- a store never comes to an upvalue
abbrev pub store_note : Access → ℕ
store_note (local i) = 7 * 4096 + i % 4096
store_note (global i) = 8 * 4096 + i % 4096
store_note (upvalue i) = 12 * 4096
store_note (missing x) = run_number x * 4096

-- and back; a record without a note has no reference
unfoldable pub load_of : ℕ → Access
load_of n =
    cond (eqb (n / 4096) 3) (local (n % 4096))
    (cond (eqb (n / 4096) 4) (global (n % 4096))
    (cond (eqb (n / 4096) 5) (upvalue (n % 4096)) (cond (eqb (n / 4096) 11) (missing Load) (missing Reference))))

unfoldable pub store_of : ℕ → Access
store_of n =
    cond (eqb (n / 4096) 7) (local (n % 4096))
    (cond (eqb (n / 4096) 8) (global (n % 4096)) (cond (eqb (n / 4096) 12) (missing Store) (missing Reference)))

unfoldable pub load_noted : List ℕ → ℕ → Access
load_noted ns r = cond (ltb r RECORDS) (load_of (get_or ns (LOADS + r) 0)) (missing Reference)

unfoldable pub store_noted : List ℕ → ℕ → Access
store_noted ns r = cond (ltb r RECORDS) (store_of (get_or ns (STORES + r) 0)) (missing Reference)

-- the two words of a load and a store noted at record r
unfoldable pub note_ident : List ℕ → ℕ → ℕ → ℕ → List ℕ
note_ident ns r a b = cond (ltb r RECORDS) (set (set ns (LOADS + r) a) (STORES + r) b) ns

-- the notes of some trees that stand in the function fn are those of the tables: a record that is no Ident has no reference
unfoldable pub Noted : Semantic → List ℕ → Words → Forest → Type 0
Noted t ns fn none = Unit {0}
Noted t ns fn (tree r w k s) =
    (load_noted ns r ≡ cond (is_ident w) (load t fn.p w.p) (missing Reference))
    × (store_noted ns r ≡ cond (is_ident w) (store t fn.p w.p) (missing Reference))
    × Noted t ns (cond (is_function w) w fn) k × Noted t ns fn s
