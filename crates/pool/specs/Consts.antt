-- The table of constants in lent words, and what adding one answers and writes. Document 01, 'The call': "constants (kind, two words: ..)". Definitions only.
use Rattle.std.specs.Prelude.{◌≡◌, Bool, cond, ◌||◌, List, [], ◌∷◌, ℕ, zero, suc, ◌+◌, ◌*◌, min, length, get_or, eqb}
use Rattle.tables.specs.Record.{word}
use Rattle.tables.specs.Forest.{own_tree, forest, children}
use Rattle.pool.specs.Value.{Value, plain, Const, find, seen, intern, effect_at, kind_word, low_word, high_word, child, below, ident_names}
use Rattle.pool.specs.Entries.{has_room, put_entry}
use Rattle.pool.specs.declared.consts.ConstWords.{ConstWords}
use Rattle.pool.specs.declared.consts.Added.{Added}

-- "6 Effect (p name): Ident, Params"; a Handler's name is its Ident's (reading 20)
abbrev pub name_at : List ℕ → ℕ → ℕ
name_at recs r = cond (eqb (word recs r 0) 6) (word recs r 2) (child (own_tree (children recs r)) 0).q

-- "31 Params: Idents [1: last, needed, is variadic]", of the Params at a link
abbrev pub is_variadic : List ℕ → ℕ → Bool
is_variadic recs l = eqb (child (own_tree (forest recs l)) 0).detail 1

-- "the parameters' name strings (the Idents' q)" (reading 20): of the Idents from a link on, and of those below the record there
abbrev pub names_from : List ℕ → ℕ → List ℕ
names_from recs l = ident_names (own_tree (forest recs l))

abbrev pub names_below : List ℕ → ℕ → List ℕ
names_below recs l = ident_names (below (own_tree (forest recs l)) 0)

-- a constant that no record brings: its words say all, "unused words 0" (reading 21)
abbrev pub made : Value → Const
made v = record { value = v; source = 0 }

-- the constant of three words: "7 Effect, the Effect or Handler record first bringing it"
unfoldable pub const_of : List ℕ → ℕ → ℕ → ℕ → Const
const_of recs k l h = cond (eqb k 7) (record { value = effect_at recs l; source = l }) (made (plain k l h))

-- the three words of a constant: "kind, two words"
abbrev pub words : ℕ → ℕ → ℕ → ConstWords
words k l h = record { kind = k; low = l; high = h }

abbrev pub words_of : Const → ConstWords
words_of c = words (kind_word c.value) (low_word c) (high_word c.value)

-- the constant of a constant's words
abbrev pub constant : List ℕ → ConstWords → Const
constant recs v = const_of recs v.kind v.low v.high

-- words of one entry
abbrev pub width : ℕ
width = 3

-- word j of entry i
abbrev pub at : List ℕ → ℕ → ℕ → ℕ
at ws i j = get_or ws (i * width + j) 0

abbrev pub words_at : List ℕ → ℕ → ConstWords
words_at ws i = words (at ws i 0) (at ws i 1) (at ws i 2)

abbrev pub entry : List ℕ → List ℕ → ℕ → Const
entry recs ws i = const_of recs (at ws i 0) (at ws i 1) (at ws i 2)

-- m entries from entry i on; past the words all are Null, as zeros read
unfoldable pub entries : List ℕ → List ℕ → ℕ → ℕ → List Const
entries recs ws i zero = []
entries recs ws i (suc m) = entry recs ws i ∷ entries recs ws (suc i) m

-- the first n entries of some words
abbrev pub table : List ℕ → List ℕ → ℕ → List Const
table recs ws n = entries recs ws 0 n

-- whether the words have room for entry n
abbrev pub room : List ℕ → ℕ → Bool
room ws n = has_room ws n width

-- the words with three put at entry n, where there is room
abbrev pub put3 : List ℕ → ℕ → ℕ → ℕ → ℕ → List ℕ
put3 ws n k l h = put_entry ws n (k ∷ l ∷ h ∷ [])

-- the words with the constants of a list laid from entry n on: "Words past the written ones stay as they were."
abbrev pub put_const : List ℕ → ℕ → Const → List ℕ
put_const ws n c = put3 ws n (words_of c).kind (words_of c).low (words_of c).high

unfoldable pub laid : List ℕ → ℕ → List Const → List ℕ
laid ws n [] = ws
laid ws n (c ∷ cs) = laid (put_const ws n c) (suc n) cs

-- the largest count that the code's counter holds
abbrev pub most : ℕ
most = 18446744073709551615

-- what adding a constant answers, where the words have room for one more or not: "Constants start with Null and equal ones are one"
abbrev pub added : List Const → Bool → Const → Added
added cs fits c = record { index = find cs c.value; count = min (length (intern cs c)) most; kept = seen cs c.value || fits }

-- the words after adding: a new value's three at entry n, and nothing else
unfoldable pub written : List ℕ → List ℕ → ℕ → ℕ → ℕ → ℕ → List ℕ
written recs ws n k l h = cond (seen (table recs ws n) (const_of recs k l h).value) ws (put3 ws n k l h)

-- a table after some constants, one after the other, as the Rust's add_const is called
unfoldable pub interned : List Const → List Const → List Const
interned cs [] = cs
interned cs (x ∷ xs) = interned (intern cs x) xs

-- constants that their three words tell, by the records
abbrev pub Told : List ℕ → Const → Type 0
Told recs c = const_of recs (words_of c).kind (words_of c).low (words_of c).high ≡ c

abbrev pub AllTold : List ℕ → List Const → Type 0
AllTold recs [] = Unit {0}
AllTold recs (c ∷ cs) = Told recs c × AllTold recs cs
