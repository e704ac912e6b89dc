-- Constants by value. Document 01, 'The call': "constants (kind, two words: a Lit's detail with its p and q, a length or index as Int, a member, path
-- or item name as Str; 6 Function, its number; 7 Effect, the Effect or Handler record first bringing it; 8 Yield; unused words 0)". Definitions only.
use Rattle.std.specs.Prelude.{Bool, true, false, cond, Option, None, Some, ◌&&◌, ◌||◌, List, [], ◌∷◌, ◌++◌, ℕ, zero, suc, eqb}
use Rattle.tables.specs.Record.{Words, words}
use Rattle.tables.specs.Forest.{Nodes, bare, node, own_tree, children}

-- "effects are equal when name, parameters and variadic are": an effect is its name, its parameters' names and whether the last is variadic
pub data Value : Type 0 where
  plain : ℕ → ℕ → ℕ → Value
  effect : ℕ → List ℕ → Bool → Value

abbrev pub Null : Value
Null = plain 0 0 0

-- a literal, without the words that its kind does not use
abbrev pub lit : ℕ → ℕ → ℕ → Value
lit zero p q = plain 0 0 0
lit (suc zero) p q = plain 1 p 0
lit (suc (suc zero)) p q = plain 2 p q
lit (suc (suc (suc zero))) p q = plain 3 p q
lit (suc (suc (suc (suc zero)))) p q = plain 4 p 0
lit (suc (suc (suc (suc (suc d))))) p q = plain 5 p 0

abbrev pub int : ℕ → Value
int n = plain 2 n 0

abbrev pub str : ℕ → Value
str s = plain 4 s 0

abbrev pub function : ℕ → Value
function n = plain 6 n 0

abbrev pub yield : Value
yield = plain 8 0 0

-- "equal ones are one": kind and words agree, "floats when their 64 bits agree"
abbrev pub same_numbers : List ℕ → List ℕ → Bool
same_numbers [] [] = true
same_numbers [] (y ∷ ys) = false
same_numbers (x ∷ xs) [] = false
same_numbers (x ∷ xs) (y ∷ ys) = eqb x y && same_numbers xs ys

abbrev pub same_bool : Bool → Bool → Bool
same_bool true true = true
same_bool true false = false
same_bool false true = false
same_bool false false = true

abbrev pub same : Value → Value → Bool
same (plain k p q) (plain k' p' q') = eqb k k' && (eqb p p' && eqb q q')
same (plain k p q) (effect n ps v) = false
same (effect n ps v) (plain k p q) = false
same (effect n ps v) (effect n' ps' v') = eqb n n' && (same_numbers ps ps' && same_bool v v')

-- a constant with the record that brings it
pub record Const : Type 0 where
  pub value : Value
  pub source : ℕ

-- the place of the first equal value; past the end where there is none
unfoldable pub find : List Const → Value → ℕ
find [] v = 0
find (c ∷ cs) v = cond (same c.value v) 0 (suc (find cs v))

unfoldable pub seen : List Const → Value → Bool
seen [] v = false
seen (c ∷ cs) v = same c.value v || seen cs v

-- where the first equal value stands, if one does
abbrev pub found : List Const → Value → Option ℕ
found cs v = cond (seen cs v) (Some (find cs v)) None

-- the Rust's add_const: a value not seen before is added at the end
unfoldable pub intern : List Const → Const → List Const
intern cs c = cond (seen cs c.value) cs (cs ++ (c ∷ []))

-- "Constants start with Null"
abbrev pub start : List Const
start = record { value = Null; source = 0 } ∷ []

-- the children of the j-th of some nodes, and its words; zeros where there is none
abbrev pub zeros : Words
zeros = record { kind = 0; detail = 0; p = 0; q = 0; start = 0; end = 0 }

abbrev pub child : Nodes → ℕ → Words
child bare j = zeros
child (node w k s) zero = w
child (node w k s) (suc j) = child s j

abbrev pub below : Nodes → ℕ → Nodes
below bare j = bare
below (node w k s) zero = k
below (node w k s) (suc j) = below s j

-- the name strings of some Idents
abbrev pub ident_names : Nodes → List ℕ
ident_names bare = []
ident_names (node w k s) = w.q ∷ ident_names s

-- "6 Effect (p name): Ident, Params", "32 Handler: Ident, Params, Block", "31 Params: Idents [1: last, needed, is variadic]"; a Handler's name is its Ident's
abbrev pub effect_value : Words → Nodes → Value
effect_value w k = effect (cond (eqb w.kind 6) w.p (child k 0).q) (ident_names (below k 1)) (eqb (child k 1).detail 1)

abbrev pub effect_at : List ℕ → ℕ → Value
effect_at recs r = effect_value (words recs r) (own_tree (children recs r))

-- a constant's three words
abbrev pub kind_word : Value → ℕ
kind_word (plain k p q) = k
kind_word (effect n ps v) = 7

abbrev pub low_word : Const → ℕ
low_word c = low c.value
  where
    low : Value → ℕ
    low (plain k p q) = p
    low (effect n ps v) = c.source

abbrev pub high_word : Value → ℕ
high_word (plain k p q) = q
high_word (effect n ps v) = 0
