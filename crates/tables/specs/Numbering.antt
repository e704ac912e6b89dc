-- Row 9 of document 01: "functions not numbered 0, 1, .. in visiting order, table 5 of another length (place 0), or a parent that isn't the
-- enclosing function (none for 0)". Definitions only.
use Rattle.std.specs.Prelude.{Bool, cond, not, ◌&&◌, ◌||◌, List, [], ◌∷◌, ◌++◌, ℕ, zero, suc, ◌*◌, ◌/◌, length, get_or, eqb, Option}
use Rattle.tables.specs.declared.numbering.Manner.{Manner}
use Rattle.tables.specs.declared.numbering.Manner.TheVariants.{Stored, RightFirst, RightThenBack}
use Rattle.tables.specs.Record.{Words, word, words, size, absent, is_kind, is_function}
use Rattle.tables.specs.Forest.{Forest, none, tree, root}
use Rattle.tables.specs.Place.{broken}

-- 34 Left: by row 6 the first p children of an assignment, and no others, are Lefts
abbrev pub is_left : Words → Bool
is_left w = is_kind 34 w

-- "Functions are visited in stored order, but 24 and 26 take the right side first, and 27 the rights, then its Lefts from the last to the first."
unfoldable pub manner : ℕ → Manner
manner k = cond (eqb k 27) RightThenBack (cond (eqb k 24 || eqb k 26) RightFirst Stored)

-- siblings gone through: all as stored; without the Lefts; the Lefts alone; the Lefts from the last to the first
pub data Order : Type 0 where
  stored : Order
  rights : Order
  lefts : Order
  back : Order

-- a function met, and one more than the record of the function around it, 0 for none
pub record Visit : Type 0 where
  pub met : ℕ
  pub around : ℕ

-- a record's functions and those of its later siblings, where a bit tells that the record is a Left
abbrev pub in_order : Order → Bool → List Visit → List Visit → List Visit
in_order stored b xs ys = xs ++ ys
in_order rights b xs ys = cond b ys (xs ++ ys)
in_order lefts b xs ys = cond b (xs ++ ys) ys
in_order back b xs ys = cond b (ys ++ xs) ys

abbrev pub inside : Manner → (Order → List Visit) → List Visit
inside Stored v = v stored
inside RightFirst v = v rights ++ v lefts
inside RightThenBack v = v rights ++ v back

-- a Function is met before what is inside it, and is around that
abbrev pub entered : ℕ → ℕ → Words → List Visit → List Visit
entered e r w vs = cond (is_function w) (record { met = r; around = e } ∷ vs) vs

abbrev pub within : ℕ → ℕ → Words → ℕ
within e r w = cond (is_function w) (suc r) e

-- the functions of a forest in visiting order, e telling the function around it
unfoldable pub visited : Order → ℕ → Forest → List Visit
visited o e none = []
visited o e (tree r w k s) =
    in_order o (is_left w) (entered e r w (inside (manner w.kind) (λ i. visited i (within e r w) k))) (visited o e s)

abbrev pub functions : List ℕ → List Visit
functions recs = visited stored 0 (root recs)

-- the number of the function at record x: its place in visiting order
abbrev pub place_of : ℕ → List Visit → ℕ
place_of x [] = 0
place_of x (v ∷ vs) = cond (eqb x v.met) 0 (suc (place_of x vs))

abbrev pub number : List ℕ → ℕ → ℕ
number recs x = place_of x (functions recs)

-- the function around that of record x, one more than its record, 0 for none
abbrev pub enclosing : List ℕ → ℕ → ℕ
enclosing recs x = (get_or (functions recs) (number recs x) (record { met = 0; around = 0 })).around

-- table 5's word for a function's parent: "parent or none"
abbrev pub number_of : List ℕ → ℕ → ℕ
number_of recs zero = absent
number_of recs (suc q) = number recs q

abbrev pub parent : List ℕ → ℕ → ℕ
parent recs x = number_of recs (enclosing recs x)

-- "table 5 of another length (place 0)": two words a function
abbrev pub uneven : List ℕ → List ℕ → Bool
uneven recs funs = not (eqb (length funs / 2) (length (functions recs)))

-- a Function whose p is not its number, or whose parent in table 5 is another
abbrev pub misnumbered : List ℕ → List ℕ → ℕ → Bool
misnumbered recs funs r =
    is_function (words recs r) && not (eqb (word recs r 2) (number recs r) && eqb (get_or funs (number recs r * 2) 0) (parent recs r))

-- place 0 collects table 5's length and record 0's own faults (reading 13)
abbrev pub numbering : List ℕ → List ℕ → Option ℕ
numbering recs funs = broken (λ r. (eqb r 0 && uneven recs funs) || misnumbered recs funs r) (size recs)
