-- Small tables by computation: the definitions of rows 7 to 9 at work. Assumes nothing.
use mathlib.Core.Path.{◌≡◌, refl}
use mathlib.Core.List.{List, [], ◌∷◌, ◌++◌}
use Prim.Native.Nat.{ℕ}
use Rattle.std.specs.Prelude.{None, Some}
use Rattle.tables.specs.Forest.{forest, grow, first, next, guarded}
use Rattle.tables.specs.Naming.{naming, named_by, one}
use Rattle.tables.specs.Nesting.{level}
use Rattle.tables.specs.Numbering.{visited, manner, numbering}

-- kind, detail, p, q, first, next; start and end are 0
rec : ℕ → ℕ → ℕ → ℕ → ℕ → ℕ → List ℕ
rec k d p q f n = k ∷ d ∷ p ∷ q ∷ 0 ∷ 0 ∷ f ∷ n ∷ []

-- a, b[fn] = fn, fn: an AssignMulti in case A's frame with a Function in each Left's property and on each right side
multi : ℕ → ℕ → ℕ → ℕ → List ℕ
multi a b c d =
    rec 30 0 0 4294967295 1 0 ++ rec 31 0 0 0 0 2 ++ rec 4 0 0 0 3 0 ++ rec 27 0 2 0 4 0
    ++ rec 34 1 0 0 5 8 ++ rec 2 0 0 0 0 6 ++ rec 5 0 0 0 7 0 ++ rec 30 0 a 4294967295 0 0
    ++ rec 34 1 0 0 9 12 ++ rec 2 0 0 0 0 10 ++ rec 5 0 0 0 11 0 ++ rec 30 0 b 4294967295 0 0
    ++ rec 5 0 0 0 13 14 ++ rec 30 0 c 4294967295 0 0
    ++ rec 5 0 0 0 15 0 ++ rec 30 0 d 4294967295 0 0

-- table 5: record 0 has no parent, the others are inside it
five : List ℕ
five = 4294967295 ∷ 0 ∷ 0 ∷ 0 ∷ 0 ∷ 0 ∷ 0 ∷ 0 ∷ 0 ∷ 0 ∷ []

-- the rights, then the Lefts from the last to the first
in_visiting_order : numbering (multi 4 3 1 2) five ≡ None
unfolding rec multi five forest grow first next guarded visited manner
in_visiting_order = refl

in_text_order : numbering (multi 1 2 3 4) five ≡ Some 7
unfolding rec multi five forest grow first next guarded visited manner
in_text_order = refl

well_named : naming (multi 4 3 1 2) ≡ None
unfolding rec multi named_by one
well_named = refl

deepest : level (multi 4 3 1 2) 7 ≡ 6
unfolding rec multi forest grow first next guarded
deepest = refl

too_short : numbering (multi 4 3 1 2) (4294967295 ∷ 0 ∷ []) ≡ Some 0
unfolding rec multi forest grow first next guarded visited manner
too_short = refl

-- a[fn] = fn with a Function in the right one: the right side first, and each inside the function around it
nested : List ℕ
nested =
    rec 30 0 0 4294967295 1 0 ++ rec 31 0 0 0 0 2 ++ rec 4 0 0 0 3 0 ++ rec 24 0 0 0 4 0
    ++ rec 34 1 0 0 5 8 ++ rec 2 0 0 0 0 6 ++ rec 5 0 0 0 7 0 ++ rec 30 0 3 4294967295 0 0
    ++ rec 5 0 0 0 9 0 ++ rec 30 0 1 4294967295 10 0 ++ rec 31 0 0 0 0 11 ++ rec 4 0 0 0 12 0 ++ rec 5 0 0 0 13 0 ++ rec 30 0 2 4294967295 0 0

right_first : numbering nested (4294967295 ∷ 0 ∷ 0 ∷ 0 ∷ 1 ∷ 0 ∷ 0 ∷ 0 ∷ []) ≡ None
unfolding rec nested forest grow first next guarded visited manner
right_first = refl

wrong_parent : numbering nested (4294967295 ∷ 0 ∷ 0 ∷ 0 ∷ 0 ∷ 0 ∷ 0 ∷ 0 ∷ []) ≡ Some 13
unfolding rec nested forest grow first next guarded visited manner
wrong_parent = refl
