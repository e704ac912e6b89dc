-- Row 8 of document 01: "nesting past 128 levels, record 0 being level 1". Definitions only.
use Rattle.std.specs.Prelude.{cond, List, ℕ, suc, max, ltb, eqb, Option}
use Rattle.tables.specs.Record.{size}
use Rattle.tables.specs.Forest.{Forest, none, tree, root}
use Rattle.tables.specs.Place.{broken}

-- the level of record x in a forest that stands on level l: the deepest one where it stands, 0 where it is nowhere
abbrev pub level_in : ℕ → ℕ → Forest → ℕ
level_in x l none = 0
level_in x l (tree r w k s) = max (cond (eqb x r) l 0) (max (level_in x (suc l) k) (level_in x l s))

-- "record 0 being level 1"
abbrev pub level : List ℕ → ℕ → ℕ
level recs x = level_in x 1 (root recs)

-- "nesting past 128 levels"; the place is the lowest-numbered record on level 129 or deeper (reading 9)
abbrev pub nesting : List ℕ → Option ℕ
nesting recs = broken (λ x. ltb 128 (level recs x)) (size recs)
