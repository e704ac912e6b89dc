-- The siblings from a record on, as their iterator gives them. Definitions only.
use Rattle.std.specs.Prelude.{List, [], ◌∷◌, ℕ}
use Rattle.tables.specs.Forest.{Forest, none, tree, forest}
use Rattle.plain.specs.declared.siblings.Siblings.{Siblings}

-- the numbers of a forest's own trees
abbrev pub numbers : Forest → List ℕ
numbers none = []
numbers (tree r w k s) = r ∷ numbers s

-- those that are left to give
abbrev pub left : Siblings → List ℕ
left s = numbers (forest s.records.now s.at)
