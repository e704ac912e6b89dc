-- Loop depths in a table of one word a record. Definitions only.
use Rattle.std.specs.Prelude.{◌≡◌, cond, ◌&&◌, List, ℕ, ◌+◌, ◌≤◌, ◌<◌, length, get_or, leb, eqb}
use Rattle.tables.specs.Record.{size}
use Rattle.tables.specs.Forest.{own_tree, forest}
use Rattle.rules.specs.Out.{loop_depth}

-- "the most Loop, While and For records on one path of the function's own tree": the depth of a record of kind k, where what is inside it has depth d
unfoldable pub around_of : ℕ → ℕ → ℕ
around_of k d = cond (eqb k 30) 0 (cond (leb 16 k && leb k 18) (d + 1) d)

-- a table that has a place for each record, 0 at record 0, which stands for an absent one
pub record Roomed (recs table : List ℕ) : Type 0 where
  pub few : size recs ≤ 4096
  pub room : size recs ≤ length table
  pub some : 0 < length table
  pub absent : get_or table 0 0 ≡ 0

-- and at every other record the depth of its own tree and its later siblings'
pub record Depths (recs table : List ℕ) : Type 0 where
  pub roomed : Roomed recs table
  pub depths : (r : ℕ) → 0 < r → r < size recs → get_or table r 0 ≡ loop_depth (own_tree (forest recs r))
