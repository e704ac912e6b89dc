-- The loop around a record, from the tree alone. Document 01, 'Words of demand 3': "the loop around a Break or Continue is the first Loop, While or For
-- met going up from the record whose visit wrote it, before a Function". Definitions only.
use Rattle.std.specs.Prelude.{cond, ℕ, suc}
use Rattle.tables.specs.Record.{Words, is_loop, is_function}
use Rattle.tables.specs.Forest.{Forest, tree}

-- the loop around the children of record r, where c is the one around r: 0 for none, suc o for the record o
abbrev pub inward : ℕ → ℕ → Words → ℕ
inward c r w = cond (is_loop w) (suc r) (cond (is_function w) 0 c)

-- record q is in some trees, and a is the loop around it, where c is the one around the trees
pub data Around (q a : ℕ) : ℕ → Forest → Type 0 where
  here : {w : Words} {k s : Forest} → Around q a a (tree q w k s)
  below : {c r : ℕ} {w : Words} {k s : Forest} → Around q a (inward c r w) k → Around q a c (tree r w k s)
  beside : {c r : ℕ} {w : Words} {k s : Forest} → Around q a c s → Around q a c (tree r w k s)
