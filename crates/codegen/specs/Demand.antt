-- Demand 3 of document 01 on the words that a call leaves: each function's own words, found by the counts of the lines. Definitions only.
use Rattle.std.specs.Prelude.{◌≡◌, List, ℕ, zero, suc, ◌+◌, ◌*◌, ◌<◌, get_or, take, drop}
use Rattle.tables.specs.Forest.{children, own_tree}
use Rattle.pool.specs.Names.{Semantic}
use Rattle.rules.specs.Run.{Stream, side}
use Rattle.rules.specs.Out.{consts, const_words, stream_numbered}
use Rattle.rules.specs.Counts.{labels_counted}
use Rattle.rules.specs.Demand.{Labels, Loops, Constants, Indices}
use Rattle.codegen.specs.Walks.{stack_code, ran}

-- "a line counting its markers, labels, constants, ..": word j of function f's line
abbrev pub counted_at : ℕ → List ℕ → ℕ → ℕ
counted_at j lines f = get_or lines (f * 7 + j) 0

-- how many words stand before function f's, w for each of what word j of a line counts
unfoldable pub before : ℕ → ℕ → List ℕ → ℕ → ℕ
before w j lines zero = 0
before w j lines (suc f) = before w j lines f + w * counted_at j lines f

-- "Out, function by function": function f's own among some words
abbrev pub own_words : ℕ → ℕ → List ℕ → List ℕ → ℕ → List ℕ
own_words w j lines ws f = take (w * counted_at j lines f) (drop (before w j lines f) ws)

-- function f's markers, constants and label count keep demand 3; its stream tells its record, which record wrote a marker, which labels a loop keeps, and the
-- constants' values
pub record Sound3 (t : Semantic) (recs markers constants lines : List ℕ) (met f : ℕ) (stream : Stream) : Type 0 where
  pub counted : counted_at 1 lines f ≡ labels_counted stack_code (own_tree (children recs stream.at))
  pub labels : Labels (own_words 2 0 lines markers f) (counted_at 0 lines f) (counted_at 1 lines f)
  pub loops : Loops recs stream (own_words 2 0 lines markers f) (counted_at 0 lines f)
  pub constants_are : own_words 3 2 lines constants f ≡ const_words (consts stream.marks)
  pub constants_right : Constants (consts stream.marks) (own_words 2 0 lines markers f) (counted_at 0 lines f)
  pub indices : Indices t f met (consts stream.marks) (own_words 2 0 lines markers f) (counted_at 0 lines f)

-- "for each function"
abbrev pub Demand3On : Semantic → (recs markers constants lines : List ℕ) → ℕ → Type 0
Demand3On t recs markers constants lines met = (f : ℕ) → f < met → Sound3 t recs markers constants lines met f (stream_numbered (side (ran t recs)).streams f)
