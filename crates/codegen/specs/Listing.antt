-- What is written function by function, and what its writing rests on. Definitions only.
use Rattle.std.specs.Prelude.{◌≡◌, true, List, [], ◌∷◌, ◌++◌, ℕ, ◌+◌, ◌*◌, ◌≤◌, ◌<◌, length, max, take, drop}
use Rattle.tables.specs.Record.{word, words, size, is_function}
use Rattle.tables.specs.Forest.{own_tree, children}
use Rattle.pool.specs.declared.spans.Span.{Span}
use Rattle.pool.specs.NameWords.{over, span_of}
use Rattle.rules.specs.Marker.{Op, Label, To, Back, Leave, Load, Do, Mark, mark}
use Rattle.rules.specs.Run.{Stream, State, marks as marks_of, labels as labels_of, side as side_of}
use Rattle.rules.specs.Out.{consts, marker_words, const_words, loop_depth, stream_numbered, each_function}
use Rattle.context.specs.Words.{limit}
use Rattle.codegen.specs.Places.{Numbered}
use Rattle.codegen.specs.Walks.{noted_run, single, Walkable}
use Rattle.codegen.specs.Outputs.{holding}
use Rattle.codegen.specs.declared.outputs.Outputs.{Outputs}
use Rattle.codegen.specs.declared.streams.Reached.{Reached}

-- the number that is a marker's operand; a constant's index is one by the number of constants
abbrev pub operand_number : Op → ℕ
operand_number (Label l) = l
operand_number (To h l) = l
operand_number (Back l) = l
operand_number (Leave x l) = l
operand_number (Load c v) = 0
operand_number (Do c n) = n

abbrev pub largest : List Mark → ℕ
largest [] = 0
largest (mark r x ∷ ms) = max (operand_number x) (largest ms)

-- operands that a word holds
abbrev pub Small : Op → Type 0
Small x = operand_number x ≤ limit

abbrev pub AllSmall : List Mark → Type 0
AllSmall ms = largest ms ≤ limit

-- the words of one stream: "markers (code, operand or 0)", "constants (kind, two words ..)"
abbrev pub markers_of : Stream → List ℕ
markers_of x = marker_words (consts x.marks) x.marks []

abbrev pub constants_of : Stream → List ℕ
constants_of x = const_words (consts x.marks)

-- "a line counting its markers, labels, constants, locals, globals, upvalues and loop depth", the names as their spans count them
abbrev pub line_of : (recs : List ℕ) (spans : List Span) → Stream → List ℕ
line_of recs spans x =
    length x.marks ∷ x.labels ∷ length (consts x.marks) ∷ (span_of spans x.number).locals ∷ (span_of spans x.number).globals
    ∷ (span_of spans x.number).upvalues ∷ loop_depth (own_tree (children recs x.at)) ∷ []

-- how many functions a run met, the stream of function n, and some words of each of the first n functions
abbrev pub met_of : State → ℕ
met_of A = (side_of A).met

abbrev pub stream_of : State → ℕ → Stream
stream_of A n = stream_numbered (side_of A).streams n

abbrev pub first_of : State → (Stream → List ℕ) → ℕ → List ℕ
first_of A f n = each_function f (side_of A).streams n

-- the stream x of function n is that of the Function of this number by itself, and words hold its numbers
pub record Own (ns recs : List ℕ) (n : ℕ) (x : Stream) : Type 0 where
  pub number : x.number ≡ n
  pub inside : x.at < size recs
  pub function : is_function (words recs x.at) ≡ true
  pub named : word recs x.at 2 ≡ n
  pub marks : x.marks ≡ marks_of (single ns recs x.at)
  pub labels : x.labels ≡ labels_of (single ns recs x.at)
  pub small : AllSmall x.marks
  pub few : length x.marks < limit
  pub countable : x.labels ≤ limit

-- the records and their notes can be walked, and every function met has its record
pub record Ready (ns recs : List ℕ) : Type 0 where
  pub walkable : Walkable ns recs
  pub numbered : Numbered recs 256
  pub own : (n : ℕ) → n < met_of (noted_run ns recs) → Own ns recs n (stream_of (noted_run ns recs) n)

-- function n was met, and its words have room from these places on
pub record Turning (A : State) (markers constants lines : List ℕ) (n : ℕ) (at : Reached) : Type 0 where
  pub met : n < met_of A
  pub markers_fit : at.markers + length (markers_of (stream_of A n)) ≤ length markers
  pub constants_fit : at.constants + length (constants_of (stream_of A n)) ≤ length constants
  pub lines_fit : n * 7 + 7 ≤ length lines

-- some words from a place on are laid over, the others "stay as they were"
abbrev pub over_at : ℕ → List ℕ → List ℕ → List ℕ
over_at i xs ws = take i ws ++ over xs (drop i ws)

-- function n is written
abbrev pub turned : (A : State) (recs : List ℕ) (spans : List Span) → ℕ → Reached → Outputs → Outputs
turned A recs spans n at o = record o {
  markers = holding o.markers (over_at at.markers (markers_of (stream_of A n)) o.markers.now);
  constants = holding o.constants (over_at at.constants (constants_of (stream_of A n)) o.constants.now);
  lines = holding o.lines (over_at (n * 7) (line_of recs spans (stream_of A n)) o.lines.now);
}

abbrev pub onward : State → ℕ → Reached → Reached
onward A n at = record {
  markers = at.markers + length (markers_of (stream_of A n));
  constants = at.constants + length (constants_of (stream_of A n));
}

-- the first n functions are written
abbrev pub upto : (A : State) (recs : List ℕ) (spans : List Span) → ℕ → Outputs → Outputs
upto A recs spans n o = record o {
  markers = holding o.markers (over (first_of A markers_of n) o.markers.now);
  constants = holding o.constants (over (first_of A constants_of n) o.constants.now);
  lines = holding o.lines (over (first_of A (line_of recs spans) n) o.lines.now);
}

-- "1 line per function" and the others are room enough
pub record Spaced (A : State) (markers constants lines : List ℕ) : Type 0 where
  pub markers_fit : (n : ℕ) → n ≤ met_of A → length (first_of A markers_of n) ≤ length markers
  pub constants_fit : (n : ℕ) → n ≤ met_of A → length (first_of A constants_of n) ≤ length constants
  pub lines_fit : met_of A * 7 ≤ length lines

-- all functions met are written
pub record Streams (A : State) (recs : List ℕ) (spans : List Span) (markers markers' constants constants' lines lines' : List ℕ) : Type 0 where
  pub markers_laid : markers' ≡ over (first_of A markers_of (met_of A)) markers
  pub constants_laid : constants' ≡ over (first_of A constants_of (met_of A)) constants
  pub lines_laid : lines' ≡ over (first_of A (line_of recs spans) (met_of A)) lines
