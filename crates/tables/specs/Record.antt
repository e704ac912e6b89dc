-- Table 7 of document 01: "7 records: kind, detail, p, q, start, end, first, next", eight words each. Definitions only.
use Rattle.std.specs.Prelude.{Bool, ◌&&◌, ◌||◌, List, ℕ, ◌+◌, ◌*◌, ◌/◌, length, get_or, leb, eqb}

-- a record's words but for its two links
pub record Words : Type 0 where
  pub kind : ℕ
  pub detail : ℕ
  pub p : ℕ
  pub q : ℕ
  pub start : ℕ
  pub end : ℕ

-- words of one record
abbrev pub width : ℕ
width = 8

-- word i of record r
abbrev pub word : List ℕ → ℕ → ℕ → ℕ
word recs r i = get_or recs (r * width + i) 0

abbrev pub words : List ℕ → ℕ → Words
words recs r =
    record {
      kind = word recs r 0;
      detail = word recs r 1;
      p = word recs r 2;
      q = word recs r 3;
      start = word recs r 4;
      end = word recs r 5;
    }

-- the number of records
abbrev pub size : List ℕ → ℕ
size recs = length recs / width

-- the value `none` of document 01, "none is 4,294,967,295"
abbrev pub absent : ℕ
absent = 4294967295

-- "An expr is 1 to 27, a pattern 35 to 38."
abbrev pub is_expr : Words → Bool
is_expr w = leb 1 w.kind && leb w.kind 27

abbrev pub is_pattern : Words → Bool
is_pattern w = leb 35 w.kind && leb w.kind 38

abbrev pub is_kind : ℕ → Words → Bool
is_kind k w = eqb w.kind k

-- 30 Function
abbrev pub is_function : Words → Bool
is_function w = is_kind 30 w

-- 30 Function, detail 2 Do
abbrev pub is_do : Words → Bool
is_do w = eqb w.detail 2

-- 16 Loop, 17 While, 18 For
abbrev pub is_loop : Words → Bool
is_loop w = leb 16 w.kind && leb w.kind 18

-- 2 Ident, 36 the same as a pattern
abbrev pub is_ident : Words → Bool
is_ident w = is_kind 2 w || is_kind 36 w
