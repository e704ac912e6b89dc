-- Document 01's worked cases A to J, as one table. Definitions only; proofs/CasesHold computes them.
use Rattle.std.specs.Prelude.{List, [], ◌∷◌, ℕ}
use Rattle.pool.specs.Names.{Semantic}

-- a case: the records, and the words of function 0's markers, constants and line, and of the errors
pub record Case : Type 0 where
  pub records : List ℕ
  pub markers : List ℕ
  pub constants : List ℕ
  pub errors : List ℕ
  pub line : List ℕ

-- no symbols, no references; "table 5 `4294967295 0`"
abbrev pub empty : Semantic
empty = record { symbols = []; references = []; functions = 4294967295 ∷ 0 ∷ []; members = [] }

-- a Function (0) or Do (2) with a body that begins at record 3, or an empty one
abbrev pub frame : ℕ → ℕ → List ℕ → List ℕ
frame d b rest =
    30 ∷ d ∷ 0 ∷ 4294967295 ∷ 0 ∷ 0 ∷ 1 ∷ 0
    ∷ 31 ∷ 0 ∷ 0 ∷ 0 ∷ 0 ∷ 0 ∷ 0 ∷ 2
    ∷ 4 ∷ 0 ∷ 0 ∷ 0 ∷ 0 ∷ 0 ∷ b ∷ 0
    ∷ rest

abbrev pub null_const : List ℕ
null_const = 0 ∷ 0 ∷ 0 ∷ []

-- A, a Function with an empty body
abbrev pub case_a : Case
case_a = record { records = frame 0 0 []; markers = 6 ∷ 0 ∷ 37 ∷ 0 ∷ []; constants = null_const; errors = []; line = 2 ∷ 0 ∷ 1 ∷ 0 ∷ 0 ∷ 0 ∷ 0 ∷ [] }

-- "B, Do, empty: LoadConst 0, Pop, LoadLocals, Return."
abbrev pub case_b : Case
case_b =
    record { records = frame 2 0 []; markers = 6 ∷ 0 ∷ 0 ∷ 0 ∷ 39 ∷ 0 ∷ 37 ∷ 0 ∷ []; constants = null_const; errors = []; line = 4 ∷ 0 ∷ 1 ∷ 0 ∷ 0 ∷ 0 ∷ 0 ∷ [] }

-- "C `break`: Return; BreakOutsideLoop."
abbrev pub case_c : Case
case_c =
    record {
      records = frame 0 3 (19 ∷ 0 ∷ 0 ∷ 0 ∷ 5 ∷ 10 ∷ 0 ∷ 0 ∷ []);
      markers = 37 ∷ 0 ∷ [];
      constants = null_const;
      errors = 0 ∷ 5 ∷ 10 ∷ [];
      line = 1 ∷ 0 ∷ 1 ∷ 0 ∷ 0 ∷ 0 ∷ 0 ∷ [];
    }

-- "D `break`, null: Pop, LoadConst 0, Return; same error."
abbrev pub case_d : Case
case_d =
    record {
      records = frame 0 3 (19 ∷ 0 ∷ 0 ∷ 0 ∷ 5 ∷ 10 ∷ 0 ∷ 4 ∷ 1 ∷ 0 ∷ 0 ∷ 0 ∷ 0 ∷ 0 ∷ 0 ∷ 0 ∷ []);
      markers = 0 ∷ 0 ∷ 6 ∷ 0 ∷ 37 ∷ 0 ∷ [];
      constants = null_const;
      errors = 0 ∷ 5 ∷ 10 ∷ [];
      line = 3 ∷ 0 ∷ 1 ∷ 0 ∷ 0 ∷ 0 ∷ 0 ∷ [];
    }

-- "E `loop { break }`: Label 0, Break 1, LoadConst 0, Pop, JumpBackEdge 0, Label 1, LoadConst 0, Return."
abbrev pub case_e : Case
case_e =
    record {
      records = frame 0 3 (16 ∷ 0 ∷ 0 ∷ 0 ∷ 0 ∷ 0 ∷ 4 ∷ 0 ∷ 4 ∷ 0 ∷ 0 ∷ 0 ∷ 0 ∷ 0 ∷ 5 ∷ 0 ∷ 19 ∷ 0 ∷ 0 ∷ 0 ∷ 0 ∷ 0 ∷ 0 ∷ 0 ∷ []);
      markers = 52 ∷ 0 ∷ 42 ∷ 1 ∷ 6 ∷ 0 ∷ 0 ∷ 0 ∷ 41 ∷ 0 ∷ 52 ∷ 1 ∷ 6 ∷ 0 ∷ 37 ∷ 0 ∷ [];
      constants = null_const;
      errors = [];
      line = 8 ∷ 2 ∷ 1 ∷ 0 ∷ 0 ∷ 0 ∷ 1 ∷ [];
    }

-- "F `1 and 2`: LoadConst 1, JumpIfFalseOrPop 0, LoadConst 2, Label 0, Return."
abbrev pub case_f : Case
case_f =
    record {
      records = frame 0 3 (10 ∷ 5 ∷ 0 ∷ 0 ∷ 0 ∷ 0 ∷ 4 ∷ 0 ∷ 1 ∷ 2 ∷ 1 ∷ 0 ∷ 0 ∷ 0 ∷ 0 ∷ 5 ∷ 1 ∷ 2 ∷ 2 ∷ 0 ∷ 0 ∷ 0 ∷ 0 ∷ 0 ∷ []);
      markers = 6 ∷ 1 ∷ 48 ∷ 0 ∷ 6 ∷ 2 ∷ 52 ∷ 0 ∷ 37 ∷ 0 ∷ [];
      constants = 0 ∷ 0 ∷ 0 ∷ 2 ∷ 1 ∷ 0 ∷ 2 ∷ 2 ∷ 0 ∷ [];
      errors = [];
      line = 5 ∷ 1 ∷ 3 ∷ 0 ∷ 0 ∷ 0 ∷ 0 ∷ [];
    }

-- "G `[7, 7]`: LoadConst 1 twice, BuildList 2, Return."
abbrev pub case_g : Case
case_g =
    record {
      records = frame 0 3 (8 ∷ 0 ∷ 0 ∷ 0 ∷ 0 ∷ 0 ∷ 4 ∷ 0 ∷ 1 ∷ 2 ∷ 7 ∷ 0 ∷ 0 ∷ 0 ∷ 0 ∷ 5 ∷ 1 ∷ 2 ∷ 7 ∷ 0 ∷ 0 ∷ 0 ∷ 0 ∷ 0 ∷ []);
      markers = 6 ∷ 1 ∷ 6 ∷ 1 ∷ 10 ∷ 2 ∷ 37 ∷ 0 ∷ [];
      constants = 0 ∷ 0 ∷ 0 ∷ 2 ∷ 7 ∷ 0 ∷ [];
      errors = [];
      line = 4 ∷ 0 ∷ 2 ∷ 0 ∷ 0 ∷ 0 ∷ 0 ∷ [];
    }

-- "H `return null()`: Jump 0, Label 0, LoadConst 0, ReturnCall 0, LoadConst 0, Return."
abbrev pub case_h : Case
case_h =
    record {
      records = frame 0 3 (21 ∷ 0 ∷ 0 ∷ 0 ∷ 0 ∷ 0 ∷ 4 ∷ 0 ∷ 13 ∷ 0 ∷ 0 ∷ 0 ∷ 0 ∷ 0 ∷ 5 ∷ 0 ∷ 1 ∷ 0 ∷ 0 ∷ 0 ∷ 0 ∷ 0 ∷ 0 ∷ 0 ∷ []);
      markers = 40 ∷ 0 ∷ 52 ∷ 0 ∷ 6 ∷ 0 ∷ 38 ∷ 0 ∷ 6 ∷ 0 ∷ 37 ∷ 0 ∷ [];
      constants = null_const;
      errors = [];
      line = 6 ∷ 1 ∷ 1 ∷ 0 ∷ 0 ∷ 0 ∷ 0 ∷ [];
    }

-- "I, the call in Paren: .., Call 0, Return, LoadConst 0, Return."
abbrev pub case_i : Case
case_i =
    record {
      records =
          frame 0 3 (21 ∷ 0 ∷ 0 ∷ 0 ∷ 0 ∷ 0 ∷ 4 ∷ 0 ∷ 3 ∷ 0 ∷ 0 ∷ 0 ∷ 0 ∷ 0 ∷ 5 ∷ 0 ∷ 13 ∷ 0 ∷ 0 ∷ 0 ∷ 0 ∷ 0 ∷ 6 ∷ 0 ∷ 1 ∷ 0 ∷ 0 ∷ 0 ∷ 0 ∷ 0 ∷ 0 ∷ 0 ∷ []);
      markers = 40 ∷ 0 ∷ 52 ∷ 0 ∷ 6 ∷ 0 ∷ 36 ∷ 0 ∷ 37 ∷ 0 ∷ 6 ∷ 0 ∷ 37 ∷ 0 ∷ [];
      constants = null_const;
      errors = [];
      line = 7 ∷ 1 ∷ 1 ∷ 0 ∷ 0 ∷ 0 ∷ 0 ∷ [];
    }

-- "J, Do, `while (return 1) {}`, `break`: Label 0, Pop, Break 1, LoadConst 0, Pop, LoadLocals, Return; one error."
abbrev pub case_j : Case
case_j =
    record {
      records =
          frame 2 3
          (17 ∷ 0 ∷ 0 ∷ 0 ∷ 0 ∷ 0 ∷ 4 ∷ 7 ∷ 21 ∷ 0 ∷ 0 ∷ 0 ∷ 7 ∷ 15 ∷ 5 ∷ 6 ∷ 1 ∷ 2 ∷ 1 ∷ 0 ∷ 0 ∷ 0 ∷ 0 ∷ 0 ∷ 4 ∷ 0 ∷ 0 ∷ 0 ∷ 0 ∷ 0 ∷ 0 ∷ 0 ∷ 19 ∷ 0 ∷ 0 ∷ 0 ∷ 0 ∷ 0 ∷
          0 ∷ 0 ∷ []);
      markers = 52 ∷ 0 ∷ 0 ∷ 0 ∷ 42 ∷ 1 ∷ 6 ∷ 0 ∷ 0 ∷ 0 ∷ 39 ∷ 0 ∷ 37 ∷ 0 ∷ [];
      constants = null_const;
      errors = 2 ∷ 7 ∷ 15 ∷ [];
      line = 7 ∷ 2 ∷ 1 ∷ 0 ∷ 0 ∷ 0 ∷ 1 ∷ [];
    }

abbrev pub cases : List Case
cases = case_a ∷ case_b ∷ case_c ∷ case_d ∷ case_e ∷ case_f ∷ case_g ∷ case_h ∷ case_i ∷ case_j ∷ []
