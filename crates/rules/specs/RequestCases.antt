-- Small cases worked by hand from the texts of document 02, which the Rust cannot judge. Definitions only; proofs/CasesHold computes them.
use Rattle.std.specs.Prelude.{List, [], ◌∷◌, ◌++◌, ℕ}
use Rattle.pool.specs.Names.{Semantic}
use Rattle.tables.specs.declared.refusal.RunRule.TheVariants.{Operator}
use Rattle.rules.specs.declared.StackCode.{StackCode}
use Rattle.rules.specs.declared.StackCode.TheVariants.{Code1, Code2}
use Rattle.rules.specs.Out.{Outcome, listed, refused}
use Rattle.rules.specs.Cases.{frame, empty, null_const, case_h, case_i}

-- the stack code, the tables, the records, and what their run comes to
pub record Request : Type 0 where
  pub code : StackCode
  pub tables : Semantic
  pub records : List ℕ
  pub outcome : Outcome

-- function 0 has one name, the Local x: symbol 0, named by string 0 and by reference 0
abbrev pub one_local : Semantic
one_local = record { symbols = 0 ∷ 0 ∷ []; references = 0 ∷ []; functions = 4294967295 ∷ 1 ∷ []; members = 0 ∷ [] }

-- `x OP= 2`: AssignOp, its Left with the Ident x, Int 2
abbrev pub assigned : ℕ → List ℕ
assigned op =
    frame 0 3
    (25 ∷ op ∷ 0 ∷ 0 ∷ 0 ∷ 0 ∷ 4 ∷ 0 ∷ 34 ∷ 0 ∷ 0 ∷ 0 ∷ 0 ∷ 0 ∷ 5 ∷ 6 ∷ 2 ∷ 0 ∷ 0 ∷ 0 ∷ 0 ∷ 0 ∷ 0 ∷ 0 ∷ 1 ∷ 2 ∷ 2 ∷ 0 ∷ 0 ∷ 0 ∷ 0 ∷ 0 ∷ [])

-- `x.x OP= 2`: the Left has a Dot and its name
abbrev pub member_assigned : ℕ → List ℕ
member_assigned op =
    frame 0 3
    (25 ∷ op ∷ 0 ∷ 0 ∷ 0 ∷ 0 ∷ 4 ∷ 0 ∷ 34 ∷ 2 ∷ 0 ∷ 0 ∷ 0 ∷ 0 ∷ 5 ∷ 7 ∷ 2 ∷ 0 ∷ 0 ∷ 0 ∷ 0 ∷ 0 ∷ 0 ∷ 6 ∷ 2 ∷ 0 ∷ 0 ∷ 0 ∷ 0 ∷ 0 ∷ 0 ∷ 0
    ∷ 1 ∷ 2 ∷ 2 ∷ 0 ∷ 0 ∷ 0 ∷ 0 ∷ 0 ∷ [])

-- job 1: LoadLocal 0, the jump to label 0, LoadConst 1, Label 0, StoreLocal 0, LoadConst 0, Return; one label, constants Null and 2, the local x
abbrev pub short : ℕ → Outcome
short jump =
    listed
    (record {
      markers = 3 ∷ 0 ∷ jump ∷ 0 ∷ 6 ∷ 1 ∷ 52 ∷ 0 ∷ 7 ∷ 0 ∷ 6 ∷ 0 ∷ 37 ∷ 0 ∷ [];
      constants = 0 ∷ 0 ∷ 0 ∷ 2 ∷ 2 ∷ 0 ∷ [];
      names_out = 0 ∷ 0 ∷ 0 ∷ [];
      errors = [];
      lines = 7 ∷ 1 ∷ 2 ∷ 1 ∷ 0 ∷ 0 ∷ 0 ∷ [];
    })

-- job 11: `x.x` (1) or `x?.x` (9), a Member with the Ident x and the name
abbrev pub member_got : ℕ → List ℕ
member_got d = frame 0 3 (12 ∷ d ∷ 0 ∷ 0 ∷ 0 ∷ 0 ∷ 4 ∷ 0 ∷ 2 ∷ 0 ∷ 0 ∷ 0 ∷ 0 ∷ 0 ∷ 0 ∷ 5 ∷ 2 ∷ 0 ∷ 0 ∷ 0 ∷ 0 ∷ 0 ∷ 0 ∷ 0 ∷ [])

-- `x.x()` or `x?.x()`: a Call of it
abbrev pub member_called : ℕ → List ℕ
member_called d =
    frame 0 3
    (13 ∷ 0 ∷ 0 ∷ 0 ∷ 0 ∷ 0 ∷ 4 ∷ 0 ∷ 12 ∷ d ∷ 0 ∷ 0 ∷ 0 ∷ 0 ∷ 5 ∷ 0 ∷ 2 ∷ 0 ∷ 0 ∷ 0 ∷ 0 ∷ 0 ∷ 0 ∷ 6 ∷ 2 ∷ 0 ∷ 0 ∷ 0 ∷ 0 ∷ 0 ∷ 0 ∷ 0 ∷ [])

-- n markers and l labels, constants Null and the name, the local x
abbrev pub member_out : ℕ → ℕ → List ℕ → Outcome
member_out n l ms =
    listed
    (record {
      markers = ms;
      constants = 0 ∷ 0 ∷ 0 ∷ 4 ∷ 0 ∷ 0 ∷ [];
      names_out = 0 ∷ 0 ∷ 0 ∷ [];
      errors = [];
      lines = n ∷ l ∷ 2 ∷ 1 ∷ 0 ∷ 0 ∷ 0 ∷ [];
    })

-- n markers and no label, the constant Null
abbrev pub return_out : ℕ → List ℕ → Outcome
return_out n ms = listed (record { markers = ms; constants = null_const; names_out = []; errors = []; lines = n ∷ 0 ∷ 1 ∷ 0 ∷ 0 ∷ 0 ∷ 0 ∷ [] })

-- job 1: "emit JumpIfFalseOrPop (for And) or JumpIfTrueOrPop (for Or)"; "Member lefts and Is are still number 13"
abbrev pub shorts : List Request
shorts =
    record { code = Code1; tables = one_local; records = assigned 5; outcome = short 48 }
    ∷ record { code = Code1; tables = one_local; records = assigned 6; outcome = short 47 }
    ∷ record { code = Code1; tables = one_local; records = assigned 13; outcome = refused Operator 3 }
    ∷ record { code = Code1; tables = one_local; records = member_assigned 5; outcome = refused Operator 3 }
    ∷ record { code = Code1; tables = one_local; records = member_assigned 6; outcome = refused Operator 3 }
    ∷ []

-- job 11, cases H and I: LoadConst 0, ReturnCall 0, LoadConst 0, Return; LoadConst 0, Call 0, Return, LoadConst 0, Return
abbrev pub returns : List Request
returns =
    record { code = Code2; tables = empty; records = case_h.records; outcome = return_out 4 (6 ∷ 0 ∷ 38 ∷ 0 ∷ 6 ∷ 0 ∷ 37 ∷ 0 ∷ []) }
    ∷ record { code = Code2; tables = empty; records = case_i.records; outcome = return_out 5 (6 ∷ 0 ∷ 36 ∷ 0 ∷ 37 ∷ 0 ∷ 6 ∷ 0 ∷ 37 ∷ 0 ∷ []) }
    ∷ []

-- `x.x` in code 1: LoadLocal 0, LoadConst 1, GetAttr, Label 0, Return; in code 2 without Label 0; `x?.x` in code 2: JumpPopIfNull 0 after LoadLocal 0, and Label 0
abbrev pub members : List Request
members =
    record { code = Code1; tables = one_local; records = member_got 1; outcome = member_out 5 1 (3 ∷ 0 ∷ 6 ∷ 1 ∷ 11 ∷ 0 ∷ 52 ∷ 0 ∷ 37 ∷ 0 ∷ []) }
    ∷ record { code = Code2; tables = one_local; records = member_got 1; outcome = member_out 4 0 (3 ∷ 0 ∷ 6 ∷ 1 ∷ 11 ∷ 0 ∷ 37 ∷ 0 ∷ []) }
    ∷ record { code = Code2; tables = one_local; records = member_got 9; outcome = member_out 6 1 (3 ∷ 0 ∷ 44 ∷ 0 ∷ 6 ∷ 1 ∷ 11 ∷ 0 ∷ 52 ∷ 0 ∷ 37 ∷ 0 ∷ []) }
    ∷ []

-- in code 2 `x.x()`: LoadLocal 0, Copy 1, LoadConst 1, GetAttr, Swap 2, Call 1, Return; `x?.x()`: JumpPopIfNull 0 after LoadLocal 0, and Label 0 before Call 1
abbrev pub methods : List Request
methods =
    record { code = Code2; tables = one_local; records = member_called 1; outcome = member_out 7 0 (3 ∷ 0 ∷ 1 ∷ 1 ∷ 6 ∷ 1 ∷ 11 ∷ 0 ∷ 2 ∷ 2 ∷ 36 ∷ 1 ∷ 37 ∷ 0 ∷ []) }
    ∷ record {
      code = Code2;
      tables = one_local;
      records = member_called 9;
      outcome = member_out 9 1 (3 ∷ 0 ∷ 44 ∷ 0 ∷ 1 ∷ 1 ∷ 6 ∷ 1 ∷ 11 ∷ 0 ∷ 2 ∷ 2 ∷ 52 ∷ 0 ∷ 36 ∷ 1 ∷ 37 ∷ 0 ∷ []);
    }
    ∷ []

abbrev pub requests : List Request
requests = shorts ++ (returns ++ (members ++ methods))
