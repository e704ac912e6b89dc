-- Row 4 of 'Refused by place': "unknown kind or detail; string out of range; Bool not 0 or 1". Definitions only.
use Rattle.std.specs.Prelude.{Bool, true, not, cond, ◌&&◌, ◌||◌, List, [], ◌∷◌, ℕ, zero, suc, leb, ltb, eqb, Option, None, Some}
use Rattle.tables.specs.Record.{Words, words, absent}

-- a kind's number and what the kind has
pub data Row (A : Type 0) : Type 0 where
  row : ℕ → A → Row A

-- what the kind of number k has, or else
abbrev pub of_kind : {A : Type 0} → ℕ → List (Row A) → A → A
of_kind k [] other = other
of_kind k (row n x ∷ rows) other = cond (eqb k n) x (of_kind k rows other)

-- the kinds of section 'Records': 1 to 27 and 30 to 39
abbrev pub known_kind : ℕ → Bool
known_kind k = (leb 1 k && leb k 27) || (leb 30 k && leb k 39)

-- how many details a kind has, counted from 0, for the kinds that name them (reading 4)
abbrev pub details : List (Row ℕ)
details =
    row 1 6  -- Lit: Null, Bool, Int, Float, Str, Bytes
    ∷ row 5 2  -- Fn: an Ident or not
    ∷ row 9 2  -- Unary: Not, Neg
    ∷ row 10 14  -- Binary: operators
    ∷ row 11 10  -- TypeCheck: types
    ∷ row 12 14  -- Member: members 0 to 5, "+8 if safe"
    ∷ row 14 2  -- If: an else or not
    ∷ row 22 4  -- Import: Simple, with alias, Items, Glob
    ∷ row 25 14  -- AssignOp: operators
    ∷ row 30 3  -- Function, Closure, Do
    ∷ row 31 2  -- Params: a variadic or not
    ∷ row 34 7  -- Left: "0, or 1 + member"
    ∷ row 35 6  -- Lit pattern, worded as Lit
    ∷ row 37 2  -- Table pattern: `others` or not
    ∷ row 38 2  -- List pattern: `others` or not
    ∷ row 39 2  -- Item: an alias or not
    ∷ []

-- the count, none for a kind that names no details
abbrev pub named_count : ℕ → Option ℕ
named_count zero = None
named_count (suc n) = Some (suc n)

-- detail d of kind k, which has n of them. "Words a kind doesn't use are ignored": any, where the kind names none (reading 3);
-- between the members and the safe ones a Member (12) has none
abbrev pub right_number : ℕ → ℕ → ℕ → Bool
right_number k d n = eqb n 0 || (ltb d n && not (eqb k 12 && (leb 6 d && leb d 7)))

abbrev pub known_detail : Words → Bool
known_detail w = right_number w.kind w.detail (of_kind w.kind details 0)

-- "1 Bool p", "4 Str p, 5 Bytes p"
abbrev pub right_lit : ℕ → Words → Bool
right_lit n w = cond (eqb w.detail 1) (ltb w.p 2) (cond (eqb w.detail 4 || eqb w.detail 5) (ltb w.p n) true)

-- the words that are one of n strings, and Bool's, by kind (reading 4)
abbrev pub word_rules : ℕ → Words → List (Row Bool)
word_rules n w =
    row 1 (right_lit n w)  -- Lit
    ∷ row 2 (ltb w.q n)  -- Ident: "q name"
    ∷ row 6 (ltb w.p n)  -- Effect: "p name"
    ∷ row 22 (ltb w.q n)  -- Import: "q path string"
    ∷ row 30 (eqb w.q absent || ltb w.q n)  -- Function: "q name or none"
    ∷ row 35 (right_lit n w)  -- Lit pattern
    ∷ row 36 (ltb w.q n)  -- Ident pattern
    ∷ []

abbrev pub right_words : ℕ → Words → Bool
right_words n w = of_kind w.kind (word_rules n w) true

unfoldable pub right_detail : ℕ → Words → Bool
right_detail n w = known_kind w.kind && (known_detail w && right_words n w)

abbrev pub wrong_detail : List ℕ → ℕ → ℕ → Bool
wrong_detail recs n r = not (right_detail n (words recs r))
