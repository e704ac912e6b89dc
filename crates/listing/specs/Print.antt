-- What is printed: bytes into a lent buffer from a place on, and the texts of numbers. Definitions only.
use Rattle.std.specs.Prelude.{Option, Some, None, Bool, true, false, cond, List, [], ◌∷◌, ◌++◌, ◌≡◌, ℕ, zero, suc}
use Rattle.std.specs.Prelude.{◌+◌, ◌-◌, ◌*◌, ◌/◌, ◌%◌, ◌^◌, ◌≤◌, ◌<◌, min, length, set, get_or, drop, ltb, eqb}
use Rattle.opcode.specs.Names.{bytes, name}
use Rattle.opcode.specs.Kinds.{operand_kind}
use Rattle.opcode.specs.declared.opcode.OperandKind.{OperandKind}
use Rattle.opcode.specs.declared.opcode.OperandKind.TheVariants as operand
use Rattle.listing.specs.declared.text.Writer.{Writer}
use Rattle.tables.specs.Record.{word, size}
use Rattle.tables.specs.Forest.{first, next}
use Rattle.tables.specs.Semantic.{symbol_name}

-- a text's bytes from a place on, as long as there is room; with it the place after the last byte written
unfoldable pub wrote : List ℕ → List ℕ → ℕ → List ℕ × ℕ
wrote [] out at = (out, at)
wrote (b ∷ bs) out at = cond (ltb at (length out)) (wrote bs (set out at b) (at + 1)) (out, at)

-- the buffer and the place after a text is written
pub record Wrote (text out : List ℕ) (at : ℕ) (new : List ℕ) (to : ℕ) : Type 0 where
  pub by : wrote text out at ≡ (new, to)

-- the writer after a text is written
unfoldable pub after : List ℕ → Writer → Writer
after text w = record w { out = record w.out { now = (wrote text w.out.now w.at).0 }; at = (wrote text w.out.now w.at).1 }

-- the last decimal digit of n
abbrev pub digit : ℕ → ℕ
digit n = 48 + n % 10

-- the decimal digits of n without zeros before them, at most k of them
unfoldable pub digits : ℕ → ℕ → List ℕ
digits zero n = []
digits (suc k) n = cond (ltb n 10) [] (digits k (n / 10)) ++ (digit n ∷ [])

-- a number of 64 bits in decimal: 20 digits hold each of them
abbrev pub decimal : ℕ → List ℕ
decimal n = digits 20 n

-- "powers of ten from a fixed list of twenty" (document 02, job 7): entry k is 10 to the k
pub record Powers (ps : List ℕ) : Type 0 where
  pub at : (k : ℕ) → k < 20 → get_or ps k 0 ≡ 10 ^ k

-- n has w digits: as many hold it, and no fewer do
pub record Wide (n w : ℕ) : Type 0 where
  pub some : 0 < w
  pub most : w ≤ 20
  pub below : n < 10 ^ w
  pub first : 1 < w → 10 ^ (w - 1) ≤ n

-- n is d times a power and a rest below it: d is the first digit
pub record Leads (n power d rest : ℕ) : Type 0 where
  pub sum : d * power + rest ≡ n
  pub less : rest < power
  pub one : d < 10

-- the last hexadecimal digit of n, small
abbrev pub hex_digit : ℕ → ℕ
hex_digit n = cond (ltb (n % 16) 10) (48 + n % 16) (87 + n % 16)

-- the last k hexadecimal digits of n
unfoldable pub hex_digits : ℕ → ℕ → List ℕ
hex_digits zero n = []
hex_digits (suc k) n = hex_digits k (n / 16) ++ (hex_digit n ∷ [])

-- the number of two words
abbrev pub joined : ℕ → ℕ → ℕ
joined high low = high * 4294967296 + low

-- "Float 16 small hexadecimal digits"
abbrev pub float : ℕ → ℕ → List ℕ
float high low = hex_digits 16 (joined high low)

-- "Int signed": two's complement of 64 bits
unfoldable pub int : ℕ → ℕ → List ℕ
int high low = cond (ltb high 2147483648) (decimal (joined high low)) (45 ∷ decimal (18446744073709551616 - joined high low))

-- a row's function, section and place
unfoldable pub beginning : ℕ → List ℕ → ℕ → List ℕ
beginning function section place = decimal function ++ (32 ∷ []) ++ section ++ (32 ∷ []) ++ decimal place ++ (32 ∷ [])

-- the rows of places i to i + n - 1
unfoldable pub rows_from : (ℕ → List ℕ) → ℕ → ℕ → List ℕ
rows_from row zero i = []
rows_from row (suc n) i = row i ++ rows_from row n (i + 1)

-- whether an opcode of this kind has an operand
abbrev pub takes_of : OperandKind → Bool
takes_of operand.None = false
takes_of operand.Count = true
takes_of operand.Type = true
takes_of operand.Label = true
takes_of operand.Const = true
takes_of operand.Local = true
takes_of operand.Global = true
takes_of operand.Upvalue = true

-- the same of what the table of kinds answers
abbrev pub has_operand : Option OperandKind → Bool
has_operand (Some kind) = takes_of kind
has_operand None = false

-- "an empty field as `-`"
unfoldable pub operand_text : ℕ → ℕ → List ℕ
operand_text code word = cond (has_operand (operand_kind code)) (decimal word) (45 ∷ [])

-- a marker: its code's name and its operand
unfoldable pub code_row : ℕ → ℕ → ℕ → ℕ → List ℕ
code_row function place code word = beginning function (bytes "code") place ++ name code ++ (32 ∷ []) ++ operand_text code word ++ bytes " -\n"

-- the markers of a function, from its first marker's words on
abbrev pub code_at : ℕ → List ℕ → ℕ → List ℕ
code_at function markers i = code_row function i (get_or markers (i * 2) 0) (get_or markers (i * 2 + 1) 0)

abbrev pub code_rows : ℕ → List ℕ → ℕ → List ℕ
code_rows function markers count = rows_from (code_at function markers) count 0

-- "A const has its kind's name"
abbrev pub const_names : List (List ℕ)
const_names =
    bytes "Null" ∷ bytes "Bool" ∷ bytes "Int" ∷ bytes "Float" ∷ bytes "Str" ∷ bytes "Bytes" ∷ bytes "Function" ∷ bytes "Effect" ∷ bytes "Yield" ∷ []

unfoldable pub const_name : ℕ → List ℕ
const_name kind = get_or const_names kind []

-- "`-` for Null and Yield, Int signed, Float 16 small hexadecimal digits, else its first word"
unfoldable pub const_value : ℕ → ℕ → ℕ → List ℕ
const_value kind low high =
    cond (eqb kind 0) (45 ∷ []) (cond (eqb kind 2) (int high low) (cond (eqb kind 3) (float high low) (cond (eqb kind 8) (45 ∷ []) (decimal low))))

-- a constant: its kind's name and its value
unfoldable pub const_row : ℕ → ℕ → ℕ → ℕ → ℕ → List ℕ
const_row function place kind low high =
    beginning function (bytes "const") place ++ const_name kind ++ (32 ∷ []) ++ const_value kind low high ++ bytes " -\n"

abbrev pub const_at : ℕ → List ℕ → ℕ → List ℕ
const_at function constants i =
    const_row function i (get_or constants (i * 3) 0) (get_or constants (i * 3 + 1) 0) (get_or constants (i * 3 + 2) 0)

abbrev pub const_rows : ℕ → List ℕ → ℕ → List ℕ
const_rows function constants count = rows_from (const_at function constants) count 0

-- a local or a global: "name ..., symbol"
unfoldable pub plain_row : ℕ → List ℕ → ℕ → ℕ → ℕ → List ℕ
plain_row function section place string symbol =
    beginning function section place ++ decimal string ++ bytes " - " ++ decimal symbol ++ (10 ∷ [])

abbrev pub plain_at : ℕ → List ℕ → List ℕ → List ℕ → ℕ → List ℕ
plain_at function section symbols names i = plain_row function section i (symbol_name symbols (get_or names (i * 3) 0)) (get_or names (i * 3) 0)

abbrev pub plain_rows : ℕ → List ℕ → List ℕ → List ℕ → ℕ → List ℕ
plain_rows function section symbols names count = rows_from (plain_at function section symbols names) count 0

-- "capture word"
unfoldable pub capture_name : ℕ → List ℕ
capture_name capture = cond (eqb capture 1) (bytes "Local") (bytes "Upvalue")

-- an upvalue: "capture word, capture index, symbol"
unfoldable pub upvalue_row : ℕ → ℕ → ℕ → ℕ → ℕ → List ℕ
upvalue_row function place symbol capture index =
    beginning function (bytes "upvalue") place ++ capture_name capture ++ (32 ∷ []) ++ decimal index ++ (32 ∷ []) ++ decimal symbol ++ (10 ∷ [])

abbrev pub upvalue_at : ℕ → List ℕ → ℕ → List ℕ
upvalue_at function names i = upvalue_row function i (get_or names (i * 3) 0) (get_or names (i * 3 + 1) 0) (get_or names (i * 3 + 2) 0)

abbrev pub upvalue_rows : ℕ → List ℕ → ℕ → List ℕ
upvalue_rows function names count = rows_from (upvalue_at function names) count 0

-- "30 Function (..; p number; ..)"
unfoldable pub is_function : List ℕ → ℕ → ℕ → Bool
is_function recs n r = cond (eqb (word recs r 0) 30) (eqb (word recs r 2) n) false

-- the first of the records r to r + k - 1 that is function n's, else 0
unfoldable pub record_from : ℕ → List ℕ → ℕ → ℕ → ℕ
record_from zero recs n r = 0
record_from (suc k) recs n r = cond (is_function recs n r) r (record_from k recs n (r + 1))

unfoldable pub record_of : List ℕ → ℕ → ℕ
record_of recs n = record_from (size recs) recs n 0

-- "30 Function (0 Function, 1 Closure, 2 Do"
abbrev pub function_kinds : List (List ℕ)
function_kinds = bytes "Function" ∷ bytes "Closure" ∷ bytes "Do" ∷ []

unfoldable pub function_kind : ℕ → List ℕ
function_kind kind = get_or function_kinds kind []

-- "q name or none", "an empty field as `-`"
unfoldable pub optional : ℕ → List ℕ
optional string = cond (eqb string 4294967295) (45 ∷ []) (decimal string)

-- "`*` before the variadic"
unfoldable pub last_param : ℕ → ℕ → List ℕ
last_param detail string = cond (eqb detail 1) (42 ∷ decimal string) (decimal string)

-- "parameter strings (commas, ..": the Idents from record r on, at most k of them
unfoldable pub idents : ℕ → List ℕ → ℕ → ℕ → List ℕ
idents zero recs detail r = []
idents (suc k) recs detail r =
    cond (eqb (next recs r) 0) (last_param detail (word recs r 3)) (decimal (word recs r 3) ++ (44 ∷ []) ++ idents k recs detail (next recs r))

-- the parameters of the Params at record r
unfoldable pub params : List ℕ → ℕ → List ℕ
params recs r = cond (eqb (first recs r) 0) (45 ∷ []) (idents (size recs) recs (word recs r 1) (first recs r))

-- the head of the function at record r
unfoldable pub head_at : ℕ → List ℕ → ℕ → List ℕ
head_at function recs r =
    beginning function (bytes "head") 0 ++ function_kind (word recs r 1) ++ (32 ∷ []) ++ optional (word recs r 3) ++ (32 ∷ []) ++ params recs (first recs r) ++ (10 ∷ [])

-- "Head has kind, name string, parameter strings"
abbrev pub head_row : ℕ → List ℕ → List ℕ
head_row function recs = head_at function recs (record_of recs function)

-- the head's second row
unfoldable pub loops_row : ℕ → ℕ → List ℕ
loops_row function depth = beginning function (bytes "head") 1 ++ bytes "Loops " ++ decimal depth ++ bytes " -\n"

-- "Then local, global, upvalue"
unfoldable pub names_text : ℕ → List ℕ → List ℕ → ℕ → ℕ → ℕ → List ℕ
names_text function symbols names locals globals upvalues =
    plain_rows function (bytes "local") symbols names locals ++ plain_rows function (bytes "global") symbols (drop (locals * 3) names) globals
    ++ upvalue_rows function (drop (globals * 3) (drop (locals * 3) names)) upvalues

-- a function's rows, from its line's, markers', constants' and names' first words on
unfoldable pub function_text : ℕ → List ℕ → List ℕ → List ℕ → List ℕ → List ℕ → List ℕ → List ℕ
function_text function symbols recs line markers constants names =
    head_row function recs ++ loops_row function (get_or line 6 0) ++ code_rows function markers (get_or line 0 0) ++ const_rows function constants (get_or line 2 0)
    ++ names_text function symbols names (get_or line 3 0) (get_or line 4 0) (get_or line 5 0)

-- the rows of k functions, the words of each after those of the one before
unfoldable pub functions_text : ℕ → ℕ → List ℕ → List ℕ → List ℕ → List ℕ → List ℕ → List ℕ → List ℕ
functions_text zero f symbols recs lines markers constants names = []
functions_text (suc k) f symbols recs lines markers constants names =
    function_text f symbols recs lines markers constants names
    ++ functions_text k (f + 1) symbols recs (drop 7 lines) (drop (get_or lines 0 0 * 2) markers) (drop (get_or lines 2 0 * 3) constants)
    (drop ((get_or lines 3 0 + get_or lines 4 0 + get_or lines 5 0) * 3) names)

-- "kind 0 Break, 1 Continue, 2 Return"
abbrev pub error_names : List (List ℕ)
error_names = bytes "BreakOutsideLoop" ∷ bytes "ContinueOutsideLoop" ∷ bytes "ReturnOutsideFunction" ∷ []

unfoldable pub error_name : ℕ → List ℕ
error_name kind = get_or error_names kind []

-- "error (`-`, name, start, end)"
unfoldable pub error_row : ℕ → ℕ → ℕ → ℕ → List ℕ
error_row place kind start end =
    bytes "- error " ++ decimal place ++ (32 ∷ []) ++ error_name kind ++ (32 ∷ []) ++ decimal start ++ (32 ∷ []) ++ decimal end ++ (10 ∷ [])

abbrev pub error_at : List ℕ → ℕ → List ℕ
error_at errors i = error_row i (get_or errors (i * 3) 0) (get_or errors (i * 3 + 1) 0) (get_or errors (i * 3 + 2) 0)

abbrev pub error_rows : List ℕ → ℕ → List ℕ
error_rows errors count = rows_from (error_at errors) count 0

-- the whole text; no more functions and errors than there are words
unfoldable pub listing_text : List ℕ → List ℕ → List ℕ → List ℕ → List ℕ → List ℕ → List ℕ → ℕ → ℕ → List ℕ
listing_text symbols recs markers constants names errors lines met told =
    bytes "function section place word value more\n"
    ++ functions_text (min met (length lines / 7)) 0 symbols recs lines markers constants names
    ++ error_rows errors (min told (length errors / 3))

-- "A refusal prints the line `refusal place`, then one with the two values."
unfoldable pub refusal_text : ℕ → ℕ → List ℕ
refusal_text which place = bytes "refusal place\n" ++ decimal which ++ (32 ∷ []) ++ decimal place ++ (10 ∷ [])

-- "gives `input` and the line number"
unfoldable pub input_text : ℕ → List ℕ
input_text line = bytes "input " ++ decimal line ++ (10 ∷ [])
