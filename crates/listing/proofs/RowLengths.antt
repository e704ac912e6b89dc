-- How many bytes a row has at most, and by the counts of the lines the rows of some functions. Assumes nothing.
use mathlib.Core.Bool.{Bool, true, false, cond, ◌&&◌}
use mathlib.Core.List.{List, [], ◌∷◌}
use mathlib.Core.Path.{◌≡◌, refl, ap, ◌∙◌}
use Prim.Native.Nat.{ℕ, zero, suc, ◌+◌, ◌-◌, ◌*◌, ◌/◌, ◌≤◌, min}
use native.Mathlib.Nat.{suc-mul}
use native.Mathlib.Omega.{arith}
use lib.ListN.{length, get_or, drop, length-append}
use lib.Seq.{drop-drop}
use lib.Dec.{leb, ltb, eqb}
use borrow.Author.Tests.{leb-true}
use Rattle.opcode.specs.Names.{bytes, name, names}
use Rattle.opcode.specs.Kinds.{operand_kind}
use Rattle.tables.specs.Record.{word, size}
use Rattle.tables.specs.Forest.{first, next}
use Rattle.listing.specs.Print.{digits, digit, decimal, hex_digits, hex_digit, joined, int, beginning, rows_from, has_operand, operand_text}
use Rattle.listing.specs.Print.{code_row, code_at, const_names, const_name, const_value, const_row, const_at, plain_row, plain_at}
use Rattle.listing.specs.Print.{capture_name, upvalue_row, upvalue_at, function_kinds, function_kind, optional, last_param, idents, params}
use Rattle.listing.specs.Print.{record_of, head_at, loops_row, names_text, function_text, functions_text}
use Rattle.listing.specs.Print.{error_names, error_name, error_row, error_at, listing_text, refusal_text, input_text}
use Rattle.listing.proofs.PrintedLaws.{first_of, second_of}

-- one of two texts, neither of which is longer
either : (t : Bool) (a b : List ℕ) (n : ℕ) → length a ≤ n → length b ≤ n → length (cond t a b) ≤ n
either true a b n h k = h
either false a b n h k = k

-- no text of a list is longer
abbrev short : ℕ → List (List ℕ) → Bool
short n [] = true
short n (l ∷ ls) = leb (length l) n && short n ls

short_at : (n : ℕ) (ls : List (List ℕ)) → short n ls ≡ true → (k : ℕ) → length (get_or ls k []) ≤ n
short_at n [] e k = omega arith
short_at n (l ∷ ls) e zero = leb-true (length l) n (first_of (leb (length l) n) (short n ls) e)
short_at n (l ∷ ls) e (suc k) = short_at n ls (second_of (leb (length l) n) (short n ls) e) k

digits_length : (k n : ℕ) → length (digits k n) ≤ k
unfolding digits
digits_length zero n = omega arith
digits_length (suc k) n =
    let more = cond (ltb n 10) [] (digits k (n / 10)) in
    let h = either (ltb n 10) [] (digits k (n / 10)) k (omega arith) (digits_length k (n / 10)) in
    omega (arith, length-append more (digit n ∷ []))

hex_length : (k n : ℕ) → length (hex_digits k n) ≤ k
unfolding hex_digits
hex_length zero n = omega arith
hex_length (suc k) n = omega (arith, length-append (hex_digits k (n / 16)) (hex_digit n ∷ []), hex_length k (n / 16))

decimal_length : (n : ℕ) → length (decimal n) ≤ 20
decimal_length n = digits_length 20 n

name_length : (k : ℕ) → length (name k) ≤ 16
unfolding name
name_length k = short_at 16 names refl k

const_name_length : (k : ℕ) → length (const_name k) ≤ 8
unfolding const_name
const_name_length k = short_at 8 const_names refl k

function_kind_length : (k : ℕ) → length (function_kind k) ≤ 8
unfolding function_kind
function_kind_length k = short_at 8 function_kinds refl k

error_name_length : (k : ℕ) → length (error_name k) ≤ 21
unfolding error_name
error_name_length k = short_at 21 error_names refl k

capture_length : (k : ℕ) → length (capture_name k) ≤ 7
unfolding capture_name
capture_length k = either (eqb k 1) (bytes "Local") (bytes "Upvalue") 7 (omega arith) (omega arith)

begin_length : (f : ℕ) (s : List ℕ) (p : ℕ) → length (beginning f s p) ≤ 43 + length s
unfolding beginning
begin_length f s p = simp length-append (omega (arith, decimal_length f, decimal_length p))

operand_length : (code x : ℕ) → length (operand_text code x) ≤ 20
unfolding operand_text
operand_length code x = either (has_operand (operand_kind code)) (decimal x) (45 ∷ []) 20 (decimal_length x) (omega arith)

int_length : (high low : ℕ) → length (int high low) ≤ 21
unfolding int
int_length high low =
    let n = joined high low in
    let m = 18446744073709551616 - joined high low in
    either (ltb high 2147483648) (decimal n) (45 ∷ decimal m) 21 (omega (arith, decimal_length n)) (omega (arith, decimal_length m))

value_length : (kind low high : ℕ) → length (const_value kind low high) ≤ 21
unfolding const_value
value_length kind low high =
    either (eqb kind 0) _ _ 21 (omega arith)
    (either (eqb kind 2) _ _ 21 (int_length high low)
    (either (eqb kind 3) _ _ 21 (omega (arith, hex_length 16 (joined high low)))
    (either (eqb kind 8) _ _ 21 (omega arith) (omega (arith, decimal_length low)))))

-- ---- rows

code_length : (f i code x : ℕ) → length (code_row f i code x) ≤ 87
unfolding code_row
code_length f i code x =
    simp length-append (omega (arith, begin_length f (bytes "code") i, name_length code, operand_length code x))

const_length : (f i kind low high : ℕ) → length (const_row f i kind low high) ≤ 81
unfolding const_row
const_length f i kind low high =
    simp length-append (omega (arith, begin_length f (bytes "const") i, const_name_length kind, value_length kind low high))

plain_length : (f : ℕ) (section : List ℕ) (i string symbol : ℕ) → length section ≤ 6 → length (plain_row f section i string symbol) ≤ 93
unfolding plain_row
plain_length f section i string symbol h =
    simp length-append (omega (arith, begin_length f section i, decimal_length string, decimal_length symbol))

upvalue_length : (f i symbol capture index : ℕ) → length (upvalue_row f i symbol capture index) ≤ 100
unfolding upvalue_row
upvalue_length f i symbol capture index =
    simp length-append (omega (arith, begin_length f (bytes "upvalue") i, capture_length capture, decimal_length index, decimal_length symbol))

error_length : (i kind start end : ℕ) → length (error_row i kind start end) ≤ 93
unfolding error_row
error_length i kind start end =
    simp length-append (omega (arith, decimal_length i, error_name_length kind, decimal_length start, decimal_length end))

loops_length : (f depth : ℕ) → length (loops_row f depth) ≤ 76
unfolding loops_row
loops_length f depth = simp length-append (omega (arith, begin_length f (bytes "head") 1, decimal_length depth))

last_length : (detail string : ℕ) → length (last_param detail string) ≤ 21
unfolding last_param
last_length detail string =
    either (eqb detail 1) (42 ∷ decimal string) (decimal string) 21 (omega (arith, decimal_length string)) (omega (arith, decimal_length string))

idents_length : (k : ℕ) (recs : List ℕ) (detail r : ℕ) → length (idents k recs detail r) ≤ 21 * k
unfolding idents
idents_length zero recs detail r = omega arith
idents_length (suc k) recs detail r =
    let d = decimal_length (word recs r 3) in
    let ih = idents_length k recs detail (next recs r) in
    either (eqb (next recs r) 0) _ _ (21 * suc k) (omega (arith, last_length detail (word recs r 3))) (simp length-append (omega arith))

params_length : (recs : List ℕ) (r : ℕ) → length (params recs r) ≤ 1 + 21 * size recs
unfolding params
params_length recs r =
    either (eqb (first recs r) 0) _ _ (1 + 21 * size recs) (omega arith)
    (omega (arith, idents_length (size recs) recs (word recs r 1) (first recs r)))

optional_length : (string : ℕ) → length (optional string) ≤ 20
unfolding optional
optional_length string = either (eqb string 4294967295) (45 ∷ []) (decimal string) 20 (omega arith) (decimal_length string)

head_length : (f : ℕ) (recs : List ℕ) (r : ℕ) → length (head_at f recs r) ≤ 79 + 21 * size recs
unfolding head_at
head_length f recs r =
    simp length-append
    (omega (
      arith,
      begin_length f (bytes "head") 0,
      function_kind_length (word recs r 1),
      optional_length (word recs r 3),
      params_length recs (first recs r),
    ))

-- n rows, none of which is longer
rows_length : (row : ℕ → List ℕ) (b : ℕ) → ((i : ℕ) → length (row i) ≤ b) → (n i : ℕ) → length (rows_from row n i) ≤ n * b
unfolding rows_from
rows_length row b h zero i = omega arith
rows_length row b h (suc n) i = omega (arith, length-append (row i) (rows_from row n (i + 1)), h i, rows_length row b h n (i + 1), suc-mul n b)

names_length : (f : ℕ) (symbols names : List ℕ) (l g u : ℕ) → length (names_text f symbols names l g u) ≤ (l + g + u) * 100
unfolding names_text
names_length f symbols names l g u =
    let after = drop (l * 3) names in
    let a = rows_length (plain_at f (bytes "local") symbols names) 93 (λ i. plain_length f (bytes "local") i _ _ (omega arith)) l 0 in
    let b = rows_length (plain_at f (bytes "global") symbols after) 93 (λ i. plain_length f (bytes "global") i _ _ (omega arith)) g 0 in
    let c = rows_length (upvalue_at f (drop (g * 3) after)) 100 (λ i. upvalue_length f i _ _ _) u 0 in
    simp length-append (omega arith)

-- ---- functions

-- the most bytes of a function by its markers, constants and names, where there are at most 140 records; 3,095 for its head's two rows
abbrev pub weighed : ℕ → ℕ → ℕ → ℕ
weighed markers constants names = 3095 + 87 * markers + 81 * constants + 100 * names

abbrev pub weight : List ℕ → ℕ
weight line = weighed (get_or line 0 0) (get_or line 2 0) (get_or line 3 0 + get_or line 4 0 + get_or line 5 0)

function_length : (f : ℕ) (symbols recs line markers constants names : List ℕ) → size recs ≤ 140
    → length (function_text f symbols recs line markers constants names) ≤ weight line
unfolding function_text
function_length f symbols recs line markers constants names h =
    let a = head_length f recs (record_of recs f) in
    let b = loops_length f (get_or line 6 0) in
    let c = rows_length (code_at f markers) 87 (λ i. code_length f i _ _) (get_or line 0 0) 0 in
    let d = rows_length (const_at f constants) 81 (λ i. const_length f i _ _ _) (get_or line 2 0) 0 in
    let e = names_length f symbols names (get_or line 3 0) (get_or line 4 0) (get_or line 5 0) in
    simp length-append (omega arith)

-- the most bytes of the functions of k lines
unfoldable pub total : ℕ → List ℕ → ℕ
total zero lines = 0
total (suc k) lines = weight lines + total k (drop 7 lines)

functions_length : (k f : ℕ) (symbols recs lines markers constants names : List ℕ) → size recs ≤ 140
    → length (functions_text k f symbols recs lines markers constants names) ≤ total k lines
unfolding functions_text total
functions_length zero f symbols recs lines markers constants names h = omega arith
functions_length (suc k) f symbols recs lines markers constants names h =
    let a = function_length f symbols recs lines markers constants names h in
    let b = functions_length k (f + 1) symbols recs (drop 7 lines) (drop (get_or lines 0 0 * 2) markers) (drop (get_or lines 2 0 * 3) constants)
    (drop ((get_or lines 3 0 + get_or lines 4 0 + get_or lines 5 0) * 3) names) h in
    simp length-append (omega arith)

total_most : (k m : ℕ) (lines : List ℕ) → k ≤ m → total k lines ≤ total m lines
unfolding total
total_most zero m lines h = omega arith
total_most (suc k) zero lines h = absurd (omega arith)
total_most (suc k) (suc m) lines h = omega (arith, total_most k m (drop 7 lines) (omega arith))

-- the last line's
pub total_last : (k : ℕ) (lines : List ℕ) → total (suc k) lines ≡ total k lines + weight (drop (k * 7) lines)
unfolding total
total_last zero lines = omega arith
total_last (suc k) lines =
    let z : 7 + k * 7 ≡ suc k * 7 = omega arith in
    let e : weight (drop (k * 7) (drop 7 lines)) ≡ weight (drop (suc k * 7) lines) = ap weight (drop-drop (k * 7) 7 lines ∙ ap (λ (n : ℕ). drop n lines) z) in
    omega (arith, total_last k (drop 7 lines))

-- ---- answers

pub listing_length : (symbols recs markers constants names errors lines : List ℕ) (met told : ℕ) → size recs ≤ 140
    → length (listing_text symbols recs markers constants names errors lines met told) ≤ 39 + total met lines + told * 93
unfolding listing_text
listing_length symbols recs markers constants names errors lines met told h =
    let k = min met (length lines / 7) in
    let e = min told (length errors / 3) in
    let a = functions_length k 0 symbols recs lines markers constants names h in
    let b = total_most k met lines (omega arith) in
    let c = rows_length (error_at errors) 93 (λ i. error_length i _ _ _) e 0 in
    simp length-append (omega arith)

pub refusal_length : (n p : ℕ) → length (refusal_text n p) ≤ 56
unfolding refusal_text
refusal_length n p = simp length-append (omega (arith, decimal_length n, decimal_length p))

pub input_length : (line : ℕ) → length (input_text line) ≤ 27
unfolding input_text
input_length line = simp length-append (omega (arith, decimal_length line))
