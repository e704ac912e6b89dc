-- Laws of printed lines: a number's text reads as the number, a byte's digits as the byte, and no line holds a line feed.
use mathlib.Core.Path.{◌≡◌, refl, sym, ap, subst, ◌∙◌}
use mathlib.Core.Bool.{Bool, true, false, cond, ◌&&◌}
use mathlib.Core.List.{List, [], ◌∷◌, ◌++◌}
use Rattle.std.proofs.Common.{Option, Some}
use Prim.Native.Nat.{ℕ, zero, suc, ◌+◌, ◌/◌, ◌%◌, ◌^◌, ◌≤◌, ◌<◌}
use native.Mathlib.Omega.{arith}
use lib.ListN.{length, take, drop, length-append}
use lib.Seq.{take-append_seam, drop-append_seam}
use lib.Dec.{leb, ltb, eqb, lit≤}
use borrow.Author.Tests.{le-leb, leb-true, eq-eqb, ne_eqb, ltb-true, ltb-false}
use Rattle.listing.specs.Lines.{run, lines_of, onto}
use Rattle.listing.specs.Read.{is_digit, all_digits, value_of, decimal_of, nibble_of, byte_of, pair_of, is_space, gap, put, field, values_from, values_of}
use Rattle.listing.specs.Read.{pairs_of, is_dash, string_of}
use Rattle.listing.specs.Print.{digit, digits, decimal, hex_digit, hex_digits}
use Rattle.listing.specs.Printed.{text_of, spaced, values_text, hex_text, string_text, Below}
use Rattle.std.proofs.lemmas.Bool.Decides.{nat_tests}
use Rattle.listing.proofs.ReadLaws.{decimal_value, string_dash, string_pairs}
use Rattle.listing.proofs.PrintLaws.{digits_value}

-- no byte of a line is a line feed
abbrev pub Plain : List ℕ → Type 0
Plain [] = Unit
Plain (b ∷ bs) = (eqb b 10 ≡ false) × Plain bs

abbrev pub AllPlain : List (List ℕ) → Type 0
AllPlain [] = Unit
AllPlain (l ∷ ls) = Plain l × AllPlain ls

plain_append : (xs ys : List ℕ) → Plain xs → Plain ys → Plain (xs ++ ys)
plain_append [] ys p q = q
plain_append (x ∷ xs) ys p q = (p.0, plain_append xs ys p.1 q)

line_text : (l r : List ℕ) → Plain l → lines_of (l ++ 10 ∷ r) ≡ l ∷ lines_of r
line_text [] r p = refl
line_text (b ∷ bs) r p =
    ap (λ (t : Bool). cond t ([] ∷ lines_of (bs ++ 10 ∷ r)) (onto b (lines_of (bs ++ 10 ∷ r)))) p.0
    ∙ ap (onto b) (line_text bs r p.1)

-- the lines of a text of plain lines are these lines
pub lines_text : (ls : List (List ℕ)) → AllPlain ls → lines_of (text_of ls) ≡ ls
lines_text [] p = refl
lines_text (l ∷ ls) p = line_text l (text_of ls) p.0 ∙ ap (λ (x : List (List ℕ)). l ∷ x) (lines_text ls p.1)

both : (s t : Bool) → s ≡ true → t ≡ true → s && t ≡ true
both s t p q = ap (λ (x : Bool). x && t) p ∙ q

pub first_of : (s t : Bool) → s && t ≡ true → s ≡ true
first_of true t e = refl
first_of false t e = e

pub second_of : (s t : Bool) → s && t ≡ true → t ≡ true
second_of true t e = e
second_of false true e = refl
second_of false false e = e

digit_low : (b : ℕ) → is_digit b ≡ true → 48 ≤ b
digit_low b e = leb-true 48 b (first_of (leb 48 b) (leb b 57) e)

gap_none : (k : ℕ) (l : List ℕ) → k ≡ 0 → gap k l ≡ 0
unfolding gap
gap_none k l e = ap (λ (t : Bool). cond t 0 (run is_space l)) (eq-eqb k 0 e)

gap_some : (k : ℕ) (l : List ℕ) → (k ≡ 0 → ⊥) → gap k l ≡ run is_space l
unfolding gap
gap_some k l e = ap (λ (t : Bool). cond t 0 (run is_space l)) (ne_eqb k 0 e)

is_digit_lem : (b : ℕ) → 48 ≤ b → b ≤ 57 → is_digit b ≡ true
is_digit_lem b h k = both (leb 48 b) (leb b 57) (le-leb 48 b h) (le-leb b 57 k)

digit_is : (n : ℕ) → is_digit (digit n) ≡ true
digit_is n = is_digit_lem (digit n) (omega arith) (omega arith)

all_append : (xs ys : List ℕ) → all_digits xs ≡ true → all_digits ys ≡ true → all_digits (xs ++ ys) ≡ true
all_append [] ys p q = q
all_append (x ∷ xs) ys p q =
    both (is_digit x) (all_digits (xs ++ ys)) (first_of (is_digit x) (all_digits xs) p) (all_append xs ys (second_of (is_digit x) (all_digits xs) p) q)

all_digits_lem : (k n : ℕ) → all_digits (digits k n) ≡ true
unfolding digits
all_digits_lem zero n = refl
all_digits_lem (suc k) n =
    all_append (cond (ltb n 10) [] (digits k (n / 10))) (digit n ∷ []) (picked (ltb n 10) (all_digits_lem k (n / 10)))
    (both (is_digit (digit n)) true (digit_is n) refl)
  where
    picked : (t : Bool) → all_digits (digits k (n / 10)) ≡ true → all_digits (cond t [] (digits k (n / 10))) ≡ true
    picked true e = refl
    picked false e = e

digits_some : (k n : ℕ) → 0 < length (digits (suc k) n)
unfolding digits
digits_some k n = omega (arith, length-append (cond (ltb n 10) [] (digits k (n / 10))) (digit n ∷ []))

decimal_some : (n : ℕ) → 0 < length (decimal n)
decimal_some n = digits_some 19 n

decimal_read : (v : ℕ) → v < 4294967296 → decimal_of (decimal v) ≡ Some v
unfolding value_of
decimal_read v h =
    let big : 4294967296 ≤ 10 ^ 20 = lit≤ tt in
    sym
    (decimal_value (decimal v) v (λ e. omega (arith, decimal_some v)) (all_digits_lem 20 v) (omega arith)
    (sym (digits_value 20 v (omega arith))))

run_digits : (ds tail : List ℕ) → all_digits ds ≡ true → run is_digit tail ≡ 0 → run is_digit (ds ++ tail) ≡ length ds
run_digits [] tail p q = q
run_digits (d ∷ ds) tail p q =
    ap (λ (t : Bool). cond t (suc (run is_digit (ds ++ tail))) 0) (first_of (is_digit d) (all_digits ds) p)
    ∙ ap suc (run_digits ds tail (second_of (is_digit d) (all_digits ds) p) q)

run_spaces : (ds tail : List ℕ) → all_digits ds ≡ true → 0 < length ds → run is_space (ds ++ tail) ≡ 0
run_spaces [] tail p h = absurd (omega arith)
run_spaces (d ∷ ds) tail p h =
    ap (λ (t : Bool). cond t (suc (run is_space (ds ++ tail))) 0)
    (ne_eqb d 32 (λ e. omega (arith, digit_low d (first_of (is_digit d) (all_digits ds) p))))

no_digit : (vs : List ℕ) → run is_digit (spaced vs) ≡ 0
no_digit [] = refl
no_digit (v ∷ vs) = refl

-- one value of a line, from its digits on
value_read : (k m v : ℕ) (tail vs : List ℕ) → v < 4294967296 → run is_digit tail ≡ 0 → values_from (k + 1) m tail ≡ Some vs
    → put (decimal_of (take (run is_digit (decimal v ++ tail)) (decimal v ++ tail)))
    (values_from (k + 1) m (drop (run is_digit (decimal v ++ tail)) (decimal v ++ tail)))
    ≡ Some (v ∷ vs)
value_read k m v tail vs h e r =
    ap (λ (n : ℕ). put (decimal_of (take n (decimal v ++ tail))) (values_from (k + 1) m (drop n (decimal v ++ tail))))
    (run_digits (decimal v) tail (all_digits_lem 20 v) e)
    ∙ ap (λ (l : List ℕ). put (decimal_of l) (values_from (k + 1) m (drop (length (decimal v)) (decimal v ++ tail)))) (take-append_seam (decimal v) tail)
    ∙ ap (λ (l : List ℕ). put (decimal_of (decimal v)) (values_from (k + 1) m l)) (drop-append_seam (decimal v) tail)
    ∙ ap (λ (n : Option ℕ). put n (values_from (k + 1) m tail)) (decimal_read v h)
    ∙ ap (put (Some v)) r

later_read : (k : ℕ) (vs : List ℕ) → Below 4294967296 vs → values_from (k + 1) (length vs) (spaced vs) ≡ Some vs
later_read k [] p = refl
later_read k (v ∷ vs) p =
    ap (λ (l : List ℕ). put (decimal_of (take (run is_digit l) l)) (values_from (k + 1 + 1) (length vs) (drop (run is_digit l) l))) after_space
    ∙ value_read (k + 1) (length vs) v (spaced vs) vs p.0 (no_digit vs) (later_read (k + 1) vs p.1)
  where
    after_space : field (k + 1) (spaced (v ∷ vs)) ≡ decimal v ++ spaced vs
    after_space =
        ap (λ (n : ℕ). drop n (spaced (v ∷ vs)))
        (gap_some (k + 1) (spaced (v ∷ vs)) (λ e. omega arith) ∙ ap suc (run_spaces (decimal v) (spaced vs) (all_digits_lem 20 v) (decimal_some v)))

-- a printed line of values reads as its values
pub values_read : (vs : List ℕ) → Below 4294967296 vs → values_of (length vs) (values_text vs) ≡ Some vs
unfolding values_of
values_read [] p = refl
values_read (v ∷ vs) p =
    ap (λ (l : List ℕ). put (decimal_of (take (run is_digit l) l)) (values_from (0 + 1) (length vs) (drop (run is_digit l) l)))
    (ap (λ (n : ℕ). drop n (decimal v ++ spaced vs)) (gap_none 0 (decimal v ++ spaced vs) refl))
    ∙ value_read 0 (length vs) v (spaced vs) vs p.0 (no_digit vs) (later_read 0 vs p.1)

pub values_some : (vs : List ℕ) → 0 < length vs → 0 < length (values_text vs)
values_some [] h = absurd (omega arith)
values_some (v ∷ vs) h = omega (arith, decimal_some v, length-append (decimal v) (spaced vs))

digits_plain : (ds : List ℕ) → all_digits ds ≡ true → Plain ds
digits_plain [] p = tt
digits_plain (d ∷ ds) p = (
  ne_eqb d 10 (λ e. omega (arith, digit_low d (first_of (is_digit d) (all_digits ds) p))),
  digits_plain ds (second_of (is_digit d) (all_digits ds) p),
)

spaced_plain : (vs : List ℕ) → Plain (spaced vs)
spaced_plain [] = tt
spaced_plain (v ∷ vs) = (refl, plain_append (decimal v) (spaced vs) (digits_plain (decimal v) (all_digits_lem 20 v)) (spaced_plain vs))

pub values_plain : (vs : List ℕ) → Plain (values_text vs)
values_plain [] = tt
values_plain (v ∷ vs) = plain_append (decimal v) (spaced vs) (digits_plain (decimal v) (all_digits_lem 20 v)) (spaced_plain vs)

nibble_read : (n : ℕ) → nibble_of (hex_digit n) ≡ Some (n % 16)
unfolding nibble_of
nibble_read n = picked (ltb (n % 16) 10) refl
  where
    picked : (t : Bool) → ltb (n % 16) 10 ≡ t → nibble_of (cond t (48 + n % 16) (87 + n % 16)) ≡ Some (n % 16)
    picked true e = let h = ltb-true (n % 16) 10 e in grind (arith, nat_tests)
    picked false e = let h = ltb-false (n % 16) 10 e in grind (arith, nat_tests)

pair_read : (b : ℕ) → b < 256 → pair_of (hex_digit (b / 16)) (hex_digit b) ≡ Some b
unfolding pair_of
pair_read b h = ap (λ (o : Option ℕ). byte_of o (nibble_of (hex_digit b))) (nibble_read (b / 16)) ∙ ap (byte_of (Some (b / 16 % 16))) (nibble_read b) ∙ ap Some (omega arith)

hex_two : (b : ℕ) → hex_digits 2 b ≡ hex_digit (b / 16) ∷ hex_digit b ∷ []
unfolding hex_digits
hex_two b = refl

pairs_read : (bs : List ℕ) → Below 256 bs → pairs_of (hex_text bs) ≡ Some bs
pairs_read [] p = refl
pairs_read (b ∷ bs) p =
    ap (λ (l : List ℕ). pairs_of (l ++ hex_text bs)) (hex_two b)
    ∙ ap (λ (o : Option ℕ). put o (pairs_of (hex_text bs))) (pair_read b p.0)
    ∙ ap (put (Some b)) (pairs_read bs p.1)

-- a printed string reads as its bytes
pub string_read : (bs : List ℕ) → Below 256 bs → string_of (string_text bs) ≡ Some bs
string_read [] p = string_dash (45 ∷ []) refl
string_read (b ∷ bs) p =
    sym (string_pairs (hex_text (b ∷ bs)) (ap (λ (l : List ℕ). is_dash (l ++ hex_text bs)) (hex_two b))) ∙ pairs_read (b ∷ bs) p

pub string_some : (bs : List ℕ) → 0 < length (string_text bs)
string_some [] = omega arith
string_some (b ∷ bs) = omega (arith, length-append (hex_digits 2 b) (hex_text bs), ap length (hex_two b))

hex_plain : (n : ℕ) → eqb (hex_digit n) 10 ≡ false
hex_plain n = picked (ltb (n % 16) 10)
  where
    picked : (t : Bool) → eqb (cond t (48 + n % 16) (87 + n % 16)) 10 ≡ false
    picked true = ne_eqb (48 + n % 16) 10 (λ e. omega arith)
    picked false = ne_eqb (87 + n % 16) 10 (λ e. omega arith)

hexes_plain : (bs : List ℕ) → Plain (hex_text bs)
hexes_plain [] = tt
hexes_plain (b ∷ bs) =
    plain_append (hex_digits 2 b) (hex_text bs)
    (subst Plain (sym (hex_two b)) (hex_plain (b / 16), (hex_plain b, tt))) (hexes_plain bs)

pub string_plain : (bs : List ℕ) → Plain (string_text bs)
string_plain [] = (refl, tt)
string_plain (b ∷ bs) = hexes_plain (b ∷ bs)
