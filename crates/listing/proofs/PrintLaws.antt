-- Laws of printing: a text after a text, and the steps of the numbers. Assumes nothing.
use mathlib.Core.Bool.{Bool, true, false, cond}
use mathlib.Core.List.{List, [], ◌∷◌, ◌++◌}
use mathlib.Core.Path.{◌≡◌, refl, sym, ap, subst, ◌∙◌}
use Prim.Native.Nat.{ℕ, zero, suc, ◌+◌, ◌-◌, ◌*◌, ◌≤◌, ◌<◌, ◌/◌, ◌^◌, min}
use native.Mathlib.Nat.{not-suc-le-zero, pow-suc, div-eq_of_lt-le, le-div_iff_mul-le}
use native.Mathlib.Omega.{arith}
use native.Mathlib.Numerals.{add-one, sub-one}
use lib.ListN.{length, set, take, drop, get_or, length-set}
use lib.Seq.{sets, sets-eq}
use lib.Dec.{ltb, eqb}
use lib.IntN.{ℤ, pos, negsuc}
use lib.Signed.{lt_z}
use mir.Syntax.{w64}
use mir.Val.{to_z, of_z, sel}
use Rattle.std.specs.Int.RustNames.{unsigned_abs}
use Rattle.std.proofs.lemmas.Int.{of_z-to_z}
use borrow.Author.Tests.{lt-ltb, le-ltb, ltb-true, ltb-false, eq-eqb, ne_eqb}
use Rattle.opcode.specs.Names.{bytes, names}
use Rattle.listing.specs.Read.{value_from}
use Rattle.std.specs.Prelude.{Some}
use Rattle.std.specs.Option.{unwrap_or}
use Rattle.std.specs.List.{find, range_with_len}
use Rattle.listing.proofs.WriterLaws.{left_next, left_none}
use Rattle.listing.specs.declared.text.Writer.{Writer}
use Rattle.listing.specs.declared.print.Line.{Line}
use Rattle.listing.specs.Kinds.{line_of}
use Rattle.listing.specs.Print.{wrote, Wrote, after, digits, digit, hex_digits, hex_digit, int, decimal, joined}
use Rattle.listing.specs.Print.{head_row, loops_row, code_rows, const_rows}
use Rattle.listing.specs.Print.{plain_rows, upvalue_rows, names_text, function_text, functions_text, error_rows, listing_text}
use Rattle.listing.specs.Print.{is_function, record_from, last_param, idents, params}
use Rattle.tables.specs.Record.{word, size}
use Rattle.tables.specs.Forest.{first, next}

-- the digits by their last one
digits_step : (k n : ℕ) → 0 < k → digits k n ≡ cond (ltb n 10) [] (digits (k - 1) (n / 10)) ++ (digit n ∷ [])
unfolding digits
digits_step zero n h = absurd (not-suc-le-zero h)
digits_step (suc k) n h = ap (λ (j : ℕ). cond (ltb n 10) [] (digits j (n / 10)) ++ (digit n ∷ [])) (sym (sub-one (suc k)))

pub digits_one : (k n : ℕ) → 0 < k → n < 10 → digit n ∷ [] ≡ digits k n
digits_one k n h l =
    sym (digits_step k n h ∙ ap (λ (b : Bool). cond b [] (digits (k - 1) (n / 10)) ++ (digit n ∷ [])) (lt-ltb n 10 l))

pub digits_more : (k n : ℕ) → 0 < k → 10 ≤ n → digits (k - 1) (n / 10) ++ (digit n ∷ []) ≡ digits k n
digits_more k n h l =
    sym (digits_step k n h ∙ ap (λ (b : Bool). cond b [] (digits (k - 1) (n / 10)) ++ (digit n ∷ [])) (le-ltb n 10 l))

pub hex_none : (k n : ℕ) → k ≡ 0 → [] ≡ hex_digits k n
unfolding hex_digits
hex_none k n e = ap (λ (j : ℕ). hex_digits j n) (sym e)

pub hex_more : (k n : ℕ) → 0 < k → hex_digits (k - 1) (n / 16) ++ (hex_digit n ∷ []) ≡ hex_digits k n
unfolding hex_digits
hex_more zero n h = absurd (not-suc-le-zero h)
hex_more (suc k) n h = ap (λ (j : ℕ). hex_digits j (n / 16) ++ (hex_digit n ∷ [])) (sub-one (suc k))

pub int_plain : (high low : ℕ) → high < 2147483648 → decimal (joined high low) ≡ int high low
unfolding int
int_plain high low h =
    sym (ap (λ (b : Bool). cond b (decimal (joined high low)) (45 ∷ decimal (18446744073709551616 - joined high low))) (lt-ltb high 2147483648 h))

pub int_minus : (high low n : ℕ) → 2147483648 ≤ high → n ≡ 18446744073709551616 - joined high low → 45 ∷ decimal n ≡ int high low
unfolding int
int_minus high low n h e = ap (λ (m : ℕ). 45 ∷ decimal m) e
    ∙ sym (ap (λ (b : Bool). cond b (decimal (joined high low)) (45 ∷ decimal (18446744073709551616 - joined high low))) (le-ltb high 2147483648 h))

-- the sign and the magnitude of the integer whose bits are j
int_back : (z : ℤ) (j : ℕ) → j < 18446744073709551616 → z ≡ to_z w64 j → to_z w64 (of_z w64 z) ≡ to_z w64 j
int_back z j h s = ap (to_z w64) (ap (of_z w64) s ∙ of_z-to_z w64 j h)

int_below : (j : ℕ) (b : Bool) → j < 18446744073709551616 → ltb j 9223372036854775808 ≡ b
    → lt_z (sel b (pos j) (negsuc (18446744073709551616 - suc j))) (pos 0) ≡ true
    → (9223372036854775808 ≤ j) × (unsigned_abs (sel b (pos j) (negsuc (18446744073709551616 - suc j))) ≡ 18446744073709551616 - j)
int_below j true h e t = let a : j < 0 = ltb-true j 0 t in absurd (omega arith)
int_below j false h e t = let a = ltb-false j 9223372036854775808 e in (a, omega arith)

int_above : (j : ℕ) (b : Bool) → ltb j 9223372036854775808 ≡ b
    → lt_z (sel b (pos j) (negsuc (18446744073709551616 - suc j))) (pos 0) ≡ false
    → (j < 9223372036854775808) × (unsigned_abs (sel b (pos j) (negsuc (18446744073709551616 - suc j))) ≡ j)
int_above j true e t = (ltb-true j 9223372036854775808 e, refl)
int_above j false e t = cc

pub below_zero : (z : ℤ) (j : ℕ) → j < 18446744073709551616 → z ≡ to_z w64 j → lt_z (to_z w64 (of_z w64 z)) (pos 0) ≡ true
    → (9223372036854775808 ≤ j) × (unsigned_abs (to_z w64 (of_z w64 z)) ≡ 18446744073709551616 - j)
below_zero z j h s t =
    let e = int_back z j h s in
    let f = int_below j (ltb j 9223372036854775808) h refl (ap (λ (x : ℤ). lt_z x (pos 0)) (sym e) ∙ t) in
    (f.0, ap unsigned_abs e ∙ f.1)

pub from_zero : (z : ℤ) (j : ℕ) → j < 18446744073709551616 → z ≡ to_z w64 j → lt_z (to_z w64 (of_z w64 z)) (pos 0) ≡ false
    → (j < 9223372036854775808) × (unsigned_abs (to_z w64 (of_z w64 z)) ≡ j)
from_zero z j h s t =
    let e = int_back z j h s in
    let f = int_above j (ltb j 9223372036854775808) refl (ap (λ (x : ℤ). lt_z x (pos 0)) (sym e) ∙ t) in
    (f.0, ap unsigned_abs e ∙ f.1)

less : (n i : ℕ) → i < n → n - i ≡ suc (n - (i + 1))
less n i h = omega arith

sub_eq_zero : (n i : ℕ) → n ≤ i → n - i ≡ 0
sub_eq_zero n i h = omega arith

-- the record that is found
pub record_found : (recs : List ℕ) (n k i : ℕ) → unwrap_or (find (λ r. is_function recs n r) (range_with_len i k)) 0 ≡ record_from k recs n i
unfolding record_from
record_found recs n zero i = refl
record_found recs n (suc k) i = picked (is_function recs n i) (record_found recs n k (i + 1))
  where
    picked : (b : Bool) → unwrap_or (find (λ r. is_function recs n r) (range_with_len (i + 1) k)) 0 ≡ record_from k recs n (i + 1)
        → unwrap_or (cond b (Some i) (find (λ r. is_function recs n r) (range_with_len (i + 1) k))) 0 ≡ cond b i (record_from k recs n (i + 1))
    picked true h = refl
    picked false h = h

idents_step : (k : ℕ) (recs : List ℕ) (d r : ℕ) → 0 < k → idents k recs d r
    ≡ cond (eqb (next recs r) 0) (last_param d (word recs r 3)) (decimal (word recs r 3) ++ (44 ∷ []) ++ idents (k - 1) recs d (next recs r))
unfolding idents
idents_step zero recs d r h = absurd (not-suc-le-zero h)
idents_step (suc k) recs d r h =
    ap (λ (j : ℕ). cond (eqb (next recs r) 0) (last_param d (word recs r 3)) (decimal (word recs r 3) ++ (44 ∷ []) ++ idents j recs d (next recs r)))
    (sym (sub-one (suc k)))

pub idents_none : (k : ℕ) (recs : List ℕ) (d r : ℕ) → k ≡ 0 → idents k recs d r ≡ []
unfolding idents
idents_none k recs d r e = ap (λ (j : ℕ). idents j recs d r) e

pub idents_last : (k : ℕ) (recs : List ℕ) (d r s n : ℕ) → 0 < k → s ≡ word recs r 3 → n ≡ next recs r → n ≡ 0 → idents k recs d r ≡ last_param d s
idents_last k recs d r s n h a b e =
    idents_step k recs d r h
    ∙ ap (λ (t : Bool). cond t (last_param d (word recs r 3)) (decimal (word recs r 3) ++ (44 ∷ []) ++ idents (k - 1) recs d (next recs r)))
    (eq-eqb (next recs r) 0 (sym b ∙ e))
    ∙ ap (λ (x : ℕ). last_param d x) (sym a)

pub idents_more : (k j : ℕ) (recs : List ℕ) (d r s n : ℕ) → k ≡ suc j → s ≡ word recs r 3 → n ≡ next recs r → (n ≡ 0 → ⊥)
    → idents k recs d r ≡ decimal s ++ (44 ∷ []) ++ idents j recs d n
unfolding idents
idents_more k j recs d r s n h a b e =
    rw (h, a, b)
    (ap (λ (t : Bool). cond t (last_param d (word recs r 3)) (decimal (word recs r 3) ++ (44 ∷ []) ++ idents j recs d (next recs r)))
    (ne_eqb (next recs r) 0 (λ x. e (b ∙ x))))

pub params_none : (recs : List ℕ) (r i : ℕ) → i ≡ first recs r → i ≡ 0 → 45 ∷ [] ≡ params recs r
unfolding params
params_none recs r i a e =
    sym (ap (λ (t : Bool). cond t (45 ∷ []) (idents (size recs) recs (word recs r 1) (first recs r))) (eq-eqb (first recs r) 0 (sym a ∙ e)))

pub params_some : (recs : List ℕ) (r i d : ℕ) → i ≡ first recs r → (i ≡ 0 → ⊥) → d ≡ word recs r 1 → idents (size recs) recs d i ≡ params recs r
unfolding params
params_some recs r i d a e b =
    ap (λ (x : ℕ). idents (size recs) recs x i) b ∙ ap (λ (x : ℕ). idents (size recs) recs (word recs r 1) x) a
    ∙ sym (ap (λ (t : Bool). cond t (45 ∷ []) (idents (size recs) recs (word recs r 1) (first recs r))) (ne_eqb (first recs r) 0 (λ x. e (a ∙ x))))

pub function_text_lem : (f : ℕ) (symbols recs line markers constants names : List ℕ) (l : Line) → l ≡ line_of line
    → head_row f recs ++ loops_row f l.depth ++ code_rows f markers l.markers ++ const_rows f constants l.constants ++ names_text f symbols names l.locals l.globals l.upvalues
    ≡ function_text f symbols recs line markers constants names
unfolding function_text
function_text_lem f symbols recs line markers constants names l e = rw e refl

pub names_is : (f : ℕ) (symbols names : List ℕ) (l g u : ℕ) (globals upvalues : List ℕ) → globals ≡ drop (l * 3) names → upvalues ≡ drop (g * 3) globals
    → plain_rows f (bytes "local") symbols names l ++ plain_rows f (bytes "global") symbols globals g ++ upvalue_rows f upvalues u ≡ names_text f symbols names l g u
unfolding names_text
names_is f symbols names l g u globals upvalues a b = rw (b, a) refl

functions_split : (k f : ℕ) (symbols recs lines markers constants names : List ℕ) → f < k
    → functions_text (k - f) f symbols recs lines markers constants names
    ≡ function_text f symbols recs lines markers constants names
    ++ functions_text (k - (f + 1)) (f + 1) symbols recs (drop 7 lines) (drop (get_or lines 0 0 * 2) markers) (drop (get_or lines 2 0 * 3) constants)
    (drop ((get_or lines 3 0 + get_or lines 4 0 + get_or lines 5 0) * 3) names)
unfolding functions_text
functions_split k f symbols recs lines markers constants names h =
    ap (λ (j : ℕ). functions_text j f symbols recs lines markers constants names) (less k f h)

-- the rows of one function more, of whose words the next lists are what is left
pub functions_next : {v : Writer} (ts : List ℕ) (k f : ℕ) (symbols recs ls ms ks ns symbols' recs' ls' ms' ks' ns' : List ℕ) (u w : Writer) → f < k
    → symbols' ≡ symbols → recs' ≡ recs → ls' ≡ drop 7 ls → ms' ≡ drop (get_or ls 0 0 * 2) ms → ks' ≡ drop (get_or ls 2 0 * 3) ks
    → ns' ≡ drop ((get_or ls 3 0 + get_or ls 4 0 + get_or ls 5 0) * 3) ns
    → after ts w ≡ after (functions_text (k - f) f symbols recs ls ms ks ns) u → v ≡ after (function_text f symbols recs ls ms ks ns) u
    → after ts w ≡ after (functions_text (k - (f + 1)) (f + 1) symbols' recs' ls' ms' ks' ns') v
functions_next ts k f symbols recs ls ms ks ns symbols' recs' ls' ms' ks' ns' u w h p q a b c d e g =
    rw (p, q, a, b, c, d)
    (left_next ts (function_text f symbols recs ls ms ks ns) _ u w (e ∙ ap (λ (t : List ℕ). after t u) (functions_split k f symbols recs ls ms ks ns h)) g)

pub functions_done : {u : Writer} (ts : List ℕ) (k f : ℕ) (symbols recs ls ms ks ns : List ℕ) (w : Writer) → k ≤ f
    → after ts w ≡ after (functions_text (k - f) f symbols recs ls ms ks ns) u → u ≡ after ts w
unfolding functions_text
functions_done {u} ts k f symbols recs ls ms ks ns w h e =
    left_none ts w (e ∙ ap (λ (j : ℕ). after (functions_text j f symbols recs ls ms ks ns) u) (sub_eq_zero k f h))

-- so many whole entries, and no room for another
pub entries_cut : (words width most left count : ℕ) → count < most → left < width → count * width + left ≡ words → count ≡ min most (words / width)
entries_cut words width most left count h l e =
    let q : words / width ≡ count = div-eq_of_lt-le width (omega arith) (omega arith) in
    omega arith

-- as many entries as are asked for
pub entries_all : (words width most left count : ℕ) → 0 < width → count ≡ most → count * width + left ≡ words → count ≡ min most (words / width)
entries_all words width most left count z h e =
    let q : count ≤ words / width = (le-div_iff_mul-le z).1 (omega arith) in
    omega arith

pub listing_is : (symbols recs markers constants names errors lines : List ℕ) (met told f e : ℕ) → f ≡ min met (length lines / 7) → e ≡ min told (length errors / 3)
    → bytes "function section place word value more\n" ++ functions_text f 0 symbols recs lines markers constants names ++ error_rows errors e
    ≡ listing_text symbols recs markers constants names errors lines met told
unfolding listing_text
listing_is symbols recs markers constants names errors lines met told f e a b =
    ap (λ (x : ℕ). bytes "function section place word value more\n" ++ functions_text x 0 symbols recs lines markers constants names ++ error_rows errors e) a
    ∙ ap (λ (x : ℕ). bytes "function section place word value more\n"
    ++ functions_text (min met (length lines / 7)) 0 symbols recs lines markers constants names ++ error_rows errors x) b

room_sets : (text out : List ℕ) (at : ℕ) → at + length text ≤ length out → wrote text out at ≡ (sets out at text, at + length text)
unfolding wrote
room_sets [] out at h = let e : at ≡ at + 0 = omega arith in ap (λ (n : ℕ). (out, n)) e
room_sets (b ∷ bs) out at h =
    let l : ltb at (length out) ≡ true = lt-ltb at (length out) (omega arith) in
    let k : at + 1 + length bs ≤ length (set out at b) = rw length-set (omega arith) in
    let e : at + 1 + length bs ≡ at + suc (length bs) = omega arith in
    ap (λ (t : Bool). cond t (wrote bs (set out at b) (at + 1)) (out, at)) l
    ∙ room_sets bs (set out at b) (at + 1) k
    ∙ ap (λ (n : ℕ). (sets (set out at b) (at + 1) bs, n)) e
    ∙ ap (λ (n : ℕ). (sets (set out at b) n bs, at + suc (length bs))) (add-one at)

-- where there is room the text stands in its place, and all other bytes are as they were
pub with_room : {text out new : List ℕ} {at to : ℕ} → Wrote text out at new to → at + length text ≤ length out
    → (new ≡ take at out ++ text ++ drop (at + length text) out) × (to ≡ at + length text)
with_room {text} {out} {new} {at} {to} w h =
    let e : ◌≡◌ {A = List ℕ × ℕ} (new, to) (sets out at text, at + length text) = sym w.by ∙ room_sets text out at h in
    (ap (λ (s : List ℕ × ℕ). s.0) e ∙ sets-eq text out at h, ap (λ (s : List ℕ × ℕ). s.1) e)

value_append : (n : ℕ) (bs cs : List ℕ) → value_from n (bs ++ cs) ≡ value_from (value_from n bs) cs
value_append n [] cs = refl
value_append n (b ∷ bs) cs = value_append (n * 10 + (b - 48)) bs cs

value_step : (b : Bool) (n : ℕ) (bs : List ℕ) → ltb n 10 ≡ b → (10 ≤ n → value_from 0 bs ≡ n / 10)
    → value_from (value_from 0 (cond b [] bs)) (digit n ∷ []) ≡ n
value_step true n bs e h = let l : n < 10 = ltb-true n 10 e in omega arith
value_step false n bs e h = let v : value_from 0 bs ≡ n / 10 = h (ltb-false n 10 e) in omega arith

-- the digits of n stand for n, where so many hold it
pub digits_value : (k n : ℕ) → n < 10 ^ k → value_from 0 (digits k n) ≡ n
unfolding digits
digits_value zero n h = let l : n < 1 = h in omega arith
digits_value (suc k) n h =
    let l : n < 10 ^ k * 10 = subst (λ (x : ℕ). n < x) (pow-suc 10 k) h in
    value_append 0 (cond (ltb n 10) [] (digits k (n / 10))) (digit n ∷ [])
    ∙ value_step (ltb n 10) n (digits k (n / 10)) refl (λ (t : 10 ≤ n). digits_value k (n / 10) (omega arith))
