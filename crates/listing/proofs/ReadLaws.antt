-- Laws of genlist's reader: a run of bytes, decimal values digit by digit, and the values of a line.
use Rattle.std.proofs.Common.{length-append, length-take, ◌≡◌, refl, sym, ap, subst, ◌∙◌, Bool, true, false, cond, not, ◌&&◌, List, [], ◌∷◌}
use Rattle.std.proofs.Common.{◌++◌, append_assoc, Option, Some, None, ℕ, suc, ◌+◌, ◌*◌, ◌-◌, ◌≤◌, ◌<◌, length, take, drop, set, get_or, arith}
use Rattle.std.specs.List.{position_or_len}
use Rattle.std.specs.Char.{IsDigitOf, NotDecimalDigitIn}
use Rattle.std.proofs.lemmas.Bool.Decides.{nat_tests}
use Rattle.std.proofs.lemmas.List.Recursion.{is_position_or_len}
use mathlib.Core.List.{append-nil}
use native.Mathlib.Numerals.{add-one}
use lib.ListN.{drop_of_length-le, length-drop}
use lib.Seq.{drop-cons, drop-drop, take-suc-set, take-length}
use lib.Dec.{leb, eqb}
use lib.Pointwise.{pointwise}
use borrow.Author.Tests.{le-leb, lt-leb}
use Rattle.listing.specs.Read.{is_digit, all_digits, value_from, value_of, some_bytes, decimal_of, pair_of}
use Rattle.listing.specs.Lines.{run}
use Rattle.listing.specs.Read.{gap, put, when_over, field, values_from, pairs_of, is_dash, string_of}

-- a list from a place on is its element there and the list after it
pub at_place : (l : List ℕ) (i : ℕ) → i < length l → drop i l ≡ get_or l i 0 ∷ drop (i + 1) l
at_place l i h = drop-cons l i 0 h ∙ ap (λ (n : ℕ). get_or l i 0 ∷ drop n l) (sym (add-one i))

run_cons : (n : ℕ) (t : Bool) (m : ℕ) → m ≤ n → cond t (suc m) 0 ≤ suc n
run_cons n true m h = omega arith
run_cons n false m h = omega arith

-- a run is no longer than its list
pub run_le : (p : ℕ → Bool) (l : List ℕ) → run p l ≤ length l
run_le p [] = omega arith
run_le p (b ∷ bs) = run_cons (length bs) (p b) (run p bs) (run_le p bs)

first_step : (t : Bool) (n : ℕ) → cond t (suc n) 0 ≡ cond (not t) 0 (1 + n)
first_step true n = omega arith
first_step false n = refl

-- a run ends at the first byte that fails its test
pub run_first : (p : ℕ → Bool) (l : List ℕ) → run p l ≡ position_or_len (λ b. not (p b)) l
run_first p l = is_position_or_len (run p) (λ b. not (p b)) refl (λ x xs. first_step (p x) (run p xs)) l

-- what `to_digit` says of a byte
pub digit_read : (b d : ℕ) → IsDigitOf b d → d < 10 → (is_digit b ≡ true) × (d ≡ b - 48)
digit_read b d h l = (grind (arith, nat_tests), grind arith)

pub no_digit : (b : ℕ) → NotDecimalDigitIn 10 b → is_digit b ≡ false
no_digit b h = grind (arith, nat_tests)

pub all_off : (l : List ℕ) (i : ℕ) → i < length l → is_digit (get_or l i 0) ≡ false → all_digits (drop i l) ≡ false
all_off l i h e = ap all_digits (at_place l i h) ∙ ap (λ (t : Bool). t && all_digits (drop (i + 1) l)) e

pub all_end : (l : List ℕ) (i : ℕ) → length l ≤ i → all_digits (drop i l) ≡ true
all_end l i h = ap all_digits (drop_of_length-le l h)

pub value_on : (l : List ℕ) (i v d : ℕ) → i < length l → d ≡ get_or l i 0 - 48 → value_from (v * 10 + d) (drop (i + 1) l) ≡ value_from v (drop i l)
value_on l i v d h e =
    ap (λ (n : ℕ). value_from (v * 10 + n) (drop (i + 1) l)) e ∙ sym (ap (value_from v) (at_place l i h))

pub value_end : (l : List ℕ) (i v : ℕ) → length l ≤ i → value_from v (drop i l) ≡ v
value_end l i v h = ap (value_from v) (drop_of_length-le l h)

-- a number grows with its digits
pub value_above : (v : ℕ) (l : List ℕ) → v ≤ value_from v l
value_above v [] = omega arith
value_above v (b ∷ bs) = let h = value_above (v * 10 + (b - 48)) bs in omega arith

-- a number is no less than its digits up to one place make it
pub value_past : (l : List ℕ) (i v : ℕ) → i < length l → v * 10 + (get_or l i 0 - 48) ≤ value_from v (drop i l)
value_past l i v h =
    let s = value_above (v * 10 + (get_or l i 0 - 48)) (drop (i + 1) l) in
    let e = value_on l i v (get_or l i 0 - 48) h refl in omega arith

neither : (a b : Bool) (x y : Option ℕ) → cond (a && (b && false)) x y ≡ y
neither true true x y = refl
neither true false x y = refl
neither false b x y = refl

pub decimal_none : (l : List ℕ) → length l ≡ 0 → decimal_of l ≡ None
unfolding decimal_of
decimal_none [] e = refl
decimal_none (b ∷ bs) e = absurd (omega arith)

pub decimal_off : (l : List ℕ) → all_digits l ≡ false → decimal_of l ≡ None
unfolding decimal_of
decimal_off [] e = refl
decimal_off (b ∷ bs) e =
    ap (λ (t : Bool). cond (t && leb (value_of (b ∷ bs)) 4294967295) (Some (value_of (b ∷ bs))) None) e

pub decimal_large : (l : List ℕ) → 4294967295 < value_of l → decimal_of l ≡ None
unfolding decimal_of
decimal_large l h =
    ap (λ (t : Bool). cond (some_bytes l && (all_digits l && t)) (Some (value_of l)) None) (lt-leb _ _ h)
    ∙ neither (some_bytes l) (all_digits l) (Some (value_of l)) None

pub decimal_value : (l : List ℕ) (v : ℕ) → (length l ≡ 0 → ⊥) → all_digits l ≡ true → v ≤ 4294967295 → v ≡ value_of l → Some v ≡ decimal_of l
unfolding decimal_of
decimal_value [] v n e h q = absurd (n refl)
decimal_value (b ∷ bs) v n e h q =
    let s : leb (value_of (b ∷ bs)) 4294967295 ≡ true = le-leb (value_of (b ∷ bs)) 4294967295 (omega arith) in
    ap Some q
    ∙ sym
    (ap (λ (t : Bool). cond (t && leb (value_of (b ∷ bs)) 4294967295) (Some (value_of (b ∷ bs))) None) e
    ∙ ap (λ (t : Bool). cond t (Some (value_of (b ∷ bs))) None) s)

-- what is read, before what is still to come
abbrev pub joined : List ℕ → Option (List ℕ) → Option (List ℕ)
joined xs None = None
joined xs (Some ys) = Some (xs ++ ys)

pub joined_none : (o : Option (List ℕ)) → joined [] o ≡ o
joined_none None = refl
joined_none (Some ys) = refl

joined_put : (xs : List ℕ) (v : ℕ) (o : Option (List ℕ)) → joined (xs ++ (v ∷ [])) o ≡ joined xs (put (Some v) o)
joined_put xs v None = refl
joined_put xs v (Some ys) = ap Some (append_assoc xs (v ∷ []) ys)

-- a value that is stored comes after those before it
pub stored_more : (out : List ℕ) (k v : ℕ) → k < length out → take (k + 1) (set out k v) ≡ take k out ++ (v ∷ [])
stored_more out k v h = ap (λ (n : ℕ). take n (set out k v)) (add-one k) ∙ take-suc-set out k v h

pub stored_value : (out : List ℕ) (k v : ℕ) (n : Option ℕ) (o : Option (List ℕ)) → k < length out → n ≡ Some v
    → joined (take (k + 1) (set out k v)) o ≡ joined (take k out) (put n o)
stored_value out k v n o h e =
    ap (λ (l : List ℕ). joined l o) (stored_more out k v h)
    ∙ joined_put (take k out) v o
    ∙ ap (λ (i : Option ℕ). joined (take k out) (put i o)) (sym e)

-- a turn of the loop over a line's values: a value is stored, or there is none
module _ (rest others digits after out : List ℕ) (n k g m : ℕ) (W : Option (List ℕ)) (begins : g ≡ gap k rest) (field_is : others ≡ drop g rest)
    (ends : m ≡ run is_digit others) (digits_are : digits ≡ take m others) (after_is : after ≡ drop m others) (less : k < n)
    (inv : joined (take k out) (values_from k (n - k) rest) ≡ W) where
  whole : joined (take k out) (put (decimal_of digits) (values_from (k + 1) (n - (k + 1)) after)) ≡ W
  whole =
      let e : suc (n - (k + 1)) ≡ n - k = omega arith in
      let f : others ≡ field k rest = field_is ∙ ap (λ (i : ℕ). drop i rest) begins in
      let d : digits ≡ take (run is_digit (field k rest)) (field k rest) = digits_are ∙ ap (λ (i : ℕ). take i others) ends ∙ ap (λ (l : List ℕ). take (run is_digit l) l) f in
      let a : after ≡ drop (run is_digit (field k rest)) (field k rest) = after_is ∙ ap (λ (i : ℕ). drop i others) ends ∙ ap (λ (l : List ℕ). drop (run is_digit l) l) f in
      ap (λ (l : List ℕ). joined (take k out) (put (decimal_of l) (values_from (k + 1) (n - (k + 1)) after))) d
      ∙ ap (λ (l : List ℕ). joined (take k out) (put (decimal_of (take (run is_digit (field k rest)) (field k rest))) (values_from (k + 1) (n - (k + 1)) l))) a
      ∙ ap (λ (i : ℕ). joined (take k out) (values_from k i rest)) e
      ∙ inv

  pub again : (v : ℕ) → k < length out → decimal_of digits ≡ Some v → joined (take (k + 1) (set out k v)) (values_from (k + 1) (n - (k + 1)) after) ≡ W
  again v h q = stored_value out k v _ (values_from (k + 1) (n - (k + 1)) after) h q ∙ whole

  pub stops : decimal_of digits ≡ None → W ≡ None
  stops q = sym whole ∙ ap (λ (i : Option ℕ). joined (take k out) (put i (values_from (k + 1) (n - (k + 1)) after))) q

over : (l : List ℕ) → 0 < length l → when_over l ≡ None
over [] h = absurd (omega arith)
over (b ∷ bs) h = refl

nothing : (l : List ℕ) → length l ≡ 0 → when_over l ≡ Some []
nothing [] h = refl
nothing (b ∷ bs) h = absurd (omega arith)

-- after the last value the line is over, or has more
module _ (rest out : List ℕ) (k : ℕ) (W : Option (List ℕ)) (same : k ≡ length out) (inv : joined (take k out) (values_from k (length out - k) rest) ≡ W) where
  ended : joined (take k out) (when_over rest) ≡ W
  ended =
      let e : length out - k ≡ 0 = omega arith in
      ap (λ (i : ℕ). joined (take k out) (values_from k i rest)) (sym e) ∙ inv

  pub finished : length rest ≡ 0 → W ≡ Some out
  finished h =
      let e : when_over rest ≡ Some [] = nothing rest h in
      sym ended ∙ ap (joined (take k out)) e ∙ ap Some (append-nil (take k out) ∙ ap (λ (n : ℕ). take n out) same ∙ take-length out)

  pub unfinished : (length rest ≡ 0 → ⊥) → W ≡ None
  unfinished h = sym ended ∙ ap (joined (take k out)) (over rest (omega arith))

-- what is left of a list after its first bytes
pub rest_of : (n : ℕ) (l : List ℕ) → take (length l - n) (drop n l) ≡ drop n l
rest_of n l =
    let e : length l - n ≡ length (drop n l) = omega (arith, length-drop n l) in
    ap (λ (i : ℕ). take i (drop n l)) e ∙ take-length (drop n l)

-- lists that agree from a place on agree further on
pub agree_on : (n m : ℕ) (xs ys : List ℕ) → drop n xs ≡ drop n ys → drop (n + m) xs ≡ drop (n + m) ys
agree_on n m xs ys e = sym (drop-drop m n xs) ∙ ap (drop m) e ∙ drop-drop m n ys

pub agree_upto : (n m : ℕ) (xs ys : List ℕ) → n ≤ m → drop n xs ≡ drop n ys → drop m xs ≡ drop m ys
agree_upto n m xs ys h e =
    let s : n + (m - n) ≡ m = omega arith in
    subst (λ (i : ℕ). drop i xs ≡ drop i ys) s (agree_on n (m - n) xs ys e)

alone : (t : Bool) → t && true ≡ t
alone true = refl
alone false = refl

never_both : (t : Bool) → t && false ≡ false
never_both true = refl
never_both false = refl

pub dash_eq : (l : List ℕ) → pointwise eqb l (45 ∷ []) ≡ is_dash l
dash_eq [] = refl
dash_eq (b ∷ []) = alone (eqb b 45)
dash_eq (b ∷ c ∷ l) = never_both (eqb b 45)

pub string_dash : (l : List ℕ) → is_dash l ≡ true → string_of l ≡ Some []
unfolding string_of
string_dash l e = ap (λ (t : Bool). cond t (Some []) (pairs_of l)) e

pub string_pairs : (l : List ℕ) → is_dash l ≡ false → pairs_of l ≡ string_of l
unfolding string_of
string_pairs l e = sym (ap (λ (t : Bool). cond t (Some []) (pairs_of l)) e)

joined_size : (xs : List ℕ) (b : Option ℕ) (o : Option (List ℕ)) (bs : List ℕ) → joined xs (put b o) ≡ Some bs → length xs < length bs
joined_size xs None o bs e = cc
joined_size xs (Some v) None bs e = cc
joined_size xs (Some v) (Some ys) bs e =
    let q : xs ++ (v ∷ ys) ≡ bs = cc in
    omega (arith, ap length q, length-append xs (v ∷ ys))

two_digits : (l : List ℕ) → 2 ≤ length l → pairs_of l ≡ put (pair_of (get_or l 0 0) (get_or l 1 0)) (pairs_of (drop 2 l))
two_digits [] h = absurd (omega arith)
two_digits (b ∷ []) h = absurd (omega arith)
two_digits (b ∷ c ∷ l) h = refl

fewer_digits : (l : List ℕ) → length l < 2 → (length l ≡ 0 → ⊥) → pairs_of l ≡ None
fewer_digits [] h n = absurd (n refl)
fewer_digits (b ∷ []) h n = refl
fewer_digits (b ∷ c ∷ l) h n = absurd (omega arith)

no_digits : (l : List ℕ) → length l ≡ 0 → pairs_of l ≡ Some []
no_digits [] h = refl
no_digits (b ∷ bs) h = absurd (omega arith)

-- a chunk of two digits, and what is left
pub two_taken : (l ds rest : List ℕ) → l ≡ ds ++ rest → length ds ≡ 2
    → (pair_of (get_or l 0 0) (get_or l 1 0) ≡ pair_of (get_or ds 0 0) (get_or ds 1 0)) × (drop 2 l ≡ rest)
two_taken l [] rest e h = absurd (omega arith)
two_taken l (b ∷ []) rest e h = absurd (omega arith)
two_taken l (b ∷ c ∷ []) rest e h = rw e (refl, refl)
two_taken l (b ∷ c ∷ d ∷ ds) rest e h = absurd (omega arith)

-- a turn of the loop over a string's digits, with W the string
module _ (rest out : List ℕ) (count : ℕ) (W : Option (List ℕ)) (inv : joined (take count out) (pairs_of rest) ≡ W) where
  next : 2 ≤ length rest → joined (take count out) (put (pair_of (get_or rest 0 0) (get_or rest 1 0)) (pairs_of (drop 2 rest))) ≡ W
  next h = ap (joined (take count out)) (sym (two_digits rest h)) ∙ inv

  pub next_byte : (v : ℕ) → 2 ≤ length rest → count < length out → pair_of (get_or rest 0 0) (get_or rest 1 0) ≡ Some v
      → joined (take (count + 1) (set out count v)) (pairs_of (drop 2 rest)) ≡ W
  next_byte v h room q = stored_value out count v _ (pairs_of (drop 2 rest)) room q ∙ next h

  pub no_byte : 2 ≤ length rest → pair_of (get_or rest 0 0) (get_or rest 1 0) ≡ None → W ≡ None
  no_byte h q = sym (next h) ∙ ap (λ (o : Option ℕ). joined (take count out) (put o (pairs_of (drop 2 rest)))) q

  pub no_room : 2 ≤ length rest → count ≤ length out → length out ≤ count → (bs : List ℕ) → W ≡ Some bs → length out < length bs
  no_room h within full bs e =
      omega (arith, joined_size (take count out) _ _ bs (next h ∙ e), length-take count out)

  pub odd_digit : length rest < 2 → (length rest ≡ 0 → ⊥) → W ≡ None
  odd_digit h n = sym inv ∙ ap (joined (take count out)) (fewer_digits rest h n)

  pub all_bytes : length rest ≡ 0 → W ≡ Some (take count out)
  all_bytes h = sym inv ∙ ap (joined (take count out)) (no_digits rest h) ∙ ap Some (append-nil (take count out))

pub never : (W : Option (List ℕ)) (bs : List ℕ) (n m : ℕ) → W ≡ None → W ≡ Some bs → n < m
never W bs n m p q = cc
