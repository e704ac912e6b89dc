-- Laws of decimal digits from the first on, each a power of ten subtracted as often as it goes; and the rule of the list of powers. Assumes nothing.
use mathlib.Core.Bool.{Bool}
use mathlib.Core.List.{List, [], ◌∷◌, ◌++◌}
use mathlib.Core.Path.{◌≡◌, sym, ap, subst, ◌∙◌}
use Prim.Native.Nat.{ℕ, zero, suc, ◌+◌, ◌-◌, ◌*◌, ◌≤◌, ◌<◌, ◌/◌, ◌%◌, ◌^◌}
use native.Mathlib.Nat.{not-suc-le-zero, pow-suc}
use native.Mathlib.Omega.{arith}
use native.Mathlib.Numerals.{sub-one}
use lib.Dec.{T, eqb, eqb→eq}
use lib.ListN.{length, get_or, take}
use Rattle.std.proofs.lemmas.List.{length-take-le, get_or-take, length_push, get_or_push, get_or_append_left}
use Rattle.opcode.proofs.Table.{every, at}
use Rattle.listing.specs.declared.text.Writer.{Writer}
use Rattle.listing.specs.Print.{after, digits, digit, decimal, Powers, Wide, Leads}
use Rattle.listing.proofs.WriterLaws.{left_next, left_none}
use Rattle.listing.proofs.PrintLaws.{digits_one, digits_more}

-- the rule of an entry, as a test
abbrev right : ℕ → ℕ → Bool
right k x = eqb x (10 ^ k)

-- a list of twenty that passes the test at each entry
pub powers_right : (ps : List ℕ) → length ps ≡ 20 → T (every right 0 ps) → Powers ps
powers_right ps e t =
    record { at = λ (k : ℕ) (h : k < 20). eqb→eq (get_or ps k 0) (10 ^ k) (at right 0 ps t k (subst (λ (n : ℕ). k < n) (sym e) h)) }

-- the last k decimal digits of n, zeros before them too
unfoldable pub padded : ℕ → ℕ → List ℕ
padded zero n = []
padded (suc k) n = padded k (n / 10) ++ (digit n ∷ [])

-- the digits by their first one
padded_first : (k d r : ℕ) → d < 10 → r < 10 ^ k → padded (suc k) (d * 10 ^ k + r) ≡ (48 + d) ∷ padded k r
unfolding padded
padded_first zero d r h l =
    let m : r < 1 = l in
    let e : 48 + (d * 1 + r) % 10 ≡ 48 + d = omega arith in
    ap (λ (b : ℕ). b ∷ []) e
padded_first (suc k) d r h l =
    let p = pow-suc 10 k in
    let m : r < 10 ^ k * 10 = subst (λ (x : ℕ). r < x) p l in
    let e : (d * (10 ^ k * 10) + r) / 10 ≡ d * 10 ^ k + r / 10 = omega arith in
    let f : 48 + (d * (10 ^ k * 10) + r) % 10 ≡ digit r = omega arith in
    ap (λ (x : ℕ). padded (suc (suc k)) (d * x + r)) p
    ∙ ap (λ (x : ℕ). padded (suc k) x ++ (digit (d * (10 ^ k * 10) + r) ∷ [])) e
    ∙ ap (λ (x : ℕ). padded (suc k) (d * 10 ^ k + r / 10) ++ (x ∷ [])) f
    ∙ ap (λ (ds : List ℕ). ds ++ (digit r ∷ [])) (padded_first k d (r / 10) h (omega arith))

ten_pos : (k : ℕ) → 0 < 10 ^ k
ten_pos zero = omega arith
ten_pos (suc k) = let h = ten_pos k in subst (λ (x : ℕ). 0 < x) (sym (pow-suc 10 k)) (omega arith)

-- with as many digits as the number has there is no zero before them
padded_all : (m k n : ℕ) → k ≤ m → n < 10 ^ suc k → (0 < k → 10 ^ k ≤ n) → padded (suc k) n ≡ digits (suc m) n
unfolding padded
padded_all m zero n s h l =
    let b : n < 10 = h in
    digits_one (suc m) n (omega arith) b
padded_all zero (suc k) n s h l = absurd (not-suc-le-zero s)
padded_all (suc m) (suc k) n s h l =
    let b : n < 10 ^ suc k * 10 = subst (λ (x : ℕ). n < x) (pow-suc 10 (suc k)) h in
    let a : 10 ^ k * 10 ≤ n = subst (λ (x : ℕ). x ≤ n) (pow-suc 10 k) (l (omega arith)) in
    let one : 0 < 10 ^ k = ten_pos k in
    let t : 10 ≤ n = omega arith in
    ap (λ (ds : List ℕ). ds ++ (digit n ∷ []))
    (padded_all m k (n / 10) (omega arith) (omega arith) (λ (z : 0 < k). omega arith))
    ∙ ap (λ (j : ℕ). digits j (n / 10) ++ (digit n ∷ [])) (sym (sub-one (suc (suc m))))
    ∙ digits_more (suc (suc m)) n (omega arith) t

-- a number of one digit
pub decimal_one : (n : ℕ) → n < 10 → (48 + n) ∷ [] ≡ decimal n
decimal_one n h = let e : 48 + n ≡ digit n = omega arith in ap (λ (b : ℕ). b ∷ []) e ∙ digits_one 20 n (omega arith) h

-- nothing is written yet
pub long_start : (n w : ℕ) (u : Writer) → Wide n w → after (decimal n) u ≡ after (padded w n) u
long_start n zero u h = absurd (not-suc-le-zero h.some)
long_start n (suc k) u h =
    let s : suc k - 1 ≡ k = omega arith in
    let f : 0 < k → 10 ^ k ≤ n = λ (z : 0 < k). subst (λ (j : ℕ). 10 ^ j ≤ n) s (h.first (omega arith)) in
    let m : k ≤ 19 = omega (arith, h.most) in
    ap (λ (ts : List ℕ). after ts u) (sym (padded_all 19 k n m h.below f))

-- the first digit is written
pub long_next : {v : Writer} (ts : List ℕ) (i n p d r : ℕ) (u w : Writer) → 0 < i → p ≡ 10 ^ (i - 1) → Leads n p d r
    → after ts w ≡ after (padded i n) u → v ≡ after ((48 + d) ∷ []) u → after ts w ≡ after (padded (i - 1) r) v
long_next ts i n p d r u w z q l k h =
    let s : i ≡ suc (i - 1) = omega arith in
    let f = ap (λ (x : ℕ). d * x + r) (sym q) ∙ l.sum in
    left_next ts ((48 + d) ∷ []) (padded (i - 1) r) u w
    (k ∙ ap (λ (t : List ℕ). after t u)
    (ap (λ (j : ℕ). padded j n) s ∙ ap (λ (x : ℕ). padded (suc (i - 1)) x) (sym f) ∙ padded_first (i - 1) d r l.one (omega (arith, l.less)))) h

-- all digits are written
pub long_done : {u : Writer} (ts : List ℕ) (i n : ℕ) (w : Writer) → i ≤ 0 → after ts w ≡ after (padded i n) u → u ≡ after ts w
unfolding padded
long_done {u} ts i n w h r = let e : i ≡ 0 = omega arith in left_none ts w (r ∙ ap (λ (j : ℕ). after (padded j n) u) e)

-- the first powers, one for each digit that is still to be written
pub record Front (ps : List ℕ) : Type 0 where
  pub few : length ps ≤ 20
  pub at : (k : ℕ) → k < length ps → get_or ps k 0 ≡ 10 ^ k

-- they begin as the list's front
pub front_start : (ps all : List ℕ) (w : ℕ) → ps ≡ take w all → length all ≡ 20 → w ≤ 20 → Powers all → (length ps ≡ w) × Front ps
front_start ps all w e a m p =
    let n : length ps ≡ w = ap length e ∙ length-take-le w all (omega arith) in (
      n,
      record {
        few = omega arith;
        at = λ (k : ℕ) (h : k < length ps). ap (λ (l : List ℕ). get_or l k 0) e ∙ get_or-take w all k 0 (omega arith) ∙ p.at k (omega arith);
      },
    )

-- the last of them
pub front_last : (ps qs : List ℕ) (p : ℕ) → ps ≡ qs ++ (p ∷ []) → Front ps → (length ps ≡ length qs + 1) × (p ≡ 10 ^ (length ps - 1)) × Front qs
front_last ps qs p e f =
    let n : length ps ≡ length qs + 1 = ap length e ∙ length_push qs p in
    let m : length qs ≡ length ps - 1 = omega arith in (
      n,
      sym (get_or_push qs p 0 (length ps - 1) m) ∙ ap (λ (l : List ℕ). get_or l (length ps - 1) 0) (sym e) ∙ f.at (length ps - 1) (omega arith),
      record {
        few = omega (arith, f.few);
        at = λ (k : ℕ) (h : k < length qs). sym (get_or_append_left qs (p ∷ []) 0 k h) ∙ ap (λ (l : List ℕ). get_or l k 0) (sym e) ∙ f.at k (omega arith);
      },
    )

-- ten times the last is the power of all digits
pub power_next : (i p : ℕ) → 0 < i → p ≡ 10 ^ (i - 1) → 10 ^ i ≡ 10 * p
power_next i p h e =
    let s : i ≡ suc (i - 1) = omega arith in
    let t : p * 10 ≡ 10 * p = omega arith in
    ap (λ (k : ℕ). 10 ^ k) s ∙ pow-suc 10 (i - 1) ∙ ap (λ (x : ℕ). x * 10) (sym e) ∙ t
