-- How many words a listing has: two for each marker, three for each constant and each error, seven for each function, of the functions met by number.
-- Assumes what Bounds assumes.
use mathlib.Core.Path.{◌≡◌, refl, ◌∙◌}
use mathlib.Core.Bool.{Bool, true, false, cond}
use mathlib.Core.List.{List, [], ◌∷◌}
use Prim.Native.Nat.{ℕ, zero, suc, ◌+◌, ◌*◌, ◌≤◌, ◌<◌}
use native.Mathlib.Omega.{arith}
use native.Mathlib.Decide.{ℕ_discrete}
use lib.ListN.{length, length-append}
use lib.Dec.{eqb}
use borrow.Author.Tests.{eq-eqb, ne_eqb}
use Rattle.tables.specs.Forest.{root, count}
use Rattle.pool.specs.Value.{Const}
use Rattle.pool.specs.Names.{Semantic}
use Rattle.rules.specs.declared.StackCode.{StackCode}
use Rattle.rules.specs.Marker.{Mark, mark}
use Rattle.rules.specs.Run.{Lookup, look, Error, error, Stream, side, run}
use Rattle.rules.specs.Out.{consts, code_word, operand_word, marker_words, const_words, error_words, line_words, stream_numbered, each_function, out}
use Rattle.rules.proofs.Count.{one, inside_at}
use Rattle.rules.proofs.Numbers.{numbered, run_numbered}
use Rattle.rules.proofs.Bounds.{total, marker_count, constant_count, function_count, Bounds}

-- h 0 + .. + h (n - 1)
unfoldable pub sum : ℕ → (ℕ → ℕ) → ℕ
sum zero h = 0
sum (suc n) h = sum n h + h n

sum_same : (m : ℕ) (h h' : ℕ → ℕ) → ((n : ℕ) → n < m → h n ≡ h' n) → sum m h ≡ sum m h'
unfolding sum
sum_same zero h h' e = refl
sum_same (suc m) h h' e = omega (arith, e m (omega arith), sum_same m h h' (λ n p. e n (omega arith)))

-- one place of a sum set to c
module _ (a c : ℕ) (h : ℕ → ℕ) where
  abbrev instead : ℕ → ℕ
  instead n = cond (eqb a n) c (h n)

  instead_at : (n : ℕ) → a ≡ n → instead n ≡ c
  instead_at n e = rw (eq-eqb a n e)

  instead_off : (n : ℕ) → (a ≡ n → ⊥) → instead n ≡ h n
  instead_off n ne = rw (ne_eqb a n ne)

  instead_most : (m : ℕ) → sum m instead ≤ c + sum m h
  unfolding sum
  instead_most zero = omega arith
  instead_most (suc m) = go (ℕ_discrete a m) (instead_most m)
    where
      go : Dec (a ≡ m) → sum m instead ≤ c + sum m h → sum m instead + instead m ≤ c + (sum m h + h m)
      go (yes e) ih = omega (arith, instead_at m e, sum_same m instead h (λ n p. instead_off n (λ q. omega arith)))
      go (no ne) ih = omega (arith, instead_off m ne)

-- a number of the stream of number n, 0 where there is none
module _ (f : Stream → ℕ) where
  abbrev found : List Stream → ℕ → ℕ
  found [] n = 0
  found (x ∷ xs) n = cond (eqb x.number n) (f x) (found xs n)

  found_none : (m : ℕ) → sum m (λ n. 0) ≡ 0
  unfolding sum
  found_none zero = refl
  found_none (suc m) = omega (arith, found_none m)

  found_most : (xs : List Stream) (m : ℕ) → sum m (found xs) ≤ total f xs
  found_most [] m = omega (arith, found_none m)
  found_most (x ∷ xs) m = omega (arith, instead_most x.number (f x) (found xs) m, found_most xs m)

  found_one : (xs : List Stream) (n : ℕ) → 1 ≤ numbered n xs → found xs n ≡ f (stream_numbered xs n)
  unfolding stream_numbered one
  found_one [] n p = absurd (omega arith)
  found_one (x ∷ xs) n p = go (eqb x.number n) p (λ p. found_one xs n p)
    where
      go : (b : Bool) → 1 ≤ cond b 1 0 + numbered n xs → (1 ≤ numbered n xs → found xs n ≡ f (stream_numbered xs n))
          → cond b (f x) (found xs n) ≡ f (cond b x (stream_numbered xs n))
      go true p ih = refl
      go false p ih = ih (omega arith)

  -- the functions met, in order of their numbers, are no more together than all streams
  pub by_number : (sc : StackCode) (t : Lookup) (recs : List ℕ) (m : ℕ) → m ≤ (side (run sc t recs)).met
      → sum m (λ n. f (stream_numbered (side (run sc t recs)).streams n)) ≤ total f (side (run sc t recs)).streams
  by_number sc t recs m p =
      let xs = (side (run sc t recs)).streams in
      omega (
        arith,
        found_most xs m,
        sum_same m (found xs) (λ n. f (stream_numbered xs n))
            (λ n q. found_one xs n (omega (arith, run_numbered sc t recs n, inside_at 0 (side (run sc t recs)).met n (omega arith) (omega arith)))),
      )

each_length : (f : Stream → List ℕ) (xs : List Stream) (m : ℕ) → length (each_function f xs m) ≡ sum m (λ n. length (f (stream_numbered xs n)))
unfolding each_function sum
each_length f xs zero = refl
each_length f xs (suc m) = omega (arith, length-append (each_function f xs m) (f (stream_numbered xs m)), each_length f xs m)

marker_length : (cs : List Const) (ms : List Mark) (ws : List ℕ) → length (marker_words cs ms ws) ≡ 2 * length ms + length ws
unfolding marker_words
marker_length cs [] ws = omega arith
marker_length cs (mark r x ∷ ms) ws = omega (arith, marker_length cs ms (code_word x ∷ operand_word cs x ∷ ws))

const_length : (cs : List Const) → length (const_words cs) ≡ 3 * length cs
unfolding const_words
const_length [] = refl
const_length (c ∷ cs) = omega (arith, const_length cs)

error_length : (es : List Error) (ws : List ℕ) → length (error_words es ws) ≡ 3 * length es + length ws
unfolding error_words
error_length [] ws = omega arith
error_length (error k a b ∷ es) ws = omega (arith, error_length es (k ∷ a ∷ b ∷ ws))

markers_total : (xs : List Stream) → total (λ x. length (marker_words (consts x.marks) x.marks [])) xs ≡ 2 * total marker_count xs
markers_total [] = refl
markers_total (x ∷ xs) = omega (arith, marker_length (consts x.marks) x.marks [], markers_total xs)

constants_total : (xs : List Stream) → total (λ x. length (const_words (consts x.marks))) xs ≡ 3 * total constant_count xs
constants_total [] = refl
constants_total (x ∷ xs) = omega (arith, const_length (consts x.marks), constants_total xs)

lines_total : (t : Semantic) (recs : List ℕ) (xs : List Stream) (m : ℕ) → sum m (λ n. length (line_words t recs (stream_numbered xs n))) ≡ 7 * m
unfolding sum
lines_total t recs xs zero = refl
lines_total t recs xs (suc m) = omega (arith, lines_total t recs xs m)

-- the words of the first m functions met, and of the whole listing
pub record OutBounds (sc : StackCode) (t : Semantic) (recs : List ℕ) : Type 0 where
  pub first_markers : (m : ℕ) → m ≤ (side (run sc (look t) recs)).met
      → length (each_function (λ x. marker_words (consts x.marks) x.marks []) (side (run sc (look t) recs)).streams m) ≤ 2 * (32 * count (root recs))
  pub first_constants : (m : ℕ) → m ≤ (side (run sc (look t) recs)).met
      → length (each_function (λ x. const_words (consts x.marks)) (side (run sc (look t) recs)).streams m) ≤ 3 * (3 * count (root recs))
  pub markers : length (out t recs (side (run sc (look t) recs))).markers ≤ 2 * (32 * count (root recs))
  pub constants : length (out t recs (side (run sc (look t) recs))).constants ≤ 3 * (3 * count (root recs))
  pub errors : length (out t recs (side (run sc (look t) recs))).errors ≤ 3 * count (root recs)
  pub lines : length (out t recs (side (run sc (look t) recs))).lines ≡ 7 * (side (run sc (look t) recs)).met
  pub functions : (side (run sc (look t) recs)).met ≤ function_count (root recs)

pub out_bounds : (sc : StackCode) (t : Semantic) (recs : List ℕ) → Bounds sc (look t) recs → OutBounds sc t recs
out_bounds sc t recs h =
    let e = side (run sc (look t) recs) in
    let xs = e.streams in
    let n = count (root recs) in
    let ms : Stream → List ℕ = λ x. marker_words (consts x.marks) x.marks [] in
    let cs : Stream → List ℕ = λ x. const_words (consts x.marks) in
    let ls : Stream → List ℕ = λ x. line_words t recs x in
    let m : (m : ℕ) → m ≤ e.met → length (each_function ms xs m) ≤ 2 * (32 * n) =
    λ m p. omega (arith, each_length ms xs m, by_number (λ x. length (ms x)) sc (look t) recs m p, markers_total xs, h.markers) in
    let c : (m : ℕ) → m ≤ e.met → length (each_function cs xs m) ≤ 3 * (3 * n) =
    λ m p. omega (arith, each_length cs xs m, by_number (λ x. length (cs x)) sc (look t) recs m p, constants_total xs, h.constants) in
    record {
      first_markers = m;
      first_constants = c;
      markers = m e.met (omega arith);
      constants = c e.met (omega arith);
      errors = omega (arith, error_length e.errors [], h.errors);
      lines = each_length ls xs e.met ∙ lines_total t recs xs e.met;
      functions = h.functions;
    }
