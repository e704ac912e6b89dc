-- Laws of a table's lines: what the loop over them has read so far.
use Rattle.std.proofs.Common.{◌≡◌, refl, sym, ap, ◌∙◌, Bool, true, false, cond, ◌||◌, List, [], ◌∷◌, ◌++◌, append_assoc, Option, Some, None, ℕ, ◌+◌, ◌≤◌, ◌<◌, length, take, arith}
use lib.Dec.{leb, ltb}
use borrow.Author.Tests.{le-leb, lt-leb, lt-ltb, le-ltb}
use Rattle.listing.specs.Read.{values_of}
use Rattle.listing.specs.Text.{Block, got, stop, onward, before, rows_of}

onward_twice : (vs ws : List ℕ) (b : Block (List ℕ)) → onward vs (onward ws b) ≡ onward (vs ++ ws) b
onward_twice vs ws (stop m) = refl
onward_twice vs ws (got xs ls m) = ap (λ (l : List ℕ). got l ls m) (sym (append_assoc vs ws xs))

-- a test of two limits, one of which is passed
pub limits_first : (a b : ℕ) (t : Bool) → a ≤ b → leb a b || t ≡ true
limits_first a b t h = ap (λ (s : Bool). s || t) (le-leb a b h)

either_true : (s t : Bool) → t ≡ true → s || t ≡ true
either_true true t e = refl
either_true false t e = e

pub limits_second : (s : Bool) (a b : ℕ) → a < b → s || ltb a b ≡ true
limits_second s a b h = either_true s (ltb a b) (lt-ltb a b h)

pub limits_none : (a b c d : ℕ) → b < a → d ≤ c → leb a b || ltb c d ≡ false
limits_none a b c d h k = ap (λ (s : Bool). s || ltb c d) (lt-leb a b h) ∙ le-ltb c d k

-- a line that is not blank
pub rows_line : (count most room : ℕ) (last : Bool) (line used : ℕ) (l : List ℕ) (ls : List (List ℕ)) → 0 < length l
    → rows_of count most room last line used (l ∷ ls)
    ≡ cond (leb most used || ltb room (used + count)) (stop line)
    (before line (values_of count l) (rows_of count most room last (line + 1) (used + count) ls))
rows_line count most room last line used [] ls h = absurd (omega arith)
rows_line count most room last line used (b ∷ bs) ls h = refl

-- what is read, before what the lines that are left give: in all W
module _ (count most room : ℕ) (last : Bool) (n used : ℕ) (out : List ℕ) (ls : List (List ℕ)) (W : Block (List ℕ))
    (inv : onward (take used out) (rows_of count most room last n used ls) ≡ W) where
  closed : rows_of count most room last n used ls ≡ stop n → W ≡ stop n
  closed e = sym inv ∙ ap (onward (take used out)) e

  module _ (l : List ℕ) (rest : List (List ℕ)) (lines : ls ≡ l ∷ rest) (some : 0 < length l) where
    opened : rows_of count most room last n used ls
        ≡ cond (leb most used || ltb room (used + count)) (stop n)
        (before n (values_of count l) (rows_of count most room last (n + 1) (used + count) rest))
    opened = ap (rows_of count most room last n used) lines ∙ rows_line count most room last n used l rest some

    limited : leb most used || ltb room (used + count) ≡ true → W ≡ stop n
    limited e =
        closed (opened ∙ ap (λ (t : Bool). cond t (stop n) (before n (values_of count l) (rows_of count most room last (n + 1) (used + count) rest))) e)

    pub rows_many : most ≤ used → W ≡ stop n
    rows_many h = limited (limits_first most used (ltb room (used + count)) h)

    pub rows_full : room < used + count → W ≡ stop n
    rows_full h = limited (limits_second (leb most used) room (used + count) h)

    within : (o : Option (List ℕ)) → used < most → used + count ≤ room → values_of count l ≡ o
        → rows_of count most room last n used ls ≡ before n o (rows_of count most room last (n + 1) (used + count) rest)
    within o h k e =
        opened
        ∙ ap (λ (t : Bool). cond t (stop n) (before n (values_of count l) (rows_of count most room last (n + 1) (used + count) rest)))
        (limits_none most used room (used + count) h k)
        ∙ ap (λ (x : Option (List ℕ)). before n x (rows_of count most room last (n + 1) (used + count) rest)) e

    -- a line without so many values
    pub rows_refused : used < most → used + count ≤ room → values_of count l ≡ None → W ≡ stop n
    rows_refused h k e = closed (within None h k e)

    -- a line whose values are stored
    pub rows_further : (vs out' : List ℕ) → used < most → used + count ≤ room → values_of count l ≡ Some vs → take (used + count) out' ≡ take used out ++ vs
        → onward (take (used + count) out') (rows_of count most room last (n + 1) (used + count) rest) ≡ W
    rows_further vs out' h k e s =
        ap (λ (x : List ℕ). onward x (rows_of count most room last (n + 1) (used + count) rest)) s
        ∙ sym (onward_twice (take used out) vs (rows_of count most room last (n + 1) (used + count) rest))
        ∙ ap (onward (take used out)) (sym (within (Some vs) h k e))
        ∙ inv
