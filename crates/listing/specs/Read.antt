-- What genlist's reader makes of a line (document 01, 'The listing program'; readings 27, 28 and 38). Definitions only.
use Rattle.std.specs.Prelude.{◌≡◌, Bool, true, false, cond, ◌&&◌, List, [], ◌∷◌, ℕ, zero, suc, ◌+◌, ◌*◌, ◌-◌, ◌≤◌, ◌<◌, length, take, drop, leb, eqb, Option, Some, None}
use Rattle.listing.specs.Lines.{run}

-- a byte is one of 0 to 9
abbrev pub is_digit : ℕ → Bool
is_digit b = leb 48 b && leb b 57

-- every byte is a digit
abbrev pub all_digits : List ℕ → Bool
all_digits [] = true
all_digits (b ∷ bs) = is_digit b && all_digits bs

-- the number that begins with v and goes on with these digits
abbrev pub value_from : ℕ → List ℕ → ℕ
value_from v [] = v
value_from v (b ∷ bs) = value_from (v * 10 + (b - 48)) bs

-- the decimal value of digits
unfoldable pub value_of : List ℕ → ℕ
value_of bs = value_from 0 bs

-- one digit at least
abbrev pub some_bytes : List ℕ → Bool
some_bytes [] = false
some_bytes (b ∷ bs) = true

-- "decimal values": digits only, leading zeros allowed, at most 4,294,967,295 (reading 28)
unfoldable pub decimal_of : List ℕ → Option ℕ
decimal_of bs = cond (some_bytes bs && (all_digits bs && leb (value_of bs) 4294967295)) (Some (value_of bs)) None

-- the value of one of a to f
abbrev pub lower_of : ℕ → Option ℕ
lower_of b = cond (leb 97 b && leb b 102) (Some (b - 87)) None

-- the value of one of A to F or a to f
abbrev pub upper_of : ℕ → Option ℕ
upper_of b = cond (leb 65 b && leb b 70) (Some (b - 55)) (lower_of b)

-- the value of a hexadecimal digit of either case (reading 28)
unfoldable pub nibble_of : ℕ → Option ℕ
nibble_of b = cond (is_digit b) (Some (b - 48)) (upper_of b)

-- the byte of two values, if there are both
abbrev pub byte_of : Option ℕ → Option ℕ → Option ℕ
byte_of None l = None
byte_of (Some h) None = None
byte_of (Some h) (Some l) = Some (h * 16 + l)

-- "hexadecimal": two digits are a byte
unfoldable pub pair_of : ℕ → ℕ → Option ℕ
pair_of h l = byte_of (nibble_of h) (nibble_of l)

-- a byte is a space
abbrev pub is_space : ℕ → Bool
is_space b = eqb b 32

-- values are separated by one or more spaces; there is none before the first (readings 28 and 38)
unfoldable pub gap : ℕ → List ℕ → ℕ
gap k bs = cond (eqb k 0) 0 (run is_space bs)

-- a value before those that follow, if all could be read
abbrev pub put : Option ℕ → Option (List ℕ) → Option (List ℕ)
put None o = None
put (Some v) None = None
put (Some v) (Some vs) = Some (v ∷ vs)

-- nothing may stand after the last value
abbrev pub when_over : List ℕ → Option (List ℕ)
when_over [] = Some []
when_over (b ∷ bs) = None

-- a line from value k on
abbrev pub field : ℕ → List ℕ → List ℕ
field k bs = drop (gap k bs) bs

-- "lines of decimal values": n values from value k on, each a run of digits
abbrev pub values_from : ℕ → ℕ → List ℕ → Option (List ℕ)
values_from k zero bs = when_over bs
values_from k (suc n) bs =
    put (decimal_of (take (run is_digit (field k bs)) (field k bs)))
    (values_from (k + 1) n (drop (run is_digit (field k bs)) (field k bs)))

-- the values of a line of so many
unfoldable pub values_of : ℕ → List ℕ → Option (List ℕ)
values_of n bs = values_from 0 n bs

-- "hexadecimal": an even number of digits (reading 28)
abbrev pub pairs_of : List ℕ → Option (List ℕ)
pairs_of [] = Some []
pairs_of (h ∷ []) = None
pairs_of (h ∷ l ∷ bs) = put (pair_of h l) (pairs_of bs)

-- the line `-`
abbrev pub is_dash : List ℕ → Bool
is_dash [] = false
is_dash (b ∷ []) = eqb b 45
is_dash (b ∷ c ∷ bs) = false

-- table 1 is "hexadecimal, `-` if empty": the bytes of a line's string
unfoldable pub string_of : List ℕ → Option (List ℕ)
string_of bs = cond (is_dash bs) (Some []) (pairs_of bs)

-- what `values` says: the line's values are stored, as many as there is room for; or it has others
abbrev pub Stored : List ℕ → List ℕ → Option Unit → Type 0
Stored line out' (Some t) = values_of (length out') line ≡ Some out'
Stored line out' None = values_of (length out') line ≡ None

-- what `hexadecimal` says: the string's bytes are stored and nothing after them is changed; or there is no string, or no room for it
abbrev pub Kept : List ℕ → List ℕ → List ℕ → Option ℕ → Type 0
Kept line out out' (Some n) = (n ≤ length out') × (string_of line ≡ Some (take n out')) × (drop n out' ≡ drop n out)
Kept line out out' None = (bs : List ℕ) → string_of line ≡ Some bs → length out < length bs
