-- Texts whose outcome is worked out by hand, computed by `read_of`: the definition is not empty, and says what the readings say.
use mathlib.Core.Path.{◌≡◌, refl}
use mathlib.Core.Bool.{Bool, true, ◌&&◌}
use mathlib.Core.List.{List, [], ◌∷◌, ◌++◌}
use Prim.Native.Nat.{ℕ}
use lib.Dec.{ltb, lit≤}
use borrow.Author.Tests.{ltb-true}
use Rattle.opcode.specs.Names.{bytes}
use Rattle.listing.specs.Print.{digits, hex_digits}
use Rattle.listing.specs.Read.{values_of, value_of, decimal_of, gap, string_of, pair_of, nibble_of}
use Rattle.listing.specs.Text.{Tables, Rooms, tables, input, read_of}
use Rattle.listing.specs.Printed.{tables_text, Below, Fits}
use Rattle.listing.proofs.PrintedLaws.{first_of, second_of}
use Rattle.listing.proofs.RoundTrip.{round_trip}

-- what genlist lends
abbrev full : Rooms
full = record { strings = 280; bytes = 4096; symbols = 280; references = 140; functions = 280; members = 140; records = 1120 }

-- two strings, of one byte and of none, and case A's tree
abbrev sample : Tables
sample = record {
  strings = 0 ∷ 1 ∷ 1 ∷ 0 ∷ [];
  bytes = 175 ∷ [];
  symbols = 0 ∷ 1 ∷ [];
  references = 0 ∷ [];
  functions = 4294967295 ∷ 0 ∷ [];
  members = [];
  records = 30 ∷ 0 ∷ 0 ∷ 4294967295 ∷ 0 ∷ 0 ∷ 1 ∷ 0 ∷ 31 ∷ 0 ∷ 0 ∷ 0 ∷ 0 ∷ 0 ∷ 0 ∷ 2 ∷ 4 ∷ 0 ∷ 0 ∷ 0 ∷ 0 ∷ 0 ∷ 0 ∷ 0 ∷ [];
}

abbrev upto3 : List ℕ
upto3 = bytes "strings\naf\n-\n\nsymbols\n"

abbrev upto7 : List ℕ
upto7 = upto3 ++ bytes "0 1\n\nreferences\n0\n\nfunctions\n4294967295 0\n\nmembers\n\nrecords\n30 0 0 4294967295 0 0 1 0\n31 0 0 0 0 0 0 2\n"

printed : tables_text sample ≡ upto7 ++ bytes "4 0 0 0 0 0 0 0\n\n"
unfolding tables_text digits hex_digits
printed = refl

-- read as the sample: the end of the text ends table 7; blank lines after it; a name of nothing, zeros and more spaces before a value, great digits
read : (read_of full (upto7 ++ bytes "4 0 0 0 0 0 0 0") ≡ tables sample)
    × (read_of full (upto7 ++ bytes "4 0 0 0 0 0 0 0\n\n\n\n") ≡ tables sample)
    × (read_of full
    (bytes "\nAF\n-\n\n\n00   1\n\n\n0\n\n\n4294967295 0\n\n\n\n\n30 0 0 4294967295 0 0 1 0\n31 0 0 0 0 0 0 2\n4 0 0 0 0 0 0 0\n")
    ≡ tables sample)
unfolding read_of values_of value_of decimal_of gap string_of pair_of nibble_of
read = (refl, refl, refl)

-- no text; an early end; another line after table 7: the line after the last, or that line
ends : (read_of full [] ≡ input 1)
    × (read_of full (bytes "strings\n") ≡ input 2)
    × (read_of full upto3 ≡ input 6)
    × (read_of full (upto7 ++ bytes "4 0 0 0 0 0 0 0\n\n\n4\n") ≡ input 22)
unfolding read_of values_of value_of decimal_of gap string_of pair_of nibble_of
ends = (refl, refl, refl, refl)

-- a value too few, one too many, a space at the start, one at the end, a number too great, a sign, an odd number of digits, a byte that is not lent
unread : (read_of full (upto3 ++ bytes "0\n") ≡ input 6)
    × (read_of full (upto3 ++ bytes "0 1\n0 1 2\n") ≡ input 7)
    × (read_of full (upto3 ++ bytes " 0 1\n") ≡ input 6)
    × (read_of full (upto3 ++ bytes "0 1 \n") ≡ input 6)
    × (read_of full (upto3 ++ bytes "0 4294967296\n") ≡ input 6)
    × (read_of full (upto3 ++ bytes "0 -1\n") ≡ input 6)
    × (read_of full (bytes "strings\naf\na\n") ≡ input 3)
    × (read_of (record { strings = 280; bytes = 1; symbols = 0; references = 0; functions = 0; members = 0; records = 0 }) (bytes "strings\naf\n00\n") ≡ input 3)
unfolding read_of values_of value_of decimal_of gap string_of pair_of nibble_of
unread = (refl, refl, refl, refl, refl, refl, refl, refl)

tested : ℕ → List ℕ → Bool
tested bound [] = true
tested bound (v ∷ vs) = ltb v bound && tested bound vs

-- a computed test of `Below`
below : (bound : ℕ) (l : List ℕ) → tested bound l ≡ true → Below bound l
unfolding tested
below bound [] e = tt
below bound (v ∷ vs) e =
    (ltb-true v bound (first_of (ltb v bound) (tested bound vs) e), below bound vs (second_of (ltb v bound) (tested bound vs) e))

-- the sample is one that fits
fits : Fits full sample
unfolding tested
fits = record {
  strings = (refl, (refl, refl));
  entries = lit≤ tt;
  lent = lit≤ tt;
  bytes = below 256 sample.bytes refl;
  size = lit≤ tt;
  room = lit≤ tt;
  symbols = record { entries = refl; words = below 4294967296 sample.symbols refl; limit = lit≤ tt; lent = lit≤ tt };
  references = record { entries = refl; words = below 4294967296 sample.references refl; limit = lit≤ tt; lent = lit≤ tt };
  functions = record { entries = refl; words = below 4294967296 sample.functions refl; limit = lit≤ tt; lent = lit≤ tt };
  members = record { entries = refl; words = tt; limit = lit≤ tt; lent = lit≤ tt };
  records = record {
    entries = refl;
    words = below 4294967296 sample.records refl;
    limit = lit≤ tt;
    lent = lit≤ tt;
  };
}

read_back : read_of full (tables_text sample) ≡ tables sample
read_back = round_trip full sample fits
