-- The names and values by kind are those by word. Assumes nothing.
use mathlib.Core.Bool.{Bool, true, false, cond}
use mathlib.Core.List.{List, [], ◌∷◌, map}
use mathlib.Core.Path.{◌≡◌, refl}
use Prim.Native.Nat.{ℕ, zero, suc}
use lib.ListN.{get_or}
use lib.Dec.{eqb}
use native.Mathlib.Omega.{arith}
use Rattle.std.proofs.lemmas.Bool.Decides.{nat_tests}
use Rattle.listing.specs.Print.{const_name, const_value, capture_name, function_kind, error_name}
use Rattle.listing.specs.Kinds.{kinds_of_consts, const_kind_of, name_of_const, value_text}
use Rattle.listing.specs.Kinds.{name_of_function, capture_of, kinds_of_errors, error_kind_of, name_of_error}
use Rattle.listing.specs.Kinds.{name_of_capture}
use Rattle.tables.specs.Kinds.{function_kind_of}
use borrow.Author.Tests.{ne_eqb}
use Rattle.listing.specs.declared.kinds.ConstKind.TheVariants as const
use Rattle.listing.specs.declared.kinds.Capture.TheVariants as capture
use Rattle.listing.specs.declared.kinds.ErrorKind.TheVariants as error
use Rattle.opcode.specs.Names.{bytes}

-- what is taken of an entry is the entry of what is taken
taken : {A B : Type 0} (f : A → B) (d : A) (xs : List A) (n : ℕ) → f (get_or xs n d) ≡ get_or (map f xs) n (f d)
taken f d [] n = refl
taken f d (x ∷ xs) zero = refl
taken f d (x ∷ xs) (suc n) = taken f d xs n

pub const_named : (n : ℕ) → name_of_const (const_kind_of n) ≡ const_name n
unfolding const_kind_of const_name
const_named n = taken name_of_const const.Unknown kinds_of_consts n

pub function_named : (n : ℕ) → name_of_function (function_kind_of n) ≡ function_kind n
unfolding function_kind
function_named zero = refl
function_named (suc zero) = refl
function_named (suc (suc zero)) = refl
function_named (suc (suc (suc n))) =
    let m = suc (suc (suc n)) in
    rw (ne_eqb m 0 (λ e. omega arith), ne_eqb m 1 (λ e. omega arith), ne_eqb m 2 (λ e. omega arith)) refl

pub error_named : (n : ℕ) → name_of_error (error_kind_of n) ≡ error_name n
unfolding error_kind_of error_name
error_named n = taken name_of_error error.Unknown kinds_of_errors n

pub capture_named : (n : ℕ) → name_of_capture (capture_of n) ≡ capture_name n
unfolding capture_of capture_name
capture_named n = picked (eqb n 1)
  where
    picked : (t : Bool) → name_of_capture (cond t capture.Local capture.Upvalue) ≡ cond t (bytes "Local") (bytes "Upvalue")
    picked true = refl
    picked false = refl

pub valued : (n low high : ℕ) → value_text (const_kind_of n) low high ≡ const_value n low high
unfolding const_kind_of const_value
valued zero low high = refl
valued (suc zero) low high = refl
valued (suc (suc zero)) low high = refl
valued (suc (suc (suc zero))) low high = refl
valued (suc (suc (suc (suc zero)))) low high = refl
valued (suc (suc (suc (suc (suc zero))))) low high = refl
valued (suc (suc (suc (suc (suc (suc zero)))))) low high = refl
valued (suc (suc (suc (suc (suc (suc (suc zero))))))) low high = refl
valued (suc (suc (suc (suc (suc (suc (suc (suc zero)))))))) low high = refl
valued (suc (suc (suc (suc (suc (suc (suc (suc (suc n))))))))) low high = grind (arith, nat_tests)
