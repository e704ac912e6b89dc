-- What row 2 leaves: how many words the outputs have. Assumes nothing.
use mathlib.Core.Path.{◌≡◌, refl}
use mathlib.Core.Bool.{Bool, true, false}
use mathlib.Core.List.{List, [], ◌∷◌}
use Prim.Native.Nat.{ℕ, ◌+◌, ◌*◌, ◌/◌, ◌≤◌}
use native.Mathlib.Omega.{arith}
use native.Mathlib.Nat.{div-mul-le_self}
use borrow.Author.Tests.{ltb-false}
use Rattle.std.specs.Prelude.{None, Some}
use Rattle.tables.specs.Lent.{first_refused}
use Rattle.codegen.specs.Space.{scarce, space_broken}

pub record Space (records members functions markers constants names errors lines : ℕ) : Type 0 where
  pub for_markers : records * 32 * 2 ≤ markers
  pub for_constants : records * 3 * 3 ≤ constants
  pub for_names : members * 1 * 3 ≤ names
  pub for_errors : records * 1 * 3 ≤ errors
  pub for_lines : functions * 1 * 7 ≤ lines

never : (i : ℕ) → Some i ≡ None → ⊥
never i e = let z : ◌≡◌ {A = ℕ} 0 1 = cc in omega arith

-- the first of some tests fails, and so do the others
one : (i : ℕ) (b : Bool) (bs : List Bool) → first_refused i (b ∷ bs) ≡ None → b ≡ false
one i true bs e = absurd (never i e)
one i false bs e = refl

others : (i : ℕ) (b : Bool) (bs : List Bool) → first_refused i (b ∷ bs) ≡ None → first_refused (i + 1) bs ≡ None
others i true bs e = absurd (never i e)
others i false bs e = e

ample : (each width n words : ℕ) → scarce each width n words ≡ false → n * each ≤ words / width
unfolding scarce
ample each width n words e = ltb-false (words / width) (n * each) e

pub space_kept : (records members functions markers constants names errors lines : ℕ)
    → space_broken records members functions markers constants names errors lines ≡ None
    → Space records members functions markers constants names errors lines
unfolding space_broken
space_kept records members functions markers constants names errors lines e =
    let b0 = scarce 32 2 records markers in
    let b1 = scarce 3 3 records constants in
    let b2 = scarce 1 3 members names in
    let b3 = scarce 1 3 records errors in
    let b4 = scarce 1 7 functions lines in
    let e1 = others 0 b0 (b1 ∷ b2 ∷ b3 ∷ b4 ∷ []) e in
    let e2 = others 1 b1 (b2 ∷ b3 ∷ b4 ∷ []) e1 in
    let e3 = others 2 b2 (b3 ∷ b4 ∷ []) e2 in
    let e4 = others 3 b3 (b4 ∷ []) e3 in
    record {
      for_markers = omega (arith, ample 32 2 records markers (one 0 b0 (b1 ∷ b2 ∷ b3 ∷ b4 ∷ []) e), div-mul-le_self markers 2);
      for_constants = omega (arith, ample 3 3 records constants (one 1 b1 (b2 ∷ b3 ∷ b4 ∷ []) e1), div-mul-le_self constants 3);
      for_names = omega (arith, ample 1 3 members names (one 2 b2 (b3 ∷ b4 ∷ []) e2), div-mul-le_self names 3);
      for_errors = omega (arith, ample 1 3 records errors (one 3 b3 (b4 ∷ []) e3), div-mul-le_self errors 3);
      for_lines = omega (arith, ample 1 7 functions lines (one 4 b4 [] e4), div-mul-le_self lines 7);
    }
