-- What row 1 says of the lent tables' lengths. Assumes nothing.
use mathlib.Core.Path.{◌≡◌, refl}
use mathlib.Core.Bool.{Bool, true, false}
use mathlib.Core.List.{List, [], ◌∷◌}
use Prim.Native.Nat.{ℕ, zero, suc, ◌+◌, ◌*◌, ◌/◌, ◌%◌, ◌≤◌, ◌<◌}
use native.Mathlib.Omega.{arith}
use lib.ListN.{length, get_or}
use lib.Dec.{ltb, eqb}
use borrow.Author.Tests.{ltb-false, eqb-false}
use Rattle.std.specs.Prelude.{None}
use Rattle.tables.specs.Record.{size}
use Rattle.tables.specs.Semantic.{pairs}
use Rattle.tables.specs.Lent.{unfit, first_refused, refused, lent_broken}
use Rattle.tables.proofs.EntriesLaws.{or_l, or_r, nowhere_not}

-- no table is refused: each test says so
all_fit : (t k : ℕ) (bs : List Bool) → first_refused t bs ≡ None → get_or bs k false ≡ false
all_fit t k [] e = refl
all_fit t zero (true ∷ bs) e = absurd (nowhere_not t e)
all_fit t (suc k) (true ∷ bs) e = absurd (nowhere_not t e)
all_fit t zero (false ∷ bs) e = refl
all_fit t (suc k) (false ∷ bs) e = all_fit (t + 1) k bs e

module _ (width limit words : ℕ) (e : unfit width limit words ≡ false) where
  within : words / width ≤ limit
  unfolding unfit
  within = ltb-false limit (words / width) (or_l (ltb limit (words / width)) (ltb 0 (words % width)) e)

  no_part : words % width ≤ 0
  unfolding unfit
  no_part = ltb-false 0 (words % width) (or_r (ltb limit (words / width)) (ltb 0 (words % width)) e)

some : (n : ℕ) → (n ≡ 0 → ⊥) → n % 8 ≤ 0 → 0 < n / 8
some zero ne p = absurd (ne refl)
some (suc n) ne p = omega arith

-- the lent tables have whole entries, no more than their limits, and there is a record
pub record Fit (strings bytes symbols references functions members records : List ℕ) : Type 0 where
  pub strings_limit : pairs strings ≤ 1024
  pub strings_whole : length strings ≡ pairs strings * 2
  pub bytes_limit : length bytes ≤ 65536
  pub symbols_limit : pairs symbols ≤ 1024
  pub symbols_whole : length symbols ≡ pairs symbols * 2
  pub references_limit : length references ≤ 4096
  pub functions_limit : pairs functions ≤ 256
  pub functions_whole : length functions ≡ pairs functions * 2
  pub members_limit : length members ≤ 1024
  pub records_limit : size records ≤ 4096
  pub records_whole : length records ≡ size records * 8
  pub records_some : 0 < size records

pub fit : (strings bytes symbols references functions members records : List ℕ) → lent_broken strings bytes symbols references functions members records ≡ None
    → Fit strings bytes symbols references functions members records
unfolding lent_broken
fit strings bytes symbols references functions members records e =
    let ts = refused strings bytes symbols references functions members records in
    let none = all_fit 1 6 ts e in
    let few = or_l (unfit 8 4096 (length records)) (eqb (length records) 0) none in
    record {
      strings_limit = within 2 1024 (length strings) (all_fit 1 0 ts e);
      strings_whole = omega (arith, no_part 2 1024 (length strings) (all_fit 1 0 ts e));
      bytes_limit = omega (arith, within 1 65536 (length bytes) (all_fit 1 1 ts e));
      symbols_limit = within 2 1024 (length symbols) (all_fit 1 2 ts e);
      symbols_whole = omega (arith, no_part 2 1024 (length symbols) (all_fit 1 2 ts e));
      references_limit = omega (arith, within 1 4096 (length references) (all_fit 1 3 ts e));
      functions_limit = within 2 256 (length functions) (all_fit 1 4 ts e);
      functions_whole = omega (arith, no_part 2 256 (length functions) (all_fit 1 4 ts e));
      members_limit = omega (arith, within 1 1024 (length members) (all_fit 1 5 ts e));
      records_limit = within 8 4096 (length records) few;
      records_whole = omega (arith, no_part 8 4096 (length records) few);
      records_some = some (length records) (eqb-false (length records) 0 (or_r (unfit 8 4096 (length records)) (eqb (length records) 0) none))
          (no_part 8 4096 (length records) few);
    }
