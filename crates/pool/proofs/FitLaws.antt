-- Whether there is room for all names and slots hold them: what the tests say together. Assumes nothing.
use Rattle.std.proofs.lemmas.Bool.{and_parts}
use mathlib.Core.Path.{◌≡◌, refl}
use mathlib.Core.Bool.{true}
use mathlib.Core.List.{List, [], ◌∷◌}
use Prim.Native.Nat.{ℕ, zero, suc, ◌*◌, ◌≤◌, ◌<◌}
use native.Mathlib.Omega.{arith}
use lib.ListN.{length, get_or}
use lib.Dec.{leb, ltb, eqb}
use borrow.Author.Tests.{lt-ltb, ltb-true, eqb-true, eq-eqb, le-leb, leb-true}
use Rattle.tables.proofs.CheckLaws.{Kept}
use Rattle.pool.specs.Names.{Semantic, semantic, function_count, start_of_share}
use Rattle.pool.specs.NameWords.{under, fits}
use Rattle.pool.specs.NameSteps.{Fits}
use Rattle.pool.specs.Resolve.{Grown}

pub under_at : (n : ℕ) (xs : List ℕ) → under n xs ≡ true → (m : ℕ) → m < length xs → get_or xs m 0 < n
under_at n [] e m h = absurd (omega arith)
under_at n (x ∷ xs) e zero h = ltb-true x n (and_parts (ltb x n) (under n xs) e).0
under_at n (x ∷ xs) e (suc m) h = under_at n xs (and_parts (ltb x n) (under n xs) e).1 m (omega arith)

at_under : (n : ℕ) (xs : List ℕ) → ((m : ℕ) → m < length xs → get_or xs m 0 < n) → under n xs ≡ true
at_under n [] h = refl
at_under n (x ∷ xs) h = rw (lt-ltb x n (h 0 (omega arith))) (at_under n xs (λ m p. h (suc m) (omega arith)))

-- what the tests say together
module _ (t : Semantic) (entries spans : ℕ) where
  pub fits_all : fits t entries spans ≡ true → Fits t entries spans
  unfolding fits
  fits_all e =
      let p1 = and_parts (leb (function_count t) 256) _ e in
      let p2 = and_parts (leb (length t.members) 1024) _ p1.1 in
      let p3 = and_parts (leb (length t.members * 3) entries) _ p2.1 in
      let p4 = and_parts (leb (function_count t) spans) _ p3.1 in
      let p5 = and_parts (eqb (start_of_share t (function_count t)) (length t.members)) _ p4.1 in
      record {
        functions_limit = leb-true _ _ p1.0;
        members_limit = leb-true _ _ p2.0;
        entries_room = leb-true _ _ p3.0;
        spans_room = leb-true _ _ p4.0;
        counted = eqb-true _ _ p5.0;
        symbols_limit = under_at 1024 t.members p5.1;
      }

  all_fits : Fits t entries spans → fits t entries spans ≡ true
  unfolding fits
  all_fits x =
      rw (
        le-leb _ _ x.functions_limit,
        le-leb _ _ x.members_limit,
        le-leb _ _ x.entries_room,
        le-leb _ _ x.spans_room,
        eq-eqb _ _ x.counted,
        at_under 1024 t.members x.symbols_limit,
      )

-- tables that keep the rows: all fits where there is room for row 1's limits, and the notes have what they rest on
module _ (strings bytes symbols references functions members records : List ℕ) (k : Kept strings bytes symbols references functions members records) where
  pub kept_fits : (entries spans : ℕ) → 3072 ≤ entries → 256 ≤ spans → fits (semantic symbols references functions members) entries spans ≡ true
  kept_fits entries spans h g =
      let f = k.fits in
      let r = k.entries_right in
      all_fits (semantic symbols references functions members) entries spans
      (record {
        functions_limit = f.functions_limit;
        members_limit = f.members_limit;
        entries_room = omega (arith, f.members_limit);
        spans_room = omega (arith, f.functions_limit);
        counted = r.counts_sum;
        symbols_limit = λ m p. omega (arith, r.member_inside m p, f.symbols_limit);
      })

  pub kept_grown : Grown (semantic symbols references functions members) records
  kept_grown =
      record {
        one = k.one;
        few = k.fits.records_limit;
        root_function = k.root_is_function;
        number_inside = λ r h f. omega (arith, k.number_own r h f, k.number_inside r h f);
      }
