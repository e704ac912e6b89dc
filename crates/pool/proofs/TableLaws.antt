-- The table in the lent words: what adding a constant writes is the table with that constant. Assumes nothing.
use mathlib.Core.Path.{◌≡◌, refl, sym, ap, ap₂, ◌∙◌}
use mathlib.Core.Bool.{Bool, true, false, cond}
use mathlib.Core.List.{List, [], ◌∷◌, ◌++◌}
use Prim.Native.Nat.{ℕ, zero, suc, ◌+◌, ◌*◌, ◌<◌, ◌≤◌}
use native.Mathlib.Omega.{arith}
use native.Mathlib.Decide.{ℕ_discrete}
use lib.ListN.{length, length-append}
use borrow.Author.Tests.{leb-true, eq-eqb, ne_eqb}
use Rattle.pool.specs.Value.{plain, Const, effect_at, seen, intern, start, found}
use Rattle.std.specs.Prelude.{Some, None}
use Rattle.pool.specs.Consts.{made, words, words_of, const_of, at, entry, entries, table, room, put3, written}
use mathlib.Core.Logic.{inl}
use Rattle.pool.proofs.PutLaws.{put_other, put_stands}
use Rattle.pool.proofs.ConstsLaws.{intern_old, intern_new, found_seen, found_unseen}

module _ (ws : List ℕ) (n k l h : ℕ) where
  pub below_other : (i j : ℕ) → i < n → j < 3 → at (put3 ws n k l h) i j ≡ at ws i j
  below_other i j a b = put_other ws n (k ∷ l ∷ h ∷ []) (i * 3 + j) (inl (omega arith))

  pub put3_entry : room ws n ≡ true → (recs : List ℕ) → entry recs (put3 ws n k l h) n ≡ const_of recs k l h
  put3_entry r recs =
      let s = put_stands ws n (k ∷ l ∷ h ∷ []) (leb-true (n * 3 + 3) (length ws) r) in
      ap₂ (λ x y. const_of recs x y (at (put3 ws n k l h) n 2)) (s 0 (omega arith)) (s 1 (omega arith)) ∙ ap (const_of recs k l) (s 2 (omega arith))

module _ (recs : List ℕ) where
  pub entries_length : (ws : List ℕ) (i m : ℕ) → length (entries recs ws i m) ≡ m
  unfolding entries
  entries_length ws i zero = refl
  entries_length ws i (suc m) = ap suc (entries_length ws (suc i) m)

  pub table_length : (ws : List ℕ) (n : ℕ) → length (table recs ws n) ≡ n
  table_length ws n = entries_length ws 0 n

  entries_more : (ws : List ℕ) (i m : ℕ) → entries recs ws i (suc m) ≡ entries recs ws i m ++ (entry recs ws (i + m) ∷ [])
  unfolding entries
  entries_more ws i zero = let z : i ≡ i + 0 = omega arith in ap (λ j. entry recs ws j ∷ []) z
  entries_more ws i (suc m) =
      let z : suc i + m ≡ i + suc m = omega arith in
      ap (λ es. entry recs ws i ∷ es) (entries_more ws (suc i) m ∙ ap (λ j. entries recs ws (suc i) m ++ (entry recs ws j ∷ [])) z)

  entries_other : (ws : List ℕ) (n k l h i m : ℕ) → i + m ≤ n → entries recs (put3 ws n k l h) i m ≡ entries recs ws i m
  unfolding entries
  entries_other ws n k l h i zero g = refl
  entries_other ws n k l h i (suc m) g =
      let a = below_other ws n k l h i 0 (omega arith) (omega arith) in
      let b = below_other ws n k l h i 1 (omega arith) (omega arith) in
      let d = below_other ws n k l h i 2 (omega arith) (omega arith) in
      ap₂ ◌∷◌ (ap₂ (λ x y. const_of recs x y (at (put3 ws n k l h) i 2)) a b ∙ ap (const_of recs (at ws i 0) (at ws i 1)) d)
      (entries_other ws n k l h (suc i) m (omega arith))

  -- a put entry stands at the end of the table, and the entries before it stay
  pub table_put : (ws : List ℕ) (n k l h : ℕ) → room ws n ≡ true → table recs (put3 ws n k l h) (suc n) ≡ table recs ws n ++ (const_of recs k l h ∷ [])
  table_put ws n k l h r =
      let z : 0 + n ≡ n = omega arith in
      entries_more (put3 ws n k l h) 0 n
      ∙ ap₂ (λ es c. es ++ (c ∷ [])) (entries_other ws n k l h 0 n (omega arith)) (ap (entry recs (put3 ws n k l h)) z ∙ put3_entry ws n k l h r recs)

  module _ (ws : List ℕ) (n k l h : ℕ) where
    abbrev c : Const
    c = const_of recs k l h

    written_old : seen (table recs ws n) c.value ≡ true → written recs ws n k l h ≡ ws
    unfolding written
    written_old s = ap (λ b. cond b ws (put3 ws n k l h)) s

    written_new : seen (table recs ws n) c.value ≡ false → written recs ws n k l h ≡ put3 ws n k l h
    unfolding written
    written_new s = ap (λ b. cond b ws (put3 ws n k l h)) s

    -- the words, by what the search found
    pub put_old : (i : ℕ) → Some i ≡ found (table recs ws n) c.value → ws ≡ written recs ws n k l h
    put_old i e = sym (written_old (found_seen (table recs ws n) c.value i e).0)

    pub put_new : None ≡ found (table recs ws n) c.value → put3 ws n k l h ≡ written recs ws n k l h
    put_new e = sym (written_new (found_unseen (table recs ws n) c.value e))

    -- the table in the words after adding is the table with the constant, where there is room
    pub table_written : room ws n ≡ true → table recs (written recs ws n k l h) (length (intern (table recs ws n) c)) ≡ intern (table recs ws n) c
    table_written r = go (seen (table recs ws n) c.value) refl
      where
        go : (b : Bool) → seen (table recs ws n) c.value ≡ b → table recs (written recs ws n k l h) (length (intern (table recs ws n) c)) ≡ intern (table recs ws n) c
        go true s =
            let i = intern_old (table recs ws n) c s in
            ap₂ (table recs) (written_old s) (ap length i ∙ table_length ws n) ∙ sym i
        go false s =
            let i = intern_new (table recs ws n) c s in
            let z : length (table recs ws n ++ (c ∷ [])) ≡ suc n = length-append (table recs ws n) (c ∷ []) ∙ omega (arith, table_length ws n) in
            ap₂ (table recs) (written_new s) (ap length i ∙ z) ∙ table_put ws n k l h r ∙ sym i

  -- "Constants start with Null"
  pub table_start : (ws : List ℕ) → room ws 0 ≡ true → table recs (put3 ws 0 0 0 0) 1 ≡ start
  unfolding entries const_of
  table_start ws r = table_put ws 0 0 0 0 r

  -- the words of a constant of three words are these words, an Effect's high word being 0
  pub words_const : (k l h : ℕ) → (k ≡ 7 → h ≡ 0) → words_of (const_of recs k l h) ≡ words k l h
  unfolding const_of
  words_const k l h z = go (ℕ_discrete k 7)
    where
      go : Dec (k ≡ 7) → words_of (const_of recs k l h) ≡ words k l h
      go (yes e) =
          ap (λ b. words_of (cond b (record { value = effect_at recs l; source = l }) (made (plain k l h)))) (eq-eqb k 7 e)
          ∙ ap₂ (λ x y. words x l y) (sym e) (sym (z e))
      go (no d) = ap (λ b. words_of (cond b (record { value = effect_at recs l; source = l }) (made (plain k l h)))) (ne_eqb k 7 d)
