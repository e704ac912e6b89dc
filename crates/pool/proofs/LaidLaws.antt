-- The table's constants laid into the lent words: what adding writes is the longer list, laid. Assumes nothing.
use mathlib.Core.Path.{◌≡◌, refl, sym, ap, ap₂, subst, ◌∙◌}
use mathlib.Core.Bool.{Bool, true, false, cond}
use mathlib.Core.List.{List, [], ◌∷◌, ◌++◌}
use Prim.Native.Nat.{ℕ, suc, ◌+◌, ◌*◌, ◌<◌, ◌≤◌}
use native.Mathlib.Omega.{arith}
use native.Mathlib.Decide.{ℕ_discrete}
use lib.ListN.{length, get_or}
use borrow.Author.Tests.{le-leb, eq-eqb, ne_eqb}
use Rattle.pool.specs.Value.{plain, Const, effect_at, seen, intern, start}
use Rattle.pool.specs.declared.consts.ConstWords.{ConstWords}
use Rattle.pool.specs.Consts.{made, words_of, const_of, at, entry, entries, table, room, put3, put_const, laid, written, Told as ToldIn, AllTold as AllToldIn}
use mathlib.Core.Logic.{inr}
use Rattle.pool.proofs.PutLaws.{put_length, put_other}
use Rattle.pool.proofs.TableLaws.{below_other, put3_entry, words_const}

pub laid_length : (ws : List ℕ) (n : ℕ) (cs : List Const) → length (laid ws n cs) ≡ length ws
unfolding laid
laid_length ws n [] = refl
laid_length ws n (c ∷ cs) =
    laid_length (put_const ws n c) (suc n) cs ∙ put_length ws n ((words_of c).kind ∷ (words_of c).low ∷ (words_of c).high ∷ [])

-- words past the laid ones stay as they were
pub laid_past : (ws : List ℕ) (n : ℕ) (cs : List Const) (x : ℕ) → (n + length cs) * 3 ≤ x → get_or (laid ws n cs) x 0 ≡ get_or ws x 0
unfolding laid
laid_past ws n [] x h = refl
laid_past ws n (c ∷ cs) x h =
    laid_past (put_const ws n c) (suc n) cs x (omega arith)
    ∙ put_other ws n ((words_of c).kind ∷ (words_of c).low ∷ (words_of c).high ∷ []) x (inr (omega arith))

-- and so do the entries before
laid_before : (ws : List ℕ) (n : ℕ) (cs : List Const) (i j : ℕ) → i < n → j < 3 → at (laid ws n cs) i j ≡ at ws i j
unfolding laid
laid_before ws n [] i j h g = refl
laid_before ws n (c ∷ cs) i j h g =
    laid_before (put_const ws n c) (suc n) cs i j (omega arith) g ∙ below_other ws n (words_of c).kind (words_of c).low (words_of c).high i j h g

pub laid_last : (ws : List ℕ) (n : ℕ) (cs : List Const) (c : Const) → laid ws n (cs ++ (c ∷ [])) ≡ put_const (laid ws n cs) (n + length cs) c
unfolding laid
laid_last ws n [] c = let z : n ≡ n + 0 = omega arith in ap (λ m. put_const ws m c) z
laid_last ws n (d ∷ cs) c =
    let z : suc n + length cs ≡ n + suc (length cs) = omega arith in
    laid_last (put_const ws n d) (suc n) cs c ∙ ap (λ m. put_const (laid (put_const ws n d) (suc n) cs) m c) z

module _ (recs : List ℕ) where
  abbrev Told : Const → Type 0
  Told c = ToldIn recs c

  abbrev AllTold : List Const → Type 0
  AllTold cs = AllToldIn recs cs

  pub told_const : (k l h : ℕ) → Told (const_of recs k l h)
  unfolding const_of
  told_const k l h = go (ℕ_discrete k 7)
    where
      pick : Bool → Const
      pick b = cond b (record { value = effect_at recs l; source = l }) (made (plain k l h))

      go : Dec (k ≡ 7) → Told (const_of recs k l h)
      go (yes e) = subst (λ b. Told (pick b)) (sym (eq-eqb k 7 e)) refl
      go (no d) = subst (λ b. Told (pick b)) (sym (ne_eqb k 7 d)) (ap pick (ne_eqb k 7 d))

  pub told_start : AllTold start
  unfolding const_of
  told_start = (refl, tt)

  told_append : (cs : List Const) (c : Const) → AllTold cs → Told c → AllTold (cs ++ (c ∷ []))
  told_append [] c t e = (e, tt)
  told_append (d ∷ cs) c (a, t) e = (a, told_append cs c t e)

  pub told_intern : (cs : List Const) (c : Const) → AllTold cs → Told c → AllTold (intern cs c)
  unfolding intern
  told_intern cs c t e = go (seen cs c.value)
    where
      go : (b : Bool) → AllTold (cond b cs (cs ++ (c ∷ [])))
      go true = t
      go false = told_append cs c t e

  entries_laid : (ws : List ℕ) (n : ℕ) (cs : List Const) → AllTold cs → (n + length cs) * 3 ≤ length ws → entries recs (laid ws n cs) n (length cs) ≡ cs
  unfolding laid entries
  entries_laid ws n [] t h = refl
  entries_laid ws n (c ∷ cs) (e, t) h =
      let us = put_const ws n c in
      let vs = laid us (suc n) cs in
      let r : room ws n ≡ true = le-leb (n * 3 + 3) (length ws) (omega arith) in
      let x = laid_before us (suc n) cs n 0 (omega arith) (omega arith) in
      let y = laid_before us (suc n) cs n 1 (omega arith) (omega arith) in
      let z = laid_before us (suc n) cs n 2 (omega arith) (omega arith) in
      let g : entry recs vs n ≡ entry recs us n = ap₂ (λ a b. const_of recs a b (at vs n 2)) x y ∙ ap (const_of recs (at us n 0) (at us n 1)) z in
      let l = put_length ws n ((words_of c).kind ∷ (words_of c).low ∷ (words_of c).high ∷ []) in
      ap₂ ◌∷◌ (g ∙ put3_entry ws n (words_of c).kind (words_of c).low (words_of c).high r recs ∙ e) (entries_laid us (suc n) cs t (omega arith))

  -- the table in laid words is the list
  pub table_laid : (ws : List ℕ) (cs : List Const) → AllTold cs → length cs * 3 ≤ length ws → table recs (laid ws 0 cs) (length cs) ≡ cs
  table_laid ws cs t h = entries_laid ws 0 cs t (omega arith)

  -- what adding writes
  pub written_laid : (ws : List ℕ) (cs : List Const) (k l h : ℕ) → (k ≡ 7 → h ≡ 0) → table recs (laid ws 0 cs) (length cs) ≡ cs
      → written recs (laid ws 0 cs) (length cs) k l h ≡ laid ws 0 (intern cs (const_of recs k l h))
  unfolding written intern
  written_laid ws cs k l h z q =
      ap (λ ds. cond (seen ds c.value) us (put3 us (length cs) k l h)) q ∙ go (seen cs c.value)
    where
      c : Const
      c = const_of recs k l h

      us : List ℕ
      us = laid ws 0 cs

      go : (b : Bool) → cond b (laid ws 0 cs) (put3 (laid ws 0 cs) (length cs) k l h) ≡ laid ws 0 (cond b cs (cs ++ (const_of recs k l h ∷ [])))
      go true = refl
      go false =
          let e : length cs ≡ 0 + length cs = omega arith in
          ap (λ (w : ConstWords). put3 (laid ws 0 cs) (length cs) w.kind w.low w.high) (sym (words_const recs k l h z))
          ∙ ap (λ m. put_const (laid ws 0 cs) m (const_of recs k l h)) e ∙ sym (laid_last ws 0 cs (const_of recs k l h))
