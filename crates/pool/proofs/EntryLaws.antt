-- Entries laid over words from a place on. Assumes nothing.
use mathlib.Core.Path.{◌≡◌, refl, sym, ap, ap₂, ◌∙◌}
use mathlib.Core.List.{List, [], ◌∷◌, ◌++◌}
use Prim.Native.Nat.{ℕ, suc, ◌+◌, ◌*◌, ◌≤◌}
use native.Mathlib.Omega.{arith}
use lib.ListN.{length, get_or}
use lib.Seq.{sets}
use Rattle.pool.specs.Consts.{put3}
use Rattle.pool.specs.Names.{Upvalue, upvalue_symbols, Names}
use Rattle.pool.specs.NameWords.{plains, entries_of, words_of, entries_laid}
use Rattle.pool.specs.NameSteps.{symbols_at, Stands}
use Rattle.pool.specs.Entries.{put_entry}
use Rattle.pool.proofs.PutLaws.{put_length, put_room}
use Rattle.pool.proofs.WordParts.{stands_front, stands_back}

pub words_length : (es : List Upvalue) → length (words_of es) ≡ length es * 3
unfolding words_of
words_length [] = refl
words_length (e ∷ es) = omega (arith, words_length es)

pub words_append : (es fs : List Upvalue) → words_of (es ++ fs) ≡ words_of es ++ words_of fs
unfolding words_of
words_append [] fs = refl
words_append (e ∷ es) fs = ap (λ (l : List ℕ). e.symbol ∷ e.capture ∷ e.index ∷ l) (words_append es fs)

pub laid_append : (ws : List ℕ) (n : ℕ) (es fs : List Upvalue) → entries_laid ws n (es ++ fs) ≡ entries_laid (entries_laid ws n es) (n + length es) fs
unfolding entries_laid
laid_append ws n [] fs = let z : n ≡ n + 0 = omega arith in ap (λ (k : ℕ). entries_laid ws k fs) z
laid_append ws n (e ∷ es) fs =
    let z : suc n + length es ≡ n + suc (length es) = omega arith in
    laid_append (put3 ws n e.symbol e.capture e.index) (suc n) es fs
    ∙ ap (λ (k : ℕ). entries_laid (entries_laid (put3 ws n e.symbol e.capture e.index) (suc n) es) k fs) z

-- where there is room, they are a run of stores
pub laid_sets : (ws : List ℕ) (n : ℕ) (es : List Upvalue) → (n + length es) * 3 ≤ length ws → entries_laid ws n es ≡ sets ws (n * 3) (words_of es)
unfolding entries_laid words_of
laid_sets ws n [] h = refl
laid_sets ws n (e ∷ es) h =
    let xs = e.symbol ∷ e.capture ∷ e.index ∷ [] in
    let z : suc n * 3 ≡ suc (suc (suc (n * 3))) = omega arith in
    laid_sets (put_entry ws n xs) (suc n) es (omega (arith, put_length ws n xs))
    ∙ ap₂ (λ (l : List ℕ) (i : ℕ). sets l i (words_of es)) (put_room ws n xs (omega arith)) z

-- the symbols of entries that stand
pub symbols_read : (ws : List ℕ) (a : ℕ) (es : List Upvalue) → Stands ws (a * 3) (words_of es) → symbols_at ws a (length es) ≡ upvalue_symbols es
unfolding symbols_at words_of
symbols_read ws a [] s = refl
symbols_read ws a (e ∷ es) s =
    let z : a * 3 + 0 ≡ a * 3 = omega arith in
    let head : get_or ws (a * 3) 0 ≡ e.symbol = ap (λ (k : ℕ). get_or ws k 0) (sym z) ∙ s 0 (omega arith) in
    let rest = symbols_read ws (suc a) es (λ k h.
    let y : suc a * 3 + k ≡ a * 3 + suc (suc (suc k)) = omega arith in ap (λ (j : ℕ). get_or ws j 0) y ∙ s (suc (suc (suc k))) (omega arith)) in
    rw (head, rest)

-- the parts of a function's entries: locals, globals, upvalues
module _ (ws : List ℕ) (a : ℕ) (n : Names) (s : Stands ws (a * 3) (words_of (entries_of n))) where
  abbrev ls : List Upvalue
  ls = plains n.locals

  abbrev gs : List Upvalue
  gs = plains n.globals

  whole : Stands ws (a * 3) (words_of ls ++ words_of (gs ++ n.upvalues))
  whole = rw (words_append ls (gs ++ n.upvalues)) at s

  pub locals_stand : Stands ws (a * 3) (words_of ls)
  locals_stand = stands_front ws (a * 3) (words_of ls) (words_of (gs ++ n.upvalues)) whole

  behind : Stands ws ((a + length ls) * 3) (words_of gs ++ words_of n.upvalues)
  behind =
      let z : a * 3 + length (words_of ls) ≡ (a + length ls) * 3 = omega (arith, words_length ls) in
      rw (z, words_append gs n.upvalues) at (stands_back ws (a * 3) (words_of ls) (words_of (gs ++ n.upvalues)) whole)

  pub globals_stand : Stands ws ((a + length ls) * 3) (words_of gs)
  globals_stand = stands_front ws ((a + length ls) * 3) (words_of gs) (words_of n.upvalues) behind

  pub upvalues_stand : Stands ws ((a + length ls + length gs) * 3) (words_of n.upvalues)
  upvalues_stand =
      let z : (a + length ls) * 3 + length (words_of gs) ≡ (a + length ls + length gs) * 3 = omega (arith, words_length gs) in
      rw z at (stands_back ws ((a + length ls) * 3) (words_of gs) (words_of n.upvalues) behind)
