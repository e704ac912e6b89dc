-- Names stamped into the slots: what a look-up finds there. Assumes nothing.
use Rattle.std.proofs.lemmas.Bool.{cond-true, cond-false, cond_both}
use mathlib.Core.Path.{◌≡◌, refl, sym, ap, ap₂, subst, ◌∙◌}
use mathlib.Core.Bool.{Bool, true, false, cond, ◌&&◌}
use mathlib.Core.List.{List, [], ◌∷◌, ◌++◌}
use Prim.Native.Nat.{ℕ, zero, suc, ◌+◌, ◌-◌, ◌*◌, ◌%◌, ◌≤◌, ◌<◌}
use native.Mathlib.Omega.{arith}
use native.Mathlib.Decide.{ℕ_discrete}
use mathlib.Core.Logic.{◌⊎◌, inl, inr}
use lib.ListN.{length, get_or, set, length-set, get_or-eq_default}
use lib.Seq.{get_or-set_same, get_or-set_other}
use lib.Dec.{eqb}
use borrow.Author.Tests.{eq-eqb, ne_eqb}
use Rattle.tables.proofs.SemanticLaws.{split}
use Rattle.std.specs.Prelude.{Option, Some, None, option_map}
use Rattle.pool.specs.Names.{Upvalue, upvalue_symbols, index_of}
use Rattle.pool.specs.Scope.{SYMBOLS, table_number, same_table, stamp_of, index_at, index_in, stamped, stamps}
use Rattle.pool.specs.declared.scope.Scope.{Scope}
use Rattle.pool.specs.declared.scope.Stamp.{Stamp}
use Rattle.pool.specs.declared.scope.Table.{Table}
use Rattle.pool.specs.NameWords.{table_of, entry_of, chosen}
use Rattle.pool.specs.NameSteps.{symbols_at}
use Rattle.pool.specs.declared.names.Class.{Class}

-- the loop that stamps a table, from the last symbol to the first
module _ (sc₀ : Scope) where
  pub stamp_start : (es : List ℕ) (k : Table) (n count : ℕ) → sc₀ ≡ stamps sc₀ k count (symbols_at es (n + count) (count - count))
  unfolding stamps symbols_at
  stamp_start es k n count = let z : count - count ≡ 0 = omega arith in rw z

  pub stamp_more : (sc sc' : Scope) (es : List ℕ) (k : Table) (n count i v : ℕ) → 0 < i → i ≤ count → sc ≡ stamps sc₀ k i (symbols_at es (n + i) (count - i))
      → v ≡ get_or es ((n + (i - 1)) * 3) 0 → sc' ≡ stamped sc k v (i - 1) → sc' ≡ stamps sc₀ k (i - 1) (symbols_at es (n + (i - 1)) (count - (i - 1)))
  unfolding stamps symbols_at
  stamp_more sc sc' es k n count i v h p e q r =
      let z : count - (i - 1) ≡ suc (count - i) = omega arith in
      let y : suc (n + (i - 1)) ≡ n + i = omega arith in
      let x : suc (i - 1) ≡ i = omega arith in
      r ∙ (ap₂ (λ (l : Scope) (s : ℕ). stamped l k s (i - 1)) e q ∙ rw (z, y, x))

-- an index that is found is below the number of symbols, whatever the scope
abbrev pub Below : Option ℕ → Type 0
Below None = Unit {0}
Below (Some i) = i < SYMBOLS

pub index_below : (sc : Scope) (k : Table) (s : ℕ) → Below (index_in sc k s)
unfolding index_in
index_below sc k s = go (get_or sc.symbols s None)
  where
    go : (p : Option Stamp) → Below (index_at sc.owner k p)
    go None = tt
    go (Some x) = cond_both (eqb x.owner sc.owner && same_table x.table k) _ _ Below (λ _. omega arith) (λ _. tt)

-- a stamp of an earlier owner, or none
abbrev pub Older : ℕ → Option Stamp → Type 0
Older o None = Unit {0}
Older o (Some x) = x.owner < o

pub older_missed : (o : ℕ) (k : Table) (p : Option Stamp) → Older o p → index_at o k p ≡ None
older_missed o k None h = refl
older_missed o k (Some x) h = rw (ne_eqb x.owner o (λ e. omega arith))

pub older_later : (o : ℕ) (p : Option Stamp) → Older o p → Older (suc o) p
older_later o None h = tt
older_later o (Some x) h = omega arith

older_set : (o : ℕ) (l : List (Option Stamp)) (x s : ℕ) (v : Option Stamp) → Older o v → ((j : ℕ) → Older o (get_or l j None)) → Older o (get_or (set l x v) s None)
older_set o l x s v h e = go (ℕ_discrete s x) (split (length l) x)
  where
    go : Dec (s ≡ x) → (length l ≤ x) ⊎ (x < length l) → Older o (get_or (set l x v) s None)
    go (no d) w = subst (Older o) (sym (get_or-set_other l x s v None d)) (e s)
    go (yes z) (inr w) = subst (Older o) (sym (ap (λ (j : ℕ). get_or (set l x v) j None) z ∙ get_or-set_same l x v None w)) h
    go (yes z) (inl w) =
        let q : length (set l x v) ≤ s = omega (arith, length-set l x v) in
        subst (Older o) (sym (get_or-eq_default (set l x v) None q)) tt

-- a table stamped
module _ (sc : Scope) (k : Table) where
  pub stamps_length : (i : ℕ) (ss : List ℕ) → length (stamps sc k i ss).symbols ≡ length sc.symbols
  unfolding stamps stamped
  stamps_length i [] = refl
  stamps_length i (s ∷ ss) = length-set (stamps sc k (suc i) ss).symbols s (Some (stamp_of (stamps sc k (suc i) ss) k i)) ∙ stamps_length (suc i) ss

  pub stamps_owner : (i : ℕ) (ss : List ℕ) → (stamps sc k i ss).owner ≡ sc.owner
  unfolding stamps stamped
  stamps_owner i [] = refl
  stamps_owner i (s ∷ ss) = stamps_owner (suc i) ss

  pub stamps_idents : (i : ℕ) (ss : List ℕ) → (stamps sc k i ss).idents ≡ sc.idents
  unfolding stamps stamped
  stamps_idents i [] = refl
  stamps_idents i (s ∷ ss) = stamps_idents (suc i) ss

  pub stamps_inners : (i : ℕ) (ss : List ℕ) → (stamps sc k i ss).inners ≡ sc.inners
  unfolding stamps stamped
  stamps_inners i [] = refl
  stamps_inners i (s ∷ ss) = stamps_inners (suc i) ss

  -- stamps of owners up to this one
  pub stamps_older : (i : ℕ) (ss : List ℕ) (o : ℕ) → sc.owner < o → ((s : ℕ) → Older o (get_or sc.symbols s None)) → (s : ℕ)
      → Older o (get_or (stamps sc k i ss).symbols s None)
  unfolding stamps stamped
  stamps_older i [] o p h s = h s
  stamps_older i (x ∷ ss) o p h s =
      older_set o (stamps sc k (suc i) ss).symbols x s (Some (stamp_of (stamps sc k (suc i) ss) k i)) (omega (arith, stamps_owner (suc i) ss))
      (stamps_older (suc i) ss o p h)

-- a place found n entries further on
abbrev shift : ℕ → Option ℕ → Option ℕ
shift n (Some i) = Some (n + i)
shift n None = None

shift_later : (n : ℕ) (p : Option ℕ) → shift (suc n) p ≡ shift n (option_map suc p)
shift_later n (Some i) = let z : suc n + i ≡ n + suc i = omega arith in ap Some z
shift_later n None = refl

shift_none : (p : Option ℕ) → shift 0 p ≡ p
shift_none (Some i) = let z : 0 + i ≡ i = omega arith in ap Some z
shift_none None = refl

-- what a look-up reads
looks_same : (sc us : Scope) (k : Table) (s : ℕ) → get_or us.symbols s None ≡ get_or sc.symbols s None → us.owner ≡ sc.owner → index_in us k s ≡ index_in sc k s
unfolding index_in
looks_same sc us k s e q = rw (e, q)

-- a stamp of the owner is found in its table, and in no other
looks_stamped : (sc : Scope) (k k' : Table) (s i : ℕ) → get_or sc.symbols s None ≡ Some (stamp_of sc k i) → index_in sc k' s ≡ cond (same_table k k') (Some (i % SYMBOLS)) None
unfolding index_in
looks_stamped sc k k' s i e = rw (e, eq-eqb sc.owner sc.owner refl)

-- every symbol has a slot
abbrev pub Slotted : List ℕ → Type 0
Slotted ss = (m : ℕ) → m < length ss → get_or ss m 0 < SYMBOLS

module _ (sc : Scope) (k : Table) (long : length sc.symbols ≡ SYMBOLS) where
  -- one symbol more
  module _ (i x : ℕ) (ss : List ℕ) (slot : x < SYMBOLS) where
    abbrev us : Scope
    us = stamps sc k (suc i) ss

    looks_here : (k' : Table) → index_in (stamped us k x i) k' x ≡ cond (same_table k k') (Some (i % SYMBOLS)) None
    unfolding stamped
    looks_here k' =
        looks_stamped (stamped us k x i) k k' x i (get_or-set_same us.symbols x (Some (stamp_of us k i)) None (omega (arith, stamps_length sc k (suc i) ss, long)))

    looks_there : (k' : Table) (s : ℕ) → (x ≡ s → ⊥) → index_in (stamped us k x i) k' s ≡ index_in us k' s
    unfolding stamped
    looks_there k' s d = looks_same us (stamped us k x i) k' s (get_or-set_other us.symbols x s (Some (stamp_of us k i)) None (λ q. d (sym q))) refl

  -- in the stamped table: the first of the symbols
  found_from : (i : ℕ) (ss : List ℕ) → i + length ss ≤ SYMBOLS → Slotted ss → (s : ℕ) → index_in sc k s ≡ None → index_in (stamps sc k i ss) k s ≡ shift i (index_of ss s)
  unfolding stamps index_of
  found_from i [] h u s e = e
  found_from i (x ∷ ss) h u s e = go (ℕ_discrete x s) (found_from (suc i) ss (omega arith) (λ m p. u (suc m) (omega arith)) s e)
    where
      go : Dec (x ≡ s) → index_in (stamps sc k (suc i) ss) k s ≡ shift (suc i) (index_of ss s)
          → index_in (stamped (stamps sc k (suc i) ss) k x i) k s ≡ shift i (cond (eqb x s) (Some 0) (option_map suc (index_of ss s)))
      go (yes q) ih =
          let z : i + 0 ≡ i % SYMBOLS = omega arith in
          subst (λ (y : ℕ). index_in (stamped (stamps sc k (suc i) ss) k x i) k y ≡ shift i (cond (eqb x y) (Some 0) (option_map suc (index_of ss y)))) q
          (looks_here i x ss (u 0 (omega arith)) k ∙ (cond-true _ _ _ (eq-eqb (table_number k) (table_number k) refl)
          ∙ (ap Some (sym z) ∙ ap (shift i) (sym (cond-true _ _ _ (eq-eqb x x refl))))))
      go (no d) ih =
          looks_there i x ss (u 0 (omega arith)) k s d
          ∙ (ih ∙ (shift_later i (index_of ss s) ∙ ap (shift i) (sym (cond-false _ _ _ (ne_eqb x s d)))))

  pub found_own : (ss : List ℕ) → length ss ≤ SYMBOLS → Slotted ss → (s : ℕ) → index_in sc k s ≡ None → index_in (stamps sc k 0 ss) k s ≡ index_of ss s
  found_own ss h u s e = found_from 0 ss (omega arith) u s e ∙ shift_none (index_of ss s)

  -- in another table: as before, if the symbol was in none of both
  pub found_kept : (k' : Table) (i : ℕ) (ss : List ℕ) → same_table k k' ≡ false → Slotted ss → (s : ℕ) (p : Option ℕ) → index_in sc k' s ≡ p
      → ((j : ℕ) → index_of ss s ≡ Some j → p ≡ None) → index_in (stamps sc k i ss) k' s ≡ p
  unfolding stamps index_of
  found_kept k' i [] d u s p e n = e
  found_kept k' i (x ∷ ss) d u s p e n = go (ℕ_discrete x s) (λ m. found_kept k' (suc i) ss d (λ m h. u (suc m) (omega arith)) s p e m)
    where
      go : Dec (x ≡ s) → (((j : ℕ) → index_of ss s ≡ Some j → p ≡ None) → index_in (stamps sc k (suc i) ss) k' s ≡ p)
          → index_in (stamped (stamps sc k (suc i) ss) k x i) k' s ≡ p
      go (yes q) ih =
          subst (λ (y : ℕ). index_in (stamped (stamps sc k (suc i) ss) k x i) k' y ≡ None) q
          (looks_here i x ss (u 0 (omega arith)) k' ∙ cond-false _ _ _ d) ∙ sym (n 0 (cond-true _ _ _ (eq-eqb x s q)))
      go (no c) ih =
          looks_there i x ss (u 0 (omega arith)) k' s c
          ∙ ih (λ j q. n (suc j) (cond-false _ _ _ (ne_eqb x s c) ∙ ap (option_map suc) q))

-- what holds of a share's symbols holds of those of a table, which are of its class
module _ (k : Table) (cl : ℕ → Class) (P : ℕ → Type 0) where
  pub chosen_from : (ss : List ℕ) → ((m : ℕ) → m < length ss → P (get_or ss m 0)) → (j : ℕ) → j < length (upvalue_symbols (chosen k cl ss))
      → (same_table (table_of (cl (get_or (upvalue_symbols (chosen k cl ss)) j 0))) k ≡ true) × P (get_or (upvalue_symbols (chosen k cl ss)) j 0)
  unfolding chosen
  chosen_from [] h j p = absurd (omega arith)
  chosen_from (s ∷ ss) h j p = go (same_table (table_of (cl s)) k) refl (λ i q. chosen_from ss (λ m r. h (suc m) (omega arith)) i q) j p
    where
      rest : List Upvalue
      rest = chosen k cl ss

      one : Bool → List ℕ
      one b = upvalue_symbols (cond b (entry_of (cl s) s ∷ []) [] ++ rest)

      go : (b : Bool) → same_table (table_of (cl s)) k ≡ b
          → ((i : ℕ) → i < length (upvalue_symbols rest) → (same_table (table_of (cl (get_or (upvalue_symbols rest) i 0))) k ≡ true) × P (get_or (upvalue_symbols rest) i 0))
          → (j : ℕ) → j < length (one b) → (same_table (table_of (cl (get_or (one b) j 0))) k ≡ true) × P (get_or (one b) j 0)
      go true e ih zero q = (e, h 0 (omega arith))
      go true e ih (suc j) q = ih j (omega arith)
      go false e ih j q = ih j q
