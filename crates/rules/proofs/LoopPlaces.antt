-- A right stream's Breaks, Continues and loops, by the places of its words. Assumes nothing.
use mathlib.Core.Path.{◌≡◌, sym, ap, subst, ◌∙◌}
use mathlib.Core.Logic.{◌⊎◌, inl, inr}
use mathlib.Core.List.{List, [], ◌∷◌, reverse_aux}
use Prim.Native.Nat.{ℕ, zero, suc, ◌≤◌, ◌<◌}
use native.Mathlib.Omega.{arith}
use native.Mathlib.Decide.{dec_le}
use lib.ListN.{length, get_or}
use Rattle.tables.specs.Forest.{Forest}
use Rattle.pool.specs.Value.{Const}
use Rattle.rules.specs.Marker.{Break, Continue, Op, Leave, Mark, mark}
use Rattle.rules.specs.Run.{Loop, loop}
use Rattle.rules.specs.Out.{operand_word}
use Rattle.rules.specs.Around.{Around}
use Rattle.rules.specs.Demand.{code, operand, Opened, first, next, continue_of, break_of, no_loop, record_of}
use Rattle.rules.proofs.Count.{one_same, inside_at, inside_above}
use Rattle.rules.proofs.Placing.{kept_times, kept_back}
use Rattle.rules.proofs.Ties.{Tie, Ties}
use Rattle.rules.proofs.Right.{Right}
use Rattle.rules.proofs.OnWords.{op_of, blank, words_of, code_at, operand_at, is_break, is_continue}

ties_at : (S : ℕ → ℕ → Type 0) (K : ℕ → ℕ → ℕ → Type 0) (xs : List Mark) (i : ℕ) → Ties S K xs → i < length xs → Tie S K (get_or xs i blank)
ties_at S K [] i t h = absurd (omega arith)
ties_at S K (m ∷ xs) zero (t, ts) h = t
ties_at S K (m ∷ xs) (suc i) (t, ts) h = ties_at S K xs i ts (omega arith)

opened_late : (o c b : ℕ) (xs ys : List Loop) → Opened o c b ys → Opened o c b (reverse_aux xs ys)
opened_late o c b [] ys q = q
opened_late o c b (x ∷ xs) ys q = opened_late o c b xs (x ∷ ys) (next q)

opened_back : (o c b : ℕ) (xs : List Loop) → Opened o c b xs → (ys : List Loop) → Opened o c b (reverse_aux xs ys)
opened_back o c b xs (first {ls = ls}) ys = opened_late o c b ls (loop o c b ∷ ys) first
opened_back o c b xs (next {x = x} {ls = ls} p) ys = opened_back o c b ls p (x ∷ ys)

-- each loop's labels are kept at least once
kept_tail : (l : ℕ) (x : Loop) (ls : List Loop) → kept_times l ls ≤ kept_times l (x ∷ ls)
kept_tail l (loop o c b) ls = omega arith

kept_continue : (ls : List Loop) (j : ℕ) → j < length ls → 1 ≤ kept_times (continue_of (get_or ls j no_loop)) ls
kept_continue [] j h = absurd (omega arith)
kept_continue (loop o c b ∷ ls) zero h = omega (arith, one_same c)
kept_continue (x ∷ ls) (suc j) h = omega (arith, kept_tail (continue_of (get_or ls j no_loop)) x ls, kept_continue ls j (omega arith))

kept_break : (ls : List Loop) (j : ℕ) → j < length ls → 1 ≤ kept_times (break_of (get_or ls j no_loop)) ls
kept_break [] j h = absurd (omega arith)
kept_break (loop o c b ∷ ls) zero h = omega (arith, one_same b)
kept_break (x ∷ ls) (suc j) h = omega (arith, kept_tail (break_of (get_or ls j no_loop)) x ls, kept_break ls j (omega arith))

continues_apart : (ls : List Loop) → ((l : ℕ) → kept_times l ls ≤ 1) → (i j : ℕ) → i < j → j < length ls → continue_of (get_or ls i no_loop) ≡ continue_of (get_or ls j no_loop) → ⊥
continues_apart [] k i j g h e = omega arith
continues_apart (loop o c b ∷ ls) k zero zero g h e = omega arith
continues_apart (loop o c b ∷ ls) k zero (suc j) g h e =
    omega (arith, k c, one_same c, subst (λ (l : ℕ). 1 ≤ kept_times l ls) (sym e) (kept_continue ls j (omega arith)))
continues_apart (x ∷ ls) k (suc i) zero g h e = omega arith
continues_apart (x ∷ ls) k (suc i) (suc j) g h e = continues_apart ls (λ l. omega (arith, k l, kept_tail l x ls)) i j (omega arith) (omega arith) e

breaks_apart : (ls : List Loop) → ((l : ℕ) → kept_times l ls ≤ 1) → (i j : ℕ) → i < j → j < length ls → break_of (get_or ls i no_loop) ≡ break_of (get_or ls j no_loop) → ⊥
breaks_apart [] k i j g h e = omega arith
breaks_apart (loop o c b ∷ ls) k zero zero g h e = omega arith
breaks_apart (loop o c b ∷ ls) k zero (suc j) g h e =
    omega (arith, k b, one_same b, subst (λ (l : ℕ). 1 ≤ kept_times l ls) (sym e) (kept_break ls j (omega arith)))
breaks_apart (x ∷ ls) k (suc i) zero g h e = omega arith
breaks_apart (x ∷ ls) k (suc i) (suc j) g h e = breaks_apart ls (λ l. omega (arith, k l, kept_tail l x ls)) i j (omega arith) (omega arith) e

mark_is : (m : Mark) (x : Op) → op_of m ≡ x → m ≡ mark (record_of m) x
mark_is (mark r y) x e = ap (mark r) e

-- a loop is around
truly : (q o : ℕ) (k : Forest) → (suc o ≡ 0) ⊎ Around q (suc o) 0 k → Around q (suc o) 0 k
truly q o k (inl e) = absurd (omega arith)
truly q o k (inr a) = a

module _ (cs : List Const) (k : Forest) (log : List Loop) (n : ℕ) (xs : List Mark) (right : Right k log n xs) where
  abbrev ws : List ℕ
  ws = words_of cs xs

  abbrev Inner : ℕ → ℕ → Type 0
  Inner q a = (a ≡ 0) ⊎ Around q a 0 k

  abbrev Log : ℕ → ℕ → ℕ → Type 0
  Log o c b = Opened o c b log

  pub break_loop : (i : ℕ) → i < length xs → code ws i ≡ 42 → (o c : ℕ) × Around (record_of (get_or xs i blank)) (suc o) 0 k × Opened o c (operand ws i) (reverse_aux log [])
  break_loop i h e =
      let q = is_break (op_of (get_or xs i blank)) (sym (code_at cs xs i h) ∙ e) in
      let z = subst (λ (m : Mark). Tie Inner Log m) (mark_is (get_or xs i blank) (Leave Break q.0) q.1) (ties_at Inner Log xs i right.ties h) in
      let v : operand ws i ≡ q.0 = operand_at cs xs i h ∙ ap (operand_word cs) q.1 in
      (z.0, z.1, truly _ z.0 k z.2, subst (λ (l : ℕ). Opened z.0 z.1 l (reverse_aux log [])) (sym v) (opened_back z.0 z.1 q.0 log z.3 []))

  pub continue_loop : (i : ℕ) → i < length xs → code ws i ≡ 43 → (o b : ℕ) × Around (record_of (get_or xs i blank)) (suc o) 0 k × Opened o (operand ws i) b (reverse_aux log [])
  continue_loop i h e =
      let q = is_continue (op_of (get_or xs i blank)) (sym (code_at cs xs i h) ∙ e) in
      let z = subst (λ (m : Mark). Tie Inner Log m) (mark_is (get_or xs i blank) (Leave Continue q.0) q.1) (ties_at Inner Log xs i right.ties h) in
      let v : operand ws i ≡ q.0 = operand_at cs xs i h ∙ ap (operand_word cs) q.1 in
      (z.0, z.1, truly _ z.0 k z.2, subst (λ (l : ℕ). Opened z.0 l z.1 (reverse_aux log [])) (sym v) (opened_back z.0 q.0 z.1 log z.3 []))

  kept_once : (l : ℕ) → kept_times l (reverse_aux log []) ≤ 1
  kept_once l = go (dec_le (suc l) n)
    where
      go : Dec (suc l ≤ n) → kept_times l (reverse_aux log []) ≤ 1
      go (yes h) = omega (arith, right.apart l, kept_back l log [], inside_at 0 n l (omega arith) (omega arith))
      go (no h) = omega (arith, right.apart l, kept_back l log [], inside_above 0 n l (omega arith))

  pub continues_right : (i j : ℕ) → i < j → j < length (reverse_aux log []) → continue_of (get_or (reverse_aux log []) i no_loop) ≡ continue_of (get_or (reverse_aux log []) j
      no_loop) → ⊥
  continues_right = continues_apart (reverse_aux log []) kept_once

  pub breaks_right : (i j : ℕ) → i < j → j < length (reverse_aux log []) → break_of (get_or (reverse_aux log []) i no_loop) ≡ break_of (get_or (reverse_aux log []) j no_loop) → ⊥
  breaks_right = breaks_apart (reverse_aux log []) kept_once
