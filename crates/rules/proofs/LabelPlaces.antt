-- A right stream's labels, targets and loops, by the places of its words. Assumes nothing.
use mathlib.Core.Path.{◌≡◌, refl, sym, ap, subst, ◌∙◌}
use mathlib.Core.List.{List, [], ◌∷◌, ◌++◌, reverse_aux, append-nil}
use Prim.Native.Nat.{ℕ, zero, suc, ◌+◌, ◌≤◌, ◌<◌}
use native.Mathlib.Omega.{arith}
use native.Mathlib.Decide.{ℕ_discrete, dec_le}
use lib.ListN.{length, get_or, take as front, drop, length-drop, length-take}
use lib.Seq.{get_or-drop, get_or-take}
use lib.Dec.{T}
use Rattle.tables.specs.Forest.{Forest}
use Rattle.opcode.specs.Kinds.{is_target}
use Rattle.pool.specs.Value.{Const}
use Rattle.rules.specs.Marker.{Forward, Jump, PopJumpIfFalse, JumpIfTrueOrPop, JumpIfFalseOrPop, JumpPopIfNull, RegisterHandler, Break, Continue, Op, Label, To}
use Rattle.rules.specs.Marker.{Back, Leave, Load, Do, Mark, mark}
use Rattle.rules.specs.Run.{Loop}
use Rattle.rules.specs.Out.{code_word, operand_word, forward_number}
use Rattle.rules.specs.Demand.{code, operand, Places, Stands, Labels, record_of}
use Rattle.rules.proofs.Count.{one_same, one_other, placed, placed_back, inside_at, inside_above}
use Rattle.rules.proofs.Targets.{Target, Targets}
use Rattle.rules.proofs.Right.{Right}
use Rattle.rules.proofs.OnWords.{op_of, blank, words_of, code_at, operand_at, is_label, Targeting, forward, backward, leaving, is_targeting}

-- marker j of xs places label l
pub record PlacesMark (l : ℕ) (xs : List Mark) (j : ℕ) : Type 0 where
  pub within : j < length xs
  pub here : op_of (get_or xs j blank) ≡ Label l

shift : (l : ℕ) (x : Mark) (xs : List Mark) → (j : ℕ) × PlacesMark l xs j → (j : ℕ) × PlacesMark l (x ∷ xs) j
shift l x xs (j, p) = (suc j, record { within = omega (arith, p.within); here = p.here })

placed_some : (l : ℕ) (xs : List Mark) → 1 ≤ placed l xs → (j : ℕ) × PlacesMark l xs j
placed_some l [] h = absurd (omega arith)
placed_some l (mark r (Label k) ∷ xs) h = go (ℕ_discrete k l) (λ h. placed_some l xs h)
  where
    go : Dec (k ≡ l) → (1 ≤ placed l xs → (j : ℕ) × PlacesMark l xs j) → (j : ℕ) × PlacesMark l (mark r (Label k) ∷ xs) j
    go (yes e) ih = (0, record { within = omega arith; here = ap Label e })
    go (no d) ih = shift l (mark r (Label k)) xs (ih (omega (arith, one_other k l d)))
placed_some l (mark r (To h' k) ∷ xs) h = shift l _ xs (placed_some l xs h)
placed_some l (mark r (Back k) ∷ xs) h = shift l _ xs (placed_some l xs h)
placed_some l (mark r (Leave x k) ∷ xs) h = shift l _ xs (placed_some l xs h)
placed_some l (mark r (Load c v) ∷ xs) h = shift l _ xs (placed_some l xs h)
placed_some l (mark r (Do c n) ∷ xs) h = shift l _ xs (placed_some l xs h)

here_counts : (l : ℕ) (x : Mark) (xs : List Mark) → op_of x ≡ Label l → 1 + placed l xs ≤ placed l (x ∷ xs)
here_counts l (mark r x) xs e = subst (λ (y : Op). 1 + placed l xs ≤ placed l (mark r y ∷ xs)) (sym e) (omega (arith, one_same l))

tail_counts : (l : ℕ) (x : Mark) (xs : List Mark) → placed l xs ≤ placed l (x ∷ xs)
tail_counts l (mark r (Label k)) xs = omega arith
tail_counts l (mark r (To h k)) xs = omega arith
tail_counts l (mark r (Back k)) xs = omega arith
tail_counts l (mark r (Leave x k)) xs = omega arith
tail_counts l (mark r (Load c v)) xs = omega arith
tail_counts l (mark r (Do c n)) xs = omega arith

some_placed : (l : ℕ) (xs : List Mark) (j : ℕ) → PlacesMark l xs j → 1 ≤ placed l xs
some_placed l [] j p = absurd (omega (arith, p.within))
some_placed l (x ∷ xs) zero p = omega (arith, here_counts l x xs p.here)
some_placed l (x ∷ xs) (suc j) p = omega (arith, tail_counts l x xs, some_placed l xs j (record { within = omega (arith, p.within); here = p.here }))

placed_same : (l : ℕ) (xs : List Mark) (i j : ℕ) → placed l xs ≤ 1 → PlacesMark l xs i → PlacesMark l xs j → i ≡ j
placed_same l [] i j u p q = absurd (omega (arith, p.within))
placed_same l (x ∷ xs) zero zero u p q = refl
placed_same l (x ∷ xs) zero (suc j) u p q =
    absurd (omega (arith, here_counts l x xs p.here, some_placed l xs j (record { within = omega (arith, q.within); here = q.here })))
placed_same l (x ∷ xs) (suc i) zero u p q =
    absurd (omega (arith, here_counts l x xs q.here, some_placed l xs i (record { within = omega (arith, p.within); here = p.here })))
placed_same l (x ∷ xs) (suc i) (suc j) u p q =
    ap suc
    (placed_same l xs i j (omega (arith, tail_counts l x xs)) (record { within = omega (arith, p.within); here = p.here })
    (record { within = omega (arith, q.within); here = q.here }))

-- what holds of marker i's target
targets_at : (u xs v : List Mark) (i : ℕ) → Targets u xs v → i < length xs → Target (reverse_aux (front i xs) u) (get_or xs i blank) (drop (suc i) xs ++ v)
targets_at u [] v i a h = absurd (omega arith)
targets_at u (m ∷ xs) v zero (a, p) h = a
targets_at u (m ∷ xs) v (suc i) (a, p) h = targets_at (m ∷ u) xs v i p (omega arith)

-- a count behind marker i, or before it, read as a place
behind : (xs : List Mark) (i l : ℕ) → 1 ≤ placed l (drop (suc i) xs) → (j : ℕ) × (i < j) × PlacesMark l xs j
behind xs i l p = go (placed_some l (drop (suc i) xs) p)
  where
    go : (j : ℕ) × PlacesMark l (drop (suc i) xs) j → (j : ℕ) × (i < j) × PlacesMark l xs j
    go (j, q) = (
      suc i + j,
      omega arith,
      record { within = omega (arith, q.within, length-drop (suc i) xs); here = ap op_of (sym (get_or-drop (suc i) xs j blank)) ∙ q.here },
    )

before : (xs : List Mark) (i l : ℕ) → i < length xs → 1 ≤ placed l (front i xs) → (j : ℕ) × (j < i) × PlacesMark l xs j
before xs i l u p = go (placed_some l (front i xs) p)
  where
    go : (j : ℕ) × PlacesMark l (front i xs) j → (j : ℕ) × (j < i) × PlacesMark l xs j
    go (j, q) =
        let v : j < i = omega (arith, q.within, length-take i xs) in
        (j, v, record { within = omega arith; here = ap op_of (sym (get_or-take i xs j blank v)) ∙ q.here })

forward_later : (h : Forward) → (forward_number h ≡ 41 → ⊥) × (forward_number h ≡ 43 → ⊥)
forward_later Jump = ((λ e. omega arith), (λ e. omega arith))
forward_later PopJumpIfFalse = ((λ e. omega arith), (λ e. omega arith))
forward_later JumpIfTrueOrPop = ((λ e. omega arith), (λ e. omega arith))
forward_later JumpIfFalseOrPop = ((λ e. omega arith), (λ e. omega arith))
forward_later JumpPopIfNull = ((λ e. omega arith), (λ e. omega arith))
forward_later RegisterHandler = ((λ e. omega arith), (λ e. omega arith))

module _ (cs : List Const) (xs : List Mark) where
  abbrev ws : List ℕ
  ws = words_of cs xs

  to_words : (l j : ℕ) → PlacesMark l xs j → Places ws (length xs) l j
  to_words l j p =
      record {
        inside = p.within;
        is_label = code_at cs xs j p.within ∙ ap code_word p.here;
        number = operand_at cs xs j p.within ∙ ap (operand_word cs) p.here;
      }

  from_words : (l j : ℕ) → Places ws (length xs) l j → PlacesMark l xs j
  from_words l j p =
      let q = is_label (op_of (get_or xs j blank)) (sym (code_at cs xs j p.inside) ∙ p.is_label) in
      let e : q.0 ≡ l = sym (ap (operand_word cs) q.1) ∙ sym (operand_at cs xs j p.inside) ∙ p.number in
      record { within = p.inside; here = q.1 ∙ ap Label e }

  module _ (k : Forest) (log : List Loop) (n : ℕ) (right : Right k log n xs) where
    once_at_most : (l : ℕ) → placed l xs ≤ 1
    once_at_most l = go (dec_le (suc l) n)
      where
        go : Dec (suc l ≤ n) → placed l xs ≤ 1
        go (yes h) = omega (arith, right.once l, inside_at 0 n l (omega arith) (omega arith))
        go (no h) = omega (arith, right.once l, inside_above 0 n l (omega arith))

    target_place : (i : ℕ) → i < length xs → (x : Op) → op_of (get_or xs i blank) ≡ x → Targeting x
        → (j : ℕ) × PlacesMark (operand_word cs x) xs j × Stands (code_word x) i j
    target_place i h x e d = at x (record_of (get_or xs i blank)) (same (get_or xs i blank) x e) d
      where
        same : (m : Mark) (x : Op) → op_of m ≡ x → m ≡ mark (record_of m) x
        same (mark r y) x e = ap (mark r) e

        at : (x : Op) (r : ℕ) → get_or xs i blank ≡ mark r x → Targeting x → (j : ℕ) × PlacesMark (operand_word cs x) xs j × Stands (code_word x) i j
        at x r e (forward f l) =
            let p : 1 ≤ placed l (drop (suc i) xs) =
            subst (λ (z : List Mark). 1 ≤ placed l z) (append-nil (drop (suc i) xs))
            (subst (λ (m : Mark). Target (reverse_aux (front i xs) []) m (drop (suc i) xs ++ [])) e (targets_at [] xs [] i right.targets h)) in
            let q = behind xs i l p in
            (q.0, q.2, record { back = λ z. absurd ((forward_later f).0 z); later = λ a b. q.1 })
        at x r e (backward l) =
            let p : 1 ≤ placed l (reverse_aux (front i xs) []) =
            subst (λ (m : Mark). Target (reverse_aux (front i xs) []) m (drop (suc i) xs ++ [])) e (targets_at [] xs [] i right.targets h) in
            let q = before xs i l h (omega (arith, placed_back l (front i xs) [])) in
            (q.0, q.2, record { back = λ z. q.1; later = λ a b. absurd (a refl) })
        at x r e (leaving Break l) =
            let p : 1 ≤ placed l (drop (suc i) xs) =
            subst (λ (z : List Mark). 1 ≤ placed l z) (append-nil (drop (suc i) xs))
            (subst (λ (m : Mark). Target (reverse_aux (front i xs) []) m (drop (suc i) xs ++ [])) e (targets_at [] xs [] i right.targets h)) in
            let q = behind xs i l p in
            (q.0, q.2, record { back = λ z. absurd (omega arith); later = λ a b. q.1 })
        at x r e (leaving Continue l) =
            let p : 1 ≤ placed l (reverse_aux (front i xs) []) + placed l (drop (suc i) xs ++ []) =
            subst (λ (m : Mark). Target (reverse_aux (front i xs) []) m (drop (suc i) xs ++ [])) e (targets_at [] xs [] i right.targets h) in
            let g : 1 ≤ placed l (reverse_aux (front i xs) []) + placed l (drop (suc i) xs) =
            subst (λ (z : List Mark). 1 ≤ placed l (reverse_aux (front i xs) []) + placed l z) (append-nil (drop (suc i) xs)) p in
            either l g (dec_le 1 (placed l (front i xs)))
          where
            either : (l : ℕ) → 1 ≤ placed l (reverse_aux (front i xs) []) + placed l (drop (suc i) xs) → Dec (1 ≤ placed l (front i xs))
                → (j : ℕ) × PlacesMark l xs j × Stands 43 i j
            either l g (yes u) = let q = before xs i l h u in (q.0, q.2, record { back = λ z. absurd (omega arith); later = λ a b. absurd (b refl) })
            either l g (no u) =
                let q = behind xs i l (omega (arith, placed_back l (front i xs) [])) in
                (q.0, q.2, record { back = λ z. absurd (omega arith); later = λ a b. absurd (b refl) })

    pub labels_right : Labels ws (length xs) n
    labels_right =
        record {
          placed = λ l h. let q = placed_some l xs (omega (arith, right.once l, inside_at 0 n l (omega arith) (omega arith))) in (q.0, to_words l q.0 q.1);
          once = λ l i j p q. placed_same l xs i j (once_at_most l) (from_words l i p) (from_words l j q);
          only = λ l j p. below l j (from_words l j p);
          targets = targets;
        }
      where
        below : (l j : ℕ) → PlacesMark l xs j → l < n
        below l j p = go (dec_le (suc l) n)
          where
            go : Dec (suc l ≤ n) → l < n
            go (yes h) = h
            go (no h) = absurd (omega (arith, right.once l, inside_above 0 n l (omega arith), some_placed l xs j p))

        targets : (i : ℕ) → i < length xs → T (is_target (code ws i)) → (j : ℕ) × Places ws (length xs) (operand ws i) j × Stands (code ws i) i j
        targets i h t =
            let x = op_of (get_or xs i blank) in
            let q = target_place i h x refl (is_targeting x (subst (λ (c : ℕ). T (is_target c)) (code_at cs xs i h) t)) in (
              q.0,
              subst (λ (l : ℕ). Places ws (length xs) l q.0) (sym (operand_at cs xs i h)) (to_words _ q.0 q.1),
              subst (λ (c : ℕ). Stands c i q.0) (sym (code_at cs xs i h)) q.2,
            )
