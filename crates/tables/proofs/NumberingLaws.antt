-- What an accepted table 5 says of the functions: numbers, parents, and that a parent comes before. Assumes nothing.
use mathlib.Core.Path.{◌≡◌, refl, sym, ap, subst, ◌∙◌}
use mathlib.Core.Bool.{Bool, true, false, cond, not, ◌&&◌, ◌||◌}
use mathlib.Core.List.{List, [], ◌∷◌, ◌++◌}
use Prim.Native.Nat.{ℕ, zero, suc, ◌+◌, ◌*◌, ◌/◌, ◌≤◌, ◌<◌}
use native.Mathlib.Omega.{arith}
use native.Mathlib.Decide.{ℕ_discrete}
use lib.ListN.{length, get_or}
use lib.Dec.{eqb}
use borrow.Author.Tests.{eq-eqb, ne_eqb, eqb-true}
use Rattle.tables.specs.declared.numbering.Manner.{Manner}
use Rattle.tables.specs.declared.numbering.Manner.TheVariants.{Stored, RightFirst, RightThenBack}
use Rattle.std.specs.Prelude.{None}
use Rattle.tables.specs.Record.{word, words, size, absent, is_function}
use Rattle.tables.specs.Forest.{Forest, none, tree, children, root, first}
use Rattle.tables.specs.Naming.{one, Joined}
use Rattle.tables.specs.Numbering.{is_left, manner, Order, stored, rights, lefts, back, Visit, in_order, inside, visited}
use Rattle.tables.specs.Numbering.{functions, place_of, number, enclosing, number_of, parent, uneven, misnumbered, numbering}
use Rattle.tables.proofs.ForestLaws.{Genuine, genuine}
use Rattle.tables.proofs.PlaceLaws.{holds}
use Rattle.tables.proofs.NamingLaws.{one_same, one_other, one_hit}
use Rattle.tables.proofs.TreeLaws.{over, occurs, Under, root_under, tree_once}
use Rattle.tables.proofs.VisitLaws.{weigh, weigh_visited, part, part_occurs}

abbrev nobody : Visit
nobody = record { met = 0; around = 0 }

-- a function that is met has a place, and is met there
place_below : (x : ℕ) (vs : List Visit) → 1 ≤ weigh (λ y. one x y) vs → (place_of x vs < length vs) × ((get_or vs (place_of x vs) nobody).met ≡ x)
unfolding weigh
place_below x [] h = absurd (omega arith)
place_below x (v ∷ vs) h = go (ℕ_discrete x v.met) (λ p. place_below x vs p)
  where
    go : Dec (x ≡ v.met) → (1 ≤ weigh (λ y. one x y) vs → (place_of x vs < length vs) × ((get_or vs (place_of x vs) nobody).met ≡ x))
        → (cond (eqb x v.met) 0 (suc (place_of x vs)) < suc (length vs)) × ((get_or (v ∷ vs) (cond (eqb x v.met) 0 (suc (place_of x vs))) nobody).met ≡ x)
    go (yes e) ih = rw (eq-eqb x v.met e) (omega arith, sym e)
    go (no d) ih = let p = ih (omega (arith, one_other x v.met d)) in rw (ne_eqb x v.met d) (omega (arith, p.0), p.1)

-- a Function is visited as often as it stands in the forest
part_all : (recs : List ℕ) (x : ℕ) → is_function (words recs x) ≡ true → (f : Forest) → Genuine recs f → part (λ y. one x y) f ≡ occurs x f
unfolding part over
part_all recs x fn none g = refl
part_all recs x fn (tree r w k s) (e, q, a, b) = go (ℕ_discrete x r) (part_all recs x fn k a) (part_all recs x fn s b)
  where
    go : Dec (x ≡ r) → part (λ y. one x y) k ≡ occurs x k → part (λ y. one x y) s ≡ occurs x s
        → cond (is_function w) (one x r) 0 + part (λ y. one x y) k + part (λ y. one x y) s ≡ one x r + (occurs x k + occurs x s)
    go (yes z) u v = rw (ap is_function e ∙ subst (λ y. is_function (words recs y) ≡ true) z fn) (omega arith)
    go (no d) u v = either (is_function w)
      where
        either : (b : Bool) → cond b (one x r) 0 + part (λ y. one x y) k + part (λ y. one x y) s ≡ one x r + (occurs x k + occurs x s)
        either true = omega arith
        either false = omega (arith, one_other x r d)

-- every function of a list is inside one that was met before, where s tells how often each was met
abbrev Called : (ℕ → ℕ) → List Visit → Type 0
Called s [] = Unit {0}
Called s (v ∷ vs) = ((q : ℕ) × ((v.around ≡ suc q) × (1 ≤ s q))) × Called (λ x. s x + one x v.met) vs

called_more : (s u : ℕ → ℕ) → ((x : ℕ) → s x ≤ u x) → (vs : List Visit) → Called s vs → Called u vs
called_more s u h [] c = tt
called_more s u h (v ∷ vs) ((q, (e, p)), c) =
    ((q, (e, omega (arith, h q))), called_more (λ x. s x + one x v.met) (λ x. u x + one x v.met) (λ x. omega (arith, h x)) vs c)

called_append : (xs ys : List Visit) (s : ℕ → ℕ) → Called s xs → Called s ys → Called s (xs ++ ys)
called_append [] ys s a b = b
called_append (v ∷ xs) ys s (p, a) b =
    (p, called_append xs ys (λ x. s x + one x v.met) a (called_more s (λ x. s x + one x v.met) (λ x. omega arith) ys b))

called_order : (o : Order) (b : Bool) (xs ys : List Visit) (s : ℕ → ℕ) → Called s xs → Called s ys → Called s (in_order o b xs ys)
called_order stored b xs ys s p q = called_append xs ys s p q
called_order rights true xs ys s p q = q
called_order rights false xs ys s p q = called_append xs ys s p q
called_order lefts true xs ys s p q = called_append xs ys s p q
called_order lefts false xs ys s p q = q
called_order back true xs ys s p q = called_append ys xs s q p
called_order back false xs ys s p q = q

called_inside : (m : Manner) (v : Order → List Visit) (s : ℕ → ℕ) → ((o : Order) → Called s (v o)) → Called s (inside m v)
called_inside Stored v s h = h stored
called_inside RightFirst v s h = called_append (v rights) (v lefts) s (h rights) (h lefts)
called_inside RightThenBack v s h = called_append (v rights) (v back) s (h rights) (h back)

called : (f : Forest) (o : Order) (q : ℕ) (s : ℕ → ℕ) → 1 ≤ s q → Called s (visited o (suc q) f)
unfolding visited
called none o q s h = tt
called (tree r w k n) o q s h = called_order o (is_left w) _ _ s (go (is_function w) (λ i q s h. called k i q s h)) (called n o q s h)
  where
    go : (b : Bool) → ((i : Order) (q : ℕ) (s : ℕ → ℕ) → 1 ≤ s q → Called s (visited i (suc q) k))
        → Called s
        (cond b (record { met = r; around = suc q } ∷ inside (manner w.kind) (λ i. visited i (cond b (suc r) (suc q)) k)) (inside (manner w.kind)
        (λ i. visited i (cond b (suc r) (suc q)) k)))
    go true ih = ((q, (refl, h)), called_inside (manner w.kind) _ _ (λ i. ih i r (λ x. s x + one x r) (omega (arith, one_same r))))
    go false ih = called_inside (manner w.kind) _ s (λ i. ih i q s h)

-- the entry at place i is inside one with an earlier place
called_at : (vs : List Visit) (s : ℕ → ℕ) → Called s vs → (i : ℕ) → i < length vs
    → (q : ℕ) × (((get_or vs i nobody).around ≡ suc q) × ((s q ≡ 0) → (place_of q vs < i) × (1 ≤ weigh (λ y. one q y) vs)))
unfolding weigh
called_at [] s c i h = absurd (omega arith)
called_at (v ∷ vs) s ((q, (e, p)), c) zero h = (q, (e, λ z. absurd (omega arith)))
called_at (v ∷ vs) s (p, c) (suc i) h = go (called_at vs (λ x. s x + one x v.met) c i (omega arith))
  where
    go : ((q : ℕ) × (((get_or vs i nobody).around ≡ suc q) × ((s q + one q v.met ≡ 0) → (place_of q vs < i) × (1 ≤ weigh (λ y. one q y) vs))))
        → (q : ℕ) × (((get_or vs i nobody).around ≡ suc q) × ((s q ≡ 0) → (place_of q (v ∷ vs) < suc i) × (1 ≤ one q v.met + weigh (λ y. one q y) vs)))
    go (q, (e, f)) = (q, (e, λ z. here z (ℕ_discrete q v.met)))
      where
        here : s q ≡ 0 → Dec (q ≡ v.met) → (cond (eqb q v.met) 0 (suc (place_of q vs)) < suc i) × (1 ≤ one q v.met + weigh (λ y. one q y) vs)
        here z (yes d) = rw (eq-eqb q v.met d) (omega arith, omega (arith, subst (λ y. one q y ≡ 1) d (one_same q)))
        here z (no d) = let p = f (omega (arith, one_other q v.met d)) in rw (ne_eqb q v.met d) (omega (arith, p.0), omega (arith, p.1))

-- a number that is visited is a Function of the table
part_function : (recs : List ℕ) (x : ℕ) (f : Forest) → Genuine recs f → 1 ≤ part (λ y. one x y) f → is_function (words recs x) ≡ true
unfolding part
part_function recs x none g h = absurd (omega arith)
part_function recs x (tree r w k s) (e, q, a, b) h = go (is_function w) refl h (λ p. part_function recs x k a p) (λ p. part_function recs x s b p)
  where
    go : (c : Bool) → is_function w ≡ c → 1 ≤ cond c (one x r) 0 + part (λ y. one x y) k + part (λ y. one x y) s → (1 ≤ part (λ y. one x y) k → is_function
        (words recs x) ≡ true)
        → (1 ≤ part (λ y. one x y) s → is_function (words recs x) ≡ true) → is_function (words recs x) ≡ true
    go c p h u v = in_k (ℕ_discrete (part (λ y. one x y) k) 0) (ℕ_discrete (part (λ y. one x y) s) 0)
      where
        own_one : (c : Bool) → is_function w ≡ c → 1 ≤ cond c (one x r) 0 → is_function (words recs x) ≡ true
        own_one true p h = subst (λ y. is_function (words recs y) ≡ true) (sym (one_hit x r h)) (sym (ap is_function e) ∙ p)
        own_one false p h = absurd (omega arith)

        in_k : Dec (part (λ y. one x y) k ≡ 0) → Dec (part (λ y. one x y) s ≡ 0) → is_function (words recs x) ≡ true
        in_k (no z) d = u (omega arith)
        in_k (yes z) (no y) = v (omega arith)
        in_k (yes z) (yes y) = own_one c p (omega arith)

occurs_under : (n x : ℕ) (f : Forest) → Under n f → 1 ≤ occurs x f → x < n
unfolding over
occurs_under n x none u h = absurd (omega arith)
occurs_under n x (tree r w k s) (u, v, t) h = go (ℕ_discrete x r) (ℕ_discrete (occurs x k) 0) (λ p. occurs_under n x k v p) (λ p. occurs_under n x s t p)
  where
    go : Dec (x ≡ r) → Dec (occurs x k ≡ 0) → (1 ≤ occurs x k → x < n) → (1 ≤ occurs x s → x < n) → x < n
    go (yes e) d a b = omega arith
    go (no e) (yes z) a b = b (omega (arith, one_other x r e))
    go (no e) (no z) a b = a (omega arith)

module _ (recs : List ℕ) (j : Joined recs) where
  abbrev F : List Visit
  F = functions recs

  root_genuine : Genuine recs (root recs)
  root_genuine = (refl, refl, genuine recs (first recs 0), tt)

  module _ (r : ℕ) (inside-table : r < size recs) (fn : is_function (words recs r) ≡ true) where
    met_once : weigh (λ y. one r y) F ≡ 1
    met_once = weigh_visited (λ y. one r y) (root recs) 0 ∙ part_all recs r fn (root recs) root_genuine ∙ tree_once recs j r inside-table

    -- a function's number is below the number of functions, and it is met at that place
    pub number_below : number recs r < length F
    number_below = (place_below r F (omega (arith, met_once))).0

    pub number_met : (get_or F (number recs r) nobody).met ≡ r
    number_met = (place_below r F (omega (arith, met_once))).1

  -- functions at different records have different numbers
  pub numbers_differ : (r q : ℕ) → r < size recs → is_function (words recs r) ≡ true → q < size recs → is_function (words recs q) ≡ true → number recs r ≡ number recs q → r ≡ q
  numbers_differ r q h f k g e = sym (number_met r h f) ∙ ap (λ (n : ℕ). (get_or F n nobody).met) e ∙ number_met q k g

  met_function : (q : ℕ) → 1 ≤ weigh (λ y. one q y) F → (q < size recs) × (is_function (words recs q) ≡ true)
  met_function q h =
      let p = weigh_visited (λ y. one q y) (root recs) 0 in (
        occurs_under (size recs) q (root recs) (root_under recs j.some) (omega (arith, part_occurs q (root recs))),
        part_function recs q (root recs) root_genuine
            (omega arith),
      )

  -- the function around that of record r
  pub record Enclosed (r : ℕ) : Type 0 where
    pub outer : ℕ
    pub enclosed : enclosing recs r ≡ suc outer
    pub outer_inside : outer < size recs
    pub outer_function : is_function (words recs outer) ≡ true
    pub outer_parent : parent recs r ≡ number recs outer
    pub outer_before : number recs outer < number recs r

  module _ (fn : is_function (words recs 0) ≡ true) where
    abbrev others : List Visit
    others = inside (manner (word recs 0 0)) (λ i. visited i 1 (children recs 0)) ++ []

    F-split : F ≡ nobody ∷ others
    unfolding visited
    F-split = ap (λ b. cond b (nobody ∷ inside (manner (word recs 0 0)) (λ i. visited i (cond b 1 0) (children recs 0))) (inside (manner (word recs 0 0))
        (λ i. visited i (cond b 1 0) (children recs 0))) ++ []) fn

    others_called : Called (λ x. one x 0) others
    others_called =
        called_append (inside (manner (word recs 0 0)) (λ i. visited i 1 (children recs 0))) [] (λ x. one x 0)
        (called_inside (manner (word recs 0 0)) (λ i. visited i 1 (children recs 0)) (λ x. one x 0) (λ i. called (children recs 0) i 0 (λ x. one x 0) (omega
        (arith, one_same 0)))) tt

    met_later : (x : ℕ) → weigh (λ y. one x y) F ≡ one x 0 + weigh (λ y. one x y) others
    unfolding weigh
    met_later x = ap (weigh (λ y. one x y)) F-split

    -- record 0 is function 0 and has no parent
    pub root_number : number recs 0 ≡ 0
    root_number = ap (place_of 0) F-split

    pub root_parent : parent recs 0 ≡ absent
    root_parent = ap (number_of recs) (ap (λ (n : ℕ). (get_or F n nobody).around) root_number ∙ ap (λ (l : List Visit). (get_or l 0 nobody).around) F-split)

    -- every other function is inside one with a smaller number
    pub enclosed_by : (r : ℕ) → 1 ≤ r → r < size recs → is_function (words recs r) ≡ true → Enclosed r
    enclosed_by r h p f = go (called_at others (λ x. one x 0) others_called (place_of r others) (omega (arith, number_below r p f, number_later, ap length F-split)))
      where
        number_later : number recs r ≡ suc (place_of r others)
        number_later = ap (place_of r) F-split ∙ rw (ne_eqb r 0 (λ e. omega arith)) refl

        around_later : enclosing recs r ≡ (get_or others (place_of r others) nobody).around
        around_later = ap (λ (n : ℕ). (get_or F n nobody).around) number_later ∙ ap (λ (l : List Visit). (get_or l (suc (place_of r others)) nobody).around) F-split

        go : ((q : ℕ) × (((get_or others (place_of r others) nobody).around ≡ suc q) × ((one q 0 ≡ 0) → (place_of q others < place_of r others) × (1 ≤ weigh
            (λ y. one q y) others)))) → Enclosed r
        go (q, (e, g)) = by_case (ℕ_discrete q 0)
          where
            made : (q < size recs) × (is_function (words recs q) ≡ true) → number recs q < number recs r → Enclosed r
            made (a, b) c =
                record {
                  outer = q;
                  enclosed = around_later ∙ e;
                  outer_inside = a;
                  outer_function = b;
                  outer_parent = ap (number_of recs) (around_later ∙ e);
                  outer_before = c;
                }

            by_case : Dec (q ≡ 0) → Enclosed r
            by_case (yes z) = made (rw z (j.some, fn)) (rw z (omega (arith, root_number, number_later)))
            by_case (no d) =
                let k = g (one_other q 0 d) in
                made (met_function q (omega (arith, k.1, met_later q)))
                (omega (arith, k.0, number_later, ap (place_of q) F-split ∙ skip q d))
              where
                skip : (x : ℕ) → (x ≡ 0 → ⊥) → place_of x (nobody ∷ others) ≡ suc (place_of x others)
                skip x n = rw (ne_eqb x 0 n) refl

clash : true ≡ false → ⊥
clash e = let z : ◌≡◌ {A = ℕ} 0 1 = cc in omega arith

-- a table that row 9 accepts
module _ (recs funs : List ℕ) (j : Joined recs) (ok : numbering recs funs ≡ None) where
  pub table_length : length funs / 2 ≡ length (functions recs)
  table_length = eqb-true _ _ (both (eqb (length funs / 2) (length (functions recs))) (misnumbered recs funs 0) (holds (λ r.
      (eqb r 0 && uneven recs funs) || misnumbered recs funs r) (size recs) ok 0 j.some))
    where
      both : (a b : Bool) → not a || b ≡ false → a ≡ true
      both true b e = refl
      both false b e = sym e

  module _ (r : ℕ) (inside-table : r < size recs) (fn : is_function (words recs r) ≡ true) where
    right : (eqb (word recs r 2) (number recs r) ≡ true) × (eqb (get_or funs (number recs r * 2) 0) (parent recs r) ≡ true)
    right =
        go (eqb r 0 && uneven recs funs) (is_function (words recs r)) (eqb (word recs r 2) (number recs r)) (eqb (get_or funs (number recs r * 2) 0) (parent recs r)) fn
        (holds (λ x. (eqb x 0 && uneven recs funs) || misnumbered recs funs x) (size recs) ok r inside-table)
      where
        go : (a b c d : Bool) → b ≡ true → a || (b && not (c && d)) ≡ false → (c ≡ true) × (d ≡ true)
        go a true true true f e = (refl, refl)
        go true true true false f e = absurd (clash e)
        go true true false d f e = absurd (clash e)
        go false true true false f e = absurd (clash e)
        go false true false d f e = absurd (clash e)
        go a false c d f e = absurd (clash (sym f))

    -- its p is its number, and table 5 has its parent
    pub own_number : word recs r 2 ≡ number recs r
    own_number = eqb-true _ _ right.0

    pub own_parent : get_or funs (number recs r * 2) 0 ≡ parent recs r
    own_parent = eqb-true _ _ right.1

    pub in_table : number recs r < length funs / 2
    in_table = omega (arith, number_below recs j r inside-table fn, table_length)
