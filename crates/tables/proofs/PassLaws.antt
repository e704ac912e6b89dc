-- Row 9: the numbers and parents that the passes find are those of the tree in visiting order. Assumes nothing.
use mathlib.Core.Path.{◌≡◌, refl, sym, ap, subst, ◌∙◌}
use mathlib.Core.Bool.{Bool, true, false, cond, not, ◌&&◌, ◌||◌}
use mathlib.Core.List.{List, [], ◌∷◌, ◌++◌}
use Prim.Native.Nat.{ℕ, zero, suc, ◌+◌, ◌*◌, ◌/◌, ◌≤◌, ◌<◌, min}
use native.Mathlib.Omega.{arith}
use native.Mathlib.Decide.{ℕ_discrete}
use lib.ListN.{length, get_or}
use lib.Seq.{get_or-append_seam}
use lib.Dec.{eqb}
use borrow.Author.Tests.{eq-eqb, ne_eqb}
use Rattle.std.specs.Prelude.{Option, Some}
use Rattle.tables.specs.Place.{broken}
use Rattle.tables.specs.Record.{word, words, size, is_function}
use Rattle.tables.specs.Forest.{Forest, none, tree, first, next, forest, children, root}
use Rattle.tables.specs.Naming.{one, Joined}
use Rattle.tables.specs.Numbering.{is_left, manner, Visit, inside, within, visited, functions, place_of, number, enclosing, number_of, parent, uneven, misnumbered, numbering}
use Rattle.tables.specs.Counting.{plus, own, tally, tally_left, shift, offset, start_of, caller_word, wrong, found, Tallied, Passed}
use Rattle.tables.proofs.ForestLaws.{first_onward, next_onward, forest_record, grown}
use Rattle.tables.proofs.PlaceLaws.{rest_start, rest_at, alike_from}
use Rattle.tables.proofs.NamingLaws.{one_same, one_other}
use Rattle.tables.proofs.TreeLaws.{over, occurs, head, head_forest, tree_once, tree_count}
use Rattle.tables.proofs.HandLaws.{first_inside, next_inside}
use Rattle.tables.proofs.CountLaws.{tallied_link, tally_none, left_none}
use Rattle.tables.proofs.VisitLaws.{node, node_length, lengths, weigh, weigh_append, weigh_visited, part_occurs, tally_count, Spot, spot_at, spot_right, spot_fit}
use Rattle.tables.proofs.LaneLaws.{Spots, Less, less_next, less_start, lane_start, lane_next, lane_node}

-- a function that no earlier entry is has its place after them
place_skip : (x : ℕ) (pre : List Visit) (v : Visit) (vs : List Visit) → weigh (λ y. one x y) pre ≡ 0 → x ≡ v.met → place_of x (pre ++ (v ∷ vs)) ≡ length pre
unfolding weigh
place_skip x [] v vs z e = rw (eq-eqb x v.met e) refl
place_skip x (u ∷ pre) v vs z e = go (ℕ_discrete x u.met) (place_skip x pre v vs (omega arith) e)
  where
    go : Dec (x ≡ u.met) → place_of x (pre ++ (v ∷ vs)) ≡ length pre → cond (eqb x u.met) 0 (suc (place_of x (pre ++ (v ∷ vs)))) ≡ suc (length pre)
    go (yes q) ih = absurd (omega (arith, subst (λ y. one x y ≡ 1) q (one_same x)))
    go (no d) ih = rw (ne_eqb x u.met d) (ap suc ih)

-- as many functions as the counts say
total : (recs all : List ℕ) → Joined recs → size recs ≤ 4096 → Tallied tally recs all → length (functions recs) ≡ plus (own (words recs 0)) (get_or all (first recs 0) 0)
unfolding tally
total recs all j few counts =
    omega (
      arith,
      (lengths (root recs) 0).whole,
      tally_count (root recs),
      tree_count recs j,
      tallied_link tally recs tally_none all 0 _ j.some counts
          (first_onward recs 0),
    )

module _ (recs all left up base by : List ℕ) (j : Joined recs) (few : size recs ≤ 4096) (P : Passed recs all left up base by) where
  abbrev F : List Visit
  F = functions recs

  abbrev at : ℕ → ℕ
  at x = start_of recs all left up base x

  F-few : length F ≤ 4096
  F-few = omega (arith, (lengths (root recs) 0).whole, tally_count (root recs), tree_count recs j)

  -- the function around a record as the pass keeps it
  abbrev code : ℕ → ℕ
  code zero = 0
  code (suc q) = suc (at q)

  abbrev Valid : ℕ → Type 0
  Valid zero = Unit {0}
  Valid (suc q) = (q < size recs) × (is_function (words recs q) ≡ true)

  -- a record's functions lie where its numbers begin, inside function e
  record Here (r : ℕ) : Type 0 where
    pub e : ℕ
    pub spot : Spot F (at r) (node e r (words recs r) (children recs r))
    pub inner : get_or by r 0 ≡ code e
    pub valid : Valid e

  abbrev All : Forest → Type 0
  All none = Unit {0}
  All (tree r w k s) = Here r × All k × All s

  -- siblings from g on, children of record p, whose numbers begin at b inside function e
  record Family (p b e : ℕ) (g : Forest) : Type 0 where
    pub known : 0 < head g → (head g < size recs) × (get_or up (head g) 0 ≡ p) × (get_or base (head g) 0 ≡ b) × (get_or by (head g) 0 ≡ code e)
    pub outer : p < size recs
    pub fits : b + tally (children recs p) ≤ 4096
    pub less : Less F b (tally (children recs p)) (tally_left (children recs p)) g
    pub spots : Spots F b (tally (children recs p)) (tally_left (children recs p)) (manner (word recs p 0)) e g
    pub valid : Valid e

  -- a record's offset, from the counts of its parent's children and of its later siblings
  offset_family : (r p t l t' l' l'' : ℕ) → get_or up (suc r) 0 ≡ p → get_or all (first recs p) 0 ≡ t → get_or left (first recs p) 0 ≡ l → get_or all (suc r) 0 ≡ t'
      → get_or left (suc r) 0 ≡ l'
      → get_or left (next recs (suc r)) 0 ≡ l'' → offset recs all left up (suc r) ≡ shift (manner (word recs p 0)) (is_left (words recs (suc r))) t l t' l' l''
  unfolding offset
  offset_family r p t l t' l' l'' a b c d e f = rw (a, b, c, d, e, f) refl

  -- what follows a Function in its own list
  past : (m e c : ℕ) (vs : List Visit) (b : Bool) → Spot F m (cond b (record { met = c; around = e } ∷ vs) vs) → Spot F (m + cond b 1 0) vs
  past m e c vs true s = spot_right F m _ (record { met = c; around = e } ∷ []) vs refl s
  past m e c vs false s = spot_at F m _ vs (omega arith) s

  valid_within : (c e : ℕ) → c < size recs → Valid e → (b : Bool) → is_function (words recs c) ≡ b → Valid (cond b (suc c) e)
  valid_within c e h v true q = (h, q)
  valid_within c e h v false q = v

  code_within : (c e v n : ℕ) (b : Bool) → at c + (cond b 1 0 + n) ≤ 4096 → v ≡ code e → cond b (plus (at c) 1) v ≡ code (cond b (suc c) e)
  code_within c e v n true h p = omega arith
  code_within c e v n false h p = p

  -- the children of a record whose list is known
  kids : (c e : ℕ) → c < size recs → Spot F (at c) (node e c (words recs c) (children recs c)) → get_or by c 0 ≡ code e → Valid e
      → Family c (at c + own (words recs c)) (within e c (words recs c)) (children recs c)
  kids c e h s q v =
      record {
        known =
            rw (head_forest recs (first recs c))
            (λ u. (
              (first_inside recs c u).1,
              P.parents.child c h u,
              P.bases.child c h u ∙ omega (arith, room),
              P.callers.child c h u ∙ code_within c e _ (tally (children recs c)) (is_function (words recs c)) room q,
            ));
        outer = h;
        fits = omega (arith, room);
        less = less_start F _ (children recs c);
        spots = lane_start F _ _ (children recs c) (manner (word recs c 0)) (past (at c) e c _ (is_function (words recs c)) s);
        valid = valid_within c e h v (is_function (words recs c)) refl;
      }
    where
      room : at c + (own (words recs c) + tally (children recs c)) ≤ 4096
      room = omega (arith, spot_fit F (at c) _ s, node_length e c (words recs c) (children recs c), F-few)

  module _ (r p b e : ℕ) (f : Family p b e (tree (suc r) (words recs (suc r)) (children recs (suc r)) (forest recs (next recs (suc r))))) where
    abbrev g : Forest
    g = tree (suc r) (words recs (suc r)) (children recs (suc r)) (forest recs (next recs (suc r)))

    facts : (suc r < size recs) × (get_or up (suc r) 0 ≡ p) × (get_or base (suc r) 0 ≡ b) × (get_or by (suc r) 0 ≡ code e)
    facts = f.known (omega arith)

    offset_is : offset recs all left up (suc r)
        ≡ shift (manner (word recs p 0)) (is_left (words recs (suc r))) (tally (children recs p)) (tally_left (children recs p)) (tally g) (tally_left g) (tally_left
        (forest recs (next recs (suc r))))
    offset_is =
        let d = f.less in
        let n = less_next F b (tally (children recs p)) (tally_left (children recs p)) (suc r) (words recs (suc r)) (children recs (suc r)) (forest recs (next recs
        (suc r))) d in
        offset_family r p _ _ _ _ _ facts.1
        (tallied_link tally recs tally_none all p _ f.outer P.counts (first_onward recs p) ∙ omega (arith, f.fits))
        (tallied_link tally_left recs left_none left p _ f.outer P.lefts (first_onward recs p) ∙ omega (arith, f.fits, d.all_left))
        (P.counts.each (suc r) facts.0 ∙ ap (λ z. min 4096 (tally z)) (forest_record recs r) ∙ omega (arith, f.fits, d.in_right, d.in_left, d.own_left, d.all_left))
        (P.lefts.each (suc r) facts.0 ∙ ap (λ z. min 4096 (tally_left z)) (forest_record recs r) ∙ omega (arith, f.fits, d.in_left, d.all_left))
        (tallied_link tally_left recs left_none left (suc r) _ facts.0 P.lefts (next_onward recs (suc r)) ∙ omega (arith, f.fits, n.in_left, d.all_left))

    spot_here : Spot F (at (suc r)) (node e (suc r) (words recs (suc r)) (children recs (suc r)))
    spot_here = spot_at F _ _ _ (omega (arith, spot_fit F _ _ found, F-few, offset_is, facts.2)) found
      where
        found : Spot F (b + shift (manner (word recs p 0)) (is_left (words recs (suc r))) (tally (children recs p)) (tally_left (children recs p)) (tally g)
            (tally_left g) (tally_left (forest recs (next recs (suc r)))))
            (node e (suc r) (words recs (suc r)) (children recs (suc r)))
        found =
            lane_node F b (tally (children recs p)) (tally_left (children recs p)) (manner (word recs p 0)) e (suc r) (words recs (suc r)) (children recs (suc r))
            (forest recs (next recs (suc r)))
            (omega (arith, f.fits)) f.less f.spots

    here : Here (suc r)
    here = record { e = e; spot = spot_here; inner = facts.3; valid = f.valid }

    -- and the siblings that follow
    later : Family p b e (forest recs (next recs (suc r)))
    later =
        record {
          known =
              rw (head_forest recs (next recs (suc r)))
              (λ u. (
                (next_inside recs (suc r) u).1,
                P.parents.sibling (suc r) facts.0 u ∙ facts.1,
                P.bases.sibling (suc r) facts.0 u ∙ facts.2,
                P.callers.sibling (suc r) facts.0 u ∙ facts.3,
              ));
          outer = f.outer;
          fits = f.fits;
          less = less_next F b _ _ (suc r) (words recs (suc r)) (children recs (suc r)) (forest recs (next recs (suc r))) f.less;
          spots = lane_next F b _ _ (manner (word recs p 0)) e (suc r) (words recs (suc r)) (children recs (suc r)) (forest recs (next recs (suc r))) f.less f.spots;
          valid = f.valid;
        }

  below : (l p b e : ℕ) → Family p b e (forest recs l) → All (forest recs l)
  below l =
      grown recs (λ f. (p b e : ℕ) → Family p b e f → All f) (λ p b e f. tt)
      (λ r k s p b e f. (
        here r p b e f,
        k (suc r) _ _ (kids (suc r) e (facts r p b e f).0 (spot_here r p b e f) (facts r p b e f).3 f.valid),
        s p b e (later r p b e f),
      ))
      l

  at_zero : at 0 ≡ 0
  unfolding offset
  at_zero = omega (arith, P.bases.top)

  root_spot : Spot F (at 0) (node 0 0 (words recs 0) (children recs 0))
  unfolding visited
  root_spot = record { pre = []; post = []; here = refl; far = sym at_zero }

  everywhere : All (root recs)
  everywhere =
      (record { e = 0; spot = root_spot; inner = P.callers.top; valid = tt }, below (first recs 0) 0 _ _ (kids 0 0 j.some root_spot P.callers.top tt), tt)

  find : (f : Forest) → All f → (x : ℕ) → 1 ≤ occurs x f → Here x
  unfolding over
  find none a x h = absurd (omega arith)
  find (tree r w k s) (a, b, c) x h = go (ℕ_discrete r x) (λ q. find k b x q) (λ q. find s c x q)
    where
      go : Dec (r ≡ x) → (1 ≤ occurs x k → Here x) → (1 ≤ occurs x s → Here x) → Here x
      go (yes q) u v = subst Here q a
      go (no d) u v = side (ℕ_discrete (occurs x k) 0)
        where
          side : Dec (occurs x k ≡ 0) → Here x
          side (yes z) = v (omega (arith, one_other x r (λ e. d (sym e))))
          side (no z) = u (omega arith)

  here_at : (x : ℕ) → x < size recs → Here x
  here_at x h = find (root recs) everywhere x (omega (arith, tree_once recs j x h))

  module _ (r : ℕ) (inside-table : r < size recs) (fn : is_function (words recs r) ≡ true) where
    abbrev self : Here r
    self = here_at r inside-table

    abbrev met_here : Visit
    met_here = record { met = r; around = self.e }

    abbrev others : List Visit
    others = inside (manner (word recs r 0)) (λ i. visited i (within self.e r (words recs r)) (children recs r)) ++ self.spot.post

    split : F ≡ self.spot.pre ++ (met_here ∷ others)
    split = self.spot.here ∙ ap (λ b. self.spot.pre ++ (cond b (met_here ∷ inner_list) inner_list ++ self.spot.post)) fn
      where
        inner_list : List Visit
        inner_list = inside (manner (word recs r 0)) (λ i. visited i (within self.e r (words recs r)) (children recs r))

    none_before : weigh (λ y. one r y) self.spot.pre ≡ 0
    unfolding weigh
    none_before =
        omega (
          arith,
          ap (weigh (λ y. one r y)) split,
          weigh_append (λ y. one r y) self.spot.pre (met_here ∷ others),
          one_same r,
          weigh_visited (λ y. one r y) (root recs) 0,
          part_occurs r (root recs),
          tree_once recs j r inside-table,
        )

    pub number_is : number recs r ≡ at r
    number_is = ap (place_of r) split ∙ place_skip r self.spot.pre met_here others none_before refl ∙ self.spot.far

    enclosing_is : enclosing recs r ≡ self.e
    enclosing_is =
        let place : number recs r ≡ length self.spot.pre = number_is ∙ sym self.spot.far in
        ap (λ (n : ℕ). (get_or F n (record { met = 0; around = 0 })).around) place
        ∙ ap (λ (l : List Visit). (get_or l (length self.spot.pre) (record { met = 0; around = 0 })).around) split
        ∙ ap (λ (v : Visit). v.around) (get_or-append_seam self.spot.pre met_here others (record { met = 0; around = 0 }))

  parent_coded : (e v : ℕ) → Valid e → v ≡ code e → number_of recs e ≡ caller_word v
  parent_coded zero v q p = rw p refl
  parent_coded (suc c) v (h, q) p = rw p (number_is c h q)

  pub parent_is : (r : ℕ) → r < size recs → is_function (words recs r) ≡ true → parent recs r ≡ caller_word (get_or by r 0)
  parent_is r h q =
      ap (number_of recs) (enclosing_is r h q) ∙ parent_coded (here_at r h).e (get_or by r 0) (here_at r h).valid (here_at r h).inner

  -- the test that the code makes at a record is that of row 9
  pub wrong_is : (funs : List ℕ) (r : ℕ) → r < size recs → wrong recs funs r (at r) (get_or by r 0) ≡ misnumbered recs funs r
  wrong_is funs r h = go (is_function (words recs r)) refl
    where
      go : (b : Bool) → is_function (words recs r) ≡ b
          → b && not (eqb (word recs r 2) (at r) && eqb (get_or funs (at r * 2) 0) (caller_word (get_or by r 0)))
          ≡ b && not (eqb (word recs r 2) (number recs r) && eqb (get_or funs (number recs r * 2) 0) (parent recs r))
      go true q = rw (number_is r h q, parent_is r h q) refl
      go false q = refl

-- two rules that agree at every place are broken at the same place first
broken_same : (bad bad' : ℕ → Bool) (n : ℕ) → ((k : ℕ) → k < n → bad k ≡ bad' k) → broken bad n ≡ broken bad' n
broken_same bad bad' n h = alike_from bad bad' 0 n (λ k p q. h k (omega arith))

abbrev bad : List ℕ → List ℕ → ℕ → Bool
bad recs funs r = (eqb r 0 && uneven recs funs) || misnumbered recs funs r

module _ (recs funs all : List ℕ) (j : Joined recs) (few : size recs ≤ 4096) (counts : Tallied tally recs all) (t : ℕ)
    (e : t ≡ plus (own (words recs 0)) (get_or all (first recs 0) 0)) where
  -- table 5 has another length
  pub numbering_uneven : (length funs / 2 ≡ t → ⊥) → Some 0 ≡ numbering recs funs
  numbering_uneven d = sym (sym (rest_start (bad recs funs) (size recs)) ∙ rest_at (bad recs funs) (size recs) 0 j.some (rw (ne_eqb _ _ other) refl))
    where
      other : length funs / 2 ≡ length (functions recs) → ⊥
      other z = d (z ∙ total recs all j few counts ∙ sym e)

  -- table 5 has the right length: the first wrong Function is the place
  pub numbering_even : (left up base by : List ℕ) → Passed recs all left up base by → length funs / 2 ≡ t
      → (b : Option ℕ) → b ≡ broken (found recs funs all left up base by) (size recs) → b ≡ numbering recs funs
  numbering_even left up base by P q b p =
      p
      ∙ broken_same (found recs funs all left up base by) (bad recs funs) (size recs)
      (λ r h. wrong_is recs all left up base by j few P funs r h ∙ also (eqb r 0) (misnumbered recs funs r))
    where
      even : uneven recs funs ≡ false
      even = ap not (eq-eqb _ _ (q ∙ e ∙ sym (total recs all j few counts)))

      also : (a b : Bool) → b ≡ (a && uneven recs funs) || b
      also true b = rw even refl
      also false b = refl
