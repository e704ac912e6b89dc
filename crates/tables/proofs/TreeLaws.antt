-- Where links go forward and name every record but 0 once, the tree of record 0 has every record once. Assumes nothing.
use mathlib.Core.Path.{◌≡◌, refl, sym, ap, subst, ◌∙◌}
use mathlib.Core.Bool.{Bool, true, false, cond, ◌&&◌}
use mathlib.Core.List.{List}
use mathlib.Core.Logic.{◌⊎◌, inl, inr}
use Prim.Native.Nat.{ℕ, zero, suc, ◌+◌, ◌≤◌, ◌<◌}
use native.Mathlib.Omega.{arith}
use native.Mathlib.Decide.{ℕ_discrete}
use lib.Dec.{T, ltb, lt→ltb}
use Rattle.std.specs.Prelude.{None}
use Rattle.tables.specs.Record.{word, size}
use Rattle.tables.specs.Forest.{Forest, none, tree, guarded, first, next, forest, children, root, count}
use Rattle.tables.specs.Naming.{one, named_by, naming, Lawful, Joined}
use Rattle.tables.proofs.ForestLaws.{Onward, first_onward, next_onward, forest_absent, forest_record, grown}
use Rattle.tables.proofs.NamingLaws.{one_same, one_other, one_hit, once}

-- sums over the numbers below n, and over the records of a forest
unfoldable pub sum_to : (ℕ → ℕ) → ℕ → ℕ
sum_to w zero = 0
sum_to w (suc n) = w n + sum_to w n

unfoldable pub over : (ℕ → ℕ) → Forest → ℕ
over w none = 0
over w (tree r v k s) = w r + (over w k + over w s)

-- how often a number is a record of a forest
abbrev pub occurs : ℕ → Forest → ℕ
occurs x f = over (λ r. one x r) f

-- every record of a forest is below n
abbrev pub Under : ℕ → Forest → Type 0
Under n none = Unit {0}
Under n (tree r w k s) = (r < n) × Under n k × Under n s

-- every record of a forest lies after record r
abbrev pub After : ℕ → Forest → Type 0
After q none = Unit {0}
After q (tree r w k s) = (q < r) × After q k × After q s

sum_same : (w w' : ℕ → ℕ) (n : ℕ) → ((r : ℕ) → r < n → w r ≡ w' r) → sum_to w n ≡ sum_to w' n
unfolding sum_to
sum_same w w' zero h = refl
sum_same w w' (suc n) h = omega (arith, h n (omega arith), sum_same w w' n (λ r p. h r (omega arith)))

sum_add : (w w' : ℕ → ℕ) (n : ℕ) → sum_to (λ x. w x + w' x) n ≡ sum_to w n + sum_to w' n
unfolding sum_to
sum_add w w' zero = refl
sum_add w w' (suc n) = omega (arith, sum_add w w' n)

sum_zero : (w : ℕ → ℕ) (n : ℕ) → sum_to w n ≡ 0 → (r : ℕ) → r < n → w r ≡ 0
unfolding sum_to
sum_zero w zero e r p = absurd (omega arith)
sum_zero w (suc n) e r p = go (ℕ_discrete r n) (λ h. sum_zero w n (omega arith) r h)
  where
    go : Dec (r ≡ n) → (r < n → w r ≡ 0) → w r ≡ 0
    go (yes q) ih = rw q (omega arith)
    go (no d) ih = ih (omega arith)

sum_none : (n : ℕ) → sum_to (λ x. 0) n ≡ 0
unfolding sum_to
sum_none zero = refl
sum_none (suc n) = omega (arith, sum_none n)

sum_ones : (w : ℕ → ℕ) (n : ℕ) → ((x : ℕ) → x < n → w x ≡ 1) → sum_to w n ≡ n
unfolding sum_to
sum_ones w zero h = refl
sum_ones w (suc n) h = omega (arith, h n (omega arith), sum_ones w n (λ x p. h x (omega arith)))

sum_above : (r n : ℕ) → n ≤ r → sum_to (λ x. one x r) n ≡ 0
unfolding sum_to
sum_above r zero h = refl
sum_above r (suc n) h = omega (arith, one_other n r (λ e. omega arith), sum_above r n (omega arith))

sum_one : (r n : ℕ) → r < n → sum_to (λ x. one x r) n ≡ 1
unfolding sum_to
sum_one r zero h = absurd (omega arith)
sum_one r (suc n) h = go (ℕ_discrete n r) (λ p. sum_one r n p)
  where
    go : Dec (n ≡ r) → (r < n → sum_to (λ x. one x r) n ≡ 1) → one n r + sum_to (λ x. one x r) n ≡ 1
    go (yes q) ih = omega (arith, subst (λ z. one n z ≡ 1) q (one_same n), sum_above r n (omega arith))
    go (no d) ih = omega (arith, one_other n r d, ih (omega arith))

-- a sum of 1 has its one place
abbrev Single : (ℕ → ℕ) → ℕ → Type 0
Single w n = (q : ℕ) × (q < n) × ((r : ℕ) → r < n → w r ≡ one q r)

single_later : (w : ℕ → ℕ) (n : ℕ) → w n ≡ 0 → Single w n → Single w (suc n)
single_later w n z (q, p, f) = (q, omega arith, λ r h. at r h (ℕ_discrete r n))
  where
    at : (r : ℕ) → r < suc n → Dec (r ≡ n) → w r ≡ one q r
    at r h (yes e) = rw e (omega (arith, one_other q n (λ x. omega arith)))
    at r h (no d) = f r (omega arith)

single_here : (w : ℕ → ℕ) (n : ℕ) → w n ≡ 1 → sum_to w n ≡ 0 → Single w (suc n)
single_here w n z t = (n, omega arith, λ r h. at r h (ℕ_discrete n r))
  where
    at : (r : ℕ) → r < suc n → Dec (n ≡ r) → w r ≡ one n r
    at r h (yes e) = rw (← e) (omega (arith, one_same n))
    at r h (no d) = omega (arith, sum_zero w n t r (omega arith), one_other n r d)

single : (w : ℕ → ℕ) (n : ℕ) → sum_to w n ≡ 1 → Single w n
unfolding sum_to
single w zero e = absurd (omega arith)
single w (suc n) e = go (ℕ_discrete (w n) 0) (λ h. single w n h)
  where
    go : Dec (w n ≡ 0) → (sum_to w n ≡ 1 → Single w n) → Single w (suc n)
    go (yes z) ih = single_later w n z (ih (omega arith))
    go (no z) ih = single_here w n (omega arith) (omega arith)

over_same : (w w' : ℕ → ℕ) (n : ℕ) → ((r : ℕ) → r < n → w r ≡ w' r) → (f : Forest) → Under n f → over w f ≡ over w' f
unfolding over
over_same w w' n h none u = refl
over_same w w' n h (tree r v k s) (u, y, x) = omega (arith, h r u, over_same w w' n h k y, over_same w w' n h s x)

-- the number of a forest's first record, 0 where it has none
abbrev pub head : Forest → ℕ
head none = 0
head (tree r w k s) = r

pub head_forest : (recs : List ℕ) (l : ℕ) → head (forest recs l) ≡ l
head_forest recs zero = ap head (forest_absent recs)
head_forest recs (suc r) = ap head (forest_record recs r)

occurs_all : (n : ℕ) (f : Forest) → Under n f → sum_to (λ x. occurs x f) n ≡ count f
unfolding over
occurs_all n none u = sum_none n
occurs_all n (tree r w k s) (u, v, x) =
    omega (arith, sum_add (λ x. one x r) (λ x. occurs x k + occurs x s) n, sum_add (λ x. occurs x k) (λ x. occurs x s) n, sum_one r n u, occurs_all n k v, occurs_all n s x)

module _ (recs : List ℕ) where
  -- how often record r's two guarded links lead to x
  abbrev pub leads : ℕ → ℕ → ℕ
  leads x r = one x (first recs r) + one x (next recs r)

  onward_under : (r l : ℕ) → Onward recs r l → (l ≡ 0) ⊎ (l < size recs)
  onward_under r l (inl e) = inl e
  onward_under r l (inr (a, b)) = inr b

  -- what a link inside the table leads to stays inside
  pub under : (l : ℕ) → (l ≡ 0) ⊎ (l < size recs) → Under (size recs) (forest recs l)
  under l h = grown recs (λ f. ((head f ≡ 0) ⊎ (head f < size recs)) → Under (size recs) f) (λ e. tt)
      (λ r p q e. (
        at r e,
        p (rw (head_forest recs) (onward_under (suc r) _ (first_onward recs (suc r)))),
        q (rw (head_forest recs) (onward_under (suc r) _
            (next_onward recs (suc r)))),
      ))
      l (rw (head_forest recs l) h)
    where
      at : (r : ℕ) → ((suc r ≡ 0) ⊎ (suc r < size recs)) → suc r < size recs
      at r (inl e) = absurd (omega arith)
      at r (inr h) = h

  -- the children of a record are inside the table
  pub children_under : (r : ℕ) → Under (size recs) (children recs r)
  children_under r = under (first recs r) (onward_under r _ (first_onward recs r))

  pub root_under : 0 < size recs → Under (size recs) (root recs)
  root_under h = (h, children_under 0, tt)

  pub after_less : (a b : ℕ) → a ≤ b → (f : Forest) → After b f → After a f
  after_less a b h none p = tt
  after_less a b h (tree r w k s) (p, q, t) = (omega arith, after_less a b h k q, after_less a b h s t)

  -- a link and all that it leads to lie after the record that has it
  pub after : (r l : ℕ) → Onward recs r l → After r (forest recs l)
  after r l o = grown recs (λ f. (q : ℕ) → ((head f ≡ 0) ⊎ (q < head f)) → After q f) (λ q e. tt)
      (λ m p t q e. (
        at m q e,
        p q (rw (head_forest recs) (step q (suc m) (at m q e) _ (first_onward recs (suc m)))),
        t q (rw (head_forest recs) (step q (suc m) (at m q e) _ (next_onward recs (suc m)))),
      ))
      l r (rw (head_forest recs l) (begin o))
    where
      at : (m q : ℕ) → ((suc m ≡ 0) ⊎ (q < suc m)) → q < suc m
      at m q (inl e) = absurd (omega arith)
      at m q (inr h) = h

      step : (q m : ℕ) → q < m → (k : ℕ) → Onward recs m k → (k ≡ 0) ⊎ (q < k)
      step q m h k (inl e) = inl e
      step q m h k (inr (a, b)) = inr (omega arith)

      begin : Onward recs r l → (l ≡ 0) ⊎ (r < l)
      begin (inl e) = inl e
      begin (inr (a, b)) = inr a

  -- every child, and all below it, lies after its parent
  pub children_after : (r : ℕ) → After r (children recs r)
  children_after r = after r (first recs r) (first_onward recs r)

  never_zero : (l : ℕ) → occurs 0 (forest recs l) ≡ 0
  unfolding over
  never_zero l = grown recs (λ f. occurs 0 f ≡ 0) refl (λ r p q. omega (arith, one_other 0 (suc r) (λ e. omega arith))) l

  -- a record is what a link leads to: the link to the forest, or one of a record
  by_links : (x : ℕ) → 1 ≤ x → (l : ℕ) → occurs x (forest recs l) ≡ one x l + over (leads x) (forest recs l)
  unfolding over
  by_links x h l =
      rw (head_forest recs l) at
      (grown recs (λ f. occurs x f ≡ one x (head f) + over (leads x) f) (omega (arith, one_other x 0 (λ e. omega arith)))
      (λ r p q. omega (arith, rw (head_forest recs) at p, rw (head_forest recs) at q)) l)

  led : (x q l : ℕ) → 1 ≤ x → Onward recs q l → 1 ≤ one x l → q < x
  led x q l h (inl e) p = absurd (omega (arith, one_hit x l p))
  led x q l h (inr (a, b)) p = omega (arith, one_hit x l p)

  leader_less : (x q : ℕ) → 1 ≤ x → leads x q ≡ 1 → q < x
  leader_less x q h e = go (ℕ_discrete (one x (first recs q)) 0)
    where
      go : Dec (one x (first recs q) ≡ 0) → q < x
      go (yes z) = led x q (next recs q) h (next_onward recs q) (omega arith)
      go (no z) = led x q (first recs q) h (first_onward recs q) (omega arith)

-- row 7 in the form that the checks answer it
pub joined : (recs : List ℕ) → 0 < size recs → word recs 0 7 ≡ 0 → ((r : ℕ) → r < size recs → Lawful recs r (word recs r 6) × Lawful recs r (word recs r 7))
    → naming recs ≡ None → Joined recs
joined recs s z l e = record { some = s; alone = z; lawful = l; named_once = once recs e }

guarded_lawful : (r n l : ℕ) → ((l ≡ 0) ⊎ ((r < l) × (l < n))) → guarded r n l ≡ l
unfolding guarded
guarded_lawful r n l (inl e) = rw e (either (ltb r 0 && ltb 0 n))
  where
    either : (b : Bool) → ◌≡◌ {A = ℕ} (cond b 0 0) 0
    either true = refl
    either false = refl
guarded_lawful r n l (inr (a, b)) = both (ltb r l) (ltb l n) (lt→ltb r l a) (lt→ltb l n b)
  where
    both : (x y : Bool) → T x → T y → cond (x && y) l 0 ≡ l
    both true true p q = refl
    both true false p q = absurd q
    both false y p q = absurd p

module _ (recs : List ℕ) (j : Joined recs) where
  -- the links are the words
  pub first_word : (r : ℕ) → r < size recs → first recs r ≡ word recs r 6
  unfolding first
  first_word r h = guarded_lawful r (size recs) (word recs r 6) (j.lawful r h).0

  pub next_word : (r : ℕ) → r < size recs → next recs r ≡ word recs r 7
  unfolding next
  next_word zero h = sym j.alone
  next_word (suc r) h = guarded_lawful (suc r) (size recs) (word recs (suc r) 7) (j.lawful (suc r) h).1

  leads_named : (x n : ℕ) → n ≤ size recs → sum_to (leads recs x) n ≡ named_by recs x n
  unfolding sum_to named_by
  leads_named x zero h = refl
  leads_named x (suc n) h = omega (arith, ap (one x) (first_word n (omega arith)), ap (one x) (next_word n (omega arith)), leads_named x n (omega arith))

  root_links : (x : ℕ) → 1 ≤ x → occurs x (root recs) ≡ over (leads recs x) (root recs)
  unfolding over
  root_links x h = omega (arith, by_links recs x h (first recs 0), one_other x 0 (λ e. omega arith), ap (one x) (next_word 0 j.some ∙ j.alone))

  once_below : (m x : ℕ) → x < m → x < size recs → occurs x (root recs) ≡ 1
  unfolding over
  once_below zero x h p = absurd (omega arith)
  once_below (suc m) zero h p = omega (arith, one_same 0, never_zero recs (first recs 0))
  once_below (suc m) (suc x) h p =
      go (single (leads recs (suc x)) (size recs) (leads_named (suc x) (size recs) (omega arith) ∙ j.named_once (suc x) (omega arith) p)) (λ q u v. once_below m q u v)
    where
      go : Single (leads recs (suc x)) (size recs) → ((q : ℕ) → q < m → q < size recs → occurs q (root recs) ≡ 1) → occurs (suc x) (root recs) ≡ 1
      go (q, u, f) ih =
          let less : q < suc x = leader_less recs (suc x) q (omega arith) (f q u ∙ one_same q) in
          root_links (suc x) (omega arith) ∙ over_same (leads recs (suc x)) (λ r. one q r) (size recs) f (root recs) (root_under recs j.some) ∙ ih q (omega arith) u

  -- every record of the table is in the tree, once
  pub tree_once : (x : ℕ) → x < size recs → occurs x (root recs) ≡ 1
  tree_once x h = once_below (suc x) x (omega arith) h

  -- the tree has as many records as the table
  pub tree_count : count (root recs) ≡ size recs
  tree_count = sym (occurs_all (size recs) (root recs) (root_under recs j.some)) ∙ sum_ones (λ x. occurs x (root recs)) (size recs) (λ x p. tree_once x p)

  -- two records that lead to the same one are the same
  pub same_leader : (x r q : ℕ) → 1 ≤ x → x < size recs → r < size recs → q < size recs → 1 ≤ leads recs x r → 1 ≤ leads recs x q → r ≡ q
  same_leader x r q h p a b u v = go (single (leads recs x) (size recs) (leads_named x (size recs) (omega arith) ∙ j.named_once x h p))
    where
      go : Single (leads recs x) (size recs) → r ≡ q
      go (z, c, f) = sym (one_hit z r (omega (arith, f r a))) ∙ one_hit z q (omega (arith, f q b))

  -- no record leads to another one twice
  pub leads_once : (x r : ℕ) → 1 ≤ x → x < size recs → r < size recs → leads recs x r ≤ 1
  leads_once x r h p a = go (single (leads recs x) (size recs) (leads_named x (size recs) (omega arith) ∙ j.named_once x h p))
    where
      go : Single (leads recs x) (size recs) → leads recs x r ≤ 1
      go (z, c, f) = at (ℕ_discrete z r)
        where
          at : Dec (z ≡ r) → leads recs x r ≤ 1
          at (yes e) = omega (arith, f r a, subst (λ y. one z y ≡ 1) e (one_same z))
          at (no d) = omega (arith, f r a, one_other z r d)
