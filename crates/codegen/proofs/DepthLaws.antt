-- Loop depths by a pass from the last record down; no depth comes near the largest word. Assumes nothing.
use mathlib.Core.Path.{◌≡◌, refl, sym, ap, ap₂, subst, subst⁻¹, ◌∙◌}
use mathlib.Core.Bool.{Bool, true, false, cond, ◌&&◌}
use mathlib.Core.List.{List}
use mathlib.Core.Logic.{inl, inr}
use Prim.Native.Nat.{ℕ, zero, suc, ◌+◌, ◌-◌, ◌≤◌, ◌<◌, max}
use native.Mathlib.Omega.{arith}
use native.Mathlib.Decide.{ℕ_discrete}
use lib.ListN.{length, get_or, set, length-set}
use lib.Seq.{get_or-set_same, get_or-set_other}
use lib.Dec.{leb, eqb}
use borrow.Author.Tests.{eqb-true}
use Rattle.tables.specs.Record.{words, word, size, is_function, is_loop}
use Rattle.tables.specs.Forest.{Forest, first, next, forest, Nodes, bare, own_tree}
use Rattle.tables.proofs.ForestLaws.{Onward, first_onward, next_onward, forest_absent, forest_record, grown}
use Rattle.tables.proofs.TreeLaws.{head, head_forest}
use Rattle.rules.specs.Out.{loop_depth}
use Rattle.codegen.specs.Depth.{around_of, Roomed, Depths}

-- the depth of what a link leads to
abbrev pub deep : List ℕ → ℕ → ℕ
deep recs l = loop_depth (own_tree (forest recs l))

deep_absent : (recs : List ℕ) (l : ℕ) → l ≡ 0 → deep recs l ≡ 0
unfolding loop_depth
deep_absent recs l e = ap (λ (z : ℕ). deep recs z) e ∙ ap (λ (f : Forest). loop_depth (own_tree f)) (forest_absent recs)

-- a record's own depth, by whether it is a loop or a Function and what is inside it
abbrev own_deep : Bool → Bool → Nodes → ℕ
own_deep a b k = cond a (suc (loop_depth (cond b bare k))) (loop_depth (cond b bare k))

-- a link goes forward, so what it leads to is less deep than the records after it are many
link_few : (recs : List ℕ) (r l : ℕ) → Onward recs r l → (l < size recs → deep recs l + l ≤ size recs) → r < size recs → suc (deep recs l) + r ≤ size recs
link_few recs r l (inl e) h p = omega (arith, deep_absent recs l e)
link_few recs r l (inr (a, b)) h p = omega (arith, h b)

-- so a depth is at most the number of records
few : (recs : List ℕ) (l : ℕ) → l < size recs → deep recs l + l ≤ size recs
unfolding loop_depth
few recs l =
    rw (head_forest recs l) at
    (grown recs (λ f. head f < size recs → loop_depth (own_tree f) + head f ≤ size recs) (λ p. omega arith)
    (λ r p q i. go r (is_loop (words recs (suc r))) (is_function (words recs (suc r)))
    (link_few recs (suc r) (first recs (suc r)) (first_onward recs (suc r)) (rw (head_forest recs) at p) i)
    (link_few recs (suc r) (next recs (suc r)) (next_onward recs (suc r)) (rw (head_forest recs) at q) i)) l)
  where
    go : (r : ℕ) (a b : Bool) → suc (deep recs (first recs (suc r))) + suc r ≤ size recs → suc (deep recs (next recs (suc r))) + suc r ≤ size recs
        → max (own_deep a b (own_tree (forest recs (first recs (suc r))))) (deep recs (next recs (suc r))) + suc r ≤ size recs
    go r true true u v = omega arith
    go r true false u v = omega arith
    go r false true u v = omega arith
    go r false false u v = omega arith

-- no Function is a loop
function_no_loop : (k : ℕ) → eqb k 30 ≡ true → leb 16 k && leb k 18 ≡ false
function_no_loop k e = ap (λ (z : ℕ). leb 16 z && leb z 18) (eqb-true k 30 e)

-- a record's depth by those of its links
deep_step : (recs : List ℕ) (r : ℕ) → 0 < r → deep recs r ≡ max (around_of (word recs r 0) (deep recs (first recs r))) (deep recs (next recs r))
unfolding loop_depth around_of
deep_step recs zero p = absurd (omega arith)
deep_step recs (suc r) p =
    ap (λ (f : Forest). loop_depth (own_tree f)) (forest_record recs r)
    ∙ go (is_function (words recs (suc r))) (is_loop (words recs (suc r))) (function_no_loop (word recs (suc r) 0))
  where
    go : (a b : Bool) → (a ≡ true → b ≡ false)
        → max (own_deep b a (own_tree (forest recs (first recs (suc r))))) (deep recs (next recs (suc r)))
        ≡ max (cond a 0 (cond b (deep recs (first recs (suc r)) + 1) (deep recs (first recs (suc r))))) (deep recs (next recs (suc r)))
    go true true n = absurd (let q = n refl in let z : ◌≡◌ {A = ℕ} 0 1 = cc in omega arith)
    go true false n = refl
    go false true n = omega arith
    go false false n = refl

-- the records from r on are done
pub record Done (recs table : List ℕ) (r : ℕ) : Type 0 where
  pub roomed : Roomed recs table
  pub done : (x : ℕ) → r ≤ x → 0 < x → x < size recs → get_or table x 0 ≡ deep recs x

module _ (recs : List ℕ) where
  -- a link is inside the table, and what the table has for it is its depth
  inside_by : (a : List ℕ) → Roomed recs a → (x l : ℕ) → Onward recs x l → l < length a
  inside_by a z x l (inl e) = omega (arith, z.some)
  inside_by a z x l (inr (p, q)) = omega (arith, z.room)

  held_by : (a : List ℕ) (x l : ℕ) → Onward recs x l → Done recs a (suc x) → get_or a l 0 ≡ deep recs l
  held_by a x l (inl e) h = ap (λ (i : ℕ). get_or a i 0) e ∙ h.roomed.absent ∙ sym (deep_absent recs l e)
  held_by a x l (inr (p, q)) h = h.done l (omega arith) (omega arith) q

  pub first_inside : (a : List ℕ) → Roomed recs a → (x : ℕ) → first recs x < length a
  first_inside a z x = inside_by a z x (first recs x) (first_onward recs x)

  pub next_inside : (a : List ℕ) → Roomed recs a → (x : ℕ) → next recs x < length a
  next_inside a z x = inside_by a z x (next recs x) (next_onward recs x)

  onward_few : (x l : ℕ) → Onward recs x l → deep recs l ≤ size recs
  onward_few x l (inl e) = omega (arith, deep_absent recs l e)
  onward_few x l (inr (p, q)) = omega (arith, few recs l q)

  -- what is inside a record is less deep than the largest word
  done_few : (a : List ℕ) (x : ℕ) → Done recs a (suc x) → get_or a (first recs x) 0 < 4294967295
  done_few a x h = omega (
    arith,
    held_by a x (first recs x) (first_onward recs x) h,
    onward_few x (first recs x) (first_onward recs x),
    h.roomed.few,
  )

  -- one record more, by what the table has for its links
  done_more : (a : List ℕ) (x k f n d : ℕ) → 0 < x → x < size recs → Done recs a (suc x) → k ≡ word recs x 0 → f ≡ first recs x → n ≡ next recs x
      → d ≡ max (around_of k (get_or a f 0)) (get_or a n 0) → Done recs (set a x d) x
  done_more a x k f n d some inside h ek ef en e =
      let z = h.roomed in
      record {
        roomed = record {
          few = z.few;
          room = omega (arith, z.room, length-set a x d);
          some = omega (arith, z.some, length-set a x d);
          absent = get_or-set_other a x 0 d 0 (λ (y : 0 ≡ x). omega arith) ∙ z.absent;
        };
        done = λ y le pos lt. at y le pos lt (ℕ_discrete y x);
      }
    where
      value : d ≡ deep recs x
      value =
          e ∙ ap₂ (λ (i j : ℕ). max (around_of i j) (get_or a n 0)) ek (ap (λ (i : ℕ). get_or a i 0) ef ∙ held_by a x (first recs x) (first_onward recs x) h)
          ∙ ap (λ (j : ℕ). max (around_of (word recs x 0) (deep recs (first recs x))) j)
          (ap (λ (i : ℕ). get_or a i 0) en ∙ held_by a x (next recs x) (next_onward recs x) h)
          ∙ sym (deep_step recs x some)

      at : (y : ℕ) → x ≤ y → 0 < y → y < size recs → Dec (y ≡ x) → get_or (set a x d) y 0 ≡ deep recs y
      at y le pos lt (yes q) =
          subst (λ (i : ℕ). get_or (set a x d) i 0 ≡ deep recs i) (sym q) (get_or-set_same a x d 0 (omega (arith, h.roomed.room)) ∙ value)
      at y le pos lt (no q) = get_or-set_other a x y d 0 q ∙ h.done y (omega arith) pos lt

  -- the same of the record before r
  pub step_few : (a : List ℕ) (r : ℕ) → 1 < r → Done recs a r → get_or a (first recs (r - 1)) 0 < 4294967295
  step_few a r p h = let z : suc (r - 1) ≡ r = omega arith in done_few a (r - 1) (subst⁻¹ (λ (i : ℕ). Done recs a i) z h)

  pub step_more : (a : List ℕ) (r k f n d : ℕ) → 1 < r → r ≤ size recs → Done recs a r → k ≡ word recs (r - 1) 0 → f ≡ first recs (r - 1) → n ≡ next recs (r - 1)
      → d ≡ max (around_of k (get_or a f 0)) (get_or a n 0) → Done recs (set a (r - 1) d) (r - 1)
  step_more a r k f n d p q h ek ef en e =
      let z : suc (r - 1) ≡ r = omega arith in
      done_more a (r - 1) k f n d (omega arith) (omega arith) (subst⁻¹ (λ (i : ℕ). Done recs a i) z h) ek ef en e

  -- the depth of a function's own tree, record 0's too
  pub read_deep : (a : List ℕ) (r : ℕ) → Depths recs a → get_or a (first recs r) 0 ≡ deep recs (first recs r)
  read_deep a r h = at (first recs r) (first_onward recs r)
    where
      at : (l : ℕ) → Onward recs r l → get_or a l 0 ≡ deep recs l
      at l (inl e) = ap (λ (i : ℕ). get_or a i 0) e ∙ h.roomed.absent ∙ sym (deep_absent recs l e)
      at l (inr (p, q)) = h.depths l (omega arith) q
