-- The steps of one pattern are its run. Assumes nothing.
use mathlib.Core.Path.{◌≡◌, refl, sym, ap, subst, ◌∙◌}
use mathlib.Core.Bool.{Bool, true, false, cond, ◌&&◌, ◌||◌}
use mathlib.Core.List.{List, [], ◌∷◌, ◌++◌}
use Prim.Native.Nat.{ℕ, zero, suc, ◌+◌, ◌≤◌, ◌<◌}
use native.Mathlib.Omega.{arith}
use lib.ListN.{get_or}
use lib.Dec.{eqb, ltb}
use borrow.Author.Tests.{ltb-true, ne_eqb}
use Rattle.tables.specs.Record.{Words, words, is_kind, is_function}
use Rattle.tables.specs.Forest.{Forest, none, tree, Nodes, bare, node, first, next, forest, children, own_tree}
use Rattle.tables.proofs.ForestLaws.{forest_absent, forest_record, grown as by-records}
use Rattle.pool.specs.Value.{Value}
use Rattle.pool.specs.Notes.{store_noted}
use Rattle.rules.specs.Marker.{PopJumpIfFalse, JumpPopIfNull, LoadConst, Eq, Pop, To, Do, mark}
use Rattle.rules.specs.Step.{ChildPath, Set, Step, push_op, push_const, get_label, jump, access}
use Rattle.rules.specs.Patterns.{
  Part,
  item,
  key,
  value,
  parts,
  next_part,
  is_pattern_part,
  is_nested,
  grown,
  taking,
  labels_after,
  pattern_size,
  lead,
  table_test,
  length_test,
  pattern_steps,
  inside_steps,
}
use Rattle.rules.specs.Run.{State, labels, emit, bump, exec, spot_at, number_of}
use Rattle.context.specs.Rep.{Walk, Lent}
use Rattle.context.specs.Does.{nth, child, reach, doing}
use Rattle.context.proofs.Basics.{on_false, no_bump}
use Rattle.context.proofs.VisitLaws.{number_spot, spot_child}
use Rattle.context.proofs.PartLaws.{nth_next}
use Rattle.plain.specs.Runs.{item_run}
use Rattle.pattern.specs.Tests.{
  lit_of,
  labels_visited,
  lead_run,
  type_run,
  length_run,
  table_run,
  lit_run,
  ident_run,
  grown_run,
  pattern_run,
  inside_run,
}
use Rattle.pattern.proofs.HeldLaws.{
  Quiet,
  quiet_none,
  quiet_emit,
  quiet_sought,
  quiet_row,
  quiet_either,
  still_going,
  same_if,
  Held,
  held_more,
  Holds,
  quiet_holds,
  then_holds,
  from_holds,
  to_holds,
}

-- ---- labels are never given back

pub grown_more : (d h : ℕ) → h ≤ grown d h
grown_more d h = go (ltb (suc d) h)
  where
    go : (b : Bool) → h ≤ cond b h (suc h)
    go true = omega arith
    go false = omega arith

-- and the label of the depth below is there then
pub grown_deep : (d h : ℕ) → d < h → suc d < grown d h
grown_deep d h lt = go (ltb (suc d) h) refl
  where
    go : (b : Bool) → ltb (suc d) h ≡ b → suc d < cond b h (suc h)
    go true e = ltb-true (suc d) h e
    go false e = omega arith

either_more : (b : Bool) (h n : ℕ) → h ≤ n → h ≤ cond b n h
either_more true h n le = le
either_more false h n le = omega arith

after_more : (a : Part) (d h : ℕ) (k : Nodes) → h ≤ labels_after a d h k
after_more a d h bare = omega arith
after_more a d h (node w k s) =
    let g : h ≤ grown d h = grown_more d h in
    let i : grown d h ≤ labels_after (parts w) (suc d) (grown d h) k = after_more (parts w) (suc d) (grown d h) k in
    let n = cond (is_pattern_part a && is_nested w) (labels_after (parts w) (suc d) (grown d h) k) h in
    let e : h ≤ n = either_more (is_pattern_part a && is_nested w) h (labels_after (parts w) (suc d) (grown d h) k) (omega arith) in
    let z : n ≤ labels_after (next_part a) d n s = after_more (next_part a) d n s in
    omega arith

pub visited_more : (d h : ℕ) (w : Words) (k : Forest) → h ≤ labels_visited d h w k
visited_more d h w k =
    let g : h ≤ grown d h = grown_more d h in
    let i : grown d h ≤ labels_after (parts w) (suc d) (grown d h) (own_tree k) = after_more (parts w) (suc d) (grown d h) (own_tree k) in
    either_more (is_nested w) h (labels_after (parts w) (suc d) (grown d h) (own_tree k)) (omega arith)

-- ---- a Table or List is no Function, so its tree is its own

pub no_function : (w : Words) → is_nested w ≡ true → is_function w ≡ false
no_function w e = ne_eqb w.kind 30 (λ i. not_it (sym (ap (λ (z : ℕ). eqb z 37 || eqb z 38) i) ∙ e))
  where
    not_it : false ≡ true → ⊥
    not_it q = let z : ◌≡◌ {A = ℕ} 0 1 = ap (λ (b : Bool). cond b 1 0) q in omega arith

own_nested : (w : Words) → is_nested w ≡ true → (k : Nodes) → cond (is_function w) bare k ≡ k
own_nested w e k = on_false (is_function w) bare k (no_function w e)

pub own_labels : (d h : ℕ) (w : Words) (k : Forest)
    → cond (is_nested w) (labels_after (parts w) (suc d) (grown d h) (cond (is_function w) bare (own_tree k))) h ≡ labels_visited d h w k
own_labels d h w k = go (is_nested w) refl
  where
    go : (b : Bool) → is_nested w ≡ b
        → cond b (labels_after (parts w) (suc d) (grown d h) (cond (is_function w) bare (own_tree k))) h ≡ cond b (labels_after (parts w) (suc d) (grown d h) (own_tree k)) h
    go true e = ap (labels_after (parts w) (suc d) (grown d h)) (own_nested w e (own_tree k))
    go false e = refl

-- ---- the pieces take no label

quiet_item : (r q : ℕ) (v : Value) → Quiet (item_run r q v)
quiet_item r q v = quiet_row (quiet_row (quiet_emit _) (quiet_emit _)) (quiet_emit _)

quiet_lead : (r : ℕ) (a : Part) (q i l : ℕ) (w : Words) → Quiet (lead_run r a q i l w)
quiet_lead r item q i l w = quiet_item r q _
quiet_lead r key q i l w = quiet_item r l _
quiet_lead r value q i l w = quiet_none

quiet_type : (r y : ℕ) → Quiet (type_run r y)
quiet_type r y = quiet_row (quiet_row (quiet_emit _) (quiet_emit _)) (quiet_emit _)

quiet_length : (r y q n : ℕ) → Quiet (length_run r y q n)
quiet_length r y q n = quiet_row (quiet_row (quiet_row (quiet_row (quiet_emit _) (quiet_emit _)) (quiet_emit _)) (quiet_emit _)) (quiet_emit _)

quiet_table : (r y q : ℕ) (w : Words) (n : ℕ) → Quiet (table_run r y q w n)
quiet_table r y q w n = quiet_either (eqb w.detail 1) (quiet_type r y) (quiet_row (quiet_type r y) (quiet_length r y q n))

quiet_lit : (r y q : ℕ) (w : Words) → Quiet (lit_run r y q w)
quiet_lit r y q w = quiet_row (quiet_row (quiet_emit _) (quiet_emit _)) (quiet_emit _)

quiet_ident : (notes : List ℕ) (r y q : ℕ) → Quiet (ident_run notes r y q)
quiet_ident notes r y q = quiet_row (quiet_emit (mark r (To JumpPopIfNull y))) (quiet_sought r q (store_noted notes q))

-- ---- paths

reach_child : (recs : List ℕ) (l : ℕ) (js : ChildPath) (i : ℕ) → reach recs l (js ++ (i ∷ [])) ≡ child recs (reach recs l js) i
reach_child recs l [] i = refl
reach_child recs l (j ∷ js) i = reach_child recs (child recs l j) js i

child_some : (recs : List ℕ) (c i : ℕ) → (c ≡ 0 → ⊥) → is_function (words recs c) ≡ false → child recs c i ≡ nth recs i (first recs c)
child_some recs zero i ne n = absurd (ne refl)
child_some recs (suc c) i ne n = on_false (is_function (words recs (suc c))) _ _ n

-- the first of some trees is the child i of the record q
abbrev pub Link : List ℕ → Forest → ℕ → ℕ → Type 0
Link recs none i q = Unit {0}
Link recs (tree l w k s) i q = l ≡ nth recs i (first recs q)

pub link_at : (recs : List ℕ) (l i q : ℕ) → l ≡ nth recs i (first recs q) → Link recs (forest recs l) i q
link_at recs zero i q e = subst (λ (f : Forest). Link recs f i q) (sym (forest_absent recs)) tt
link_at recs (suc l) i q e = subst (λ (f : Forest). Link recs f i q) (sym (forest_record recs l)) e

pub link_next : (recs : List ℕ) (l i q : ℕ) → l ≡ nth recs i (first recs q) → Link recs (forest recs (next recs l)) (suc i) q
link_next recs l i q e = link_at recs (next recs l) (suc i) q (ap (next recs) e ∙ nth_next recs i (first recs q))

-- ---- the pieces, in the Match at record r, below its child j

module _ (e : Lent) (c : Walk) (r : ℕ) where
  abbrev R : List ℕ
  R = e.records

  -- the number of the record at a path
  abbrev at_path : ChildPath → ℕ
  at_path p = number_of (spot_at (tree r (words R r) (children R r) none) p)

  lead_goes : (a : Part) (p : ChildPath) (i q l : ℕ) (w : Words) → at_path p ≡ q → at_path (p ++ (i ∷ [])) ≡ l → (is : List Step) (env : List ℕ) (A : State)
      → doing e c r (lead a p i w is) env A ≡ doing e c r is env (lead_run r a q i l w A)
  unfolding doing exec
  lead_goes item p i q l w eq el is env A = ap (λ (z : ℕ). doing e c r is env (lead_run r item z i l w A)) eq
  lead_goes key p i q l w eq el is env A = ap (λ (z : ℕ). doing e c r is env (lead_run r key q i z w A)) el
  lead_goes value p i q l w eq el is env A = refl

  -- one label more, where the depth below has none
  taking_goes : (d h : ℕ) (env : List ℕ) (m x : ℕ) (A : State) → Held env m h x A → Holds e c r (taking d h) env A (grown_run d h A) m (grown d h) x
  unfolding doing exec
  taking_goes d h env m x A k = go (ltb (suc d) h)
    where
      go : (b : Bool) → Holds e c r (λ is. cond b is (get_label ∷ is)) env A (cond b A (bump A)) m (cond b h (suc h)) x
      go true = quiet_holds (λ B. B) quiet_none (λ is. refl) k
      go false =
          record {
            past = record { names = env ++ (labels A ∷ []); more = labels A ∷ []; longer = refl; still = still_going bump no_bump A; goes = λ is. refl };
            held = held_more env m h x A k;
          }

  test_goes : (l : ℕ) (p : ChildPath) (w : Words) (k : Nodes) (is : List Step) (env : List ℕ) (A : State)
      → doing e c r (table_test l p w k is) env A ≡ doing e c r is env (table_run r (get_or env l 0) (at_path p) w (pattern_size w k) A)
  unfolding doing exec
  test_goes l p w k is env A = go (eqb w.detail 1)
    where
      B : State
      B = type_run r (get_or env l 0) A

      go : (b : Bool) → doing e c r (cond b is (length_test l p w k is)) env B
          ≡ doing e c r is env (cond b B (length_run r (get_or env l 0) (at_path p) (pattern_size w k) B))
      go true = refl
      go false = refl

  -- the tests of a Table or List before its children; the label of its depth is there
  test_holds : (m d h x q : ℕ) (p : ChildPath) (w : Words) (k : Nodes) (env : List ℕ) (A : State) → at_path p ≡ q → d < h → Held env m h x A
      → Holds e c r (table_test (m + d) p w k) env A (table_run r (x + d) q w (pattern_size w k) A) m h x
  test_holds m d h x q p w k env A eq lt hd =
      let n = pattern_size w k in
      quiet_holds (table_run r (x + d) q w n) (quiet_table r (x + d) q w n)
      (λ is. test_goes (m + d) p w k is env A
      ∙ ap (doing e c r is env) (ap (λ (z : ℕ). table_run r (get_or env (m + d) 0) z w n A) eq
      ∙ same_if (λ y. table_run r y q w n) (λ y. (quiet_table r y q w n).rests) (get_or env (m + d) 0) (x + d) A (λ g. hd.named g d lt))) hd

  lit_holds : (m d h x q : ℕ) (p : ChildPath) (w : Words) (env : List ℕ) (A : State) → at_path p ≡ q → d < h → Held env m h x A
      → Holds e c r (λ is. push_const LoadConst p (lit_of w) ∷ push_op Eq 0 ∷ jump PopJumpIfFalse (m + d) ∷ is) env A (lit_run r (x + d) q w A) m h x
  unfolding doing exec
  lit_holds m d h x q p w env A eq lt hd =
      quiet_holds (lit_run r (x + d) q w) (quiet_lit r (x + d) q w)
      (λ is. ap (doing e c r is env) (ap (λ (z : ℕ). lit_run r (get_or env (m + d) 0) z w A) eq
      ∙ same_if (λ y. lit_run r y q w) (λ y. (quiet_lit r y q w).rests) (get_or env (m + d) 0) (x + d) A (λ g. hd.named g d lt))) hd

  ident_holds : (m d h x q : ℕ) (p : ChildPath) (env : List ℕ) (A : State) → at_path p ≡ q → d < h → Held env m h x A
      → Holds e c r (λ is. jump JumpPopIfNull (m + d) ∷ access Set p ∷ is) env A (ident_run e.notes r (x + d) q A) m h x
  unfolding doing exec
  ident_holds m d h x q p env A eq lt hd =
      quiet_holds (ident_run e.notes r (x + d) q) (quiet_ident e.notes r (x + d) q)
      (λ is. ap (doing e c r is env) (ap (λ (z : ℕ). ident_run e.notes r (get_or env (m + d) 0) z A) eq
      ∙ same_if (λ y. ident_run e.notes r y q) (λ y. (quiet_ident e.notes r y q).rests) (get_or env (m + d) 0) (x + d) A (λ g. hd.named g d lt))) hd

  pub pop_holds : {m h x : ℕ} (env : List ℕ) (A : State) → Held env m h x A → Holds e c r (λ is. push_op Pop 0 ∷ is) env A (emit (mark r (Do Pop 0)) A) m h x
  unfolding doing exec
  pop_holds env A hd = quiet_holds (emit (mark r (Do Pop 0))) (quiet_emit _) (λ is. refl) hd

  module _ (j : ℕ) where
    -- the path js below the child j leads to the record q
    abbrev pub Leads : ChildPath → ℕ → Type 0
    Leads js q = reach R (nth R j (first R r)) js ≡ q

    pub leads_number : (js : ChildPath) {q : ℕ} → Leads js q → at_path (j ∷ js) ≡ q
    leads_number js p = ap number_of (spot_child R r (words R r) j js) ∙ number_spot R (reach R (nth R j (first R r)) js) ∙ p

    pub leads_child : (js : ChildPath) {q l : ℕ} (i : ℕ) → Leads js q → (q ≡ 0 → ⊥) → is_function (words R q) ≡ false → l ≡ nth R i (first R q) → Leads (js ++ (i ∷ [])) l
    leads_child js {q} i p ne n z = reach_child R (nth R j (first R r)) js i ∙ ap (λ (y : ℕ). child R y i) p ∙ child_some R q i ne n ∙ sym z

    -- a pattern's children
    abbrev Inside : Forest → Type 0
    Inside f = (a : Part) (m x d h q i : ℕ) (js : ChildPath) (env : List ℕ) (A : State) → Leads js q → (q ≡ 0 → ⊥) → is_function (words R q) ≡ false → Link R f i q → d < h
        → Held env m h x A → Holds e c r (inside_steps a m d h (j ∷ js) i (own_tree f)) env A (inside_run e.notes r a x d h q i f A) m (labels_after a d h (own_tree f)) x

    -- a pattern, its children's steps being their run
    pattern_by : (m x d h q : ℕ) (js : ChildPath) (env : List ℕ) (A : State) → Leads js q → (q ≡ 0 → ⊥) → d < h → Held env m h x A → Inside (children R q)
        → let w = words R q in let k = children R q in let ns = cond (is_function w) bare (own_tree k) in
        Holds e c r (pattern_steps m d h (j ∷ js) w ns (λ is. inside_steps (parts w) m (suc d) (grown d h) (j ∷ js) 0 ns is)) env A
        (pattern_run e.notes r x d h q w k (inside_run e.notes r (parts w) x (suc d) (grown d h) q 0 k) A) m (labels_visited d h w k) x
    unfolding pattern_run
    pattern_by m x d h q js env A p ne lt hd ih = go (is_nested w) (is_kind 36 w) refl
      where
        w : Words
        w = words R q

        k : Forest
        k = children R q

        ns : Nodes
        ns = cond (is_function w) bare (own_tree k)

        p₁ : ChildPath
        p₁ = j ∷ js

        D : State
        D = inside_run e.notes r (parts w) x (suc d) (grown d h) q 0 k (table_run r (x + suc d) q w (pattern_size w (own_tree k)) (grown_run d h A))

        nested : is_nested w ≡ true
            → Holds e c r (λ is. taking d h (table_test (m + suc d) p₁ w (own_tree k) (inside_steps (parts w) m (suc d) (grown d h) p₁ 0 (own_tree k) (push_op Pop 0 ∷ is)))) env A
            (emit (mark r (Do Pop 0)) D) m (labels_after (parts w) (suc d) (grown d h) (own_tree k)) x
        nested n =
            let a = taking_goes d h env m x A hd in
            let b = test_holds m (suc d) (grown d h) x q p₁ w (own_tree k) a.past.names (grown_run d h A) (leads_number js p) (grown_deep d h lt) a.held in
            let i = ih (parts w) m x (suc d) (grown d h) q 0 js b.past.names _ p ne (no_function w n) (link_at R (first R q) 0 q refl) (grown_deep d h lt) b.held in
            then_holds a (then_holds b (then_holds i (pop_holds i.past.names D i.held)))

        go : (b i : Bool) → is_nested w ≡ b
            → Holds e c r
            (λ is. cond b (taking d h (table_test (m + suc d) p₁ w ns (inside_steps (parts w) m (suc d) (grown d h) p₁ 0 ns (push_op Pop 0 ∷ is))))
            (cond i (jump JumpPopIfNull (m + d) ∷ access Set p₁ ∷ is) (push_const LoadConst p₁ (lit_of w) ∷ push_op Eq 0 ∷ jump PopJumpIfFalse (m + d) ∷ is))) env A
            (cond b (emit (mark r (Do Pop 0)) D) (cond i (ident_run e.notes r (x + d) q A) (lit_run r (x + d) q w A))) m
            (cond b (labels_after (parts w) (suc d) (grown d h) (own_tree k)) h) x
        go true i q₁ =
            from_holds (λ is. ap (λ (z : Nodes). taking d h (table_test (m + suc d) p₁ w z (inside_steps (parts w) m (suc d) (grown d h) p₁ 0 z (push_op Pop 0 ∷ is))))
            (own_nested w q₁ (own_tree k))) (nested q₁)
        go false true q₁ = ident_holds m d h x q p₁ env A (leads_number js p) lt hd
        go false false q₁ = lit_holds m d h x q p₁ w env A (leads_number js p) lt hd

    -- the children behind the first, and all of them
    inside_more : (l : ℕ) → (l ≡ 0 → ⊥) → Inside (children R l) → Inside (forest R (next R l)) → Inside (tree l (words R l) (children R l) (forest R (next R l)))
    unfolding inside_run
    inside_more l ne ih rest a m x d h q i js env A p nq nf lk lt hd = go a
      where
        w : Words
        w = words R l

        k : Forest
        k = children R l

        s : Forest
        s = forest R (next R l)

        ns : Nodes
        ns = cond (is_function w) bare (own_tree k)

        p₁ : ChildPath
        p₁ = j ∷ js

        v : ℕ
        v = labels_visited d h w k

        q₁ : Leads (js ++ (i ∷ [])) l
        q₁ = leads_child js i p nq nf lk

        led : (a : Part) → Holds e c r (lead a p₁ i w) env A (lead_run r a q i l w A) m h x
        led a = quiet_holds (lead_run r a q i l w) (quiet_lead r a q i l w)
            (λ is. lead_goes a p₁ i q l w (leads_number js p) (leads_number (js ++ (i ∷ [])) q₁) is env A) hd

        -- a key is no pattern
        skip : Holds e c r (λ is. lead key p₁ i w (inside_steps value m d h p₁ (suc i) (own_tree s) is)) env A
            (inside_run e.notes r value x d h q (suc i) s (lead_run r key q i l w A)) m (labels_after value d h (own_tree s)) x
        skip =
            let b = led key in
            then_holds b (rest value m x d h q (suc i) js b.past.names _ p nq nf (link_next R l i q lk) lt b.held)

        test : (a : Part)
            → Holds e c r
            (λ is. lead a p₁ i w (pattern_steps m d h (j ∷ (js ++ (i ∷ []))) w ns (λ is. inside_steps (parts w) m (suc d) (grown d h) (j ∷ (js ++ (i ∷ []))) 0 ns is)
            (inside_steps (next_part a) m d v p₁ (suc i) (own_tree s) is))) env A
            (inside_run e.notes r (next_part a) x d v q (suc i) s
            (pattern_run e.notes r x d h l w k (inside_run e.notes r (parts w) x (suc d) (grown d h) l 0 k) (lead_run r a q i l w A))) m
            (labels_after (next_part a) d v (own_tree s)) x
        test a =
            let b = led a in
            let y = pattern_by m x d h l (js ++ (i ∷ [])) b.past.names (lead_run r a q i l w A) q₁ ne lt b.held ih in
            then_holds b (then_holds y (rest (next_part a) m x d v q (suc i) js y.past.names _ p nq nf (link_next R l i q lk)
            (omega (arith, visited_more d h w k, lt)) y.held))

        -- the same by the labels of the tree without what is inside a Function
        own : (a : Part)
            → Holds e c r
            (λ is. lead a p₁ i w (pattern_steps m d h (j ∷ (js ++ (i ∷ []))) w ns (λ is. inside_steps (parts w) m (suc d) (grown d h) (j ∷ (js ++ (i ∷ []))) 0 ns is)
            (inside_steps (next_part a) m d (cond (is_nested w) (labels_after (parts w) (suc d) (grown d h) ns) h) p₁ (suc i) (own_tree s) is))) env A
            (inside_run e.notes r (next_part a) x d v q (suc i) s
            (pattern_run e.notes r x d h l w k (inside_run e.notes r (parts w) x (suc d) (grown d h) l 0 k) (lead_run r a q i l w A))) m
            (labels_after (next_part a) d (cond (is_nested w) (labels_after (parts w) (suc d) (grown d h) ns) h) (own_tree s)) x
        own a =
            from_holds (λ is. ap (λ (n : ℕ). lead a p₁ i w
            (pattern_steps m d h (j ∷ (js ++ (i ∷ []))) w ns (λ is. inside_steps (parts w) m (suc d) (grown d h) (j ∷ (js ++ (i ∷ []))) 0 ns is)
            (inside_steps (next_part a) m d n p₁ (suc i) (own_tree s) is))) (own_labels d h w k))
            (to_holds refl (ap (λ (n : ℕ). labels_after (next_part a) d n (own_tree s)) (own_labels d h w k)) (test a))

        go : (a : Part) → Holds e c r (inside_steps a m d h p₁ i (node w ns (own_tree s))) env A (inside_run e.notes r a x d h q i (tree l w k s) A) m
            (labels_after a d h (node w ns (own_tree s))) x
        go item = own item
        go key = skip
        go value = own value

    inside_none : Inside none
    unfolding inside_run
    inside_none a m x d h q i js env A p nq nf lk lt hd = quiet_holds (λ B. B) quiet_none (λ is. refl) hd

    -- the pattern at record q
    pub pattern_goes : (m x d h q : ℕ) (js : ChildPath) (env : List ℕ) (A : State) → Leads js q → (q ≡ 0 → ⊥) → d < h → Held env m h x A
        → let w = words R q in let k = children R q in let ns = cond (is_function w) bare (own_tree k) in
        Holds e c r (pattern_steps m d h (j ∷ js) w ns (λ is. inside_steps (parts w) m (suc d) (grown d h) (j ∷ js) 0 ns is)) env A
        (pattern_run e.notes r x d h q w k (inside_run e.notes r (parts w) x (suc d) (grown d h) q 0 k) A) m (labels_visited d h w k) x
    pattern_goes m x d h q js env A p ne lt hd =
        pattern_by m x d h q js env A p ne lt hd (by-records R Inside inside_none (λ l. inside_more (suc l) (λ z. omega arith)) (first R q))
