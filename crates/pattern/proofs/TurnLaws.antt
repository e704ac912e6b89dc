-- The loops along a Table's and a List's children, and what stands around them. Assumes nothing.
use mathlib.Core.Path.{◌≡◌, refl, sym, ap, ap₂, subst, ◌∙◌}
use mathlib.Core.Bool.{Bool, true, false, cond}
use mathlib.Core.List.{List}
use mathlib.Core.Logic.{inl, inr}
use Prim.Native.Nat.{ℕ, zero, suc, ◌+◌, ◌-◌, ◌/◌, ◌≤◌, ◌<◌}
use native.Mathlib.Omega.{arith}
use lib.Dec.{ltb}
use borrow.Author.Tests.{ltb-false}
use Rattle.opcode.specs.declared.index.LabelId.{LabelId}
use Rattle.opcode.specs.Words.{pair_of}
use Rattle.tables.specs.Record.{Words, words, size, is_kind}
use Rattle.tables.specs.Forest.{Forest, Nodes, first, next, forest, children, own_tree}
use Rattle.tables.proofs.ForestLaws.{Onward, first_onward, next_onward, next_zero, forest_absent, forest_record}
use Rattle.pool.specs.Value.{int}
use Rattle.rules.specs.Marker.{Pop, Do, mark}
use Rattle.rules.specs.Step.{width}
use Rattle.rules.specs.Patterns.{Part, item, key, value, parts, is_nested, grown, labels_after, pattern_size}
use Rattle.rules.specs.Run.{State, emit, bump}
use Rattle.context.specs.Words.{limit, cap, more}
use Rattle.context.specs.Sinks.{pushed}
use Rattle.context.specs.Rep.{lent_words, SameSizes, Sim}
use Rattle.context.specs.declared.Context.{Context}
use Rattle.context.proofs.Basics.{on_true}
use Rattle.context.proofs.RepLaws.{then, resim, moves_sim, stay, bumps, labelled}
use Rattle.context.proofs.MarkLaws.{said}
use Rattle.context.proofs.SizeLaws.{pushed_sizes, taken_sizes}
use Rattle.plain.specs.Runs.{item_run}
use Rattle.plain.specs.Leaves.{GetsItem}
use Rattle.plain.proofs.GoLaws.{cap_after}
use Rattle.plain.proofs.CountLaws.{width_most}
use Rattle.pattern.specs.declared.clean.CleanStack.{CleanStack}
use Rattle.pattern.specs.Tests.{lit_of, labels_visited, first_labels, table_run, pattern_run, inside_run, first_run}
use Rattle.pattern.specs.Promises.{WithLabel, Deepens, Deep, VisitsPattern}
use Rattle.pattern.proofs.PatternLaws.{own_labels}

-- ---- record numbers rise towards the table's length

abbrev pub rank : List ℕ → ℕ → ℕ
rank recs zero = 0
rank recs (suc c) = suc (size recs - suc c)

pub rank_falls : (recs : List ℕ) (r c : ℕ) → Onward recs r c → (r ≡ 0 → ⊥) → rank recs c < rank recs r
rank_falls recs zero c l ne = absurd (ne refl)
rank_falls recs (suc r) zero l ne = omega arith
rank_falls recs (suc r) (suc c) (inl e) ne = absurd (omega arith)
rank_falls recs (suc r) (suc c) (inr (a, b)) ne = omega arith

pub rank_next : (recs : List ℕ) (c x : ℕ) → x ≡ next recs c → rank recs x ≤ rank recs c
unfolding next
rank_next recs zero x e = let z : rank recs x ≡ 0 = ap (rank recs) e in omega arith
rank_next recs (suc c) x e =
    let z : rank recs (next recs (suc c)) < rank recs (suc c) = rank_falls recs (suc c) (next recs (suc c)) (next_onward recs (suc c)) (λ i. omega arith) in
    let y : rank recs x ≡ rank recs (next recs (suc c)) = ap (rank recs) e in
    omega arith

pub rank_less : (recs : List ℕ) (c x : ℕ) → (c ≡ 0 → ⊥) → x ≡ next recs c → rank recs x < rank recs c
rank_less recs c x ne e =
    let z : rank recs (next recs c) < rank recs c = rank_falls recs c (next recs c) (next_onward recs c) ne in
    let y : rank recs x ≡ rank recs (next recs c) = ap (rank recs) e in
    omega arith

pub onward_next : (recs : List ℕ) (q c x : ℕ) → Onward recs q c → (c ≡ 0 → ⊥) → x ≡ next recs c → Onward recs q x
onward_next recs q c x (inl z) ne e = absurd (ne z)
onward_next recs q c x (inr (a, b)) ne e = subst (Onward recs q) (sym e) (go (next_onward recs c))
  where
    go : Onward recs c (next recs c) → Onward recs q (next recs c)
    go (inl z) = inl z
    go (inr (i, j)) = inr (omega arith, j)

onward_past : (recs : List ℕ) (q c x : ℕ) → Onward recs q c → x ≡ next recs c → Onward recs q x
unfolding next
onward_past recs q zero x l e = inl e
onward_past recs q (suc c) x l e = onward_next recs q (suc c) x l (λ z. omega arith) e

-- ---- one child of a pattern, by record numbers

module _ (recs notes : List ℕ) (r : ℕ) where
  pub first_some : (x d h c : ℕ) (A : State) → (c ≡ 0 → ⊥)
      → first_run notes r x d h (forest recs c) A
      ≡ pattern_run notes r x d h c (words recs c) (children recs c) (inside_run notes r (parts (words recs c)) x (suc d) (grown d h) c 0 (children recs c)) A
  first_some x d h zero A ne = absurd (ne refl)
  first_some x d h (suc c) A ne = ap (λ (f : Forest). first_run notes r x d h f A) (forest_record recs c)

  inside_none : (a : Part) (x d h q i c : ℕ) (A : State) → c ≡ 0 → inside_run notes r a x d h q i (forest recs c) A ≡ A
  unfolding inside_run
  inside_none a x d h q i c A e =
      ap (λ (l : ℕ). inside_run notes r a x d h q i (forest recs l) A) e ∙ ap (λ (f : Forest). inside_run notes r a x d h q i f A) (forest_absent recs)

  item_turn : (x d h q i c : ℕ) (A : State) → (c ≡ 0 → ⊥)
      → inside_run notes r item x d h q i (forest recs c) A
      ≡ inside_run notes r item x d (first_labels d h (forest recs c)) q (suc i) (forest recs (next recs c)) (first_run notes r x d h (forest recs c) (item_run r q (int i) A))
  unfolding inside_run
  item_turn x d h q i zero A ne = absurd (ne refl)
  item_turn x d h q i (suc c) A ne =
      subst (λ (f : Forest). inside_run notes r item x d h q i f A
      ≡ inside_run notes r item x d (first_labels d h f) q (suc i) (forest recs (next recs (suc c))) (first_run notes r x d h f (item_run r q (int i) A)))
      (sym (forest_record recs c)) refl

  key_turn : (x d h q i c : ℕ) (A : State) → (c ≡ 0 → ⊥)
      → inside_run notes r key x d h q i (forest recs c) A
      ≡ inside_run notes r value x d h q (suc i) (forest recs (next recs c)) (item_run r c (lit_of (words recs c)) A)
  unfolding inside_run
  key_turn x d h q i zero A ne = absurd (ne refl)
  key_turn x d h q i (suc c) A ne = ap (λ (f : Forest). inside_run notes r key x d h q i f A) (forest_record recs c)

  -- an odd child has no pattern
  value_turn : (x d h q i c : ℕ) (A : State)
      → inside_run notes r value x d h q i (forest recs c) A
      ≡ inside_run notes r key x d (first_labels d h (forest recs c)) q (suc i) (forest recs (next recs c)) (first_run notes r x d h (forest recs c) A)
  unfolding inside_run next
  value_turn x d h q i zero A =
      subst (λ (f : Forest). inside_run notes r value x d h q i f A ≡ inside_run notes r key x d (first_labels d h f) q (suc i) f (first_run notes r x d h f A))
      (sym (forest_absent recs)) refl
  value_turn x d h q i (suc c) A =
      subst (λ (f : Forest). inside_run notes r value x d h q i f A
      ≡ inside_run notes r key x d (first_labels d h f) q (suc i) (forest recs (next recs (suc c))) (first_run notes r x d h f A))
      (sym (forest_record recs c)) refl

-- the labels that they take
module _ (recs : List ℕ) where
  after_none : (a : Part) (d h c : ℕ) → c ≡ 0 → labels_after a d h (own_tree (forest recs c)) ≡ h
  after_none a d h c e = ap (λ (l : ℕ). labels_after a d h (own_tree (forest recs l))) e ∙ ap (λ (f : Forest). labels_after a d h (own_tree f)) (forest_absent recs)

  item_after : (d h c : ℕ) → (c ≡ 0 → ⊥)
      → labels_after item d h (own_tree (forest recs c)) ≡ labels_after item d (first_labels d h (forest recs c)) (own_tree (forest recs (next recs c)))
  item_after d h zero ne = absurd (ne refl)
  item_after d h (suc c) ne =
      subst (λ (f : Forest). labels_after item d h (own_tree f) ≡ labels_after item d (first_labels d h f) (own_tree (forest recs (next recs (suc c)))))
      (sym (forest_record recs c))
      (ap (λ (n : ℕ). labels_after item d n (own_tree (forest recs (next recs (suc c))))) (own_labels d h (words recs (suc c)) (children recs (suc c))))

  key_after : (d h c : ℕ) → (c ≡ 0 → ⊥) → labels_after key d h (own_tree (forest recs c)) ≡ labels_after value d h (own_tree (forest recs (next recs c)))
  key_after d h zero ne = absurd (ne refl)
  key_after d h (suc c) ne = ap (λ (f : Forest). labels_after key d h (own_tree f)) (forest_record recs c)

  value_after : (d h c : ℕ)
      → labels_after value d h (own_tree (forest recs c)) ≡ labels_after key d (first_labels d h (forest recs c)) (own_tree (forest recs (next recs c)))
  unfolding next
  value_after d h zero =
      subst (λ (f : Forest). labels_after value d h (own_tree f) ≡ labels_after key d (first_labels d h f) (own_tree f)) (sym (forest_absent recs)) refl
  value_after d h (suc c) =
      subst (λ (f : Forest). labels_after value d h (own_tree f) ≡ labels_after key d (first_labels d h f) (own_tree (forest recs (next recs (suc c)))))
      (sym (forest_record recs c))
      (ap (λ (n : ℕ). labels_after key d n (own_tree (forest recs (next recs (suc c))))) (own_labels d h (words recs (suc c)) (children recs (suc c))))

-- ---- the loops: of the pattern q's children those before the record c are tested, and what tests the others tests all

-- a word can number the records, and the children's depth is less than the pattern's number
abbrev pub Fits : List ℕ → ℕ → ℕ → Type 0
Fits recs d q = (size recs < limit) × (d < q)

pub record Turn (recs notes : List ℕ) (a : Part) (q d : ℕ) (w₀ : Context) (c₀ : ℕ) (s₀ : CleanStack) (w : Context) (c i : ℕ) (s : CleanStack) : Type 0 where
  pub first : s.first ≡ s₀.first
  pub link : Onward recs q c
  pub fall : rank recs c ≤ rank recs c₀
  pub few : (c ≡ 0 → ⊥) → i < c
  pub taken : Fits recs d q → labels_after a d s₀.taken (own_tree (forest recs c₀)) ≡ labels_after a d s.taken (own_tree (forest recs c))
  pub work : Fits recs d q → (r x : ℕ) → s₀.first.0 ≡ cap x → (w' : Context)
      → Sim (lent_words recs notes) w w' (λ v. inside_run notes r a x d s.taken q i (forest recs c))
      → Sim (lent_words recs notes) w₀ w' (λ v. inside_run notes r a x d s₀.taken q 0 (forest recs c₀))
  pub sizes : SameSizes w₀ w

-- of a Table, whose children are not counted
pub record TableTurn (recs notes : List ℕ) (q d : ℕ) (w₀ : Context) (c₀ : ℕ) (s₀ : CleanStack) (w : Context) (c : ℕ) (s : CleanStack) : Type 0 where
  pub i : ℕ
  pub turn : Turn recs notes key q d w₀ c₀ s₀ w c i s

-- a child is deep enough
child_deep : (recs : List ℕ) (d q c : ℕ) → Onward recs q c → Fits recs d q → Deep recs d c
child_deep recs d q c (inl e) (m, lt) = (m, inl e)
child_deep recs d q c (inr (a, b)) (m, lt) = (m, inr (omega arith, b))

more_exact : (n : ℕ) → n < limit → more n ≡ suc n
more_exact n lt = omega arith

one_more : (recs : List ℕ) (q c i n : ℕ) → Onward recs q c → (c ≡ 0 → ⊥) → size recs < limit → i < c → n ≡ more i → n ≡ suc i
one_more recs q c i n (inl z) ne m lt e = absurd (ne z)
one_more recs q c i n (inr (a, b)) ne m lt e = e ∙ more_exact i (omega arith)

rises : (recs : List ℕ) (c x i n : ℕ) → (c ≡ 0 → ⊥) → x ≡ next recs c → i < c → n ≤ suc i → (x ≡ 0 → ⊥) → n < x
rises recs c x i n ne e lt le nx = go (next_onward recs c)
  where
    go : Onward recs c (next recs c) → n < x
    go (inl z) = absurd (nx (e ∙ z))
    go (inr (a, b)) = omega arith

more_least : (i : ℕ) → more i ≤ suc i
more_least i = omega arith

twice : (recs : List ℕ) (c l x i : ℕ) → (c ≡ 0 → ⊥) → l ≡ next recs c → x ≡ next recs l → i < c → (x ≡ 0 → ⊥) → suc (suc i) < x
twice recs c l x i ne el ex lt nx =
    let nl : l ≡ 0 → ⊥ = λ z. nx (ex ∙ sym (next_zero recs l z)) in
    rises recs l x (suc i) (suc (suc i)) nl ex (rises recs c l i (suc i) ne el lt (omega arith) nl) (omega arith) nx

same_inside : (recs notes : List ℕ) (a : Part) (r y d q : ℕ) {h h' i i' c c' : ℕ} (A : State) → h ≡ h' → i ≡ i' → c ≡ c'
    → inside_run notes r a y d h q i (forest recs c) A ≡ inside_run notes r a y d h' q i' (forest recs c') A
same_inside recs notes a r y d q {h} {h'} {i} {i'} {c} A eh ei ec =
    ap₂ (λ (k l : ℕ). inside_run notes r a y d k q l (forest recs c) A) eh ei ∙ ap (λ (k : ℕ). inside_run notes r a y d h' q i' (forest recs k) A) ec

module _ (recs notes : List ℕ) {q d : ℕ} where
  pub turn_holds : (a : Part) (w : Context) (s : CleanStack) {c : ℕ} → c ≡ first recs q → Turn recs notes a q d w c s w c 0 s
  turn_holds a w s {c} e =
      record {
        first = refl;
        link = subst (Onward recs q) (sym e) (first_onward recs q);
        fall = omega arith;
        few = λ ne. omega (arith, ne);
        taken = λ f. refl;
        work = λ f r x z w' h. h;
        sizes = refl;
      }

  module _ {w₀ w w₁ w₂ : Context} {c₀ c x i : ℕ} {s₀ s s' : CleanStack} where
    -- one item of a List
    pub turn_item : {j : ℕ} → Turn recs notes item q d w₀ c₀ s₀ w c i s → (c ≡ 0 → ⊥) → GetsItem recs w w₁ (int i) → VisitsPattern recs notes w₁ w₂ c d s s'
        → x ≡ next recs c → j ≡ more i
        → Turn recs notes item q d w₀ c₀ s₀ w₂ x j s'
    turn_item {j} t ne g k ex ej =
        record {
          first = k.first ∙ t.first;
          link = onward_next recs q c x t.link ne ex;
          fall = omega (arith, rank_next recs c x ex, t.fall);
          few = rises recs c x i j ne ex (t.few ne) (omega (arith, ej, more_least i));
          taken = λ f.
              let h = k.taken (child_deep recs d q c t.link f) in
              t.taken f ∙ item_after recs d s.taken c ne
              ∙ ap₂ (λ (n l : ℕ). labels_after item d n (own_tree (forest recs l))) (sym h) (sym ex);
          work = λ f r y e w' z.
              let deep = child_deep recs d q c t.link f in
              let tested = k.visits deep r y (ap (λ (l : LabelId). l.0) t.first ∙ e) in
              t.work f r y e w' (resim (λ v sc A.
              item_turn recs notes r y d s.taken q i c A ne
              ∙ same_inside recs notes item r y d q _ (sym (k.taken deep)) (sym (one_more recs q c i j t.link ne f.0 (t.few ne) ej)) (sym ex))
              (then (then (moves_sim (g.moves r q)) tested) z));
          sizes = k.sizes ∙ (g.moves q q).sizes ∙ t.sizes;
        }

    -- one pair of a Table; the last may lack its pattern
    pub turn_pair : {l : ℕ} → Turn recs notes key q d w₀ c₀ s₀ w c i s → (c ≡ 0 → ⊥) → l ≡ next recs c → GetsItem recs w w₁ (lit_of (words recs c))
        → VisitsPattern recs notes w₁ w₂ l d s s' → x ≡ next recs l
        → Turn recs notes key q d w₀ c₀ s₀ w₂ x (suc (suc i)) s'
    turn_pair {l} t ne el g k ex =
        let at : Onward recs q l = onward_next recs q c l t.link ne el in
        record {
          first = k.first ∙ t.first;
          link = onward_past recs q l x at ex;
          fall = omega (arith, rank_next recs c l el, rank_next recs l x ex, t.fall);
          few = twice recs c l x i ne el ex (t.few ne);
          taken = λ f.
              let h = k.taken (child_deep recs d q l at f) in
              t.taken f ∙ key_after recs d s.taken c ne ∙ ap (λ (y : ℕ). labels_after value d s.taken (own_tree (forest recs y))) (sym el)
              ∙ value_after recs d s.taken l ∙ ap₂ (λ (n y : ℕ). labels_after key d n (own_tree (forest recs y))) (sym h) (sym ex);
          work = λ f r y e w' z.
              let deep = child_deep recs d q l at f in
              let tested = k.visits deep r y (ap (λ (m : LabelId). m.0) t.first ∙ e) in
              t.work f r y e w' (resim (λ v sc A.
              key_turn recs notes r y d s.taken q i c A ne
              ∙ ap (λ (n : ℕ). inside_run notes r value y d s.taken q (suc i) (forest recs n) (item_run r c (lit_of (words recs c)) A)) (sym el)
              ∙ value_turn recs notes r y d s.taken q (suc i) l (item_run r c (lit_of (words recs c)) A)
              ∙ same_inside recs notes key r y d q _ (sym (k.taken deep)) refl (sym ex))
              (then (then (moves_sim (g.moves r c)) tested) z));
          sizes = k.sizes ∙ (g.moves q q).sizes ∙ t.sizes;
        }

-- ---- a Table or List: its label, its tests, its children and a Pop

-- the words count as the rules do, as long as the depth is a word
grown_exact : (d h : ℕ) → suc d < limit → cond (ltb (suc d) h) h (more h) ≡ grown d h
grown_exact d h lt = go (ltb (suc d) h) refl
  where
    go : (b : Bool) → ltb (suc d) h ≡ b → cond b h (more h) ≡ cond b h (suc h)
    go true e = refl
    go false e = more_exact h (let z : h ≤ suc d = ltb-false (suc d) h e in omega arith)

bumps_grown : (b : Bool) (A : State) → cond b A (bump A) ≡ bumps (cond b 0 1) A
bumps_grown true A = refl
bumps_grown false A = refl

size_least : (w : Words) (k : Nodes) → pattern_size w k ≤ width k
size_least w k = go (is_kind 37 w)
  where
    go : (b : Bool) → cond b (width k / 2) (width k) ≤ width k
    go true = omega arith
    go false = omega arith

-- the run of a nested pattern, its numbers by other names
nested_run : (recs notes : List ℕ) (r x d h q n g D c : ℕ) (a : Part) (A : State) → (q ≡ 0 → ⊥) → is_nested (words recs q) ≡ true → parts (words recs q) ≡ a
    → n ≡ pattern_size (words recs q) (own_tree (children recs q)) → g ≡ grown d h → D ≡ suc d → c ≡ first recs q
    → first_run notes r x d h (forest recs q) A
    ≡ emit (mark r (Do Pop 0)) (inside_run notes r a x D g q 0 (forest recs c) (table_run r (x + suc d) q (words recs q) n (bumps (cond (ltb D h) 0 1) A)))
unfolding pattern_run
nested_run recs notes r x d h q n g D c a A nq en ea es eg eD ec =
    first_some recs notes r x d h q A nq ∙ on_true (is_nested w) _ _ en
    ∙ ap (λ (B : State). run (parts w) (suc d) (grown d h) (first recs q) (pattern_size w (own_tree (children recs q))) B) (bumps_grown (ltb (suc d) h) A)
    ∙ ap₂ (λ (p : Part) (k : ℕ). run p k (grown d h) (first recs q) (pattern_size w (own_tree (children recs q))) (bumps (cond (ltb k h) 0 1) A)) ea (sym eD)
    ∙ ap₂ (λ (i f : ℕ). run a D i f (pattern_size w (own_tree (children recs q))) (bumps (cond (ltb D h) 0 1) A)) (sym eg) (sym ec)
    ∙ ap (λ (m : ℕ). run a D g c m (bumps (cond (ltb D h) 0 1) A)) (sym es)
  where
    w : Words
    w = words recs q

    run : Part → ℕ → ℕ → ℕ → ℕ → State → State
    run p k i f m B = emit (mark r (Do Pop 0)) (inside_run notes r p x k i q 0 (forest recs f) (table_run r (x + suc d) q w m B))

deepened_sizes : {w w' : Context} {s s' : CleanStack} {d : ℕ} → Deepens w w' s s' d → SameSizes w w'
deepened_sizes {s = s} {d = d} deep = taken_sizes {n = cond (ltb d s.taken) 0 1} (record { label = refl; context = deep.context })

pub nested_sizes : {recs notes : List ℕ} {q D l c₀ c i : ℕ} {a : Part} {f : ℕ → ℕ → State → State} {s s₁ s₂ : CleanStack} {w w₁ w₂ w₃ w₄ : Context} → Deepens w w₁ s s₁ D
    → WithLabel recs w₁ w₂ l f → Turn recs notes a q D w₂ c₀ s₁ w₃ c i s₂ → w₄ ≡ pushed (pair_of 0 0) w₃ → SameSizes w w₄
nested_sizes deep test t pop = pushed_sizes _ _ pop ∙ t.sizes ∙ test.sizes ∙ deepened_sizes deep

module _ (recs notes : List ℕ) {q d D n l c₀ c i : ℕ} {s s₁ s₂ : CleanStack} {w w₁ w₂ w₃ w₄ : Context} where
  pub nested_visits : (a : Part) → (q ≡ 0 → ⊥) → parts (words recs q) ≡ a → is_nested (words recs q) ≡ true → c₀ ≡ first recs q
      → n ≡ cap (pattern_size (words recs q) (own_tree (children recs q))) → D ≡ more d → Deepens w w₁ s s₁ D → l ≡ cap (s₁.first.0 + D)
      → ((p : ℕ) → WithLabel recs w₁ w₂ l (λ r y. table_run r y p (words recs q) n)) → Turn recs notes a q D w₂ c₀ s₁ w₃ c i s₂
      → c ≡ 0 → w₄ ≡ pushed (pair_of 0 0) w₃ → VisitsPattern recs notes w w₄ q d s s₂
  nested_visits a nq ea en e₀ es eD deep el test t ec pop =
      record {
        first = t.first ∙ deep.first;
        taken = λ f.
            sym (after_none recs a D s₂.taken c ec) ∙ sym (t.taken (fits f))
            ∙ ap (λ (k : ℕ). labels_after a D s₁.taken (own_tree (forest recs k))) e₀
            ∙ ap₂ (λ (k h : ℕ). labels_after a k h (own_tree (children recs q))) (depth f) (labels f)
            ∙ ap (λ (p : Part). labels_after p (suc d) (grown d s.taken) (own_tree (children recs q))) (sym ea)
            ∙ sym (on_true (is_nested (words recs q)) _ _ en) ∙ some q nq;
        visits = λ f r x e.
            let label : l ≡ cap (x + suc d)
            = el ∙ ap (λ (k : LabelId). cap (k.0 + D)) deep.first ∙ cap_after s.first.0 D x e ∙ ap (λ (k : ℕ). cap (x + k)) (depth f) in
            let opened : Sim (lent_words recs notes) w w₁ (λ v. bumps (cond (ltb D s.taken) 0 1))
            = record { sim = λ z v o A h. labelled {n = cond (ltb D s.taken) 0 1} (record { label = refl; context = deep.context }) h; sizes = deepened_sizes deep } in
            let inside = t.work (fits f) r x (ap (λ (k : LabelId). k.0) deep.first ∙ e) w₃
            (resim (λ v z A. inside_none recs notes r a x D s₂.taken q i c A ec) stay) in
            let closed : Sim (lent_words recs notes) w₃ w₄ (λ v. emit (mark r (Do Pop 0)))
            = record { sim = λ z v o A h. said r Pop 0 refl refl pop h; sizes = pushed_sizes _ _ pop } in
            resim (λ v z A. nested_run recs notes r x d s.taken q n s₁.taken D c₀ a A nq en ea (count f.0) (labels f) (depth f) e₀)
            (then (then (then opened (moves_sim ((test q).moves r (x + suc d) label))) inside) closed);
        sizes = nested_sizes deep (test q) t pop;
      }
    where
      some : (q : ℕ) → (q ≡ 0 → ⊥) → labels_visited d s.taken (words recs q) (children recs q) ≡ first_labels d s.taken (forest recs q)
      some zero ne = absurd (ne refl)
      some (suc q) ne = sym (ap (first_labels d s.taken) (forest_record recs q))

      within : Deep recs d q → suc d < limit
      within (m, inl e) = absurd (nq e)
      within (m, inr (x, y)) = omega arith

      depth : Deep recs d q → D ≡ suc d
      depth f = eD ∙ more_exact d (omega (arith, within f))

      fits : Deep recs d q → Fits recs D q
      fits (m, inl e) = absurd (nq e)
      fits (m, inr (x, y)) = (m, omega (arith, depth (m, inr (x, y))))

      labels : Deep recs d q → s₁.taken ≡ grown d s.taken
      labels f = deep.taken ∙ ap (λ (k : ℕ). cond (ltb k s.taken) s.taken (more s.taken)) (depth f) ∙ grown_exact d s.taken (within f)

      count : size recs < limit → n ≡ pattern_size (words recs q) (own_tree (children recs q))
      count m = es ∙ (let z = size_least (words recs q) (own_tree (children recs q)) in omega (arith, z, width_most recs (first recs q)))
