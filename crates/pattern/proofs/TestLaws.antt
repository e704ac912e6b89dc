-- One pattern of a Case, and the loops along a Case's patterns and along the Cases. Assumes nothing.
use mathlib.Core.Path.{◌≡◌, refl, sym, ap, ap₂, subst, ◌∙◌}
use mathlib.Core.Bool.{Bool, true, false, cond}
use mathlib.Core.List.{List}
use mathlib.Core.Logic.{inl, inr}
use Prim.Native.Nat.{ℕ, zero, suc, ◌+◌, ◌-◌, ◌≤◌, ◌<◌}
use native.Mathlib.Omega.{arith}
use Rattle.opcode.specs.declared.index.LabelId.{LabelId}
use Rattle.opcode.specs.Words.{pair_of}
use Rattle.tables.specs.Record.{word, words, size, is_function}
use Rattle.tables.specs.Forest.{Forest, none, tree, first, next, forest, children}
use Rattle.tables.proofs.ForestLaws.{Onward, first_onward, forest_absent, forest_record}
use Rattle.rules.specs.Marker.{Jump, Copy, Pop, To, Do, mark}
use Rattle.rules.specs.Run.{State, labels, emit, bump}
use Rattle.context.specs.Words.{cap, more}
use Rattle.context.specs.Sinks.{pushed}
use Rattle.context.specs.Rep.{lent_words, SameSizes, Sim}
use Rattle.context.specs.declared.Context.{Context}
use Rattle.context.specs.Does.{child}
use Rattle.context.proofs.Basics.{more_cap}
use Rattle.context.proofs.RepLaws.{given, then, resim, stay, label, labelled}
use Rattle.context.proofs.MarkLaws.{jumped, said}
use Rattle.context.proofs.SizeLaws.{pushed_sizes, taken_sizes}
use Rattle.pattern.specs.declared.clean.CleanStack.{CleanStack}
use Rattle.pattern.specs.Tests.{own, labels_visited, first_labels, first_run, cleanup_run, test_run, case_run, cases_run}
use Rattle.pattern.specs.Promises.{Begins, Cleans, Deep, VisitsPattern, TestsPattern, TestsCase, Tests}
use Rattle.pattern.proofs.TurnLaws.{onward_next}

-- ---- one pattern

module _ (recs notes : List ℕ) where
  first_tree : (r x d h q : ℕ) (A : State) → (q ≡ 0 → ⊥)
      → first_run notes r x d h (tree q (words recs q) (children recs q) none) A ≡ first_run notes r x d h (forest recs q) A
  first_tree r x d h zero A ne = absurd (ne refl)
  first_tree r x d h (suc q) A ne = sym (ap (λ (f : Forest). first_run notes r x d h f A) (forest_record recs q))

  first_count : (d h q : ℕ) → (q ≡ 0 → ⊥) → labels_visited d h (words recs q) (children recs q) ≡ first_labels d h (forest recs q)
  first_count d h zero ne = absurd (ne refl)
  first_count d h (suc q) ne = sym (ap (first_labels d h) (forest_record recs q))

  module _ {q l : ℕ} {s s' : CleanStack} {w w₁ w₂ w₃ w₄ w₅ w₆ : Context} where
    pub pattern_tests : Begins w w₁ s → w₂ ≡ pushed (pair_of 1 1) w₁ → VisitsPattern recs notes w₂ w₃ q 0 s s'
        → w₄ ≡ pushed (pair_of 0 0) w₃ → w₅ ≡ pushed (pair_of 40 l) w₄ → Cleans w₅ w₆ s'
        → TestsPattern recs notes w w₆ q l
    unfolding test_run
    pattern_tests b copy k pop jump clean =
        let sizes = (clean.cleans recs).sizes ∙ pushed_sizes _ _ jump ∙ pushed_sizes _ _ pop ∙ k.sizes ∙ pushed_sizes _ _ copy ∙ taken_sizes b.label in
        record {
          tests = λ lt sz r y e. record {
            sim = λ z v o₀ A h.
                let ne : q ≡ 0 → ⊥ = λ n. omega arith in
                let x = labels A in
                let deep : Deep recs 0 q = (z.small, inr (lt, sz)) in
                let at : s.first.0 ≡ cap x = label b.label h in
                let h₁ = said r Copy 1 refl refl copy (labelled b.label h) in
                let h₂ = (k.visits deep r x at).sim z v o₀ _ h₁ in
                let h₃ = jumped r Jump y refl e jump (said r Pop 0 refl refl pop h₂) in
                let h₄ = ((clean.cleans recs).moves r x (ap (λ (i : LabelId). i.0) k.first ∙ at)).moves v o₀ _ h₃ in
                let taken : labels_visited 0 1 (words recs q) (children recs q) ≡ s'.taken
                = first_count 0 1 q ne ∙ ap (λ (n : ℕ). first_labels 0 n (forest recs q)) (sym b.taken) ∙ sym (k.taken deep) in
                let B = emit (mark r (Do Copy 1)) (bump A) in
                given (ap₂ (λ (n : ℕ) (C : State). cleanup_run r x (n - 1) (emit (mark r (To Jump y)) (emit (mark r (Do Pop 0)) C))) taken
                (first_tree r x 0 1 q B ne ∙ ap (λ (n : ℕ). first_run notes r x 0 n (forest recs q) B) (sym b.taken))) h₄;
            sizes = sizes;
          };
          sizes = sizes;
        }

  -- ---- the patterns of the Case q: those before the record p are tested, and what tests the others tests all

  pub record CaseTurn (q l n : ℕ) (w₀ : Context) (p₀ : ℕ) (w : Context) (p i : ℕ) : Type 0 where
    pub range : i ≤ n
    pub link : Onward recs q p
    pub work : (q ≡ 0 → ⊥) → (r y : ℕ) → l ≡ cap y → (w' : Context) → Sim (lent_words recs notes) w w' (λ v. case_run notes r y (n - i) (forest recs p))
        → Sim (lent_words recs notes) w₀ w' (λ v. case_run notes r y n (forest recs p₀))
    pub sizes : SameSizes w₀ w

  child_onward : (q p : ℕ) → p ≡ child recs q 0 → Onward recs q p
  child_onward zero p e = inl e
  child_onward (suc q) p e = go (is_function (words recs (suc q))) e
    where
      go : (b : Bool) → p ≡ cond b 0 (first recs (suc q)) → Onward recs (suc q) p
      go true z = inl z
      go false z = subst (Onward recs (suc q)) (sym z) (first_onward recs (suc q))

  own_child : (q p : ℕ) → (q ≡ 0 → ⊥) → p ≡ child recs q 0 → own (words recs q) (children recs q) ≡ forest recs p
  own_child zero p ne e = absurd (ne refl)
  own_child (suc q) p ne e = go (is_function (words recs (suc q))) e
    where
      go : (b : Bool) → p ≡ cond b 0 (first recs (suc q)) → cond b none (children recs (suc q)) ≡ forest recs p
      go true z = sym (ap (forest recs) z ∙ forest_absent recs)
      go false z = sym (ap (forest recs) z)

  case_none : (r y n p : ℕ) (A : State) → p ≡ 0 → case_run notes r y n (forest recs p) A ≡ A
  unfolding case_run
  case_none r y n p A e = ap (λ (x : ℕ). case_run notes r y n (forest recs x) A) e ∙ ap (λ (f : Forest). case_run notes r y n f A) (forest_absent recs)

  case_zero : (r y n : ℕ) (f : Forest) (A : State) → n ≡ 0 → case_run notes r y n f A ≡ A
  unfolding case_run
  case_zero r y zero none A e = refl
  case_zero r y zero (tree l w k s) A e = refl
  case_zero r y (suc n) f A e = absurd (omega arith)

  case_some : (r y n m p : ℕ) (A : State) → (p ≡ 0 → ⊥) → n ≡ suc m
      → case_run notes r y n (forest recs p) A ≡ case_run notes r y m (forest recs (next recs p)) (test_run notes r y p (words recs p) (children recs p) A)
  unfolding case_run
  case_some r y n m zero A ne e = absurd (ne refl)
  case_some r y n m (suc p) A ne e = ap₂ (λ (k : ℕ) (f : Forest). case_run notes r y k f A) e (forest_record recs p)

  module _ {q l n : ℕ} {p₀ : ℕ} where
    pub case_holds : (w : Context) → p₀ ≡ child recs q 0 → CaseTurn q l n w p₀ w p₀ 0
    case_holds w e =
        record {
          range = omega arith;
          link = child_onward q p₀ e;
          work = λ ne r y z w' h. resim (λ v sc A. ap (λ (k : ℕ). case_run notes r y k (forest recs p₀) A) (let k : n ≡ n - 0 = omega arith in k)) h;
          sizes = refl;
        }

    module _ {w₀ w : Context} {p i : ℕ} (t : CaseTurn q l n w₀ p₀ w p i) where
      pub case_again : {w₁ : Context} {x j : ℕ} → i < n → (p ≡ 0 → ⊥) → TestsPattern recs notes w w₁ p l → x ≡ next recs p → j ≡ i + 1
          → CaseTurn q l n w₀ p₀ w₁ x j
      case_again {x = x} {j = j} lt np k ex ej =
          record {
            range = omega arith;
            link = onward_next recs q p x t.link np ex;
            work = λ ne r y e w' h.
                let b = inside ne t.link in
                t.work ne r y e w' (resim (λ v sc A.
                case_some r y (n - i) (n - j) p A np (omega arith)
                ∙ ap (λ (z : ℕ). case_run notes r y (n - j) (forest recs z) (test_run notes r y p (words recs p) (children recs p) A)) (sym ex))
                (then (k.tests b.0 b.1 r y e) h));
            sizes = k.sizes ∙ t.sizes;
          }
        where
          inside : (q ≡ 0 → ⊥) → Onward recs q p → (1 < p) × (p < size recs)
          inside ne (inl z) = absurd (np z)
          inside ne (inr (a, b)) = (omega (arith, ne), b)

      -- nothing is left: there are fewer patterns than the Case says, or all are tested
      case_all : n ≡ word recs q 2 → p₀ ≡ child recs q 0 → ((r y : ℕ) (A : State) → case_run notes r y (n - i) (forest recs p) A ≡ A)
          → TestsCase recs notes w₀ w q l
      case_all en ep z =
          record {
            tests = λ ne r y e.
                resim (λ v sc A. ap₂ (λ (k : ℕ) (f : Forest). case_run notes r y k f A) (sym en) (own_child q p₀ ne ep))
                (t.work ne r y e w (resim (λ v sc A. z r y A) stay));
            sizes = t.sizes;
          }

      pub case_short : n ≡ word recs q 2 → p₀ ≡ child recs q 0 → p ≡ 0 → TestsCase recs notes w₀ w q l
      case_short en ep z = case_all en ep (λ r y A. case_none r y (n - i) p A z)

      pub case_done : n ≡ word recs q 2 → p₀ ≡ child recs q 0 → n ≤ i → TestsCase recs notes w₀ w q l
      case_done en ep z = case_all en ep (λ r y A. case_zero r y (n - i) (forest recs p) A (omega arith))

  -- ---- the Cases: those before the record c are tested, and what tests the others tests all

  pub record CasesTurn (l₀ : ℕ) (w₀ : Context) (c₀ : ℕ) (w : Context) (c l : ℕ) : Type 0 where
    pub turn : ℕ
    pub label : (base : ℕ) → l₀ ≡ cap base → l ≡ cap (base + turn)
    pub work : (r base : ℕ) → l₀ ≡ cap base → (w' : Context) → Sim (lent_words recs notes) w w' (λ v. cases_run notes r (base + turn) (forest recs c))
        → Sim (lent_words recs notes) w₀ w' (λ v. cases_run notes r base (forest recs c₀))
    pub sizes : SameSizes w₀ w

  cases_none : (r y c : ℕ) (A : State) → c ≡ 0 → cases_run notes r y (forest recs c) A ≡ A
  unfolding cases_run
  cases_none r y c A e = ap (λ (x : ℕ). cases_run notes r y (forest recs x) A) e ∙ ap (λ (f : Forest). cases_run notes r y f A) (forest_absent recs)

  cases_some : (r y c : ℕ) (A : State) → (c ≡ 0 → ⊥)
      → cases_run notes r y (forest recs c) A
      ≡ cases_run notes r (suc y) (forest recs (next recs c)) (case_run notes r y (word recs c 2) (own (words recs c) (children recs c)) A)
  unfolding cases_run
  cases_some r y zero A ne = absurd (ne refl)
  cases_some r y (suc c) A ne = ap (λ (f : Forest). cases_run notes r y f A) (forest_record recs c)

  pub cases_hold : (l : ℕ) (w : Context) (c : ℕ) → CasesTurn l w c w c l
  cases_hold l w c =
      record {
        turn = 0;
        label = λ base e. e ∙ ap cap (let z : base ≡ base + 0 = omega arith in z);
        work = λ r base e w' h. resim (λ v sc A. ap (λ (y : ℕ). cases_run notes r y (forest recs c) A) (let z : base ≡ base + 0 = omega arith in z)) h;
        sizes = refl;
      }

  module _ {l₀ c₀ c l : ℕ} {w₀ w : Context} (t : CasesTurn l₀ w₀ c₀ w c l) where
    pub cases_again : {w₁ : Context} {x m : ℕ} → (c ≡ 0 → ⊥) → TestsCase recs notes w w₁ c l → x ≡ next recs c → m ≡ more l
        → CasesTurn l₀ w₀ c₀ w₁ x m
    cases_again {x = x} ne k ex em =
        record {
          turn = suc t.turn;
          label = λ base e. em ∙ ap more (t.label base e) ∙ more_cap (base + t.turn) ∙ ap cap (let z : suc (base + t.turn) ≡ base + suc t.turn = omega arith in z);
          work = λ r base e w' h.
              let y = base + t.turn in
              t.work r base e w' (resim (λ v sc A.
              cases_some r y c A ne
              ∙ ap₂ (λ (i z : ℕ). cases_run notes r i (forest recs z) (case_run notes r y (word recs c 2) (own (words recs c) (children recs c)) A))
              (let z : suc (base + t.turn) ≡ base + suc t.turn = omega arith in z) (sym ex))
              (then (k.tests ne r y (t.label base e)) h));
          sizes = k.sizes ∙ t.sizes;
        }

    pub cases_done : c ≡ 0 → Tests recs notes w₀ w c₀ l₀
    cases_done z = record { tests = λ r base e. t.work r base e w (resim (λ v sc A. cases_none r (base + t.turn) c A z) stay); sizes = t.sizes }
