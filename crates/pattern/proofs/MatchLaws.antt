-- ExprKind::Match: its steps are its tests' run, and what follows them. Assumes nothing.
use mathlib.Core.Path.{◌≡◌, refl, sym, ap, ap₂, subst, ◌∙◌}
use mathlib.Core.Bool.{true, false}
use mathlib.Core.List.{List, [], ◌∷◌, ◌++◌}
use mathlib.Core.Logic.{◌⊎◌, inl, inr}
use Prim.Native.Nat.{ℕ, zero, suc, ◌+◌, ◌<◌}
use native.Mathlib.Omega.{arith}
use lib.ListN.{get_or}
use Rattle.tables.specs.Record.{words}
use Rattle.tables.specs.Forest.{Forest, first, next, forest, children, own_tree}
use Rattle.tables.proofs.ForestLaws.{forest_absent, forest_record}
use Rattle.rules.specs.declared.Flow.{Flow}
use Rattle.rules.specs.declared.Flow.TheVariants.{Go, Cut, Refused}
use Rattle.pool.specs.Value.{Null}
use Rattle.rules.specs.Marker.{Jump, LoadConst, Pop, Swap, Label, To, Load, Do, mark}
use Rattle.rules.specs.Step.{Role, Expr, Step, push_op, get_label, place, jump, null, get_labels, width}
use Rattle.rules.specs.Arms.{bodies}
use Rattle.rules.specs.Patterns.{cases_tests, match_cases, match_steps}
use Rattle.rules.specs.Run.{State, flow, labels, emit, bump, exec}
use Rattle.rules.proofs.Sticky.{Ended, Sticky, exec_sticky, visits_sticky}
use Rattle.context.specs.Rep.{Walk, mode, Lent}
use Rattle.context.specs.Does.{noted_look, own_stream, near, doing, does}
use Rattle.context.specs.Words.{is_go}
use Rattle.context.proofs.Basics.{clash, bool_or, is_go_lem, no_bump}
use Rattle.context.proofs.RepLaws.{bumps}
use Rattle.context.proofs.VisitLaws.{children_near}
use Rattle.pattern.specs.Tests.{cases_run, in_row}
use Rattle.pattern.proofs.HeldLaws.{quiet_none, still_going, Held, held_more, Goes, Holds, quiet_holds, then_goes, then_holds, to_holds}
use Rattle.pattern.proofs.PatternLaws.{link_at}
use Rattle.pattern.proofs.CaseLaws.{kept_name, cases_goes}

-- a name of labels in a row
pub row_named : (base n k : ℕ) → k < n → get_or (in_row base n) k 0 ≡ base + k
row_named base zero k lt = absurd (omega arith)
row_named base (suc n) zero lt = omega arith
row_named base (suc n) (suc k) lt = row_named (suc base) n k (omega arith) ∙ omega arith

-- what follows the tests of n Cases
abbrev pub after_tests : ℕ → List Step
after_tests n = null ∷ jump Jump 0 ∷ bodies 1 1 n (place 0 ∷ push_op Swap 2 ∷ push_op Pop 0 ∷ [])

ended : (f : Flow) → is_go f ≡ false → Ended f
ended Go e = absurd (clash e)
ended (Cut k a b) e = tt
ended (Refused x r) e = tt

bumps_after : (n : ℕ) (A : State) → bumps n (bump A) ≡ bump (bumps n A)
bumps_after zero A = refl
bumps_after (suc n) A = ap bump (bumps_after n A)

module _ (e : Lent) (c : Walk) (r : ℕ) where
  abbrev R : List ℕ
  R = e.records

  near_sticky : (a : Role) (j : ℕ) → Sticky (near e c r a j)
  near_sticky a j =
      subst (λ (v : Role → ℕ → State → State). Sticky (v a j)) (children_near e c r)
      (visits_sticky (noted_look e.notes) (mode c) (children R r) (words R c.function) a j)

  -- nothing is done where the run does not go on
  pub doing_still : (is : List Step) (env : List ℕ) (A : State) → is_go (flow A) ≡ false → doing e c r is env A ≡ A
  unfolding doing
  doing_still is env A n =
      exec_sticky (noted_look e.notes) (mode c) (words R c.function) r (words R r) (children R r) (near e c r) (own_stream e c r) near_sticky is env A
      (ended (flow A) n)

  -- labels for n blocks
  labels_holds : (n m h x : ℕ) (env : List ℕ) (A : State) → Held env m h x A → Holds e c r (get_labels n) env A (bumps n A) m (n + h) x
  unfolding doing exec
  labels_holds zero m h x env A hd = to_holds refl (omega arith) (quiet_holds (λ B. B) quiet_none (λ is. refl) hd)
  labels_holds (suc n) m h x env A hd =
      let one : Holds e c r (λ is. get_label ∷ is) env A (bump A) m (suc h) x
      = record {
        past = record { names = env ++ (labels A ∷ []); more = labels A ∷ []; longer = refl; still = still_going bump no_bump A; goes = λ is. refl };
        held = held_more env m h x A hd;
      } in
      to_holds (sym (bumps_after n A)) (omega arith) (then_holds one (labels_holds n m (suc h) x (env ++ (labels A ∷ [])) (bump A) one.held))

  -- the first Case, and how many there are
  abbrev pub case_of : ℕ
  case_of = next R (first R r)

  abbrev pub cases_of : ℕ
  cases_of = width (own_tree (forest R case_of))

  -- what is matched, behind the label of the end
  abbrev pub matched : State → State
  matched A = near e c r Expr 0 (bump A)

  pub match_none : first R r ≡ 0 → (A : State) → does e c r (match_steps (words R r) (own_tree (children R r))) A ≡ A
  unfolding does doing exec
  match_none q A = ap (λ (f : Forest). does e c r (match_steps (words R r) (own_tree f)) A) (ap (forest R) q ∙ forest_absent R)

  match_list : (first R r ≡ 0 → ⊥) → match_steps (words R r) (own_tree (children R r)) ≡ match_cases (own_tree (forest R case_of))
  match_list ne = go (first R r) ne
    where
      go : (a : ℕ) → (a ≡ 0 → ⊥) → match_steps (words R r) (own_tree (forest R a)) ≡ match_cases (own_tree (forest R (next R a)))
      go zero ne = absurd (ne refl)
      go (suc a) ne = ap (λ (f : Forest). match_steps (words R r) (own_tree f)) (forest_record R a)

  match_begins : (first R r ≡ 0 → ⊥) → (A : State)
      → does e c r (match_steps (words R r) (own_tree (children R r))) A
      ≡ doing e c r (get_labels cases_of (cases_tests (suc cases_of) 1 (own_tree (forest R case_of)) (after_tests cases_of))) (labels A ∷ []) (matched A)
  unfolding does doing exec
  match_begins ne A = ap (λ (is : List Step). does e c r is A) (match_list ne)

  -- names that agree do the same
  bodies_same : (n i j : ℕ) (is : List Step) (env env' : List ℕ) → get_or env 0 0 ≡ get_or env' 0 0 → ((k : ℕ) → k < n → get_or env (i + k) 0 ≡ get_or env' (i + k) 0)
      → ((A : State) → doing e c r is env A ≡ doing e c r is env' A) → (A : State) → doing e c r (bodies i j n is) env A ≡ doing e c r (bodies i j n is) env' A
  unfolding doing exec
  bodies_same zero i j is env env' e₀ named h A = h A
  bodies_same (suc n) i j is env env' e₀ named h A =
      let e₁ : get_or env i 0 ≡ get_or env' i 0 = subst (λ (k : ℕ). get_or env k 0 ≡ get_or env' k 0) (let z : i + 0 ≡ i = omega arith in z) (named 0 (omega arith)) in
      let B : ℕ → ℕ → State = λ y z. emit (mark r (To Jump y)) (near e c r Expr j (emit (mark r (Label z)) A)) in
      ap₂ (λ (y z : ℕ). doing e c r (bodies (suc i) (suc j) n is) env (B y z)) e₀ e₁
      ∙ bodies_same n (suc i) (suc j) is env env' e₀
      (λ k lt. subst (λ (l : ℕ). get_or env l 0 ≡ get_or env' l 0) (let z : i + suc k ≡ suc i + k = omega arith in z) (named (suc k) (omega arith))) h
      (B (get_or env' 0 0) (get_or env' i 0))

  after_same : (n : ℕ) (env env' : List ℕ) (A : State) → get_or env 0 0 ≡ get_or env' 0 0 → ((k : ℕ) → k < n → get_or env (1 + k) 0 ≡ get_or env' (1 + k) 0)
      → doing e c r (after_tests n) env A ≡ doing e c r (after_tests n) env' A
  unfolding doing exec
  after_same n env env' A e₀ named =
      let last : List Step = place 0 ∷ push_op Swap 2 ∷ push_op Pop 0 ∷ [] in
      let B : ℕ → State = λ y. emit (mark r (To Jump y)) (emit (mark r (Load LoadConst Null)) A) in
      ap (λ (y : ℕ). doing e c r (bodies 1 1 n last) env (B y)) e₀
      ∙ bodies_same n 1 1 last env env' e₀ named (λ C. ap (λ (y : ℕ). emit (mark r (Do Pop 0)) (emit (mark r (Do Swap 2)) (emit (mark r (Label y)) C))) e₀) (B (get_or env' 0 0))

  -- name 0 is the end's label, the names behind it are the blocks'
  pub match_some : (first R r ≡ 0 → ⊥) → (A : State)
      → does e c r (match_steps (words R r) (own_tree (children R r))) A
      ≡ doing e c r (after_tests cases_of) (labels A ∷ in_row (labels (matched A)) cases_of)
      (cases_run e.notes r (labels (matched A)) (forest R case_of) (bumps cases_of (matched A)))
  match_some ne A =
      match_begins ne A ∙ past.goes (after_tests cases_of) ∙ go (bool_or (is_go (flow D)))
    where
      base : ℕ
      base = labels (matched A)

      blocks : Holds e c r (get_labels cases_of) (labels A ∷ []) (matched A) (bumps cases_of (matched A)) 1 (cases_of + 0) base
      blocks = labels_holds cases_of 1 0 base (labels A ∷ []) (matched A)
          (record { long = refl; named = λ g k lt. absurd (omega arith); next = λ g. omega arith })

      D : State
      D = cases_run e.notes r base (forest R case_of) (bumps cases_of (matched A))

      tests : Goes e c r (cases_tests (suc cases_of) 1 (own_tree (forest R case_of))) blocks.past.names (bumps cases_of (matched A)) D
      tests = cases_goes e c r case_of (suc cases_of) base 1 blocks.past.names (bumps cases_of (matched A)) (link_at R case_of 1 r refl)
          (omega (arith, blocks.held.long)) (omega arith) (λ g k lt. blocks.held.named g k (omega arith))

      past : Goes e c r (λ is. get_labels cases_of (cases_tests (suc cases_of) 1 (own_tree (forest R case_of)) is)) (labels A ∷ []) (matched A) D
      past = then_goes blocks.past tests

      names : List ℕ
      names = labels A ∷ in_row base cases_of

      go : (is_go (flow D) ≡ true) ⊎ (is_go (flow D) ≡ false) → doing e c r (after_tests cases_of) past.names D ≡ doing e c r (after_tests cases_of) names D
      go (inl g) =
          after_same cases_of past.names names D (kept_name past 0 (labels A) (omega arith) (λ z. refl) (is_go_lem (flow D) g))
          (λ k lt. kept_name tests (1 + k) (base + k) (omega (arith, blocks.held.long)) (λ z. blocks.held.named z k (omega arith)) (is_go_lem (flow D) g)
          ∙ sym (row_named base cases_of k lt) ∙ ap (λ (i : ℕ). get_or names i 0) (let z : suc k ≡ 1 + k = omega arith in z))
      go (inr g) = doing_still (after_tests cases_of) past.names D g ∙ sym (doing_still (after_tests cases_of) names D g)
