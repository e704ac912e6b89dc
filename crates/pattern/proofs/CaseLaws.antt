-- The steps of a Case's patterns, and of all Cases, are their run. Assumes nothing.
use mathlib.Core.Path.{◌≡◌, refl, sym, ap, ◌∙◌}
use mathlib.Core.Bool.{Bool, true, false, cond}
use mathlib.Core.List.{List, [], ◌∷◌, ◌++◌}
use Prim.Native.Nat.{ℕ, zero, suc, ◌+◌, ◌-◌, ◌≤◌, ◌<◌}
use native.Mathlib.Omega.{arith}
use lib.ListN.{length, get_or}
use Rattle.tables.specs.Record.{Words, words, is_function}
use Rattle.tables.specs.Forest.{Forest, none, tree, Nodes, bare, first, next, forest, children, own_tree}
use Rattle.tables.proofs.ForestLaws.{grown as by-records}
use Rattle.rules.specs.declared.Flow.TheVariants.{Go}
use Rattle.rules.specs.Marker.{Jump, Copy, Pop, Label, To, Do, mark}
use Rattle.rules.specs.Step.{ChildPath, Step, push_op, get_label, place, jump, width}
use Rattle.rules.specs.Patterns.{parts, grown, pattern_labels, cleanup, pattern_steps, inside_steps, test_steps, case_tests, case_labels, cases_tests}
use Rattle.rules.specs.Run.{State, flow, labels, emit, bump, exec}
use Rattle.context.specs.Rep.{Walk, Lent}
use Rattle.context.specs.Does.{nth, doing}
use Rattle.context.proofs.Basics.{no_bump}
use Rattle.plain.proofs.GoLaws.{env_kept}
use Rattle.pattern.specs.Tests.{labels_visited, pattern_run, inside_run, cleanup_run, test_run, case_run, cases_run}
use Rattle.pattern.proofs.HeldLaws.{
  Quiet,
  quiet_none,
  quiet_emit,
  quiet_row,
  still_going,
  same_if,
  Held,
  held_quiet,
  held_more,
  Goes,
  Holds,
  quiet_goes,
  quiet_holds,
  then_goes,
  then_holds,
  from_goes,
}
use Rattle.pattern.proofs.PatternLaws.{visited_more, own_labels, Link, link_at, link_next, Leads, leads_child, pop_holds, pattern_goes}

module _ {e : Lent} {c : Walk} {r : ℕ} {from : List Step → List Step} {env : List ℕ} {A B : State} (p : Goes e c r from env A B) where
  -- names given before keep their places
  pub kept_name : (i y : ℕ) → i < length env → (flow A ≡ Go → get_or env i 0 ≡ y) → flow B ≡ Go → get_or p.names i 0 ≡ y
  kept_name i y lt h g = ap (λ (ns : List ℕ). get_or ns i 0) p.longer ∙ env_kept env p.more i lt ∙ h (p.still g)

module _ (e : Lent) (c : Walk) (r : ℕ) where
  abbrev R : List ℕ
  R = e.records

  -- ---- the clean-up labels

  place_holds : (m h x k i y : ℕ) (env : List ℕ) (A : State) → i ≡ m + k → y ≡ x + k → k < h → Held env m h x A
      → Holds e c r (λ is. place i ∷ is) env A (emit (mark r (Label y)) A) m h x
  unfolding doing exec
  place_holds m h x k i y env A ei ey lt hd =
      quiet_holds (emit (mark r (Label y))) (quiet_emit _)
      (λ is. ap (doing e c r is env) (same_if (λ n. emit (mark r (Label n))) (λ n. (quiet_emit _).rests) (get_or env i 0) y A
      (λ g. ap (λ (z : ℕ). get_or env z 0) ei ∙ hd.named g k lt ∙ sym ey))) hd

  cleanup_holds : (n m h x : ℕ) (env : List ℕ) (A : State) → n < h → Held env m h x A → Holds e c r (cleanup m (suc n)) env A (cleanup_run r x n A) m h x
  unfolding cleanup_run
  cleanup_holds zero m h x env A lt hd = place_holds m h x 0 m x env A (omega arith) (omega arith) lt hd
  cleanup_holds (suc n) m h x env A lt hd =
      let a = place_holds m h x (suc n) (m + suc n) (x + suc n) env A refl refl lt hd in
      let b = pop_holds e c r a.past.names (emit (mark r (Label (x + suc n))) A) a.held in
      then_holds a (then_holds b (cleanup_holds n m h x b.past.names _ (omega arith) b.held))

  -- ---- one pattern

  -- and the names then are n
  pub record Ends (from : List Step → List Step) (env : List ℕ) (A B : State) (n : ℕ) : Type 0 where
    pub past : Goes e c r from env A B
    pub long : length past.names ≡ n

  module _ (j : ℕ) where
    -- the pattern q of the Case that is child j, whose block's label stands at place j of the names
    test_ends : (m y q : ℕ) (js : ChildPath) (env : List ℕ) (A : State) → Leads e c r j js q → (q ≡ 0 → ⊥) → m ≡ length env → j < m → (flow A ≡ Go → get_or env j 0 ≡ y)
        → let w = words R q in let k = children R q in
        Ends (test_steps m j (j ∷ js) w (cond (is_function w) bare (own_tree k))) env A (test_run e.notes r y q w k A)
        (m + pattern_labels w (cond (is_function w) bare (own_tree k)))
    unfolding doing exec test_run
    test_ends m y q js env A p ne em lt named =
        record {
          past = from_goes (λ is. ap (λ (n : ℕ). get_label ∷ push_op Copy 1
              ∷ pattern_steps m 0 1 (j ∷ js) w ns (λ is. inside_steps (parts w) m 1 (grown 0 1) (j ∷ js) 0 ns is) (push_op Pop 0 ∷ jump Jump j ∷ cleanup m n is))
              (own_labels 0 1 w k ∙ one))
              (then_goes tested.past (then_goes matches.past clean.past));
          long = clean.held.long ∙ ap (λ (n : ℕ). m + n) (sym (own_labels 0 1 w k));
        }
      where
        w : Words
        w = words R q

        k : Forest
        k = children R q

        ns : Nodes
        ns = cond (is_function w) bare (own_tree k)

        x : ℕ
        x = labels A

        -- its labels
        v : ℕ
        v = labels_visited 0 1 w k

        one : v ≡ suc (v - 1)
        one = omega (arith, visited_more 0 1 w k)

        A₁ : State
        A₁ = emit (mark r (Do Copy 1)) (bump A)

        A₂ : State
        A₂ = pattern_run e.notes r x 0 1 q w k (inside_run e.notes r (parts w) x 1 (grown 0 1) q 0 k) A₁

        after : ℕ → State → State
        after n B = emit (mark r (To Jump n)) (emit (mark r (Do Pop 0)) B)

        quiet_after : (n : ℕ) → Quiet (after n)
        quiet_after n = quiet_row (quiet_emit _) (quiet_emit _)

        copies : Holds e c r (λ is. get_label ∷ push_op Copy 1 ∷ is) env A A₁ m 1 x
        copies =
            record {
              past = record {
                names = env ++ (x ∷ []);
                more = x ∷ [];
                longer = refl;
                still = λ g. still_going bump no_bump A (still_going (emit (mark r (Do Copy 1))) (quiet_emit _).rests (bump A) g);
                goes = λ is. refl;
              };
              held = held_quiet (emit (mark r (Do Copy 1))) (quiet_emit _) (env ++ (x ∷ [])) m 1 x (bump A) (held_more env m 0 x A
                  (record { long = sym em ∙ omega arith; named = λ g n z. absurd (omega arith); next = λ g. omega arith }));
            }

        tested : Holds e c r
            (λ is. get_label ∷ push_op Copy 1 ∷ pattern_steps m 0 1 (j ∷ js) w ns (λ is. inside_steps (parts w) m 1 (grown 0 1) (j ∷ js) 0 ns is) is) env A A₂ m v x
        tested = then_holds copies (pattern_goes e c r j m x 0 1 q js (env ++ (x ∷ [])) A₁ p ne (omega arith) copies.held)

        matches : Holds e c r (λ is. push_op Pop 0 ∷ jump Jump j ∷ is) tested.past.names A₂ (after y A₂) m v x
        matches =
            quiet_holds (after y) (quiet_after y)
            (λ is. ap (doing e c r is tested.past.names) (same_if after (λ n. (quiet_after n).rests) (get_or tested.past.names j 0) y A₂
            (kept_name tested.past j y (omega (arith, em)) named))) tested.held

        clean : Holds e c r (cleanup m (suc (v - 1))) tested.past.names (after y A₂) (cleanup_run r x (v - 1) (after y A₂)) m v x
        clean = cleanup_holds (v - 1) m v x tested.past.names (after y A₂) (omega (arith, one)) matches.held

    -- the patterns of the Case q that is child j, from its child i on
    abbrev CaseFrom : Forest → Type 0
    CaseFrom f = (m y q i n : ℕ) (env : List ℕ) (A : State) → nth R j (first R r) ≡ q → (q ≡ 0 → ⊥) → is_function (words R q) ≡ false → Link R f i q → m ≡ length env
        → j < m → (flow A ≡ Go → get_or env j 0 ≡ y) → Ends (case_tests m j j i n (own_tree f)) env A (case_run e.notes r y n f A) (m + case_labels n (own_tree f))

    case_none : CaseFrom none
    unfolding case_run
    case_none m y q i n env A p nq nf lk em lt named = record { past = quiet_goes (λ B. B) quiet_none (λ is. refl); long = sym em ∙ omega arith }

    case_more : (l : ℕ) → (l ≡ 0 → ⊥) → CaseFrom (forest R (next R l)) → CaseFrom (tree l (words R l) (children R l) (forest R (next R l)))
    unfolding case_run
    case_more l ne rest m y q i zero env A p nq nf lk em lt named = record { past = quiet_goes (λ B. B) quiet_none (λ is. refl); long = sym em ∙ omega arith }
    case_more l ne rest m y q i (suc n) env A p nq nf lk em lt named =
        let w = words R l in
        let k = children R l in
        let s = forest R (next R l) in
        let h = pattern_labels w (cond (is_function w) bare (own_tree k)) in
        let a = test_ends m y l (i ∷ []) env A (leads_child e c r j [] i p nq nf lk) ne em lt named in
        let b = rest (m + h) y q (suc i) n a.past.names (test_run e.notes r y l w k A) p nq nf (link_next R l i q lk) (sym a.long) (omega arith)
        (kept_name a.past j y (omega (arith, em)) named) in
        record { past = then_goes a.past b.past; long = b.long ∙ omega arith }

    case_ends : (l : ℕ) → CaseFrom (forest R l)
    case_ends l = by-records R CaseFrom case_none (λ q x y. case_more (suc q) (λ z. omega arith) y) l

  -- the Cases from the child j on
  abbrev CasesFrom : Forest → Type 0
  CasesFrom f = (m y j : ℕ) (env : List ℕ) (A : State) → Link R f j r → m ≡ length env → j + width (own_tree f) ≤ m
      → (flow A ≡ Go → (k : ℕ) → k < width (own_tree f) → get_or env (j + k) 0 ≡ y + k) → Goes e c r (cases_tests m j (own_tree f)) env A (cases_run e.notes r y f A)

  cases_none : CasesFrom none
  unfolding cases_run
  cases_none m y j env A lk em le named = quiet_goes (λ B. B) quiet_none (λ is. refl)

  cases_more : (l : ℕ) → (l ≡ 0 → ⊥) → CasesFrom (forest R (next R l)) → CasesFrom (tree l (words R l) (children R l) (forest R (next R l)))
  unfolding cases_run case_run
  cases_more l ne rest m y j env A lk em le named =
      let a = here (is_function w) refl in
      then_goes a.past
      (rest (m + case_labels w.p ns) (suc y) (suc j) a.past.names _ (link_next R l j r lk) (sym a.long) (omega arith)
      (λ g k lt. ap (λ (i : ℕ). get_or a.past.names i 0) (let z : suc j + k ≡ j + suc k = omega arith in z)
      ∙ kept_name a.past (j + suc k) (y + suc k) (omega (arith, em)) (λ g. named g (suc k) (omega arith)) g ∙ (let z : y + suc k ≡ suc y + k = omega arith in z)))
    where
      w : Words
      w = words R l

      k : Forest
      k = children R l

      ns : Nodes
      ns = cond (is_function w) bare (own_tree k)

      -- the Case's block's label
      name : flow A ≡ Go → get_or env j 0 ≡ y
      name g = ap (λ (i : ℕ). get_or env i 0) (let z : j ≡ j + 0 = omega arith in z) ∙ named g 0 (omega arith) ∙ (let z : y + 0 ≡ y = omega arith in z)

      here : (b : Bool) → is_function w ≡ b
          → Ends (case_tests m j j 0 w.p (cond b bare (own_tree k))) env A (case_run e.notes r y w.p (cond b none k) A) (m + case_labels w.p (cond b bare (own_tree k)))
      here true q = record { past = quiet_goes (λ B. B) quiet_none (λ is. refl); long = sym em ∙ omega arith }
      here false q = case_ends j (first R l) m y l 0 w.p env A (sym lk) ne q (link_at R (first R l) 0 l refl) em (omega arith) name

  pub cases_goes : (l : ℕ) → CasesFrom (forest R l)
  cases_goes l = by-records R CasesFrom cases_none (λ q x y. cases_more (suc q) (λ z. omega arith) y) l
