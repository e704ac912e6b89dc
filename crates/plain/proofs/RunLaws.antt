-- Parts of variable length that visit nothing: as the step lists have them, and which labels they take. Assumes nothing.
use mathlib.Core.Path.{◌≡◌, refl, sym, ap, ap₂, ◌∙◌}
use mathlib.Core.Bool.{Bool, true, false, cond}
use mathlib.Core.List.{List, [], ◌∷◌, ◌++◌, append_assoc, append-nil}
use Prim.Native.Nat.{ℕ, zero, suc, ◌+◌, ◌<◌}
use native.Mathlib.Omega.{arith}
use lib.Dec.{eqb}
use lib.ListN.{get_or, length, length-append}
use lib.Seq.{get_or-append_seam}
use Rattle.tables.specs.Record.{words}
use Rattle.tables.specs.Forest.{first, next}
use Rattle.rules.specs.declared.Flow.TheVariants.{Go}
use Rattle.rules.specs.Marker.{RegisterHandler, Pop, Code, To, Do, Mark, mark}
use Rattle.rules.specs.Step.{Get, Set, Step, push_op, access, get_labels, push_ops}
use Rattle.rules.specs.Arms.{registers, items_stored, for_targets}
use Rattle.rules.specs.Run.{State, labels, flow, emit, bump, exec}
use Rattle.context.specs.Rep.{Walk, Lent}
use Rattle.context.specs.Does.{nth, child, access_noted, doing}
use Rattle.context.proofs.RepLaws.{bumps}
use Rattle.context.proofs.PartLaws.{nth_next}
use Rattle.plain.specs.Runs.{repeated, use_at, register, registering, registered, item_put, items_put, targets_put}
use Rattle.plain.proofs.GoLaws.{emit_flow, emit_labels, bump_flow, bump_labels, sought_labels, sought_flow, env_new}
use Rattle.plain.proofs.LeafLaws.{use_below}

-- ---- the same step several times, from the other end

pub repeated_last : (x : Mark) (n : ℕ) (A : State) → repeated x (suc n) A ≡ emit x (repeated x n A)
repeated_last x zero A = refl
repeated_last x (suc n) A = repeated_last x n (emit x A)

bumps_first : (n : ℕ) (A : State) → bumps n (bump A) ≡ bumps (suc n) A
bumps_first zero A = refl
bumps_first (suc n) A = ap bump (bumps_first n A)

-- ---- labels taken one behind the other

abbrev pub taken : ℕ → State → List ℕ
taken zero A = []
taken (suc n) A = labels A ∷ taken n (bump A)

pub bumps_flow : (n : ℕ) (A : State) → flow (bumps n A) ≡ flow A
bumps_flow zero A = refl
bumps_flow (suc n) A = bump_flow (bumps n A) ∙ bumps_flow n A

pub bumps_labels : (n : ℕ) (A : State) → flow A ≡ Go → labels (bumps n A) ≡ labels A + n
bumps_labels zero A g = omega arith
bumps_labels (suc n) A g =
    let h : labels (bumps n A) ≡ labels A + n = bumps_labels n A g in
    let z : labels (bump (bumps n A)) ≡ suc (labels (bumps n A)) = bump_labels (bumps n A) (bumps_flow n A ∙ g) in
    omega arith

taken_nth : (n k : ℕ) (A : State) → flow A ≡ Go → k < n → get_or (taken n A) k 0 ≡ labels A + k
taken_nth zero k A g h = absurd (omega arith)
taken_nth (suc n) zero A g h = omega arith
taken_nth (suc n) (suc k) A g h =
    let y : get_or (taken n (bump A)) k 0 ≡ labels (bump A) + k = taken_nth n k (bump A) (bump_flow A ∙ g) (omega arith) in
    let z : labels (bump A) ≡ suc (labels A) = bump_labels A g in
    omega arith

-- ---- the parts

module _ (e : Lent) (c : Walk) (r : ℕ) where
  abbrev R : List ℕ
  R = e.records

  pub says_part : (n : ℕ) (d : Code) (x : ℕ) (is : List Step) (env : List ℕ) (A : State)
      → doing e c r (push_ops n d x is) env A ≡ doing e c r is env (repeated (mark r (Do d x)) n A)
  unfolding doing exec
  says_part zero d x is env A = refl
  says_part (suc n) d x is env A = says_part n d x is env (emit (mark r (Do d x)) A)

  pub takes_part : (n : ℕ) (is : List Step) (env : List ℕ) (A : State) → doing e c r (get_labels n is) env A ≡ doing e c r is (env ++ taken n A) (bumps n A)
  unfolding doing exec
  takes_part zero is env A = ap (λ (x : List ℕ). doing e c r is x A) (sym (append-nil env))
  takes_part (suc n) is env A =
      takes_part n is (env ++ (labels A ∷ [])) (bump A)
      ∙ ap₂ (λ (x : List ℕ) (B : State). doing e c r is x B) (append_assoc env (labels A ∷ []) (taken n (bump A))) (bumps_first n A)

  pub items_part : (i n l : ℕ) (is : List Step) (env : List ℕ) (A : State) → l ≡ nth R i (first R r)
      → doing e c r (items_stored i n is) env A ≡ doing e c r is env (items_put e r i n l A)
  unfolding doing exec item_put
  items_part i zero l is env A q = refl
  items_part i (suc n) l is env A q =
      ap (λ (B : State). doing e c r (items_stored (suc i) n is) env B) (use_below e (words R c.function) (words R r) r Set l i [] q _)
      ∙ items_part (suc i) n (next R l) is env (item_put e r i l A) (ap (next R) q ∙ nth_next R i (first R r))

  -- a For's targets, and what follows them
  pub for_targets_part : (n l : ℕ) (is : List Step) (env : List ℕ) (A : State) → l ≡ first R r
      → doing e c r (for_targets n is) env A ≡ doing e c r is env (targets_put e r n l A)
  unfolding doing exec
  for_targets_part n l is env A q = by (eqb n 1)
    where
      by : (b : Bool) → doing e c r (cond b (access Set (0 ∷ []) ∷ is) (items_stored 0 n (push_op Pop 0 ∷ is))) env A
          ≡ doing e c r is env (cond b (use_at e r Set l A) (emit (mark r (Do Pop 0)) (items_put e r 0 n l A)))
      by true = ap (λ (B : State). doing e c r is env B) (use_below e (words R c.function) (words R r) r Set l 0 [] q A)
      by false = items_part 0 n l (push_op Pop 0 ∷ is) env A q

  pub registers_part : (i j n h : ℕ) (is : List Step) (env : List ℕ) (A : State) → i ≡ length env → h ≡ nth R j (first R r)
      → doing e c r (registers i j n is) env A ≡ doing e c r is (env ++ registered e r n h A) (registering e r n h A)
  unfolding doing exec register
  registers_part i j zero h is env A q z = ap (λ (x : List ℕ). doing e c r is x A) (sym (append-nil env))
  registers_part i j (suc n) h is env A q z =
      ap₂ (λ (B : State) (l : ℕ). doing e c r (registers (suc i) (suc j) n is) (env ++ (labels A ∷ [])) (emit (mark r (To RegisterHandler l)) B))
      (use_below e (words R c.function) (words R r) r Get h j (0 ∷ []) z (bump A))
      (ap (λ (x : ℕ). get_or (env ++ (labels A ∷ [])) x 0) q ∙ get_or-append_seam env (labels A) [] 0)
      ∙ registers_part (suc i) (suc j) n (next R h) is (env ++ (labels A ∷ [])) (register e r h A) (omega (arith, length-append env (labels A ∷ [])))
      (ap (next R) z ∙ nth_next R j (first R r))
      ∙ ap (λ (x : List ℕ). doing e c r is x (registering e r n (next R h) (register e r h A)))
      (append_assoc env (labels A ∷ []) (registered e r n (next R h) (register e r h A)))

-- ---- the labels of Handlers: where the run goes on, one after the other

module _ (e : Lent) (r : ℕ) where
  register_flow : (h : ℕ) (A : State) → flow (register e r h A) ≡ Go → flow A ≡ Go
  unfolding register
  register_flow h A g =
      let i = child e.records h 0 in
      let B = use_at e r Get i (bump A) in
      sym (bump_flow A) ∙ sought_flow r Get i (access_noted e.notes Get i) (bump A) (sym (emit_flow (mark r (To RegisterHandler (labels A))) B) ∙ g)

  register_labels : (h : ℕ) (A : State) → flow A ≡ Go → labels (register e r h A) ≡ suc (labels A)
  unfolding register
  register_labels h A g =
      let i = child e.records h 0 in
      let B = use_at e r Get i (bump A) in
      emit_labels (mark r (To RegisterHandler (labels A))) B ∙ sought_labels r Get i (access_noted e.notes Get i) (bump A) ∙ bump_labels A g

  pub registering_flow : (n h : ℕ) (A : State) → flow (registering e r n h A) ≡ Go → flow A ≡ Go
  registering_flow zero h A g = g
  registering_flow (suc n) h A g = register_flow h A (registering_flow n (next e.records h) (register e r h A) g)

  pub registering_labels : (n h : ℕ) (A : State) → flow (registering e r n h A) ≡ Go → labels (registering e r n h A) ≡ labels A + n
  registering_labels zero h A g = omega arith
  registering_labels (suc n) h A g =
      let B = register e r h A in
      let y = registering_labels n (next e.records h) B g in
      let z : labels B ≡ suc (labels A) = register_labels h A (registering_flow (suc n) h A g) in
      y ∙ (let u : labels B + n ≡ labels A + suc n = omega arith in u)

  registered_nth : (n h k : ℕ) (A : State) → flow (registering e r n h A) ≡ Go → k < n → get_or (registered e r n h A) k 0 ≡ labels A + k
  registered_nth zero h k A g lt = absurd (omega arith)
  registered_nth (suc n) h zero A g lt = omega arith
  registered_nth (suc n) h (suc k) A g lt =
      let B = register e r h A in
      let y = registered_nth n (next e.records h) k B g (omega arith) in
      let z : labels B ≡ suc (labels A) = register_labels h A (registering_flow (suc n) h A g) in
      y ∙ (let u : labels B + k ≡ labels A + suc k = omega arith in u)

  pub registered_at : (env : List ℕ) (n h k : ℕ) (A : State) → flow (registering e r n h A) ≡ Go → k < n
      → get_or (env ++ registered e r n h A) (length env + k) 0 ≡ labels A + k
  registered_at env n h k A g lt = env_new env (registered e r n h A) k ∙ registered_nth n h k A g lt
