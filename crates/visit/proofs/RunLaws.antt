-- Parts of variable length that visit, and the lists that hold them. Assumes nothing.
use mathlib.Core.Path.{◌≡◌, refl, sym, ap, ◌∙◌, subst}
use mathlib.Core.Bool.{false}
use mathlib.Core.List.{List}
use Prim.Native.Nat.{ℕ, zero, suc, ◌+◌, ◌-◌, ◌<◌}
use native.Mathlib.Omega.{arith}
use lib.ListN.{get_or}
use Rattle.tables.specs.Record.{words}
use Rattle.tables.specs.Forest.{first, next, forest, children, own_tree}
use Rattle.pool.specs.Value.{int}
use Rattle.rules.specs.declared.Flow.{Flow}
use Rattle.rules.specs.declared.Flow.TheVariants.{Go, Cut, Refused}
use Rattle.rules.specs.Marker.{Jump, Pop, LoadConst, GetItem, Label, To, Load, Do, mark}
use Rattle.rules.specs.Step.{Role, Expr, Target, Step, visits_down, width}
use Rattle.rules.specs.Arms.{block_steps, unpacked, bodies}
use Rattle.rules.specs.Run.{State, flow, emit, kept, exec}
use Rattle.rules.proofs.Sticky.{Ended, Sticky, exec_sticky, visits_sticky}
use Rattle.context.specs.Rep.{Walk, mode, Lent}
use Rattle.context.specs.Does.{nth, noted_look, visit_at, visit_in, own_stream, near, doing, does, through, items}
use Rattle.context.specs.Words.{is_go}
use Rattle.context.proofs.Basics.{clash, no_emit, no_kept}
use Rattle.context.proofs.VisitLaws.{children_near, visit_none}
use Rattle.context.proofs.PartLaws.{nth_next, width_none, width_some, block_some}
use Rattle.visit.specs.Runs.{bodied, bodied_all}

-- the run does not go on
ended : (f : Flow) → is_go f ≡ false → Ended f
ended Go e = absurd (clash e)
ended (Cut k a b) e = tt
ended (Refused x r) e = tt

module _ (e : Lent) (c : Walk) where
  abbrev R : List ℕ
  R = e.records

  next_none : next R 0 ≡ 0
  unfolding next
  next_none = refl

  -- a visit does nothing where the run does not go on
  pub visit_still : (a : Role) (l : ℕ) (A : State) → is_go (flow A) ≡ false → visit_in e c a l A ≡ A
  unfolding visit_at
  visit_still a l A n = visits_sticky (noted_look e.notes) (mode c) (forest R l) (words R c.function) a 0 A (ended (flow A) n)

  pub through_none : (n l : ℕ) (A : State) → l ≡ 0 → through e c Expr n l A ≡ A
  through_none zero l A q = refl
  through_none (suc n) l A q =
      let v : visit_in e c Expr l A ≡ A = ap (λ (x : ℕ). visit_in e c Expr x A) q ∙ visit_none e c Expr A in
      through_none n (next R l) (visit_in e c Expr l A) (ap (next R) q ∙ next_none) ∙ v

  -- one turn of the loop along n siblings
  pub through_turn : (n l x : ℕ) (A : State) → 0 < n → x ≡ next R l → through e c Expr n l A ≡ through e c Expr (n - 1) x (visit_in e c Expr l A)
  through_turn n l x A lt q =
      let m : n ≡ suc (n - 1) = omega arith in
      ap (λ (k : ℕ). through e c Expr k l A) m ∙ ap (λ (k : ℕ). through e c Expr (n - 1) k (visit_in e c Expr l A)) (sym q)

module _ (e : Lent) (c : Walk) (r : ℕ) where
  near_sticky : (a : Role) (j : ℕ) → Sticky (near e c r a j)
  near_sticky a j =
      subst (λ (v : Role → ℕ → State → State). Sticky (v a j)) (children_near e c r)
      (visits_sticky (noted_look e.notes) (mode c) (children e.records r) (words e.records c.function) a j)

  -- nothing is done where the run does not go on
  pub doing_still : (is : List Step) (env : List ℕ) (A : State) → is_go (flow A) ≡ false → doing e c r is env A ≡ A
  unfolding doing
  doing_still is env A n =
      exec_sticky (noted_look e.notes) (mode c) (words e.records c.function) r (words e.records r) (children e.records r) (near e c r)
      (own_stream e c r) near_sticky is env A (ended (flow A) n)

  -- a block's expressions that are left: the one at record l, and those behind it
  pub left_items : ℕ → State → State
  left_items l A = items e c r (width (own_tree (forest e.records (next e.records l)))) l A

  pub block_left : {l : ℕ} → l ≡ first e.records r → (l ≡ 0 → ⊥) → (A : State)
      → does e c r (block_steps (words e.records r) (own_tree (children e.records r))) A ≡ left_items l A
  unfolding left_items
  block_left {l} q ne A = block_some e c r l q ne A

  items_still : (n l : ℕ) (A : State) → is_go (flow A) ≡ false → items e c r n l A ≡ A
  items_still zero l A q = no_kept (visit_in e c Expr l) A q
  items_still (suc n) l A q =
      ap (λ (B : State). items e c r n (next e.records l) (emit (mark r (Do Pop 0)) B)) (no_kept (visit_in e c Expr l) A q)
      ∙ ap (items e c r n (next e.records l)) (no_emit (mark r (Do Pop 0)) A q)
      ∙ items_still n (next e.records l) A q

  pub left_still : (l : ℕ) (A : State) → is_go (flow A) ≡ false → left_items l A ≡ A
  unfolding left_items
  left_still l A q = items_still (width (own_tree (forest e.records (next e.records l)))) l A q

  -- the last expression, or one with others behind it
  pub left_last : (l x : ℕ) (A : State) → x ≡ next e.records l → x ≡ 0 → left_items l A ≡ kept (visit_in e c Expr l) A
  unfolding left_items
  left_last l x A q z = ap (λ (n : ℕ). items e c r n l A) (width_none e.records (next e.records l) (sym q ∙ z))

  pub left_turn : (l x : ℕ) (A : State) → x ≡ next e.records l → (x ≡ 0 → ⊥)
      → left_items l A ≡ left_items x (emit (mark r (Do Pop 0)) (kept (visit_in e c Expr l) A))
  unfolding left_items
  left_turn l x A q ne =
      let B = emit (mark r (Do Pop 0)) (kept (visit_in e c Expr l) A) in
      ap (λ (n : ℕ). items e c r n l A) (ap (λ (y : ℕ). width (own_tree (forest e.records y))) (sym q) ∙ width_some e.records x ne)
      ∙ ap (λ (y : ℕ). items e c r (width (own_tree (forest e.records (next e.records x)))) y B) (sym q)

  -- ---- AssignUnpack's Lefts, and AssignMulti's

  -- n Lefts from the record l on, each assigned its item, from item i on
  abbrev pub unpacks : ℕ → ℕ → ℕ → State → State
  unpacks i zero l A = A
  unpacks i (suc n) l A =
      unpacks (suc i) n (next e.records l) (visit_in e c Target l (emit (mark r (Do GetItem 0)) (emit (mark r (Load LoadConst (int i))) A)))

  -- the first n children as targets, the last first
  abbrev pub downs : ℕ → State → State
  downs zero A = A
  downs (suc n) A = downs n (near e c r Target n A)

  pub unpacked_part : (i n : ℕ) (is : List Step) (env : List ℕ) (A : State)
      → doing e c r (unpacked i n is) env A ≡ doing e c r is env (unpacks i n (nth e.records i (first e.records r)) A)
  unfolding doing exec
  unpacked_part i zero is env A = refl
  unpacked_part i (suc n) is env A =
      let B = unpacks i 1 (nth e.records i (first e.records r)) A in
      unpacked_part (suc i) n is env B ∙ ap (λ (l : ℕ). doing e c r is env (unpacks (suc i) n l B)) (sym (nth_next e.records i (first e.records r)))

  pub unpacks_turn : (n i l x : ℕ) (A : State) → i < n → x ≡ next e.records l
      → unpacks i (n - i) l A ≡ unpacks (i + 1) (n - (i + 1)) x (unpacks i 1 l A)
  unpacks_turn n i l x A lt q =
      let m : n - i ≡ suc (n - (i + 1)) = omega arith in
      let s : suc i ≡ i + 1 = omega arith in
      ap (λ (k : ℕ). unpacks i k l A) m
      ∙ ap (λ (k : ℕ). unpacks k (n - (i + 1)) (next e.records l) (unpacks i 1 l A)) s
      ∙ ap (λ (k : ℕ). unpacks (i + 1) (n - (i + 1)) k (unpacks i 1 l A)) (sym q)

  -- bodies whose labels are consecutive
  pub bodies_part : (i j n base : ℕ) (is : List Step) (env : List ℕ) (A : State) → ((k : ℕ) → k < n → get_or env (i + k) 0 ≡ base + k)
      → doing e c r (bodies i j n is) env A ≡ doing e c r is env (bodied e c r base (get_or env 0 0) n (nth e.records j (first e.records r)) A)
  unfolding doing exec
  bodies_part i j zero base is env A h = refl
  bodies_part i j (suc n) base is env A h =
      let at : ℕ = nth e.records j (first e.records r) in
      let l : get_or env i 0 ≡ base
      = ap (λ (k : ℕ). get_or env k 0) (let z : i ≡ i + 0 = omega arith in z) ∙ h 0 (omega arith) ∙ (let z : base + 0 ≡ base = omega arith in z) in
      ap (λ (b : ℕ). doing e c r (bodies (suc i) (suc j) n is) env (bodied e c r b (get_or env 0 0) 1 at A)) l
      ∙ bodies_part (suc i) (suc j) n (suc base) is env (bodied e c r base (get_or env 0 0) 1 at A)
      (λ k lt. ap (λ (x : ℕ). get_or env x 0) (let z : suc i + k ≡ i + suc k = omega arith in z) ∙ h (suc k) (omega arith)
      ∙ (let z : base + suc k ≡ suc base + k = omega arith in z))
      ∙ ap (λ (l : ℕ). doing e c r is env (bodied e c r (suc base) (get_or env 0 0) n l (bodied e c r base (get_or env 0 0) 1 at A)))
      (sym (nth_next e.records j (first e.records r)))

  -- nothing is done by bodies where the run does not go on
  pub bodied_still : (base end n l : ℕ) (A : State) → is_go (flow A) ≡ false → bodied e c r base end n l A ≡ A
  bodied_still base end zero l A q = refl
  bodied_still base end (suc n) l A q =
      let one : bodied e c r base end 1 l A ≡ A
      = ap (λ (B : State). emit (mark r (To Jump end)) (visit_in e c Expr l B)) (no_emit (mark r (Label base)) A q)
      ∙ ap (emit (mark r (To Jump end))) (visit_still e c Expr l A q) ∙ no_emit (mark r (To Jump end)) A q in
      ap (bodied e c r (suc base) end n (next e.records l)) one ∙ bodied_still (suc base) end n (next e.records l) A q

  pub bodied_none : (base end l : ℕ) (A : State) → l ≡ 0 → bodied_all e c r base end l A ≡ A
  unfolding bodied_all
  bodied_none base end l A q = ap (λ (n : ℕ). bodied e c r base end n l A) (width_none e.records l q)

  pub bodied_turn : (base end l x : ℕ) (A : State) → (l ≡ 0 → ⊥) → x ≡ next e.records l
      → bodied_all e c r base end l A ≡ bodied_all e c r (suc base) end x (bodied e c r base end 1 l A)
  unfolding bodied_all
  bodied_turn base end l x A ne q =
      ap (λ (n : ℕ). bodied e c r base end n l A) (width_some e.records l ne)
      ∙ ap (λ (y : ℕ). bodied e c r (suc base) end (width (own_tree (forest e.records y))) y (bodied e c r base end 1 l A)) (sym q)

  pub down_part : (n : ℕ) (is : List Step) (env : List ℕ) (A : State) → doing e c r (visits_down Target n is) env A ≡ doing e c r is env (downs n A)
  unfolding doing exec
  down_part zero is env A = refl
  down_part (suc n) is env A = down_part n is env (near e c r Target n A)
