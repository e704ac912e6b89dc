-- The visitors' loops: what is left of the work, where the loop stands. Assumes nothing.
use mathlib.Core.Path.{◌≡◌, refl, sym, ap, ap₂, ◌∙◌}
use mathlib.Core.Bool.{true, false}
use mathlib.Core.Logic.{inr, ⊎_elim}
use Prim.Native.Nat.{ℕ, zero, suc, ◌+◌, ◌-◌, ◌≤◌, ◌<◌}
use native.Mathlib.Omega.{arith}
use Rattle.tables.specs.Record.{size}
use Rattle.tables.specs.Forest.{first, next, children, own_tree}
use Rattle.pool.specs.Notes.{earlier_noted}
use Rattle.rules.specs.Marker.{Pop, Do, mark}
use Rattle.rules.specs.Step.{Expr, Target, width}
use Rattle.rules.specs.Run.{State, emit}
use Rattle.context.specs.Words.{cap, more}
use Rattle.context.specs.Sinks.{goes, kept as kept_of}
use Rattle.context.specs.Rep.{Walk, Lent, Scoped, SameSizes, Sim}
use Rattle.context.specs.declared.Context.{Context}
use Rattle.context.specs.Does.{nth, visit_in, through}
use Rattle.context.proofs.Basics.{more_cap}
use Rattle.context.proofs.RepLaws.{stood, given, then, resim, stay}
use Rattle.context.proofs.InsideLaws.{item_goes}
use Rattle.context.proofs.PartLaws.{nth_next}
use Rattle.plain.proofs.CountLaws.{nth_some}
use Rattle.visit.specs.Runs.{bodied, bodied_all}
use Rattle.visit.proofs.FallLaws.{Linked, Along, child2, linked_nth, along_next}
use Rattle.visit.proofs.RunLaws.{unpacks, downs, through_none, through_turn, left_items, left_still, left_last, left_turn, unpacks_turn, bodied_none, bodied_turn}

-- from the context w on f was to be done, and from w' on g is left of it
pub record Remains (e : Lent) (w : Context) (f : Walk → State → State) (w' : Context) (g : Walk → State → State) : Type 0 where
  pub after : (w'' : Context) → Sim e w' w'' g → Sim e w w'' f

module _ {e : Lent} where
  all_left : {w : Context} {f g : Walk → State → State} → ((c : Walk) → Scoped e → (A : State) → f c A ≡ g c A) → Remains e w f w g
  all_left q = record { after = λ w'' h. resim q h }

  less_left : {w w' w'' : Context} {f g h k : Walk → State → State} → Remains e w f w' g → Sim e w' w'' k
      → ((c : Walk) → Scoped e → (A : State) → g c A ≡ h c (k c A)) → Remains e w f w'' h
  less_left r m q = record { after = λ w''' z. r.after w''' (resim q (then m z)) }

  none_left : {w w' : Context} {f g : Walk → State → State} → Remains e w f w' g → ((c : Walk) → Scoped e → (A : State) → g c A ≡ A) → Sim e w w' f
  none_left r q = r.after _ (resim q stay)

less_none : (n : ℕ) → n ≡ n - 0
less_none n = omega arith

-- ---- a block's expressions

module _ (e : Lent) (r : ℕ) where
  pub record Blocking (w : Context) (l₀ : ℕ) (w' : Context) (l : ℕ) : Type 0 where
    pub link : Linked (size e.records) r l
    pub some : l ≡ 0 → ⊥
    pub work : Remains e w (λ c. left_items e c r l₀) w' (λ c. left_items e c r l)

  pub blocking_start : (w : Context) {l : ℕ} → Linked (size e.records) r l → (l ≡ 0 → ⊥) → Blocking w l w l
  blocking_start w l ne = record { link = l; some = ne; work = all_left (λ c z A. refl) }

  module _ {w w' : Context} {l₀ l : ℕ} (h : Blocking w l₀ w' l) where
    -- an expression, its error kept: the last one, or one with another behind it
    module _ {w₁ w₂ : Context} {x : ℕ} (g : goes w' ≡ true) (v : Sim e w' w₁ (λ c. visit_in e c Expr l)) (y : w₂ ≡ kept_of w₁)
        (q : x ≡ next e.records l) where
      pub blocking_last : x ≡ 0 → Sim e w w₂ (λ c. left_items e c r l₀)
      blocking_last z = h.work.after _ (resim (λ c s A. left_last e c r l x A q z) (item_goes e (λ c. visit_in e c Expr l) g v y))

      pub blocking_again : {w₃ : Context} → (x ≡ 0 → ⊥) → Sim e w₂ w₃ (λ c. emit (mark r (Do Pop 0)))
          → Blocking w l₀ w₃ x
      blocking_again ne p = record {
        link = child2 e.records q h.link;
        some = ne;
        work = less_left h.work (then (item_goes e (λ c. visit_in e c Expr l) g v y) p) (λ c s A. left_turn e c r l x A q ne);
      }

    pub blocking_still : goes w' ≡ false → Sim e w w' (λ c. left_items e c r l₀)
    blocking_still n = h.work.after _ (record { sim = λ z c o₀ A y. given (left_still e c r l A (stood y n)) y; sizes = refl })

-- ---- n siblings from the record a on

module _ (e : Lent) (a n : ℕ) where
  pub record All (w w' : Context) (l i : ℕ) : Type 0 where
    pub along : Along a l
    pub none : a ≡ 0 → l ≡ 0
    pub work : Remains e w (λ c. through e c Expr n a) w' (λ c. through e c Expr i l)

  module _ {w w' : Context} {l i : ℕ} (h : All w w' l i) where
    pub all_again : {w'' : Context} {x j : ℕ} → 0 < i → (l ≡ 0 → ⊥) → x ≡ next e.records l → j ≡ i - 1
        → Sim e w' w'' (λ c. visit_in e c Expr l) → All w w'' x j
    all_again {x = x} lt ne q m v = record {
      along = along_next e.records q ne h.along;
      none = λ z. absurd (ne (h.none z));
      work = less_left h.work v (λ c z A. through_turn e c i l x A lt q ∙ ap (λ (j : ℕ). through e c Expr j x (visit_in e c Expr l A)) (sym m));
    }

    -- no sibling is left, or the n are visited
    pub all_none : l ≡ 0 → Sim e w w' (λ c. through e c Expr n a)
    all_none q = none_left h.work (λ c z A. through_none e c i l A q)

    pub all_end : i ≤ 0 → Sim e w w' (λ c. through e c Expr n a)
    all_end le = none_left h.work (λ c z A. ap (λ (m : ℕ). through e c Expr m l A) (let q : i ≡ 0 = omega arith in q))

-- ---- an AssignUnpack's Lefts

module _ (e : Lent) (r n : ℕ) where
  pub record Unpacking (w w' : Context) (l i : ℕ) : Type 0 where
    pub link : Linked (size e.records) r l
    pub work : Remains e w (λ c. unpacks e c r 0 n (first e.records r)) w' (λ c. unpacks e c r i (n - i) l)

  pub unpacking_start : (w : Context) {l : ℕ} → l ≡ first e.records r → Linked (size e.records) r l → Unpacking w w l 0
  unpacking_start w q l = record {
    link = l;
    work = all_left (λ c z A. ap₂ (λ (m x : ℕ). unpacks e c r 0 m x A) (less_none n) (sym q));
  }

  module _ {w w' : Context} {l i : ℕ} (h : Unpacking w w' l i) where
    pub unpacking_again : {w'' : Context} {x : ℕ} → i < n → x ≡ next e.records l → Sim e w' w'' (λ c. unpacks e c r i 1 l)
        → Unpacking w w'' x (i + 1)
    unpacking_again {x = x} lt q v = record {
      link = child2 e.records q h.link;
      work = less_left h.work v (λ c z A. unpacks_turn e c r n i l x A lt q);
    }

    pub unpacking_end : n ≤ i → Sim e w w' (λ c. unpacks e c r 0 n (first e.records r))
    unpacking_end le = none_left h.work (λ c z A. ap (λ (m : ℕ). unpacks e c r i m l A) (let q : n - i ≡ 0 = omega arith in q))

-- ---- bodies behind their labels, the first at the record a behind the label of the word b, each with a jump to the label of the word m

module _ (e : Lent) (a b m : ℕ) where
  pub record Bodying (w w' : Context) (l x : ℕ) : Type 0 where
    pub along : Along a l
    pub none : a ≡ 0 → l ≡ 0
    pub turns : ℕ
    pub label : (base : ℕ) → b ≡ cap base → x ≡ cap (base + turns)
    pub work : (r base end : ℕ) → b ≡ cap base → m ≡ cap end
        → Remains e w (λ c. bodied_all e c r base end a) w' (λ c. bodied_all e c r (base + turns) end l)
    pub sizes : SameSizes w w'

  none_more : (i : ℕ) → i ≡ i + 0
  none_more i = omega arith

  pub bodying_start : (w : Context) → Bodying w w a b
  bodying_start w = record {
    along = inr (omega arith);
    none = λ q. q;
    turns = 0;
    label = λ i q. q ∙ ap cap (none_more i);
    work = λ r i j q d. all_left (λ c z A. ap (λ (y : ℕ). bodied_all e c r y j a A) (none_more i));
    sizes = refl;
  }

  module _ {w w' : Context} {l x : ℕ} (h : Bodying w w' l x) where
    pub bodying_again : {w'' : Context} {y v : ℕ} → (l ≡ 0 → ⊥) → y ≡ next e.records l → v ≡ more x
        → ((r i j : ℕ) → x ≡ cap i → m ≡ cap j → Sim e w' w'' (λ c. bodied e c r i j 1 l)) → SameSizes w' w''
        → Bodying w w'' y v
    bodying_again {y = y} ne q u d k = record {
      along = along_next e.records q ne h.along;
      none = λ z. absurd (ne (h.none z));
      turns = suc h.turns;
      label = λ i z. u ∙ ap more (h.label i z) ∙ more_cap (i + h.turns) ∙ ap cap (one_on i);
      work = λ r i j z f. less_left (h.work r i j z f) (d r (i + h.turns) j (h.label i z) f)
          (λ c s A. bodied_turn e c r (i + h.turns) j l y A ne q ∙ ap (λ (t : ℕ). bodied_all e c r t j y (bodied e c r (i + h.turns) j 1 l A)) (one_on i));
      sizes = k ∙ h.sizes;
    }
      where
        one_on : (i : ℕ) → suc (i + h.turns) ≡ i + suc h.turns
        one_on i = omega arith

    pub bodying_end : l ≡ 0 → (r i j : ℕ) → b ≡ cap i → m ≡ cap j → Sim e w w' (λ c. bodied_all e c r i j a)
    bodying_end q r i j z f = none_left (h.work r i j z f) (λ c s A. bodied_none e c r (i + h.turns) j l A q)

-- ---- an AssignMulti's Lefts, from the last to the first

module _ (e : Lent) (r n : ℕ) where
  abbrev child : ℕ → ℕ
  child j = nth e.records j (first e.records r)

  pub record Downing (w w' : Context) (l i : ℕ) : Type 0 where
    pub bound : i ≤ n
    pub few : n ≤ width (own_tree (children e.records r))
    pub place : Scoped e → 0 < i → l ≡ child (i - 1)
    pub work : Remains e w (λ c. downs e c r n) w' (λ c. downs e c r i)
    pub sizes : SameSizes w w'

  pub downing_start : (w : Context) {a m l i : ℕ} → i ≡ n → n ≤ width (own_tree (children e.records r)) → a ≡ first e.records r → m ≡ n - 1 → l ≡ nth e.records m a
      → Downing w w l i
  downing_start w s le q p d = record {
    bound = omega arith;
    few = le;
    place = λ z lt. d ∙ ap₂ (nth e.records) (p ∙ ap (λ (k : ℕ). k - 1) (sym s)) q;
    work = all_left (λ c z A. ap (λ (k : ℕ). downs e c r k A) (sym s));
    sizes = refl;
  }

  down_step : (c : Walk) (i l : ℕ) (A : State) → 0 < i → l ≡ child (i - 1) → downs e c r i A ≡ downs e c r (i - 1) (visit_in e c Target l A)
  down_step c zero l A lt q = absurd (omega arith)
  down_step c (suc i) l A lt q =
      let z : suc i - 1 ≡ i = omega arith in
      ap (λ (x : ℕ). downs e c r i (visit_in e c Target x A)) (sym (q ∙ ap child z)) ∙ ap (λ (y : ℕ). downs e c r y (visit_in e c Target l A)) (sym z)

  back_step : Scoped e → (i l x : ℕ) → i ≤ width (own_tree (children e.records r)) → 0 < i - 1 → l ≡ child (i - 1) → x ≡ earlier_noted e.notes l → x ≡ child (i - 1 - 1)
  back_step z i l x le lt q p =
      let a = child (i - 1 - 1) in
      let w : l ≡ next e.records a
      = q ∙ ap child (let v : i - 1 ≡ suc (i - 1 - 1) = omega arith in v) ∙ sym (nth_next e.records (i - 1 - 1) (first e.records r)) in
      p ∙ ap (earlier_noted e.notes) w ∙ z.backs a (λ v. nth_some e.records (i - 1) (first e.records r) (omega arith) (sym q ∙ w ∙ v))

  module _ {w w' : Context} {l i : ℕ} (h : Downing w w' l i) where
    pub downing_again : {w'' : Context} {x j : ℕ} → 0 < i → x ≡ earlier_noted e.notes l → j ≡ i - 1
        → Sim e w' w'' (λ c. visit_in e c Target l) → Downing w w'' x j
    downing_again {x = x} {j} lt q m v = record {
      bound = omega (arith, h.bound);
      few = h.few;
      place = λ z ls. back_step z i l x (omega (arith, h.bound, h.few)) (omega arith) (h.place z lt) q ∙ ap child (let y : i - 1 - 1 ≡ j - 1 = omega arith in y);
      work = less_left h.work v (λ c z A. down_step c i l A lt (h.place z lt) ∙ ap (λ (y : ℕ). downs e c r y (visit_in e c Target l A)) (sym m));
      sizes = v.sizes ∙ h.sizes;
    }

    pub downing_end : i ≤ 0 → Sim e w w' (λ c. downs e c r n)
    downing_end le = none_left h.work (λ c z A. ap (λ (y : ℕ). downs e c r y A) (let q : i ≡ 0 = omega arith in q))

    -- a link back never leads to record r or before it
    pub downing_never : 0 < i → l ≤ r → {f : Walk → State → State} → Sim e w w' f
    downing_never lt le = record {
      sim = λ z c o₀ A y.
          let q = h.place z lt in
          let ne = nth_some e.records (i - 1) (first e.records r) (omega (arith, h.bound, h.few)) in
          absurd (⊎_elim (λ v. ne (sym q ∙ v)) (λ v. omega (arith, v.0)) (linked_nth e.records r (i - 1) refl q));
      sizes = h.sizes;
    }
