-- The leaves' loops, turn by turn. Assumes nothing.
use mathlib.Core.Path.{◌≡◌, refl, sym, ap, ap₂, ◌∙◌}
use mathlib.Core.List.{List, []}
use Prim.Native.Nat.{ℕ, zero, suc, ◌+◌, ◌-◌, ◌≤◌, ◌<◌}
use native.Mathlib.Omega.{arith}
use Rattle.opcode.specs.Words.{pair_of}
use Rattle.tables.specs.Record.{words}
use Rattle.tables.specs.Forest.{first, next, children, own_tree}
use Rattle.pool.specs.Value.{int}
use Rattle.pool.specs.Notes.{earlier_noted}
use Rattle.rules.specs.Marker.{Copy, Do, mark}
use Rattle.rules.specs.Step.{Set, stores_down, width}
use Rattle.rules.specs.Arms.{params_steps}
use Rattle.rules.specs.Run.{State, exec}
use Rattle.context.specs.Sinks.{pushed, used as used_of}
use Rattle.context.specs.Rep.{Walk, Lent, Scoped, SameSizes, Moves, Sim}
use Rattle.context.specs.declared.Context.{Context}
use Rattle.context.specs.Does.{nth, access_noted, doing, does}
use Rattle.context.proofs.RepLaws.{given, then_moves, removes}
use Rattle.context.proofs.MarkLaws.{said}
use Rattle.context.proofs.StayLaws.{push_stays, use_stays}
use Rattle.context.proofs.SizeLaws.{pushed_sizes, used_sizes}
use Rattle.context.proofs.PartLaws.{width_none, nth_next}
use Rattle.plain.specs.Runs.{repeated, use_at, register, registering, item_put, items_put}
use Rattle.plain.specs.Leaves.{GetsItem, Registers}
use Rattle.plain.proofs.CountLaws.{row, width_falls, nth_some}
use Rattle.plain.proofs.LeafLaws.{used_at, use_below}
use Rattle.plain.proofs.RunLaws.{repeated_last}

-- what is left to do: g from here is f from the start
pub record Rest (records : List ℕ) (w₁ : Context) (f : Walk → State → State) (w : Context) (g : Walk → State → State) : Type 0 where
  pub rest : (w' : Context) → Moves records w w' g → Moves records w₁ w' f

module _ {records : List ℕ} {f : Walk → State → State} where
  pub rest_start : {w : Context} {g : Walk → State → State} → ((c : Walk) (A : State) → f c A ≡ g c A) → Rest records w f w g
  rest_start q = record { rest = λ w' h. removes q h }

  pub rest_go : {w₁ w w' : Context} {g h k : Walk → State → State} → Rest records w₁ f w g → Moves records w w' k
      → ((c : Walk) (A : State) → g c A ≡ h c (k c A)) → Rest records w₁ f w' h
  rest_go d m q = record { rest = λ w'' h. d.rest w'' (removes q (then_moves m h)) }

  pub rest_end : {w₁ w : Context} {g : Walk → State → State} → Rest records w₁ f w g → ((c : Walk) (A : State) → g c A ≡ A) → Moves records w₁ w f
  rest_end {w = w} d q = d.rest w (record { moves = λ c o₀ A h. given (q c A) h; sizes = refl })

-- the Ident at record i
pub uses_moves : (e : Lent) {w w' : Context} (r i : ℕ) → w' ≡ used_of Set i (access_noted e.notes Set i) w
    → Moves e.records w w' (λ c. use_at e r Set i)
uses_moves e r i k = record { moves = λ c o₀ A h. used_at e r Set i k h; sizes = used_sizes Set i (access_noted e.notes Set i) _ k }

-- ---- copies: i - 1 are made

pub record Copying (n : ℕ) (w₁ w : Context) (i : ℕ) : Type 0 where
  pub made : (records : List ℕ) (r : ℕ) → Moves records w₁ w (λ c. repeated (mark r (Do Copy 1)) (i - 1))
  pub from : 1 ≤ i
  pub most : i - 1 ≤ n - 1
  pub consts : w.consts ≡ w₁.consts

pub copying_again : {n : ℕ} {w₁ w w' : Context} {i : ℕ} → Copying n w₁ w i → i < n → w' ≡ pushed (pair_of 1 1) w
    → Copying n w₁ w' (i + 1)
copying_again {i = i} d lt k = record {
  made = λ records r.
      let x = mark r (Do Copy 1) in
      record {
        moves = λ c o₀ A h.
            given (ap (λ (m : ℕ). repeated x m A) (let z : i + 1 - 1 ≡ suc (i - 1) = omega (arith, d.from) in z) ∙ repeated_last x (i - 1) A)
            (said r Copy 1 refl refl k ((d.made records r).moves c o₀ A h));
        sizes = pushed_sizes _ _ k ∙ (d.made records r).sizes;
      };
  from = omega (arith, d.from);
  most = omega (arith, d.from);
  consts = push_stays _ _ k ∙ d.consts;
}

pub copying_end : {n : ℕ} {w₁ w : Context} {i : ℕ} → Copying n w₁ w i → n ≤ i → (records : List ℕ) (r : ℕ)
    → Moves records w₁ w (λ c. repeated (mark r (Do Copy 1)) (n - 1))
copying_end {n} {i = i} d le records r =
    removes (λ c A. ap (λ (m : ℕ). repeated (mark r (Do Copy 1)) m A) (let z : n - 1 ≡ i - 1 = omega (arith, d.from, d.most) in z)) (d.made records r)

module _ (e : Lent) where
  abbrev R : List ℕ
  R = e.records

  -- ---- a Call's Handlers: those from the record h on are left

  pub record Registering (h₁ : ℕ) (w₁ w : Context) (h : ℕ) : Type 0 where
    pub work : (r : ℕ)
        → Rest R w₁ (λ c. registering e r (width (row R h₁)) h₁) w (λ c. registering e r (width (row R h)) h)
    pub consts : w.consts ≡ w₁.consts

  pub registering_again : {h₁ : ℕ} {w₁ w w' : Context} {h x : ℕ} → Registering h₁ w₁ w h → (h ≡ 0 → ⊥) → x ≡ next R h
      → ((r : ℕ) → Moves R w w' (λ c. register e r h)) → w'.consts ≡ w.consts → Registering h₁ w₁ w' x
  registering_again {h = h} {x = x} d ne q k s = record {
    work = λ r. rest_go (d.work r) (k r) (λ c A.
        ap (λ (n : ℕ). registering e r n h A) (width_falls R h x ne q) ∙ ap (λ (y : ℕ). registering e r (width (row R x)) y (register e r h A)) (sym q));
    consts = s ∙ d.consts;
  }

  pub registering_end : {h₁ : ℕ} {w₁ w : Context} {h l : ℕ} → Registering h₁ w₁ w h → h ≡ 0 → l ≡ w₁.label_count → Registers e w₁ w h₁ l
  registering_end {h = h} d z el = record {
    label = el;
    moves = λ r. rest_end (d.work r) (λ c A. ap (λ (n : ℕ). registering e r n h A) (width_none R h z));
  }

  -- ---- a For's targets: the next item is i of n, for the record l

  pub item_puts : {w w₁ w₂ : Context} {i : ℕ} (r l : ℕ) → GetsItem R w w₁ (int i) → w₂ ≡ used_of Set l (access_noted e.notes Set l) w₁
      → Moves R w w₂ (λ c. item_put e r i l)
  unfolding item_put
  item_puts r l a b = then_moves (a.moves r r) (uses_moves e r l b)

  items_turn : (r i n l x : ℕ) (A : State) → i < n → x ≡ next R l → items_put e r i (n - i) l A ≡ items_put e r (i + 1) (n - (i + 1)) x (item_put e r i l A)
  items_turn r i n l x A lt q =
      let B = item_put e r i l A in
      ap (λ (k : ℕ). items_put e r i k l A) (let z : n - i ≡ suc (n - (i + 1)) = omega arith in z)
      ∙ ap₂ (λ (j y : ℕ). items_put e r j (n - (i + 1)) y B) (let z : suc i ≡ i + 1 = omega arith in z) (sym q)

  pub record Giving (n l₁ : ℕ) (w₁ w : Context) (i l : ℕ) : Type 0 where
    pub work : (r : ℕ) → Rest R w₁ (λ c. items_put e r 0 n l₁) w (λ c. items_put e r i (n - i) l)

  pub giving_start : (n l : ℕ) (w : Context) → Giving n l w w 0 l
  giving_start n l w =
      record { work = λ r. rest_start (λ c A. ap (λ (k : ℕ). items_put e r 0 k l A) (let z : n ≡ n - 0 = omega arith in z)) }

  pub giving_again : {n l₁ : ℕ} {w₁ w w' : Context} {i l x : ℕ} → Giving n l₁ w₁ w i l → i < n → x ≡ next R l
      → ((r : ℕ) → Moves R w w' (λ c. item_put e r i l))
      → Giving n l₁ w₁ w' (i + 1) x
  giving_again {n} {i = i} {l = l} {x = x} d lt q k = record {
    work = λ r. rest_go (d.work r) (k r) (λ c A. items_turn r i n l x A lt q);
  }

  pub giving_end : {n l₁ : ℕ} {w₁ w : Context} {i l : ℕ} → Giving n l₁ w₁ w i l → n ≤ i → (r : ℕ) → Moves R w₁ w (λ c. items_put e r 0 n l₁)
  giving_end {n} {i = i} {l = l} d le r = rest_end (d.work r) (λ c A. ap (λ (k : ℕ). items_put e r i k l A) (let z : n - i ≡ 0 = omega arith in z))

  -- ---- the Params of record r, from the last to the first: n are left, the last of them at record i

  module _ (r : ℕ) where
    abbrev down : ℕ → Walk → State → State
    down n c = doing e c r (stores_down n []) []

    down_turn : (n m i : ℕ) → m ≡ n - 1 → 0 < n → i ≡ nth R (n - 1) (first R r) → (c : Walk) (A : State) → down n c A ≡ down m c (use_at e r Set i A)
    unfolding doing exec
    down_turn zero m i q h p c A = absurd (omega arith)
    down_turn (suc n) m i q h p c A =
        let z : m ≡ n = omega arith in
        let y : suc n - 1 ≡ n = omega arith in
        ap (λ (B : State). down n c B) (use_below e (words R c.function) (words R r) r Set i n [] (p ∙ ap (λ (k : ℕ). nth R k (first R r)) y) A)
        ∙ ap (λ (k : ℕ). down k c (use_at e r Set i A)) (sym z)

    pub record Down (w₁ w : Context) (n i : ℕ) : Type 0 where
      pub work : Scoped e
          → Rest R w₁ (λ c. does e c r (params_steps (words R r) (own_tree (children R r)))) w (down n)
      pub place : Scoped e → 0 < n → i ≡ nth R (n - 1) (first R r)
      pub few : n ≤ width (row R (first R r))
      pub consts : w.consts ≡ w₁.consts
      pub sizes : SameSizes w₁ w

    pub down_start : (w : Context) {l n i : ℕ} → l ≡ first R r → n ≡ width (row R l) → i ≡ nth R (width (row R l) - 1) l → Down w w n i
    unfolding does
    down_start w {l} {n} {i} el en ei = record {
      work = λ z. rest_start (λ c A. ap (λ (k : ℕ). down k c A) (sym q));
      place = λ z h. ei ∙ ap₂ (λ (k x : ℕ). nth R k x) (ap (λ (k : ℕ). k - 1) (sym en)) el;
      few = let y : n ≡ width (row R (first R r)) = q in omega arith;
      consts = refl;
      sizes = refl;
    }
      where
        q : n ≡ width (row R (first R r))
        q = en ∙ ap (λ (x : ℕ). width (row R x)) el

    before : Scoped e → (n m i x : ℕ) → n ≤ width (row R (first R r)) → m ≡ n - 1 → 0 < m → i ≡ nth R (n - 1) (first R r) → x ≡ earlier_noted e.notes i
        → x ≡ nth R (m - 1) (first R r)
    before z n zero i x le em h p ex = absurd (omega arith)
    before z n (suc m) i x le em h p ex =
        let l = first R r in
        let y : n - 1 ≡ suc m = sym em in
        let u : suc m - 1 ≡ m = omega arith in
        let w : i ≡ next R (nth R m l) = p ∙ ap (λ (k : ℕ). nth R k l) y ∙ sym (nth_next R m l) in
        ex ∙ ap (λ (k : ℕ). earlier_noted e.notes k) w ∙ z.backs (nth R m l) (λ q. nth_some R (suc m) l (omega arith) (sym (nth_next R m l) ∙ q))
        ∙ ap (λ (k : ℕ). nth R k l) (sym u)

    pub down_again : {w₁ w w' : Context} {n m i x : ℕ} → Down w₁ w n i → 0 < n → m ≡ n - 1 → w' ≡ used_of Set i (access_noted e.notes Set i) w
        → x ≡ earlier_noted e.notes i → Down w₁ w' m x
    down_again {n = n} {m = m} {i = i} {x = x} d h em k ex = record {
      work = λ z. rest_go (d.work z) (uses_moves e r i k) (λ c A. down_turn n m i em h (d.place z h) c A);
      place = λ z y. before z n m i x d.few em y (d.place z h) ex;
      few = omega (arith, d.few);
      consts = use_stays Set i (access_noted e.notes Set i) _ k ∙ d.consts;
      sizes = used_sizes Set i (access_noted e.notes Set i) _ k ∙ d.sizes;
    }

    pub down_end : {w₁ w : Context} {n i : ℕ} → Down w₁ w n i → n ≤ 0
        → Sim e w₁ w (λ c. does e c r (params_steps (words R r) (own_tree (children R r))))
    unfolding doing exec
    down_end {n = n} d h =
        let z : n ≡ 0 = omega arith in
        record { sim = λ s c o₀ A p. (rest_end (d.work s) (λ c A. ap (λ (k : ℕ). down k c A) z)).moves c o₀ A p; sizes = d.sizes }
