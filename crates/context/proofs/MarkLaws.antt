-- A marker pushed, an error kept: the moves that write words of the output. Assumes nothing.
use mathlib.Core.Path.{◌≡◌, refl, sym, ap, ap₂, ◌∙◌, subst, subst⁻¹}
use mathlib.Core.Bool.{Bool, true, false, cond}
use mathlib.Core.List.{List, ◌∷◌}
use Prim.Native.Nat.{ℕ, suc, ◌+◌, ◌*◌, ◌≤◌, ◌<◌}
use native.Mathlib.Omega.{arith}
use lib.ListN.{length}
use lib.Dec.{ltb}
use borrow.Author.Tests.{ltb-true, ltb-false}
use Rattle.opcode.specs.declared.opcode.Words.{Words as MarkerWords}
use Rattle.opcode.specs.Words.{pair_of}
use Rattle.pool.specs.Value.{Const}
use Rattle.pool.specs.Consts.{laid, put3, AllTold}
use Rattle.rules.specs.declared.Flow.{Flow}
use Rattle.rules.specs.declared.Flow.TheVariants.{Go, Cut, Refused}
use Rattle.rules.specs.Marker.{Forward, Code, Op, Label, To, Back, Leave, Load, Do, Mark, mark}
use Rattle.rules.specs.Run.{State, st, marks, flow, emit, settle, error_number}
use Rattle.rules.specs.Out.{consts, code_word, operand_word, forward_number, code_number}
use Rattle.context.specs.Words.{limit, cap, more}
use Rattle.context.specs.Sinks.{put2, goes, writes, marked, pushed, keeping, kept}
use Rattle.context.specs.Rep.{lay, note, Flat, Walk, Rep, Shown}
use Rattle.context.specs.declared.Context.{Context}
use Rattle.context.proofs.Basics.{clash, on_true, on_false, shape, more_cap, no_emit}
use Rattle.context.proofs.RepLaws.{given, stands, went, stood}

-- its words, whatever the constants, and the constants stay
shown_words : (w : MarkerWords) (x : Op) → Shown w x → (cs : List Const) → (w.code ≡ code_word x) × (w.operand ≡ cap (operand_word cs x))
shown_words w (Label l) q cs = q
shown_words w (To h l) q cs = q
shown_words w (Back l) q cs = q
shown_words w (Leave x l) q cs = q
shown_words w (Load c v) q cs = absurd q
shown_words w (Do c n) q cs = q

shown_consts : (w : MarkerWords) (r : ℕ) (x : Op) (m : List Mark) → Shown w x → consts (mark r x ∷ m) ≡ consts m
unfolding consts
shown_consts w r (Label l) m q = refl
shown_consts w r (To h l) m q = refl
shown_consts w r (Back l) m q = refl
shown_consts w r (Leave x l) m q = refl
shown_consts w r (Load c v) m q = absurd q
shown_consts w r (Do c n) m q = refl

a_mark : (recs o₀ cs₀ : List ℕ) (m : List Mark) (o cs : List ℕ) (place count : ℕ) (w : MarkerWords) (r : ℕ) (x : Op) → Shown w x → place < limit
    → Flat recs o₀ cs₀ m o cs place count → Flat recs o₀ cs₀ (mark r x ∷ m) (put2 o place w.code w.operand) cs (place + 1) count
unfolding lay
a_mark recs o₀ cs₀ m o cs place count w r x q lt h =
    let p : place ≡ cap (length m) = h.place in
    let a : place ≡ length m = omega arith in
    let z : consts (mark r x ∷ m) ≡ consts m = shown_consts w r x m q in
    let y = shown_words w x q (consts (mark r x ∷ m)) in
    record {
      wrote = λ room.
          let few : suc (length m) < limit = room.few in
          let t = h.wrote (record { table = subst (λ (ts : List Const). length ts * 3 ≤ length cs₀) z room.table; few = omega arith }) in
          record {
            words = ap (λ (j : ℕ). put2 o j w.code w.operand) a ∙ ap (λ (us : List ℕ). put2 us (length m) w.code w.operand) t.words
                ∙ ap₂ (λ (c v : ℕ). put2 (lay o₀ m) (length m) c v) y.0 y.1;
            table = t.table ∙ ap (λ (ts : List Const). laid cs₀ 0 ts) (sym z);
            told = subst (λ (ts : List Const). AllTold recs ts) (sym z) t.told;
            entries = t.entries ∙ ap (λ (ts : List Const). length ts) (sym z);
          };
      place = omega arith;
    }

-- no place left: then there is no room either
full : (recs o₀ cs₀ : List ℕ) (x : Mark) (m : List Mark) (o cs : List ℕ) (place count : ℕ) → limit ≤ place → Flat recs o₀ cs₀ m o cs place count
    → Flat recs o₀ cs₀ (x ∷ m) o cs place count
full recs o₀ cs₀ x m o cs place count le h =
    let p : place ≡ cap (length m) = h.place in
    record { wrote = λ room. let few : suc (length m) < limit = room.few in absurd (omega arith); place = omega arith }

-- where it is yes, the walk is without the functions inside, goes on and has a place
pub writes_so : (x : Context) → writes x ≡ true → (x.nest ≡ false) × (goes x ≡ true) × (x.marker_count < limit)
writes_so x e = by x.nest (goes x) (ltb x.marker_count limit) refl refl refl e
  where
    by : (a g b : Bool) → x.nest ≡ a → goes x ≡ g → ltb x.marker_count limit ≡ b → cond a false (cond g b false) ≡ true
        → (x.nest ≡ false) × (goes x ≡ true) × (x.marker_count < limit)
    by true g b n q lt e = absurd (clash (sym e))
    by false false b n q lt e = absurd (clash (sym e))
    by false true b n q lt e = (n, q, ltb-true _ _ (lt ∙ e))

module _ {c : Walk} {records : List ℕ} {x₀ : Context} where
  -- no word, and one marker more, of which nothing is to be shown but in a walk that writes
  unwritten : (A : State) (m : Mark) {x : Context}
      → (c.nest ≡ false → Flat records x₀.code.now x₀.consts.now (marks A) x.code.now x.consts.now x.marker_count x.const_count
      → Flat records x₀.code.now x₀.consts.now (m ∷ marks A) x.code.now x.consts.now x.marker_count x.const_count)
      → Rep c records x₀ A x → Rep c records x₀ (emit m A) x
  unfolding emit
  unwritten (st m l ls os Go e) k q h = record {
    code = h.code;
    consts = h.consts;
    flat = λ n. q n (h.flat n);
    noted = h.noted;
    labels = h.labels;
    size = h.size;
    loops = h.loops;
    depth = h.depth;
    deep = h.deep;
    flow = h.flow;
    errors = h.errors;
    met = h.met;
    nest = h.nest;
    function = h.function;
    stack = h.stack;
  }
  unwritten (st m l ls os (Cut k a b) e) x q h = h
  unwritten (st m l ls os (Refused y r) e) x q h = h

  pub no_marker : (A : State) (m : Mark) (x : Context) → writes x ≡ false → Rep c records x₀ A x → Rep c records x₀ (emit m A) x
  no_marker A m x e h = by x.nest (goes x) (ltb x.marker_count limit) refl refl refl e
    where
      by : (a g b : Bool) → x.nest ≡ a → goes x ≡ g → ltb x.marker_count limit ≡ b → cond a false (cond g b false) ≡ false
          → Rep c records x₀ (emit m A) x
      by true g b n q lt e = unwritten A m (λ z y. absurd (clash (sym n ∙ h.nest ∙ z))) h
      by false false b n q lt e = given (no_emit m A (stood h q)) h
      by false true true n q lt e = absurd (clash e)
      by false true false n q lt e =
          unwritten A m (λ z y. full records x₀.code.now x₀.consts.now m (marks A) x.code.now x.consts.now x.marker_count x.const_count (ltb-false x.marker_count limit lt) y) h

  module _ {A : State} {x x' : Context} (w : MarkerWords) (r : ℕ) (y : Op) (q : c.nest ≡ false → Shown w y) (k : x' ≡ pushed w x) (h : Rep c records x₀ A x) where
    a_marker : writes x ≡ true → Rep c records x₀ (emit (mark r y) A) (marked w x)
    unfolding emit
    a_marker e =
        let z = writes_so x e in
        given (ap (emit (mark r y)) (shape A (went h z.1)))
        (record {
          code = h.code;
          consts = h.consts;
          flat = λ i. a_mark records x₀.code.now x₀.consts.now (marks A) x.code.now x.consts.now x.marker_count x.const_count w r y (q i) z.2 (h.flat i);
          noted = λ i. absurd (clash (sym i ∙ sym h.nest ∙ z.0));
          labels = h.labels;
          size = h.size;
          loops = h.loops;
          depth = h.depth;
          deep = h.deep;
          flow = h.flow ∙ went h z.1;
          errors = h.errors;
          met = h.met;
          nest = h.nest;
          function = h.function;
          stack = h.stack;
        })

    pub put : Rep c records x₀ (emit (mark r y) A) x'
    unfolding pushed
    put = stands k (by (writes x) refl)
      where
        by : (b : Bool) → writes x ≡ b → Rep c records x₀ (emit (mark r y) A) (cond (writes x) (marked w x) x)
        by true e = stands (on_true _ _ _ e) (a_marker e)
        by false e = stands (on_false _ _ _ e) (no_marker A (mark r y) x e h)

-- ---- by what they say

module _ {c : Walk} {records : List ℕ} {x₀ : Context} {A : State} {x x' : Context} (r : ℕ) where
  pub placed : {v u : ℕ} (l : ℕ) → v ≡ 52 → u ≡ cap l → x' ≡ pushed (pair_of v u) x → Rep c records x₀ A x → Rep c records x₀ (emit (mark r (Label l)) A) x'
  placed l e q h k = put _ r (Label l) (λ i. (e, q)) h k

  pub jumped : (f : Forward) {v u : ℕ} (l : ℕ) → v ≡ forward_number f → u ≡ cap l → x' ≡ pushed (pair_of v u) x → Rep c records x₀ A x
      → Rep c records x₀ (emit (mark r (To f l)) A) x'
  jumped f l e q h k = put _ r (To f l) (λ i. (e, q)) h k

  pub backed : {v u : ℕ} (l : ℕ) → v ≡ 41 → u ≡ cap l → x' ≡ pushed (pair_of v u) x → Rep c records x₀ A x → Rep c records x₀ (emit (mark r (Back l)) A) x'
  backed l e q h k = put _ r (Back l) (λ i. (e, q)) h k

  pub said : (d : Code) (n : ℕ) {v u : ℕ} → v ≡ code_number d → u ≡ cap n → x' ≡ pushed (pair_of v u) x → Rep c records x₀ A x
      → Rep c records x₀ (emit (mark r (Do d n)) A) x'
  said d n e q h k = put _ r (Do d n) (λ i. (e, q)) h k

-- ---- an error is kept

module _ {c : Walk} {records : List ℕ} {x₀ : Context} {x : Context} where
  by_flow : (A : State) → Rep c records x₀ A x → Rep c records x₀ (settle A) (keeping (flow A) x)
  unfolding note
  by_flow (st m l ls os Go e) h = h
  by_flow (st m l ls os (Cut k a b) e) h = record {
    code = h.code;
    consts = h.consts;
    flat = λ n. subst⁻¹ (λ (u : List ℕ). Flat records x₀.code.now x₀.consts.now m u x.consts.now x.marker_count x.const_count) (on_false _ _ _ (h.nest ∙ n)) (h.flat n);
    noted = λ n. record {
      errors = λ lt.
          let i : x.error_count ≡ length e.errors = omega (arith, h.errors) in
          on_true _ _ _ (h.nest ∙ n) ∙ ap (λ (j : ℕ). put3 x.code.now j (error_number k) a b) i
          ∙ ap (λ (u : List ℕ). put3 u (length e.errors) (error_number k) a b) ((h.noted n).errors (omega arith));
      consts = (h.noted n).consts;
    };
    labels = h.labels;
    size = h.size;
    loops = h.loops;
    depth = h.depth;
    deep = h.deep;
    flow = refl;
    errors = ap more h.errors ∙ more_cap (length e.errors);
    met = h.met;
    nest = h.nest;
    function = h.function;
    stack = h.stack;
  }
  by_flow (st m l ls os (Refused y r) e) h = h

  pub settled : {A : State} {x' : Context} → x' ≡ kept x → Rep c records x₀ A x → Rep c records x₀ (settle A) x'
  unfolding kept
  settled {A} e h = stands (e ∙ ap (λ (f : Flow). keeping f x) h.flow) (by_flow A h)

-- what push_code says of words that the code converts to
pub sent : (x : Context) {x' : Context} {w v : MarkerWords} → w ≡ v → x' ≡ pushed w x → x' ≡ pushed v x
sent x e q = q ∙ ap (λ (u : MarkerWords). pushed u x) e
