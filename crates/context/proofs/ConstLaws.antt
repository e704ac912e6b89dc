-- A constant added and named: what the sinks make of a state. Assumes nothing.
use mathlib.Core.Path.{◌≡◌, refl, sym, ap, ap₂, ◌∙◌, subst}
use mathlib.Core.Bool.{Bool, true, false, cond}
use mathlib.Core.List.{List, [], ◌∷◌}
use Prim.Native.Nat.{ℕ, suc, ◌+◌, ◌*◌, ◌≤◌, ◌<◌, min}
use native.Mathlib.Omega.{arith}
use lib.ListN.{length}
use Rattle.opcode.specs.Words.{pair_of}
use Rattle.pool.specs.Value.{Value, Const, find, intern}
use Rattle.pool.specs.Consts.{table, laid, most, written, constant, Told}
use Rattle.pool.specs.declared.consts.ConstWords.{ConstWords}
use Rattle.pool.proofs.ConstsLaws.{intern_length, find_intern}
use Rattle.pool.proofs.LaidLaws.{told_const, told_intern, table_laid, written_laid}
use Rattle.rules.specs.Marker.{ConstOp, Label, To, Back, Leave, Load, Do, Mark, mark}
use Rattle.rules.specs.Run.{State, marks, emit}
use Rattle.rules.specs.Out.{consts, brought, const_number}
use Rattle.context.specs.Words.{limit, cap}
use Rattle.context.specs.Sinks.{put2, writes, marked, index_in, count_in, const_index, with_const, loads}
use Rattle.context.specs.Rep.{lay, Flat, Walk, Rep}
use Rattle.context.specs.declared.Context.{Context}
use Rattle.context.proofs.Basics.{clash, on_true, on_false, shape}
use Rattle.context.proofs.RepLaws.{given, stands, went}
use Rattle.context.proofs.MarkLaws.{writes_so, no_marker}

-- markers name no more constants than they are, but for Null
pub table_short : (m : List Mark) → length (consts m) ≤ suc (length m)
unfolding consts
table_short [] = omega arith
table_short (mark r (Label l) ∷ m) = omega (arith, table_short m)
table_short (mark r (To h l) ∷ m) = omega (arith, table_short m)
table_short (mark r (Back l) ∷ m) = omega (arith, table_short m)
table_short (mark r (Leave x l) ∷ m) = omega (arith, table_short m)
table_short (mark r (Load c v) ∷ m) = omega (arith, table_short m, (intern_length (consts m) (brought r v)).1)
table_short (mark r (Do c n) ∷ m) = omega (arith, table_short m)

module _ (recs o cs : List ℕ) (place count : ℕ) (c : ConstOp) (v : ConstWords) (lt : place < limit) (zero7 : v.kind ≡ 7 → v.high ≡ 0) where
  added_flat : (o₀ cs₀ : List ℕ) (m : List Mark) (q : ℕ) (y : Value) → constant recs v ≡ brought q y → Flat recs o₀ cs₀ m o cs place count
      → Flat recs o₀ cs₀ (mark q (Load c y) ∷ m) (put2 o place (const_number c) (index_in recs cs count v)) (written recs cs count v.kind v.low v.high) (place + 1)
      (count_in recs cs count v)
  unfolding lay consts
  added_flat o₀ cs₀ m q y same f =
      let p : place ≡ cap (length m) = f.place in
      let here : place ≡ length m = omega arith in
      let ts = consts m in
      let d = brought q y in
      let long = intern_length ts d in
      record {
        wrote = λ room₁.
            let few : suc (length m) < limit = room₁.few in
            let wide : length (intern ts d) * 3 ≤ length cs₀ = room₁.table in
            let fits : length ts * 3 ≤ length cs₀ = omega (arith, long.0) in
            let t = f.wrote (record { table = fits; few = omega arith }) in
            let laid_table : table recs (laid cs₀ 0 ts) (length ts) ≡ ts = table_laid recs cs₀ ts t.told fits in
            let tab : table recs cs count ≡ ts = ap₂ (table recs) t.table t.entries ∙ laid_table in
            let found : index_in recs cs count v ≡ cap (find (intern ts d) y) = ap₂ (λ (us : List Const) (z : Const). cap (find us z.value)) tab same ∙ ap cap (sym
            (find_intern ts d)) in
            let cut : cap (min (length (intern ts d)) most) ≡ length (intern ts d) = omega (arith, long.1, table_short m) in
            record {
              words = ap₂ (λ (j k : ℕ). put2 o j (const_number c) k) here found ∙ ap (λ (us : List ℕ). put2 us (length m) (const_number c) (cap (find (intern ts d) y)))
                  t.words;
              table = ap₂ (λ (us : List ℕ) (j : ℕ). written recs us j v.kind v.low v.high) t.table t.entries
                  ∙ written_laid recs cs₀ ts v.kind v.low v.high zero7 laid_table ∙ ap (λ (z : Const). laid cs₀ 0 (intern ts z)) same;
              told = told_intern recs ts d t.told (subst (λ (z : Const). Told recs z) same (told_const recs v.kind v.low v.high));
              entries = ap₂ (λ (us : List Const) (z : Const). cap (min (length (intern us z)) most)) tab same ∙ cut;
            };
        place = omega arith;
      }

-- the constant of the words v is the value y, which record q brings
module _ {c : Walk} {recs : List ℕ} {x₀ : Context} {A : State} {x x' : Context} (v : ConstWords) (d : ConstOp) (q : ℕ) (y : Value)
    (zero7 : v.kind ≡ 7 → v.high ≡ 0) (same : constant recs v ≡ brought q y) (k : x' ≡ loads recs (const_number d) v x)
    (h : Rep c recs x₀ A x) where
  added_yes : writes x ≡ true → Rep c recs x₀ (emit (mark q (Load d y)) A) (marked (pair_of (const_number d) (const_index recs v x)) (with_const recs v x))
  unfolding emit
  added_yes e =
      let z = writes_so x e in
      given (ap (emit (mark q (Load d y))) (shape A (went h z.1)))
      (record {
        code = h.code;
        consts = h.consts;
        flat = λ i. added_flat recs x.code.now x.consts.now x.marker_count x.const_count d v z.2 zero7 x₀.code.now x₀.consts.now (marks A) q y same (h.flat i);
        noted = λ i. absurd (clash (sym i ∙ sym h.nest ∙ z.0));
        labels = h.labels;
        size = h.size;
        loops = h.loops;
        depth = h.depth;
        deep = h.deep;
        flow = h.flow ∙ went h z.1;
        errors = h.errors;
        met = h.met;
        nest = h.nest;
        function = h.function;
        stack = h.stack;
      })

  pub loaded : Rep c recs x₀ (emit (mark q (Load d y)) A) x'
  unfolding loads
  loaded = stands k (by (writes x) refl)
    where
      by : (b : Bool) → writes x ≡ b
          → Rep c recs x₀ (emit (mark q (Load d y)) A) (cond (writes x) (marked (pair_of (const_number d) (const_index recs v x)) (with_const recs v x)) x)
      by true e = stands (on_true _ _ _ e) (added_yes e)
      by false e = stands (on_false _ _ _ e) (no_marker A (mark q (Load d y)) x e h)
