-- Bounds of every run, cut short or refused or not. Document 01 refuses an out space of "fewer than 32 markers, 3 constants or 1 error per record, 1 name
-- per member, 1 line per function"; so much is enough for markers, constants, errors and lines. Assumes that every record has the children of its kind and
-- that record 0 is a Function, as row 6 leaves it.
use mathlib.Core.Path.{◌≡◌, refl, sym, ap, subst}
use mathlib.Core.Bool.{Bool, true, false, cond, ◌&&◌, ◌||◌}
use mathlib.Core.List.{List, [], ◌∷◌, ◌++◌}
use Prim.Native.Nat.{ℕ, zero, suc, ◌+◌, ◌*◌, ◌≤◌, ◌<◌}
use native.Mathlib.Omega.{arith}
use lib.ListN.{length, length-append}
use native.Mathlib.Nat.{mul-zero, mul-suc, mul-add}
use lib.Dec.{T, eqb, eqb→eq, leb, leb→le}
use Rattle.tables.specs.Record.{Words, words, size, is_function}
use Rattle.tables.specs.Forest.{Forest, none, tree, children, root, count}
use Rattle.tables.specs.Children.{suits, words_of, rooted, right_children}
use Rattle.tables.proofs.ForestLaws.{and_l, and_r}
use Rattle.pool.specs.Value.{Value, Null, same, Const, seen, intern}
use Rattle.rules.specs.declared.StackCode.{StackCode}
use Rattle.rules.specs.Marker.{Label, To, Back, Leave, Load, Do, Mark, mark}
use Rattle.rules.specs.Run.{Lookup, Loop, Stream, State, st, side, settle, anew, returned, entered, nested, full, stream, visits_of, nothing, run}
use Rattle.rules.specs.Out.{brought, consts}
use Rattle.rules.specs.declared.Flow.TheVariants.{Go, Cut, Refused}
use Rattle.rules.proofs.Numbers.{Every, stream_meets}
use Rattle.rules.proofs.Shapes.{Shaped, function_shape, table_shaped}
use Rattle.rules.proofs.Cost.{rep, Rates, marks_cost, streams_cost, load, nested_within, stream_within}
use Rattle.rules.proofs.CostPatterns.{pattern_rate}
use Rattle.rules.proofs.CostParts.{budget, fixed_rate, function_rate, arm_rate, item_rate, part_rate, Afford}
use Rattle.rules.proofs.CostKinds.{stream_bound}

-- a number of each stream, added up
abbrev pub total : (Stream → ℕ) → List Stream → ℕ
total f [] = 0
total f (x ∷ xs) = f x + total f xs

abbrev pub marker_count : Stream → ℕ
marker_count x = length x.marks

abbrev pub constant_count : Stream → ℕ
constant_count x = length (consts x.marks)

abbrev pub label_count : Stream → ℕ
label_count x = x.labels

-- how many Functions, those inside others included
abbrev pub function_count : Forest → ℕ
function_count none = 0
function_count (tree r w k s) = cond (is_function w) 1 0 + (function_count k + function_count s)

pub function_most : (f : Forest) → function_count f ≤ count f
function_most none = omega arith
function_most (tree r w k s) = go (is_function w) (function_most k) (function_most s)
  where
    go : (b : Bool) → function_count k ≤ count k → function_count s ≤ count s → cond b 1 0 + (function_count k + function_count s) ≤ suc (count k + count s)
    go true p q = omega arith
    go false p q = omega arith

-- what the whole run costs, at any rates
module _ {R : Rates} {b : Words → ℕ} {g : ℕ} (A : Afford R b g) (sc : StackCode) (t : Lookup) (recs : List ℕ) (z : Shaped (root recs)) (f : T (is_function (words recs 0))) where
  pub run_cost : load R (run sc t recs) ≤ budget b (root recs)
  unfolding run rep budget
  run_cost =
      let w = words recs 0 in
      let k = children recs 0 in
      let v = stream t (full sc) 0 w k (visits_of t (full sc) k) in
      let e = eqb→eq w.kind 30 f in
      omega (
        arith,
        nested_within R true 0 w v _ (stream_within R t (full sc) 0 w k) nothing,
        stream_bound A sc w k (function_shape w k z.0 e) z.1,
        A.function w e,
        A.part,
      )

-- the rates of the five bounds
abbrev marker_rates : Rates
marker_rates = record { on_null = 1; on_const = 1; on_marker = 1; on_label = 0; on_error = 0; on_stream = 0; on_met = 0 }

abbrev label_rates : Rates
label_rates = record { on_null = 0; on_const = 0; on_marker = 0; on_label = 1; on_error = 0; on_stream = 0; on_met = 0 }

-- each function's constants begin with Null, so naming Null brings none
abbrev constant_rates : Rates
constant_rates = record { on_null = 0; on_const = 1; on_marker = 0; on_label = 0; on_error = 0; on_stream = 1; on_met = 0 }

abbrev error_rates : Rates
error_rates = record { on_null = 0; on_const = 0; on_marker = 0; on_label = 0; on_error = 1; on_stream = 0; on_met = 0 }

abbrev met_rates : Rates
met_rates = record { on_null = 0; on_const = 0; on_marker = 0; on_label = 0; on_error = 0; on_stream = 0; on_met = 1 }

-- B for every record is enough, as a computed test
abbrev enough : Rates → ℕ → ℕ → Bool
enough R B g =
    leb R.on_null R.on_const
    && (leb (fixed_rate R + g) B
    && (leb (function_rate R + g) B && (leb (pattern_rate R) B && (leb (arm_rate R) g && (leb (item_rate R) g && leb (part_rate R) g)))))

afford : (R : Rates) (B g : ℕ) → T (enough R B g) → Afford R (λ w. B) g
afford R B g t =
    let t1 = and_r (leb R.on_null R.on_const) _ t in
    let t2 = and_r (leb (fixed_rate R + g) B) _ t1 in
    let t3 = and_r (leb (function_rate R + g) B) _ t2 in
    let t4 = and_r (leb (pattern_rate R) B) _ t3 in
    let t5 = and_r (leb (arm_rate R) g) _ t4 in
    record {
      least = leb→le _ _ (and_l (leb R.on_null R.on_const) _ t);
      fixed = λ w. leb→le _ _ (and_l (leb (fixed_rate R + g) B) _ t1);
      function = λ w e. leb→le _ _ (and_l (leb (function_rate R + g) B) _ t2);
      pattern = λ w. leb→le _ _ (and_l (leb (pattern_rate R) B) _ t3);
      arm = leb→le _ _ (and_l (leb (arm_rate R) g) _ t4);
      item = leb→le _ _ (and_l (leb (item_rate R) g) _ t5);
      part = leb→le _ _ (and_r (leb (item_rate R) g) _ t5);
    }

met_afford : Afford met_rates (λ w. cond (is_function w) 1 0) 0
met_afford =
    record {
      least = omega arith;
      fixed = λ w. omega arith;
      function = λ w e. omega (arith, ap {B = ℕ} (λ (n : ℕ). cond (eqb n 30) 1 0) e);
      pattern = λ w. omega arith;
      arm = omega arith;
      item = omega arith;
      part = omega arith;
    }

-- a budget that is the same for each record
budget_level : (B : ℕ) (f : Forest) → budget (λ w. B) f ≡ B * count f
unfolding budget
budget_level B none = sym (mul-zero B)
budget_level B (tree r w k s) = omega (arith, budget_level B k, budget_level B s, mul-suc B (count k + count s), mul-add B (count k) (count s))

budget_functions : (f : Forest) → budget (λ w. cond (is_function w) 1 0) f ≡ function_count f
unfolding budget
budget_functions none = refl
budget_functions (tree r w k s) = omega (arith, budget_functions k, budget_functions s)

rep_1 : (n : ℕ) → rep 1 n ≡ n
unfolding rep
rep_1 zero = refl
rep_1 (suc n) = omega (arith, rep_1 n)

-- the constants of a stream begin with Null
abbrev Begins : List Const → Type 0
Begins [] = ⊥
Begins (c ∷ cs) = c.value ≡ Null

intern_begins : (cs : List Const) (c : Const) → Begins cs → Begins (intern cs c)
unfolding intern
intern_begins [] c h = absurd h
intern_begins (d ∷ ds) c h = go (seen (d ∷ ds) c.value)
  where
    go : (b : Bool) → Begins (cond b (d ∷ ds) (d ∷ (ds ++ (c ∷ []))))
    go true = h
    go false = h

-- one more at most, and none for Null
intern_most : (cs : List Const) (c : Const) → Begins cs → length (intern cs c) ≤ cond (same Null c.value) 0 1 + length cs
unfolding intern seen
intern_most [] c h = absurd h
intern_most (d ∷ ds) c h = go (same Null c.value) (ap (λ (v : Value). same v c.value) h) (seen ds c.value)
  where
    go : (b : Bool) → same d.value c.value ≡ b → (u : Bool) → length (cond (same d.value c.value || u) (d ∷ ds) ((d ∷ ds) ++ (c ∷ []))) ≤ cond b 0 1 + length (d ∷ ds)
    go true e u = rw e (omega arith)
    go false e true = rw e (omega arith)
    go false e false = rw e (omega (arith, length-append ds (c ∷ [])))

consts_begin : (ms : List Mark) → Begins (consts ms)
unfolding consts
consts_begin [] = refl
consts_begin (mark r (Label l) ∷ ms) = consts_begin ms
consts_begin (mark r (To h l) ∷ ms) = consts_begin ms
consts_begin (mark r (Back l) ∷ ms) = consts_begin ms
consts_begin (mark r (Leave x l) ∷ ms) = consts_begin ms
consts_begin (mark r (Load c v) ∷ ms) = intern_begins (consts ms) (brought r v) (consts_begin ms)
consts_begin (mark r (Do c n) ∷ ms) = consts_begin ms

-- Null and one for each constant named that is not Null
pub consts_most : (ms : List Mark) → length (consts ms) ≤ suc (marks_cost constant_rates ms)
unfolding consts
consts_most [] = omega arith
consts_most (mark r (Label l) ∷ ms) = omega (arith, consts_most ms)
consts_most (mark r (To h l) ∷ ms) = omega (arith, consts_most ms)
consts_most (mark r (Back l) ∷ ms) = omega (arith, consts_most ms)
consts_most (mark r (Leave x l) ∷ ms) = omega (arith, consts_most ms)
consts_most (mark r (Load c v) ∷ ms) = omega (arith, consts_most ms, intern_most (consts ms) (brought r v) (consts_begin ms))
consts_most (mark r (Do c n) ∷ ms) = omega (arith, consts_most ms)

any_value : (b : Bool) → ◌≡◌ {A = ℕ} (cond b 1 1) 1
any_value true = refl
any_value false = refl

marks_counted : (ms : List Mark) → marks_cost marker_rates ms ≡ length ms
marks_counted [] = refl
marks_counted (mark r (Label l) ∷ ms) = omega (arith, marks_counted ms)
marks_counted (mark r (To h l) ∷ ms) = omega (arith, marks_counted ms)
marks_counted (mark r (Back l) ∷ ms) = omega (arith, marks_counted ms)
marks_counted (mark r (Leave x l) ∷ ms) = omega (arith, marks_counted ms)
marks_counted (mark r (Load c v) ∷ ms) = omega (arith, marks_counted ms, any_value (same Null v))
marks_counted (mark r (Do c n) ∷ ms) = omega (arith, marks_counted ms)

streams_marked : (xs : List Stream) → total marker_count xs ≤ streams_cost marker_rates xs
streams_marked [] = omega arith
streams_marked (x ∷ xs) = omega (arith, marks_counted x.marks, streams_marked xs)

streams_labelled : (xs : List Stream) → total label_count xs ≤ streams_cost label_rates xs
streams_labelled [] = omega arith
streams_labelled (x ∷ xs) = omega (arith, rep_1 x.labels, streams_labelled xs)

streams_constant : (xs : List Stream) → total constant_count xs ≤ streams_cost constant_rates xs
streams_constant [] = omega arith
streams_constant (x ∷ xs) = omega (arith, consts_most x.marks, streams_constant xs)

load_streams : (R : Rates) (s : State) → streams_cost R (side s).streams ≤ load R s
load_streams R (st m l ls os f e) = omega arith

load_errors : (s : State) → length (side s).errors ≤ load error_rates s
load_errors (st m l ls os f e) = omega (arith, rep_1 (length e.errors))

load_met : (s : State) → (side s).met ≤ load met_rates s
load_met (st m l ls os f e) = omega (arith, rep_1 e.met)

-- the function of record 0 is met if it has number 0
settle_met : (s : State) → (side (settle s)).met ≡ (side s).met
settle_met (st m l ls os Go e) = refl
settle_met (st m l ls os (Cut k a b) e) = refl
settle_met (st m l ls os (Refused n r) e) = refl

returned_met : (r : ℕ) (w : Words) (m : List Mark) (l : ℕ) (ls os : List Loop) (s : State) → (side (returned r w m l ls os s)).met ≡ (side s).met
returned_met r w m l ls os (st m' l' ls' os' f e) = refl

run_some : (sc : StackCode) (t : Lookup) (recs : List ℕ) → (words recs 0).p ≡ 0 → 1 ≤ (side (run sc t recs)).met
unfolding run nested
run_some sc t recs e =
    let w = words recs 0 in
    let k = children recs 0 in
    let v = stream t (full sc) 0 w k (visits_of t (full sc) k) in
    subst (λ (n : ℕ). 1 ≤ (side (entered (eqb n 0) 0 w v [] 0 [] [] (side nothing))).met) (sym e)
    (omega (
      arith,
      returned_met 0 w [] 0 [] [] (settle (v (anew (side nothing)))),
      settle_met (v (anew (side nothing))),
      (stream_meets t (full sc) 0 w k (anew (side nothing))).count,
    ))

-- each of the numbers added up is at most the sum
each_most : (f : Stream → ℕ) (n : ℕ) (xs : List Stream) → total f xs ≤ n → Every (λ x. f x ≤ n) xs
each_most f n [] h = tt
each_most f n (x ∷ xs) h = (omega arith, each_most f n xs (omega arith))

-- all streams together, and each by itself
pub record Bounds (sc : StackCode) (t : Lookup) (recs : List ℕ) : Type 0 where
  pub markers : total marker_count (side (run sc t recs)).streams ≤ 32 * count (root recs)
  pub constants : total constant_count (side (run sc t recs)).streams ≤ 3 * count (root recs)
  pub labels : total label_count (side (run sc t recs)).streams ≤ 4 * count (root recs)
  pub errors : length (side (run sc t recs)).errors ≤ count (root recs)
  pub functions : (side (run sc t recs)).met ≤ function_count (root recs)
  pub some : (words recs 0).p ≡ 0 → 1 ≤ (side (run sc t recs)).met
  pub markers_each : Every (λ x. marker_count x ≤ 32 * count (root recs)) (side (run sc t recs)).streams
  pub constants_each : Every (λ x. constant_count x ≤ 3 * count (root recs)) (side (run sc t recs)).streams
  pub labels_each : Every (λ x. label_count x ≤ 4 * count (root recs)) (side (run sc t recs)).streams

pub bounds : (sc : StackCode) (t : Lookup) (recs : List ℕ) → Shaped (root recs) → T (is_function (words recs 0)) → Bounds sc t recs
bounds sc t recs z f =
    let s = run sc t recs in
    let xs = (side s).streams in
    let n = count (root recs) in
    let m : total marker_count xs ≤ 32 * n =
    omega (arith, run_cost (afford marker_rates 32 8 tt) sc t recs z f, load_streams marker_rates s, streams_marked xs, budget_level 32 (root recs)) in
    let c : total constant_count xs ≤ 3 * n =
    omega (arith, run_cost (afford constant_rates 3 1 tt) sc t recs z f, load_streams constant_rates s, streams_constant xs, budget_level 3 (root recs)) in
    let l : total label_count xs ≤ 4 * n =
    omega (arith, run_cost (afford label_rates 4 1 tt) sc t recs z f, load_streams label_rates s, streams_labelled xs, budget_level 4 (root recs)) in
    record {
      markers = m;
      constants = c;
      labels = l;
      errors = omega (arith, run_cost (afford error_rates 1 1 tt) sc t recs z f, load_errors s, budget_level 1 (root recs));
      functions = omega (arith, run_cost met_afford sc t recs z f, load_met s, budget_functions (root recs));
      some = λ e. run_some sc t recs e;
      markers_each = each_most marker_count (32 * n) xs m;
      constants_each = each_most constant_count (3 * n) xs c;
      labels_each = each_most label_count (4 * n) xs l;
    }

-- from row 6 of every record
pub table_bounds : (sc : StackCode) (t : Lookup) (recs : List ℕ) → 0 < size recs → ((r : ℕ) → r < size recs → right_children recs r ≡ true) → Bounds sc t recs
unfolding right_children
table_bounds sc t recs p right =
    let u : T (right_children recs 0) = subst T (sym (right 0 p)) tt in
    bounds sc t recs (table_shaped recs right p)
    (and_l (is_function (words recs 0)) _ (and_r (suits (words recs 0) (words_of (children recs 0))) (rooted recs) u))
