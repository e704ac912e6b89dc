-- What holds of every table that the checks accept: demand 3, and the bounds in terms of the lent tables' lengths: "32 markers, 3 constants or 1 error per
-- record, 1 name per member, 1 line per function" is room enough. Assumes nothing.
use mathlib.Core.Path.{◌≡◌, refl, sym, ap, subst, ◌∙◌}
use mathlib.Core.Bool.{Bool, true, false, cond}
use mathlib.Core.List.{List, ◌∷◌}
use Prim.Native.Nat.{ℕ, ◌+◌, ◌*◌, ◌≤◌, ◌<◌}
use native.Mathlib.Omega.{arith}
use lib.ListN.{length, length-append}
use lib.Dec.{T, eqb→eq}
use Rattle.tables.specs.Record.{words, size, is_function}
use Rattle.tables.specs.Forest.{Forest, none, tree, root}
use Rattle.tables.specs.Semantic.{pairs}
use Rattle.tables.specs.declared.numbering.Manner.{Manner}
use Rattle.tables.specs.declared.numbering.Manner.TheVariants.{Stored, RightFirst, RightThenBack}
use Rattle.tables.specs.Numbering.{Visit, Order, stored, rights, lefts, back, in_order, inside, entered, within, manner, is_left, visited}
use Rattle.tables.proofs.CheckLaws.{Kept}
use Rattle.pool.specs.Names.{Semantic}
use Rattle.rules.specs.declared.StackCode.{StackCode}
use Rattle.rules.specs.Run.{look, side, run}
use Rattle.rules.specs.Out.{out}
use Rattle.rules.specs.Demand.{Demand3}
use Rattle.rules.proofs.Writes.{Clean}
use Rattle.rules.proofs.Shapes.{table_shaped}
use Rattle.rules.proofs.DemandHolds.{demand3}
use Rattle.rules.proofs.Bounds.{function_count, table_bounds}
use Rattle.rules.proofs.OutBounds.{out_bounds}
use Rattle.rules.proofs.NameBounds.{names_bound}

-- in each order a forest's functions are met once
abbrev Visits : (Order → List Visit) → ℕ → Type 0
Visits v n = (length (v stored) ≡ n) × (length (v rights) + length (v lefts) ≡ n) × (length (v rights) + length (v back) ≡ n)

inside_visits : (m : Manner) (v : Order → List Visit) (n : ℕ) → Visits v n → length (inside m v) ≡ n
inside_visits Stored v n (a, b, c) = a
inside_visits RightFirst v n (a, b, c) = length-append (v rights) (v lefts) ∙ b
inside_visits RightThenBack v n (a, b, c) = length-append (v rights) (v back) ∙ c

entered_visits : (b : Bool) (v : Visit) (vs : List Visit) → length (cond b (v ∷ vs) vs) ≡ cond b 1 0 + length vs
entered_visits true v vs = omega arith
entered_visits false v vs = omega arith

ordered : (b : Bool) (xs : List Visit) (v : Order → List Visit) (x n : ℕ) → length xs ≡ x → Visits v n → Visits (λ o. in_order o b xs (v o)) (x + n)
ordered true xs v x n e (a, b, c) = (
  omega (arith, length-append xs (v stored)),
  omega (arith, length-append xs (v lefts)),
  omega (arith, length-append (v back) xs),
)
ordered false xs v x n e (a, b, c) = (
  omega (arith, length-append xs (v stored)),
  omega (arith, length-append xs (v rights)),
  omega (arith, length-append xs (v rights)),
)

visits_count : (f : Forest) (e : ℕ) → Visits (λ o. visited o e f) (function_count f)
unfolding visited
visits_count none e = (refl, refl, refl)
visits_count (tree r w k s) e =
    let v : Order → List Visit = λ i. visited i (within e r w) k in
    let n = inside_visits (manner w.kind) v (function_count k) (visits_count k (within e r w)) in
    let z : cond (is_function w) 1 0 + function_count k + function_count s ≡ cond (is_function w) 1 0 + (function_count k + function_count s) = omega arith in
    subst (λ (m : ℕ). Visits (λ o. visited o e (tree r w k s)) m) z
    (ordered (is_left w) (entered e r w (inside (manner w.kind) v)) (λ o. visited o e s) (cond (is_function w) 1 0 + function_count k) (function_count s)
    (entered_visits (is_function w) (record { met = r; around = e }) (inside (manner w.kind) v) ∙ ap (λ (m : ℕ). cond (is_function w) 1 0 + m) n)
    (visits_count s e))

module _ (sc : StackCode) (strings bytes symbols references funs members recs : List ℕ) where
  abbrev lent : Semantic
  lent = record { symbols = symbols; references = references; functions = funs; members = members }

  pub record LentBounds : Type 0 where
    pub markers : length (out lent recs (side (run sc (look lent) recs))).markers ≤ 2 * (32 * size recs)
    pub constants : length (out lent recs (side (run sc (look lent) recs))).constants ≤ 3 * (3 * size recs)
    pub names : length (out lent recs (side (run sc (look lent) recs))).names_out ≤ 3 * length members
    pub errors : length (out lent recs (side (run sc (look lent) recs))).errors ≤ 3 * size recs
    pub lines : length (out lent recs (side (run sc (look lent) recs))).lines ≤ 7 * pairs funs

  pub lent_bounds : 0 < size recs → Kept strings bytes symbols references funs members recs → LentBounds
  lent_bounds some kept =
      let b = out_bounds sc lent recs (table_bounds sc (look lent) recs some kept.children_right) in
      let n = kept.all_in_tree in
      let m : function_count (root recs) ≡ pairs funs = sym (visits_count (root recs) 0).0 ∙ sym kept.functions_all in
      record {
        markers = omega (arith, b.markers, n);
        constants = omega (arith, b.constants, n);
        names = names_bound sc lent recs;
        errors = omega (arith, b.errors, n);
        lines = omega (arith, b.lines, b.functions, m);
      }

  -- demand 3, if the run reports no error
  pub accepted_demand3 : 0 < size recs → Kept strings bytes symbols references funs members recs → Clean (run sc (look lent) recs) → Demand3 sc lent recs (side (run sc
      (look lent) recs))
  accepted_demand3 some kept clean =
      demand3 sc lent recs (eqb→eq (words recs 0).kind 30 (subst T (sym kept.root_is_function) tt)) (table_shaped recs kept.children_right some) clean
