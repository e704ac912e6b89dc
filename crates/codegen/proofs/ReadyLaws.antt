-- Accepted tables: every function met has its record, its stream is that of the record by itself, and words hold its numbers. Assumes nothing.
use mathlib.Core.Path.{◌≡◌, sym, ap, subst, ◌∙◌}
use mathlib.Core.Bool.{true}
use mathlib.Core.List.{List, [], ◌∷◌}
use Prim.Native.Nat.{ℕ, ◌*◌, ◌≤◌, ◌<◌}
use native.Mathlib.Omega.{arith}
use lib.ListN.{length, get_or, take as front}
use Rattle.tables.specs.Record.{words, size, is_function}
use Rattle.tables.specs.Forest.{Forest, none, tree, root, children, levels, count}
use Rattle.tables.specs.Semantic.{pairs}
use Rattle.tables.proofs.CheckLaws.{Kept, rows_kept}
use Rattle.tables.proofs.TreeLaws.{Under, root_under}
use Rattle.pool.specs.Names.{Semantic, semantic}
use Rattle.pool.specs.Resolve.{Resolved}
use Rattle.rules.specs.Run.{Stream, State, marks, labels, flow, side, look, Lookup, full, run, alone}
use Rattle.rules.proofs.Alone.{Runs, streams, Is-alone}
use Rattle.rules.proofs.Count.{inside_at}
use Rattle.rules.proofs.Numbers.{run_numbered, Every, stream_found}
use Rattle.rules.proofs.Invariant.{Everywhere}
use Rattle.rules.proofs.Levels.{run_records, run_functions, met_alone}
use Rattle.rules.proofs.Bounds.{Bounds, table_bounds}
use Rattle.rules.proofs.OutBounds.{OutBounds, out_bounds}
use Rattle.rules.proofs.Accepted.{LentBounds, lent_bounds}
use Rattle.context.specs.Words.{limit}
use Rattle.context.specs.Does.{noted_look}
use Rattle.codegen.specs.Call.{Sound, Roomy, lists}
use Rattle.codegen.specs.Walks.{stack_code, ran, noted_run, single, Walkable}
use Rattle.codegen.specs.Listing.{AllSmall, Own, met_of, stream_of, Ready, Spaced}
use Rattle.codegen.proofs.OperandLaws.{AllModest, alone_small, root_modest}
use Rattle.codegen.proofs.PlacesLaws.{kept_numbered}
use Rattle.codegen.proofs.SpaceLaws.{space_kept}

under_everywhere : (n : ℕ) (f : Forest) → Under n f → Everywhere (λ r w. r < n) f
under_everywhere n none u = tt
under_everywhere n (tree r w k s) (a, b, c) = (a, under_everywhere n k b, under_everywhere n s c)

-- a run by some look-up
module _ (L : Lookup) (recs : List ℕ) where
  abbrev A : State
  A = run stack_code L recs

  -- what holds of every finished stream holds of that of a function met
  pub met_every : (P : Stream → Type 0) → Every P (streams A) → (n : ℕ) → n < met_of A → P (stream_of A n)
  met_every P h n lt =
      (stream_found P (streams A) n h (omega (arith, run_numbered stack_code L recs n, inside_at 0 (met_of A) n (omega arith) (omega arith)))).0

  -- and it has its number
  pub own_name : (n : ℕ) → n < met_of A → (stream_of A n).number ≡ n
  own_name n lt =
      (stream_found (λ x. Unit {0}) (streams A) n (all (streams A))
      (omega (arith, run_numbered stack_code L recs n, inside_at 0 (met_of A) n (omega arith) (omega arith)))).1
    where
      all : (xs : List Stream) → Every (λ x. Unit {0}) xs
      all [] = tt
      all (x ∷ xs) = (tt, all xs)

  run_every : (Q : ℕ → Type 0) → is_function (words recs 0) ≡ true → Everywhere (λ r w. Q r) (root recs) → Every (λ x. Q x.at) (streams A)
  unfolding run
  run_every Q f h = run_records Q L (full stack_code) recs f h

module _ (symbols references functions members recs : List ℕ) (sound : Sound symbols references functions members recs) where
  abbrev t : Semantic
  t = semantic symbols references functions members

  pub tables_kept : Kept sound.strings sound.bytes symbols references functions members recs
  tables_kept = rows_kept sound.strings sound.bytes symbols references functions members recs sound.row_one sound.rows

  pub run_bounds : (L : Lookup) → Bounds stack_code L recs
  run_bounds L = table_bounds stack_code L recs tables_kept.fits.records_some tables_kept.children_right

  pub words_bounds : OutBounds stack_code t recs
  words_bounds = out_bounds stack_code t recs (run_bounds (look t))

  pub lent_words : LentBounds stack_code sound.strings sound.bytes symbols references functions members recs
  lent_words = lent_bounds stack_code sound.strings sound.bytes symbols references functions members recs tables_kept.fits.records_some tables_kept

  pub few_functions : met_of (ran t recs) ≤ pairs functions
  few_functions = omega (arith, words_bounds.lines, lent_words.lines)

  pub few_errors : length (side (ran t recs)).errors ≤ 4096
  few_errors = omega (arith, (run_bounds (look t)).errors, tables_kept.all_in_tree, tables_kept.fits.records_limit)

  -- row 2 is room enough
  pub space_enough : (markers constants names errors lines : List ℕ) → Roomy t recs (lists markers constants names errors lines)
      → Spaced (ran t recs) markers constants lines
  space_enough markers constants names errors lines r =
      let s = space_kept _ _ _ _ _ _ _ _ r in
      let c = tables_kept.all_in_tree in
      record {
        markers_fit = λ n h. omega (arith, words_bounds.first_markers n h, s.for_markers);
        constants_fit = λ n h. omega (arith, words_bounds.first_constants n h, s.for_constants);
        lines_fit = omega (arith, few_functions, s.for_lines);
      }

  all_inside : Everywhere (λ r w. r < size recs) (root recs)
  all_inside = under_everywhere (size recs) (root recs) (root_under recs tables_kept.fits.records_some)

  module _ (ns : List ℕ) (noted : Resolved t recs ns) where
    pub walkable_of : Walkable ns recs
    walkable_of =
        record { scoped = record { small = omega (arith, tables_kept.fits.records_limit); backs = noted.earlier }; shallow = tables_kept.levels_limit }

    module _ (held : (j : ℕ) → get_or recs j 0 ≤ limit) (runs : Runs (flow (noted_run ns recs))) where
      own_of : (n : ℕ) → n < met_of (noted_run ns recs) → Own ns recs n (stream_of (noted_run ns recs) n)
      unfolding alone
      own_of n lt = go (met_alone stack_code L recs 128 fun0 tables_kept.levels_limit runs n lt)
        where
          L : Lookup
          L = noted_look ns

          x : Stream
          x = stream_of (noted_run ns recs) n

          fun0 : is_function (words recs 0) ≡ true
          fun0 = tables_kept.root_is_function

          all : Everywhere (λ r w. AllModest (children recs r)) (root recs)
          all = root_modest recs held (omega (arith, tables_kept.all_in_tree, tables_kept.fits.records_limit))

          modest : AllModest (children recs x.at)
          modest = met_every L recs (λ y. AllModest (children recs y.at)) (run_every L recs (λ r. AllModest (children recs r)) fun0 all) n lt

          few : length x.marks ≤ 32 * 4096
          few = omega (
            arith,
            met_every L recs (λ y. length y.marks ≤ 32 * count (root recs)) (run_bounds L).markers_each n lt,
            tables_kept.all_in_tree,
            tables_kept.fits.records_limit,
          )

          taken : x.labels ≤ 4 * 4096
          taken = omega (
            arith,
            met_every L recs (λ y. y.labels ≤ 4 * count (root recs)) (run_bounds L).labels_each n lt,
            tables_kept.all_in_tree,
            tables_kept.fits.records_limit,
          )

          go : (Is-alone stack_code L (front 128) recs x × levels (tree x.at (words recs x.at) (children recs x.at) none) ≤ 128) × (x.number ≡ n)
              → Own ns recs n x
          go ((e, l), q) =
              let m : x.marks ≡ marks (single ns recs x.at) = ap (λ (y : Stream). y.marks) e in
              let b : x.labels ≡ labels (single ns recs x.at) = ap (λ (y : Stream). y.labels) e in
              record {
                number = q;
                inside = met_every L recs (λ y. y.at < size recs) (run_every L recs (λ r. r < size recs) fun0 all_inside) n lt;
                function = met_every L recs (λ y. is_function (words recs y.at) ≡ true) (run_functions recs stack_code L fun0) n lt;
                named = sym (ap (λ (y : Stream). y.number) e) ∙ q;
                marks = m;
                labels = b;
                small = subst AllSmall (sym m)
                    (alone_small stack_code ns 128 x.at (words recs x.at) (children recs x.at) modest (omega (arith, b, taken)));
                few = omega (arith, few);
                countable = omega (arith, taken);
              }

      pub ready_of : Ready ns recs
      ready_of = record {
        walkable = walkable_of;
        numbered = kept_numbered sound.strings sound.bytes symbols references functions members recs tables_kept;
        own = own_of;
      }
