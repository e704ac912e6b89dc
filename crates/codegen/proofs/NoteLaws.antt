-- The run by the notes is the run by the lent tables. Assumes nothing.
use mathlib.Core.Path.{◌≡◌}
use mathlib.Core.List.{List}
use Prim.Native.Nat.{ℕ}
use Rattle.tables.specs.Record.{Words, words}
use Rattle.tables.specs.Forest.{Forest, none, tree, children}
use Rattle.pool.specs.Names.{Semantic}
use Rattle.pool.specs.Notes.{Noted}
use Rattle.pool.specs.Resolve.{Resolved}
use Rattle.rules.specs.Step.{Use, Get, Set}
use Rattle.rules.specs.Run.{here, look, full, nothing, run}
use Rattle.rules.proofs.Lookups.{inside, Alike, Nowhere, function_alike}
use Rattle.context.specs.Does.{noted_look}
use Rattle.codegen.specs.Walks.{stack_code, ran, noted_run}

module _ (t : Semantic) (ns : List ℕ) where
  noted_alike : (fn : Words) (f : Forest) → Noted t ns fn f → Alike (noted_look ns) (look t) fn f
  unfolding Noted Alike
  noted_alike fn none h = tt
  noted_alike fn (tree r w k s) (a, b, c, d) = (same, noted_alike (inside fn w) k c, noted_alike fn s d)
    where
      same : (u : Use) → noted_look ns fn u (here r w) ≡ look t fn u (here r w)
      same Get = a
      same Set = b

  module _ (recs : List ℕ) (h : Resolved t recs ns) where
    noted_nowhere : Nowhere (noted_look ns) (look t)
    noted_nowhere fn Get = h.root_load
    noted_nowhere fn Set = h.root_store

    pub noted_same : noted_run ns recs ≡ ran t recs
    unfolding run
    noted_same =
        function_alike (noted_look ns) (look t) noted_nowhere (full stack_code) 0 (words recs 0) (children recs 0) (noted_alike (words recs 0) (children recs 0) h.noted)
        nothing
