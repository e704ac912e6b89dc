-- How many open loops a run needs, by computation: a tree of l levels may need the newest l - 2, here 4 of 6. Assumes nothing.
use mathlib.Core.Path.{◌≡◌, refl}
use mathlib.Core.Bool.{true}
use mathlib.Core.List.{List, [], ◌∷◌}
use Prim.Native.Nat.{ℕ, zero, suc, ◌+◌}
use lib.ListN.{length}
use Rattle.tables.specs.Record.{words}
use Rattle.tables.specs.Forest.{guarded, first, next, grow, forest, children, root, levels}
use Rattle.rules.specs.declared.StackCode.TheVariants.{Code1}
use Rattle.rules.specs.Kinds.{steps}
use Rattle.rules.specs.Run.{look, side, emit, bump, halt, begin, finish, outward, barred, kept, nested, exec, stream, function_run, nothing, run}
use Rattle.rules.specs.Cases.{frame, empty}
use Rattle.rules.proofs.Stack.{newest}

-- m While from record r on, each the test of the one before, the last test null; each of these is followed by the body that stands n records after it
abbrev tests : ℕ → ℕ → ℕ → List ℕ → List ℕ
tests n r zero rest = 1 ∷ 0 ∷ 0 ∷ 0 ∷ 0 ∷ 0 ∷ 0 ∷ (r + n) ∷ rest
tests n r (suc m) rest = 17 ∷ 0 ∷ 0 ∷ 0 ∷ 0 ∷ 0 ∷ suc r ∷ (r + n) ∷ tests n (suc r) m rest

-- m empty bodies
abbrev bodies : ℕ → List ℕ → List ℕ
bodies zero rest = rest
bodies (suc m) rest = 4 ∷ 0 ∷ 0 ∷ 0 ∷ 0 ∷ 0 ∷ 0 ∷ 0 ∷ bodies m rest

-- a Do with `while (return 1) {}`, 1 + m While in each other's tests, `break`: the first While stays open, and the Break finds it
abbrev left_open : ℕ → List ℕ
left_open m =
    frame 2 3
    (17 ∷ 0 ∷ 0 ∷ 0 ∷ 0 ∷ 0 ∷ 4 ∷ 7
    ∷ 21 ∷ 0 ∷ 0 ∷ 0 ∷ 7 ∷ 15 ∷ 5 ∷ 6
    ∷ 1 ∷ 2 ∷ 1 ∷ 0 ∷ 0 ∷ 0 ∷ 0 ∷ 0
    ∷ 4 ∷ 0 ∷ 0 ∷ 0 ∷ 0 ∷ 0 ∷ 0 ∷ 0
    ∷ 17 ∷ 0 ∷ 0 ∷ 0 ∷ 0 ∷ 0 ∷ 8 ∷ (10 + m + m)
    ∷ tests (suc m) 8 m (bodies (suc m) (19 ∷ 0 ∷ 0 ∷ 0 ∷ 0 ∷ 0 ∷ 0 ∷ 0 ∷ [])))

-- the errors where the newest n loops are kept
abbrev errors_kept : ℕ → List ℕ → ℕ
errors_kept n recs = length (side (function_run (look empty) (newest Code1 true n) 0 (words recs 0) (children recs 0) nothing)).errors

pub six_levels : levels (root (left_open 2)) ≡ 6
unfolding guarded first next grow forest
six_levels = refl

pub all_kept : length (side (run Code1 (look empty) (left_open 2))).errors ≡ 1
unfolding guarded first next grow forest steps emit bump halt begin finish outward barred kept nested exec stream run
all_kept = refl

pub four_kept : errors_kept 4 (left_open 2) ≡ 1
unfolding guarded first next grow forest steps emit bump halt begin finish outward barred kept nested exec stream
four_kept = refl

-- the Break finds no loop
pub three_kept : errors_kept 3 (left_open 2) ≡ 2
unfolding guarded first next grow forest steps emit bump halt begin finish outward barred kept nested exec stream
three_kept = refl
