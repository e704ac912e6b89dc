-- One computed test of a list of steps: every label placed once, jumps to labels still to come, back edges to labels placed, children visited inside
-- the record's own loop. Definitions.
use mathlib.Core.Bool.{Bool, true, false, cond, ◌&&◌, ◌||◌}
use mathlib.Core.List.{List, [], ◌∷◌}
use Prim.Native.Nat.{ℕ, suc}
use lib.ListN.{get_or}
use lib.Dec.{eqb}
use Rattle.rules.specs.Step.{Step, push_op, push_const, get_label, place, jump, jump_back, visit, begin_loop, end_loop, exit, check_return, access, refuse, inner}
use Rattle.rules.specs.Run.{Loop, loop}

abbrev pub has : ℕ → List ℕ → Bool
has i [] = false
has i (j ∷ js) = eqb i j || has i js

abbrev pub del : ℕ → List ℕ → List ℕ
del i [] = []
del i (j ∷ js) = cond (eqb i j) js (j ∷ del i js)

-- the loop that the steps have opened, by the names of its labels
pub data Inside : Type 0 where
  outside : Inside
  within : ℕ → ℕ → Inside

abbrev pub is_out : Inside → Bool
is_out outside = true
is_out (within i j) = false

abbrev pub is_in : Inside → Bool
is_in outside = false
is_in (within i j) = true

-- so far: labels taken; those still to be placed; those placed; those that no loop has; the loop that is open
pub data Chk : Type 0 where
  chk : ℕ → List ℕ → List ℕ → List ℕ → Inside → Chk

abbrev pub none_left : List ℕ → Bool
none_left [] = true
none_left (i ∷ is) = false

-- a child may be visited: the open loop's break label is still to come, its continue label is placed or to come
abbrev pub sound_at : List ℕ → List ℕ → Inside → Bool
sound_at pend done outside = true
sound_at pend done (within i j) = has j pend && (has i pend || has i done)

-- a child is visited inside the loop that its record opens, if that is a loop, and else in none of its own
abbrev pub settled : Bool → Inside → Bool
settled true outside = false
settled true (within i j) = true
settled false outside = true
settled false (within i j) = false

-- a: the record is a loop
abbrev pub fits : Bool → Chk → Step → Bool
fits a (chk n pend done free lp) (push_op c x) = true
fits a (chk n pend done free lp) (push_const c p v) = true
fits a (chk n pend done free lp) get_label = is_out lp
fits a (chk n pend done free lp) (place i) = has i pend
fits a (chk n pend done free lp) (jump h i) = has i pend
fits a (chk n pend done free lp) (jump_back i) = has i done
fits a (chk n pend done free lp) (visit y b j) = sound_at pend done lp && settled a lp
fits a (chk n pend done free lp) (begin_loop i j) = is_out lp && (a && ((has i pend && has j pend) && (has i free && has j (del i free))))
fits a (chk n pend done free lp) end_loop = is_in lp
fits a (chk n pend done free lp) (exit x) = is_out lp
fits a (chk n pend done free lp) check_return = true
fits a (chk n pend done free lp) (access u p) = true
fits a (chk n pend done free lp) (refuse x) = true
fits a (chk n pend done free lp) inner = true

abbrev pub next : Chk → Step → Chk
next (chk n pend done free lp) (push_op c x) = chk n pend done free lp
next (chk n pend done free lp) (push_const c p v) = chk n pend done free lp
next (chk n pend done free lp) get_label = chk (suc n) (n ∷ pend) done (n ∷ free) lp
next (chk n pend done free lp) (place i) = chk n (del i pend) (i ∷ done) free lp
next (chk n pend done free lp) (jump h i) = chk n pend done free lp
next (chk n pend done free lp) (jump_back i) = chk n pend done free lp
next (chk n pend done free lp) (visit y b j) = chk n pend done free lp
next (chk n pend done free lp) (begin_loop i j) = chk n pend done (del j (del i free)) (within i j)
next (chk n pend done free lp) end_loop = chk n pend done free outside
next (chk n pend done free lp) (exit x) = chk n pend done free lp
next (chk n pend done free lp) check_return = chk n pend done free lp
next (chk n pend done free lp) (access u p) = chk n pend done free lp
next (chk n pend done free lp) (refuse x) = chk n pend done free lp
next (chk n pend done free lp) inner = chk n pend done free lp

abbrev pub final : Chk → Bool
final (chk n pend done free lp) = none_left pend && is_out lp

unfoldable pub ok : Bool → Chk → List Step → Bool
ok a s [] = final s
ok a s (x ∷ is) = fits a s x && ok a (next s x) is

abbrev pub begun : Chk
begun = chk 0 [] [] [] outside

-- the open loops where the steps stand inside their own
unfoldable pub stack : ℕ → List ℕ → Inside → List Loop → List Loop
stack r env outside ls = ls
stack r env (within i j) ls = loop r (get_or env i 0) (get_or env j 0) ∷ ls
