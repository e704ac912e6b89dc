-- A run that keeps the newest n open loops never has more than n. Assumes nothing.
use mathlib.Core.Path.{◌≡◌}
use mathlib.Core.Bool.{Bool, true}
use mathlib.Core.List.{List, [], ◌∷◌}
use Prim.Native.Nat.{ℕ, ◌≤◌}
use native.Mathlib.Omega.{arith}
use lib.ListN.{length, length-take, take as front}
use Rattle.tables.specs.Record.{Words, is_function}
use Rattle.tables.specs.Forest.{Forest}
use Rattle.rules.specs.declared.StackCode.{StackCode}
use Rattle.rules.specs.declared.Flow.{Flow}
use Rattle.rules.specs.Step.{Role}
use Rattle.rules.specs.Run.{Lookup, Loop, Side, State, loops, drop1, Mode, stream, visits_of, function_run}
use Rattle.rules.proofs.Visits.{visit_of}
use Rattle.rules.proofs.Invariant.{Everywhere, everywhere, Invariant, visit_keeps, stream_keeps, function_keeps}

-- the newest n open loops are kept; b: the functions inside are run too
abbrev pub newest : StackCode → Bool → ℕ → Mode
newest sc b n = record { code = sc; nest = b; trim = front n }

drop_length : (ls : List Loop) → length (drop1 ls) ≤ length ls
drop_length [] = omega arith
drop_length (x ∷ ls) = omega arith

module _ (sc : StackCode) (b : Bool) (n : ℕ) where
  -- at most n loops are open
  abbrev Few : List Loop → Flow → Side → Type 0
  Few ls f e = length ls ≤ n

  abbrev Any : ℕ → Words → Type 0
  Any r w = Unit {0}

  few : Invariant (newest sc b n) Few Any
  few =
      record {
        opening = λ x ls e h. omega (arith, length-take n (x ∷ ls));
        closing = λ ls e h. omega (arith, drop_length ls);
        cutting = λ k a b ls e h. h;
        noting = λ k a b ls e h. h;
        refusing = λ x r w ls e q h. h;
        losing = λ x ls e h. h;
        starting = λ ls e h. omega arith;
        ending = λ x w ls ls' f e e' q i h h'. h;
      }

  any : (f : Forest) → Everywhere Any f
  any f = everywhere Any (λ r w. tt) f

  -- what takes a state with at most n open loops to such a state
  abbrev pub Bounded : (State → State) → Type 0
  Bounded v = (s : State) → length (loops s) ≤ n → length (loops (v s)) ≤ n

  module _ (t : Lookup) where
    pub visit_bounded : (r : ℕ) (w : Words) (k : Forest) (a : Role) (fn : Words) → Bounded (visit_of t (newest sc b n) r w k a fn)
    visit_bounded r w k = visit_keeps (newest sc b n) Few Any few t r w k tt (any k)

    pub stream_bounded : (r : ℕ) (w : Words) (k : Forest) → Bounded (stream t (newest sc b n) r w k (visits_of t (newest sc b n) k))
    stream_bounded r w k = stream_keeps (newest sc b n) Few Any few t r w k tt (any k)

    pub function_bounded : (r : ℕ) (w : Words) (k : Forest) → is_function w ≡ true → Bounded (function_run t (newest sc b n) r w k)
    function_bounded r w k f = function_keeps (newest sc b n) Few Any few t r w k f tt (any k)
