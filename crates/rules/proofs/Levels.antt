-- Every finished stream is of a record of the tree, a Function's; a refusal is at a record of the tree; no tree inside has more levels than the whole.
-- Assumes nothing.
use mathlib.Core.Path.{◌≡◌, refl, ap, subst}
use mathlib.Core.Bool.{true}
use mathlib.Core.List.{List, [], ◌∷◌}
use Prim.Native.Nat.{ℕ, ◌≤◌, ◌<◌}
use native.Mathlib.Omega.{arith}
use lib.ListN.{take as front}
use Rattle.tables.specs.Record.{Words, words, is_function}
use Rattle.tables.specs.Forest.{Forest, none, tree, children, first, root, levels}
use Rattle.tables.proofs.ForestLaws.{Genuine, genuine}
use Rattle.rules.specs.declared.StackCode.{StackCode}
use Rattle.rules.specs.declared.Flow.{Flow}
use Rattle.rules.specs.declared.Flow.TheVariants.{Go, Cut, Refused}
use Rattle.rules.specs.Run.{Lookup, Loop, Stream, Side, State, Mode, full, flow, side, function_run, nothing, run, alone}
use Rattle.rules.specs.Out.{stream_numbered}
use Rattle.rules.proofs.Count.{inside_at}
use Rattle.rules.proofs.Numbers.{run_numbered, Every, stream_found}
use Rattle.rules.proofs.Alone.{Runs, streams, stream_at, alone_stream, Is-alone}
use Rattle.rules.proofs.Invariant.{Everywhere, Invariant, function_keeps}
use Rattle.rules.proofs.Enough.{SameTop, same_top, alone_top, run_alone_enough}

module _ (Q : ℕ → Type 0) where
  abbrev Of-record : Stream → Type 0
  Of-record x = Q x.at

  abbrev Finished : List Loop → Flow → Side → Type 0
  Finished ls f e = Every Of-record e.streams

  finished : (o : Mode) → Invariant o Finished (λ r w. Q r)
  finished o =
      record {
        opening = λ x ls e h. h;
        closing = λ ls e h. h;
        cutting = λ k a b ls e h. h;
        noting = λ k a b ls e h. h;
        refusing = λ x r w ls e q h. h;
        losing = λ x ls e h. h;
        starting = λ ls e h. h;
        ending = λ x w ls ls' f e e' q i h h'. (q, h');
      }

  -- what holds of every record of the tree holds of every finished stream's, in every mode, cut short or refused or not
  pub run_records : (t : Lookup) (o : Mode) (recs : List ℕ) → is_function (words recs 0) ≡ true → Everywhere (λ r w. Q r) (root recs)
      → Every Of-record (streams (function_run t o 0 (words recs 0) (children recs 0) nothing))
  run_records t o recs f (q, g, z) = function_keeps o Finished (λ r w. Q r) (finished o) t 0 (words recs 0) (children recs 0) f q g nothing tt

-- every finished stream is that of a Function's record
module _ (recs : List ℕ) where
  abbrev OfFunction : Stream → Type 0
  OfFunction x = is_function (words recs x.at) ≡ true

  functions_only : (o : Mode) → Invariant o (λ ls f e. Every OfFunction e.streams) (λ r w. w ≡ words recs r)
  functions_only o =
      record {
        opening = λ x ls e h. h;
        closing = λ ls e h. h;
        cutting = λ k a b ls e h. h;
        noting = λ k a b ls e h. h;
        refusing = λ x r w ls e q h. h;
        losing = λ x ls e h. h;
        starting = λ ls e h. h;
        ending = λ x w ls ls' f e e' q i h h'. (subst (λ (z : Words). is_function z ≡ true) q i, h');
      }

  genuine_words : (f : Forest) → Genuine recs f → Everywhere (λ r w. w ≡ words recs r) f
  genuine_words none g = tt
  genuine_words (tree r w k s) (e, d, g, gs) = (e, genuine_words k g, genuine_words s gs)

  pub run_functions : (sc : StackCode) (t : Lookup) → is_function (words recs 0) ≡ true → Every OfFunction (streams (run sc t recs))
  unfolding run
  run_functions sc t f =
      function_keeps (full sc) (λ ls f e. Every OfFunction e.streams) (λ r w. w ≡ words recs r) (functions_only (full sc)) t 0 (words recs 0) (children recs 0) f refl
      (genuine_words (children recs 0) (genuine recs (first recs 0))) nothing tt

-- a run is refused at a record of the tree, or at 0
module _ (Q : ℕ → Type 0) where
  abbrev pub RefusedAt : Flow → Type 0
  RefusedAt Go = Unit {0}
  RefusedAt (Cut k a b) = Unit {0}
  RefusedAt (Refused x r) = Q r

  refused_in : (o : Mode) → Q 0 → Invariant o (λ ls f e. RefusedAt f) (λ r w. Q r)
  refused_in o z =
      record {
        opening = λ x ls e h. tt;
        closing = λ ls e h. tt;
        cutting = λ k a b ls e h. tt;
        noting = λ k a b ls e h. tt;
        refusing = λ x r w ls e q h. q;
        losing = λ x ls e h. z;
        starting = λ ls e h. tt;
        ending = λ x w ls ls' f e e' q i h h'. h';
      }

  pub run_refused : (sc : StackCode) (t : Lookup) (recs : List ℕ) → is_function (words recs 0) ≡ true → Everywhere (λ r w. Q r) (root recs) → RefusedAt (flow (run sc t recs))
  unfolding run
  run_refused sc t recs f (q, g, z) =
      function_keeps (full sc) (λ ls f e. RefusedAt f) (λ r w. Q r) (refused_in (full sc) q) t 0 (words recs 0) (children recs 0) f q g nothing tt

-- record r with all below has at most n levels
abbrev pub Within : List ℕ → ℕ → ℕ → Type 0
Within recs n r = levels (tree r (words recs r) (children recs r) none) ≤ n

-- no tree inside has more levels than the whole
pub levels_below : (recs : List ℕ) (n : ℕ) (f : Forest) → Genuine recs f → levels f ≤ n → Everywhere (λ r w. Within recs n r) f
levels_below recs n none g h = tt
levels_below recs n (tree r w k s) (e, d, g, gs) h = (omega (arith, ap levels d), levels_below recs n k g (omega arith), levels_below recs n s gs (omega arith))

pub root_levels : (recs : List ℕ) (n : ℕ) → levels (root recs) ≤ n → Everywhere (λ r w. Within recs n r) (root recs)
root_levels recs n h = levels_below recs n (root recs) (refl, refl, genuine recs (first recs 0), tt) h

-- so of every finished stream's record
pub streams_levels : (t : Lookup) (o : Mode) (recs : List ℕ) (n : ℕ) → is_function (words recs 0) ≡ true → levels (root recs) ≤ n
    → Every (λ x. Within recs n x.at) (streams (function_run t o 0 (words recs 0) (children recs 0) nothing))
streams_levels t o recs n f h = run_records (Within recs n) t o recs f (root_levels recs n h)

pub run_levels : (sc : StackCode) (t : Lookup) (recs : List ℕ) (n : ℕ) → is_function (words recs 0) ≡ true → levels (root recs) ≤ n
    → Every (λ x. Within recs n x.at) (streams (run sc t recs))
unfolding run
run_levels sc t recs n f h = streams_levels t (full sc) recs n f h

-- a function walked alone gives the same stream with the newest n open loops kept and with all
pub alone_stream_enough : (sc : StackCode) (t : Lookup) (recs : List ℕ) (n r : ℕ) → Within recs n r → alone_stream sc t (front n) recs r ≡ alone_stream sc t (λ ls. ls) recs r
unfolding alone
alone_stream_enough sc t recs n r h = go _ _ (alone_top sc t n r (words recs r) (children recs r) h)
  where
    go : (s u : State) → SameTop 1 s u → stream_at r (words recs r) u ≡ stream_at r (words recs r) s
    go s u (same_top m l ls ls' os f e q) = refl

both_hold : (P R : Stream → Type 0) (xs : List Stream) → Every P xs → Every R xs → Every (λ x. P x × R x) xs
both_hold P R [] h g = tt
both_hold P R (x ∷ xs) (h, hs) (g, gs) = ((h, g), both_hold P R xs hs gs)

-- the stream of each function met, by its number: it is that of its record walked alone with the newest n open loops kept
pub met_alone : (sc : StackCode) (t : Lookup) (recs : List ℕ) (n : ℕ) → is_function (words recs 0) ≡ true → levels (root recs) ≤ n → Runs (flow (run sc t recs)) → (i :
    ℕ) → i < (side (run sc t recs)).met
    → (Is-alone sc t (front n) recs (stream_numbered (streams (run sc t recs)) i) × Within recs n (stream_numbered (streams (run sc t recs)) i).at)
    × ((stream_numbered (streams (run sc
    t recs)) i).number ≡ i)
met_alone sc t recs n f h c i g =
    stream_found (λ x. Is-alone sc t (front n) recs x × Within recs n x.at) (streams (run sc t recs)) i
    (both_hold (Is-alone sc t (front n) recs) (λ x. Within recs n x.at) (streams (run sc t recs)) (run_alone_enough sc t recs n h c) (run_levels sc t recs n f h))
    (omega (arith, run_numbered sc t recs i, inside_at 0 (side (run sc t recs)).met i (omega arith) (omega arith)))
