-- "1 name per member": the names of the functions met are no more than the members lent, in every run. Assumes nothing.
use mathlib.Core.Path.{◌≡◌, refl, ap, ◌∙◌}
use mathlib.Core.List.{List, [], ◌∷◌, ◌++◌}
use Prim.Native.Nat.{ℕ, zero, suc, ◌+◌, ◌*◌, ◌≤◌, ◌<◌}
use native.Mathlib.Omega.{arith}
use lib.ListN.{length, drop, length-append, length-take, length-drop}
use Rattle.tables.specs.Semantic.{share_start}
use Rattle.pool.specs.Names.{Semantic, Upvalue, Names, names, share, start_of_share, count_of_members}
use Rattle.pool.proofs.NamesLaws.{names_count}
use Rattle.rules.specs.declared.StackCode.{StackCode}
use Rattle.rules.specs.Run.{look, Stream, side, run}
use Rattle.rules.specs.Out.{plain_names, upvalue_words, name_words, stream_numbered, each_function, out}
use Rattle.rules.proofs.Count.{inside_at}
use Rattle.rules.proofs.Numbers.{Every, run_numbered, stream_found}

plain_length : (ss : List ℕ) → length (plain_names ss) ≡ 3 * length ss
unfolding plain_names
plain_length [] = refl
plain_length (s ∷ ss) = omega (arith, plain_length ss)

upvalue_length : (us : List Upvalue) → length (upvalue_words us) ≡ 3 * length us
unfolding upvalue_words
upvalue_length [] = refl
upvalue_length (u ∷ us) = omega (arith, upvalue_length us)

name_length : (n : Names) → length (name_words n) ≡ 3 * (length n.locals + length n.globals + length n.upvalues)
name_length n =
    omega (
      arith,
      length-append (plain_names n.locals) (plain_names n.globals ++ upvalue_words n.upvalues),
      length-append (plain_names n.globals) (upvalue_words n.upvalues),
      plain_length n.locals,
      plain_length n.globals,
      upvalue_length n.upvalues,
    )

every_unit : (xs : List Stream) → Every (λ x. Unit {0}) xs
every_unit [] = tt
every_unit (x ∷ xs) = (tt, every_unit xs)

module _ (sc : StackCode) (t : Semantic) (recs : List ℕ) where
  -- the stream of a function met has its number
  own_number : (n : ℕ) → n < (side (run sc (look t) recs)).met → (stream_numbered (side (run sc (look t) recs)).streams n).number ≡ n
  own_number n h =
      (stream_found (λ x. Unit {0}) (side (run sc (look t) recs)).streams n (every_unit (side (run sc (look t) recs)).streams)
      (omega (arith, run_numbered sc (look t) recs n, inside_at 0 (side (run sc (look t) recs)).met n (omega arith) (omega arith)))).1

  abbrev wrote : ℕ → List ℕ
  wrote m = each_function (λ x. name_words (names t x.number)) (side (run sc (look t) recs)).streams m

  -- shares follow one another, and none goes past the last member
  upto : (m : ℕ) → m ≤ (side (run sc (look t) recs)).met → (n : ℕ) × (length (wrote m) ≡ 3 * n) × (n ≤ start_of_share t m) × (n ≤ length t.members)
  unfolding each_function share_start
  upto zero h = (0, refl, omega arith, omega arith)
  upto (suc m) h = go (upto m (omega arith))
    where
      last : length (name_words (names t (stream_numbered (side (run sc (look t) recs)).streams m).number)) ≡ 3 * length (share t m)
      last = ap (λ (f : ℕ). length (name_words (names t f))) (own_number m (omega arith)) ∙ omega (arith, name_length (names t m), names_count t m)

      go : (n : ℕ) × (length (wrote m) ≡ 3 * n) × (n ≤ start_of_share t m) × (n ≤ length t.members)
          → (n : ℕ) × (length (wrote (suc m)) ≡ 3 * n) × (n ≤ start_of_share t (suc m)) × (n ≤ length t.members)
      go (n, e, a, b) =
          let x = stream_numbered (side (run sc (look t) recs)).streams m in (
            n + length (share t m),
            omega (arith, e, last, length-append (wrote m) (name_words (names t x.number))),
            omega (arith, a, length-take (count_of_members t m) (drop (start_of_share t m) t.members)),
            omega (arith, a, b, length-take (count_of_members t m) (drop (start_of_share t m) t.members), length-drop (start_of_share t m) t.members),
          )

  pub names_bound : length (out t recs (side (run sc (look t) recs))).names_out ≤ 3 * length t.members
  names_bound = go (upto (side (run sc (look t) recs)).met (omega arith))
    where
      go : (n : ℕ) × (length (wrote (side (run sc (look t) recs)).met) ≡ 3 * n) × (n ≤ start_of_share t (side (run sc (look t) recs)).met) × (n ≤ length t.members)
          → length (wrote (side (run sc (look t) recs)).met) ≤ 3 * length t.members
      go (n, e, a, b) = omega (arith, e, b)
