-- Functions counted in subtrees, and where the numbers of a subtree begin: what the passes of row 9 leave in their arrays. Definitions only.
use Rattle.std.specs.Prelude.{Bool, true, false, cond, not, ◌&&◌, List, map, ◌≡◌, ℕ, zero, suc, ◌+◌, ◌-◌, ◌*◌, ◌<◌, min, length, get_or, eqb}
use Rattle.tables.specs.declared.numbering.Count.{Count}
use Rattle.tables.specs.declared.numbering.Manner.{Manner}
use Rattle.tables.specs.declared.numbering.Manner.TheVariants.{Stored, RightFirst, RightThenBack}
use Rattle.tables.specs.Record.{Words, word, words, size, absent, is_function}
use Rattle.tables.specs.Forest.{Forest, none, tree, first, next, forest}
use Rattle.tables.specs.Scratch.{Handed}
use Rattle.tables.specs.Numbering.{is_left, manner}

-- counts and numbers stop at 4096, which no accepted table passes
abbrev pub plus : ℕ → ℕ → ℕ
plus a b = min 4096 (a + b)

abbrev pub own : Words → ℕ
own w = cond (is_function w) 1 0

-- the Functions of a forest, and those in its Lefts
unfoldable pub tally : Forest → ℕ
tally none = 0
tally (tree r w k s) = own w + tally k + tally s

unfoldable pub tally_left : Forest → ℕ
tally_left none = 0
tally_left (tree r w k s) = cond (is_left w) (own w + tally k) 0 + tally_left s

-- the count of no records
abbrev pub blank : Count
blank = record { all = 0; left = 0 }

-- the two numbers of each count, as lists of their own
abbrev pub alls : List Count → List ℕ
alls counts = map (λ c. c.all) counts

abbrev pub lefts : List Count → List ℕ
lefts counts = map (λ c. c.left) counts

-- an array with a number for each record's forest: the record with what is below it and its later siblings
pub record Tallied (t : Forest → ℕ) (recs a : List ℕ) : Type 0 where
  pub long : length a ≡ 4096
  pub each : (x : ℕ) → x < size recs → get_or a x 0 ≡ min 4096 (t (forest recs x))

-- how many functions are visited before a record, since its parent: all in its parent's children t, in their Lefts l; from the record on t', l'; in the Lefts after it l''
unfoldable pub shift : Manner → Bool → ℕ → ℕ → ℕ → ℕ → ℕ → ℕ
shift Stored b t l t' l' l'' = t - t'
shift RightFirst true t l t' l' l'' = plus (t - l) (l - l')
shift RightFirst false t l t' l' l'' = (t - l) - (t' - l')
shift RightThenBack true t l t' l' l'' = plus (t - l) l''
shift RightThenBack false t l t' l' l'' = (t - l) - (t' - l')

-- the same from the arrays of counts and of parents; record 0 has no parent
unfoldable pub offset : List ℕ → List ℕ → List ℕ → List ℕ → ℕ → ℕ
offset recs all left up zero = 0
offset recs all left up (suc x) =
    let k = first recs (get_or up (suc x) 0) in
    shift (manner (word recs (get_or up (suc x) 0) 0)) (eqb (word recs (suc x) 0) 34) (get_or all k 0) (get_or left k 0) (get_or all (suc x) 0) (get_or left (suc x) 0)
    (get_or left (next recs (suc x)) 0)

-- where the numbers of a record's functions begin: after those that its parent hands to its children, and what is visited before it
abbrev pub start_of : List ℕ → List ℕ → List ℕ → List ℕ → List ℕ → ℕ → ℕ
start_of recs all left up base x = plus (get_or base x 0) (offset recs all left up x)

-- what a record hands to its children: where their numbers begin
abbrev pub base_down : List ℕ → List ℕ → List ℕ → List ℕ → ℕ → ℕ → ℕ
base_down recs all left up r v = plus (plus v (offset recs all left up r)) (own (words recs r))

-- and the function around them, one more than its number, 0 for none
abbrev pub caller_down : List ℕ → List ℕ → List ℕ → List ℕ → List ℕ → ℕ → ℕ → ℕ
caller_down recs all left up base r v = cond (is_function (words recs r)) (plus (start_of recs all left up base r) 1) v

-- table 5's word for such a function
abbrev pub caller_word : ℕ → ℕ
caller_word zero = absent
caller_word (suc n) = n

-- a Function that stands at place s in visiting order inside function v, with another number or parent
abbrev pub wrong : List ℕ → List ℕ → ℕ → ℕ → ℕ → Bool
wrong recs funs r s v = is_function (words recs r) && not (eqb (word recs r 2) s && eqb (get_or funs (s * 2) 0) (caller_word v))

-- the same with what the arrays have of it
abbrev pub found : List ℕ → List ℕ → List ℕ → List ℕ → List ℕ → List ℕ → List ℕ → ℕ → Bool
found recs funs all left up base by r = wrong recs funs r (start_of recs all left up base r) (get_or by r 0)

-- all that the passes leave
pub record Passed (recs all left up base by : List ℕ) : Type 0 where
  pub counts : Tallied tally recs all
  pub lefts : Tallied tally_left recs left
  pub parents : Handed (λ r v. r) recs 0 (size recs) up
  pub bases : Handed (base_down recs all left up) recs 0 (size recs) base
  pub callers : Handed (caller_down recs all left up base) recs 0 (size recs) by
