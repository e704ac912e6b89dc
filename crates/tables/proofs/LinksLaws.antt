-- In a table that keeps row 5 a link is its word: the guard of specs/Forest changes nothing. Assumes nothing.
use mathlib.Core.Path.{◌≡◌, refl, sym, ◌∙◌}
use mathlib.Core.Bool.{Bool, true, false, cond, ◌&&◌, ◌||◌}
use mathlib.Core.List.{List}
use Prim.Native.Nat.{ℕ, ◌<◌}
use native.Mathlib.Omega.{arith}
use lib.Dec.{ltb, eqb}
use borrow.Author.Tests.{eqb-true, not-false}
use Rattle.std.specs.Prelude.{None}
use Rattle.tables.specs.Place.{broken}
use Rattle.tables.specs.Record.{word, size}
use Rattle.tables.specs.Forest.{guarded, first, next}
use Rattle.tables.specs.Links.{right_link, right_links, wrong_links}
use Rattle.tables.proofs.PlaceLaws.{holds}
use Rattle.tables.proofs.ForestLaws.{next_some}

and_left : (a b : Bool) → a && b ≡ true → a ≡ true
and_left true b e = refl
and_left false b e = e

and_right : (a b : Bool) → a && b ≡ true → b ≡ true
and_right true b e = e
and_right false b e = absurd (let z : ◌≡◌ {A = ℕ} 0 1 = cc in omega arith)

same : (r n l : ℕ) → right_link r n l ≡ true → guarded r n l ≡ l
unfolding guarded
same r n l = go (ltb r l && ltb l n)
  where
    zero_link : (b : Bool) → eqb l 0 ≡ b → b || false ≡ true → 0 ≡ l
    zero_link true q e = sym (eqb-true l 0 q)
    zero_link false q e = absurd (let z : ◌≡◌ {A = ℕ} 0 1 = cc in omega arith)

    go : (b : Bool) → eqb l 0 || b ≡ true → cond b l 0 ≡ l
    go true e = refl
    go false e = zero_link (eqb l 0) refl e

module _ (recs : List ℕ) (kept : broken (wrong_links recs) (size recs) ≡ None) (r : ℕ) (inside : r < size recs) where
  right : right_links recs r ≡ true
  right = not-false _ (holds (wrong_links recs) (size recs) kept r inside)

  pub first_word : first recs r ≡ word recs r 6
  unfolding first right_links
  first_word = same r (size recs) _ (and_left _ _ right)

  -- record 0's `next` is row 6's
  pub next_word : (r ≡ 0 → ⊥) → next recs r ≡ word recs r 7
  unfolding right_links
  next_word h = sym (next_some recs r h) ∙ same r (size recs) _ (and_right (right_link r (size recs) (word recs r 6)) _ right)
