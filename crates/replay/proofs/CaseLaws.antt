-- Laws of cases: where the next table begins, and words that are bytes, one by one. Assumes nothing.
use mathlib.Core.Bool.{Bool, ◌&&◌}
use mathlib.Core.Path.{◌≡◌, sym, ap, ◌∙◌}
use mathlib.Core.List.{List}
use Prim.Native.Nat.{ℕ, suc, ◌+◌, ◌≤◌, ◌<◌, min}
use native.Mathlib.Omega.{arith}
use lib.ListN.{length, get_or, set, drop}
use lib.Seq.{drop-cons, paste, paste-suc}
use borrow.Author.Tests.{le-leb}
use Rattle.replay.specs.Case.{start, all_bytes}

-- the next table begins behind this one
pub start_more : (case : List ℕ) (numbers j e : ℕ) → min (min (start case numbers j) e + get_or case j 0) e ≡ min (start case numbers (j + 1)) e
unfolding start
start_more case numbers j e =
    let z : j + 1 ≡ suc j = omega arith in
    let m : min (min (start case numbers j) e + get_or case j 0) e ≡ min (start case numbers j + get_or case j 0) e = omega arith in
    m ∙ ap (λ (n : ℕ). min (start case numbers n) e) (sym z)

-- one word more is a byte
pub byte_more : (ws : List ℕ) (k : ℕ) → k < length ws → get_or ws k 0 ≤ 255 → all_bytes ws ≡ all_bytes (drop k ws) → all_bytes ws ≡ all_bytes (drop (k + 1) ws)
byte_more ws k h g e =
    let z : suc k ≡ k + 1 = omega arith in
    e ∙ ap all_bytes (drop-cons ws k 0 h) ∙ ap (λ (b : Bool). b && all_bytes (drop (suc k) ws)) (le-leb (get_or ws k 0) 255 g)
    ∙ ap (λ (n : ℕ). all_bytes (drop n ws)) z

-- one byte more is written
pub laid_more : (ws bs bs₀ : List ℕ) (k : ℕ) → k < length ws → k < length bs₀ → bs ≡ paste bs₀ 0 ws k → set bs k (get_or ws k 0) ≡ paste bs₀ 0 ws (k + 1)
laid_more ws bs bs₀ k h g e =
    let z : suc k ≡ k + 1 = omega arith in
    let o : k ≡ 0 + k = omega arith in
    ap (λ (l : List ℕ). set l k (get_or ws k 0)) e ∙ ap (λ (i : ℕ). set (paste bs₀ 0 ws k) i (get_or ws k 0)) o
    ∙ paste-suc bs₀ 0 ws k 0 (omega arith) h ∙ ap (λ (n : ℕ). paste bs₀ 0 ws n) z
