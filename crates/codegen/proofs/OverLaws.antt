-- Words laid over the front of others: some after others, and words stored behind those laid before. Assumes nothing.
use mathlib.Core.Path.{◌≡◌, refl, sym, ap, ◌∙◌}
use mathlib.Core.List.{List, ◌++◌, append_assoc}
use Prim.Native.Nat.{ℕ, ◌+◌, ◌*◌, ◌≤◌}
use native.Mathlib.Omega.{arith}
use lib.ListN.{length, take, drop, length-append, length-drop}
use lib.Seq.{sets, sets-eq, take_at, drop_at, drop-append-add, drop-drop}
use borrow.Rule.Slice.PartMut.{put_mid}
use Rattle.pool.specs.Entries.{put_entry}
use Rattle.pool.specs.NameWords.{over}
use Rattle.pool.proofs.PutLaws.{put_room}
use Rattle.codegen.specs.Listing.{over_at}

pub over_length : (xs ws : List ℕ) → length xs ≤ length ws → length (over xs ws) ≡ length ws
over_length xs ws h = length-append xs (drop (length xs) ws) ∙ omega (arith, length-drop (length xs) ws)

pub over_front : (xs ws : List ℕ) → take (length xs) (over xs ws) ≡ xs
over_front xs ws = take_at xs (drop (length xs) ws) (length xs) refl

pub over_rest : (xs ws : List ℕ) → drop (length xs) (over xs ws) ≡ drop (length xs) ws
over_rest xs ws = drop_at xs (drop (length xs) ws) (length xs) refl

-- words laid over the rest
over_more : (xs ys ws : List ℕ) → xs ++ over ys (drop (length xs) ws) ≡ over (xs ++ ys) ws
over_more xs ys ws =
    ap (λ (l : List ℕ). xs ++ (ys ++ l)) (drop-drop (length ys) (length xs) ws ∙ ap (λ (n : ℕ). drop n ws) (sym (length-append xs ys)))
    ∙ sym (append_assoc xs ys (drop (length (xs ++ ys)) ws))

pub over_behind : (xs ys ws : List ℕ) (n : ℕ) → n ≡ length xs → take n (over xs ws) ++ over ys (drop n (over xs ws)) ≡ over (xs ++ ys) ws
over_behind xs ys ws n e =
    ap (λ (m : ℕ). take m (over xs ws) ++ over ys (drop m (over xs ws))) e
    ∙ ap (λ (l : List ℕ). l ++ over ys (drop (length xs) (over xs ws))) (over_front xs ws)
    ∙ ap (λ (l : List ℕ). xs ++ over ys l) (over_rest xs ws) ∙ over_more xs ys ws

-- words stored behind those that were laid
pub over_sets : (xs vs ws : List ℕ) (i : ℕ) → length xs ≡ i → i + length vs ≤ length ws → sets (over xs ws) i vs ≡ over (xs ++ vs) ws
over_sets xs vs ws i e h =
    let g : i + length vs ≤ length (over xs ws) = omega (arith, over_length xs ws (omega arith)) in
    sets-eq vs (over xs ws) i g
    ∙ ap (λ (l : List ℕ). (l ++ vs) ++ drop (i + length vs) (over xs ws)) (take_at xs (drop (length xs) ws) i e)
    ∙ ap (λ (l : List ℕ). (xs ++ vs) ++ l)
    (ap (λ (n : ℕ). drop (n + length vs) (over xs ws)) (sym e) ∙ drop-append-add xs (drop (length xs) ws) (length vs) ∙ drop-drop (length vs) (length xs) ws
    ∙ ap (λ (n : ℕ). drop n ws) (sym (length-append xs vs)))

-- a front that is copied
pub copied : (xs ws : List ℕ) (k : ℕ) → k ≡ length xs → put_mid 0 k ws xs ≡ over xs ws
copied xs ws k e = ap (λ (n : ℕ). xs ++ drop n ws) e

-- an entry of a table
pub put_at : (ws : List ℕ) (n : ℕ) (vs : List ℕ) → n * length vs + length vs ≤ length ws → put_entry ws n vs ≡ over_at (n * length vs) vs ws
put_at ws n vs h =
    let i = n * length vs in
    put_room ws n vs h ∙ sets-eq vs ws i h ∙ append_assoc (take i ws) vs (drop (i + length vs) ws)
    ∙ ap (λ (l : List ℕ). take i ws ++ (vs ++ l)) (sym (drop-drop (length vs) i ws))
