-- A text that its buffer has room for is written whole. Assumes nothing.
use mathlib.Core.Bool.{Bool, cond}
use mathlib.Core.List.{List, [], ◌∷◌, ◌++◌, append_assoc, append-nil}
use mathlib.Core.Path.{◌≡◌, sym, ap, ◌∙◌}
use Prim.Native.Nat.{ℕ, ◌+◌, ◌≤◌, ◌<◌}
use native.Mathlib.Omega.{arith}
use native.Mathlib.Numerals.{add-one}
use lib.ListN.{length, take, set, get_or, length-set}
use lib.Seq.{lt-length-set, take-suc, take-set-le, get_or-set_same}
use borrow.Author.Tests.{lt-ltb}
use Rattle.listing.specs.Print.{wrote, Wrote}
use Rattle.lister.specs.Genlist.{most, genlist_text}
use Rattle.lister.proofs.FitsLaws.{genlist_fits}

-- one byte more
longer : (out : List ℕ) (at b : ℕ) → at < length out → take (at + 1) (set out at b) ≡ take at out ++ (b ∷ [])
longer out at b h =
    ap (λ (n : ℕ). take n (set out at b)) (add-one at) ∙ take-suc (set out at b) at 0 (lt-length-set out at b h)
    ∙ ap (λ (w : List ℕ). w ++ (get_or (set out at b) at 0 ∷ [])) (take-set-le at out at b (omega arith))
    ∙ ap (λ (x : ℕ). take at out ++ (x ∷ [])) (get_or-set_same out at b 0 h)

-- what is written, and how much
written : (bs out new : List ℕ) (at to : ℕ) → wrote bs out at ≡ (new, to) → at + length bs ≤ length out
    → (take to new ≡ take at out ++ bs) × (to ≡ at + length bs)
unfolding wrote
written [] out new at to e h =
    let p : out ≡ new = ap (λ (s : List ℕ × ℕ). s.0) e in
    let q : at ≡ to = ap (λ (s : List ℕ × ℕ). s.1) e in
    (rw (sym p) (rw (sym q) (sym (append-nil (take at out)))), omega arith)
written (b ∷ bs) out new at to e h =
    let room : at < length out = omega arith in
    let next = ap (λ (t : Bool). cond t (wrote bs (set out at b) (at + 1)) (out, at)) (sym (lt-ltb at (length out) room)) ∙ e in
    let w = written bs (set out at b) new (at + 1) to next (omega (arith, length-set out at b)) in
    (w.0 ∙ ap (λ (l : List ℕ). l ++ bs) (longer out at b room) ∙ append_assoc (take at out) (b ∷ []) bs, omega (arith, w.1))

-- what genlist prints, where its buffer is long enough
module _ (text : List ℕ) {out new : List ℕ} {to : ℕ} (w : Wrote (genlist_text text) out 0 new to) (h : most ≤ length out) where
  all : (take to new ≡ genlist_text text) × (to ≡ 0 + length (genlist_text text))
  all = written (genlist_text text) out new 0 to w.by (omega (arith, genlist_fits text))

  pub whole : take to new ≡ genlist_text text
  whole = all.0

  pub size : to ≡ length (genlist_text text)
  size = omega (arith, all.1)
