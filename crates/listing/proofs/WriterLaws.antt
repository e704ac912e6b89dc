-- Laws of a writer: a text after a text, a byte, and rows. Assumes nothing.
use mathlib.Core.Bool.{Bool, true, false, cond}
use mathlib.Core.List.{List, [], ◌∷◌, ◌++◌, append_assoc, append-nil}
use mathlib.Core.Path.{◌≡◌, refl, sym, ap, ◌∙◌}
use Prim.Native.Nat.{ℕ, zero, suc, ◌+◌, ◌≤◌, ◌<◌}
use native.Mathlib.Omega.{arith}
use native.Mathlib.Numerals.{add-one}
use lib.ListN.{length, set, take, get_or}
use lib.Seq.{take-suc, take_all}
use lib.Dec.{ltb}
use borrow.Author.Tests.{lt-ltb, le-ltb}
use Rattle.listing.specs.Print.{wrote, Wrote, after, rows_from}
use Rattle.listing.specs.declared.text.Writer.{Writer}

-- where there is no room nothing is written
pub full : (bs out : List ℕ) (at : ℕ) → ltb at (length out) ≡ false → wrote bs out at ≡ (out, at)
unfolding wrote
full [] out at h = refl
full (b ∷ bs) out at h = rw h

appended : (b : Bool) (bs cs out new : List ℕ) (at to : ℕ) → ltb at (length out) ≡ b
    → wrote (bs ++ cs) new to ≡ wrote cs (wrote bs new to).0 (wrote bs new to).1
    → cond b (wrote (bs ++ cs) new to) (out, at)
    ≡ wrote cs (cond b (wrote bs new to) (out, at)).0 (cond b (wrote bs new to) (out, at)).1
appended true bs cs out new at to h e = e
appended false bs cs out new at to h e = sym (full cs out at h)

wrote_append : (bs cs out : List ℕ) (at : ℕ) → wrote (bs ++ cs) out at ≡ wrote cs (wrote bs out at).0 (wrote bs out at).1
unfolding wrote
wrote_append [] cs out at = refl
wrote_append (b ∷ bs) cs out at =
    appended (ltb at (length out)) bs cs out (set out at b) at (at + 1) refl (wrote_append bs cs (set out at b) (at + 1))

-- one text after the other
pub after_append : (bs cs : List ℕ) (w : Writer) → after (bs ++ cs) w ≡ after cs (after bs w)
unfolding after
after_append bs cs w = ap (λ (p : List ℕ × ℕ). record w { out = record w.out { now = p.0 }; at = p.1 }) (wrote_append bs cs w.out.now w.at)

pub after_cons : (b : ℕ) (bs : List ℕ) (w : Writer) → after (b ∷ bs) w ≡ after bs (after (b ∷ []) w)
after_cons b bs w = after_append (b ∷ []) bs w

pub after_nil : (w : Writer) → after [] w ≡ w
unfolding after wrote
after_nil w = refl

-- a byte is put, or there is no room
pub after_room : (b : ℕ) (w : Writer) → w.at < length w.out.now
    → record w { out = record w.out { now = set w.out.now w.at b }; at = w.at + 1 } ≡ after (b ∷ []) w
unfolding after wrote
after_room b w h = rw (lt-ltb w.at (length w.out.now) h)

pub after_full : (b : ℕ) (w : Writer) → length w.out.now ≤ w.at → w ≡ after (b ∷ []) w
unfolding after wrote
after_full b w h = rw (le-ltb w.at (length w.out.now) h)

-- one byte more of a text
pub after_take : (bs : List ℕ) (i : ℕ) (w : Writer) → i < length bs → after (take (i + 1) bs) w ≡ after (get_or bs i 0 ∷ []) (after (take i bs) w)
after_take bs i w h =
    ap (λ (ts : List ℕ). after ts w) (ap (λ (n : ℕ). take n bs) (add-one i) ∙ take-suc bs i 0 h) ∙ after_append (take i bs) (get_or bs i 0 ∷ []) w

rows_last : (row : ℕ → List ℕ) (n i : ℕ) → rows_from row (suc n) i ≡ rows_from row n i ++ row (i + n)
unfolding rows_from
rows_last row zero i = let e : i ≡ i + 0 = omega arith in append-nil (row i) ∙ ap row e
rows_last row (suc n) i =
    let e : i + 1 + n ≡ i + suc n = omega arith in
    ap (λ (ts : List ℕ). row i ++ ts) (rows_last row n (i + 1))
    ∙ sym (append_assoc (row i) (rows_from row n (i + 1)) (row (i + 1 + n)))
    ∙ ap (λ (k : ℕ). (row i ++ rows_from row n (i + 1)) ++ row k) e

-- one row more
pub after_rows : (row : ℕ → List ℕ) (n : ℕ) (w : Writer) → after (rows_from row (n + 1) 0) w ≡ after (row n) (after (rows_from row n 0) w)
after_rows row n w =
    let e : 0 + n ≡ n = omega arith in
    ap (λ (k : ℕ). after (rows_from row k 0) w) (add-one n) ∙ ap (λ (ts : List ℕ). after ts w) (rows_last row n 0)
    ∙ after_append (rows_from row n 0) (row (0 + n)) w ∙ ap (λ (k : ℕ). after (row k) (after (rows_from row n 0) w)) e

pub after_no_rows : (row : ℕ → List ℕ) (w : Writer) → after (rows_from row 0 0) w ≡ w
unfolding rows_from
after_no_rows row w = after_nil w

-- of a text in two parts the first is written, or all
pub left_next : {v : Writer} (ts bs cs : List ℕ) (u w : Writer) → after ts w ≡ after (bs ++ cs) u → v ≡ after bs u → after ts w ≡ after cs v
left_next {v} ts bs cs u w e h = e ∙ after_append bs cs u ∙ ap (λ (x : Writer). after cs x) (sym h)

pub left_none : {u : Writer} (ts : List ℕ) (w : Writer) → after ts w ≡ after [] u → u ≡ after ts w
left_none {u} ts w e = sym (e ∙ after_nil u)

-- a text and then another, and the same text
pub on : {v : Writer} (bs cs : List ℕ) (u w : Writer) → u ≡ after bs w → v ≡ after cs u → v ≡ after (bs ++ cs) w
on {v} bs cs u w e h = h ∙ ap (λ (x : Writer). after cs x) e ∙ sym (after_append bs cs w)

pub same : {v : Writer} (bs cs : List ℕ) (w : Writer) → bs ≡ cs → v ≡ after bs w → v ≡ after cs w
same {v} bs cs w e h = h ∙ ap (λ (ts : List ℕ). after ts w) e

-- what the buffer holds where a writer was made of it
pub finished : {text final : List ℕ} {new : Writer} (w : Writer) → new ≡ after text w → (w.out.ghost_name ≡ new.out.ghost_name → final ≡ new.out.now)
    → Wrote text w.out.now w.at final new.at
unfolding after
finished {text} {final} {new} w e h =
    let n : new.out.now ≡ (wrote text w.out.now w.at).0 = rw e refl in
    let t : new.at ≡ (wrote text w.out.now w.at).1 = rw e refl in
    let g : w.out.ghost_name ≡ new.out.ghost_name = rw e refl in
    let f = h g ∙ n in
    record { by = rw (f, t) refl }

-- a writer whose buffer was lent to another, which has written all of a text
pub lent : {final : List ℕ} {v' : Writer} (bs : List ℕ) (i : ℕ) (w v : Writer) → v.out.now ≡ w.out.now → v.at ≡ w.at → v' ≡ after (take i bs) v → length bs ≤ i
    → (v.out.ghost_name ≡ v'.out.ghost_name → final ≡ v'.out.now) → record w { out = record w.out { now = final }; at = v'.at } ≡ after bs w
unfolding after
lent {final} {v'} bs i w v p q e l h =
    let e' : v' ≡ after bs v = e ∙ ap (λ (ts : List ℕ). after ts v) (take_all i bs l) in
    let n : v'.out.now ≡ (wrote bs w.out.now w.at).0 = rw e' (rw p (rw q refl)) in
    let t : v'.at ≡ (wrote bs w.out.now w.at).1 = rw e' (rw p (rw q refl)) in
    let g : v.out.ghost_name ≡ v'.out.ghost_name = rw e' refl in
    let f = h g ∙ n in
    rw (f, t) refl
