-- Laws of table 1's lines: what is stored of a string, and what the loop over the lines has read so far.
use Rattle.std.proofs.Common.{◌≡◌, refl, sym, ap, subst, ◌∙◌, Bool, true, false, cond, ◌||◌, ◌⊎◌, List, [], ◌∷◌}
use Rattle.std.proofs.Common.{◌++◌, append_assoc, Option, Some, None, ℕ, suc, ◌+◌, ◌-◌, ◌≤◌, ◌<◌, length, take, drop, set, arith}
use mathlib.Core.List.{append-nil}
use mathlib.Core.Logic.{inl, inr, ⊎_elim}
use native.Mathlib.Numerals.{add-one}
use lib.ListN.{length-set, length-take, length-drop, drop_of_length-le}
use lib.Seq.{take-add, take-suc-set, drop-set-lt, drop-drop, length-take-le, drop_at, take_at}
use lib.Dec.{leb, ltb}
use borrow.Author.Tests.{ltb-true, ltb-false, lt-ltb, le-ltb}
use borrow.Rule.Slice.PartMut.{put_mid, post_of, mid_of}
use Rattle.listing.specs.Read.{string_of}
use Rattle.listing.specs.Text.{Block, got, stop, onward_text, before_text, strings_of}
use Rattle.listing.specs.Places.{Entered}
use Rattle.listing.proofs.ReadLaws.{rest_of}
use Rattle.listing.proofs.RowsLaws.{limits_first, limits_second, limits_none}

-- a part that is written up to the end
module _ (xs ys : List ℕ) (a : ℕ) (within : a ≤ length xs) (same : length ys ≡ length xs - a) where
  whole : put_mid a (length xs - a) xs ys ≡ take a xs ++ ys
  whole =
      let e : post_of a (length xs - a) xs ≡ [] = drop_of_length-le (drop a xs) (omega (arith, length-drop a xs)) in
      ap (λ (l : List ℕ). take a xs ++ (ys ++ l)) e ∙ ap (λ (l : List ℕ). take a xs ++ l) (append-nil ys)

  pub written_before : take a (put_mid a (length xs - a) xs ys) ≡ take a xs
  written_before = ap (take a) whole ∙ take_at (take a xs) ys a (length-take-le a xs within)

  pub written : drop a (put_mid a (length xs - a) xs ys) ≡ ys
  written = ap (drop a) whole ∙ drop_at (take a xs) ys a (length-take-le a xs within)

  pub written_after : (n : ℕ) → drop n ys ≡ drop n (mid_of a (length xs - a) xs) → drop (a + n) (put_mid a (length xs - a) xs ys) ≡ drop (a + n) xs
  written_after n e =
      sym (drop-drop n a (put_mid a (length xs - a) xs ys))
      ∙ ap (drop n) written
      ∙ e
      ∙ ap (drop n) (rest_of a xs)
      ∙ drop-drop n a xs

pair_set : (l : List ℕ) (i h m : ℕ) → i + 2 ≤ length l → take (i + 2) (set (set l i h) (i + 1) m) ≡ take i l ++ (h ∷ m ∷ [])
pair_set l i h m k =
    let e : i + 2 ≡ suc (i + 1) = omega arith in
    ap (λ (x : ℕ). take x (set (set l i h) (i + 1) m)) e
    ∙ take-suc-set (set l i h) (i + 1) m (omega (arith, length-set l i h))
    ∙ ap (λ (xs : List ℕ). xs ++ (m ∷ [])) (ap (λ (x : ℕ). take x (set l i h)) (add-one i) ∙ take-suc-set l i h (omega arith))
    ∙ append_assoc (take i l) (h ∷ []) (m ∷ [])

onward_twice : (vs ws bs cs : List ℕ) (b : Block (List ℕ × List ℕ)) → onward_text vs bs (onward_text ws cs b) ≡ onward_text (vs ++ ws) (bs ++ cs) b
onward_twice vs ws bs cs (stop m) = refl
onward_twice vs ws bs cs (got x ls m) =
    ap (λ (l : List ℕ). got (l, (bs ++ (cs ++ x.1))) ls m) (sym (append_assoc vs ws x.0))
    ∙ ap (λ (l : List ℕ). got (((vs ++ ws) ++ x.0), l) ls m) (sym (append_assoc bs cs x.1))

-- a string that there is no room for
no_room : (room held n : ℕ) (o : Option (List ℕ)) (rest : ℕ → Block (List ℕ × List ℕ))
    → ((bs : List ℕ) → o ≡ Some bs → (4096 < held + length bs) ⊎ (room < held + length bs)) → before_text n room held o rest ≡ stop n
no_room room held n None rest h = refl
no_room room held n (Some bs) rest h =
    ap (λ (t : Bool). cond t (stop n) (onward_text (held ∷ length bs ∷ []) bs (rest (held + length bs))))
    (⊎_elim (λ k. ap (λ (t : Bool). t || ltb room (held + length bs)) (lt-ltb 4096 (held + length bs) k))
    (λ k. limits_second (ltb 4096 (held + length bs)) room (held + length bs) k) (h bs refl))

pub with_room : (room held n : ℕ) (bs : List ℕ) (rest : ℕ → Block (List ℕ × List ℕ)) → held + length bs ≤ 4096 → held + length bs ≤ room
    → before_text n room held (Some bs) rest ≡ onward_text (held ∷ length bs ∷ []) bs (rest (held + length bs))
with_room room held n bs rest h k =
    ap (λ (t : Bool). cond t (stop n) (onward_text (held ∷ length bs ∷ []) bs (rest (held + length bs))))
    (ap (λ (t : Bool). t || ltb room (held + length bs)) (le-ltb 4096 (held + length bs) h) ∙ le-ltb room (held + length bs) k)

-- a line that is not blank
pub strings_line : (room1 room2 line used held : ℕ) (l : List ℕ) (ls : List (List ℕ)) → 0 < length l
    → strings_of room1 room2 line used held (l ∷ ls)
    ≡ cond (leb 280 used || ltb room1 (used + 2)) (stop line)
    (before_text line room2 held (string_of l) (λ h. strings_of room1 room2 (line + 1) (used + 2) h ls))
strings_line room1 room2 line used held [] ls h = absurd (omega arith)
strings_line room1 room2 line used held (b ∷ bs) ls h = refl

-- what is read, before what the lines that are left give: in all W
module _ (room1 room2 n used held : ℕ) (strings bytes : List ℕ) (ls : List (List ℕ)) (W : Block (List ℕ × List ℕ))
    (inv : onward_text (take used strings) (take held bytes) (strings_of room1 room2 n used held ls) ≡ W) where
  closed : strings_of room1 room2 n used held ls ≡ stop n → W ≡ stop n
  closed e = sym inv ∙ ap (onward_text (take used strings) (take held bytes)) e

  module _ (l : List ℕ) (rest : List (List ℕ)) (lines : ls ≡ l ∷ rest) (some : 0 < length l) where
    opened : strings_of room1 room2 n used held ls
        ≡ cond (leb 280 used || ltb room1 (used + 2)) (stop n)
        (before_text n room2 held (string_of l) (λ h. strings_of room1 room2 (n + 1) (used + 2) h rest))
    opened = ap (strings_of room1 room2 n used held) lines ∙ strings_line room1 room2 n used held l rest some

    limited : leb 280 used || ltb room1 (used + 2) ≡ true → W ≡ stop n
    limited e =
        closed (opened ∙ ap (λ (t : Bool). cond t (stop n) (before_text n room2 held (string_of l) (λ h. strings_of room1 room2 (n + 1) (used + 2) h rest))) e)

    pub text_many : 280 ≤ used → W ≡ stop n
    text_many h = limited (limits_first 280 used (ltb room1 (used + 2)) h)

    within : used < 280 → used + 2 ≤ room1
        → strings_of room1 room2 n used held ls ≡ before_text n room2 held (string_of l) (λ h. strings_of room1 room2 (n + 1) (used + 2) h rest)
    within h k =
        opened
        ∙ ap (λ (t : Bool). cond t (stop n) (before_text n room2 held (string_of l) (λ h. strings_of room1 room2 (n + 1) (used + 2) h rest)))
        (limits_none 280 used room1 (used + 2) h k)

    -- a line that `add` refused
    pub text_refused : (strings' bytes' : List ℕ) (r : Option ℕ) → used < 280 → Entered l strings used bytes held strings' bytes' r → r ≡ None
        → length strings ≡ room1 → length bytes ≡ room2 → W ≡ stop n
    text_refused strings' bytes' r h x u y z = why (ltb room1 (used + 2)) refl
      where
        entered : Entered l strings used bytes held strings' bytes' None
        entered = subst (λ (t : Option ℕ). Entered l strings used bytes held strings' bytes' t) u x

        full : used + 2 ≤ room1 → (bs : List ℕ) → string_of l ≡ Some bs → (4096 < held + length bs) ⊎ (room2 < held + length bs)
        full f bs s =
            ⊎_elim (λ k. absurd (omega arith))
            (λ k. ⊎_elim (λ m. inl m) (λ m. inr (omega arith)) (k bs s))
            entered

        why : (t : Bool) → ltb room1 (used + 2) ≡ t → W ≡ stop n
        why true k = limited (limits_second (leb 280 used) room1 (used + 2) (ltb-true room1 (used + 2) k))
        why false k =
            let f = ltb-false room1 (used + 2) k in
            closed (within h f ∙ no_room room2 held n (string_of l) (λ i. strings_of room1 room2 (n + 1) (used + 2) i rest) (full f))

    -- a line that `add` stored
    pub text_further : (strings' bytes' : List ℕ) (k : ℕ) (r : Option ℕ) → used < 280 → held ≤ room2 → Entered l strings used bytes held strings' bytes' r → r ≡ Some k
        → length strings ≡ room1 → length bytes ≡ room2 → length bytes' ≡ length bytes
        → (onward_text (take (used + 2) strings') (take k bytes') (strings_of room1 room2 (n + 1) (used + 2) k rest) ≡ W)
        × (used + 2 ≤ length strings) × (k ≤ length bytes) × (drop (used + 2) strings' ≡ drop (used + 2) strings) × (held ≤ k) × (drop k bytes' ≡ drop k bytes)
    text_further strings' bytes' k r h b x u y z w = (follows, entered.0, entered.3, past, entered.1, entered.7)
      where
        entered : Entered l strings used bytes held strings' bytes' (Some k)
        entered = subst (λ (t : Option ℕ). Entered l strings used bytes held strings' bytes' t) u x

        new : List ℕ
        new = take (k - held) (drop held bytes')

        size : length new ≡ k - held
        size = omega (arith, length-take (k - held) (drop held bytes'), length-drop held bytes', entered.3)

        total : held + length new ≡ k
        total = omega (arith, size, entered.1)

        words : take (used + 2) strings' ≡ take used strings ++ (held ∷ length new ∷ [])
        words =
            ap (λ (l : List ℕ). take (used + 2) l) entered.6
            ∙ pair_set strings used held (k - held) entered.0
            ∙ ap (λ (i : ℕ). take used strings ++ (held ∷ i ∷ [])) (sym size)

        held_bytes : take k bytes' ≡ take held bytes ++ new
        held_bytes =
            let e : k ≡ held + (k - held) = omega (arith, entered.1) in
            ap (λ (i : ℕ). take i bytes') e
            ∙ take-add held (k - held) bytes'
            ∙ ap (λ (l : List ℕ). l ++ new) entered.5

        read : strings_of room1 room2 n used held ls
            ≡ onward_text (held ∷ length new ∷ []) new (strings_of room1 room2 (n + 1) (used + 2) (held + length new) rest)
        read =
            within h (omega (arith, entered.0))
            ∙ ap (λ (o : Option (List ℕ)). before_text n room2 held o (λ i. strings_of room1 room2 (n + 1) (used + 2) i rest)) entered.4
            ∙ with_room room2 held n new (λ i. strings_of room1 room2 (n + 1) (used + 2) i rest) (omega (arith, size, entered.1, entered.2))
            (omega (arith, size, entered.1, entered.3))

        follows : onward_text (take (used + 2) strings') (take k bytes') (strings_of room1 room2 (n + 1) (used + 2) k rest) ≡ W
        follows =
            ap (λ (j : ℕ). onward_text (take (used + 2) strings') (take k bytes') (strings_of room1 room2 (n + 1) (used + 2) j rest)) (sym total)
            ∙ ap (λ (l : List ℕ). onward_text l (take k bytes') (strings_of room1 room2 (n + 1) (used + 2) (held + length new) rest)) words
            ∙ ap (λ (l : List ℕ). onward_text (take used strings ++ (held ∷ length new ∷ [])) l
            (strings_of room1 room2 (n + 1) (used + 2) (held + length new) rest)) held_bytes
            ∙ sym (onward_twice (take used strings) (held ∷ length new ∷ []) (take held bytes) new
            (strings_of room1 room2 (n + 1) (used + 2) (held + length new) rest))
            ∙ ap (onward_text (take used strings) (take held bytes)) (sym read)
            ∙ inv

        past : drop (used + 2) strings' ≡ drop (used + 2) strings
        past =
            ap (drop (used + 2)) entered.6
            ∙ drop-set-lt (used + 2) (set strings used held) (used + 1) (k - held) (omega arith)
            ∙ drop-set-lt (used + 2) strings used held (omega arith)

-- what is said of the buffers that were lent is said of those that come back
pub given_back : {b : Block (List ℕ × List ℕ)} {final final' : List ℕ} {ls : List (List ℕ)} {n used held : ℕ} (strings bytes strings' bytes' : List ℕ)
    → final ≡ strings' → final' ≡ bytes'
    → (used ≤ length strings') × (held ≤ length bytes') × (b ≡ got (take used strings', take held bytes') ls n)
    × (drop used strings' ≡ drop used strings) × (drop held bytes' ≡ drop held bytes)
    → (used ≤ length final) × (held ≤ length final') × (b ≡ got (take used final, take held final') ls n)
    × (drop used final ≡ drop used strings) × (drop held final' ≡ drop held bytes)
given_back strings bytes strings' bytes' e f h = rw (e, f) h
