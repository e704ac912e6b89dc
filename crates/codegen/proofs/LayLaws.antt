-- Markers, constants and errors as the sinks lay them are their words over the lent ones, where these have room. Assumes nothing.
use mathlib.Core.Path.{◌≡◌, refl, sym, ap, ap₂, ◌∙◌}
use mathlib.Core.Bool.{true}
use mathlib.Core.List.{List, [], ◌∷◌, ◌++◌, append_assoc, append-nil}
use Prim.Native.Nat.{ℕ, suc, ◌+◌, ◌*◌, ◌≤◌, ◌<◌}
use native.Mathlib.Omega.{arith}
use lib.ListN.{length, length-append}
use Rattle.pool.specs.Value.{Const, seen, intern, kind_word, low_word, high_word}
use Rattle.pool.specs.Entries.{put_entry}
use Rattle.pool.specs.Consts.{put3, laid}
use Rattle.pool.proofs.PutLaws.{put_room}
use Rattle.pool.specs.NameWords.{over}
use Rattle.pool.proofs.ConstsLaws.{find_seen, find_later, seen_later, seen_intern}
use Rattle.rules.specs.Marker.{Op, Label, To, Back, Leave, Load, Do, Mark, mark}
use Rattle.rules.specs.Run.{Error, error}
use Rattle.rules.specs.Out.{consts, brought, code_word, operand_word, marker_words, const_words, error_words}
use Rattle.context.specs.Words.{limit, cap}
use Rattle.context.specs.Sinks.{put2}
use Rattle.context.specs.Rep.{lay, note}
use Rattle.context.proofs.ConstLaws.{table_short}
use Rattle.codegen.specs.Listing.{Small, AllSmall}
use Rattle.codegen.proofs.OverLaws.{over_length, over_sets}

-- an entry put behind n others
put_over : (xs ws : List ℕ) (n : ℕ) (vs : List ℕ) → length xs ≡ n * length vs → n * length vs + length vs ≤ length ws → put_entry (over xs ws) n vs ≡ over (xs ++ vs) ws
put_over xs ws n vs e h =
    let l = over_length xs ws (omega arith) in
    put_room (over xs ws) n vs (omega arith) ∙ over_sets xs vs ws (n * length vs) e h

-- ---- errors

errors_before : (es : List Error) (ws : List ℕ) → error_words es ws ≡ error_words es [] ++ ws
unfolding error_words
errors_before [] ws = refl
errors_before (error k a b ∷ es) ws =
    errors_before es (k ∷ a ∷ b ∷ ws) ∙ sym (append_assoc (error_words es []) (k ∷ a ∷ b ∷ []) ws)
    ∙ ap (λ (l : List ℕ). l ++ ws) (sym (errors_before es (k ∷ a ∷ b ∷ [])))

errors_length : (es : List Error) → length (error_words es []) ≡ 3 * length es
unfolding error_words
errors_length [] = refl
errors_length (error k a b ∷ es) =
    ap length (errors_before es (k ∷ a ∷ b ∷ [])) ∙ length-append (error_words es []) (k ∷ a ∷ b ∷ []) ∙ omega (arith, errors_length es)

pub note_over : (ws : List ℕ) (es : List Error) → 3 * length es ≤ length ws → note ws es ≡ over (error_words es []) ws
unfolding note error_words
note_over ws [] h = refl
note_over ws (error k a b ∷ es) h =
    ap (λ (l : List ℕ). put3 l (length es) k a b) (note_over ws es (omega arith))
    ∙ put_over (error_words es []) ws (length es) (k ∷ a ∷ b ∷ []) (omega (arith, errors_length es)) (omega arith)
    ∙ ap (λ (l : List ℕ). over l ws) (sym (errors_before es (k ∷ a ∷ b ∷ [])))

-- ---- constants

laid_from : (xs ws : List ℕ) (n : ℕ) (cs : List Const) → length xs ≡ 3 * n → 3 * n + 3 * length cs ≤ length ws
    → laid (over xs ws) n cs ≡ over (xs ++ const_words cs) ws
unfolding laid const_words
laid_from xs ws n [] e h = ap (λ (l : List ℕ). over l ws) (sym (append-nil xs))
laid_from xs ws n (c ∷ cs) e h =
    let k = kind_word c.value in
    let l = low_word c in
    let g = high_word c.value in
    ap (λ (z : List ℕ). laid z (suc n) cs) (put_over xs ws n (k ∷ l ∷ g ∷ []) (omega arith) (omega arith))
    ∙ laid_from (xs ++ (k ∷ l ∷ g ∷ [])) ws (suc n) cs (length-append xs (k ∷ l ∷ g ∷ []) ∙ omega arith) (omega arith)
    ∙ ap (λ (z : List ℕ). over z ws) (append_assoc xs (k ∷ l ∷ g ∷ []) (const_words cs))

pub laid_over : (ws : List ℕ) (cs : List Const) → 3 * length cs ≤ length ws → laid ws 0 cs ≡ over (const_words cs) ws
laid_over ws cs h = laid_from [] ws 0 cs refl (omega arith)

-- ---- markers

-- constants that further markers bring come behind
abbrev AllSeen : List Const → List Mark → Type 0
AllSeen cs [] = Unit {0}
AllSeen cs (mark r (Label l) ∷ ms) = AllSeen cs ms
AllSeen cs (mark r (To h l) ∷ ms) = AllSeen cs ms
AllSeen cs (mark r (Back l) ∷ ms) = AllSeen cs ms
AllSeen cs (mark r (Leave x l) ∷ ms) = AllSeen cs ms
AllSeen cs (mark r (Load c v) ∷ ms) = (seen cs v ≡ true) × AllSeen cs ms
AllSeen cs (mark r (Do c n) ∷ ms) = AllSeen cs ms

seen_more : (cs : List Const) (d : Const) (ms : List Mark) → AllSeen cs ms → AllSeen (intern cs d) ms
seen_more cs d [] h = tt
seen_more cs d (mark r (Label l) ∷ ms) h = seen_more cs d ms h
seen_more cs d (mark r (To x l) ∷ ms) h = seen_more cs d ms h
seen_more cs d (mark r (Back l) ∷ ms) h = seen_more cs d ms h
seen_more cs d (mark r (Leave x l) ∷ ms) h = seen_more cs d ms h
seen_more cs d (mark r (Load c v) ∷ ms) (e, h) = (seen_later cs d v e, seen_more cs d ms h)
seen_more cs d (mark r (Do c n) ∷ ms) h = seen_more cs d ms h

seen_all : (ms : List Mark) → AllSeen (consts ms) ms
unfolding consts
seen_all [] = tt
seen_all (mark r (Label l) ∷ ms) = seen_all ms
seen_all (mark r (To x l) ∷ ms) = seen_all ms
seen_all (mark r (Back l) ∷ ms) = seen_all ms
seen_all (mark r (Leave x l) ∷ ms) = seen_all ms
seen_all (mark r (Load c v) ∷ ms) = (seen_intern (consts ms) (brought r v), seen_more (consts ms) (brought r v) ms (seen_all ms))
seen_all (mark r (Do c n) ∷ ms) = seen_all ms

words_stay : (cs : List Const) (d : Const) (ms : List Mark) (ws : List ℕ) → AllSeen cs ms → marker_words (intern cs d) ms ws ≡ marker_words cs ms ws
unfolding marker_words
words_stay cs d [] ws h = refl
words_stay cs d (mark r (Label l) ∷ ms) ws h = words_stay cs d ms _ h
words_stay cs d (mark r (To x l) ∷ ms) ws h = words_stay cs d ms _ h
words_stay cs d (mark r (Back l) ∷ ms) ws h = words_stay cs d ms _ h
words_stay cs d (mark r (Leave x l) ∷ ms) ws h = words_stay cs d ms _ h
words_stay cs d (mark r (Load c v) ∷ ms) ws (e, h) =
    words_stay cs d ms _ h ∙ ap (λ (i : ℕ). marker_words cs ms (code_word (Load c v) ∷ i ∷ ws)) (find_later cs d v e)
words_stay cs d (mark r (Do c n) ∷ ms) ws h = words_stay cs d ms _ h

-- the words of markers do not change when one more comes
before_stay : (r : ℕ) (x : Op) (ms : List Mark) (ws : List ℕ) → marker_words (consts (mark r x ∷ ms)) ms ws ≡ marker_words (consts ms) ms ws
unfolding consts
before_stay r (Label l) ms ws = refl
before_stay r (To x l) ms ws = refl
before_stay r (Back l) ms ws = refl
before_stay r (Leave x l) ms ws = refl
before_stay r (Load c v) ms ws = words_stay (consts ms) (brought r v) ms ws (seen_all ms)
before_stay r (Do c n) ms ws = refl

markers_before : (cs : List Const) (ms : List Mark) (ws : List ℕ) → marker_words cs ms ws ≡ marker_words cs ms [] ++ ws
unfolding marker_words
markers_before cs [] ws = refl
markers_before cs (mark r x ∷ ms) ws =
    let c = code_word x in
    let o = operand_word cs x in
    markers_before cs ms (c ∷ o ∷ ws) ∙ sym (append_assoc (marker_words cs ms []) (c ∷ o ∷ []) ws)
    ∙ ap (λ (l : List ℕ). l ++ ws) (sym (markers_before cs ms (c ∷ o ∷ [])))

pub markers_length : (cs : List Const) (ms : List Mark) → length (marker_words cs ms []) ≡ 2 * length ms
unfolding marker_words
markers_length cs [] = refl
markers_length cs (mark r x ∷ ms) =
    let c = code_word x in
    let o = operand_word cs x in
    ap length (markers_before cs ms (c ∷ o ∷ [])) ∙ length-append (marker_words cs ms []) (c ∷ o ∷ []) ∙ omega (arith, markers_length cs ms)

-- an operand that a word holds is written as it is
operand_fits : (r : ℕ) (x : Op) (ms : List Mark) → Small x → length ms < limit → cap (operand_word (consts (mark r x ∷ ms)) x) ≡ operand_word
    (consts (mark r x ∷ ms)) x
unfolding consts
operand_fits r (Label l) ms h g = omega arith
operand_fits r (To x l) ms h g = omega arith
operand_fits r (Back l) ms h g = omega arith
operand_fits r (Leave x l) ms h g = omega arith
operand_fits r (Load c v) ms h g =
    omega (arith, find_seen (intern (consts ms) (brought r v)) v (seen_intern (consts ms) (brought r v)), table_short (mark r (Load c v) ∷ ms))
operand_fits r (Do c n) ms h g = omega arith

pub lay_over : (ws : List ℕ) (ms : List Mark) → AllSmall ms → length ms ≤ limit → 2 * length ms ≤ length ws → lay ws ms ≡ over (marker_words (consts ms) ms []) ws
unfolding lay marker_words
lay_over ws [] s g h = refl
lay_over ws (mark r x ∷ ms) s g h =
    let cs = consts (mark r x ∷ ms) in
    let c = code_word x in
    let o = operand_word cs x in
    ap₂ (λ (l : List ℕ) (y : ℕ). put2 l (length ms) c y) (lay_over ws ms (omega arith) (omega arith) (omega arith)) (operand_fits r x ms (omega arith) (omega arith))
    ∙ put_over (marker_words (consts ms) ms []) ws (length ms) (c ∷ o ∷ []) (omega (arith, markers_length (consts ms) ms)) (omega arith)
    ∙ ap (λ (l : List ℕ). over (l ++ (c ∷ o ∷ [])) ws) (sym (before_stay r x ms []))
    ∙ ap (λ (l : List ℕ). over l ws) (sym (markers_before cs ms (c ∷ o ∷ [])))

pub constants_length : (cs : List Const) → length (const_words cs) ≡ 3 * length cs
unfolding const_words
constants_length [] = refl
constants_length (c ∷ cs) = omega (arith, constants_length cs)
