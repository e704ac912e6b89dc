-- A search as a loop makes it, equal lists, and the share that a place lies in. Assumes nothing.
use mathlib.Core.Path.{◌≡◌, refl, sym, ap, subst, ◌∙◌}
use mathlib.Core.Bool.{Bool, true, false, cond, not, ◌&&◌, ◌||◌, true≢false}
use mathlib.Core.List.{List, [], ◌∷◌}
use mathlib.Core.Logic.{◌⊎◌, inl, inr}
use Prim.Native.Nat.{ℕ, zero, suc, ◌+◌, ◌-◌, ◌^◌, ◌≤◌, ◌<◌, min}
use native.Mathlib.Omega.{arith}
use lib.ListN.{length, get_or, length-take, length-drop}
use lib.Dec.{leb, ltb, eqb}
use borrow.Author.Tests.{le-leb, lt-leb, eq-eqb, leb-false, ltb-true, ltb-false, eqb-true, eqb-false, not-false}
use Rattle.std.specs.List.{find, list_any}
use Rattle.std.specs.Prelude.{Option, None, Some}
use Rattle.tables.specs.Place.{broken_from, broken}
use Rattle.tables.specs.Record.{absent}
use Rattle.tables.specs.Semantic.{pairs, string_offset, string_length, text_of, symbol_kind, symbol_name, symbol_of, parent_of, member_count, share_start, share}
use Rattle.tables.specs.Entries.{or_else, found, same_list, same_string, past_bytes, equal_earlier, string_bad}
use Rattle.tables.specs.Entries.{symbol_bad, reference_bad, parent_bad, own_start, twice, member_bad, own_bad}
use Rattle.tables.specs.Entries.{strings_broken, symbols_broken, references_broken, parents_broken, counts_broken, members_broken, entries_broken}
use Rattle.tables.proofs.PlaceLaws.{rest, rest_on, rest_at, rest_end, holds, alike_from}
use Rattle.tables.proofs.SemanticLaws.{split, part_at, start_zero, start_next, start_mono}

-- what is left of a search at place i is b
module _ (bad : ℕ → Bool) (n i : ℕ) (b : Option ℕ) (left : rest bad n i ≡ b) where
  pub go_on : i < n → bad i ≡ false → rest bad n (i + 1) ≡ b
  go_on h e = sym (rest_on bad n i h e) ∙ left

  pub stop_at : i < n → bad i ≡ true → Some i ≡ b
  stop_at h e = sym (rest_at bad n i h e) ∙ left

  pub ended : n ≤ i → None ≡ b
  ended h = sym (rest_end bad n i h) ∙ left

-- some place is broken
pub any_found : (bad : ℕ → Bool) (places : List ℕ) → list_any bad places ≡ found (find bad places)
any_found bad [] = refl
any_found bad (i ∷ places) = go (bad i) (any_found bad places)
  where
    go : (t : Bool) → list_any bad places ≡ found (find bad places) → t || list_any bad places ≡ found (cond t (Some i) (find bad places))
    go true e = refl
    go false e = e

-- the counts, summed up to a number that no table's length reaches
module _ (functions members : List ℕ) (n sum : ℕ) (last : n ≡ pairs functions) (added : sum ≡ min (share_start functions n) (2 ^ 63)) (short : length members < 2 ^ 63) where
  summed : sum ≡ min (share_start functions (pairs functions)) (2 ^ 63)
  summed = added ∙ ap (λ (k : ℕ). min (share_start functions k) (2 ^ 63)) last

-- a list equals itself, element by element
pub same_refl : (a : List ℕ) → same_list a a ≡ true
same_refl [] = refl
same_refl (x ∷ a) = ap (λ (t : Bool). t && same_list a a) (eq-eqb x x refl) ∙ same_refl a

-- a search that is cut in two
either : (t : Bool) (i : ℕ) (x y z : Option ℕ) → x ≡ or_else y z → cond t (Some i) x ≡ or_else (cond t (Some i) y) z
either true i x y z e = refl
either false i x y z e = e

cut : (bad : ℕ → Bool) (i a b m j : ℕ) → m ≡ a + b → j ≡ i + a → broken_from bad i m ≡ or_else (broken_from bad i a) (broken_from bad j b)
cut bad i zero b m j e g = let z : m ≡ b = omega arith in let y : j ≡ i = omega arith in rw (z, y)
cut bad i (suc a) b m j e g =
    let z : m ≡ suc (a + b) = omega arith in
    rw z (either (bad i) i (broken_from bad (i + 1) (a + b)) (broken_from bad (i + 1) a) (broken_from bad j b) (cut bad (i + 1) a b (a + b) j refl (omega arith)))

pub rest_cut : (bad : ℕ → Bool) (n k i : ℕ) → i ≤ k → k ≤ n → rest bad n i ≡ or_else (rest bad k i) (rest bad n k)
rest_cut bad n k i h g = cut bad i (k - i) (n - k) (n - i) k (omega arith) (omega arith)

-- searches by tests that agree
pub rest_alike : (bad bad' : ℕ → Bool) (n i : ℕ) → ((j : ℕ) → i ≤ j → j < n → bad j ≡ bad' j) → rest bad n i ≡ rest bad' n i
rest_alike bad bad' n i h = alike_from bad bad' i (n - i) (λ j p q. h j p (omega arith))

module _ (functions : List ℕ) (m : ℕ) where
  -- the share that starts not after m, and whose next starts after it, is m's
  own_here : (f : ℕ) → share_start functions f ≤ m → own_start functions f m ≡ share_start functions f
  unfolding own_start
  own_here zero h = sym (start_zero functions)
  own_here (suc f) h = ap (λ (t : Bool). cond t (share_start functions (suc f)) (own_start functions f m)) (le-leb (share_start functions (suc f)) m h)

  own_later : (f k : ℕ) → m < share_start functions (f + 1) → own_start functions (f + k) m ≡ own_start functions f m
  unfolding own_start
  own_later f zero h = let z : f + 0 ≡ f = omega arith in ap (λ (g : ℕ). own_start functions g m) z
  own_later f (suc k) h =
      let z : f + suc k ≡ suc (f + k) = omega arith in
      ap (λ (g : ℕ). own_start functions g m) z
      ∙ ap (λ (t : Bool). cond t (share_start functions (suc (f + k))) (own_start functions (f + k) m))
      (lt-leb (share_start functions (suc (f + k))) m (omega (arith, start_mono functions (f + 1) (suc (f + k)) (omega arith))))
      ∙ own_later f k h

  pub own_at : (f n : ℕ) → f ≤ n → share_start functions f ≤ m → (f < n → m < share_start functions (f + 1)) → own_start functions n m ≡ share_start functions f
  own_at f n h g next = go (split n f)
    where
      go : (n ≤ f) ⊎ (f < n) → own_start functions n m ≡ share_start functions f
      go (inl q) = let z : n ≡ f = omega arith in ap (λ (k : ℕ). own_start functions k m) z ∙ own_here f g
      go (inr q) = let z : n ≡ f + (n - f) = omega arith in ap (λ (k : ℕ). own_start functions k m) z ∙ own_later f (n - f) (next q) ∙ own_here f g

-- one share of the members, as the code walks them: from `start`, where function f's share begins, up to `end`
module _ (symbols functions members : List ℕ) (f start end : ℕ) (within : f ≤ pairs functions) (begins : start ≡ min (share_start functions f) (length members))
    (inside : end ≤ length members) (ends : f < pairs functions → end ≤ share_start functions (f + 1)) where
  share_rest : rest (member_bad symbols members start) end start ≡ rest (own_bad symbols functions members) end start
  share_rest = rest_alike (member_bad symbols members start) (own_bad symbols functions members) end start agree
    where
      agree : (j : ℕ) → start ≤ j → j < end → member_bad symbols members start j ≡ own_bad symbols functions members j
      agree j p q =
          let z : start ≡ share_start functions f = omega arith in
          ap (λ (s : ℕ). member_bad symbols members s j)
          (z ∙ sym (own_at functions j f (pairs functions) within (omega arith) (λ l. let g = ends l in omega arith)))

  module _ (b r : Option ℕ) (order : start ≤ end) (left : rest (own_bad symbols functions members) (length members) start ≡ b)
      (walked : r ≡ rest (member_bad symbols members start) end start) where
    parted : or_else r (rest (own_bad symbols functions members) (length members) end) ≡ b
    parted =
        ap (λ (x : Option ℕ). or_else x (rest (own_bad symbols functions members) (length members) end)) (walked ∙ share_rest)
        ∙ sym (rest_cut (own_bad symbols functions members) (length members) end start order inside) ∙ left

    pub share_on : r ≡ None → rest (own_bad symbols functions members) (length members) end ≡ b
    share_on e = ap (λ (x : Option ℕ). or_else x (rest (own_bad symbols functions members) (length members) end)) (sym e) ∙ parted

    pub share_at : (m : ℕ) → r ≡ Some m → Some m ≡ b
    share_at m e = ap (λ (x : Option ℕ). or_else x (rest (own_bad symbols functions members) (length members) end)) (sym e) ∙ parted

    pub share_end : end ≡ length members → r ≡ b
    share_end e = walked ∙ share_rest ∙ ap (λ (n : ℕ). rest (own_bad symbols functions members) n start) e ∙ left

-- what a search that found nothing says of each place
pub nowhere_not : (i : ℕ) → Some i ≡ None → ⊥
nowhere_not i e = true≢false (ap found e)

or_else_l : (x y : Option ℕ) → or_else x y ≡ None → x ≡ None
or_else_l None y e = refl
or_else_l (Some i) y e = e

or_else_r : (x y : Option ℕ) → or_else x y ≡ None → y ≡ None
or_else_r None y e = e
or_else_r (Some i) y e = absurd (nowhere_not i e)

not_found : (x : Option ℕ) → found x ≡ false → x ≡ None
not_found None e = refl
not_found (Some i) e = absurd (true≢false e)

pub or_l : (t u : Bool) → t || u ≡ false → t ≡ false
or_l true u e = e
or_l false u e = refl

pub or_r : (t u : Bool) → t || u ≡ false → u ≡ false
or_r true u e = absurd (true≢false e)
or_r false u e = e

pub rest_holds : (bad : ℕ → Bool) (n i k : ℕ) → rest bad n i ≡ None → i ≤ k → k < n → bad k ≡ false
rest_holds bad n i k e h g = go (bad k) refl
  where
    after : rest bad n k ≡ None
    after = or_else_r (rest bad k i) (rest bad n k) (sym (rest_cut bad n k i h (omega arith)) ∙ e)

    go : (t : Bool) → bad k ≡ t → bad k ≡ false
    go true q = absurd (nowhere_not k (sym (rest_at bad n k g q) ∙ after))
    go false q = q

-- tables 1 to 6 are right: what row 3 gives to the layers above
pub record Right (strings bytes symbols references functions members : List ℕ) : Type 0 where
  pub string_inside : (s : ℕ) → s < pairs strings → string_offset strings s + string_length strings s ≤ length bytes
  pub strings_differ : (i j : ℕ) → i < j → j < pairs strings → text_of strings bytes i ≡ text_of strings bytes j → ⊥
  pub kind_known : (s : ℕ) → s < pairs symbols → symbol_kind symbols s ≤ 1
  pub name_inside : (s : ℕ) → s < pairs symbols → symbol_name symbols s < pairs strings
  pub reference_inside : (r : ℕ) → r < length references → symbol_of references r < pairs symbols
  pub parent_known : (f : ℕ) → f < pairs functions → (parent_of functions f ≡ absent) ⊎ (parent_of functions f < pairs functions)
  pub counts_sum : share_start functions (pairs functions) ≡ length members
  pub member_inside : (m : ℕ) → m < length members → get_or members m 0 < pairs symbols
  pub members_differ : (f i j : ℕ) → f < pairs functions → i < j → j < member_count functions f
      → get_or (share functions members f) i 0 ≡ get_or (share functions members f) j 0 → ⊥

module _ (strings bytes : List ℕ) (e : strings_broken strings bytes ≡ None) where
  string_right : (s : ℕ) → s < pairs strings → string_bad strings bytes s ≡ false
  string_right s h = holds (string_bad strings bytes) (pairs strings) e s h

  inside : (s : ℕ) → s < pairs strings → string_offset strings s + string_length strings s ≤ length bytes
  unfolding string_bad
  inside s h = ltb-false (length bytes) (string_offset strings s + string_length strings s) (or_l (past_bytes strings bytes s) (equal_earlier strings bytes s) (string_right s h))

  differ : (i j : ℕ) → i < j → j < pairs strings → text_of strings bytes i ≡ text_of strings bytes j → ⊥
  unfolding string_bad equal_earlier same_string
  differ i j h g q = true≢false (sym (same_refl (text_of strings bytes j)) ∙ ap (λ (x : List ℕ). same_list x (text_of strings bytes j)) (sym q) ∙ apart)
    where
      apart : same_list (text_of strings bytes i) (text_of strings bytes j) ≡ false
      apart =
          holds (λ k. same_string strings bytes k j) j
          (not_found (broken (λ k. same_string strings bytes k j) j)
          (or_r (past_bytes strings bytes j) (equal_earlier strings bytes j) (string_right j g)))
          i
          h

module _ (strings symbols : List ℕ) (e : symbols_broken strings symbols ≡ None) where
  symbol_right : (s : ℕ) → s < pairs symbols → symbol_bad strings symbols s ≡ false
  symbol_right s h = holds (symbol_bad strings symbols) (pairs symbols) e s h

  kind : (s : ℕ) → s < pairs symbols → symbol_kind symbols s ≤ 1
  unfolding symbol_bad
  kind s h = ltb-false 1 (symbol_kind symbols s) (or_l (ltb 1 (symbol_kind symbols s)) (leb (pairs strings) (symbol_name symbols s)) (symbol_right s h))

  name : (s : ℕ) → s < pairs symbols → symbol_name symbols s < pairs strings
  unfolding symbol_bad
  name s h = leb-false (pairs strings) (symbol_name symbols s) (or_r (ltb 1 (symbol_kind symbols s)) (leb (pairs strings) (symbol_name symbols s)) (symbol_right s h))

reference : (symbols references : List ℕ) → references_broken symbols references ≡ None → (r : ℕ) → r < length references → symbol_of references r < pairs symbols
unfolding reference_bad
reference symbols references e r h = leb-false (pairs symbols) (symbol_of references r) (holds (reference_bad symbols references) (length references) e r h)

parent : (functions : List ℕ) → parents_broken functions ≡ None → (f : ℕ) → f < pairs functions
    → (parent_of functions f ≡ absent) ⊎ (parent_of functions f < pairs functions)
unfolding parent_bad
parent functions e f h = go (eqb (parent_of functions f) absent) refl (holds (parent_bad functions) (pairs functions) e f h)
  where
    go : (t : Bool) → eqb (parent_of functions f) absent ≡ t → not (t || ltb (parent_of functions f) (pairs functions)) ≡ false
        → (parent_of functions f ≡ absent) ⊎ (parent_of functions f < pairs functions)
    go true q n = inl (eqb-true (parent_of functions f) absent q)
    go false q n = inr (ltb-true (parent_of functions f) (pairs functions) (not-false (ltb (parent_of functions f) (pairs functions)) n))

counts : (functions members : List ℕ) → counts_broken functions members ≡ None → share_start functions (pairs functions) ≡ length members
counts functions members e = go (eqb (share_start functions (pairs functions)) (length members)) refl e
  where
    go : (t : Bool) → eqb (share_start functions (pairs functions)) (length members) ≡ t → cond t None (Some (pairs functions)) ≡ None
        → share_start functions (pairs functions) ≡ length members
    go true q n = eqb-true (share_start functions (pairs functions)) (length members) q
    go false q n = absurd (nowhere_not (pairs functions) n)

-- where function f's share lies; its start is what `share_start` answers
module _ (functions members : List ℕ) (sum : share_start functions (pairs functions) ≡ length members) (f : ℕ) (h : f < pairs functions) where
  pub start_exact : length members < 2 ^ 63 → min (share_start functions f) (2 ^ 63) ≡ share_start functions f
  start_exact short = omega (arith, start_mono functions f (pairs functions) (omega arith))

  pub share_inside : share_start functions f + member_count functions f ≤ length members
  share_inside = omega (arith, start_next functions f, start_mono functions (f + 1) (pairs functions) (omega arith))

  pub share_length : length (share functions members f) ≡ member_count functions f
  share_length = simp (length-take, length-drop) (omega (arith, share_inside))

module _ (symbols functions members : List ℕ) (e : members_broken symbols functions members ≡ None) where
  member_right : (m : ℕ) → m < length members → own_bad symbols functions members m ≡ false
  member_right m h = holds (own_bad symbols functions members) (length members) e m h

  member : (m : ℕ) → m < length members → get_or members m 0 < pairs symbols
  unfolding member_bad
  member m h =
      leb-false (pairs symbols) (get_or members m 0)
      (or_l (leb (pairs symbols) (get_or members m 0)) (twice members (own_start functions (pairs functions) m) m) (member_right m h))

  -- an earlier place of the same share has another symbol
  apart_at : (f j k : ℕ) → f < pairs functions → share_start functions f ≤ j → j < k → k < share_start functions (f + 1) → k < length members
      → eqb (get_or members j 0) (get_or members k 0) ≡ false
  unfolding member_bad twice
  apart_at f j k h p q r l =
      rest_holds (λ x. eqb (get_or members x 0) (get_or members k 0)) k (share_start functions f) j
      (not_found (broken_from (λ x. eqb (get_or members x 0) (get_or members k 0)) (share_start functions f) (k - share_start functions f)) once)
      p
      q
    where
      own : own_start functions (pairs functions) k ≡ share_start functions f
      own = own_at functions k f (pairs functions) (omega arith) (omega arith) (λ z. r)

      once : twice members (share_start functions f) k ≡ false
      once =
          subst (λ (s : ℕ). twice members s k ≡ false) own
          (or_r (leb (pairs symbols) (get_or members k 0)) (twice members (own_start functions (pairs functions) k) k) (member_right k l))

  different : share_start functions (pairs functions) ≡ length members → (f i j : ℕ) → f < pairs functions → i < j → j < member_count functions f
      → get_or (share functions members f) i 0 ≡ get_or (share functions members f) j 0 → ⊥
  different sum f i j h p q same =
      let s = share_start functions f in
      eqb-false (get_or members (s + i) 0) (get_or members (s + j) 0)
      (apart_at f (s + i) (s + j) h (omega arith) (omega arith) (omega (arith, start_next functions f)) (omega (arith, share_inside functions members sum f h)))
      (part_at members s (member_count functions f) i (omega arith) ∙ same ∙ sym (part_at members s (member_count functions f) j q))

pub right : (strings bytes symbols references functions members : List ℕ) → entries_broken strings bytes symbols references functions members ≡ None
    → Right strings bytes symbols references functions members
unfolding entries_broken
right strings bytes symbols references functions members e =
    let a = strings_broken strings bytes in
    let b = symbols_broken strings symbols in
    let c = references_broken symbols references in
    let d = parents_broken functions in
    let g = counts_broken functions members in
    let h = members_broken symbols functions members in
    let e2 = or_else_r a (or_else b (or_else c (or_else d (or_else g h)))) e in
    let e3 = or_else_r b (or_else c (or_else d (or_else g h))) e2 in
    let e4 = or_else_r c (or_else d (or_else g h)) e3 in
    let e5 = or_else_r d (or_else g h) e4 in
    let strings-well = or_else_l a (or_else b (or_else c (or_else d (or_else g h)))) e in
    let symbols-well = or_else_l b (or_else c (or_else d (or_else g h))) e2 in
    let sum = counts functions members (or_else_l g h e5) in
    record {
      string_inside = inside strings bytes strings-well;
      strings_differ = differ strings bytes strings-well;
      kind_known = kind strings symbols symbols-well;
      name_inside = name strings symbols symbols-well;
      reference_inside = reference symbols references (or_else_l c (or_else d (or_else g h)) e3);
      parent_known = parent functions (or_else_l d (or_else g h) e4);
      counts_sum = sum;
      member_inside = member symbols functions members (or_else_r g h e5);
      members_differ = different symbols functions members (or_else_r g h e5) sum;
    }
