-- The last place of a key, as a search sees it, and the chains of strings by hash. Assumes nothing.
use mathlib.Core.Path.{◌≡◌, refl, sym, ap, subst, ◌∙◌}
use mathlib.Core.Bool.{Bool, true, false, cond, ◌&&◌, true≢false}
use mathlib.Core.List.{List, [], ◌∷◌, map}
use mathlib.Core.Logic.{◌⊎◌, inl, inr}
use Prim.Native.Nat.{ℕ, zero, suc, ◌+◌, ◌≤◌, ◌<◌}
use native.Mathlib.Numerals.{add-one}
use native.Mathlib.Omega.{arith}
use native.Mathlib.Decide.{ℕ_discrete}
use lib.ListN.{length, get_or, set, replicate, length-set, length-replicate, get_or-replicate, get_or-map}
use lib.Seq.{get_or-set_same, get_or-set_other, set_out}
use lib.Dec.{ltb, eqb}
use borrow.Author.Tests.{le-ltb, lt-ltb, eq-eqb, ne_eqb, eqb-true, eqb-false}
use Rattle.std.specs.Prelude.{Option, None, Some}
use Rattle.tables.specs.Semantic.{text_of}
use Rattle.tables.specs.Entries.{or_else, found, same_list, same_string, equal_earlier, twice}
use Rattle.tables.specs.declared.strings.Chains.{Chains}
use Rattle.tables.specs.declared.strings.Link.{Link}
use Rattle.tables.specs.Seen.{last, hash, hash_at, bucket, bucket_at, hashes, nexts, Chained, symbol_at, Stamped}
use Rattle.tables.proofs.PlaceLaws.{rest, rest_on, rest_at, rest_end, rest_start}
use Rattle.tables.proofs.EntriesLaws.{rest_cut}
use Rattle.tables.proofs.SemanticLaws.{split}

-- a search with one place more at its end
module _ (bad : ℕ → Bool) (i n : ℕ) (h : i ≤ n) where
  parted : rest bad (suc n) i ≡ or_else (rest bad n i) (rest bad (suc n) n)
  parted = rest_cut bad (suc n) n i h (omega arith)

  found_last : (x : Option ℕ) → found (or_else x (Some n)) ≡ true
  found_last None = refl
  found_last (Some j) = refl

  same_left : (x : Option ℕ) → or_else x None ≡ x
  same_left None = refl
  same_left (Some j) = refl

  any_hit : bad n ≡ true → found (rest bad (suc n) i) ≡ true
  any_hit e = ap found (parted ∙ ap (or_else (rest bad n i)) (rest_at bad (suc n) n (omega arith) e)) ∙ found_last (rest bad n i)

  any_miss : bad n ≡ false → found (rest bad (suc n) i) ≡ found (rest bad n i)
  any_miss e =
      ap found (parted ∙ ap (or_else (rest bad n i)) (rest_on bad (suc n) n (omega arith) e ∙ rest_end bad (suc n) (n + 1) (omega arith)) ∙ same_left (rest bad n i))

module _ (key : ℕ → ℕ) (b : ℕ) where
  pub last_within : (n : ℕ) → last key b n ≤ n
  unfolding last
  last_within zero = omega arith
  last_within (suc n) = go (eqb (key n) b) (last_within n)
    where
      go : (t : Bool) → last key b n ≤ n → cond t (suc n) (last key b n) ≤ suc n
      go true h = omega arith
      go false h = omega arith

  pub last_key : (n e : ℕ) → last key b n ≡ suc e → key e ≡ b
  unfolding last
  last_key zero e q = absurd (omega arith)
  last_key (suc n) e q = go (eqb (key n) b) refl (λ q. last_key n e q) q
    where
      go : (t : Bool) → eqb (key n) b ≡ t → (last key b n ≡ suc e → key e ≡ b) → cond t (suc n) (last key b n) ≡ suc e → key e ≡ b
      go true p ih q = let z : n ≡ e = omega arith in subst (λ x. key x ≡ b) z (eqb-true (key n) b p)
      go false p ih q = ih q

  -- a search for places of key b may begin after the last of them
  pub search_last : (bad : ℕ → Bool) (n : ℕ) → ((e : ℕ) → bad e ≡ true → key e ≡ b) → found (rest bad (last key b n) 0) ≡ found (rest bad n 0)
  unfolding last
  search_last bad zero h = refl
  search_last bad (suc n) h = go (eqb (key n) b) refl (search_last bad n h)
    where
      other : (t : Bool) → bad n ≡ t → eqb (key n) b ≡ false → bad n ≡ false
      other true q p = absurd (eqb-false (key n) b p (h n q))
      other false q p = q

      go : (t : Bool) → eqb (key n) b ≡ t → found (rest bad (last key b n) 0) ≡ found (rest bad n 0)
          → found (rest bad (cond t (suc n) (last key b n)) 0) ≡ found (rest bad (suc n) 0)
      go true p ih = refl
      go false p ih = ih ∙ sym (any_miss bad 0 n (omega arith) (other (bad n) refl p))

  -- a place of key b from i on is there where the last one is not before i
  found_since : (i n : ℕ) → found (rest (λ e. eqb (key e) b) n i) ≡ ltb i (last key b n)
  unfolding last
  found_since i zero = ap found (rest_end (λ e. eqb (key e) b) 0 i (omega arith)) ∙ sym (le-ltb i 0 (omega arith))
  found_since i (suc n) = go (split i n) (eqb (key n) b) refl (found_since i n)
    where
      none : (t : Bool) → n < i → ltb i (cond t (suc n) (last key b n)) ≡ false
      none true h = le-ltb i (suc n) (omega arith)
      none false h = le-ltb i (last key b n) (omega (arith, last_within n))

      go : (i ≤ n) ⊎ (n < i) → (t : Bool) → eqb (key n) b ≡ t → found (rest (λ e. eqb (key e) b) n i) ≡ ltb i (last key b n)
          → found (rest (λ e. eqb (key e) b) (suc n) i) ≡ ltb i (cond t (suc n) (last key b n))
      go (inl h) true p ih = any_hit (λ e. eqb (key e) b) i n h p ∙ sym (lt-ltb i (suc n) (omega arith))
      go (inl h) false p ih = any_miss (λ e. eqb (key e) b) i n h p ∙ ih
      go (inr h) t p ih = ap found (rest_end (λ e. eqb (key e) b) (suc n) i (omega arith)) ∙ sym (none t h)

-- place n noted as the last of its key x
last_put : (key : ℕ → ℕ) (a : List ℕ) (x n y : ℕ) → x ≡ key n → y < length a → get_or a y 0 ≡ last key y n → get_or (set a x (n + 1)) y 0 ≡ last key y (n + 1)
unfolding last
last_put key a x n y e h f = rw (add-one n) (go (ℕ_discrete y x))
  where
    go : Dec (y ≡ x) → get_or (set a x (suc n)) y 0 ≡ cond (eqb (key n) y) (suc n) (last key y n)
    go (yes z) = rw (← z, eq-eqb (key n) y (sym (z ∙ e))) (get_or-set_same a y (suc n) 0 h)
    go (no d) = get_or-set_other a x y (suc n) 0 d ∙ f ∙ rw (ne_eqb (key n) y (λ z. d (sym (e ∙ z))))

-- a symbol stands twice in a share where its last place is not before the share
pub twice_since : (members : List ℕ) (start m : ℕ) → twice members start m ≡ ltb start (last (symbol_at members) (symbol_at members m) m)
unfolding twice
twice_since members start m = found_since (symbol_at members) (symbol_at members m) start m

pub stamped_none : (key : ℕ → ℕ) → Stamped key (replicate 1024 0) 0
unfolding last
stamped_none key = record { long = length-replicate {A = ℕ} 1024 0; each = λ x h. get_or-replicate 1024 x 0 0 h }

-- one place more stamped; a key past the stamps has none
module _ (key : ℕ → ℕ) (seen : List ℕ) (x n : ℕ) (e : x ≡ key n) (before : Stamped key seen n) where
  pub stamped_more : Stamped key (set seen x (n + 1)) (n + 1)
  stamped_more = record {
    long = length-set seen x (n + 1) ∙ before.long;
    each = λ y h. last_put key seen x n y e (omega (arith, before.long)) (before.each y h);
  }

  pub stamped_past : 1024 ≤ x → Stamped key seen (n + 1)
  stamped_past h = subst (λ a. Stamped key a (n + 1)) (set_out seen x (n + 1) (omega (arith, before.long))) stamped_more

-- strings that are equal have equal bytes, so equal hashes
and_both : (t u : Bool) → t && u ≡ true → (t ≡ true) × (u ≡ true)
and_both true u e = (refl, e)
and_both false u e = absurd (true≢false (sym e))

same_list_lem : (a b : List ℕ) → same_list a b ≡ true → a ≡ b
same_list_lem [] [] e = refl
same_list_lem [] (y ∷ b) e = absurd (true≢false (sym e))
same_list_lem (x ∷ a) [] e = absurd (true≢false (sym e))
same_list_lem (x ∷ a) (y ∷ b) e =
    let h = and_both (eqb x y) (same_list a b) e in
    let p : x ≡ y = eqb-true x y h.0 in
    let q : a ≡ b = same_list_lem a b h.1 in
    cc

pub same_hash : (strings bytes : List ℕ) (e s : ℕ) → same_string strings bytes e s ≡ true → hash_at strings bytes e ≡ hash_at strings bytes s
unfolding same_string hash_at
same_hash strings bytes e s q = ap (hash 0) (same_list_lem (text_of strings bytes e) (text_of strings bytes s) q)

pub other_hash : (strings bytes : List ℕ) (e s : ℕ) → (hash_at strings bytes e ≡ hash_at strings bytes s → ⊥) → false ≡ same_string strings bytes e s
other_hash strings bytes e s d = go (same_string strings bytes e s) refl
  where
    go : (t : Bool) → same_string strings bytes e s ≡ t → false ≡ same_string strings bytes e s
    go true q = absurd (d (same_hash strings bytes e s q))
    go false q = sym q

-- a link of no string; the links of an array are one by one those of its two lists
abbrev blank : Link
blank = record { hash = 0; next = 0 }

module _ (links : List Link) (e : ℕ) where
  hashes_at : (get_or links e blank).hash ≡ get_or (hashes links) e 0
  hashes_at = sym (get_or-map (λ l. l.hash) links e blank)

  nexts_at : (get_or links e blank).next ≡ get_or (nexts links) e 0
  nexts_at = sym (get_or-map (λ l. l.next) links e blank)

-- the strings before place c of a chain are all that is left to compare with string s
module _ (strings bytes : List ℕ) (s : ℕ) where
  abbrev key : ℕ → ℕ
  key = bucket_at (hash_at strings bytes)

  abbrev equals : ℕ → Bool
  equals e = same_string strings bytes e s

  pub record Walk (c : ℕ) : Type 0 where
    pub within : c ≤ s
    pub bucketed : (e : ℕ) → c ≡ suc e → key e ≡ key s
    pub left : found (rest equals c 0) ≡ equal_earlier strings bytes s

  -- from the last string of the bucket below n, where no string from n on equals s
  along : (n c : ℕ) → n ≤ s → found (rest equals n 0) ≡ equal_earlier strings bytes s → c ≡ last key (key s) n → Walk c
  along n c h f q = record {
    within = omega (arith, last_within key (key s) n);
    bucketed = λ e p. last_key key (key s) n e (sym q ∙ p);
    left = ap (λ x. found (rest equals x 0)) q ∙ search_last key (key s) equals n (λ e p. ap bucket (same_hash strings bytes e s p)) ∙ f;
  }

  module _ (chains : Chains) (h : ℕ) (own : h ≡ hash_at strings bytes s) (chained : Chained (hash_at strings bytes) chains s) where
    pub walk_start : (b c : ℕ) → b ≡ bucket h → c ≡ get_or chains.heads b 0 → Walk c
    unfolding equal_earlier
    walk_start b c q p =
        along s c (omega arith) (ap found (rest_start equals s)) (p ∙ chained.newest b (omega arith) ∙ ap (λ x. last key x s) (q ∙ ap bucket own))

    module _ (c e : ℕ) (w : Walk c) (p : c ≡ suc e) where
      before : e < s
      before = omega (arith, w.within)

      older : (get_or chains.links e blank).next ≡ last key (key e) e
      older = nexts_at chains.links e ∙ chained.older e before

      pub walk_less : (d : ℕ) → d ≡ (get_or chains.links e blank).next → d < c
      walk_less d q = omega (arith, older, last_within key (key e) e)

      module _ (t : Bool) (told : (get_or chains.links e blank).hash ≡ hash_at strings bytes e → t ≡ equals e) where
        right : t ≡ equals e
        right = told (hashes_at chains.links e ∙ chained.hashed e before)

        pub walk_on : t ≡ false → (d : ℕ) → d ≡ (get_or chains.links e blank).next → Walk d
        walk_on f d q =
            along e d (omega (arith, before)) (sym (ap (λ x. found (rest equals x 0)) p ∙ any_miss equals 0 e (omega arith) (sym right ∙ f)) ∙ w.left)
            (q ∙ older ∙ ap (λ x. last key x e) (w.bucketed e p))

        pub walk_hit : t ≡ true → true ≡ equal_earlier strings bytes s
        walk_hit f = sym (ap (λ x. found (rest equals x 0)) p ∙ any_hit equals 0 e (omega arith) (sym right ∙ f)) ∙ w.left

  pub walk_end : (c : ℕ) → Walk c → c ≡ 0 → false ≡ equal_earlier strings bytes s
  walk_end c w e = sym (ap found (rest_end equals c 0 (omega arith))) ∙ w.left

-- one string more in the chains
module _ (key : ℕ → ℕ) where
  pub chained_none : Chained key (record { links = replicate 1024 blank; heads = replicate 1024 0 }) 0
  unfolding last
  chained_none = record {
    links_long = length-replicate {A = Link} 1024 blank;
    heads_long = length-replicate {A = ℕ} 1024 0;
    hashed = λ e h. absurd (omega arith);
    newest = λ b h. get_or-replicate 1024 b 0 0 (omega arith);
    older = λ e h. absurd (omega arith);
  }

  module _ (chains : Chains) (s h b : ℕ) (few : s < 1024) (e : h ≡ key s) (q : b ≡ bucket h) (before : Chained key chains s) where
    abbrev links : List Link
    links = chains.links

    abbrev heads : List ℕ
    heads = chains.heads

    abbrev link : Link
    link = record { hash = h; next = get_or heads b 0 }

    own : b ≡ bucket_at key s
    own = q ∙ ap bucket e

    -- a field of the link that is put
    put : (field : Link → ℕ) (f : ℕ → ℕ) → field link ≡ f s → ((x : ℕ) → x < s → get_or (map field links) x (field blank) ≡ f x)
        → (x : ℕ) → x < s + 1 → get_or (map field (set links s link)) x (field blank) ≡ f x
    put field f p g x l = get_or-map field (set links s link) x blank ∙ go (ℕ_discrete x s)
      where
        go : Dec (x ≡ s) → field (get_or (set links s link) x blank) ≡ f x
        go (yes z) = rw z (ap field (get_or-set_same links s link blank (omega (arith, before.links_long))) ∙ p)
        go (no d) = ap field (get_or-set_other links s x link blank d) ∙ sym (get_or-map field links x blank) ∙ g x (omega arith)

    pub chained_more : Chained key (record { links = set links s link; heads = set heads b (s + 1) }) (s + 1)
    chained_more = record {
      links_long = length-set links s link ∙ before.links_long;
      heads_long = length-set heads b (s + 1) ∙ before.heads_long;
      hashed = put (λ l. l.hash) key e before.hashed;
      newest = λ x l. last_put (bucket_at key) heads b s x own (omega (arith, before.heads_long)) (before.newest x l);
      older =
          put (λ l. l.next) (λ x. last (bucket_at key) (bucket_at key x) x) (before.newest b (omega arith) ∙ ap (λ x. last (bucket_at key) x s) own) before.older;
    }
