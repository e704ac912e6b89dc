-- Whatever is read fits: with `round_trip`, the tables that fit are those that some text is read as.
use mathlib.Core.Path.{◌≡◌, refl, sym, ap, subst, ◌∙◌}
use mathlib.Core.Bool.{Bool, true, false, cond, ◌&&◌, ◌||◌}
use mathlib.Core.List.{List, [], ◌∷◌, ◌++◌}
use Rattle.std.proofs.Common.{Option, Some, None}
use Prim.Native.Nat.{ℕ, zero, suc, ◌+◌, ◌*◌, ◌/◌, ◌≤◌, ◌<◌}
use native.Mathlib.Nat.{suc-mul, mul-le-mul_right, mul-div_cancel}
use native.Mathlib.Omega.{arith}
use lib.ListN.{length, length-append}
use lib.Dec.{leb, ltb}
use borrow.Author.Tests.{leb-true, leb-false, ltb-false}
use Rattle.std.proofs.lemmas.Bool.Decides.{nat_tests}
use Rattle.listing.specs.Lines.{lines_of}
use Rattle.listing.specs.Read.{all_digits, some_bytes, value_of, decimal_of, nibble_of, byte_of, pair_of, put, when_over, values_from, values_of}
use Rattle.listing.specs.Read.{pairs_of, is_dash, string_of}
use Rattle.listing.specs.Text.{Tables, Rooms, Outcome, tables, Block, got, stop, before, onward_text, before_text, after, ended}
use Rattle.listing.specs.Text.{rows_of, table_of, strings_of, string_table, read_of}
use Rattle.listing.specs.Printed.{Below, Running, Entries, Fits, tables_text}
use Rattle.listing.proofs.RoundTrip.{round_trip}
use Rattle.listing.proofs.PrintedLaws.{second_of}
use Rattle.listing.proofs.ReadingLaws.{then1, then3, then4, then5, then6, then7}

below_append : (bound : ℕ) (xs ys : List ℕ) → Below bound xs → Below bound ys → Below bound (xs ++ ys)
below_append bound [] ys p q = q
below_append bound (x ∷ xs) ys p q = (p.0, below_append bound xs ys p.1 q)

-- a number that is read has 32 bits
decimal_below : (l : List ℕ) (v : ℕ) → decimal_of l ≡ Some v → v < 4294967296
unfolding decimal_of
decimal_below l v e = picked (some_bytes l && (all_digits l && leb (value_of l) 4294967295)) refl e
  where
    picked : (c : Bool) → some_bytes l && (all_digits l && leb (value_of l) 4294967295) ≡ c → cond c (Some (value_of l)) None ≡ Some v → v < 4294967296
    picked true p q =
        let h = leb-true (value_of l) 4294967295 (second_of (all_digits l) _ (second_of (some_bytes l) _ p)) in
        let s : value_of l ≡ v = cc in
        omega arith
    picked false p q = cc

-- a value and those that follow
record Put (n : Option ℕ) (o : Option (List ℕ)) (vs : List ℕ) : Type 0 where
  pub value : ℕ
  pub others : List ℕ
  pub number : n ≡ Some value
  pub follow : o ≡ Some others
  pub all : vs ≡ value ∷ others

put_some : (n : Option ℕ) (o : Option (List ℕ)) (vs : List ℕ) → put n o ≡ Some vs → Put n o vs
put_some None o vs e = cc
put_some (Some v) None vs e = cc
put_some (Some v) (Some ws) vs e = record { value = v; others = ws; number = refl; follow = refl; all = cc }

over_some : (bs vs : List ℕ) → when_over bs ≡ Some vs → vs ≡ []
over_some [] vs e = cc
over_some (b ∷ bs) vs e = cc

-- values of a line: so many, each of 32 bits
values_fit : (n k : ℕ) (bs vs : List ℕ) → values_from k n bs ≡ Some vs → (length vs ≡ n) × Below 4294967296 vs
values_fit zero k bs vs e = subst (λ (xs : List ℕ). (length xs ≡ 0) × Below 4294967296 xs) (sym (over_some bs vs e)) (refl, tt)
values_fit (suc n) k bs vs e =
    let p = put_some _ _ vs e in
    let q = values_fit n (k + 1) _ p.others p.follow in
    subst (λ (xs : List ℕ). (length xs ≡ suc n) × Below 4294967296 xs) (sym p.all)
    (ap suc q.0, (decimal_below _ p.value p.number, q.1))

line_fits : (count : ℕ) (l vs : List ℕ) → values_of count l ≡ Some vs → (length vs ≡ count) × Below 4294967296 vs
unfolding values_of
line_fits count l vs e = values_fit count 0 l vs e

neither : (s t : Bool) → s || t ≡ false → (s ≡ false) × (t ≡ false)
neither false t e = (refl, e)
neither true false e = (e, refl)
neither true true e = (e, e)

-- lines that were read on were not stopped
going : {A : Type 0} (c : Bool) (n : ℕ) (b : Block A) (x : A) (ls : List (List ℕ)) (m : ℕ) → cond c (stop n) b ≡ got x ls m
    → (c ≡ false) × (b ≡ got x ls m)
going true n b x ls m e = cc
going false n b x ls m e = (refl, e)

record Onward (o : Option (List ℕ)) (b : Block (List ℕ)) (ws : List ℕ) (ls : List (List ℕ)) (m : ℕ) : Type 0 where
  pub values : List ℕ
  pub others : List ℕ
  pub line : o ≡ Some values
  pub follow : b ≡ got others ls m
  pub all : ws ≡ values ++ others

before_got : (n : ℕ) (o : Option (List ℕ)) (b : Block (List ℕ)) (ws : List ℕ) (ls : List (List ℕ)) (m : ℕ) → before n o b ≡ got ws ls m → Onward o b ws ls m
before_got n None b ws ls m e = cc
before_got n (Some vs) (stop i) ws ls m e = cc
before_got n (Some vs) (got us ks i) ws ls m e =
    let p : vs ++ us ≡ ws = cc in
    let q : ks ≡ ls = cc in
    let s : i ≡ m = cc in
    record { values = vs; others = us; line = refl; follow = ap (λ (x : List (List ℕ)). got us x i) q ∙ ap (λ (x : ℕ). got us ls x) s; all = sym p }

-- what a table's lines give: whole entries, after so many before them
record Rowed (count room before : ℕ) (ws : List ℕ) : Type 0 where
  pub entries : ℕ
  pub size : length ws ≡ entries * count
  pub few : before + entries ≤ 140
  pub lent : before * count + length ws ≤ room
  pub words : Below 4294967296 ws

module _ (count room : ℕ) (last : Bool) (some-values : 0 < count) where
  no_rows : (j : ℕ) (ws : List ℕ) → j ≤ 140 → j * count ≤ room → ws ≡ [] → Rowed count room j ws
  no_rows j ws h k e =
      subst (λ (xs : List ℕ). Rowed count room j xs) (sym e)
      (record { entries = 0; size = omega arith; few = omega arith; lent = omega arith; words = tt })

  more_rows : (j : ℕ) (vs us ws : List ℕ) → length vs ≡ count → Below 4294967296 vs → Rowed count room (suc j) us → ws ≡ vs ++ us → Rowed count room j ws
  more_rows j vs us ws h p r e =
      subst (λ (xs : List ℕ). Rowed count room j xs) (sym e)
      (record {
        entries = suc r.entries;
        size = omega (arith, length-append vs us, r.size, suc-mul r.entries count);
        few = omega (arith, r.few);
        lent = omega (arith, length-append vs us, r.lent, suc-mul j count);
        words = below_append 4294967296 vs us p r.words;
      })

  ended_rows : (t : Bool) (n : ℕ) (ws : List ℕ) (ls : List (List ℕ)) (m : ℕ) → cond t (got [] [] n) (stop n) ≡ got ws ls m → ws ≡ []
  ended_rows true n ws ls m e = cc
  ended_rows false n ws ls m e = cc

  rows_fit : (k : List (List ℕ)) (n j : ℕ) (ws : List ℕ) (ls : List (List ℕ)) (m : ℕ) → j ≤ 140 → j * count ≤ room
      → rows_of count (140 * count) room last n (j * count) k ≡ got ws ls m → Rowed count room j ws
  rows_fit [] n j ws ls m h r e = no_rows j ws h r (ended_rows last n ws ls m e)
  rows_fit ([] ∷ k) n j ws ls m h r e = no_rows j ws h r (let p : [] ≡ ws = cc in sym p)
  rows_fit ((b ∷ bs) ∷ k) n j ws ls m h r e =
      let p = going _ n _ ws ls m e in
      let q = neither (leb (140 * count) (j * count)) (ltb room (j * count + count)) p.0 in
      let o = before_got n (values_of count (b ∷ bs)) _ ws ls m p.1 in
      let f = line_fits count (b ∷ bs) o.values o.line in
      let s = leb-false (140 * count) (j * count) q.0 in
      let l = ltb-false room (j * count + count) q.1 in
      let u = suc-mul j count in
      more_rows j o.values o.others ws f.0 f.1
      (rows_fit k (n + 1) (suc j) o.others ls m (below_most j s) (omega arith)
      (ap (λ (i : ℕ). rows_of count (140 * count) room last (n + 1) i k) u ∙ o.follow)) o.all
    where
      below_most : (j : ℕ) → j * count < 140 * count → suc j ≤ 140
      below_most j s = picked (leb 140 j) refl
        where
          picked : (t : Bool) → leb 140 j ≡ t → suc j ≤ 140
          picked true e = let g = mul-le-mul_right count (leb-true 140 j e) in absurd (omega arith)
          picked false e = omega (arith, leb-false 140 j e)

  table_fits : (k : List (List ℕ)) (n most : ℕ) (ws : List ℕ) (ls : List (List ℕ)) (m : ℕ) → 140 * count ≡ most
      → table_of count most room last k n ≡ got ws ls m → Entries count most room ws
  table_fits [] n most ws ls m z e = cc
  table_fits (l ∷ k) n most ws ls m z e =
      let none_before : 0 * count ≡ 0 = omega arith in
      let r = rows_fit k (n + 1) 0 ws ls m (omega arith) (omega arith)
      (ap (λ (i : ℕ). rows_of count (140 * count) room last (n + 1) i k) none_before ∙ ap (λ (i : ℕ). rows_of count i room last (n + 1) 0 k) z ∙ e) in
      record {
        entries = ap (λ (i : ℕ). i / count * count) r.size ∙ ap (λ (i : ℕ). i * count) (mul-div_cancel r.entries some-values) ∙ sym r.size;
        words = r.words;
        limit = omega (arith, r.size, mul-le-mul_right count r.few);
        lent = omega (arith, r.lent);
      }

-- a hexadecimal digit that is read is one of 16
nibble_below : (b d : ℕ) → nibble_of b ≡ Some d → d < 16
unfolding nibble_of
nibble_below b d e = grind (arith, nat_tests)

byte_below : (h l : Option ℕ) (v : ℕ) → ((d : ℕ) → h ≡ Some d → d < 16) → ((d : ℕ) → l ≡ Some d → d < 16) → byte_of h l ≡ Some v → v < 256
byte_below None l v p q e = cc
byte_below (Some h) None v p q e = cc
byte_below (Some h) (Some l) v p q e =
    let a = p h refl in
    let b = q l refl in
    let s : h * 16 + l ≡ v = cc in
    omega arith

-- two digits that are read are a byte
pair_below : (h l v : ℕ) → pair_of h l ≡ Some v → v < 256
unfolding pair_of
pair_below h l v e = byte_below (nibble_of h) (nibble_of l) v (nibble_below h) (nibble_below l) e

put_below : (n : Option ℕ) (o : Option (List ℕ)) (bs : List ℕ) → ((v : ℕ) → n ≡ Some v → v < 256) → ((cs : List ℕ) → o ≡ Some cs → Below 256 cs)
    → put n o ≡ Some bs → Below 256 bs
put_below None o bs p q e = cc
put_below (Some v) None bs p q e = cc
put_below (Some v) (Some cs) bs p q e =
    let s : v ∷ cs ≡ bs = cc in
    subst (λ (xs : List ℕ). Below 256 xs) s (p v refl, q cs refl)

pairs_below : (l bs : List ℕ) → pairs_of l ≡ Some bs → Below 256 bs
pairs_below [] bs e = let s : [] ≡ bs = cc in subst (λ (xs : List ℕ). Below 256 xs) s tt
pairs_below (h ∷ []) bs e = cc
pairs_below (h ∷ l ∷ ls) bs e = put_below (pair_of h l) (pairs_of ls) bs (pair_below h l) (λ cs q. pairs_below ls cs q) e

string_below : (l bs : List ℕ) → string_of l ≡ Some bs → Below 256 bs
unfolding string_of
string_below l bs e = picked (is_dash l) e
  where
    picked : (c : Bool) → cond c (Some []) (pairs_of l) ≡ Some bs → Below 256 bs
    picked true q = let s : [] ≡ bs = cc in subst (λ (xs : List ℕ). Below 256 xs) s tt
    picked false q = pairs_below l bs q

record OnwardText (room held : ℕ) (o : Option (List ℕ)) (rest : ℕ → Block (List ℕ × List ℕ)) (x : List ℕ × List ℕ) (ls : List (List ℕ)) (m : ℕ) : Type 0 where
  pub new : List ℕ
  pub words : List ℕ
  pub others : List ℕ
  pub line : o ≡ Some new
  pub limit : held + length new ≤ 4096
  pub lent : held + length new ≤ room
  pub follow : rest (held + length new) ≡ got (words, others) ls m
  pub all_words : x.0 ≡ held ∷ length new ∷ words
  pub all_bytes : x.1 ≡ new ++ others

onward_text_lem : (room held : ℕ) (bs : List ℕ) (rest : ℕ → Block (List ℕ × List ℕ)) (b : Block (List ℕ × List ℕ)) → rest (held + length bs) ≡ b
    → held + length bs ≤ 4096 → held + length bs ≤ room → (x : List ℕ × List ℕ) (ls : List (List ℕ)) (m : ℕ)
    → onward_text (held ∷ length bs ∷ []) bs b ≡ got x ls m → OnwardText room held (Some bs) rest x ls m
onward_text_lem room held bs rest (stop i) r h k x ls m e = cc
onward_text_lem room held bs rest (got y ks i) r h k x ls m e =
    let p : ◌≡◌ {A = List ℕ × List ℕ} (held ∷ length bs ∷ y.0, (bs ++ y.1)) x = cc in
    let q : ks ≡ ls = cc in
    let s : i ≡ m = cc in
    record {
      new = bs;
      words = y.0;
      others = y.1;
      line = refl;
      limit = h;
      lent = k;
      follow = r ∙ ap (λ (z : List (List ℕ)). got y z i) q ∙ ap (λ (z : ℕ). got y ls z) s;
      all_words = ap (λ (z : List ℕ × List ℕ). z.0) (sym p);
      all_bytes = ap (λ (z : List ℕ × List ℕ). z.1) (sym p);
    }

before_text_lem : (n room held : ℕ) (o : Option (List ℕ)) (rest : ℕ → Block (List ℕ × List ℕ)) (x : List ℕ × List ℕ) (ls : List (List ℕ)) (m : ℕ)
    → before_text n room held o rest ≡ got x ls m → OnwardText room held o rest x ls m
before_text_lem n room held None rest x ls m e = cc
before_text_lem n room held (Some bs) rest x ls m e =
    let p = going _ n _ x ls m e in
    let q = neither (ltb 4096 (held + length bs)) (ltb room (held + length bs)) p.0 in
    onward_text_lem room held bs rest (rest (held + length bs)) refl (ltb-false 4096 (held + length bs) q.0) (ltb-false room (held + length bs) q.1) x ls m
    p.1

-- what table 1's lines give: entries that run on, and their bytes
record Texts (room1 room2 used held : ℕ) (x : List ℕ × List ℕ) : Type 0 where
  pub entries : ℕ
  pub size : length x.0 ≡ entries * 2
  pub few : used + entries ≤ 140
  pub lent : used * 2 + length x.0 ≤ room1
  pub runs : Running held x.0 (held + length x.1)
  pub limit : held + length x.1 ≤ 4096
  pub room : held + length x.1 ≤ room2
  pub bytes : Below 256 x.1

module _ (room1 room2 : ℕ) where
  no_strings : (j held : ℕ) (x : List ℕ × List ℕ) → j ≤ 140 → j * 2 ≤ room1 → held ≤ 4096 → held ≤ room2 → x ≡ ([], []) → Texts room1 room2 j held x
  no_strings j held x a b c d e =
      subst (λ (y : List ℕ × List ℕ). Texts room1 room2 j held y) (sym e)
      (record {
        entries = 0;
        size = refl;
        few = omega arith;
        lent = omega arith;
        runs = omega arith;
        limit = omega arith;
        room = omega arith;
        bytes = tt;
      })

  more_strings : (j held : ℕ) (new ws bs : List ℕ) (x : List ℕ × List ℕ) → Below 256 new → Texts room1 room2 (suc j) (held + length new) (ws, bs)
      → x.0 ≡ held ∷ length new ∷ ws → x.1 ≡ new ++ bs → Texts room1 room2 j held x
  more_strings j held new ws bs x p t e f =
      let all = length-append new bs in
      let end : held + length new + length bs ≡ held + length (new ++ bs) = omega arith in
      let y : ◌≡◌ {A = List ℕ × List ℕ} (x.0, x.1) (held ∷ length new ∷ ws, (new ++ bs)) = cc in
      subst (λ (z : List ℕ × List ℕ). Texts room1 room2 j held z) (sym y)
      (record {
        entries = suc t.entries;
        size = omega (arith, t.size);
        few = omega (arith, t.few);
        lent = omega (arith, t.lent);
        runs = (refl, subst (λ (i : ℕ). Running (held + length new) ws i) end t.runs);
        limit = omega (arith, t.limit);
        room = omega (arith, t.room);
        bytes = below_append 256 new bs p t.bytes;
      })

  strings_fit : (k : List (List ℕ)) (n j held : ℕ) (x : List ℕ × List ℕ) (ls : List (List ℕ)) (m : ℕ) → j ≤ 140 → j * 2 ≤ room1 → held ≤ 4096
      → held ≤ room2 → strings_of room1 room2 n (j * 2) held k ≡ got x ls m → Texts room1 room2 j held x
  strings_fit [] n j held x ls m a b c d e = cc
  strings_fit ([] ∷ k) n j held x ls m a b c d e = no_strings j held x a b c d (let p : ◌≡◌ {A = List ℕ × List ℕ} ([], []) x = cc in sym p)
  strings_fit ((y ∷ ys) ∷ k) n j held x ls m a b c d e =
      let p = going _ n _ x ls m e in
      let q = neither (leb 280 (j * 2)) (ltb room1 (j * 2 + 2)) p.0 in
      let o = before_text_lem n room2 held (string_of (y ∷ ys)) (λ i. strings_of room1 room2 (n + 1) (j * 2 + 2) i k) x ls m p.1 in
      let s = leb-false 280 (j * 2) q.0 in
      let l = ltb-false room1 (j * 2 + 2) q.1 in
      let u : suc j * 2 ≡ j * 2 + 2 = omega arith in
      more_strings j held o.new o.words o.others x (string_below (y ∷ ys) o.new o.line)
      (strings_fit k (n + 1) (suc j) (held + length o.new) (o.words, o.others) ls m (omega arith) (omega arith) o.limit o.lent
      (ap (λ (i : ℕ). strings_of room1 room2 (n + 1) i (held + length o.new) k) u ∙ o.follow)) o.all_words o.all_bytes

  string_table_fits : (k : List (List ℕ)) (n : ℕ) (x : List ℕ × List ℕ) (ls : List (List ℕ)) (m : ℕ) → string_table room1 room2 k n ≡ got x ls m
      → Texts room1 room2 0 0 x
  string_table_fits [] n x ls m e = cc
  string_table_fits (l ∷ k) n x ls m e = strings_fit k (n + 1) 0 0 x ls m (omega arith) (omega arith) (omega arith) (omega arith) e

-- a table after which reading went on
record Went {A : Type 0} (b : Block A) (f : A → List (List ℕ) → ℕ → Outcome) (t : Tables) : Type 0 where
  pub value : A
  pub later : List (List ℕ)
  pub number : ℕ
  pub by : b ≡ got value later number
  pub on : f value later number ≡ tables t

went : {A : Type 0} (b : Block A) (f : A → List (List ℕ) → ℕ → Outcome) (t : Tables) → after b f ≡ tables t → Went b f t
went (stop n) f t e = cc
went (got x ls n) f t e = record { value = x; later = ls; number = n; by = refl; on = e }

ended_same : (u t : Tables) (ls : List (List ℕ)) (n : ℕ) → ended u ls n ≡ tables t → u ≡ t
ended_same u t [] n e = cc
ended_same u t ([] ∷ ls) n e = ended_same u t ls (n + 1) e
ended_same u t ((b ∷ bs) ∷ ls) n e = cc

-- the tables that a text is read as fit
pub read_fits : (r : Rooms) (text : List ℕ) (t : Tables) → read_of r text ≡ tables t → Fits r t
unfolding read_of
read_fits r text t e =
    let one = went (string_table r.strings r.bytes (lines_of text) 1) (then1 r) t e in
    let x = one.value in
    let three = went (table_of 2 280 r.symbols false one.later one.number) (then3 r x) t one.on in
    let a = three.value in
    let four = went (table_of 1 140 r.references false three.later three.number) (then4 r x a) t three.on in
    let b = four.value in
    let five = went (table_of 2 280 r.functions false four.later four.number) (then5 r x a b) t four.on in
    let c = five.value in
    let six = went (table_of 1 140 r.members false five.later five.number) (then6 r x a b c) t five.on in
    let d = six.value in
    let seven = went (table_of 8 1120 r.records true six.later six.number) (then7 r x a b c d) t six.on in
    let texts = string_table_fits r.strings r.bytes (lines_of text) 1 x one.later one.number one.by in
    let end : 0 + length x.1 ≡ length x.1 = omega arith in
    let same = ended_same _ t seven.later seven.number seven.on in
    subst (λ (u : Tables). Fits r u) same
    (record {
      strings = subst (λ (i : ℕ). Running 0 x.0 i) end texts.runs;
      entries = omega (arith, texts.size, texts.few);
      lent = omega (arith, texts.lent);
      bytes = texts.bytes;
      size = omega (arith, texts.limit);
      room = omega (arith, texts.room);
      symbols = table_fits 2 r.symbols false (omega arith) one.later one.number 280 a three.later three.number refl three.by;
      references = table_fits 1 r.references false (omega arith) three.later three.number 140 b four.later four.number refl four.by;
      functions = table_fits 2 r.functions false (omega arith) four.later four.number 280 c five.later five.number refl five.by;
      members = table_fits 1 r.members false (omega arith) five.later five.number 140 d six.later six.number refl six.by;
      records =
          table_fits 8 r.records true (omega arith) six.later six.number 1120 seven.value seven.later seven.number refl seven.by;
    })

-- what is read is read again from its printed text
pub read_again : (r : Rooms) (text : List ℕ) (t : Tables) → read_of r text ≡ tables t → read_of r (tables_text t) ≡ tables t
read_again r text t e = round_trip r t (read_fits r text t e)
