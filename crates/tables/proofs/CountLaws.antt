-- Functions counted by a pass from the last record to the first, and the ways of `shift`. Assumes nothing.
use mathlib.Core.Path.{◌≡◌, refl, sym, ap, ◌∙◌}
use mathlib.Core.Bool.{Bool, true, false, cond}
use mathlib.Core.List.{List}
use mathlib.Core.Logic.{inl, inr}
use Prim.Native.Nat.{ℕ, zero, suc, ◌+◌, ◌-◌, ◌≤◌, ◌<◌, min}
use native.Mathlib.Omega.{arith}
use native.Mathlib.Decide.{ℕ_discrete}
use lib.ListN.{length, get_or, set, replicate, length-set, length-replicate, get_or-replicate, get_or-map}
use lib.Seq.{get_or-set_same, get_or-set_other, map-set}
use lib.LanesLaws.{map-replicate}
use Rattle.tables.specs.declared.numbering.Count.{Count}
use Rattle.tables.specs.declared.numbering.Manner.{Manner}
use Rattle.tables.specs.declared.numbering.Manner.TheVariants.{Stored, RightFirst, RightThenBack}
use Rattle.tables.specs.Record.{word, words, size}
use Rattle.tables.specs.Forest.{Forest, none, first, next, forest}
use Rattle.tables.specs.Numbering.{is_left, manner}
use Rattle.tables.specs.Counting.{plus, own, shift, offset, blank, alls, lefts, tally, tally_left, Tallied}
use Rattle.tables.proofs.ForestLaws.{Onward, first_onward, next_onward, forest_absent, forest_record}

module _ (m : Manner) (b : Bool) (t l t' l' l'' : ℕ) where
  pub shift_stored : (x : ℕ) → m ≡ Stored → x ≡ t - t' → x ≡ shift m b t l t' l' l''
  unfolding shift
  shift_stored x e p = rw e p

  pub shift_first_left : (r y x : ℕ) → m ≡ RightFirst → b ≡ true → r ≡ t - l → y ≡ l - l' → x ≡ plus r y → x ≡ shift m b t l t' l' l''
  unfolding shift
  shift_first_left r y x e f u v p = rw (e, f, p, u, v) refl

  pub shift_first_right : (r y x : ℕ) → m ≡ RightFirst → b ≡ false → r ≡ t - l → y ≡ t' - l' → x ≡ r - y → x ≡ shift m b t l t' l' l''
  unfolding shift
  shift_first_right r y x e f u v p = rw (e, f, p, u, v) refl

  pub shift_back_left : (r x : ℕ) → m ≡ RightThenBack → b ≡ true → r ≡ t - l → x ≡ plus r l'' → x ≡ shift m b t l t' l' l''
  unfolding shift
  shift_back_left r x e f u p = rw (e, f, p, u) refl

  pub shift_back_right : (r y x : ℕ) → m ≡ RightThenBack → b ≡ false → r ≡ t - l → y ≡ t' - l' → x ≡ r - y → x ≡ shift m b t l t' l' l''
  unfolding shift
  shift_back_right r y x e f u v p = rw (e, f, p, u, v) refl

-- the counts of an array are one by one those of its two lists
module _ (counts : List Count) (x : ℕ) where
  pub alls_at : (get_or counts x blank).all ≡ get_or (alls counts) x 0
  alls_at = sym (get_or-map (λ c. c.all) counts x blank)

  pub lefts_at : (get_or counts x blank).left ≡ get_or (lefts counts) x 0
  lefts_at = sym (get_or-map (λ c. c.left) counts x blank)

-- both links of a record fit an array of 4096
link_small : (recs : List ℕ) (r l : ℕ) → Onward recs r l → size recs ≤ 4096 → l < 4096
link_small recs r l (inl e) h = omega arith
link_small recs r l (inr (a, b)) h = omega arith

pub first_small : (recs : List ℕ) (r x : ℕ) → x ≡ first recs r → size recs ≤ 4096 → x < 4096
first_small recs r x e h = rw e (link_small recs r (first recs r) (first_onward recs r) h)

pub next_small : (recs : List ℕ) (r x : ℕ) → x ≡ next recs r → size recs ≤ 4096 → x < 4096
next_small recs r x e h = rw e (link_small recs r (next recs r) (next_onward recs r) h)

-- the records from i on have their number
pub record Down (t : Forest → ℕ) (recs : List ℕ) (i : ℕ) (a : List ℕ) : Type 0 where
  pub long : length a ≡ 4096
  pub zero_first : get_or a 0 0 ≡ 0
  pub later : (x : ℕ) → i ≤ x → x < size recs → get_or a x 0 ≡ min 4096 (t (forest recs x))

module _ (t : Forest → ℕ) (recs : List ℕ) where
  pub down_start : (a : List ℕ) (i : ℕ) → a ≡ replicate 4096 0 → i ≡ size recs → Down t recs i a
  down_start a i e p =
      record {
        long = ap length e ∙ length-replicate {A = ℕ} 4096 0;
        zero_first = ap (λ l. get_or l 0 0) e ∙ get_or-replicate 4096 0 0 0 (omega arith);
        later = λ x h q. absurd (omega arith);
      }

  module _ (nothing : t none ≡ 0) where
    absent_zero : (a : List ℕ) (i : ℕ) → Down t recs i a → get_or a 0 0 ≡ min 4096 (t (forest recs 0))
    absent_zero a i d = d.zero_first ∙ rw (forest_absent recs, nothing) refl

    pub down_end : (a : List ℕ) (i : ℕ) → Down t recs i a → i ≤ 1 → Tallied t recs a
    down_end a i d h = record { long = d.long; each = λ x p. go x p }
      where
        go : (x : ℕ) → x < size recs → get_or a x 0 ≡ min 4096 (t (forest recs x))
        go zero p = absent_zero a i d
        go (suc x) p = d.later (suc x) (omega arith) p

    -- a link of a record leads to one that has its number
    pub down_link : (a : List ℕ) (i r l : ℕ) → Down t recs i a → i ≤ suc r → Onward recs r l → get_or a l 0 ≡ min 4096 (t (forest recs l))
    down_link a i r l d h (inl e) = rw e (absent_zero a i d)
    down_link a i r l d h (inr (p, q)) = d.later l (omega arith) q

    pub tallied_link : (a : List ℕ) (r l : ℕ) → r < size recs → Tallied t recs a → Onward recs r l → get_or a l 0 ≡ min 4096 (t (forest recs l))
    tallied_link a r l h d (inl e) = rw e (d.each 0 (omega arith))
    tallied_link a r l h d (inr (p, q)) = d.each l q

  pub down_more : (a : List ℕ) (i y : ℕ) → Down t recs i a → 1 < i → i ≤ 4096 → y ≡ min 4096 (t (forest recs (i - 1))) → Down t recs (i - 1) (set a (i - 1) y)
  down_more a i y d h s e =
      record {
        long = length-set a (i - 1) y ∙ d.long;
        zero_first = get_or-set_other a (i - 1) 0 y 0 (λ z. omega arith) ∙ d.zero_first;
        later = λ x p q. go x p q (ℕ_discrete x (i - 1));
      }
    where
      go : (x : ℕ) → i - 1 ≤ x → x < size recs → Dec (x ≡ i - 1) → get_or (set a (i - 1) y) x 0 ≡ min 4096 (t (forest recs x))
      go x p q (yes z) = rw z (get_or-set_same a (i - 1) y 0 (omega (arith, d.long)) ∙ e)
      go x p q (no z) = get_or-set_other a (i - 1) x y 0 z ∙ d.later x (omega arith) q

pub tally_none : tally none ≡ 0
unfolding tally
tally_none = refl

pub left_none : tally_left none ≡ 0
unfolding tally_left
left_none = refl

pub tally_record : (recs : List ℕ) (r : ℕ) → 1 ≤ r → tally (forest recs r) ≡ own (words recs r) + tally (forest recs (first recs r)) + tally (forest recs (next recs r))
unfolding tally
tally_record recs zero h = absurd (omega arith)
tally_record recs (suc r) h = rw (forest_record recs r) refl

pub left_record : (recs : List ℕ) (r : ℕ) → 1 ≤ r
    → tally_left (forest recs r) ≡ cond (is_left (words recs r)) (own (words recs r) + tally (forest recs (first recs r))) 0 + tally_left (forest recs (next recs r))
unfolding tally_left
left_record recs zero h = absurd (omega arith)
left_record recs (suc r) h = rw (forest_record recs r) refl

module _ (recs : List ℕ) (few : size recs ≤ 4096) (counts : List Count) (i f g o x : ℕ) (h : 1 < i) (s : i ≤ size recs)
    (p : f ≡ first recs (i - 1)) (q : g ≡ next recs (i - 1)) (u : o ≡ own (words recs (i - 1)))
    (d : Down tally recs i (alls counts)) (v : x ≡ plus o (get_or counts f blank).all) where
  below : get_or (alls counts) f 0 ≡ min 4096 (tally (forest recs (first recs (i - 1))))
  below = ap (λ z. get_or (alls counts) z 0) p ∙ down_link tally recs tally_none (alls counts) i (i - 1) _ d (omega arith) (first_onward recs (i - 1))

  -- one turn of the pass from the last record to the first, x being what the record has with what is below it
  pub turn_all : (c : Count) → c.all ≡ plus x (get_or counts g blank).all → Down tally recs (i - 1) (alls (set counts (i - 1) c))
  turn_all c w =
      rw (map-set (λ c. c.all) counts (i - 1) c)
      (down_more tally recs (alls counts) i c.all d h (omega arith)
      (omega (
        arith,
        tally_record recs (i - 1) (omega arith),
        alls_at counts f,
        alls_at counts g,
        below,
        ap (λ z. get_or (alls counts) z 0) q,
        down_link tally recs tally_none (alls counts) i (i - 1) _ d (omega arith) (next_onward recs (i - 1)),
      )))

  -- the same turn for what is in Lefts
  module _ (e : Down tally_left recs i (lefts counts)) (c : Count) where
    later : get_or (lefts counts) g 0 ≡ min 4096 (tally_left (forest recs (next recs (i - 1))))
    later = ap (λ z. get_or (lefts counts) z 0) q ∙ down_link tally_left recs left_none (lefts counts) i (i - 1) _ e (omega arith) (next_onward recs (i - 1))

    record_is : (b : Bool) → is_left (words recs (i - 1)) ≡ b
        → tally_left (forest recs (i - 1)) ≡ cond b (own (words recs (i - 1)) + tally (forest recs (first recs (i - 1)))) 0 + tally_left (forest recs (next recs (i - 1)))
    record_is b z = left_record recs (i - 1) (omega arith) ∙ rw z refl

    written : c.left ≡ min 4096 (tally_left (forest recs (i - 1))) → Down tally_left recs (i - 1) (lefts (set counts (i - 1) c))
    written z = rw (map-set (λ c. c.left) counts (i - 1) c) (down_more tally_left recs (lefts counts) i c.left e h (omega arith) z)

    pub turn_left : is_left (words recs (i - 1)) ≡ true → c.left ≡ plus x (get_or counts g blank).left → Down tally_left recs (i - 1) (lefts (set counts (i - 1) c))
    turn_left t z = written (omega (arith, alls_at counts f, lefts_at counts g, below, later, record_is true t))

    pub turn_other : is_left (words recs (i - 1)) ≡ false → c.left ≡ (get_or counts g blank).left → Down tally_left recs (i - 1) (lefts (set counts (i - 1) c))
    turn_other t z = written (omega (arith, lefts_at counts g, later, record_is false t))

-- the pass begins with blank counts
pub alls_start : (recs : List ℕ) (counts : List Count) (i : ℕ) → counts ≡ replicate 4096 blank → i ≡ size recs → Down tally recs i (alls counts)
alls_start recs counts i e p = down_start tally recs (alls counts) i (ap alls e ∙ map-replicate (λ c. c.all) 4096 blank) p

pub lefts_start : (recs : List ℕ) (counts : List Count) (i : ℕ) → counts ≡ replicate 4096 blank → i ≡ size recs → Down tally_left recs i (lefts counts)
lefts_start recs counts i e p = down_start tally_left recs (lefts counts) i (ap lefts e ∙ map-replicate (λ c. c.left) 4096 blank) p

pub all_end : (recs a : List ℕ) (i : ℕ) → Down tally recs i a → i ≤ 1 → Tallied tally recs a
all_end recs a i d h = down_end tally recs tally_none a i d h

pub left_end : (recs a : List ℕ) (i : ℕ) → Down tally_left recs i a → i ≤ 1 → Tallied tally_left recs a
left_end recs a i d h = down_end tally_left recs left_none a i d h

pub offset_zero : (recs all left up : List ℕ) (x : ℕ) → x ≡ 0 → 0 ≡ offset recs all left up x
unfolding offset
offset_zero recs all left up zero e = refl
offset_zero recs all left up (suc x) e = absurd (omega arith)

pub offset_some : (recs up : List ℕ) (counts : List Count) (x p k g r : ℕ) (m : Manner) (own-left : Bool) → (x ≡ 0 → ⊥) → p ≡ get_or up x 0 → k ≡ first recs p → g ≡ next recs x
    → m ≡ manner (word recs p 0) → own-left ≡ is_left (words recs x)
    → r ≡ shift m own-left (get_or counts k blank).all (get_or counts k blank).left (get_or counts x blank).all (get_or counts x blank).left (get_or counts g blank).left
    → r ≡ offset recs (alls counts) (lefts counts) up x
unfolding offset
offset_some recs up counts zero p k g r m b d q e f h i j = absurd (d refl)
offset_some recs up counts (suc x) p k g r m b d q e f h i j =
    j ∙ rw (h, i, f, e, q, alls_at counts _, lefts_at counts _, alls_at counts (suc x), lefts_at counts (suc x), lefts_at counts _) refl
