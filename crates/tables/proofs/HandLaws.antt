-- Values handed along the links in an array: one turn of the pass keeps what the turns before have handed. Assumes nothing.
use mathlib.Core.Path.{◌≡◌, refl, sym, ap, subst, ◌∙◌}
use mathlib.Core.List.{List}
use mathlib.Core.Logic.{inl, inr}
use Prim.Native.Nat.{ℕ, zero, suc, ◌+◌, ◌≤◌, ◌<◌}
use native.Mathlib.Omega.{arith}
use native.Mathlib.Decide.{ℕ_discrete}
use lib.ListN.{length, get_or, set, replicate, length-set, length-replicate, get_or-replicate}
use lib.Seq.{get_or-set_same, get_or-set_other}
use Rattle.tables.specs.Record.{size}
use Rattle.tables.specs.Forest.{first, next}
use Rattle.tables.specs.Naming.{one, Joined}
use Rattle.tables.specs.Scratch.{handed, Handed}
use Rattle.tables.proofs.ForestLaws.{Onward, first_onward, next_onward}
use Rattle.tables.proofs.NamingLaws.{one_same}
use Rattle.tables.proofs.TreeLaws.{leads, same_leader, leads_once}

pub handed_put : (a : List ℕ) (x v : ℕ) → 0 < x → set a x v ≡ handed a x v
handed_put a zero v h = absurd (omega arith)
handed_put a (suc x) v h = refl

pub handed_none : (a : List ℕ) (x v : ℕ) → x ≡ 0 → a ≡ handed a x v
handed_none a zero v h = refl
handed_none a (suc x) v h = absurd (omega arith)

-- what is handed to no record does not matter
handed_same : (a : List ℕ) (x s t : ℕ) → (0 < x → s ≡ t) → handed a x s ≡ handed a x t
handed_same a zero s t h = refl
handed_same a (suc x) s t h = ap (set a (suc x)) (h (omega arith))

length_handed : (a : List ℕ) (x v : ℕ) → length (handed a x v) ≡ length a
length_handed a zero v = refl
length_handed a (suc x) v = length-set a (suc x) v

at_same : (a : List ℕ) (x v : ℕ) → 0 < x → x < length a → get_or (handed a x v) x 0 ≡ v
at_same a zero v h p = absurd (omega arith)
at_same a (suc x) v h p = get_or-set_same a (suc x) v 0 p

at_other : (a : List ℕ) (x v z : ℕ) → (0 < x → z ≡ x → ⊥) → get_or (handed a x v) z 0 ≡ get_or a z 0
at_other a zero v z d = refl
at_other a (suc x) v z d = get_or-set_other a (suc x) z v 0 (d (omega arith))

link_inside : (recs : List ℕ) (r l : ℕ) → Onward recs r l → 0 < l → (r < l) × (l < size recs)
link_inside recs r l (inl e) h = absurd (omega arith)
link_inside recs r l (inr p) h = p

pub first_inside : (recs : List ℕ) (r : ℕ) → 0 < first recs r → (r < first recs r) × (first recs r < size recs)
first_inside recs r h = link_inside recs r _ (first_onward recs r) h

pub next_inside : (recs : List ℕ) (r : ℕ) → 0 < next recs r → (r < next recs r) × (next recs r < size recs)
next_inside recs r h = link_inside recs r _ (next_onward recs r) h

module _ (down : ℕ → ℕ → ℕ) (recs : List ℕ) (v : ℕ) where
  handed_start : (a : List ℕ) → length a ≡ 4096 → get_or a 0 0 ≡ v → Handed down recs v 0 a
  handed_start a n e = record { long = n; top = e; child = λ r h. absurd (omega arith); sibling = λ r h. absurd (omega arith) }

  zeros_long : (a : List ℕ) → a ≡ replicate 4096 0 → length a ≡ 4096
  zeros_long a e = ap length e ∙ length-replicate {A = ℕ} 4096 0

  -- nothing handed yet
  pub handed_begin : (a : List ℕ) → a ≡ replicate 4096 0 → Handed down recs v 0 (set a 0 v)
  handed_begin a e = handed_start (set a 0 v) (length-set a 0 v ∙ zeros_long a e) (get_or-set_same a 0 v 0 (omega (arith, zeros_long a e)))

  pub handed_zeros : v ≡ 0 → (a : List ℕ) → a ≡ replicate 4096 0 → Handed down recs v 0 a
  handed_zeros z a e = handed_start a (zeros_long a e) (ap (λ l. get_or l 0 0) e ∙ get_or-replicate 4096 0 0 0 (omega arith) ∙ sym z)

  module _ (j : Joined recs) (few : size recs ≤ 4096) (a : List ℕ) (i : ℕ) (inside : i < size recs) (before : Handed down recs v i a) where
    abbrev a₁ : List ℕ
    a₁ = handed a (first recs i) (down i (get_or a i 0))

    abbrev a₂ : List ℕ
    a₂ = handed a₁ (next recs i) (get_or a i 0)

    long₁ : length a₁ ≡ 4096
    long₁ = length_handed a (first recs i) (down i (get_or a i 0)) ∙ before.long

    -- where neither link of record i leads, nothing changes
    untouched : (z : ℕ) → (0 < first recs i → z ≡ first recs i → ⊥) → (0 < next recs i → z ≡ next recs i → ⊥) → get_or a₂ z 0 ≡ get_or a z 0
    untouched z p q = at_other a₁ (next recs i) _ z q ∙ at_other a (first recs i) _ z p

    earlier : (z : ℕ) → z ≤ i → get_or a₂ z 0 ≡ get_or a z 0
    earlier z h = untouched z (λ p e. omega (arith, (first_inside recs i p).0)) (λ p e. omega (arith, (next_inside recs i p).0))

    -- what an earlier record leads to is led to by that record alone
    other : (r z : ℕ) → r < i → 0 < z → z < size recs → 1 ≤ leads recs z r → get_or a₂ z 0 ≡ get_or a z 0
    other r z h p q l =
        untouched z (λ u e. let o = subst (λ y. one z y ≡ 1) e (one_same z) in omega (arith, same_leader recs j z r i p q (omega arith) inside l (omega arith)))
        (λ u e. let o = subst (λ y. one z y ≡ 1) e (one_same z) in omega (arith, same_leader recs j z r i p q (omega arith) inside l (omega arith)))

    child₂ : (r : ℕ) → r < i + 1 → 0 < first recs r → get_or a₂ (first recs r) 0 ≡ down r (get_or a₂ r 0)
    child₂ r h p = go (ℕ_discrete r i)
      where
        own : (0 < next recs i → first recs i ≡ next recs i → ⊥) → 0 < first recs i → get_or a₂ (first recs i) 0 ≡ down i (get_or a₂ i 0)
        own d q = at_other a₁ (next recs i) _ _ d ∙ at_same a (first recs i) _ q (omega (arith, before.long, (first_inside recs i q).1)) ∙ ap (down i) (sym
            (earlier i (omega arith)))

        go : Dec (r ≡ i) → get_or a₂ (first recs r) 0 ≡ down r (get_or a₂ r 0)
        go (yes e) =
            rw e (own (λ q z. let o = subst (λ y. one (first recs i) y ≡ 1) z (one_same (first recs i)) in
            omega (arith, one_same (first recs i), leads_once recs j (first recs i) i (rw e at p) (first_inside recs i (rw e at p)).1 inside)) (rw e at p))
        go (no d) =
            other r (first recs r) (omega arith) p (first_inside recs r p).1 (omega (arith, one_same (first recs r))) ∙ before.child r (omega arith) p ∙ ap
            (down r) (sym (earlier r (omega arith)))

    sibling₂ : (r : ℕ) → r < i + 1 → 0 < next recs r → get_or a₂ (next recs r) 0 ≡ get_or a₂ r 0
    sibling₂ r h p = go (ℕ_discrete r i)
      where
        own : 0 < next recs i → get_or a₂ (next recs i) 0 ≡ get_or a₂ i 0
        own q = at_same a₁ (next recs i) _ q (omega (arith, long₁, (next_inside recs i q).1)) ∙ sym (earlier i (omega arith))

        go : Dec (r ≡ i) → get_or a₂ (next recs r) 0 ≡ get_or a₂ r 0
        go (yes e) = rw e (own (rw e at p))
        go (no d) = other r (next recs r) (omega arith) p (next_inside recs r p).1 (omega (arith, one_same (next recs r))) ∙ before.sibling r (omega arith) p
            ∙ sym (earlier r (omega arith))

    both : Handed down recs v (i + 1) a₂
    both = record { long = length_handed a₁ (next recs i) (get_or a i 0) ∙ long₁; top = earlier 0 (omega arith) ∙ before.top; child = child₂; sibling = sibling₂ }

  -- one turn: record i hands its value on to its first child and to its sibling
  pub handed_more : Joined recs → size recs ≤ 4096 → (a b c : List ℕ) (i x y t u : ℕ) → i < size recs → Handed down recs v i a → x ≡ first recs i → u ≡ get_or a i 0
      → (0 < x → t ≡ down i u)
      → (length a ≡ 4096 → b ≡ handed a x t) → y ≡ next recs i → (length b ≡ 4096 → c ≡ handed b y u) → Handed down recs v (i + 1) c
  handed_more j few a b c i x y t u h before p q d e s f = subst (λ z. Handed down recs v (i + 1) z) (sym last) (both j few a i h before)
    where
      first_put : b ≡ a₁ j few a i h before
      first_put = e before.long ∙ handed_same a x t (down i u) d ∙ rw (p, q) refl

      last : c ≡ a₂ j few a i h before
      last = f (ap length first_put ∙ long₁ j few a i h before) ∙ rw (first_put, s, q) refl
