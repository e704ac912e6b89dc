-- Chains: one item more, and going through an owner's chain. Assumes nothing.
use Rattle.std.proofs.lemmas.Bool.{cond-true, cond-false, and_from, and_right, and_parts}
use mathlib.Core.Path.{◌≡◌, refl, sym, ap, ap₂, subst, ◌∙◌}
use mathlib.Core.Bool.{Bool, true, false, cond, ◌&&◌}
use Prim.Native.Nat.{ℕ, zero, suc, ◌%◌, ◌≤◌, ◌<◌}
use native.Mathlib.Omega.{arith}
use native.Mathlib.Decide.{ℕ_discrete}
use lib.ListN.{get_or, set, length-set, length-replicate, get_or-replicate}
use lib.Seq.{get_or-set_same, get_or-set_other}
use lib.Dec.{ltb, eqb}
use borrow.Author.Tests.{lt-ltb, eq-eqb, ne_eqb, eqb-true, ltb-true}
use Rattle.pool.specs.Chain.{OWNERS, no_chains, chained, below, first_of, next_of, last}
use Rattle.pool.specs.declared.chain.Chain.{Chain}
use Rattle.pool.specs.ResolveSteps.{of_owner, Chains}

-- the last number below n that passes a test
last_same : (a b : ℕ → Bool) (n : ℕ) → ((i : ℕ) → i < n → a i ≡ b i) → last a n ≡ last b n
unfolding last
last_same a b zero h = refl
last_same a b (suc n) h = ap₂ (λ (x : Bool) (y : ℕ). cond x n y) (h n (omega arith)) (last_same a b n (λ i p. h i (omega arith)))

module _ (b : ℕ → Bool) where
  last_on : (n : ℕ) → b n ≡ true → last b (suc n) ≡ n
  unfolding last
  last_on n e = cond-true _ _ _ e

  last_off : (n : ℕ) → b n ≡ false → last b (suc n) ≡ last b n
  unfolding last
  last_off n e = cond-false _ _ _ e

  pub last_less : (n : ℕ) → 0 < last b n → last b n < n
  unfolding last
  last_less zero h = absurd (omega arith)
  last_less (suc n) h = go (b n) h (λ p. last_less n p)
    where
      go : (x : Bool) → 0 < cond x n (last b n) → (0 < last b n → last b n < n) → cond x n (last b n) < suc n
      go true p ih = omega arith
      go false p ih = omega (arith, ih p)

  pub last_hit : (n : ℕ) → 0 < last b n → b (last b n) ≡ true
  unfolding last
  last_hit zero h = absurd (omega arith)
  last_hit (suc n) h = go (b n) refl h (λ p. last_hit n p)
    where
      go : (x : Bool) → b n ≡ x → 0 < cond x n (last b n) → (0 < last b n → b (last b n) ≡ true) → b (cond x n (last b n)) ≡ true
      go true e p ih = e
      go false e p ih = ih p

  pub last_most : (n i : ℕ) → i < n → b i ≡ true → i ≤ last b n
  unfolding last
  last_most zero i h e = absurd (omega arith)
  last_most (suc n) i h e = go (b n) refl (ℕ_discrete i n) (λ p. last_most n i p e)
    where
      go : (x : Bool) → b n ≡ x → Dec (i ≡ n) → (i < n → i ≤ last b n) → i ≤ cond x n (last b n)
      go true q d ih = omega arith
      go false q (yes z) ih = absurd (let y : ◌≡◌ {A = ℕ} 0 1 = cc in omega arith)
      go false q (no z) ih = ih (omega arith)

module _ {room : ℕ} (item : ℕ → Bool) (owner : ℕ → ℕ) where
  pub chain_start : (c : Chain room) → c ≡ no_chains room → Chains item owner 0 c
  unfolding last
  chain_start c e =
      subst (Chains item owner 0) (sym e)
      (record {
        owners = length-replicate {A = ℕ} OWNERS 0;
        items = length-replicate {A = ℕ} room 0;
        heads = λ o p. get_or-replicate OWNERS o 0 0 p;
        nexts = λ i h. absurd (omega arith);
      })

  -- a number that is no item
  pub chain_skip : (c : Chain room) (n : ℕ) → item n ≡ false → Chains item owner n c → Chains item owner (suc n) c
  chain_skip c n e h =
      record {
        owners = h.owners;
        items = h.items;
        heads = λ o p. h.heads o p ∙ sym (last_off (of_owner item owner o) n (ap (λ (x : Bool). x && eqb (owner n % OWNERS) o) e));
        nexts = λ i p q. go i p q (ℕ_discrete i n);
      }
    where
      go : (i : ℕ) → i < suc n → item i ≡ true → Dec (i ≡ n) → get_or c.nexts i 0 ≡ last (of_owner item owner (owner i % OWNERS)) i
      go i p q (yes z) = absurd (let y : ◌≡◌ {A = ℕ} 0 1 = cc in omega arith)
      go i p q (no z) = h.nexts i (omega arith) q

  -- an item becomes the first of its owner's chain
  module _ (c : Chain room) (n : ℕ) (few : n < room) (is : item n ≡ true) (h : Chains item owner n c) where
    abbrev k : ℕ
    k = owner n % OWNERS

    abbrev old : ℕ
    old = get_or c.heads k 0

    small : k < OWNERS
    small = omega arith

    head_more : (o : ℕ) → o < OWNERS → get_or (set c.heads k n) o 0 ≡ last (of_owner item owner o) (suc n)
    head_more o q = go (ℕ_discrete o k)
      where
        go : Dec (o ≡ k) → get_or (set c.heads k n) o 0 ≡ last (of_owner item owner o) (suc n)
        go (yes z) =
            ap (λ (x : ℕ). get_or (set c.heads k n) x 0) z
            ∙ (get_or-set_same c.heads k n 0 (omega (arith, h.owners))
            ∙ sym (last_on (of_owner item owner o) n (and_from (item n) (eqb k o) is (eq-eqb k o (sym z)))))
        go (no z) =
            get_or-set_other c.heads k o n 0 z
            ∙ (h.heads o q ∙ sym (last_off (of_owner item owner o) n (and_right (item n) (eqb k o) (ne_eqb k o (λ e. z (sym e))))))

    next_more : (i : ℕ) → i < suc n → item i ≡ true → get_or (set c.nexts n old) i 0 ≡ last (of_owner item owner (owner i % OWNERS)) i
    next_more i q r = go (ℕ_discrete i n)
      where
        go : Dec (i ≡ n) → get_or (set c.nexts n old) i 0 ≡ last (of_owner item owner (owner i % OWNERS)) i
        go (yes z) = rw z (get_or-set_same c.nexts n old 0 (omega (arith, h.items)) ∙ h.heads k small)
        go (no z) = get_or-set_other c.nexts n i old 0 z ∙ h.nexts i (omega arith) r

    pub chain_more : Chains item owner (suc n) (chained c (owner n) n)
    unfolding chained
    chain_more =
        subst (Chains item owner (suc n)) (sym (cond-true _ _ _ (lt-ltb _ _ few)))
        (record {
          owners = length-set c.heads k n ∙ h.owners;
          items = length-set c.nexts n old ∙ h.items;
          heads = head_more;
          nexts = next_more;
        })

  pub chain_owners : (owner' : ℕ → ℕ) (c : Chain room) (n : ℕ) → ((i : ℕ) → i < n → owner i ≡ owner' i) → Chains item owner n c → Chains item owner' n c
  chain_owners owner' c n e h =
      record {
        owners = h.owners;
        items = h.items;
        heads = λ o p. h.heads o p ∙ last_same _ _ n (λ i q. ap (λ (x : ℕ). item i && eqb (x % OWNERS) o) (e i q));
        nexts = λ i p r. h.nexts i p r ∙ (last_same _ _ i (λ j q. ap (λ (x : ℕ). item j && eqb (x % OWNERS) (owner i % OWNERS)) (e j (omega arith)))
            ∙ ap (λ (x : ℕ). last (of_owner item owner' (x % OWNERS)) i) (e i p));
      }

  -- going through an owner's chain
  module _ (c : Chain room) (at : ℕ) (n : ℕ) (few : n ≤ room) (h : Chains item owner n c) where
    abbrev own : ℕ → Bool
    own = of_owner item owner (at % OWNERS)

    -- an item of the owner, or the end
    abbrev pub Halt : ℕ → Type 0
    Halt x = 0 < x → (x < n) × (own x ≡ true)

    first_is : first_of c at ≡ last own n
    unfolding first_of
    first_is = h.heads (at % OWNERS) (omega arith)

    next_is : (x : ℕ) → 0 < x → Halt x → next_of c x ≡ last own x
    unfolding next_of
    next_is x p s =
        let z : owner x % OWNERS ≡ at % OWNERS = eqb-true _ _ (and_parts (item x) _ (s p).1).1 in
        let e : get_or c.nexts x 0 ≡ last own x = h.nexts x (s p).0 (and_parts (item x) _ (s p).1).0 ∙ ap (λ (o : ℕ). last (of_owner item owner o) x) z in
        cond-true _ _ _ (lt-ltb x room (omega (arith, (s p).0))) ∙ (ap (λ (l : ℕ). below l x) e ∙ cond-true _ _ _ (lt-ltb (last own x) x (go (ℕ_discrete (last own x) 0))))
      where
        go : Dec (last own x ≡ 0) → last own x < x
        go (yes e) = omega arith
        go (no e) = last_less own x (omega arith)

    pub halt_first : (x : ℕ) → x ≡ first_of c at → Halt x
    halt_first x e = subst Halt (sym (e ∙ first_is)) (λ p. (last_less own n p, last_hit own n p))

    pub halt_next : (x y : ℕ) → 0 < x → Halt x → y ≡ next_of c x → Halt y
    halt_next x y p s e = subst Halt (sym (e ∙ next_is x p s)) (λ q. (omega (arith, last_less own x q, (s p).0), last_hit own x q))

    -- no item is above the first, none between an item and its next
    pub none_above : (x : ℕ) → x ≡ first_of c at → (i : ℕ) → x < i → i < n → own i ≡ true → ⊥
    none_above x e i p q r = omega (arith, e ∙ first_is, last_most own n i q r)

    pub none_between : (x y : ℕ) → 0 < x → Halt x → y ≡ next_of c x → (i : ℕ) → y < i → i < x → own i ≡ true → ⊥
    none_between x y p s e i a b r = omega (arith, e ∙ next_is x p s, last_most own x i b r)

-- a chain goes down
pub next_less : {room : ℕ} (c : Chain room) (x y : ℕ) → y ≡ next_of c x → (x ≡ 0 → ⊥) → y < x
unfolding next_of
next_less {room} c x y e d = go (ltb x room) (ltb (get_or c.nexts x 0) x) refl e
  where
    go : (a b : Bool) → ltb (get_or c.nexts x 0) x ≡ b → y ≡ cond a (cond b (get_or c.nexts x 0) 0) 0 → y < x
    go true true q r = omega (arith, ltb-true (get_or c.nexts x 0) x q)
    go true false q r = omega arith
    go false b q r = omega arith
