-- The pass over the records: owners handed down the links, Idents chained to them, earlier siblings noted. Assumes nothing.
use Rattle.std.proofs.lemmas.Bool.{cond-true}
use mathlib.Core.Path.{◌≡◌, refl, sym, ap, subst, ◌∙◌}
use mathlib.Core.Bool.{Bool, true, false, cond}
use mathlib.Core.List.{List}
use mathlib.Core.Logic.{◌⊎◌, inl, inr}
use Prim.Native.Nat.{ℕ, zero, suc, ◌+◌, ◌≤◌, ◌<◌}
use native.Mathlib.Omega.{arith}
use native.Mathlib.Decide.{ℕ_discrete}
use lib.ListN.{length, get_or, set, replicate, length-set, length-replicate}
use lib.Seq.{get_or-set_same, get_or-set_other}
use lib.Dec.{ltb}
use borrow.Author.Tests.{lt-ltb, ltb-true}
use Rattle.tables.specs.Record.{words, size, is_ident}
use Rattle.tables.specs.Forest.{first, next}
use Rattle.tables.specs.Naming.{one, Joined}
use Rattle.tables.specs.Scratch.{handed, Handed}
use Rattle.tables.proofs.NamingLaws.{one_same}
use Rattle.tables.proofs.TreeLaws.{same_leader}
use Rattle.tables.proofs.HandLaws.{handed_zeros, handed_more, first_inside, next_inside}
use Rattle.pool.specs.Chain.{no_chains, chained}
use Rattle.pool.specs.declared.chain.Chain.{Chain}
use Rattle.pool.specs.Notes.{LOADS, note_earlier}
use Rattle.pool.specs.ResolveSteps.{own_down, IdentChains, Passed}
use Rattle.pool.proofs.ChainLaws.{chain_start, chain_skip, chain_more, chain_owners}

handed_length : (a : List ℕ) (x v : ℕ) → length (handed a x v) ≡ length a
handed_length a zero v = refl
handed_length a (suc x) v = length-set a (suc x) v

-- what lies before the record that is handed a value
handed_before : (a : List ℕ) (x v i : ℕ) → (0 < x → i < x) → get_or (handed a x v) i 0 ≡ get_or a i 0
handed_before a zero v i h = refl
handed_before a (suc x) v i h = get_or-set_other a (suc x) i v 0 (λ e. omega (arith, h (omega arith)))

-- a sibling noted
module _ (ns : List ℕ) (s r : ℕ) where
  noted_length : length (note_earlier ns s r) ≡ length ns
  unfolding note_earlier
  noted_length = go (ltb r s) (ltb s 4096)
    where
      go : (a b : Bool) → length (cond a (cond b (set ns s r) ns) ns) ≡ length ns
      go true true = length-set ns s r
      go true false = refl
      go false b = refl

  noted_other : (j : ℕ) → (r < s → s < 4096 → j ≡ s → ⊥) → get_or (note_earlier ns s r) j 0 ≡ get_or ns j 0
  unfolding note_earlier
  noted_other j d = go (ltb r s) (ltb s 4096) refl refl
    where
      go : (a b : Bool) → ltb r s ≡ a → ltb s 4096 ≡ b → get_or (cond a (cond b (set ns s r) ns) ns) j 0 ≡ get_or ns j 0
      go true true e q = get_or-set_other ns s j r 0 (d (ltb-true _ _ e) (ltb-true _ _ q))
      go true false e q = refl
      go false b e q = refl

  noted_here : r < s → s < 4096 → length ns ≡ 12288 → get_or (note_earlier ns s r) s 0 ≡ r
  unfolding note_earlier
  noted_here a b l = ap (λ (x : List ℕ). get_or x s 0) (cond-true _ _ _ (lt-ltb _ _ a) ∙ cond-true _ _ _ (lt-ltb _ _ b)) ∙ get_or-set_same ns s r 0 (omega arith)

module _ (recs ns₀ : List ℕ) (c₀ : Chain 4096) where
  -- the first r records have had their turn
  pub record Passing (r : ℕ) (ns : List ℕ) (c : Chain 4096) (a : List ℕ) : Type 0 where
    pub upto : r ≤ size recs
    pub long : length a ≡ 4096
    pub hands : Joined recs → Handed (own_down recs) recs 0 r a
    pub chains : c₀ ≡ no_chains 4096 → IdentChains recs a r c
    pub earlier : Joined recs → length ns₀ ≡ 12288 → (c : ℕ) → c < r → 0 < next recs c → get_or ns (next recs c) 0 ≡ c
    pub behind : (j : ℕ) → LOADS ≤ j → get_or ns j 0 ≡ get_or ns₀ j 0
    pub notes_long : length ns ≡ length ns₀

  pub pass_begin : (a : List ℕ) → a ≡ replicate 4096 0 → Passing 0 ns₀ c₀ a
  pass_begin a e =
      record {
        upto = omega arith;
        long = ap length e ∙ length-replicate {A = ℕ} 4096 0;
        hands = λ j. handed_zeros (own_down recs) recs 0 refl a e;
        chains = λ m. chain_start _ _ c₀ m;
        earlier = λ j l c h. absurd (omega arith);
        behind = λ j p. refl;
        notes_long = refl;
      }

  -- the record r: its owner is o, its links x and y
  module _ (few : size recs ≤ 4096) (r : ℕ) (ns : List ℕ) (d : Chain 4096) (a b c ns' : List ℕ) (d' : Chain 4096) (x y o t : ℕ) (inside : r < size recs)
      (h : Passing r ns d a)
      (ex : x ≡ first recs r) (ey : y ≡ next recs r)
      (eo : o ≡ get_or a r 0) (et : t ≡ own_down recs r o) (eb : length a ≡ 4096 → b ≡ handed a x t) (ec : length b ≡ 4096 → c ≡ handed b y o)
      (en : ns' ≡ note_earlier ns y r)
      (ew : ((is_ident (words recs r) ≡ true) × (d' ≡ chained d o r)) ⊎ ((is_ident (words recs r) ≡ false) × (d' ≡ d))) where
    long_b : length b ≡ 4096
    long_b = ap length (eb h.long) ∙ (handed_length a x t ∙ h.long)

    -- the owners of records up to r stay
    stays : (i : ℕ) → i < r + 1 → get_or a i 0 ≡ get_or c i 0
    stays i p =
        sym (ap (λ (l : List ℕ). get_or l i 0) (ec long_b)
        ∙ (handed_before b y o i (λ q. omega (arith, (next_inside recs r (rw ey at q)).0))
        ∙ (ap (λ (l : List ℕ). get_or l i 0) (eb h.long) ∙ handed_before a x t i (λ q. omega (arith, (first_inside recs r (rw ex at q)).0)))))

    chains_next : c₀ ≡ no_chains 4096 → IdentChains recs c (r + 1) d'
    chains_next m =
        let z : r + 1 ≡ suc r = omega arith in
        chain_owners _ (λ i. get_or a i 0) (λ i. get_or c i 0) d' (r + 1) stays (rw z (go ew))
      where
        go : ((is_ident (words recs r) ≡ true) × (d' ≡ chained d o r)) ⊎ ((is_ident (words recs r) ≡ false) × (d' ≡ d)) → IdentChains recs a (suc r) d'
        go (inl (i, e)) =
            subst (IdentChains recs a (suc r)) (sym (e ∙ ap (λ (k : ℕ). chained d k r) eo))
            (chain_more (λ r. is_ident (words recs r)) (λ i. get_or a i 0) d r (omega arith) i (h.chains m))
        go (inr (i, e)) = subst (IdentChains recs a (suc r)) (sym e) (chain_skip (λ r. is_ident (words recs r)) (λ i. get_or a i 0) d r i (h.chains m))

    earlier_next : Joined recs → length ns₀ ≡ 12288 → (d : ℕ) → d < r + 1 → 0 < next recs d → get_or ns' (next recs d) 0 ≡ d
    earlier_next j l d p q = ap (λ (k : List ℕ). get_or k (next recs d) 0) en ∙ go (ℕ_discrete d r)
      where
        go : Dec (d ≡ r) → get_or (note_earlier ns y r) (next recs d) 0 ≡ d
        go (yes e) =
            let u = next_inside recs r (rw e at q) in
            rw (e, ← ey) (noted_here ns y r (omega (arith, u.0)) (omega (arith, u.1)) (h.notes_long ∙ l))
        go (no e) =
            noted_other ns y r (next recs d)
            (λ u v w. e (same_leader recs j (next recs d) d r (omega arith) (next_inside recs d q).1 (omega arith) inside (omega (arith, one_same (next recs d)))
            (omega (arith, subst (λ (k : ℕ). one (next recs d) k ≡ 1) (w ∙ ey) (one_same (next recs d))))))
            ∙ h.earlier j l d (omega arith) q

    pub pass_next : Passing (r + 1) ns' d' c
    pass_next =
        record {
          upto = omega arith;
          long = ap length (ec long_b) ∙ (handed_length b y o ∙ long_b);
          hands = λ j. handed_more (own_down recs) recs 0 j few a b c r x y t o inside (h.hands j) ex eo (λ p. et) eb ey ec;
          chains = chains_next;
          earlier = earlier_next;
          behind = λ j p. ap (λ (l : List ℕ). get_or l j 0) en ∙ (noted_other ns y r j (λ u v w. omega arith) ∙ h.behind j p);
          notes_long = ap length en ∙ (noted_length ns y r ∙ h.notes_long);
        }

  pub pass_done : (r : ℕ) (ns : List ℕ) (c : Chain 4096) (a : List ℕ) → size recs ≤ r → Passing r ns c a → Passed recs ns₀ c₀ ns c
  pass_done r ns c a e h =
      let z : r ≡ size recs = omega (arith, h.upto) in
      record {
        owned = λ f m. record {
          owners = a;
          handed = λ j. subst (λ (k : ℕ). Handed (own_down recs) recs 0 k a) z (h.hands j);
          chained = subst (λ (k : ℕ). IdentChains recs a k c) z (h.chains m);
          earlier = λ j l d p q. h.earlier j (sym h.notes_long ∙ l) d (omega arith) q;
        };
        behind = h.behind;
        notes_long = h.notes_long;
      }
