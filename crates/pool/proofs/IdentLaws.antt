-- Going through the Idents of an owner and noting each. Assumes nothing.
use Rattle.std.proofs.lemmas.Bool.{cond-true, and_parts}
use mathlib.Core.Path.{◌≡◌, refl, sym, ap, ap₂, ◌∙◌}
use mathlib.Core.Bool.{Bool, true, false, cond, ◌&&◌}
use mathlib.Core.List.{List}
use mathlib.Core.Logic.{◌⊎◌, inl, inr}
use Prim.Native.Nat.{ℕ, zero, suc, ◌+◌, ◌-◌, ◌%◌, ◌≤◌, ◌<◌}
use native.Mathlib.Omega.{arith}
use native.Mathlib.Decide.{ℕ_discrete}
use lib.ListN.{length, get_or, set, length-set}
use lib.Seq.{get_or-set_same, get_or-set_other}
use lib.Dec.{ltb}
use borrow.Author.Tests.{lt-ltb, ltb-true, eq-eqb, eqb-true}
use Rattle.tables.specs.Record.{word, words, size, is_ident}
use Rattle.tables.specs.Semantic.{symbol_of}
use Rattle.tables.specs.declared.refusal.RunRule.TheVariants.{Reference}
use Rattle.tables.proofs.SemanticLaws.{split}
use Rattle.pool.specs.Names.{Semantic, semantic, Names, names, Access, missing, load, store, load_symbol, store_symbol}
use Rattle.pool.specs.Chain.{OWNERS, first_of, next_of}
use Rattle.pool.specs.Scope.{owner_of}
use Rattle.pool.specs.declared.scope.Scope.{Scope}
use Rattle.pool.specs.Lookups.{load_in, store_in}
use Rattle.pool.specs.NameSteps.{owner_names, Shown}
use Rattle.pool.specs.Notes.{RECORDS, LOADS, STORES, load_note, store_note, note_ident}
use Rattle.pool.specs.ResolveSteps.{of_owner, IdentChains, notes_at, ident_notes, NotedIn, IdentBelow, NotedBelow, NotesIdents}
use Rattle.pool.proofs.ChainLaws.{halt_first, halt_next, none_above, none_between, next_less}

-- a load or a store by the stamped names is that of the owner's function
module _ (t : Semantic) (sc : Scope) (h : Shown t sc) (some : 0 < owner_of sc) where
  own_names : owner_names t (owner_of sc) ≡ names t (owner_of sc - 1)
  own_names = go (owner_of sc) some
    where
      go : (o : ℕ) → 0 < o → owner_names t o ≡ names t (o - 1)
      go zero p = absurd (omega arith)
      go (suc f) p = let z : f ≡ suc f - 1 = omega arith in ap (names t) z

  load_shown : (r : ℕ) → load_in t.references sc r ≡ load t (owner_of sc - 1) r
  unfolding load_in load
  load_shown r =
      let s = symbol_of t.references r in
      rw (h.locals s, h.upvalues s, h.globals s)
      (ap (λ (n : Names). cond (ltb r (length t.references)) (load_symbol n s) (missing Reference)) own_names)

  store_shown : (r : ℕ) → store_in t.symbols t.references sc r ≡ store t (owner_of sc - 1) r
  unfolding store_in store
  store_shown r =
      let s = symbol_of t.references r in
      rw (h.locals s, h.globals s)
      (ap (λ (n : Names). cond (ltb r (length t.references)) (store_symbol t n s) (missing Reference)) own_names)

-- two words noted at a record
module _ (ns : List ℕ) (r a b : ℕ) where
  abbrev mid : List ℕ
  mid = set ns (LOADS + r) a

  pub note_length : length (note_ident ns r a b) ≡ length ns
  unfolding note_ident
  note_length = go (ltb r RECORDS)
    where
      go : (x : Bool) → length (cond x (set mid (STORES + r) b) ns) ≡ length ns
      go true = length-set mid (STORES + r) b ∙ length-set ns (LOADS + r) a
      go false = refl

  note_other : (j : ℕ) → (r < RECORDS → j ≡ LOADS + r → ⊥) → (r < RECORDS → j ≡ STORES + r → ⊥) → get_or (note_ident ns r a b) j 0 ≡ get_or ns j 0
  unfolding note_ident
  note_other j p q = go (ltb r RECORDS) refl
    where
      go : (x : Bool) → ltb r RECORDS ≡ x → get_or (cond x (set mid (STORES + r) b) ns) j 0 ≡ get_or ns j 0
      go true e = get_or-set_other mid (STORES + r) j b 0 (q (ltb-true _ _ e)) ∙ get_or-set_other ns (LOADS + r) j a 0 (p (ltb-true _ _ e))
      go false e = refl

  note_front : (j : ℕ) → j < LOADS → get_or (note_ident ns r a b) j 0 ≡ get_or ns j 0
  note_front j h = note_other j (λ p e. omega arith) (λ p e. omega arith)

  note_elsewhere : (q : ℕ) → q < RECORDS → (q ≡ r → ⊥) → notes_at (note_ident ns r a b) q ≡ notes_at ns q
  note_elsewhere q h d =
      ap₂ (λ (x y : ℕ). (x, y)) (note_other (LOADS + q) (λ p e. d (omega arith)) (λ p e. omega arith))
      (note_other (STORES + q) (λ p e. omega arith) (λ p e. d (omega arith)))

  note_here : r < RECORDS → length ns ≡ 12288 → notes_at (note_ident ns r a b) r ≡ (a, b)
  unfolding note_ident
  note_here h l =
      let e : note_ident ns r a b ≡ set mid (STORES + r) b = cond-true _ _ _ (lt-ltb r RECORDS h) in
      let x : get_or (set mid (STORES + r) b) (LOADS + r) 0 ≡ a =
      get_or-set_other mid (STORES + r) (LOADS + r) b 0 (λ q. omega arith) ∙ get_or-set_same ns (LOADS + r) a 0 (omega arith) in
      let y : get_or (set mid (STORES + r) b) (STORES + r) 0 ≡ b = get_or-set_same mid (STORES + r) b 0 (omega (arith, length-set ns (LOADS + r) a)) in
      ap (λ (w : List ℕ). notes_at w r) e ∙ ap₂ (λ (u v : ℕ). (u, v)) x y

module _ (t : Semantic) (recs owners : List ℕ) where
  noted_same : (D E : ℕ → Type 0) (ns : List ℕ) → ((q : ℕ) → E q → D q) → ((q : ℕ) → D q → E q) → NotedIn t recs owners D ns → NotedIn t recs owners E ns
  noted_same D E ns f g h = record { long = h.long; noted = λ q e. h.noted q (f q e); rest = λ q p e. h.rest q p (λ d. e (g q d)) }

  noted_more : (D : ℕ → Type 0) (ns ns' : List ℕ) (x a b : ℕ) → x < RECORDS → ((q : ℕ) → D q → q < RECORDS) → ns' ≡ note_ident ns x a b
      → (a, b) ≡ ident_notes t recs (get_or owners x 0 % OWNERS) x → NotedIn t recs owners D ns → NotedIn t recs owners (λ q. (D q) ⊎ (q ≡ x)) ns'
  noted_more D ns ns' x a b p small e v h =
      record {
        long = ap length e ∙ (note_length ns x a b ∙ h.long);
        noted = λ q d. ap (λ (w : List ℕ). notes_at w q) e ∙ go q d (ℕ_discrete q x);
        rest = λ q r d. ap (λ (w : List ℕ). notes_at w q) e ∙ (note_elsewhere ns x a b q r (λ z. d (inr z)) ∙ h.rest q r (λ z. d (inl z)));
      }
    where
      here : (q : ℕ) → q ≡ x → notes_at (note_ident ns x a b) q ≡ ident_notes t recs (get_or owners q 0 % OWNERS) q
      here q z = rw z (note_here ns x a b p h.long ∙ v)

      go : (q : ℕ) → (D q) ⊎ (q ≡ x) → Dec (q ≡ x) → notes_at (note_ident ns x a b) q ≡ ident_notes t recs (get_or owners q 0 % OWNERS) q
      go q d (yes z) = here q z
      go q (inl d) (no z) = note_elsewhere ns x a b q (small q d) z ∙ h.noted q d
      go q (inr d) (no z) = absurd (z d)

module _ (recs owners : List ℕ) (sc : Scope) where
  abbrev item : ℕ → Bool
  item r = is_ident (words recs r)

  abbrev owner : ℕ → ℕ
  owner r = get_or owners r 0

  abbrev mine : ℕ → Bool
  mine r = of_owner item owner (owner_of sc) r

  -- an Ident of the current owner, or the end
  abbrev Halting : ℕ → Type 0
  Halting x = 0 < x → (x < size recs) × (mine x ≡ true)

  right : (a b : Bool) → a && b ≡ true → b ≡ true
  right true b e = e
  right false b e = absurd (let z : ◌≡◌ {A = ℕ} 0 1 = cc in omega arith)

  mine_owner : (r : ℕ) → mine r ≡ true → get_or owners r 0 % OWNERS ≡ owner_of sc
  mine_owner r e = eqb-true _ _ (right (item r) _ e)

  owner_mine : (r : ℕ) → is_ident (words recs r) ≡ true → get_or owners r 0 % OWNERS ≡ owner_of sc → mine r ≡ true
  owner_mine r i e = rw (i, eq-eqb _ _ e)

  -- an Ident of the current owner behind x
  pub record Later (x q : ℕ) : Type 0 where
    pub inside : q < size recs
    pub own : mine q ≡ true
    pub later : x < q

  abbrev Behind : ℕ → ℕ → Type 0
  Behind x q = (IdentBelow recs owners (owner_of sc) q) ⊎ (Later x q)

  behind_small : size recs ≤ 4096 → (x q : ℕ) → Behind x q → q < RECORDS
  behind_small few x q (inl i) = omega (arith, i.inside)
  behind_small few x q (inr l) = omega (arith, l.inside)

module _ (recs symbols references : List ℕ) (sc : Scope) (ns : List ℕ) where
  pub record Noting (x : ℕ) (ns' : List ℕ) : Type 0 where
    pub front : (j : ℕ) → j < LOADS → get_or ns' j 0 ≡ get_or ns j 0
    pub noted : (functions members owners : List ℕ)
        → (let t = semantic symbols references functions members in
        size recs ≤ 4096 → IdentChains recs owners (size recs) sc.idents → Shown t sc → 0 < owner_of sc → NotedBelow t recs owners (owner_of sc) ns
        → Halting recs owners sc x × NotedIn t recs owners (Behind recs owners sc x) ns')

  pub noting_first : (x : ℕ) → x ≡ first_of sc.idents sc.owner → Noting x ns
  noting_first x e =
      record {
        front = λ j p. refl;
        noted = λ functions members owners few chains shown some h. (
          halt_first (item recs owners sc) (owner recs owners sc) sc.idents sc.owner (size recs) few chains x e,
          noted_same (semantic symbols references functions members) recs owners _ (Behind recs owners sc x) ns (λ q b. go owners few chains q b) (λ q i. inl i) h,
        );
      }
    where
      go : (owners : List ℕ) → size recs ≤ 4096 → IdentChains recs owners (size recs) sc.idents → (q : ℕ) → Behind recs owners sc x q → IdentBelow recs owners (owner_of sc) q
      go owners few chains q (inl i) = i
      go owners few chains q (inr l) =
          absurd (none_above (item recs owners sc) (owner recs owners sc) sc.idents sc.owner (size recs) few chains x e q l.later l.inside l.own)

  -- the Ident at x is noted, and y comes next
  module _ (x y : ℕ) (ns₁ ns₂ : List ℕ) (p : ℕ) (a b : Access) (some : 0 < x) (h : Noting x ns₁) (ep : p ≡ word recs x 2) (ea : a ≡ load_in references sc p)
      (eb : b ≡ store_in symbols references sc p) (en : ns₂ ≡ note_ident ns₁ x (load_note a) (store_note b)) (ey : y ≡ next_of sc.idents x) where
    pub noting_next : Noting y ns₂
    noting_next =
        record {
          front = λ j q. ap (λ (w : List ℕ). get_or w j 0) en ∙ (note_front ns₁ x (load_note a) (store_note b) j q ∙ h.front j q);
          noted = λ functions members owners few chains shown pos was. go functions members owners few chains shown pos (h.noted functions members owners few chains shown pos was);
        }
      where
        go : (functions members owners : List ℕ)
            → (let t = semantic symbols references functions members in
            size recs ≤ 4096 → IdentChains recs owners (size recs) sc.idents → Shown t sc → 0 < owner_of sc
            → Halting recs owners sc x × NotedIn t recs owners (Behind recs owners sc x) ns₁ → Halting recs owners sc y × NotedIn t recs owners (Behind recs owners sc y) ns₂)
        go functions members owners few chains shown pos (s, m) =
            let t = semantic symbols references functions members in
            let o : get_or owners x 0 % OWNERS ≡ owner_of sc = mine_owner recs owners sc x (s some).1 in
            let la : load_note a ≡ load_note (load t (get_or owners x 0 % OWNERS - 1) (word recs x 2)) =
            ap load_note (ea ∙ (load_shown t sc shown pos p ∙ ap₂ (λ (i j : ℕ). load t (i - 1) j) (sym o) ep)) in
            let lb : store_note b ≡ store_note (store t (get_or owners x 0 % OWNERS - 1) (word recs x 2)) =
            ap store_note (eb ∙ (store_shown t sc shown pos p ∙ ap₂ (λ (i j : ℕ). store t (i - 1) j) (sym o) ep)) in (
              halt_next (item recs owners sc) (owner recs owners sc) sc.idents sc.owner (size recs) few chains x y some s ey,
              noted_same t recs owners (λ q. (Behind recs owners sc x q) ⊎ (q ≡ x)) (Behind recs owners sc y) ns₂ (λ q d. back few chains s q d) (λ q d. on s q d)
                  (noted_more t recs owners (Behind recs owners sc x) ns₁ ns₂ x (load_note a) (store_note b) (omega (arith, (s some).0)) (behind_small recs owners sc few x) en
                  (ap₂ (λ (u v : ℕ). (u, v)) la lb) m),
            )
          where
            less : y < x
            less = next_less sc.idents x y ey (λ z. omega arith)

            back : size recs ≤ 4096 → IdentChains recs owners (size recs) sc.idents → Halting recs owners sc x → (q : ℕ) → Behind recs owners sc y q
                → (Behind recs owners sc x q) ⊎ (q ≡ x)
            back few chains s q (inl i) = inl (inl i)
            back few chains s q (inr l) = at (ℕ_discrete q x) (split (suc x) q)
              where
                at : Dec (q ≡ x) → (suc x ≤ q) ⊎ (q < suc x) → (Behind recs owners sc x q) ⊎ (q ≡ x)
                at (yes z) w = inr z
                at (no z) (inl w) = inl (inr (record { inside = l.inside; own = l.own; later = w }))
                at (no z) (inr w) =
                    absurd (none_between (item recs owners sc) (owner recs owners sc) sc.idents sc.owner (size recs) few chains x y some s ey q l.later (omega arith) l.own)

            on : Halting recs owners sc x → (q : ℕ) → (Behind recs owners sc x q) ⊎ (q ≡ x) → Behind recs owners sc y q
            on s q (inl (inl i)) = inl i
            on s q (inl (inr l)) = inr (record { inside = l.inside; own = l.own; later = omega (arith, l.later, less) })
            on s q (inr z) = rw z (inr (record { inside = (s some).0; own = (s some).1; later = less }))

  pub noting_last : (x : ℕ) (ns' : List ℕ) → x ≡ 0 → Noting x ns' → NotesIdents recs symbols references sc ns ns'
  noting_last x ns' e h =
      record {
        front = h.front;
        noted = λ functions members owners few chains shown pos was.
            noted_same (semantic symbols references functions members) recs owners (Behind recs owners sc x) _ ns' (λ q i. go owners q i) (λ q b. back owners pos q b)
            (h.noted functions members owners few chains shown pos was).1;
      }
    where
      go : (owners : List ℕ) (q : ℕ) → IdentBelow recs owners (suc (owner_of sc)) q → Behind recs owners sc x q
      go owners q i = at (ℕ_discrete (get_or owners q 0 % OWNERS) (owner_of sc))
        where
          at : Dec (get_or owners q 0 % OWNERS ≡ owner_of sc) → Behind recs owners sc x q
          at (yes z) = inr (record { inside = i.inside; own = owner_mine recs owners sc q i.ident z; later = omega (arith, i.positive) })
          at (no z) = inl (record { positive = i.positive; inside = i.inside; ident = i.ident; owned = i.owned; before = omega (arith, i.before) })

      back : (owners : List ℕ) → 0 < owner_of sc → (q : ℕ) → Behind recs owners sc x q → IdentBelow recs owners (suc (owner_of sc)) q
      back owners pos q (inl i) = record { positive = i.positive; inside = i.inside; ident = i.ident; owned = i.owned; before = omega (arith, i.before) }
      back owners pos q (inr l) =
          let o = mine_owner recs owners sc q l.own in
          record {
            positive = omega (arith, l.later);
            inside = l.inside;
            ident = (and_parts (item recs owners sc q) _ l.own).0;
            owned = omega arith;
            before = omega arith;
          }
