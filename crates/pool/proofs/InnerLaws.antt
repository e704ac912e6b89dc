-- Going through the functions inside an owner and naming each. Assumes nothing.
use Rattle.std.proofs.lemmas.Bool.{cond-true, and_parts}
use mathlib.Core.Path.{◌≡◌, refl, sym, ap, ◌∙◌}
use mathlib.Core.Bool.{Bool, true, false, cond}
use mathlib.Core.List.{List}
use mathlib.Core.Logic.{◌⊎◌, inl, inr}
use Prim.Native.Nat.{ℕ, suc, ◌+◌, ◌-◌, ◌%◌, ◌≤◌, ◌<◌}
use native.Mathlib.Omega.{arith}
use native.Mathlib.Decide.{ℕ_discrete}
use lib.ListN.{length}
use lib.Dec.{ltb}
use borrow.Author.Tests.{le-leb, lt-ltb, ltb-true, eq-eqb, eqb-true}
use Rattle.tables.specs.Semantic.{pairs, parent_of, member_count, share_start}
use Rattle.tables.proofs.SemanticLaws.{split}
use Rattle.pool.specs.declared.spans.Span.{Span}
use Rattle.pool.specs.Names.{Semantic, semantic, share}
use Rattle.pool.specs.Chain.{OWNERS, first_of, next_of}
use Rattle.pool.specs.Scope.{owner_of}
use Rattle.pool.specs.declared.scope.Scope.{Scope}
use Rattle.pool.specs.NameWords.{span_of, class_of}
use Rattle.pool.specs.NameSteps.{class_in, entries_named, spans_named, Fits, parent_owner, owner_names, Shown}
use Rattle.pool.specs.ResolveSteps.{of_owner, InnerChains, share_from, Made, MadeBelow}
use Rattle.pool.proofs.ChainLaws.{halt_first, halt_next, none_above, none_between}
use Rattle.pool.proofs.NameUpto.{share_fits}
use Rattle.pool.proofs.MadeLaws.{made_weaken, made_more}

-- classes by the stamped names are those by the owner's
pub class_shown : (t : Semantic) (sc : Scope) → Shown t sc → (s : ℕ) → class_in t.symbols sc s ≡ class_of t (owner_names t (owner_of sc)) s
class_shown t sc h s = rw (h.locals s, h.upvalues s)

-- a parent as an owner comes before its child
pub parent_before : (functions : List ℕ) (f : ℕ) → parent_owner functions f ≤ f
parent_before functions f = go (ltb (parent_of functions f) f) refl
  where
    go : (b : Bool) → ltb (parent_of functions f) f ≡ b → cond b (suc (parent_of functions f)) 0 ≤ f
    go true e = omega (arith, ltb-true (parent_of functions f) f e)
    go false e = omega arith

module _ (functions : List ℕ) (sc : Scope) where
  abbrev item : ℕ → Bool
  item i = ltb 0 i

  abbrev owner : ℕ → ℕ
  owner i = parent_owner functions (i - 1)

  -- whether function i - 1 is inside the current owner
  abbrev inside : ℕ → Bool
  inside i = of_owner item owner (owner_of sc) i

  -- such a function, or the end
  abbrev Halting : ℕ → Type 0
  Halting x = 0 < x → (x < suc (pairs functions)) × (inside x ≡ true)

  inside_is : pairs functions ≤ 256 → (f : ℕ) → f < pairs functions → parent_owner functions f ≡ owner_of sc → inside (suc f) ≡ true
  inside_is few f h e =
      let z : suc f - 1 ≡ f = omega arith in
      let y : parent_owner functions (suc f - 1) % OWNERS ≡ owner_of sc = omega (arith, ap (parent_owner functions) z, parent_before functions f) in
      rw (lt-ltb 0 (suc f) (omega arith), eq-eqb _ _ y)

  is_inside : pairs functions ≤ 256 → (x : ℕ) → 0 < x → Halting x → parent_owner functions (x - 1) ≡ owner_of sc
  is_inside few x p h =
      let e : parent_owner functions (x - 1) % OWNERS ≡ owner_of sc = eqb-true _ _ (and_parts (item x) _ (h p).1).1 in
      omega (arith, parent_before functions (x - 1), (h p).0)

  -- functions inside earlier owners are named, and those of this one behind x
  abbrev Behind : ℕ → ℕ → Type 0
  Behind x f = (parent_owner functions f < owner_of sc) ⊎ ((parent_owner functions f ≡ owner_of sc) × (x < suc f))

module _ (symbols functions members : List ℕ) (sc : Scope) (ws : List ℕ) (sp : List Span) where
  pub record Naming (x : ℕ) (ws' : List ℕ) (sp' : List Span) : Type 0 where
    pub named : (references ws₀ : List ℕ) (sp₀ : List Span)
        → (let t = semantic symbols references functions members in
        Fits t (length ws₀) (length sp₀) → InnerChains functions (suc (pairs functions)) sc.inners → Shown t sc → MadeBelow t (owner_of sc) ws₀ sp₀ ws sp
        → Halting functions sc x × Made t (Behind functions sc x) ws₀ sp₀ ws' sp')

  pub naming_first : (x : ℕ) → x ≡ first_of sc.inners sc.owner → Naming x ws sp
  naming_first x e =
      record {
        named = λ references ws₀ sp₀ fit chains shown made.
            let t = semantic symbols references functions members in
            let few : suc (pairs functions) ≤ 257 = omega (arith, fit.functions_limit) in (
              halt_first (item functions sc) (owner functions sc) sc.inners sc.owner (suc (pairs functions)) few chains x e,
              made_weaken t _ (Behind functions sc x) ws₀ sp₀ ws sp (λ f p b. go references few chains fit.functions_limit f p b) made,
            );
      }
    where
      go : (references : List ℕ) → suc (pairs functions) ≤ 257 → InnerChains functions (suc (pairs functions)) sc.inners → pairs functions ≤ 256
          → (f : ℕ) → f < pairs functions → Behind functions sc x f → parent_owner functions f < owner_of sc
      go references few chains lim f p (inl b) = b
      go references few chains lim f p (inr (b, c)) =
          absurd (none_above (item functions sc) (owner functions sc) sc.inners sc.owner (suc (pairs functions)) few chains x e (suc f) c (omega arith)
          (inside_is functions sc lim f p b))

  -- function x - 1 is named, and y comes next
  module _ (x y : ℕ) (ws₁ : List ℕ) (sp₁ : List Span) (ws₂ : List ℕ) (sp₂ : List Span) (share₁ : List ℕ) (some : 0 < x) (h : Naming x ws₁ sp₁)
      (es : share₁ ≡ share_from functions members (span_of sp₁ (x - 1)).start (x - 1))
      (ew : ws₂ ≡ entries_named (class_in symbols sc) share₁ ws₁ (span_of sp₁ (x - 1)).start) (ep : sp₂ ≡ spans_named (class_in symbols sc) share₁ sp₁ (x - 1))
      (ey : y ≡ next_of sc.inners x) where
    pub naming_next : Naming y ws₂ sp₂
    naming_next = record { named = λ references ws₀ sp₀ fit chains shown made. go references ws₀ sp₀ fit chains shown (h.named references ws₀ sp₀ fit chains shown made) }
      where
        go : (references ws₀ : List ℕ) (sp₀ : List Span)
            → (let t = semantic symbols references functions members in
            Fits t (length ws₀) (length sp₀) → InnerChains functions (suc (pairs functions)) sc.inners → Shown t sc
            → Halting functions sc x × Made t (Behind functions sc x) ws₀ sp₀ ws₁ sp₁
            → Halting functions sc y × Made t (Behind functions sc y) ws₀ sp₀ ws₂ sp₂)
        go references ws₀ sp₀ fit chains shown (s, m) =
            let t = semantic symbols references functions members in
            let few : suc (pairs functions) ≤ 257 = omega (arith, fit.functions_limit) in
            let f = x - 1 in
            let i : f < pairs functions = omega (arith, (s some).0) in
            let o : parent_owner functions f ≡ owner_of sc = is_inside functions sc fit.functions_limit x some s in
            let k : share₁ ≡ share t f =
            es ∙ (ap (λ (a : ℕ). share_from functions members a f) (m.starts f i)
            ∙ cond-true _ _ _ (le-leb (share_start functions f + member_count functions f) (length members) (share_fits t fit.counted f i))) in
            let c : (z : ℕ) → class_in symbols sc z ≡ class_of t (owner_names t (parent_owner functions f)) z =
            λ z. class_shown t sc shown z ∙ ap (λ (q : ℕ). class_of t (owner_names t q) z) (sym o) in (
              halt_next (item functions sc) (owner functions sc) sc.inners sc.owner (suc (pairs functions)) few chains x y some s ey,
              made_weaken t _ (Behind functions sc y) ws₀ sp₀ ws₂ sp₂ (λ g p b. by few chains fit.functions_limit s g p b)
                  (made_more t ws₀ sp₀ fit (Behind functions sc x) ws₁ sp₁ ws₂ sp₂ m f i (class_in symbols sc) share₁ c k ew ep),
            )
          where
            by : suc (pairs functions) ≤ 257 → InnerChains functions (suc (pairs functions)) sc.inners → pairs functions ≤ 256 → Halting functions sc x
                → (g : ℕ) → g < pairs functions → Behind functions sc y g → (Behind functions sc x g) ⊎ (g ≡ x - 1)
            by few chains lim s g p (inl b) = inl (inl b)
            by few chains lim s g p (inr (b, c)) = at (ℕ_discrete (suc g) x) (split (suc x) (suc g))
              where
                at : Dec (suc g ≡ x) → (suc x ≤ suc g) ⊎ (suc g < suc x) → (Behind functions sc x g) ⊎ (g ≡ x - 1)
                at (yes z) w = inr (omega arith)
                at (no z) (inl w) = inl (inr (b, w))
                at (no z) (inr w) =
                    absurd (none_between (item functions sc) (owner functions sc) sc.inners sc.owner (suc (pairs functions)) few chains x y some s ey (suc g) c (omega arith)
                    (inside_is functions sc lim g p b))
