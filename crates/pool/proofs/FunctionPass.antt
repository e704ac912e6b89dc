-- The pass over the functions: where each one's names start, and the functions inside each chained. Assumes nothing.
use mathlib.Core.Path.{◌≡◌, refl, sym, ap, subst, ◌∙◌}
use mathlib.Core.List.{List}
use Prim.Native.Nat.{ℕ, suc, ◌+◌, ◌-◌, ◌≤◌, ◌<◌}
use native.Mathlib.Omega.{arith}
use native.Mathlib.Decide.{ℕ_discrete}
use lib.ListN.{length, set, length-set}
use lib.Dec.{ltb}
use borrow.Author.Tests.{lt-ltb}
use Rattle.tables.specs.Semantic.{pairs, member_count, share_start}
use Rattle.tables.proofs.SemanticLaws.{start_zero, start_next, start_mono}
use Rattle.pool.specs.Chain.{no_chains, chained}
use Rattle.pool.specs.declared.chain.Chain.{Chain}
use Rattle.pool.specs.NameWords.{no_span, span_of}
use Rattle.pool.specs.NameSteps.{parent_owner}
use Rattle.pool.specs.ResolveSteps.{InnerChains}
use Rattle.pool.specs.declared.spans.Span.{Span}
use lib.Seq.{get_or-set_same, get_or-set_other}
use Rattle.pool.proofs.ChainLaws.{chain_start, chain_skip, chain_more}

module _ (functions : List ℕ) (sp₀ : List Span) (c₀ : Chain 257) where
  -- the first f functions have had their turn
  pub record Beginning (f start : ℕ) (sp : List Span) (c : Chain 257) : Type 0 where
    pub upto : f ≤ pairs functions
    pub start_is : start ≡ share_start functions f
    pub chains : c₀ ≡ no_chains 257 → InnerChains functions (suc f) c
    pub starts : pairs functions ≤ length sp₀ → (g : ℕ) → g < f → (span_of sp g).start ≡ share_start functions g
    pub past : (j : ℕ) → pairs functions ≤ j → span_of sp j ≡ span_of sp₀ j
    pub spans_long : length sp ≡ length sp₀

  pub begin_first : Beginning 0 0 sp₀ c₀
  begin_first =
      record {
        upto = omega arith;
        start_is = sym (start_zero functions);
        chains = λ z. chain_skip _ _ c₀ 0 refl (chain_start _ _ c₀ z);
        starts = λ h g p. absurd (omega arith);
        past = λ j p. refl;
        spans_long = refl;
      }

  pub begin_most : pairs functions ≤ 256 → share_start functions (pairs functions) ≤ 1024 → (f start : ℕ) (sp : List Span) (c : Chain 257) → f < pairs functions
      → Beginning f start sp c
      → start + member_count functions f ≤ 1024
  begin_most n m f start sp c p h = omega (arith, h.start_is, start_next functions f, start_mono functions (f + 1) (pairs functions) (omega arith))

  module _ (few : pairs functions ≤ 256) (f start : ℕ) (sp : List Span) (c : Chain 257) (sp' : List Span) (c' : Chain 257) (o count : ℕ) (inside : f < pairs functions)
      (h : Beginning f start sp c)
      (es : sp' ≡ set sp f (record { start = start; locals = 0; globals = 0; upvalues = 0 })) (eo : o ≡ parent_owner functions f)
      (ew : c' ≡ chained c o (f + 1)) (ec : count ≡ member_count functions f) where
    chains_next : c₀ ≡ no_chains 257 → InnerChains functions (suc (f + 1)) c'
    chains_next z =
        let y : f + 1 ≡ suc f = omega arith in
        let x : suc f - 1 ≡ f = omega arith in
        let e : c' ≡ chained c (parent_owner functions (suc f - 1)) (suc f) = ew ∙ rw (eo, y, x) in
        rw y
        (subst (InnerChains functions (suc (suc f))) (sym e)
        (chain_more (λ i. ltb 0 i) (λ i. parent_owner functions (i - 1)) c (suc f) (omega arith) (lt-ltb 0 (suc f) (omega arith)) (h.chains z)))

    starts_next : pairs functions ≤ length sp₀ → (g : ℕ) → g < f + 1 → (span_of sp' g).start ≡ share_start functions g
    starts_next r g p = ap (λ (l : List Span). (span_of l g).start) es ∙ go (ℕ_discrete g f)
      where
        go : Dec (g ≡ f) → (span_of (set sp f (record { start = start; locals = 0; globals = 0; upvalues = 0 })) g).start ≡ share_start functions g
        go (yes z) = rw z (ap (λ (x : Span). x.start) (get_or-set_same sp f _ no_span (omega (arith, h.spans_long))) ∙ h.start_is)
        go (no z) = ap (λ (x : Span). x.start) (get_or-set_other sp f g _ no_span z) ∙ h.starts r g (omega arith)

    pub begin_next : Beginning (f + 1) (start + count) sp' c'
    begin_next =
        record {
          upto = omega arith;
          start_is = omega (arith, h.start_is, start_next functions f, ec);
          chains = chains_next;
          starts = starts_next;
          past = λ j p. ap (λ (l : List Span). span_of l j) es ∙ (get_or-set_other sp f j _ no_span (λ e. omega arith) ∙ h.past j p);
          spans_long = ap length es ∙ (length-set sp f _ ∙ h.spans_long);
        }
