-- A run's begin, and a function inside another as its own stream. Assumes nothing.
use mathlib.Core.Path.{◌≡◌, refl, sym, ap, ◌∙◌}
use mathlib.Core.Bool.{Bool, true, false}
use mathlib.Core.List.{List, []}
use Prim.Native.Nat.{ℕ, suc, ◌+◌, min}
use native.Mathlib.Omega.{arith}
use lib.ListN.{length}
use lib.Dec.{eqb}
use Rattle.std.proofs.lemmas.List.{length-replicate}
use Rattle.std.specs.Borrow.{MutBor}
use Rattle.pool.specs.Consts.{most}
use Rattle.tables.specs.Record.{Words}
use Rattle.tables.specs.declared.refusal.RunRule.TheVariants.{Skipped}
use Rattle.rules.specs.declared.Flow.TheVariants.{Go, Refused}
use Rattle.rules.specs.declared.StackCode.{StackCode}
use Rattle.rules.specs.Run.{Error, Side, State, st, marks, labels, loops, opened, flow, side, halt, settle, kept, anew, returned, entered, nested}
use Rattle.context.specs.Words.{cap, KEPT}
use Rattle.context.specs.Sinks.{label_id, with_code, with_consts, beginning, goes, stopped, outer_of, inside, back_to, kept as kept_of}
use Rattle.context.specs.Rep.{Flat, Noted, Walk, within, Stack, Rep, Lent, Sim}
use Rattle.context.specs.declared.Context.{Context}
use Rattle.context.specs.declared.function.Outer.{Outer}
use Rattle.context.proofs.Basics.{clash, shape, no_nested}
use Rattle.context.proofs.RepLaws.{given, stands, went, stood, halted}
use Rattle.context.proofs.MarkLaws.{settled}
use Rattle.context.proofs.SizeLaws.{stopped_sizes, kept_sizes, inside_sizes, back_sizes}

-- ---- a run begins: no marker, no label, no loop, no error

-- the words o₀ and cs₀ having been in the slices before
pub started : {records : List ℕ} (o₀ cs₀ : List ℕ) (code consts : MutBor (List ℕ)) (sc : StackCode) (nest : Bool) (r : ℕ) {x : Context} (e : Side) → e.errors ≡ []
    → (nest ≡ true → e.met ≡ 0) → (nest ≡ false → Flat records o₀ cs₀ [] code.now consts.now 0 1) → (nest ≡ true → Noted o₀ cs₀ [] code.now consts.now)
    → x ≡ beginning code consts sc nest r
    → Rep (record { code = sc; nest = nest; function = r }) records (with_code o₀ (with_consts cs₀ x)) (st [] 0 [] [] Go e) x
unfolding Stack
started o₀ cs₀ code consts sc nest r {x} e es me flat noted q = stands q (record {
  code = ap (λ (y : Context). y.code.ghost_name) (sym q);
  consts = ap (λ (y : Context). y.consts.ghost_name) (sym q);
  flat = flat;
  noted = λ i. rw es (noted i);
  labels = refl;
  size = length-replicate KEPT (label_id 0);
  loops = λ i. tt;
  depth = refl;
  deep = omega arith;
  flow = refl;
  errors = ap (λ (k : List Error). cap (length k)) (sym es);
  met = λ i. let z : e.met ≡ 0 = me i in omega arith;
  nest = refl;
  function = refl;
  stack = refl;
})

-- ---- a block's item: an error of it is kept

module _ (e : Lent) (v : Walk → State → State) {x : Context} where
  pub item_goes : {x' x'' : Context} → goes x ≡ true → Sim e x x' v → x'' ≡ kept_of x' → Sim e x x'' (λ c. kept (v c))
  unfolding kept
  item_goes g a b = record {
    sim = λ z c x₀ A h.
        let q : A ≡ st (marks A) (labels A) (loops A) (opened A) Go (side A) = shape A (went h g) in
        given (ap (kept (v c)) q ∙ ap (λ (B : State). settle (v c B)) (sym q)) (settled b (a.sim z c x₀ A h));
    sizes = kept_sizes _ b ∙ a.sizes;
  }

-- ---- the function at record r, whose words are p and whose stream is v

more_met : (f n : ℕ) → f ≡ min n most → min (f + 1) most ≡ min (suc n) most
more_met f n e = omega arith

entering : (b : Bool) (r : ℕ) (p : Words) (v : State → State) (A : State) → flow A ≡ Go → eqb p.p (side A).met ≡ b
    → nested true r p v A ≡ entered b r p v (marks A) (labels A) (loops A) (opened A) (side A)
unfolding nested
entering b r p v A g e =
    ap (nested true r p v) (shape A g) ∙ ap (λ (c : Bool). entered c r p v (marks A) (labels A) (loops A) (opened A) (side A)) e

module _ (e : Lent) (r : ℕ) (p : Words) (v : Walk → State → State) where
  abbrev pub Inside : Context → Context → Type 0
  Inside x x' = Sim e x x' (λ c. nested c.nest r p (v (within r c)))

  pub inside_none : {x : Context} → x.nest ≡ false → Inside x x
  unfolding nested
  inside_none n = record { sim = λ z c x₀ A h. given (ap (λ (b : Bool). nested b r p (v (within r c)) A) (sym h.nest ∙ n)) h; sizes = refl }

  pub inside_still : {x : Context} → goes x ≡ false → Inside x x
  inside_still n = record { sim = λ z c x₀ A h. given (no_nested c.nest r p (v (within r c)) A (stood h n)) h; sizes = refl }

  module _ {x : Context} {b : Bool} (n : x.nest ≡ true) (g : goes x ≡ true) (d : (m : ℕ) → x.functions ≡ min m most → b ≡ eqb p.p m) where
    nest_now : {c : Walk} {x₀ : Context} {A : State} {q : Bool} → Rep c e.records x₀ A x → b ≡ q → (f : State → State)
        → nested c.nest r p f A ≡ entered q r p f (marks A) (labels A) (loops A) (opened A) (side A)
    nest_now {c} {A = A} {q} h y f =
        let k : c.nest ≡ true = sym h.nest ∙ n in
        ap (λ (i : Bool). nested i r p f A) k ∙ entering q r p f A (went h g) (sym (d (side A).met (h.met k)) ∙ y)

    -- refusal 16
    pub inside_skipped : {x' : Context} → b ≡ false → x' ≡ stopped (Refused Skipped r) x → Inside x x'
    unfolding halt
    inside_skipped y k = record {
      sim = λ z c x₀ A h.
          given (nest_now h y (v (within r c)) ∙ sym (ap (halt (Refused Skipped r)) (shape A (went h g)))) (halted (Refused Skipped r) k h);
      sizes = stopped_sizes _ _ k;
    }

    -- the code's calls: begin_function, the stream, keep_error, end_function
    pub inside_goes : {x₁ x₂ x₃ x₄ : Context} {o : Outer} → b ≡ true → o ≡ outer_of x → x₁ ≡ inside r x → Sim e x₁ x₂ v → x₃ ≡ kept_of x₂ → x₄ ≡ back_to o x₃ → Inside x x₄
    unfolding Stack
    inside_goes {x₃ = x₃} y j i a k q = record {
      sim = λ z c x₀ A h.
          let m : c.nest ≡ true = sym h.nest ∙ n in
          let hB : Rep (within r c) e.records x₀ (anew (side A)) (inside r x) = record {
            code = h.code;
            consts = h.consts;
            flat = λ f. absurd (clash (sym m ∙ f));
            noted = h.noted;
            labels = refl;
            size = h.size;
            loops = λ f. tt;
            depth = refl;
            deep = omega arith;
            flow = h.flow ∙ went h g;
            errors = h.errors;
            met = λ f. more_met x.functions (side A).met (h.met m);
            nest = h.nest;
            function = refl;
            stack = h.stack;
          } in
          given (nest_now h y (v (within r c))) (stands (q ∙ ap (λ (u : Outer). back_to u x₃) j) (left c m h (settled k (a.sim z (within r c) x₀ (anew (side A)) (stands i hB)))));
      sizes = back_sizes _ _ q ∙ kept_sizes _ k ∙ a.sizes ∙ inside_sizes _ _ i;
    }
      where
        left : (c : Walk) {x₀ : Context} {A X : State} → c.nest ≡ true → Rep c e.records x₀ A x → Rep (within r c) e.records x₀ X x₃
            → Rep c e.records x₀ (returned r p (marks A) (labels A) (loops A) (opened A) X) (back_to (outer_of x) x₃)
        left c {A = A} {X = st m l ls os f s} j h k = record {
          code = k.code;
          consts = k.consts;
          flat = λ f. absurd (clash (sym j ∙ f));
          noted = k.noted;
          labels = h.labels;
          size = k.size;
          loops = λ f. absurd (clash (sym j ∙ f));
          depth = h.depth;
          deep = h.deep;
          flow = k.flow;
          errors = k.errors;
          met = k.met;
          nest = k.nest;
          function = h.function;
          stack = k.stack;
        }
