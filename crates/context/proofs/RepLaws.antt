-- An equation on the context is a move of the state: the moves that write no word of the output. Assumes nothing.
use mathlib.Core.Path.{◌≡◌, refl, sym, ap, ◌∙◌, subst⁻¹}
use mathlib.Core.Bool.{Bool, true, false}
use mathlib.Core.List.{List, [], ◌∷◌}
use Prim.Native.Nat.{ℕ, zero, suc, ◌-◌}
use native.Mathlib.Omega.{arith}
use lib.ListN.{length}
use Rattle.opcode.specs.declared.index.LabelId.{LabelId}
use Rattle.rules.specs.declared.Flow.{Flow}
use Rattle.rules.specs.declared.Flow.TheVariants.{Go}
use Rattle.rules.specs.Run.{Loop, State, st, marks, labels, loops, opened, flow, side, loop, bump, halt, finish, drop1}
use Rattle.context.specs.Words.{cap, more, is_go}
use Rattle.context.specs.Sinks.{goes, going, took, took_many, Takes, stopped, closed}
use Rattle.context.specs.Rep.{Walk, Stack, Rep, Lent, Scoped, Moves, Sim}
use Rattle.context.specs.declared.Context.{Context}
use Rattle.context.proofs.Basics.{on_true, on_false, is_go_lem, shape, more_cap, Rests, no_bump, no_halt, no_finish}

module _ {c : Walk} {records : List ℕ} {x₀ : Context} where
  pub given : {A B : State} {x : Context} → B ≡ A → Rep c records x₀ A x → Rep c records x₀ B x
  given {x = x} e h = subst⁻¹ (λ (X : State). Rep c records x₀ X x) e h

  -- a context that is known by an equation
  pub stands : {A : State} {x x' : Context} → x' ≡ x → Rep c records x₀ A x → Rep c records x₀ A x'
  stands {A} e h = subst⁻¹ (λ (z : Context). Rep c records x₀ A z) e h

-- ---- how the state stands, from how the context does

module _ {c : Walk} {records : List ℕ} {x₀ : Context} {A : State} {x : Context} (h : Rep c records x₀ A x) where
  pub went : goes x ≡ true → flow A ≡ Go
  went g = is_go_lem (flow A) (ap is_go (sym h.flow) ∙ g)

  pub stood : goes x ≡ false → is_go (flow A) ≡ false
  stood g = ap is_go (sym h.flow) ∙ g

-- what is done where the run goes on
pub if_going : {c : Walk} {records : List ℕ} {x₀ : Context} {A : State} {f : State → State} → Rests f → (x : Context) {y x' : Context} → x' ≡ going x y
    → Rep c records x₀ A x → (goes x ≡ true → Rep c records x₀ (f (st (marks A) (labels A) (loops A) (opened A) Go (side A))) y) → Rep c records x₀ (f A) x'
if_going {c} {records} {x₀} {A} {f} q x {y} {x'} e h k = go (goes x) refl
  where
    go : (b : Bool) → goes x ≡ b → Rep c records x₀ (f A) x'
    go true g = stands (e ∙ on_true (goes x) y x g) (given (ap f (shape A (went h g))) (k g))
    go false g = stands (e ∙ on_false (goes x) y x g) (given (q A (stood h g)) h)

-- ---- simulations in a row

module _ {e : Lent} {x x' : Context} {f : Walk → State → State} where
  pub then : {x'' : Context} {g : Walk → State → State} → Sim e x x' f → Sim e x' x'' g → Sim e x x'' (λ c A. g c (f c A))
  then h k = record { sim = λ z c x₀ A r. k.sim z c x₀ (f c A) (h.sim z c x₀ A r); sizes = k.sizes ∙ h.sizes }

  pub resim : {g : Walk → State → State} → ((c : Walk) → Scoped e → (A : State) → g c A ≡ f c A) → Sim e x x' f → Sim e x x' g
  resim q h = record { sim = λ z c x₀ A r. given (q c z A) (h.sim z c x₀ A r); sizes = h.sizes }

module _ {records : List ℕ} {x x' : Context} {f : Walk → State → State} where
  pub then_moves : {x'' : Context} {g : Walk → State → State} → Moves records x x' f → Moves records x' x'' g → Moves records x x'' (λ c A. g c (f c A))
  then_moves h k = record { moves = λ c x₀ A r. k.moves c x₀ (f c A) (h.moves c x₀ A r); sizes = k.sizes ∙ h.sizes }

  pub removes : {g : Walk → State → State} → ((c : Walk) (A : State) → g c A ≡ f c A) → Moves records x x' f → Moves records x x' g
  removes q h = record { moves = λ c x₀ A r. given (q c A) (h.moves c x₀ A r); sizes = h.sizes }

  pub moves_sim : {notes : List ℕ} → Moves records x x' f → Sim (record { records = records; notes = notes }) x x' f
  moves_sim h = record { sim = λ z. h.moves; sizes = h.sizes }

pub stay : {e : Lent} {x : Context} → Sim e x x (λ c A. A)
stay = record { sim = λ z c x₀ A h. h; sizes = refl }

-- ---- get_label

abbrev pub bumps : ℕ → State → State
bumps zero A = A
bumps (suc n) A = bump (bumps n A)

module _ {c : Walk} {records : List ℕ} {x₀ : Context} where
  taken : {A : State} (x : Context) → Rep c records x₀ A x → Rep c records x₀ (bump A) (took x)
  unfolding took bump
  taken {A} x h = if_going no_bump x refl h (λ g. record {
    code = h.code;
    consts = h.consts;
    flat = h.flat;
    noted = h.noted;
    labels = ap more h.labels ∙ more_cap (labels A);
    size = h.size;
    loops = h.loops;
    depth = h.depth;
    deep = h.deep;
    flow = h.flow ∙ went h g;
    errors = h.errors;
    met = h.met;
    nest = h.nest;
    function = h.function;
    stack = h.stack;
  })

  taken_many : {A : State} (n : ℕ) (x : Context) → Rep c records x₀ A x → Rep c records x₀ (bumps n A) (took_many n x)
  taken_many zero x h = h
  taken_many (suc n) x h = taken (took_many n x) (taken_many n x h)

  module _ {A : State} {x x' : Context} {n l : ℕ} (k : Takes x x' n l) (h : Rep c records x₀ A x) where
    pub labelled : Rep c records x₀ (bumps n A) x'
    labelled = stands k.context (taken_many n x h)

    -- the label that is given, as a word
    pub label : l ≡ cap (labels A)
    label = k.label ∙ h.labels

-- ---- an error or a refusal

pub halted : {c : Walk} {records : List ℕ} {x₀ : Context} {A : State} {x x' : Context} (f : Flow) → x' ≡ stopped f x → Rep c records x₀ A x
    → Rep c records x₀ (halt f A) x'
unfolding stopped halt
halted {A = A} {x} f e h = if_going (no_halt f) x e h (λ g. record {
  code = h.code;
  consts = h.consts;
  flat = h.flat;
  noted = h.noted;
  labels = h.labels;
  size = h.size;
  loops = h.loops;
  depth = h.depth;
  deep = h.deep;
  flow = refl;
  errors = h.errors;
  met = h.met;
  nest = h.nest;
  function = h.function;
  stack = h.stack;
})

-- ---- the innermost loop closes

drop_length : (ls : List Loop) → length (drop1 ls) ≡ length ls - 1
drop_length [] = refl
drop_length (l ∷ ls) = omega arith

drop_stack : (ws : List LabelId) (ls : List Loop) → Stack ws ls → Stack ws (drop1 ls)
unfolding Stack
drop_stack ws [] h = tt
drop_stack ws (loop o c b ∷ ls) h = h.2

pub finished : {c : Walk} {records : List ℕ} {x₀ : Context} {A : State} {x x' : Context} → x' ≡ closed x → Rep c records x₀ A x
    → Rep c records x₀ (finish A) x'
unfolding closed finish
finished {A = A} {x} e h = if_going no_finish x e h (λ g. record {
  code = h.code;
  consts = h.consts;
  flat = h.flat;
  noted = h.noted;
  labels = h.labels;
  size = h.size;
  loops = λ n. drop_stack x.continue_stack (loops A) (h.loops n);
  depth = ap (λ (n : ℕ). n - 1) h.depth ∙ sym (drop_length (loops A));
  deep = omega (arith, drop_length (loops A), h.deep);
  flow = h.flow ∙ went h g;
  errors = h.errors;
  met = h.met;
  nest = h.nest;
  function = h.function;
  stack = h.stack;
})
