-- Steps in a row with the labels taken by name, and what they make of the state. Assumes nothing.
use mathlib.Core.Path.{◌≡◌, refl, sym, ap, subst, ◌∙◌}
use mathlib.Core.Bool.{Bool, true, false, cond}
use mathlib.Core.List.{List, [], ◌∷◌, ◌++◌, append_assoc}
use mathlib.Core.Logic.{◌⊎◌, inl, inr}
use Prim.Native.Nat.{ℕ, suc, ◌+◌, ◌<◌}
use native.Mathlib.Omega.{arith}
use native.Mathlib.Decide.{ℕ_discrete}
use lib.ListN.{length, get_or, length-append}
use Rattle.pool.specs.Names.{Access, local, global, upvalue, missing}
use Rattle.rules.specs.declared.Flow.TheVariants.{Go}
use Rattle.rules.specs.Marker.{Mark}
use Rattle.rules.specs.Step.{Set, Step}
use Rattle.rules.specs.Run.{State, flow, labels, emit, bump, sought}
use Rattle.context.specs.Rep.{Walk, Lent}
use Rattle.context.specs.Does.{doing}
use Rattle.context.specs.Words.{is_go}
use Rattle.context.proofs.Basics.{bool_or, is_go_lem, Rests, no_emit, no_bump, no_halt}
use Rattle.plain.proofs.GoLaws.{emit_labels, sought_labels, bump_labels, env_kept, env_new}

-- ---- lists that grow at their end

pub append_none : (xs : List ℕ) → xs ≡ xs ++ []
append_none [] = refl
append_none (x ∷ xs) = ap {B = List ℕ} (λ ys. x ∷ ys) (append_none xs)

pub get_d_last : (xs : List ℕ) (y k : ℕ) → k ≡ length xs → get_or (xs ++ (y ∷ [])) k 0 ≡ y
get_d_last xs y k e = ap (λ (i : ℕ). get_or (xs ++ (y ∷ [])) i 0) (let z : k ≡ length xs + 0 = omega arith in z) ∙ env_new xs (y ∷ []) 0

-- ---- what takes no label, and does nothing unless the run goes on

pub record Quiet (f : State → State) : Type 0 where
  pub rests : Rests f
  pub same : (A : State) → labels (f A) ≡ labels A

pub quiet_none : Quiet (λ A. A)
quiet_none = record { rests = λ A e. refl; same = λ A. refl }

pub quiet_emit : (x : Mark) → Quiet (emit x)
quiet_emit x = record { rests = no_emit x; same = emit_labels x }

pub quiet_sought : (r i : ℕ) (x : Access) → Quiet (sought r Set i x)
quiet_sought r i x = record { rests = go x; same = sought_labels r Set i x }
  where
    go : (x : Access) → Rests (sought r Set i x)
    go (local n) = no_emit _
    go (global n) = no_emit _
    go (upvalue n) = no_emit _
    go (missing y) = no_halt _

rests_row : (f g : State → State) → Rests f → Rests g → Rests (λ A. g (f A))
rests_row f g a b A e = ap g (a A e) ∙ b A e

pub quiet_row : {f g : State → State} → Quiet f → Quiet g → Quiet (λ A. g (f A))
quiet_row {f} {g} a b = record { rests = rests_row f g a.rests b.rests; same = λ A. b.same (f A) ∙ a.same A }

pub quiet_either : (b : Bool) {f g : State → State} → Quiet f → Quiet g → Quiet (λ A. cond b (f A) (g A))
quiet_either true a b = a
quiet_either false a b = b

pub still_going : (f : State → State) → Rests f → (A : State) → flow (f A) ≡ Go → flow A ≡ Go
still_going f q A e = go (bool_or (is_go (flow A)))
  where
    go : (is_go (flow A) ≡ true) ⊎ (is_go (flow A) ≡ false) → flow A ≡ Go
    go (inl g) = is_go_lem (flow A) g
    go (inr g) = ap flow (sym (q A g)) ∙ e

-- a label's number matters only where the run goes on
pub same_if : (f : ℕ → State → State) → ((y : ℕ) → Rests (f y)) → (y z : ℕ) (A : State) → (flow A ≡ Go → y ≡ z) → f y A ≡ f z A
same_if f q y z A e = go (bool_or (is_go (flow A)))
  where
    go : (is_go (flow A) ≡ true) ⊎ (is_go (flow A) ≡ false) → f y A ≡ f z A
    go (inl g) = ap (λ (n : ℕ). f n A) (e (is_go_lem (flow A) g))
    go (inr g) = q y A g ∙ sym (q z A g)

-- ---- the labels of one pattern, h of them, the first at place m of env: while the run goes on they are x, x + 1, .. and no other was taken since

pub record Held (env : List ℕ) (m h x : ℕ) (A : State) : Type 0 where
  pub long : length env ≡ m + h
  pub named : flow A ≡ Go → (k : ℕ) → k < h → get_or env (m + k) 0 ≡ x + k
  pub next : flow A ≡ Go → labels A ≡ x + h

pub held_quiet : (f : State → State) → Quiet f → (env : List ℕ) (m h x : ℕ) (A : State) → Held env m h x A → Held env m h x (f A)
held_quiet f q env m h x A y =
    record {
      long = y.long;
      named = λ e. y.named (still_going f q.rests A e);
      next = λ e. q.same A ∙ y.next (still_going f q.rests A e);
    }

-- one label more
pub held_more : (env : List ℕ) (m h x : ℕ) (A : State) → Held env m h x A → Held (env ++ (labels A ∷ [])) m (suc h) x (bump A)
held_more env m h x A y =
    record {
      long = length-append env (labels A ∷ []) ∙ omega (arith, y.long);
      named = λ e k lt. go e k lt (ℕ_discrete k h);
      next = λ e. bump_labels A (on e) ∙ ap suc (y.next (on e)) ∙ omega arith;
    }
  where
    on : flow (bump A) ≡ Go → flow A ≡ Go
    on e = still_going bump no_bump A e

    go : flow (bump A) ≡ Go → (k : ℕ) → k < suc h → Dec (k ≡ h) → get_or (env ++ (labels A ∷ [])) (m + k) 0 ≡ x + k
    go e k lt (yes q) = get_d_last env (labels A) (m + k) (omega (arith, y.long)) ∙ y.next (on e) ∙ ap (λ (n : ℕ). x + n) (sym q)
    go e k lt (no q) = env_kept env (labels A ∷ []) (m + k) (omega (arith, y.long, q)) ∙ y.named (on e) k (omega (arith, q))

-- ---- in a row: with the names env the steps `from` bring the state A to B, whatever follows them

module _ (e : Lent) (c : Walk) (r : ℕ) where
  pub record Goes (from : List Step → List Step) (env : List ℕ) (A B : State) : Type 0 where
    pub names : List ℕ
    pub more : List ℕ
    pub longer : names ≡ env ++ more
    pub still : flow B ≡ Go → flow A ≡ Go
    pub goes : (is : List Step) → doing e c r (from is) env A ≡ doing e c r is names B

  -- and the labels of one pattern are held then
  pub record Holds (from : List Step → List Step) (env : List ℕ) (A B : State) (m h x : ℕ) : Type 0 where
    pub past : Goes from env A B
    pub held : Held past.names m h x B

module _ {e : Lent} {c : Walk} {r : ℕ} where
  -- what takes no label
  abbrev pub quiet_goes : {from : List Step → List Step} {env : List ℕ} {A : State} (f : State → State) → Quiet f
      → ((is : List Step) → doing e c r (from is) env A ≡ doing e c r is env (f A)) → Goes e c r from env A (f A)
  quiet_goes {env = env} {A = A} f q h = record { names = env; more = []; longer = append_none env; still = still_going f q.rests A; goes = h }

  abbrev pub quiet_holds : {from : List Step → List Step} {env : List ℕ} {A : State} {m h x : ℕ} (f : State → State) → Quiet f
      → ((is : List Step) → doing e c r (from is) env A ≡ doing e c r is env (f A)) → Held env m h x A → Holds e c r from env A (f A) m h x
  quiet_holds {env = env} {A = A} {m} {h} {x} f q k y = record { past = quiet_goes f q k; held = held_quiet f q env m h x A y }

  abbrev pub then_goes : {from to : List Step → List Step} {env : List ℕ} {A B C : State} → (p : Goes e c r from env A B) → Goes e c r to p.names B C
      → Goes e c r (λ is. from (to is)) env A C
  then_goes {to = to} {env = env} p q =
      record {
        names = q.names;
        more = p.more ++ q.more;
        longer = q.longer ∙ ap (λ (xs : List ℕ). xs ++ q.more) p.longer ∙ append_assoc env p.more q.more;
        still = λ g. p.still (q.still g);
        goes = λ is. p.goes (to is) ∙ q.goes is;
      }

  abbrev pub then_holds : {from to : List Step → List Step} {env : List ℕ} {A B C : State} {m h h' x : ℕ} → (p : Holds e c r from env A B m h x)
      → Holds e c r to p.past.names B C m h' x → Holds e c r (λ is. from (to is)) env A C m h' x
  then_holds p q = record { past = then_goes p.past q.past; held = q.held }

  -- the same steps by another name
  abbrev pub from_goes : {from from' : List Step → List Step} {env : List ℕ} {A B : State} → ((is : List Step) → from is ≡ from' is) → Goes e c r from' env A B
      → Goes e c r from env A B
  from_goes {env = env} {A = A} q p =
      record { names = p.names; more = p.more; longer = p.longer; still = p.still; goes = λ is. ap (λ (ls : List Step). doing e c r ls env A) (q is) ∙ p.goes is }

  abbrev pub from_holds : {from from' : List Step → List Step} {env : List ℕ} {A B : State} {m h x : ℕ} → ((is : List Step) → from is ≡ from' is)
      → Holds e c r from' env A B m h x → Holds e c r from env A B m h x
  from_holds q p = record { past = from_goes q p.past; held = p.held }

  pub to_holds : {from : List Step → List Step} {env : List ℕ} {A B B' : State} {m h h' x : ℕ} → B' ≡ B → h' ≡ h → Holds e c r from env A B m h x
      → Holds e c r from env A B' m h' x
  to_holds {from} {env} {A} {B' = B'} {m} {h} {h'} {x} q z p =
      subst (λ (n : ℕ). Holds e c r from env A B' m n x) (sym z) (subst (λ (S : State). Holds e c r from env A S m h x) (sym q) p)
