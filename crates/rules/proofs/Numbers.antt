-- Each function met has one stream, by its number, in every run, cut short or not. Assumes nothing.
use mathlib.Core.Path.{◌≡◌, refl, sym, ap, subst, ◌∙◌}
use mathlib.Core.Bool.{Bool, true, false, cond}
use mathlib.Core.List.{List, [], ◌∷◌}
use Prim.Native.Nat.{ℕ, suc, ◌+◌, ◌≤◌}
use native.Mathlib.Omega.{arith}
use lib.Dec.{T, eqb, eqb→eq}
use Rattle.tables.specs.Record.{Words, words, is_do}
use Rattle.tables.specs.Forest.{Forest, none, tree, children, own_tree}
use Rattle.tables.proofs.ForestLaws.{Each, each, each_at}
use Rattle.pool.specs.Names.{Access, local, global, upvalue, missing}
use Rattle.rules.specs.declared.StackCode.{StackCode}
use Rattle.rules.specs.Marker.{Way, Mark}
use Rattle.rules.specs.Step.{
  Role,
  Keep,
  pass,
  keep,
  Use,
  Step,
  push_op,
  push_const,
  get_label,
  place,
  jump,
  jump_back,
  visit,
  begin_loop,
  end_loop,
  exit,
  check_return,
  access,
  refuse,
  inner,
}
use Rattle.rules.specs.Arms.{stream_steps}
use Rattle.rules.specs.Kinds.{steps}
use Rattle.rules.specs.declared.Flow.{Flow}
use Rattle.rules.specs.declared.Flow.TheVariants.{Go, Cut, Refused}
use Rattle.rules.specs.Run.{
  Lookup,
  Loop,
  loop,
  Stream,
  Side,
  State,
  st,
  loops,
  side,
  emit,
  bump,
  halt,
  begin,
  finish,
  way_out,
  outward,
  barred,
  number_of,
  spot_at,
  sought,
  settle,
  kept,
  anew,
  returned,
  entered,
  nested,
  idle,
  keeping,
  Mode,
  full,
  act,
  exec,
  Visit,
  absent,
  child_visit,
  stream,
  visit_alg,
  visits_of,
  nothing,
  run,
}
use Rattle.rules.specs.Out.{stream_numbered}
use Rattle.rules.proofs.Count.{one, inside, inside_add}
use Rattle.rules.proofs.Visits.{visit_of}

-- how many streams have the number n
abbrev pub numbered : ℕ → List Stream → ℕ
numbered n [] = 0
numbered n (x ∷ xs) = one x.number n + numbered n xs

-- from e to e' some more functions are met, and each of their numbers has one more stream
pub record Met (e e' : Side) : Type 0 where
  pub more : ℕ
  pub count : e'.met ≡ e.met + more
  pub by_number : (n : ℕ) → numbered n e'.streams ≡ numbered n e.streams + inside e.met more n

abbrev pub Meets : (State → State) → Type 0
Meets v = (s : State) → Met (side s) (side (v s))

met_none : (e e' : Side) → e'.met ≡ e.met → e'.streams ≡ e.streams → Met e e'
unfolding inside
met_none e e' p q = record { more = 0; count = omega arith; by_number = λ n. omega (arith, ap (numbered n) q) }

met_both : (e f g : Side) → Met e f → Met f g → Met e g
met_both e f g a b =
    record {
      more = a.more + b.more;
      count = omega (arith, a.count, b.count);
      by_number = λ n.
          omega (arith, a.by_number n, b.by_number n, inside_add e.met a.more b.more n, ap (λ z. inside z b.more n) a.count);
    }

-- a primitive changes neither, but for a function entered
same_side : {e e' : Side} → e' ≡ e → Met e e'
same_side {e} {e'} p = met_none e e' (ap (λ e. e.met) p) (ap (λ e. e.streams) p)

emit_side : (x : Mark) (s : State) → side (emit x s) ≡ side s
unfolding emit
emit_side x (st m l ls os Go e) = refl
emit_side x (st m l ls os (Cut k a b) e) = refl
emit_side x (st m l ls os (Refused n r) e) = refl

bump_side : (s : State) → side (bump s) ≡ side s
unfolding bump
bump_side (st m l ls os Go e) = refl
bump_side (st m l ls os (Cut k a b) e) = refl
bump_side (st m l ls os (Refused n r) e) = refl

halt_side : (f : Flow) (s : State) → side (halt f s) ≡ side s
unfolding halt
halt_side f (st m l ls os Go e) = refl
halt_side f (st m l ls os (Cut k a b) e) = refl
halt_side f (st m l ls os (Refused n r) e) = refl

begin_side : (trim : List Loop → List Loop) (x : Loop) (s : State) → side (begin trim x s) ≡ side s
unfolding begin
begin_side trim x (st m l ls os Go e) = refl
begin_side trim x (st m l ls os (Cut k a b) e) = refl
begin_side trim x (st m l ls os (Refused n r) e) = refl

finish_side : (s : State) → side (finish s) ≡ side s
unfolding finish
finish_side (st m l ls os Go e) = refl
finish_side (st m l ls os (Cut k a b) e) = refl
finish_side (st m l ls os (Refused n r) e) = refl

way_side : (r : ℕ) (w : Words) (x : Way) (ls : List Loop) (s : State) → side (way_out r w x ls s) ≡ side s
way_side r w x [] s = halt_side _ s
way_side r w x (loop o c b ∷ ls) s = emit_side _ s

outward_side : (r : ℕ) (w : Words) (x : Way) (s : State) → side (outward r w x s) ≡ side s
unfolding outward
outward_side r w x s = way_side r w x (loops s) s

barred_side : (w : Words) (b : Bool) (s : State) → side (barred w b s) ≡ side s
unfolding barred
barred_side w true s = halt_side _ s
barred_side w false s = refl

sought_side : (r : ℕ) (u : Use) (i : ℕ) (x : Access) (s : State) → side (sought r u i x s) ≡ side s
sought_side r u i (local n) s = emit_side _ s
sought_side r u i (global n) s = emit_side _ s
sought_side r u i (upvalue n) s = emit_side _ s
sought_side r u i (missing x) s = halt_side _ s

settle_meets : Meets settle
settle_meets (st m l ls os Go e) = met_none e e refl refl
settle_meets (st m l ls os (Cut k a b) e) = met_none e _ refl refl
settle_meets (st m l ls os (Refused n r) e) = met_none e e refl refl

settled_meets : (v : State → State) → Meets v → (s : State) → Met (side s) (side (settle (v s)))
settled_meets v h s = met_both (side s) (side (v s)) (side (settle (v s))) (h s) (settle_meets (v s))

keeping_meets : (y : Keep) (v : State → State) → Meets v → Meets (keeping y v)
unfolding kept
keeping_meets pass v h s = h s
keeping_meets keep v h (st m l ls os Go e) = settled_meets v h (st m l ls os Go e)
keeping_meets keep v h (st m l ls os (Cut k a b) e) = met_none e e refl refl
keeping_meets keep v h (st m l ls os (Refused n r) e) = met_none e e refl refl

-- the function itself is met, with the number of those met before
returned_meets : (r : ℕ) (w : Words) (m : List Mark) (l : ℕ) (ls os : List Loop) (e : Side) (s : State) → w.p ≡ e.met → Met (side (anew e)) (side s)
    → Met e (side (returned r w m l ls os s))
unfolding inside
returned_meets r w m l ls os e (st m' l' ls' os' f e') q h =
    record {
      more = suc h.more;
      count = omega (arith, h.count);
      by_number = λ n. omega (arith, h.by_number n, ap (λ z. one z n) q);
    }

entered_meets : (b : Bool) (r : ℕ) (w : Words) (v : State → State) → Meets v → (m : List Mark) (l : ℕ) (ls os : List Loop) (e : Side) → eqb w.p e.met ≡ b
    → Met e (side (entered b r w v m l ls os e))
entered_meets true r w v h m l ls os e q =
    returned_meets r w m l ls os e (settle (v (anew e))) (eqb→eq w.p e.met (subst T (sym q) tt)) (settled_meets v h (anew e))
entered_meets false r w v h m l ls os e q = met_none e e refl refl

nested_meets : (b : Bool) (r : ℕ) (w : Words) (v : State → State) → Meets v → Meets (nested b r w v)
unfolding nested
nested_meets false r w v h s = met_none (side s) (side s) refl refl
nested_meets true r w v h (st m l ls os Go e) = entered_meets (eqb w.p e.met) r w v h m l ls os e refl
nested_meets true r w v h (st m l ls os (Cut k a b) e) = met_none e e refl refl
nested_meets true r w v h (st m l ls os (Refused n q) e) = met_none e e refl refl

module _ (t : Lookup) (o : Mode) (fn : Words) (r : ℕ) (w : Words) (k : Forest) (vs : Role → ℕ → State → State) (body : State → State)
    (child-meets : (x : Role) (j : ℕ) → Meets (vs x j)) (body-meets : Meets body) where
  act_meets : (x : Step) (env : List ℕ) → Meets (act t o fn r w k vs body x env)
  act_meets (push_op c x) env s = same_side (emit_side _ s)
  act_meets (push_const c p v) env s = same_side (emit_side _ s)
  act_meets get_label env s = same_side (bump_side s)
  act_meets (place i) env s = same_side (emit_side _ s)
  act_meets (jump h i) env s = same_side (emit_side _ s)
  act_meets (jump_back i) env s = same_side (emit_side _ s)
  act_meets (visit y x j) env s = keeping_meets y (vs x j) (child-meets x j) s
  act_meets (begin_loop i j) env s = same_side (begin_side _ _ s)
  act_meets end_loop env s = same_side (finish_side s)
  act_meets (exit x) env s = same_side (outward_side r w x s)
  act_meets check_return env s = same_side (barred_side w (is_do fn) s)
  act_meets (access u p) env s = same_side (sought_side r u (number_of (spot_at (tree r w k none) p)) (t fn u (spot_at (tree r w k none) p)) s)
  act_meets (refuse x) env s = same_side (halt_side _ s)
  act_meets inner env s = nested_meets o.nest r w body body-meets s

  exec_meets : (is : List Step) (env : List ℕ) → Meets (exec t o fn r w k vs body is env)
  unfolding exec
  exec_meets [] env s = met_none (side s) (side s) refl refl
  exec_meets (x ∷ is) env s = met_both (side s) _ _ (act_meets x env s) (exec_meets is _ (act t o fn r w k vs body x env s))

module _ (t : Lookup) (o : Mode) where
  abbrev Meets-all : Visit → Type 0
  Meets-all v = (a : Role) (fn : Words) → Meets (v a fn)

  children_meet : (k : Forest) → Each (λ r w k. Meets-all (visit_of t o r w k)) k → (fn : Words) (a : Role) (j : ℕ) → Meets (child_visit (visits_of t o k) fn a j)
  children_meet k h fn a j = each_at (visit_alg t o) (visit_alg t o) (λ x y. Meets-all x) absent absent (λ a fn s. met_none (side s) (side s) refl refl) k h j a fn

  stream_step : (r : ℕ) (w : Words) (k : Forest) → Each (λ r w k. Meets-all (visit_of t o r w k)) k → Meets (stream t o r w k (visits_of t o k))
  unfolding stream
  stream_step r w k h =
      exec_meets t o w r w k (child_visit (visits_of t o k) w) idle (children_meet k h w) (λ s. met_none (side s) (side s) refl refl) (stream_steps w) []

  visit_step : (r : ℕ) (w : Words) (k : Forest) → Each (λ r w k. Meets-all (visit_of t o r w k)) k → Meets-all (visit_of t o r w k)
  visit_step r w k h a fn =
      exec_meets t o fn r w k (child_visit (visits_of t o k) fn) (stream t o r w k (visits_of t o k)) (children_meet k h fn) (stream_step r w k h) (steps o.code a w
      (own_tree k)) []

  pub visit_meets : (r : ℕ) (w : Words) (k : Forest) (a : Role) (fn : Words) → Meets (visit_of t o r w k a fn)
  visit_meets r w k = visit_step r w k (each (λ r w k. Meets-all (visit_of t o r w k)) visit_step k)

  pub stream_meets : (r : ℕ) (w : Words) (k : Forest) → Meets (stream t o r w k (visits_of t o k))
  stream_meets r w k = stream_step r w k (each (λ r w k. Meets-all (visit_of t o r w k)) visit_step k)

-- "for each function met, always the lowest numbers": each number below the functions met has one stream, and no other has any; in every run
pub run_numbered : (sc : StackCode) (t : Lookup) (recs : List ℕ) (n : ℕ) → numbered n (side (run sc t recs)).streams ≡ inside 0 (side (run sc t recs)).met n
unfolding run
run_numbered sc t recs n =
    let w = words recs 0 in
    let k = children recs 0 in
    let h = nested_meets true 0 w (stream t (full sc) 0 w k (visits_of t (full sc) k)) (stream_meets t (full sc) 0 w k) nothing in
    omega (arith, h.by_number n, ap (λ z. inside 0 z n) (h.count ∙ zero_more h.more))
  where
    zero_more : (m : ℕ) → 0 + m ≡ m
    zero_more m = omega arith

-- what holds of each stream
abbrev pub Every : (Stream → Type 0) → List Stream → Type 0
Every P [] = Unit {0}
Every P (x ∷ xs) = P x × Every P xs

-- the stream of a number that has one
pub stream_found : (P : Stream → Type 0) (xs : List Stream) (n : ℕ) → Every P xs → 1 ≤ numbered n xs → P (stream_numbered xs n) × ((stream_numbered xs n).number ≡ n)
unfolding stream_numbered one
stream_found P [] n h g = absurd (omega arith)
stream_found P (x ∷ xs) n (h, hs) g = go (eqb x.number n) refl g (λ g. stream_found P xs n hs g)
  where
    go : (b : Bool) → eqb x.number n ≡ b → 1 ≤ cond b 1 0 + numbered n xs → (1 ≤ numbered n xs → P (stream_numbered xs n) × ((stream_numbered xs n).number ≡ n))
        → P (cond b x (stream_numbered xs n)) × ((cond b x (stream_numbered xs n)).number ≡ n)
    go true e g ih = (h, eqb→eq x.number n (subst T (sym e) tt))
    go false e g ih = ih (omega arith)
