-- Every operand of a function walked by itself is one that a word holds: labels are among those taken, names as a note holds them. Assumes that words hold
-- the records' words and the number of records.
use mathlib.Core.Path.{◌≡◌, refl, sym, subst}
use mathlib.Core.Bool.{Bool, true, false, cond, ◌||◌}
use mathlib.Core.List.{List, [], ◌∷◌, ◌++◌}
use Prim.Native.Nat.{ℕ, zero, suc, ◌+◌, ◌*◌, ◌/◌, ◌%◌, ◌≤◌}
use native.Mathlib.Omega.{arith}
use lib.ListN.{get_or, take as front}
use lib.Dec.{T, leb, ltb, eqb, leb→le}
use borrow.Author.Tests.{ltb-true, eqb-true, eqb-false}
use Rattle.tables.specs.Record.{Words, is_do, is_function}
use Rattle.tables.specs.Forest.{Forest, none, tree, Nodes, bare, own_tree, count, children, first, root}
use Rattle.tables.specs.declared.refusal.RunRule.TheVariants.{Reference, Load, Store}
use Rattle.tables.proofs.ForestLaws.{Each, each, and_l, and_r, Genuine, genuine}
use Rattle.pool.specs.Value.{function}
use Rattle.pool.specs.Names.{Access, local, global, upvalue, missing}
use Rattle.pool.specs.Notes.{load_of, store_of, load_noted, store_noted}
use Rattle.rules.specs.declared.Flow.{Flow}
use Rattle.rules.specs.declared.Flow.TheVariants.{Go, Cut, Refused}
use Rattle.rules.specs.declared.StackCode.{StackCode}
use Rattle.rules.specs.Marker.{Way, Break, Continue, LoadConst, Call, Op, Label, To, Back, Leave, Load as Loads, Do, Mark, mark}
use Rattle.rules.specs.Step.{
  Role,
  Keep,
  pass,
  keep,
  Use,
  Get,
  Set,
  Step,
  push_op,
  push_const,
  get_label,
  place,
  jump,
  jump_back,
  visit,
  begin_loop,
  end_loop,
  exit,
  check_return,
  access,
  refuse,
  inner,
  load,
}
use Rattle.rules.specs.Arms.{function_steps, stream_steps}
use Rattle.rules.specs.Kinds.{steps}
use Rattle.rules.specs.Run.{Loop, loop, State, st, marks, labels, loops, emit, bump, halt, begin, drop1, finish, way_out, outward, barred, spot_at, number_of}
use Rattle.rules.specs.Run.{Lookup, sought, settle, kept, nested, idle, keeping, Mode, exec, child_visit, stream, visits_of, anew, alone}
use Rattle.rules.proofs.Visits.{visit_of}
use Rattle.rules.proofs.StepsOk.{function_only}
use Rattle.rules.proofs.Tame.{no_name, no_function, held_by, tame, tally, Modest}
use Rattle.rules.proofs.Pure.{steps_tame, stream_tame}
use Rattle.rules.proofs.Invariant.{Everywhere}
use Rattle.context.specs.Words.{limit}
use Rattle.context.specs.Does.{access_noted, noted_look}
use Rattle.codegen.specs.Listing.{AllSmall}

-- an operand, where n labels were taken
abbrev Bound : ℕ → Op → Type 0
Bound n (Label l) = l ≤ n
Bound n (To h l) = l ≤ n
Bound n (Back l) = l ≤ n
Bound n (Leave x l) = l ≤ n
Bound n (Loads c v) = Unit {0}
Bound n (Do c x) = x ≤ limit

abbrev AllBound : ℕ → List Mark → Type 0
AllBound n [] = Unit {0}
AllBound n (mark r x ∷ ms) = Bound n x × AllBound n ms

abbrev AllLoops : ℕ → List Loop → Type 0
AllLoops n [] = Unit {0}
AllLoops n (loop o c b ∷ ls) = (c ≤ n) × (b ≤ n) × AllLoops n ls

abbrev AllLabels : ℕ → List ℕ → Type 0
AllLabels n [] = Unit {0}
AllLabels n (l ∷ ls) = (l ≤ n) × AllLabels n ls

more_bound : (n m : ℕ) → n ≤ m → (x : Op) → Bound n x → Bound m x
more_bound n m h (Label l) b = omega arith
more_bound n m h (To x l) b = omega arith
more_bound n m h (Back l) b = omega arith
more_bound n m h (Leave x l) b = omega arith
more_bound n m h (Loads c v) b = tt
more_bound n m h (Do c x) b = b

more_marks : (n m : ℕ) → n ≤ m → (ms : List Mark) → AllBound n ms → AllBound m ms
more_marks n m h [] b = tt
more_marks n m h (mark r x ∷ ms) (b, bs) = (more_bound n m h x b, more_marks n m h ms bs)

more_loops : (n m : ℕ) → n ≤ m → (ls : List Loop) → AllLoops n ls → AllLoops m ls
more_loops n m h [] b = tt
more_loops n m h (loop o c d ∷ ls) (p, q, b) = (omega arith, omega arith, more_loops n m h ls b)

more_labels : (n m : ℕ) → n ≤ m → (ls : List ℕ) → AllLabels n ls → AllLabels m ls
more_labels n m h [] b = tt
more_labels n m h (l ∷ ls) (p, b) = (omega arith, more_labels n m h ls b)

label_at : (n : ℕ) (ls : List ℕ) (i : ℕ) → AllLabels n ls → get_or ls i 0 ≤ n
label_at n [] i b = omega arith
label_at n (l ∷ ls) zero (p, b) = p
label_at n (l ∷ ls) (suc i) (p, b) = label_at n ls i b

labels_one : (n l : ℕ) (ls : List ℕ) → AllLabels n ls → l ≤ n → AllLabels n (ls ++ (l ∷ []))
labels_one n l [] b h = (h, tt)
labels_one n l (x ∷ ls) (p, b) h = (p, labels_one n l ls b h)

front_loops : (n i : ℕ) (ls : List Loop) → AllLoops n ls → AllLoops n (front i ls)
front_loops n zero ls b = tt
front_loops n (suc i) [] b = tt
front_loops n (suc i) (loop o c d ∷ ls) (p, q, b) = (p, q, front_loops n i ls b)

dropped_loops : (n : ℕ) (ls : List Loop) → AllLoops n ls → AllLoops n (drop1 ls)
dropped_loops n [] b = tt
dropped_loops n (loop o c d ∷ ls) (p, q, b) = b

-- of a state: its markers and open loops name labels that were taken
pub record Holds (s : State) : Type 0 where
  pub markers : AllBound (labels s) (marks s)
  pub opens : AllLoops (labels s) (loops s)

-- so it is after some steps, and no label is given back
pub record After (s s' : State) : Type 0 where
  pub holds : Holds s'
  pub more : labels s ≤ labels s'

abbrev Keeps : (State → State) → Type 0
Keeps v = (s : State) → Holds s → After s (v s)

stay : (s : State) → Holds s → After s s
stay s h = record { holds = h; more = omega arith }

then_after : (s s₁ s₂ : State) → After s s₁ → After s₁ s₂ → After s s₂
then_after s s₁ s₂ a b = record { holds = b.holds; more = omega (arith, a.more, b.more) }

emit_keeps : (r : ℕ) (x : Op) (s : State) → Bound (labels s) x → Holds s → After s (emit (mark r x) s)
unfolding emit
emit_keeps r x (st m l ls os Go e) b h = record { holds = record { markers = (b, h.markers); opens = h.opens }; more = omega arith }
emit_keeps r x (st m l ls os (Cut k a d) e) b h = stay _ h
emit_keeps r x (st m l ls os (Refused y q) e) b h = stay _ h

bump_keeps : Keeps bump
unfolding bump
bump_keeps (st m l ls os Go e) h = record {
  holds = record { markers = more_marks l (suc l) (omega arith) m h.markers; opens = more_loops l (suc l) (omega arith) ls h.opens };
  more = omega arith;
}
bump_keeps (st m l ls os (Cut k a d) e) h = stay _ h
bump_keeps (st m l ls os (Refused y q) e) h = stay _ h

halt_keeps : (f : Flow) → Keeps (halt f)
unfolding halt
halt_keeps f (st m l ls os Go e) h = record { holds = record { markers = h.markers; opens = h.opens }; more = omega arith }
halt_keeps f (st m l ls os (Cut k a d) e) h = stay _ h
halt_keeps f (st m l ls os (Refused y q) e) h = stay _ h

begin_keeps : (i r c b : ℕ) (s : State) → c ≤ labels s → b ≤ labels s → Holds s → After s (begin (front i) (loop r c b) s)
unfolding begin
begin_keeps i r c b (st m l ls os Go e) p q h =
    record { holds = record { markers = h.markers; opens = front_loops l i (loop r c b ∷ ls) (p, q, h.opens) }; more = omega arith }
begin_keeps i r c b (st m l ls os (Cut k a d) e) p q h = stay _ h
begin_keeps i r c b (st m l ls os (Refused y z) e) p q h = stay _ h

finish_keeps : Keeps finish
unfolding finish
finish_keeps (st m l ls os Go e) h = record { holds = record { markers = h.markers; opens = dropped_loops l ls h.opens }; more = omega arith }
finish_keeps (st m l ls os (Cut k a d) e) h = stay _ h
finish_keeps (st m l ls os (Refused y q) e) h = stay _ h

way_keeps : (r : ℕ) (w : Words) (x : Way) (us : List Loop) (s : State) → AllLoops (labels s) us → Holds s → After s (way_out r w x us s)
way_keeps r w x [] s b h = halt_keeps _ s h
way_keeps r w Break (loop o c d ∷ us) s (p, q, b) h = emit_keeps r (Leave Break d) s q h
way_keeps r w Continue (loop o c d ∷ us) s (p, q, b) h = emit_keeps r (Leave Continue c) s p h

barred_keeps : (w : Words) (b : Bool) → Keeps (barred w b)
unfolding barred
barred_keeps w true s h = halt_keeps _ s h
barred_keeps w false s h = stay s h

settle_keeps : Keeps settle
settle_keeps (st m l ls os Go e) h = stay _ h
settle_keeps (st m l ls os (Cut k a b) e) h = record { holds = record { markers = h.markers; opens = h.opens }; more = omega arith }
settle_keeps (st m l ls os (Refused x r) e) h = stay _ h

keeping_keeps : (y : Keep) (v : State → State) → Keeps v → Keeps (keeping y v)
unfolding kept
keeping_keeps pass v k s h = k s h
keeping_keeps keep v k (st m l ls os Go e) h =
    let a = k (st m l ls os Go e) h in
    then_after _ (v (st m l ls os Go e)) _ a (settle_keeps (v (st m l ls os Go e)) a.holds)
keeping_keeps keep v k (st m l ls os (Cut x a b) e) h = stay _ h
keeping_keeps keep v k (st m l ls os (Refused x r) e) h = stay _ h

-- a name's place
abbrev Near : Access → Type 0
Near (local n) = n ≤ limit
Near (global n) = n ≤ limit
Near (upvalue n) = n ≤ limit
Near (missing x) = Unit {0}

sought_keeps : (r : ℕ) (u : Use) (i : ℕ) (x : Access) → Near x → Keeps (sought r u i x)
sought_keeps r u i (local n) b s h = emit_keeps r (Do _ n) s b h
sought_keeps r u i (global n) b s h = emit_keeps r (Do _ n) s b h
sought_keeps r u i (upvalue n) b s h = emit_keeps r (Do _ n) s b h
sought_keeps r u i (missing x) b s h = halt_keeps _ s h

-- one of a note has twelve bits
either_near : (b : Bool) (x y : Access) → Near x → Near y → Near (cond b x y)
either_near true x y p q = p
either_near false x y p q = q

index_few : (n : ℕ) → n % 4096 ≤ limit
index_few n = omega arith

load_near : (n : ℕ) → Near (load_of n)
unfolding load_of
load_near n =
    either_near (eqb (n / 4096) 3) _ _ (index_few n) (either_near (eqb (n / 4096) 4) _ _ (index_few n)
    (either_near (eqb (n / 4096) 5) _ _ (index_few n) (either_near (eqb (n / 4096) 11) (missing Load) (missing Reference) tt tt)))

store_near : (n : ℕ) → Near (store_of n)
unfolding store_of
store_near n =
    either_near (eqb (n / 4096) 7) _ _ (index_few n) (either_near (eqb (n / 4096) 8) _ _ (index_few n)
    (either_near (eqb (n / 4096) 12) (missing Store) (missing Reference) tt tt))

noted_near : (ns : List ℕ) (u : Use) (i : ℕ) → Near (access_noted ns u i)
unfolding load_noted store_noted
noted_near ns Get i = either_near (ltb i 4096) _ (missing Reference) (load_near _) tt
noted_near ns Set i = either_near (ltb i 4096) _ (missing Reference) (store_near _) tt

-- an operand that passes the test
operand_few : (x : ℕ) → T (held_by limit x) → x ≤ limit
operand_few x q = go (ltb x 8) refl q
  where
    go : (b : Bool) → ltb x 8 ≡ b → T (b || leb x limit) → x ≤ limit
    go true e p = omega (arith, ltb-true x 8 e)
    go false e p = leb→le x limit p

-- records whose words and trees words hold
abbrev pub AllModest : Forest → Type 0
AllModest none = Unit {0}
AllModest (tree r w k s) = Modest limit w (own_tree k) × AllModest k × AllModest s

module _ (sc : StackCode) (ns : List ℕ) (i : ℕ) where
  abbrev o : Mode
  o = record { code = sc; nest = false; trim = front i }

  abbrev L : Lookup
  L = noted_look ns

  module _ (fn : Words) (r : ℕ) (w : Words) (k : Forest) (vs : Role → ℕ → State → State) (body : State → State)
      (child-keeps : (a : Role) (j : ℕ) → Keeps (vs a j)) where
    -- one step, then the others
    onward : (is : List Step) (env : List ℕ) (s s₁ : State) → After s s₁ → AllLabels (labels s) env
        → (AllLabels (labels s₁) env → Holds s₁ → After s₁ (exec L o fn r w k vs body is env s₁)) → After s (exec L o fn r w k vs body is env s₁)
    onward is env s s₁ a b f = then_after s s₁ _ a (f (more_labels (labels s) (labels s₁) a.more env b) a.holds)

    -- with labels env taken before
    exec_after : (is : List Step) → T (tame limit is) → (env : List ℕ) (s : State) → AllLabels (labels s) env → Holds s
        → After s (exec L o fn r w k vs body is env s)
    unfolding exec tame outward
    exec_after [] q env s b h = stay s h
    exec_after (push_op c x ∷ is) q env s b h =
        let p = and_r (no_name c) _ q in
        onward is env s _ (emit_keeps r (Do c x) s (operand_few x (and_l (held_by limit x) _ p)) h) b (exec_after is (and_r (held_by limit x) _ p) env _)
    exec_after (push_const c p v ∷ is) q env s b h = onward is env s _ (emit_keeps _ (Loads c v) s tt h) b (exec_after is (and_r (no_function v) _ q) env _)
    exec_after (get_label ∷ is) q env s b h =
        let a = bump_keeps s h in
        then_after s (bump s) _ a
        (exec_after is q (env ++ (labels s ∷ [])) (bump s) (labels_one _ (labels s) env (more_labels (labels s) _ a.more env b) a.more) a.holds)
    exec_after (place j ∷ is) q env s b h = onward is env s _ (emit_keeps r (Label (get_or env j 0)) s (label_at (labels s) env j b) h) b (exec_after is q env _)
    exec_after (jump x j ∷ is) q env s b h = onward is env s _ (emit_keeps r (To x (get_or env j 0)) s (label_at (labels s) env j b) h) b (exec_after is q env _)
    exec_after (jump_back j ∷ is) q env s b h = onward is env s _ (emit_keeps r (Back (get_or env j 0)) s (label_at (labels s) env j b) h) b (exec_after is q env _)
    exec_after (visit y a j ∷ is) q env s b h = onward is env s _ (keeping_keeps y (vs a j) (child-keeps a j) s h) b (exec_after is q env _)
    exec_after (begin_loop x j ∷ is) q env s b h =
        onward is env s _ (begin_keeps i r (get_or env x 0) (get_or env j 0) s (label_at (labels s) env x b) (label_at (labels s) env j b) h) b (exec_after is q env _)
    exec_after (end_loop ∷ is) q env s b h = onward is env s _ (finish_keeps s h) b (exec_after is q env _)
    exec_after (exit x ∷ is) q env s b h = onward is env s _ (way_keeps r w x (loops s) s h.opens h) b (exec_after is q env _)
    exec_after (check_return ∷ is) q env s b h = onward is env s _ (barred_keeps w (is_do fn) s h) b (exec_after is q env _)
    exec_after (access u p ∷ is) q env s b h =
        let x = spot_at (tree r w k none) p in
        onward is env s _ (sought_keeps r u (number_of x) (L fn u x) (noted_near ns u (number_of x)) s h) b (exec_after is q env _)
    exec_after (refuse x ∷ is) q env s b h = onward is env s _ (halt_keeps _ s h) b (exec_after is q env _)
    exec_after (inner ∷ is) q env s b h = absurd q

    exec_keeps : (is : List Step) → T (tame limit is) → Keeps (exec L o fn r w k vs body is [])
    exec_keeps is q s h = exec_after is q [] s tt h

    none_keeps : Keeps (exec L o fn r w k vs body [] [])
    unfolding exec
    none_keeps s h = stay s h

    -- a Function's steps: no function inside is run
    function_keeps : (ks : Nodes) → Keeps (exec L o fn r w k vs body (function_steps w ks) [])
    unfolding exec nested
    function_keeps ks s h = go (is_do w)
      where
        a : After s (emit (mark r (Loads LoadConst (function w.p))) s)
        a = emit_keeps r (Loads LoadConst (function w.p)) s tt h

        go : (b : Bool) → After s
            (exec L o fn r w k vs body (cond b (inner ∷ load (function w.p) ∷ push_op Call 0 ∷ []) (inner ∷ load (function w.p) ∷ [])) [] s)
        go true = then_after s _ _ a (emit_keeps r (Do Call 0) _ (omega arith) a.holds)
        go false = a

  abbrev Kept : ℕ → Words → Forest → Type 0
  Kept r w k = Modest limit w (own_tree k) → AllModest k → (a : Role) (fn : Words) → Keeps (visit_of L o r w k a fn)

  children_keep : (k : Forest) → Each Kept k → AllModest k → (fn : Words) (a : Role) (j : ℕ) → Keeps (child_visit (visits_of L o k) fn a j)
  children_keep none h g fn a j = stay
  children_keep (tree r w k s) (h, hs) (q, g, gs) fn a zero = h q g a fn
  children_keep (tree r w k s) (h, hs) (q, g, gs) fn a (suc j) = children_keep s hs gs fn a j

  kept_step : (r : ℕ) (w : Words) (k : Forest) → Each Kept k → Kept r w k
  kept_step r w k h q g a fn = go (is_function w) refl
    where
      vs : Role → ℕ → State → State
      vs = child_visit (visits_of L o k) fn

      body : State → State
      body = stream L o r w k (visits_of L o k)

      go : (b : Bool) → is_function w ≡ b → Keeps (visit_of L o r w k a fn)
      go true f =
          function_only (λ is. Keeps (exec L o fn r w k vs body is [])) sc a w (own_tree k) (eqb-true w.kind 30 f)
          (none_keeps fn r w k vs body (children_keep k h g fn)) (function_keeps fn r w k vs body (children_keep k h g fn) (own_tree k))
      go false n =
          exec_keeps fn r w k vs body (children_keep k h g fn) (steps sc a w (own_tree k)) (steps_tame limit sc a w (own_tree k) (eqb-false w.kind 30 n) q)

  stream_keeps : (r : ℕ) (w : Words) (k : Forest) → AllModest k → Keeps (stream L o r w k (visits_of L o k))
  unfolding stream
  stream_keeps r w k g =
      exec_keeps w r w k (child_visit (visits_of L o k) w) idle (children_keep k (each Kept kept_step k) g w) (stream_steps w) (stream_tame limit w)

  bound_small : (n : ℕ) → n ≤ limit → (ms : List Mark) → AllBound n ms → AllSmall ms
  bound_small n h [] b = omega arith
  bound_small n h (mark r (Label l) ∷ ms) (p, b) = omega (arith, bound_small n h ms b)
  bound_small n h (mark r (To x l) ∷ ms) (p, b) = omega (arith, bound_small n h ms b)
  bound_small n h (mark r (Back l) ∷ ms) (p, b) = omega (arith, bound_small n h ms b)
  bound_small n h (mark r (Leave x l) ∷ ms) (p, b) = omega (arith, bound_small n h ms b)
  bound_small n h (mark r (Loads c v) ∷ ms) (p, b) = omega (arith, bound_small n h ms b)
  bound_small n h (mark r (Do c x) ∷ ms) (p, b) = omega (arith, bound_small n h ms b)

  -- one function by itself: as many labels as a word holds, so all its operands
  pub alone_small : (r : ℕ) (w : Words) (k : Forest) → AllModest k → labels (alone L o r w k) ≤ limit → AllSmall (marks (alone L o r w k))
  unfolding alone
  alone_small r w k g h =
      bound_small (labels (alone L o r w k)) h (marks (alone L o r w k))
      (stream_keeps r w k g (anew (record { errors = []; met = 0; streams = [] })) (record { markers = tt; opens = tt })).holds.markers

-- ---- every record of a tree that is lent in words

tally_most : (f : Forest) → tally (own_tree f) ≤ count f
tally_most none = omega arith
tally_most (tree r w k s) = go (is_function w) (tally_most k) (tally_most s)
  where
    go : (b : Bool) → tally (own_tree k) ≤ count k → tally (own_tree s) ≤ count s → suc (tally (cond b bare (own_tree k)) + tally (own_tree s)) ≤ suc
        (count k + count s)
    go true p q = omega arith
    go false p q = omega arith

module _ (recs : List ℕ) (held : (j : ℕ) → get_or recs j 0 ≤ limit) where
  all_modest : (f : Forest) → Genuine recs f → count f ≤ limit → AllModest f
  all_modest none g h = tt
  all_modest (tree r w k s) (e, d, g, gs) h = (
    record { detail = subst (λ (z : Words). z.detail ≤ limit) (sym e) (held (r * 8 + 1)); nodes = omega (arith, tally_most k) },
    all_modest k g (omega arith),
    all_modest s gs (omega arith),
  )

  modest_below : (f : Forest) → Genuine recs f → AllModest f → Everywhere (λ r w. AllModest (children recs r)) f
  modest_below none g h = tt
  modest_below (tree r w k s) (e, d, g, gs) (q, h, hs) = (subst AllModest d h, modest_below k g h, modest_below s gs hs)

  pub root_modest : count (root recs) ≤ limit → Everywhere (λ r w. AllModest (children recs r)) (root recs)
  root_modest h =
      let g : Genuine recs (root recs) = (refl, refl, genuine recs (first recs 0), tt) in
      modest_below (root recs) g (all_modest (root recs) g h)
