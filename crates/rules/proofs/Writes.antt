-- A visit that ends clean has written its segment: over all lists of steps that pass the test. Assumes nothing.
use mathlib.Core.Path.{◌≡◌, refl, sym, ap, subst, ◌∙◌}
use mathlib.Core.Bool.{Bool, true, false, ◌&&◌}
use mathlib.Core.List.{List, [], ◌∷◌, ◌++◌, reverse_aux, reverse_aux-append}
use Prim.Native.Nat.{ℕ, suc, ◌+◌}
use native.Mathlib.Omega.{arith}
use lib.ListN.{get_or}
use lib.Dec.{T, eqb, eqb→eq}
use Rattle.tables.specs.Record.{Words, is_do}
use Rattle.tables.specs.Forest.{Forest, none, tree}
use Rattle.tables.specs.declared.refusal.RunRule.{RunRule}
use Rattle.tables.specs.declared.refusal.RunRule.TheVariants.{Skipped}
use Rattle.tables.proofs.ForestLaws.{and_r}
use Rattle.pool.specs.Names.{Access, local, global, upvalue, missing}
use Rattle.rules.specs.declared.StackCode.{StackCode}
use Rattle.rules.specs.Marker.{Way, Mark}
use Rattle.rules.specs.Step.{
  Role,
  Keep,
  pass,
  keep,
  Use,
  Step,
  push_op,
  push_const,
  get_label,
  place,
  jump,
  jump_back,
  visit,
  begin_loop,
  end_loop,
  exit,
  check_return,
  access,
  refuse,
  inner,
}
use Rattle.rules.specs.declared.Flow.{Flow}
use Rattle.rules.specs.declared.error.ErrorKind.{ErrorKind}
use Rattle.rules.specs.declared.error.ErrorKind.TheVariants.{ReturnOutsideFunction}
use Rattle.rules.specs.declared.Flow.TheVariants.{Go, Cut, Refused}
use Rattle.rules.specs.Run.{
  Lookup,
  Error,
  error,
  Loop,
  loop,
  Stream,
  Side,
  State,
  st,
  marks,
  labels,
  loops,
  opened,
  flow,
  side,
  emit,
  bump,
  halt,
  begin,
  drop1,
  finish,
  way_kind,
  error_number,
  way_out,
  outward,
  barred,
  number_of,
  spot_at,
  sought,
  settle,
  kept,
  anew,
  returned,
  entered,
  nested,
  idle,
  keeping,
  Mode,
  full,
  act,
  exec,
}
use Rattle.rules.proofs.Segment.{Seg, no_seg, sought_marks, leaving, finished, seg_code, seg_count, seg_log, seg_funs, seg_made, step_seg}
use Rattle.rules.proofs.Check.{has, del, Inside, outside, within, is_out, chk, sound_at, settled, ok, begun, stack}

-- the run goes on and no error was kept
abbrev pub Clean : State → Type 0
Clean s = (flow s ≡ Go) × ((side s).errors ≡ [])

-- fs more functions met, with the streams ms, oldest first
abbrev pub added : ℕ → List Stream → Side → Side
added fs ms e = record { errors = e.errors; met = e.met + fs; streams = reverse_aux ms e.streams }

-- the state after s with the markers xs written, n labels taken, the loops ls open, the loops os opened, and fs functions met with the streams ms
abbrev pub after : State → List Mark → ℕ → List Loop → List Loop → ℕ → List Stream → State
after s xs n ls os fs ms = st (reverse_aux xs (marks s)) (labels s + n) ls (reverse_aux os (opened s)) (flow s) (added fs ms (side s))

-- where a visit ends clean it has done what the segment says
abbrev pub Writes : (State → State) → Seg → Type 0
Writes v g = (s : State) → Clean (v s) → v s ≡ after s (g.code (labels s) (loops s)) g.count (loops s) (g.log (labels s)) g.funs g.made

-- what ends clean began clean
abbrev pub Clean-back : (State → State) → Type 0
Clean-back v = (s : State) → Clean (v s) → Clean s

pub writes_clean : (v : State → State) (g : Seg) → Writes v g → Clean-back v
writes_clean v g h s c = rw (h s c) at c

pub cut_go : (k : ErrorKind) (a b : ℕ) → Cut k a b ≡ Go → ⊥
cut_go k a b q = let z : ◌≡◌ {A = ℕ} 0 1 = cc in omega arith

pub refused_go : (x : RunRule) (r : ℕ) → Refused x r ≡ Go → ⊥
refused_go x r q = let z : ◌≡◌ {A = ℕ} 0 1 = cc in omega arith

kept_none : (x : Error) (xs : List Error) → x ∷ xs ≡ [] → ⊥
kept_none x xs q = let z : ◌≡◌ {A = ℕ} 0 1 = cc in omega arith

-- each primitive: what ends clean began clean
emit_clean : (x : Mark) → Clean-back (emit x)
unfolding emit
emit_clean x (st m l ls os Go e) c = c
emit_clean x (st m l ls os (Cut k a b) e) c = c
emit_clean x (st m l ls os (Refused n r) e) c = c

bump_clean : Clean-back bump
unfolding bump
bump_clean (st m l ls os Go e) c = c
bump_clean (st m l ls os (Cut k a b) e) c = c
bump_clean (st m l ls os (Refused n r) e) c = c

halt_clean : (f : Flow) → Clean-back (halt f)
unfolding halt
halt_clean f (st m l ls os Go e) c = (refl, c.1)
halt_clean f (st m l ls os (Cut k a b) e) c = c
halt_clean f (st m l ls os (Refused n r) e) c = c

begin_clean : (trim : List Loop → List Loop) (x : Loop) → Clean-back (begin trim x)
unfolding begin
begin_clean trim x (st m l ls os Go e) c = c
begin_clean trim x (st m l ls os (Cut k a b) e) c = c
begin_clean trim x (st m l ls os (Refused n r) e) c = c

finish_clean : Clean-back finish
unfolding finish
finish_clean (st m l ls os Go e) c = c
finish_clean (st m l ls os (Cut k a b) e) c = c
finish_clean (st m l ls os (Refused n r) e) c = c

way_clean : (r : ℕ) (w : Words) (x : Way) (ls : List Loop) → Clean-back (way_out r w x ls)
way_clean r w x [] s c = halt_clean _ s c
way_clean r w x (loop o d b ∷ ls) s c = emit_clean _ s c

outward_clean : (r : ℕ) (w : Words) (x : Way) → Clean-back (outward r w x)
unfolding outward
outward_clean r w x s c = way_clean r w x (loops s) s c

barred_clean : (w : Words) (b : Bool) → Clean-back (barred w b)
unfolding barred
barred_clean w true s c = halt_clean _ s c
barred_clean w false s c = c

sought_clean : (r : ℕ) (u : Use) (i : ℕ) (x : Access) → Clean-back (sought r u i x)
sought_clean r u i (local n) s c = emit_clean _ s c
sought_clean r u i (global n) s c = emit_clean _ s c
sought_clean r u i (upvalue n) s c = emit_clean _ s c
sought_clean r u i (missing x) s c = halt_clean _ s c

-- settling keeps an error, so a clean end was not settled
pub settle_same : (s : State) → Clean (settle s) → settle s ≡ s
settle_same (st m l ls os Go e) c = refl
settle_same (st m l ls os (Cut k a b) e) c = absurd (kept_none (error (error_number k) a b) e.errors c.1)
settle_same (st m l ls os (Refused n r) e) c = refl

pub settle_clean : Clean-back settle
settle_clean s c = rw (settle_same s c) at c

keeping_clean : (y : Keep) (v : State → State) → Clean-back v → Clean-back (keeping y v)
unfolding kept
keeping_clean pass v h s c = h s c
keeping_clean keep v h (st m l ls os Go e) c = h (st m l ls os Go e) (settle_clean (v (st m l ls os Go e)) c)
keeping_clean keep v h (st m l ls os (Cut k a b) e) c = c
keeping_clean keep v h (st m l ls os (Refused n r) e) c = c

returned_clean : (r : ℕ) (w : Words) (m : List Mark) (l : ℕ) (ls os : List Loop) → Clean-back (returned r w m l ls os)
returned_clean r w m l ls os (st m' l' ls' os' f e) c = c

-- a function entered with a clean end: its number is that of the functions met so far, and its body ended clean
pub entered_body : (b : Bool) (r : ℕ) (w : Words) (v : State → State) (m : List Mark) (l : ℕ) (ls os : List Loop) (e : Side) → Clean (entered b r w v m l ls os e)
    → (b ≡ true) × Clean (settle (v (anew e)))
entered_body true r w v m l ls os e c = (refl, returned_clean r w m l ls os (settle (v (anew e))) c)
entered_body false r w v m l ls os e c = absurd (refused_go Skipped r c.0)

nested_clean : (b : Bool) (r : ℕ) (w : Words) (v : State → State) → Clean-back v → Clean-back (nested b r w v)
unfolding nested
nested_clean false r w v h s c = c
nested_clean true r w v h (st m l ls os Go e) c =
    h (anew e) (settle_clean (v (anew e)) (entered_body (eqb w.p e.met) r w v m l ls os e c).1)
nested_clean true r w v h (st m l ls os (Cut k a b) e) c = c
nested_clean true r w v h (st m l ls os (Refused n q) e) c = c

-- "a function met after an error skipped one" is never met where the end is clean
pub nested_number : (r : ℕ) (w : Words) (v : State → State) (m : List Mark) (l : ℕ) (ls os : List Loop) (e : Side) → Clean (nested true r w v (st m l ls os Go e))
    → w.p ≡ e.met
unfolding nested
nested_number r w v m l ls os e c = eqb→eq w.p e.met (subst T (sym (entered_body (eqb w.p e.met) r w v m l ls os e c).0) tt)

module _ (t : Lookup) (o : Mode) (fn : Words) (r : ℕ) (w : Words) (k : Forest) (vs : Role → ℕ → State → State) (body : State → State)
    (child-clean : (x : Role) (j : ℕ) → Clean-back (vs x j)) (Body-Clean : Clean-back body) where
  pub act_clean : (x : Step) (env : List ℕ) → Clean-back (act t o fn r w k vs body x env)
  act_clean (push_op c x) env s d = emit_clean _ s d
  act_clean (push_const c p v) env s d = emit_clean _ s d
  act_clean get_label env s d = bump_clean s d
  act_clean (place i) env s d = emit_clean _ s d
  act_clean (jump h i) env s d = emit_clean _ s d
  act_clean (jump_back i) env s d = emit_clean _ s d
  act_clean (visit y x j) env s d = keeping_clean y (vs x j) (child-clean x j) s d
  act_clean (begin_loop i j) env s d = begin_clean _ _ s d
  act_clean end_loop env s d = finish_clean s d
  act_clean (exit x) env s d = outward_clean r w x s d
  act_clean check_return env s d = barred_clean w (is_do fn) s d
  act_clean (access u p) env s d = sought_clean r u (number_of (spot_at (tree r w k none) p)) (t fn u (spot_at (tree r w k none) p)) s d
  act_clean (refuse x) env s d = halt_clean _ s d
  act_clean inner env s d = nested_clean o.nest r w body Body-Clean s d

  -- a run that ends clean was clean all along
  pub clean_back : (is : List Step) (env : List ℕ) → Clean-back (exec t o fn r w k vs body is env)
  unfolding exec
  clean_back [] env s c = c
  clean_back (x ∷ is) env s c = act_clean x env s (clean_back is _ (act t o fn r w k vs body x env s) c)

-- each primitive where it ends clean
keeping_same : (y : Keep) (v : State → State) (m : List Mark) (l : ℕ) (ls os : List Loop) (e : Side) → Clean (keeping y v (st m l ls os Go e))
    → keeping y v (st m l ls os Go e) ≡ v (st m l ls os Go e)
unfolding kept
keeping_same pass v m l ls os e c = refl
keeping_same keep v m l ls os e c = settle_same (v (st m l ls os Go e)) c

barred_same : (w : Words) (b : Bool) (m : List Mark) (l : ℕ) (ls os : List Loop) (e : Side) → Clean (barred w b (st m l ls os Go e))
    → barred w b (st m l ls os Go e) ≡ st m l ls os Go e
unfolding barred halt
barred_same w true m l ls os e c = absurd (cut_go ReturnOutsideFunction w.start w.end c.0)
barred_same w false m l ls os e c = refl

sought_same : (r : ℕ) (u : Use) (i : ℕ) (x : Access) (m : List Mark) (l : ℕ) (ls os : List Loop) (e : Side) → Clean (sought r u i x (st m l ls os Go e))
    → sought r u i x (st m l ls os Go e) ≡ st (reverse_aux (sought_marks r u x) m) l ls os Go e
unfolding emit halt
sought_same r u i (local n) m l ls os e c = refl
sought_same r u i (global n) m l ls os e c = refl
sought_same r u i (upvalue n) m l ls os e c = refl
sought_same r u i (missing x) m l ls os e c = absurd (refused_go x i c.0)

outward_same : (r : ℕ) (w : Words) (x : Way) (m : List Mark) (l : ℕ) (ls os : List Loop) (e : Side) → Clean (outward r w x (st m l ls os Go e))
    → outward r w x (st m l ls os Go e) ≡ st (reverse_aux (leaving r x ls) m) l ls os Go e
unfolding outward emit halt
outward_same r w x m l [] os e c = absurd (cut_go (way_kind x) w.start w.end c.0)
outward_same r w x m l (loop o d b ∷ ls) os e c = refl

-- a function's own stream is kept, and the stream around it is as it was
entered_same : (b : Bool) (r : ℕ) (w : Words) (v : State → State) (g : Seg) → Writes v g → (m : List Mark) (l : ℕ) (ls os : List Loop) (e : Side)
    → Clean (entered b r w v m l ls os e) → entered b r w v m l ls os e ≡ st m l ls os Go (added (suc g.funs) (g.made ++ (finished r w g ∷ [])) e)
entered_same true r w v g h m l ls os e c =
    let d = (entered_body true r w v m l ls os e c).1 in
    let x = settle_same (v (anew e)) d ∙ h (anew e) (settle_clean (v (anew e)) d) in
    let p : 0 + g.count ≡ g.count = omega arith in
    let q : suc e.met + g.funs ≡ e.met + suc g.funs = omega arith in
    ap (returned r w m l ls os) x ∙ rw (p, q, reverse_aux-append g.made (finished r w g ∷ []) e.streams)
entered_same false r w v g h m l ls os e c = absurd (refused_go Skipped r c.0)

pub nested_same : (r : ℕ) (w : Words) (v : State → State) (g : Seg) → Writes v g → (m : List Mark) (l : ℕ) (ls os : List Loop) (e : Side)
    → Clean (nested true r w v (st m l ls os Go e)) → nested true r w v (st m l ls os Go e) ≡ st m l ls os Go (added (suc g.funs) (g.made ++ (finished r w g ∷ [])) e)
unfolding nested
nested_same r w v g h m l ls os e c = entered_same (eqb w.p e.met) r w v g h m l ls os e c

-- what two parts add is what both together add
pub added_both : (a b : ℕ) (xs ys : List Stream) (e : Side) → added b ys (added a xs e) ≡ added (a + b) (xs ++ ys) e
added_both a b xs ys e = let z : e.met + a + b ≡ e.met + (a + b) = omega arith in rw (z, reverse_aux-append xs ys e.streams)

joined : (A B m : List Mark) (l a b : ℕ) (ls C D os : List Loop) (f : Flow) (x y : ℕ) (X Y : List Stream) (e : Side)
    → st (reverse_aux B (reverse_aux A m)) (l + a + b) ls (reverse_aux D (reverse_aux C os)) f (added y Y (added x X e))
    ≡ st (reverse_aux (A ++ B) m) (l + (a + b)) ls (reverse_aux (C ++ D) os) f (added (x + y) (X ++ Y) e)
joined A B m l a b ls C D os f x y X Y e =
    let z : l + a + b ≡ l + (a + b) = omega arith in rw (reverse_aux-append A B m, z, reverse_aux-append C D os, added_both x y X Y e)

module _ (sc : StackCode) (t : Lookup) (fn : Words) (r : ℕ) (w : Words) (k : Forest) (vs : Role → ℕ → State → State) (body : State → State) (ks : Role → ℕ → Seg) (g : Seg)
    (a : Bool) (writes : (x : Role) (j : ℕ) → Writes (vs x j) (ks x j)) (body-writes : Writes body g) where
  full_back : (is : List Step) (env : List ℕ) → Clean-back (exec t (full sc) fn r w k vs body is env)
  full_back is env = clean_back t (full sc) fn r w k vs body (λ x j. writes_clean (vs x j) (ks x j) (writes x j)) (writes_clean body g body-writes) is env

  pub exec_run : (is : List Step) (env : List ℕ) (s : State) (n : ℕ) (pend done free : List ℕ) (lp : Inside) (outer : List Loop) → loops s ≡ stack r env lp outer
      → T (ok a (chk n pend done free lp) is) → Clean (exec t (full sc) fn r w k vs body is env s)
      → exec t (full sc) fn r w k vs body is env s
      ≡ after s (seg_code t fn r w k ks g is env (labels s) (loops s)) (seg_count t fn r w k ks g is) outer (seg_log t fn r w k ks g is env (labels s))
      (seg_funs t fn r w k ks g is) (seg_made t fn r w k ks g is)
  unfolding exec emit bump halt begin finish seg_code seg_count seg_log seg_funs seg_made ok stack
  exec_run [] env (st m l ls os f e) n pend done free outside outer q h c =
      let z : l + 0 ≡ l = omega arith in let y : e.met + 0 ≡ e.met = omega arith in rw (q, z, y)
  exec_run [] env (st m l ls os f e) n [] done free (within i j) outer q h c = absurd h
  exec_run [] env (st m l ls os f e) n (x ∷ pend) done free (within i j) outer q h c = absurd h
  exec_run (x ∷ is) env (st m l ls os (Cut i j b) e) n pend done free lp outer q h c = absurd (cut_go i j b (full_back (x ∷ is) env (st m l ls os (Cut i j b) e) c).0)
  exec_run (x ∷ is) env (st m l ls os (Refused y j) e) n pend done free lp outer q h c = absurd (refused_go y j (full_back (x ∷ is) env (st m l ls os (Refused y j) e) c).0)
  exec_run (push_op y x ∷ is) env (st m l ls os Go e) n pend done free lp outer q h c = exec_run is env _ n pend done free lp outer q h c
  exec_run (push_const y p v ∷ is) env (st m l ls os Go e) n pend done free lp outer q h c = exec_run is env _ n pend done free lp outer q h c
  exec_run (get_label ∷ is) env (st m l ls os Go e) n pend done free outside outer q h c =
      let z : l + suc (seg_count t fn r w k ks g is) ≡ suc l + seg_count t fn r w k ks g is = omega arith in
      rw z (exec_run is (env ++ (l ∷ [])) (st m (suc l) ls os Go e) (suc n) (n ∷ pend) done (n ∷ free) outside outer q h c)
  exec_run (get_label ∷ is) env (st m l ls os Go e) n pend done free (within i j) outer q h c = absurd h
  exec_run (place i ∷ is) env (st m l ls os Go e) n pend done free lp outer q h c = exec_run is env _ n (del i pend) (i ∷ done) free lp outer q (and_r (has i pend) _ h) c
  exec_run (jump x i ∷ is) env (st m l ls os Go e) n pend done free lp outer q h c = exec_run is env _ n pend done free lp outer q (and_r (has i pend) _ h) c
  exec_run (jump_back i ∷ is) env (st m l ls os Go e) n pend done free lp outer q h c = exec_run is env _ n pend done free lp outer q (and_r (has i done) _ h) c
  exec_run (visit y x j ∷ is) env (st m l ls os Go e) n pend done free lp outer q h c =
      let s = st m l ls os Go e in
      let u = ks x j in
      let d = full_back is env (keeping y (vs x j) s) c in
      let z = keeping_same y (vs x j) m l ls os e d in
      let v = z ∙ writes x j s (rw z at d) in
      ap (exec t (full sc) fn r w k vs body is env) v
      ∙ exec_run is env (after s (u.code l ls) u.count ls (u.log l) u.funs u.made) n pend done free lp outer q
      (and_r (sound_at pend done lp && settled a lp) _ h) (subst (λ z. Clean (exec t (full sc) fn r w k vs body is env z)) v c)
      ∙ joined (u.code l ls) (seg_code t fn r w k ks g is env (l + u.count) ls) m l u.count (seg_count t fn r w k ks g is) outer
      (u.log l) (seg_log t fn r w k ks g is env (l + u.count)) os Go u.funs (seg_funs t fn r w k ks g is) u.made (seg_made t fn r w k ks g is) e
  exec_run (begin_loop i j ∷ is) env (st m l ls os Go e) n pend done free outside outer q h c =
      exec_run is env _ n pend done (del j (del i free)) (within i j) outer (ap (λ z. loop r (get_or env i 0) (get_or env j 0) ∷ z) q)
      (and_r (a && ((has i pend && has j pend) && (has i free && has j (del i free)))) _ h) c
  exec_run (begin_loop i j ∷ is) env (st m l ls os Go e) n pend done free (within i' j') outer q h c = absurd h
  exec_run (end_loop ∷ is) env (st m l ls os Go e) n pend done free outside outer q h c = absurd h
  exec_run (end_loop ∷ is) env (st m l ls os Go e) n pend done free (within i j) outer q h c =
      exec_run is env (st m l (drop1 ls) os Go e) n pend done free outside outer (ap drop1 q) h c
  exec_run (exit x ∷ is) env (st m l ls os Go e) n pend done free lp outer q h c =
      let s = st m l ls os Go e in
      let v = outward_same r w x m l ls os e (full_back is env (outward r w x s) c) in
      ap (exec t (full sc) fn r w k vs body is env) v
      ∙ exec_run is env (st (reverse_aux (leaving r x ls) m) l ls os Go e) n pend done free lp outer q (and_r (is_out lp) _ h)
      (subst (λ z. Clean (exec t (full sc) fn r w k vs body is env z)) v c)
      ∙ rw (reverse_aux-append (leaving r x ls) (seg_code t fn r w k ks g is env l ls) m)
  exec_run (check_return ∷ is) env (st m l ls os Go e) n pend done free lp outer q h c =
      let s = st m l ls os Go e in
      let v = barred_same w (is_do fn) m l ls os e (full_back is env (barred w (is_do fn) s) c) in
      ap (exec t (full sc) fn r w k vs body is env) v
      ∙ exec_run is env s n pend done free lp outer q h (subst (λ z. Clean (exec t (full sc) fn r w k vs body is env z)) v c)
  exec_run (access x p ∷ is) env (st m l ls os Go e) n pend done free lp outer q h c =
      let i = spot_at (tree r w k none) p in
      let y = sought_marks r x (t fn x i) in
      let v = sought_same r x (number_of i) (t fn x i) m l ls os e (full_back is env (sought r x (number_of i) (t fn x i) (st m l ls os Go e)) c) in
      ap (exec t (full sc) fn r w k vs body is env) v
      ∙ exec_run is env (st (reverse_aux y m) l ls os Go e) n pend done free lp outer q h (subst (λ z. Clean (exec t (full sc) fn r w k vs body is env z)) v c)
      ∙ rw (reverse_aux-append y (seg_code t fn r w k ks g is env l ls) m)
  exec_run (refuse x ∷ is) env (st m l ls os Go e) n pend done free lp outer q h c = absurd (refused_go x r (full_back is env (st m l ls os (Refused x r) e) c).0)
  exec_run (inner ∷ is) env (st m l ls os Go e) n pend done free lp outer q h c =
      let s = st m l ls os Go e in
      let x = suc g.funs in
      let y = g.made ++ (finished r w g ∷ []) in
      let v = nested_same r w body g body-writes m l ls os e (full_back is env (nested true r w body s) c) in
      ap (exec t (full sc) fn r w k vs body is env) v
      ∙ exec_run is env (st m l ls os Go (added x y e)) n pend done free lp outer q h (subst (λ z. Clean (exec t (full sc) fn r w k vs body is env z)) v c)
      ∙ rw (added_both x (seg_funs t fn r w k ks g is) y (seg_made t fn r w k ks g is) e)

  pub exec_steps : (is : List Step) → T (ok a begun is) → Writes (exec t (full sc) fn r w k vs body is []) (step_seg t fn r w k ks g is)
  unfolding stack
  exec_steps is h s c = exec_run is [] s 0 [] [] [] outside (loops s) refl h c

pub idle_writes : Writes idle no_seg
idle_writes (st m l ls os f e) c = let z : l + 0 ≡ l = omega arith in let y : e.met + 0 ≡ e.met = omega arith in rw (z, y)
