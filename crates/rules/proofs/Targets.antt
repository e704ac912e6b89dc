-- Where the targets of a segment stand: further on, but for back edges and Continue. Assumes nothing.
use mathlib.Core.Path.{◌≡◌, refl, sym, ap, subst, ◌∙◌}
use mathlib.Core.Bool.{Bool, true, false, ◌&&◌, ◌||◌}
use mathlib.Core.List.{List, [], ◌∷◌, ◌++◌, reverse_aux, append_assoc}
use Prim.Native.Nat.{ℕ, suc, ◌+◌, ◌≤◌}
use native.Mathlib.Omega.{arith}
use lib.ListN.{length, get_or, get_or-append}
use lib.Dec.{T, eqb, eqb→eq}
use Rattle.tables.specs.Record.{Words}
use Rattle.tables.specs.Forest.{Forest, none, tree}
use Rattle.tables.proofs.ForestLaws.{and_l, and_r}
use Rattle.pool.specs.Names.{Access, local, global, upvalue, missing}
use Rattle.rules.specs.Marker.{Break, Continue, Label, To, Back, Leave, Load, Do, Mark, mark}
use Rattle.rules.specs.Step.{Role, Use, Step, push_op, push_const, get_label, place, jump, jump_back, visit, begin_loop, end_loop, exit, check_return, access, refuse, inner}
use Rattle.rules.specs.Run.{Lookup, Loop, loop, number_of, spot_at}
use Rattle.rules.proofs.Segment.{Seg, sought_marks, seg_code}
use Rattle.rules.proofs.Check.{has, del, Inside, outside, within, chk, ok, begun, sound_at, settled, stack}
use Rattle.rules.proofs.Count.{one_same, placed, placed_append, placed_back, Below, below_suc, below_has, below_del, pending_del, length_grown}
use Rattle.rules.proofs.Placing.{Placed, placed_run}

-- u: the markers before, newest first; v: those after
abbrev pub Target : List Mark → Mark → List Mark → Type 0
Target u (mark r (Label k)) v = Unit {0}
Target u (mark r (To h l)) v = 1 ≤ placed l v
Target u (mark r (Back l)) v = 1 ≤ placed l u
Target u (mark r (Leave Break l)) v = 1 ≤ placed l v
Target u (mark r (Leave Continue l)) v = 1 ≤ placed l u + placed l v
Target u (mark r (Load c x)) v = Unit {0}
Target u (mark r (Do c n)) v = Unit {0}

-- every target of the markers xs, which stand after u and before v
abbrev pub Targets : List Mark → List Mark → List Mark → Type 0
Targets u [] v = Unit {0}
Targets u (m ∷ xs) v = Target u m (xs ++ v) × Targets (m ∷ u) xs v

targets_append : (u xs ys v : List Mark) → Targets u xs (ys ++ v) → Targets (reverse_aux xs u) ys v → Targets u (xs ++ ys) v
targets_append u [] ys v p q = q
targets_append u (m ∷ xs) ys v (a, p) q = (subst (λ z. Target u m z) (sym (append_assoc xs ys v)) a, targets_append (m ∷ u) xs ys v p q)

-- the innermost open loop's break label is placed after, its continue label before or after
abbrev pub Fits : List Loop → List Mark → List Mark → Type 0
Fits [] u v = Unit {0}
Fits (loop o c b ∷ ls) u v = (1 ≤ placed b v) × (1 ≤ placed c u + placed c v)

fits_more : (ls : List Loop) (u u' v v' : List Mark) → ((l : ℕ) → placed l u ≤ placed l u') → ((l : ℕ) → placed l v ≤ placed l v') → Fits ls u v → Fits ls u' v'
fits_more [] u u' v v' p q f = tt
fits_more (loop o c b ∷ ls) u u' v v' p q (f, g) = (omega (arith, q b), omega (arith, p c, q c))

-- the labels named is are placed in u
abbrev Done : List ℕ → List ℕ → List Mark → Type 0
Done env [] u = Unit {0}
Done env (i ∷ is) u = (1 ≤ placed (get_or env i 0) u) × Done env is u

done_more : (env is : List ℕ) (u u' : List Mark) → ((l : ℕ) → placed l u ≤ placed l u') → Done env is u → Done env is u'
done_more env [] u u' p d = tt
done_more env (i ∷ is) u u' p (h, d) = (omega (arith, p (get_or env i 0)), done_more env is u u' p d)

done_grown : (env : List ℕ) (b : ℕ) (is : List ℕ) (u : List Mark) → Below (length env) is → Done env is u → Done (env ++ (b ∷ [])) is u
done_grown env b [] u h d = tt
done_grown env b (i ∷ is) u (h, hs) (d, ds) = (rw (get_or-append env (b ∷ []) 0 i h) d, done_grown env b is u hs ds)

done_at : (env : List ℕ) (i : ℕ) (is : List ℕ) (u : List Mark) → Done env is u → T (has i is) → 1 ≤ placed (get_or env i 0) u
done_at env i [] u d t = absurd t
done_at env i (j ∷ js) u (d, ds) t = go (eqb i j) refl t (λ t. done_at env i js u ds t)
  where
    go : (b : Bool) → eqb i j ≡ b → T (b || has i js) → (T (has i js) → 1 ≤ placed (get_or env i 0) u) → 1 ≤ placed (get_or env i 0) u
    go true e t ih = rw (eqb→eq i j (subst T (sym e) tt)) d
    go false e t ih = ih t

-- a segment's targets stand right wherever its open loop's labels do
abbrev pub Aimed : Seg → Type 0
Aimed s = (b : ℕ) (ls : List Loop) (u v : List Mark) → Fits ls u v → Targets u (s.code b ls) v

or_cases : {A : Type 0} (a b : Bool) → T (a || b) → (T a → A) → (T b → A) → A
or_cases true b t f g = f tt
or_cases false b t f g = g t

wider : (m : Mark) (u : List Mark) (l : ℕ) → placed l u ≤ placed l (m ∷ u)
wider (mark r (Label k)) u l = omega arith
wider (mark r (To h k)) u l = omega arith
wider (mark r (Back k)) u l = omega arith
wider (mark r (Leave x k)) u l = omega arith
wider (mark r (Load c x)) u l = omega arith
wider (mark r (Do c n)) u l = omega arith

after : (xs v : List Mark) (l : ℕ) → placed l v ≤ placed l (xs ++ v)
after xs v l = omega (arith, placed_append l xs v)

backward : (xs u : List Mark) (l : ℕ) → placed l u ≤ placed l (reverse_aux xs u)
backward xs u l = omega (arith, placed_back l xs u)

fits_mark : (m : Mark) (ls : List Loop) (u v : List Mark) → Fits ls u v → Fits ls (m ∷ u) v
fits_mark m ls u v f = fits_more ls u (m ∷ u) v v (wider m u) (λ l. omega arith) f

fits_back : (xs : List Mark) (ls : List Loop) (u v : List Mark) → Fits ls u v → Fits ls (reverse_aux xs u) v
fits_back xs ls u v f = fits_more ls u (reverse_aux xs u) v v (backward xs u) (λ l. omega arith) f

fits_after : (xs : List Mark) (ls : List Loop) (u v : List Mark) → Fits ls u v → Fits ls u (xs ++ v)
fits_after xs ls u v f = fits_more ls u u v (xs ++ v) (λ l. omega arith) (after xs v) f

done_mark : (m : Mark) (env is : List ℕ) (u : List Mark) → Done env is u → Done env is (m ∷ u)
done_mark m env is u d = done_more env is u (m ∷ u) (wider m u) d

done_back : (xs : List Mark) (env is : List ℕ) (u : List Mark) → Done env is u → Done env is (reverse_aux xs u)
done_back xs env is u d = done_more env is u (reverse_aux xs u) (backward xs u) d

targets_sought : (r : ℕ) (x : Use) (y : Access) (u v : List Mark) → Targets u (sought_marks r x y) v
targets_sought r x (local n) u v = (tt, tt)
targets_sought r x (global n) u v = (tt, tt)
targets_sought r x (upvalue n) u v = (tt, tt)
targets_sought r x (missing y) u v = tt

module _ (t : Lookup) (fn : Words) (r : ℕ) (w : Words) (k : Forest) (ks : Role → ℕ → Seg) (body : Seg) (a : Bool) (good : (x : Role) (j : ℕ) → Placed (ks x j))
    (aimed : (x : Role) (j : ℕ) → Aimed (ks x j)) where
  abbrev code : List Step → List ℕ → ℕ → List Loop → List Mark
  code is env b ls = seg_code t fn r w k ks body is env b ls

  -- a label that is still to be placed is placed by the steps that are left
  coming : (is : List Step) (env : List ℕ) (b : ℕ) (ls : List Loop) (n : ℕ) (pend done free : List ℕ) (lp : Inside) → length env ≡ n → Below n pend
      → T (ok a (chk n pend done free lp) is) → (v : List Mark) (i : ℕ) → T (has i pend) → 1 ≤ placed (get_or env i 0) (code is env b ls ++ v)
  coming is env b ls n pend done free lp e u q v i h =
      omega (
        arith,
        placed_run t fn r w k ks body a good is env b ls n pend done free lp e u q (get_or env i 0),
        pending_del env i pend (get_or env i 0) h,
        one_same (get_or env i 0),
        placed_append (get_or env i 0) (code is env b ls) v,
      )

  fits_here : (pend done env : List ℕ) (lp : Inside) (ls : List Loop) (u v : List Mark) → T (sound_at pend done lp) → Fits ls u v
      → ((i : ℕ) → T (has i pend) → 1 ≤ placed (get_or env i 0) v) → Done env done u → Fits (stack r env lp ls) u v
  unfolding stack
  fits_here pend done env outside ls u v q f p d = f
  fits_here pend done env (within i j) ls u v q f p d =
      (p j (and_l (has j pend) _ q), or_cases (has i pend) (has i done) (and_r (has j pend) _ q) (λ h. omega (arith, p i h)) (λ h. omega (arith, done_at env i done u d h)))

  targets_run : (is : List Step) (env : List ℕ) (b : ℕ) (ls : List Loop) (n : ℕ) (pend done free : List ℕ) (lp : Inside) (u v : List Mark) → length env ≡ n → Below n pend
      → Below n done → T (ok a (chk n pend done free lp) is) → Fits ls u v → Done env done u → Targets u (code is env b (stack r env lp ls)) v
  unfolding seg_code ok stack
  targets_run [] env b ls n pend done free lp u v e p q s f d = tt
  targets_run (push_op c x ∷ is) env b ls n pend done free lp u v e p q s f d =
      let m = mark r (Do c x) in
      (tt, targets_run is env b ls n pend done free lp (m ∷ u) v e p q s (fits_mark m ls u v f) (done_mark m env done u d))
  targets_run (push_const c x y ∷ is) env b ls n pend done free lp u v e p q s f d =
      let m = mark (number_of (spot_at (tree r w k none) x)) (Load c y) in
      (tt, targets_run is env b ls n pend done free lp (m ∷ u) v e p q s (fits_mark m ls u v f) (done_mark m env done u d))
  targets_run (get_label ∷ is) env b ls n pend done free outside u v e p q s f d =
      targets_run is (env ++ (b ∷ [])) (suc b) ls (suc n) (n ∷ pend) done (n ∷ free) outside u v (length_grown env b ∙ ap suc e)
      (omega arith, below_suc n pend p) (below_suc n done q) s f
      (done_grown env b done u (rw e q) d)
  targets_run (get_label ∷ is) env b ls n pend done free (within i j) u v e p q s f d = absurd s
  targets_run (place i ∷ is) env b ls n pend done free lp u v e p q s f d =
      let m = mark r (Label (get_or env i 0)) in (
        tt,
        targets_run is env b ls n (del i pend) (i ∷ done) free lp (m ∷ u) v e (below_del n i pend p)
            (below_has n i pend p (and_l (has i pend) _ s), q) (and_r (has i pend) _ s) (fits_mark m ls u v f)
            (omega (arith, one_same (get_or env i 0)), done_mark m env done u d),
      )
  targets_run (jump h i ∷ is) env b ls n pend done free lp u v e p q s f d =
      let m = mark r (To h (get_or env i 0)) in
      let s' = and_r (has i pend) _ s in (
        coming is env b _ n pend done free lp e p s' v i (and_l (has i pend) _ s),
        targets_run is env b ls n pend done free lp (m ∷ u) v e p q s' (fits_mark m ls u v f) (done_mark m env done u d),
      )
  targets_run (jump_back i ∷ is) env b ls n pend done free lp u v e p q s f d =
      let m = mark r (Back (get_or env i 0)) in (
        done_at env i done u d (and_l (has i done) _ s),
        targets_run is env b ls n pend done free lp (m ∷ u) v e p q (and_r (has i done) _ s) (fits_mark m ls u v f) (done_mark m env done u d),
      )
  targets_run (visit y x j ∷ is) env b ls n pend done free lp u v e p q s f d =
      let g = ks x j in
      let A = g.code b (stack r env lp ls) in
      let B = code is env (b + g.count) (stack r env lp ls) in
      let c : Bool = sound_at pend done lp && settled a lp in
      let s' = and_r c _ s in
      targets_append u A B v
      (aimed x j b (stack r env lp ls) u (B ++ v) (fits_here pend done env lp ls u (B ++ v) (and_l (sound_at pend done lp) _ (and_l c _ s)) (fits_after B ls u v f)
      (λ i h. coming is env (b + g.count) _ n pend done free lp e p s' v i h) d))
      (targets_run is env (b + g.count) ls n pend done free lp (reverse_aux A u) v e p q s' (fits_back A ls u v f) (done_back A env done u d))
  targets_run (begin_loop i j ∷ is) env b ls n pend done free outside u v e p q s f d =
      targets_run is env b ls n pend done (del j (del i free)) (within i j) u v e p q (and_r (a && ((has i pend && has j pend) && (has i free && has j (del i free)))) _ s) f d
  targets_run (begin_loop i j ∷ is) env b ls n pend done free (within i' j') u v e p q s f d = absurd s
  targets_run (end_loop ∷ is) env b ls n pend done free outside u v e p q s f d = absurd s
  targets_run (end_loop ∷ is) env b ls n pend done free (within i j) u v e p q s f d = targets_run is env b ls n pend done free outside u v e p q s f d
  targets_run (exit y ∷ is) env b [] n pend done free outside u v e p q s f d = targets_run is env b [] n pend done free outside u v e p q s f d
  targets_run (exit Break ∷ is) env b (loop o c l ∷ ls) n pend done free outside u v e p q s f d =
      let m = mark r (Leave Break l) in (
        omega (arith, after (code is env b (loop o c l ∷ ls)) v l),
        targets_run is env b (loop o c l ∷ ls) n pend done free outside (m ∷ u) v e p q s f (done_mark m env done u d),
      )
  targets_run (exit Continue ∷ is) env b (loop o c l ∷ ls) n pend done free outside u v e p q s f d =
      let m = mark r (Leave Continue c) in (
        omega (arith, after (code is env b (loop o c l ∷ ls)) v c),
        targets_run is env b (loop o c l ∷ ls) n pend done free outside (m ∷ u) v e p q s f (done_mark m env done u d),
      )
  targets_run (exit y ∷ is) env b ls n pend done free (within i' j') u v e p q s f d = absurd s
  targets_run (check_return ∷ is) env b ls n pend done free lp u v e p q s f d = targets_run is env b ls n pend done free lp u v e p q s f d
  targets_run (access x y ∷ is) env b ls n pend done free lp u v e p q s f d =
      let A = sought_marks r x (t fn x (spot_at (tree r w k none) y)) in
      targets_append u A (code is env b (stack r env lp ls)) v (targets_sought r x (t fn x (spot_at (tree r w k none) y)) u _)
      (targets_run is env b ls n pend done free lp (reverse_aux A u) v e p q s (fits_back A ls u v f) (done_back A env done u d))
  targets_run (refuse x ∷ is) env b ls n pend done free lp u v e p q s f d = targets_run is env b ls n pend done free lp u v e p q s f d
  targets_run (inner ∷ is) env b ls n pend done free lp u v e p q s f d = targets_run is env b ls n pend done free lp u v e p q s f d

  pub targets_steps : (is : List Step) → T (ok a begun is) → (b : ℕ) (ls : List Loop) (u v : List Mark) → Fits ls u v → Targets u (code is [] b ls) v
  unfolding stack
  targets_steps is s b ls u v f = targets_run is [] b ls 0 [] [] [] outside u v refl tt tt s f tt
