-- Every list of steps that passes the test places each of its labels once, and no two loops keep one label. Assumes nothing.
use mathlib.Core.Path.{◌≡◌, refl, ap, ◌∙◌}
use mathlib.Core.Bool.{Bool, ◌&&◌}
use mathlib.Core.List.{List, [], ◌∷◌, ◌++◌, reverse_aux}
use Prim.Native.Nat.{ℕ, suc, ◌+◌, ◌≤◌}
use native.Mathlib.Omega.{arith}
use lib.ListN.{length, get_or}
use lib.Seq.{get_or_at}
use lib.Dec.{T}
use Rattle.tables.specs.Record.{Words}
use Rattle.tables.specs.Forest.{Forest, none, tree}
use Rattle.tables.proofs.ForestLaws.{and_l, and_r}
use Rattle.rules.specs.Step.{Role, Step, push_op, push_const, get_label, place, jump, jump_back, visit, begin_loop, end_loop, exit, check_return, access, refuse, inner}
use Rattle.rules.specs.Run.{Lookup, Loop, loop, drop1, spot_at}
use Rattle.rules.proofs.Segment.{Seg, no_seg, sought_marks, leaving, seg_code, seg_count, seg_log, step_seg}
use Rattle.rules.proofs.Check.{has, del, Inside, outside, within, is_out, is_in, chk, none_left, sound_at, settled, ok, begun}
use Rattle.rules.proofs.Count.{
  one,
  placed,
  placed_append,
  placed_sought,
  placed_leaving,
  inside,
  inside_add,
  pending,
  none_pending,
  Below,
  below_suc,
  below_del,
  pending_del,
  pending_grown,
  length_grown,
}

-- each label of a segment is placed once, and no other
abbrev pub Placed : Seg → Type 0
Placed g = (b : ℕ) (ls : List Loop) (l : ℕ) → placed l (g.code b ls) ≡ inside b g.count l

-- how often a loop keeps label l
abbrev pub kept_times : ℕ → List Loop → ℕ
kept_times l [] = 0
kept_times l (loop o c b ∷ ls) = one c l + (one b l + kept_times l ls)

pub kept_append : (l : ℕ) (xs ys : List Loop) → kept_times l (xs ++ ys) ≡ kept_times l xs + kept_times l ys
kept_append l [] ys = omega arith
kept_append l (loop o c b ∷ xs) ys = omega (arith, kept_append l xs ys)

pub kept_back : (l : ℕ) (xs ys : List Loop) → kept_times l (reverse_aux xs ys) ≡ kept_times l xs + kept_times l ys
kept_back l [] ys = omega arith
kept_back l (loop o c b ∷ xs) ys = omega (arith, kept_back l xs (loop o c b ∷ ys))

-- no two loops of a segment keep one label
abbrev pub Kept-once : Seg → Type 0
Kept-once g = (b l : ℕ) → kept_times l (g.log b) ≤ inside b g.count l

module _ (t : Lookup) (fn : Words) (r : ℕ) (w : Words) (k : Forest) (ks : Role → ℕ → Seg) (body : Seg) (a : Bool) (good : (x : Role) (j : ℕ) → Placed (ks x j)) where
  -- env are the labels taken so far, pend the names still to be placed
  pub placed_run : (is : List Step) (env : List ℕ) (b : ℕ) (ls : List Loop) (n : ℕ) (pend done free : List ℕ) (lp : Inside) → length env ≡ n → Below n pend
      → T (ok a (chk n pend done free lp) is) → (l : ℕ) → placed l (seg_code t fn r w k ks body is env b ls) ≡ inside b (seg_count t fn r w k ks body is) l + pending env pend l
  unfolding seg_code seg_count ok inside
  placed_run [] env b ls n pend done free lp e u h l = omega (arith, none_pending env pend l (and_l (none_left pend) (is_out lp) h))
  placed_run (push_op c x ∷ is) env b ls n pend done free lp e u h l = placed_run is env b ls n pend done free lp e u h l
  placed_run (push_const c p v ∷ is) env b ls n pend done free lp e u h l = placed_run is env b ls n pend done free lp e u h l
  placed_run (get_label ∷ is) env b ls n pend done free lp e u h l =
      let z = length_grown env b ∙ ap suc e in
      let ih = placed_run is (env ++ (b ∷ [])) (suc b) ls (suc n) (n ∷ pend) done (n ∷ free) lp z (omega arith, below_suc n pend u) (and_r (is_out lp) _ h) l in
      let p : pending (env ++ (b ∷ [])) pend l ≡ pending env pend l = pending_grown env b pend l (rw e u) in
      omega (arith, (rw (get_or_at env b [] 0 n e) at ih), p)
  placed_run (place i ∷ is) env b ls n pend done free lp e u h l =
      omega (
        arith,
        placed_run is env b ls n (del i pend) (i ∷ done) free lp e (below_del n i pend u) (and_r (has i pend) _ h) l,
        pending_del env i pend l (and_l (has i pend) _ h),
      )
  placed_run (jump x i ∷ is) env b ls n pend done free lp e u h l = placed_run is env b ls n pend done free lp e u (and_r (has i pend) _ h) l
  placed_run (jump_back i ∷ is) env b ls n pend done free lp e u h l = placed_run is env b ls n pend done free lp e u (and_r (has i done) _ h) l
  placed_run (visit y x j ∷ is) env b ls n pend done free lp e u h l =
      let c : ℕ = (ks x j).count in
      omega (
        arith,
        placed_append l ((ks x j).code b ls) (seg_code t fn r w k ks body is env (b + c) ls),
        good x j b ls l,
        placed_run is env (b + c) ls n pend done free lp e u (and_r (sound_at pend done lp && settled a lp) _ h) l,
        inside_add b c (seg_count t fn r w k ks body is) l,
      )
  placed_run (begin_loop i j ∷ is) env b ls n pend done free lp e u h l =
      placed_run is env b (loop r (get_or env i 0) (get_or env j 0) ∷ ls) n pend done (del j (del i free)) (within i j) e u
      (and_r (is_out lp && (a && ((has i pend && has j pend) && (has i free && has j (del i free))))) _ h) l
  placed_run (end_loop ∷ is) env b ls n pend done free lp e u h l = placed_run is env b (drop1 ls) n pend done free outside e u (and_r (is_in lp) _ h) l
  placed_run (exit x ∷ is) env b ls n pend done free lp e u h l =
      omega (
        arith,
        placed_append l (leaving r x ls) (seg_code t fn r w k ks body is env b ls),
        placed_leaving l r x ls,
        placed_run is env b ls n pend done free lp e u (and_r (is_out lp) _ h) l,
      )
  placed_run (check_return ∷ is) env b ls n pend done free lp e u h l = placed_run is env b ls n pend done free lp e u h l
  placed_run (access v p ∷ is) env b ls n pend done free lp e u h l =
      let x = t fn v (spot_at (tree r w k none) p) in
      omega (arith, placed_append l (sought_marks r v x) (seg_code t fn r w k ks body is env b ls), placed_sought l r v x, placed_run is env b ls n pend done free lp e u h l)
  placed_run (refuse x ∷ is) env b ls n pend done free lp e u h l = placed_run is env b ls n pend done free lp e u h l
  placed_run (inner ∷ is) env b ls n pend done free lp e u h l = placed_run is env b ls n pend done free lp e u h l

  pub placed_steps : (is : List Step) → T (ok a begun is) → Placed (step_seg t fn r w k ks body is)
  placed_steps is h b ls l = omega (arith, placed_run is [] b ls 0 [] [] [] outside refl tt h l)

module _ (t : Lookup) (fn : Words) (r : ℕ) (w : Words) (k : Forest) (ks : Role → ℕ → Seg) (body : Seg) (a : Bool) (good : (x : Role) (j : ℕ) → Kept-once (ks x j)) where
  -- free are the names that no loop has
  pub kept_run : (is : List Step) (env : List ℕ) (b n : ℕ) (pend done free : List ℕ) (lp : Inside) → length env ≡ n → Below n free
      → T (ok a (chk n pend done free lp) is) → (l : ℕ) → kept_times l (seg_log t fn r w k ks body is env b) ≤ inside b (seg_count t fn r w k ks body is) l + pending env free l
  unfolding seg_log seg_count ok inside
  kept_run [] env b n pend done free lp e u h l = omega arith
  kept_run (push_op c x ∷ is) env b n pend done free lp e u h l = kept_run is env b n pend done free lp e u h l
  kept_run (push_const c p v ∷ is) env b n pend done free lp e u h l = kept_run is env b n pend done free lp e u h l
  kept_run (get_label ∷ is) env b n pend done free lp e u h l =
      let z = length_grown env b ∙ ap suc e in
      let ih = kept_run is (env ++ (b ∷ [])) (suc b) (suc n) (n ∷ pend) done (n ∷ free) lp z (omega arith, below_suc n free u) (and_r (is_out lp) _ h) l in
      let p : pending (env ++ (b ∷ [])) free l ≡ pending env free l = pending_grown env b free l (rw e u) in
      omega (arith, (rw (get_or_at env b [] 0 n e) at ih), p)
  kept_run (place i ∷ is) env b n pend done free lp e u h l = kept_run is env b n (del i pend) (i ∷ done) free lp e u (and_r (has i pend) _ h) l
  kept_run (jump x i ∷ is) env b n pend done free lp e u h l = kept_run is env b n pend done free lp e u (and_r (has i pend) _ h) l
  kept_run (jump_back i ∷ is) env b n pend done free lp e u h l = kept_run is env b n pend done free lp e u (and_r (has i done) _ h) l
  kept_run (visit y x j ∷ is) env b n pend done free lp e u h l =
      let c : ℕ = (ks x j).count in
      omega (
        arith,
        kept_append l ((ks x j).log b) (seg_log t fn r w k ks body is env (b + c)),
        good x j b l,
        kept_run is env (b + c) n pend done free lp e u (and_r (sound_at pend done lp && settled a lp) _ h) l,
        inside_add b c (seg_count t fn r w k ks body is) l,
      )
  kept_run (begin_loop i j ∷ is) env b n pend done free lp e u h l =
      let g : Bool = has i free && has j (del i free) in
      let f : Bool = is_out lp && (a && ((has i pend && has j pend) && g)) in
      let x = and_r (has i pend && has j pend) g (and_r a _ (and_r (is_out lp) _ (and_l f _ h))) in
      omega (
        arith,
        pending_del env i free l (and_l (has i free) _ x),
        pending_del env j (del i free) l (and_r (has i free) _ x),
        kept_run is env b n pend done (del j (del i free)) (within i j) e (below_del n j (del i free) (below_del n i free u)) (and_r f _ h) l,
      )
  kept_run (end_loop ∷ is) env b n pend done free lp e u h l = kept_run is env b n pend done free outside e u (and_r (is_in lp) _ h) l
  kept_run (exit x ∷ is) env b n pend done free lp e u h l = kept_run is env b n pend done free lp e u (and_r (is_out lp) _ h) l
  kept_run (check_return ∷ is) env b n pend done free lp e u h l = kept_run is env b n pend done free lp e u h l
  kept_run (access v p ∷ is) env b n pend done free lp e u h l = kept_run is env b n pend done free lp e u h l
  kept_run (refuse x ∷ is) env b n pend done free lp e u h l = kept_run is env b n pend done free lp e u h l
  kept_run (inner ∷ is) env b n pend done free lp e u h l = kept_run is env b n pend done free lp e u h l

  pub kept_steps : (is : List Step) → T (ok a begun is) → Kept-once (step_seg t fn r w k ks body is)
  kept_steps is h b l = omega (arith, kept_run is [] b 0 [] [] [] outside refl tt h l)

-- both, of one segment
pub record Good (g : Seg) : Type 0 where
  pub places : Placed g
  pub keeps : Kept-once g

pub good_none : Good no_seg
unfolding inside
good_none = record { places = λ b ls l. refl; keeps = λ b l. omega arith }

pub good_steps : (t : Lookup) (fn : Words) (r : ℕ) (w : Words) (k : Forest) (ks : Role → ℕ → Seg) (body : Seg) (a : Bool) → ((x : Role) (j : ℕ) → Good (ks x j))
    → (is : List Step) → T (ok a begun is) → Good (step_seg t fn r w k ks body is)
good_steps t fn r w k ks body a good is h =
    record {
      places = placed_steps t fn r w k ks body a (λ x j. (good x j).places) is h;
      keeps = kept_steps t fn r w k ks body a (λ x j. (good x j).keeps) is h;
    }
