-- Each Break and Continue of a segment names the label that the loop around its record keeps. Assumes nothing.
use mathlib.Core.Path.{◌≡◌, refl}
use mathlib.Core.Bool.{Bool, true, false, cond, ◌&&◌}
use mathlib.Core.List.{List, [], ◌∷◌, ◌++◌}
use Prim.Native.Nat.{ℕ, suc, ◌+◌}
use lib.Dec.{T}
use Rattle.tables.specs.Record.{Words}
use Rattle.tables.specs.Forest.{Forest, none, tree}
use Rattle.tables.proofs.ForestLaws.{and_l, and_r}
use Rattle.pool.specs.Names.{Access, local, global, upvalue, missing}
use Rattle.rules.specs.Marker.{Break, Continue, Label, To, Back, Leave, Load, Do, Mark, mark}
use Rattle.rules.specs.Step.{Role, Use, Step, push_op, push_const, get_label, place, jump, jump_back, visit, begin_loop, end_loop, exit, check_return, access, refuse, inner}
use Rattle.rules.specs.Run.{Lookup, Loop, loop, spot_at}
use Rattle.rules.specs.Around.{inward, Around, here, below, beside}
use Rattle.rules.specs.Demand.{Opened, first, next}
use Rattle.rules.proofs.Segment.{Seg, sought_marks, seg_code, seg_log}
use Rattle.rules.proofs.Check.{has, del, Inside, outside, within, chk, ok, sound_at, settled, stack}

-- the innermost open loop: 0 for none, suc o for the record o
abbrev pub top : List Loop → ℕ
top [] = 0
top (loop o c b ∷ ls) = suc o

inside_loop : (a : Bool) (r c : ℕ) (lp : Inside) (env : List ℕ) (ls : List Loop) → top ls ≡ c → T (settled a lp) → top (stack r env lp ls) ≡ cond a (suc r) c
unfolding stack
inside_loop true r c outside env ls e t = absurd t
inside_loop true r c (within i j) env ls e t = refl
inside_loop false r c outside env ls e t = e
inside_loop false r c (within i j) env ls e t = absurd t

-- S: a record and the loop around it; K: a loop that was opened, and its labels
module _ (S : ℕ → ℕ → Type 0) (K : ℕ → ℕ → ℕ → Type 0) where
  -- S holds of each record of some trees and the loop around it
  abbrev pub AllAround : ℕ → Forest → Type 0
  AllAround c none = Unit {0}
  AllAround c (tree r w k s) = S r c × AllAround (inward c r w) k × AllAround c s

  abbrev pub AllOpened : List Loop → Type 0
  AllOpened [] = Unit {0}
  AllOpened (loop o c b ∷ ls) = K o c b × AllOpened ls

  opened_split : (xs ys : List Loop) → AllOpened (xs ++ ys) → AllOpened xs × AllOpened ys
  opened_split [] ys h = (tt, h)
  opened_split (loop o c b ∷ xs) ys (h, hs) = let z = opened_split xs ys hs in ((h, z.0), z.1)

  abbrev pub TopOpened : List Loop → Type 0
  TopOpened [] = Unit {0}
  TopOpened (loop o c b ∷ ls) = K o c b

  abbrev pub Tie : Mark → Type 0
  Tie (mark q (Label l)) = Unit {0}
  Tie (mark q (To h l)) = Unit {0}
  Tie (mark q (Back l)) = Unit {0}
  Tie (mark q (Leave Break l)) = (o : ℕ) × (c : ℕ) × S q (suc o) × K o c l
  Tie (mark q (Leave Continue l)) = (o : ℕ) × (b : ℕ) × S q (suc o) × K o l b
  Tie (mark q (Load c x)) = Unit {0}
  Tie (mark q (Do c n)) = Unit {0}

  abbrev pub Ties : List Mark → Type 0
  Ties [] = Unit {0}
  Ties (m ∷ xs) = Tie m × Ties xs

  ties_append : (xs ys : List Mark) → Ties xs → Ties ys → Ties (xs ++ ys)
  ties_append [] ys p q = q
  ties_append (m ∷ xs) ys (a, p) q = (a, ties_append xs ys p q)

  ties_sought : (r : ℕ) (u : Use) (x : Access) → Ties (sought_marks r u x)
  ties_sought r u (local n) = (tt, tt)
  ties_sought r u (global n) = (tt, tt)
  ties_sought r u (upvalue n) = (tt, tt)
  ties_sought r u (missing x) = tt

  -- of a segment visited where a is the loop around
  abbrev pub Tied : ℕ → Seg → Type 0
  Tied a s = (b : ℕ) (ls : List Loop) → top ls ≡ a → AllOpened (s.log b) → TopOpened ls → Ties (s.code b ls)

  module _ (t : Lookup) (fn : Words) (r : ℕ) (w : Words) (f : Forest) (ks : Role → ℕ → Seg) (body : Seg) (a : Bool) (c : ℕ)
      (tied : (x : Role) (j : ℕ) → Tied (cond a (suc r) c) (ks x j)) (around : S r c) where
    abbrev code : List Step → List ℕ → ℕ → List Loop → List Mark
    code is env b ls = seg_code t fn r w f ks body is env b ls

    abbrev log : List Step → List ℕ → ℕ → List Loop
    log is env b = seg_log t fn r w f ks body is env b

    pub ties_run : (is : List Step) (env : List ℕ) (b : ℕ) (ls : List Loop) (n : ℕ) (pend done free : List ℕ) (lp : Inside) → T (ok a (chk n pend done free lp) is) → top ls ≡ c
        → AllOpened (log is env b) → TopOpened ls → TopOpened (stack r env lp ls) → Ties (code is env b (stack r env lp ls))
    unfolding seg_code ok stack seg_log
    ties_run [] env b ls n pend done free lp s e h u v = tt
    ties_run (push_op x y ∷ is) env b ls n pend done free lp s e h u v = (tt, ties_run is env b ls n pend done free lp s e h u v)
    ties_run (push_const x y z ∷ is) env b ls n pend done free lp s e h u v = (tt, ties_run is env b ls n pend done free lp s e h u v)
    ties_run (get_label ∷ is) env b ls n pend done free outside s e h u v = ties_run is (env ++ (b ∷ [])) (suc b) ls (suc n) (n ∷ pend) done (n ∷ free) outside s e h u v
    ties_run (get_label ∷ is) env b ls n pend done free (within i j) s e h u v = absurd s
    ties_run (place i ∷ is) env b ls n pend done free lp s e h u v = (tt, ties_run is env b ls n (del i pend) (i ∷ done) free lp (and_r (has i pend) _ s) e h u v)
    ties_run (jump x i ∷ is) env b ls n pend done free lp s e h u v = (tt, ties_run is env b ls n pend done free lp (and_r (has i pend) _ s) e h u v)
    ties_run (jump_back i ∷ is) env b ls n pend done free lp s e h u v = (tt, ties_run is env b ls n pend done free lp (and_r (has i done) _ s) e h u v)
    ties_run (visit y x j ∷ is) env b ls n pend done free lp s e h u v =
        let g = ks x j in
        let z : Bool = sound_at pend done lp && settled a lp in
        let o = opened_split (g.log b) (log is env (b + g.count)) h in
        ties_append (g.code b (stack r env lp ls)) _
        (tied x j b (stack r env lp ls) (inside_loop a r c lp env ls e (and_r (sound_at pend done lp) (settled a lp) (and_l z _ s))) o.0 v)
        (ties_run is env (b + g.count) ls n pend done free lp (and_r z _ s) e o.1 u v)
    ties_run (begin_loop i j ∷ is) env b ls n pend done free outside s e (h, hs) u v =
        ties_run is env b ls n pend done (del j (del i free)) (within i j) (and_r (a && ((has i pend && has j pend) && (has i free && has j (del i free)))) _ s) e hs u h
    ties_run (begin_loop i j ∷ is) env b ls n pend done free (within i' j') s e h u v = absurd s
    ties_run (end_loop ∷ is) env b ls n pend done free outside s e h u v = absurd s
    ties_run (end_loop ∷ is) env b ls n pend done free (within i j) s e h u v = ties_run is env b ls n pend done free outside s e h u u
    ties_run (exit y ∷ is) env b [] n pend done free outside s e h u v = ties_run is env b [] n pend done free outside s e h u v
    ties_run (exit Break ∷ is) env b (loop o x l ∷ ls) n pend done free outside s e h u v =
        ((o, x, rw (← e) at around, u), ties_run is env b (loop o x l ∷ ls) n pend done free outside s e h u v)
    ties_run (exit Continue ∷ is) env b (loop o x l ∷ ls) n pend done free outside s e h u v =
        ((o, l, rw (← e) at around, u), ties_run is env b (loop o x l ∷ ls) n pend done free outside s e h u v)
    ties_run (exit y ∷ is) env b ls n pend done free (within i j) s e h u v = absurd s
    ties_run (check_return ∷ is) env b ls n pend done free lp s e h u v = ties_run is env b ls n pend done free lp s e h u v
    ties_run (access x y ∷ is) env b ls n pend done free lp s e h u v =
        let z = t fn x (spot_at (tree r w f none) y) in
        ties_append (sought_marks r x z) _ (ties_sought r x z) (ties_run is env b ls n pend done free lp s e h u v)
    ties_run (refuse x ∷ is) env b ls n pend done free lp s e h u v = ties_run is env b ls n pend done free lp s e h u v
    ties_run (inner ∷ is) env b ls n pend done free lp s e h u v = ties_run is env b ls n pend done free lp s e h u v

-- the records of some trees are in them
pub all_around : (S : ℕ → ℕ → Type 0) (K : ℕ → ℕ → ℕ → Type 0) (c : ℕ) (f : Forest) → ((q a : ℕ) → Around q a c f → S q a) → AllAround S K c f
all_around S K c none h = tt
all_around S K c (tree r w k s) h =
    (h r c here, all_around S K (inward c r w) k (λ q a z. h q a (below z)), all_around S K c s (λ q a z. h q a (beside z)))

pub all_opened : (S : ℕ → ℕ → Type 0) (K : ℕ → ℕ → ℕ → Type 0) (ls : List Loop) → ((o c b : ℕ) → Opened o c b ls → K o c b) → AllOpened S K ls
all_opened S K [] h = tt
all_opened S K (loop o c b ∷ ls) h = (h o c b first, all_opened S K ls (λ o c b z. h o c b (next z)))
