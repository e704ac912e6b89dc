-- A function's stream, when nothing cuts it short: its labels, its targets, its loops. Assumes nothing.
use mathlib.Core.Path.{◌≡◌, refl, sym, subst}
use mathlib.Core.Logic.{◌⊎◌, inl, inr}
use mathlib.Core.Bool.{Bool, true, false, cond}
use mathlib.Core.List.{List, [], ◌∷◌}
use Prim.Native.Nat.{ℕ, zero, suc, ◌≤◌}
use lib.Dec.{T, eqb→eq}
use Rattle.tables.specs.Record.{Words, is_loop, is_function, is_do}
use Rattle.tables.specs.Forest.{Forest, none, tree, own_tree}
use Rattle.tables.proofs.ForestLaws.{Each, each}
use Rattle.pool.specs.Value.{function}
use Rattle.rules.specs.declared.StackCode.{StackCode}
use Rattle.rules.specs.Marker.{Mark, Call}
use Rattle.rules.specs.Step.{Role, push_op, inner, load}
use Rattle.rules.specs.Arms.{stream_steps}
use Rattle.rules.specs.Kinds.{steps}
use Rattle.rules.specs.Run.{Lookup, Loop}
use Rattle.rules.specs.Around.{inward, Around}
use Rattle.rules.specs.Demand.{Opened}
use Rattle.rules.proofs.Segment.{Seg, no_seg, seg_code, child_seg, segs_of, seg_of, body_seg}
use Rattle.rules.proofs.Check.{outside, stack}
use Rattle.rules.proofs.StepsOk.{steps_ok, stream_ok, function_only}
use Rattle.rules.proofs.Count.{placed, inside}
use Rattle.rules.proofs.Placing.{kept_times, Good, good_none, good_steps}
use Rattle.rules.proofs.Targets.{Targets, Aimed, targets_steps}
use Rattle.rules.proofs.Visits.{body_holds}
use Rattle.rules.proofs.Ties.{AllAround, Ties, Tied, ties_run, all_around, all_opened}

module _ (sc : StackCode) (t : Lookup) where
  -- each label of a segment is placed once, and every target stands where it must
  abbrev Aims : Seg → Type 0
  Aims s = Good s × Aimed s

  body_aims : (r : ℕ) (w : Words) (k : Forest) → Aims (body_seg sc t r w k)
  body_aims =
      body_holds sc t Aims (good_none, λ b ls u v f. tt)
      (λ fn r w k ks body a at u is o.
      (good_steps t fn r w k ks body a (λ x j. (at x j).0) is o, targets_steps t fn r w k ks body a (λ x j. (at x j).0.places) (λ x j. (at x j).1) is o))

  module _ (S : ℕ → ℕ → Type 0) (K : ℕ → ℕ → ℕ → Type 0) where
    abbrev Bound : ℕ → Words → Forest → Type 0
    Bound r w k = (c : ℕ) → S r c → AllAround S K (inward c r w) k → (a : Role) (fn : Words) → Tied S K c (seg_of sc t r w k a fn)

    children_tied : (k : Forest) → Each Bound k → (c : ℕ) → AllAround S K c k → (fn : Words) (a : Role) (j : ℕ) → Tied S K c (child_seg (segs_of sc t k) fn a j)
    children_tied none h c s fn a j = λ b ls e p q. tt
    children_tied (tree r w k s) (h, hs) c (x, y, z) fn a zero = h c x y a fn
    children_tied (tree r w k s) (h, hs) c (x, y, z) fn a (suc j) = children_tied s hs c z fn a j

    -- a Function's record writes its constant, and nothing of its children
    function_tied : (r : ℕ) (w : Words) (k : Forest) (c : ℕ) (a : Role) (fn : Words) → w.kind ≡ 30 → Tied S K c (seg_of sc t r w k a fn)
    unfolding seg_code
    function_tied r w k c a fn e b ls h p q =
        function_only (λ is. Ties S K (seg_code t fn r w k (child_seg (segs_of sc t k) fn) (body_seg sc t r w k) is [] b ls)) sc a w (own_tree k) e tt (go (is_do w))
      where
        go : (d : Bool)
            → Ties S K (seg_code t fn r w k (child_seg (segs_of sc t k) fn) (body_seg sc t r w k)
            (cond d (inner ∷ load (function w.p) ∷ push_op Call 0 ∷ []) (inner ∷ load (function w.p) ∷ [])) [] b ls)
        go true = (tt, (tt, tt))
        go false = (tt, tt)

    -- what is around a record's children, but for a Function
    record_tied : (r : ℕ) (w : Words) (k : Forest) → Each Bound k → Bound r w k
    unfolding stack
    record_tied r w k h c x y a fn = go (is_function w) refl y
      where
        go : (d : Bool) → is_function w ≡ d → AllAround S K (cond (is_loop w) (suc r) (cond d 0 c)) k → Tied S K c (seg_of sc t r w k a fn)
        go true e y = function_tied r w k c a fn (eqb→eq w.kind 30 (subst T (sym e) tt))
        go false e y = λ b ls q u v.
            ties_run S K t fn r w k (child_seg (segs_of sc t k) fn) (body_seg sc t r w k) (is_loop w) c (children_tied k h (cond (is_loop w) (suc r) c) y fn) x
            (steps sc a w (own_tree k)) [] b ls 0 [] [] [] outside (steps_ok sc a w (own_tree k)) q u v v

    tied : (f : Forest) → Each Bound f
    tied f = each Bound record_tied f

    body_tied : (r : ℕ) (w : Words) (k : Forest) → S r 0 → AllAround S K 0 k → Tied S K 0 (body_seg sc t r w k)
    unfolding stack
    body_tied r w k x y b ls q u v =
        ties_run S K t w r w k (child_seg (segs_of sc t k) w) no_seg false 0 (children_tied k (tied k) 0 y w) x (stream_steps w) [] b ls 0 [] [] [] outside (stream_ok w) q u v v

-- of a function whose record has the children k: log its loops, n its labels, code its markers, oldest first
pub record Right (k : Forest) (log : List Loop) (n : ℕ) (code : List Mark) : Type 0 where
  -- label l is placed once if it is below n, and else never
  pub once : (l : ℕ) → placed l code ≡ inside 0 n l
  -- every target stands where it must
  pub targets : Targets [] code []
  -- each Break and Continue names the label kept by the loop around the record that wrote it
  pub ties : Ties (λ q a. (a ≡ 0) ⊎ Around q a 0 k) (λ o c b. Opened o c b log) code
  -- no two loops keep one label
  pub apart : (l : ℕ) → kept_times l log ≤ inside 0 n l

pub right : (sc : StackCode) (t : Lookup) (r : ℕ) (w : Words) (k : Forest) → Right k ((body_seg sc t r w k).log 0) (body_seg sc t r w k).count ((body_seg sc t r w k).code 0 [])
right sc t r w k =
    let g = body_seg sc t r w k in
    let S : ℕ → ℕ → Type 0 = λ q a. (a ≡ 0) ⊎ Around q a 0 k in
    let K : ℕ → ℕ → ℕ → Type 0 = λ o c b. Opened o c b (g.log 0) in
    let d = body_aims sc t r w k in
    record {
      once = λ l. d.0.places 0 [] l;
      targets = d.1 0 [] [] [] tt;
      ties = body_tied sc t S K r w k (inl refl) (all_around S K 0 k (λ q a z. inr z)) 0 [] refl (all_opened S K (g.log 0) (λ o c b z. z)) tt;
      apart = λ l. d.0.keeps 0 l;
    }
