-- A loop opens: its label at its place, or all moved down by one. Assumes nothing.
use mathlib.Core.Path.{◌≡◌, refl, sym, ap, ◌∙◌}
use mathlib.Core.Bool.{Bool, true, false}
use mathlib.Core.List.{List, [], ◌∷◌, ◌++◌}
use Prim.Native.Nat.{ℕ, zero, suc, ◌+◌, ◌≤◌, ◌<◌}
use native.Mathlib.Omega.{arith}
use native.Mathlib.Numerals.{add-one}
use lib.ListN.{length, set, take, drop, length-set, length-take}
use Rattle.std.proofs.Common.{length-append, length-drop}
use Rattle.std.proofs.lemmas.List.{get_or_append_left}
use Rattle.std.proofs.lemmas.Grind.{get_or_after_one}
use lib.Seq.{get_or-set_same, get_or-set_other}
use lib.Dec.{ltb}
use borrow.Author.Tests.{ltb-true, ltb-false}
use Rattle.opcode.specs.declared.index.LabelId.{LabelId}
use Rattle.rules.specs.declared.Flow.TheVariants.{Go, Cut, Refused}
use Rattle.rules.specs.Run.{Loop, loop, State, st, marks, labels, loops, opened, flow, side, bump, begin}
use Rattle.context.specs.Words.{cap, KEPT}
use Rattle.context.specs.Sinks.{label_id, label_in, stacked, opened as opening}
use Rattle.context.specs.Rep.{Walk, Stack, Rep}
use Rattle.context.specs.declared.Context.{Context}
use Rattle.context.proofs.Basics.{on_true, on_false, no_begin}
use Rattle.context.proofs.RepLaws.{stands, went, if_going}

-- the stack depends on its own places alone
same_stack : (ws vs : List LabelId) (ls : List Loop) → ((i : ℕ) → i < length ls → label_in vs i ≡ label_in ws i) → Stack ws ls → Stack vs ls
unfolding Stack
same_stack ws vs [] q h = tt
same_stack ws vs (loop o c b ∷ ls) q h =
    (ap (λ (l : LabelId). l.0) (q (length ls) (omega arith)) ∙ h.0, h.1, same_stack ws vs ls (λ i lt. q i (omega arith)) h.2)

-- each label one place further down, without the oldest
shifted_stack : (ws vs : List LabelId) (n : ℕ) (ls : List Loop) → length ls ≡ suc n → ((i : ℕ) → i < n → label_in vs i ≡ label_in ws (i + 1)) → Stack ws ls
    → Stack vs (take n ls)
unfolding Stack
shifted_stack ws vs zero ls e q h = tt
shifted_stack ws vs (suc n) [] e q h = tt
shifted_stack ws vs (suc n) (loop o c d ∷ ls) e q h =
    let k : length (take n ls) ≡ n = omega (arith, length-take n ls) in
    let i : n + 1 ≡ length ls = omega arith in (
      ap (λ (j : ℕ). (label_in vs j).0) k ∙ ap (λ (l : LabelId). l.0) (q n (omega arith)) ∙ ap (λ (j : ℕ). (label_in ws j).0) i ∙ h.0,
      h.1,
      shifted_stack ws vs n ls (omega arith) (λ j lt. q j (omega arith)) h.2,
    )

all_taken : (n : ℕ) (ls : List Loop) → length ls ≤ n → take n ls ≡ ls
all_taken zero [] h = refl
all_taken zero (l ∷ ls) h = absurd (omega arith)
all_taken (suc n) [] h = refl
all_taken (suc n) (l ∷ ls) h = ap (λ (k : List Loop). l ∷ k) (all_taken n ls (omega arith))

-- the labels moved down by one, the first behind the last
rotated : (ws : List LabelId) → length (drop 1 ws ++ take 1 ws) ≡ length ws
rotated ws = length-append (drop 1 ws) (take 1 ws) ∙ (let z = length-drop 1 ws in let y = length-take 1 ws in omega (arith, z, y))

turned : (ws : List LabelId) (i : ℕ) → i + 1 < length ws → label_in (drop 1 ws ++ take 1 ws) i ≡ label_in ws (i + 1)
turned ws i lt =
    get_or_append_left (drop 1 ws) (take 1 ws) (label_id 0) i (let z = length-drop 1 ws in omega (arith, z)) ∙ get_or_after_one ws i (label_id 0)
    ∙ ap (label_in ws) (let z : 1 + i ≡ i + 1 = omega arith in z)

module _ {c : Walk} {records : List ℕ} {x₀ : Context} {A : State} (r k : ℕ) (l : LabelId) (x : Context) (q : l.0 ≡ cap k) (h : Rep c records x₀ A x) where
  new : Loop
  new = loop r k (suc k)

  Opened : List Loop → Context → Type 0
  Opened ls y = Rep c records x₀ (st (marks A) (labels A) ls (new ∷ opened A) (flow A) (side A)) y

  -- there is a place
  one_more : x.depth < KEPT → Opened (new ∷ loops A) (record x { continue_stack = set x.continue_stack x.depth l; depth = x.depth + 1 })
  unfolding new Opened Stack
  one_more lt =
      let ws = set x.continue_stack x.depth l in
      record {
        code = h.code;
        consts = h.consts;
        flat = h.flat;
        noted = h.noted;
        labels = h.labels;
        size = length-set x.continue_stack x.depth l ∙ h.size;
        loops = λ n. (
          ap (λ (j : ℕ). (label_in ws j).0) (sym h.depth) ∙ ap (λ (m : LabelId). m.0) (get_or-set_same x.continue_stack x.depth l (label_id 0) (omega (arith, h.size))) ∙ q,
          refl,
          same_stack x.continue_stack ws (loops A) (λ i il. get_or-set_other x.continue_stack x.depth i l (label_id 0) (λ (z : i ≡ x.depth). omega (arith, h.depth)))
              (h.loops n),
        );
        depth = add-one x.depth ∙ ap suc h.depth;
        deep = omega (arith, h.depth);
        flow = h.flow;
        errors = h.errors;
        met = h.met;
        nest = h.nest;
        function = h.function;
        stack = h.stack;
      }

  -- as many as are kept stand open: the oldest is dropped
  moved_down : KEPT ≤ x.depth → Opened (new ∷ take 127 (loops A)) (record x { continue_stack = set (drop 1 x.continue_stack ++ take 1 x.continue_stack) 127 l })
  unfolding new Opened Stack
  moved_down le =
      let ws = x.continue_stack in
      let us = drop 1 ws ++ take 1 ws in
      let vs = set us 127 l in
      let n : length us ≡ length ws = rotated ws in
      let m : length (loops A) ≡ 128 = omega (arith, h.deep, h.depth) in
      let t : length (take 127 (loops A)) ≡ 127 = omega (arith, length-take 127 (loops A)) in
      record {
        code = h.code;
        consts = h.consts;
        flat = h.flat;
        noted = h.noted;
        labels = h.labels;
        size = length-set us 127 l ∙ n ∙ h.size;
        loops = λ f. (
          ap (λ (j : ℕ). (label_in vs j).0) t ∙ ap (λ (y : LabelId). y.0) (get_or-set_same us 127 l (label_id 0) (omega (arith, h.size, n))) ∙ q,
          refl,
          shifted_stack ws vs 127 (loops A) m (λ i il. get_or-set_other us 127 i l (label_id 0) (λ (z : i ≡ 127). omega arith) ∙ turned ws i (omega (arith, h.size)))
              (h.loops f),
        );
        depth = h.depth ∙ m ∙ ap suc (sym t);
        deep = omega (arith, t);
        flow = h.flow;
        errors = h.errors;
        met = h.met;
        nest = h.nest;
        function = h.function;
        stack = h.stack;
      }

  pub begun : {x' : Context} → x' ≡ opening l x → Rep c records x₀ (begin (take KEPT) (loop r k (suc k)) A) x'
  unfolding opening begin new Opened
  begun e = if_going (no_begin (take KEPT) new) x e h (λ g. by (ltb x.depth KEPT) refl (went h g))
    where
      by : (b : Bool) → ltb x.depth KEPT ≡ b → flow A ≡ Go
          → Rep c records x₀ (st (marks A) (labels A) (take KEPT (new ∷ loops A)) (new ∷ opened A) Go (side A)) (stacked l x)
      by true lt f =
          let y = ltb-true x.depth KEPT lt in
          let t : take KEPT (new ∷ loops A) ≡ new ∷ loops A = all_taken KEPT (new ∷ loops A) (omega (arith, h.depth)) in
          rw (t, sym f) (stands (on_true _ _ _ lt) (one_more y))
      by false lt f = rw (sym f) (stands (on_false _ _ _ lt) (moved_down (ltb-false x.depth KEPT lt)))

-- the break label is taken right behind the continue label, or nothing is opened
pub behind : (trim : List Loop → List Loop) (r : ℕ) (A : State)
    → begin trim (loop r (labels A) (labels (bump A))) (bump (bump A)) ≡ begin trim (loop r (labels A) (suc (labels A))) (bump (bump A))
unfolding bump begin
behind trim r (st m l ls os Go e) = refl
behind trim r (st m l ls os (Cut k a b) e) = refl
behind trim r (st m l ls os (Refused n q) e) = refl
