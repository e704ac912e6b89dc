-- A budget for each record, and what the parts of variable length cost of it. Assumes nothing.
use mathlib.Core.Path.{◌≡◌, refl, ap, subst}
use mathlib.Core.Bool.{Bool, true, false, cond}
use mathlib.Core.List.{List, [], ◌∷◌}
use Prim.Native.Nat.{ℕ, zero, suc, ◌+◌, ◌*◌, ◌-◌, ◌≤◌}
use native.Mathlib.Omega.{arith}
use lib.Dec.{ltb, eqb, eqb→eq}
use Rattle.tables.specs.Record.{Words, is_kind, is_function}
use Rattle.tables.specs.Forest.{Forest, none, tree, Nodes, bare, node, breadth, own_tree}
use Rattle.pool.specs.Value.{str, child}
use Rattle.rules.specs.Marker.{JumpPopIfNull, LoadConst, Code}
use Rattle.rules.specs.Step.{Role, Expr, Target, Before, After, Step, push_const, jump, expr, visits, visits_down, stores_down, get_labels, push_ops, width}
use Rattle.rules.specs.Arms.{block_from, arguments, property, safe_jump, registers, bodies, items_stored, unpacked}
use Rattle.rules.specs.Run.{from_tree}
use Rattle.rules.proofs.Shapes.{AllCases}
use Rattle.rules.proofs.Cost.{rep, Rates, weigh}
use Rattle.rules.proofs.CostPatterns.{rep_plus, node_count, front_count, tests_count, pattern_rate}

pub own_width : (f : Forest) → width (own_tree f) ≡ breadth f
own_width none = refl
own_width (tree r w k s) = ap suc (own_width s)

pub arguments_most : (s : Nodes) → arguments s ≤ width s
arguments_most bare = omega arith
arguments_most (node w k s) = go (is_kind 32 w) (arguments_most s)
  where
    go : (b : Bool) → arguments s ≤ width s → cond b 0 (suc (arguments s)) ≤ suc (width s)
    go true h = omega arith
    go false h = omega arith

pub breadth_from : (n : ℕ) (f : Forest) → n + breadth (from_tree n f) ≡ n + (breadth f - n)
breadth_from zero f = omega arith
breadth_from (suc n) none = omega arith
breadth_from (suc n) (tree r w k s) = omega (arith, breadth_from n s)

-- b: what each record may cost
module _ (b : Words → ℕ) where
  unfoldable pub budget : Forest → ℕ
  budget none = 0
  budget (tree r w k s) = b w + budget k + budget s

  -- the first n trees
  unfoldable pub front : ℕ → Forest → ℕ
  front zero f = 0
  front (suc n) none = 0
  front (suc n) (tree r w k s) = b w + budget k + front n s

  -- a Case leaves its patterns' share to the Match; n is the record's kind
  abbrev pub extra : ℕ → Words → Forest → ℕ
  extra n w k = cond (eqb n 33) (front w.p k) 0

  unfoldable pub extras : Forest → ℕ
  extras none = 0
  extras (tree r w k s) = extra w.kind w k + extras s

  pub front_all : (n : ℕ) (f : Forest) → front n f + budget (from_tree n f) ≡ budget f
  unfolding front budget
  front_all zero f = omega arith
  front_all (suc n) none = omega arith
  front_all (suc n) (tree r w k s) = omega (arith, front_all n s)

  module _ (x : ℕ) (few : (w : Words) → x ≤ b w) where
    pub width_budget : (f : Forest) → rep x (width (own_tree f)) ≤ budget f
    unfolding rep budget
    width_budget none = omega arith
    width_budget (tree r w k s) = omega (arith, few w, width_budget s)

    pub rep_front : (n : ℕ) (f : Forest) → n ≤ breadth f → rep x n ≤ front n f
    unfolding rep front
    rep_front zero f h = omega arith
    rep_front (suc n) none h = absurd (omega arith)
    rep_front (suc n) (tree r w k s) h = omega (arith, few w, rep_front n s (omega arith))

    nodes_budget : (f : Forest) → rep x (node_count (own_tree f)) ≤ budget f
    unfolding rep budget node_count
    nodes_budget none = omega arith
    nodes_budget (tree r w k s) = go (is_function w) (nodes_budget k) (nodes_budget s)
      where
        go : (c : Bool) → rep x (node_count (own_tree k)) ≤ budget k → rep x (node_count (own_tree s)) ≤ budget s
            → x + rep x (node_count (cond c bare (own_tree k)) + node_count (own_tree s)) ≤ b w + budget k + budget s
        go true p q = omega (arith, few w, rep_plus x 0 (node_count (own_tree s)))
        go false p q = omega (arith, few w, rep_plus x (node_count (own_tree k)) (node_count (own_tree s)))

    front_budget : (n : ℕ) (f : Forest) → rep x (front_count n (own_tree f)) ≤ front n f
    unfolding rep budget front node_count front_count
    front_budget zero none = omega arith
    front_budget zero (tree r w k s) = omega arith
    front_budget (suc n) none = omega arith
    front_budget (suc n) (tree r w k s) = go (is_function w) (nodes_budget k) (front_budget n s)
      where
        go : (c : Bool) → rep x (node_count (own_tree k)) ≤ budget k → rep x (front_count n (own_tree s)) ≤ front n s
            → rep x (suc (node_count (cond c bare (own_tree k))) + front_count n (own_tree s)) ≤ b w + budget k + front n s
        go true p q = omega (arith, few w, rep_plus x 1 (front_count n (own_tree s)))
        go false p q = omega (arith, few w, rep_plus x (suc (node_count (own_tree k))) (front_count n (own_tree s)))

    -- what the Cases leave is enough for x a pattern node
    pub tests_extras : (s : Forest) → AllCases s → rep x (tests_count (own_tree s)) ≤ extras s
    unfolding rep extras tests_count front_count
    tests_extras none h = omega arith
    tests_extras (tree r w k s) (t, h) = go (is_function w) (front_budget w.p k) (tests_extras s h)
      where
        left : extra w.kind w k ≡ front w.p k
        left = ap (λ (n : ℕ). extra n w k) (eqb→eq w.kind 33 t)

        go : (c : Bool) → rep x (front_count w.p (own_tree k)) ≤ front w.p k → rep x (tests_count (own_tree s)) ≤ extras s
            → rep x (front_count w.p (cond c bare (own_tree k)) + tests_count (own_tree s)) ≤ extra w.kind w k + extras s
        go true p q = omega (arith, left, rep_plus x 0 (tests_count (own_tree s)))
        go false p q = omega (arith, left, rep_plus x (front_count w.p (own_tree k)) (tests_count (own_tree s)))

-- the longest fixed list, a For's; a Function's marks and constant with its stream's; a Handler's or Case's label, loads and jumps; a Left's item; a Block's
-- Pop and error
abbrev pub fixed_rate : Rates → ℕ
fixed_rate R = 3 * R.on_label + (2 * R.on_null + (R.on_const + 13 * R.on_marker))

abbrev pub function_rate : Rates → ℕ
function_rate R = R.on_const + (4 * R.on_marker + (R.on_stream + R.on_met))

abbrev pub arm_rate : Rates → ℕ
arm_rate R = R.on_label + 4 * R.on_marker

abbrev pub item_rate : Rates → ℕ
item_rate R = R.on_const + 2 * R.on_marker

abbrev pub part_rate : Rates → ℕ
part_rate R = R.on_marker + R.on_error

-- b for a record, of which g is left for what its parent does for each child
pub record Afford (R : Rates) (b : Words → ℕ) (g : ℕ) : Type 0 where
  pub least : R.on_null ≤ R.on_const
  pub fixed : (w : Words) → fixed_rate R + g ≤ b w
  pub function : (w : Words) → w.kind ≡ 30 → function_rate R + g ≤ b w
  pub pattern : (w : Words) → pattern_rate R ≤ b w
  pub arm : arm_rate R ≤ g
  pub item : item_rate R ≤ g
  pub part : part_rate R ≤ g

-- a record's cost in each role, with x left of y; an AssignOp visits its Left twice
pub record Settles (c : Role → ℕ) (x y : ℕ) : Type 0 where
  pub once : (a : Role) → c a + x ≤ y
  pub twice : c Before + c After + x ≤ y

-- what the children cost, from child j on; an absent child costs nothing
module _ (b : Words → ℕ) (g : ℕ) (ks : Role → ℕ → ℕ) where
  abbrev pub Covers : ℕ → Forest → Type 0
  Covers j none = (i : ℕ) → j ≤ i → (a : Role) → ks a i ≡ 0
  Covers j (tree r w k s) = Settles (λ a. ks a j) (g + extra b w.kind w k) (b w + budget b k) × Covers (suc j) s

module _ {R : Rates} {b : Words → ℕ} {g : ℕ} (A : Afford R b g) (ks : Role → ℕ → ℕ) (body : ℕ) where
  abbrev W : List Step → ℕ
  W is = weigh R ks body is

  pub one_child : (j : ℕ) (f : Forest) → Covers b g ks j f → (a : Role) → ks a j ≤ budget b f
  unfolding budget
  one_child j none h a = omega (arith, h j (omega arith) a)
  one_child j (tree r w k s) (h, hs) a = omega (arith, h.once a)

  pub two_children : (j : ℕ) (f : Forest) → Covers b g ks j f → (a c : Role) → ks a j + ks c (suc j) ≤ budget b f
  unfolding budget
  two_children j none h a c = omega (arith, h j (omega arith) a, h (suc j) (omega arith) c)
  two_children j (tree r w k s) (h, hs) a c = omega (arith, h.once a, one_child (suc j) s hs c)

  pub three_children : (j : ℕ) (f : Forest) → Covers b g ks j f → (a c d : Role) → ks a j + (ks c (suc j) + ks d (suc (suc j))) ≤ budget b f
  unfolding budget
  three_children j none h a c d = omega (arith, h j (omega arith) a, h (suc j) (omega arith) c, h (suc (suc j)) (omega arith) d)
  three_children j (tree r w k s) (h, hs) a c d = omega (arith, h.once a, two_children (suc j) s hs c d)

  -- a Left before and after, and the right side
  pub left_children : (f : Forest) → Covers b g ks 0 f → ks Before 0 + (ks After 0 + ks Expr 1) ≤ budget b f
  unfolding budget
  left_children none h = omega (arith, h 0 (omega arith) Before, h 0 (omega arith) After, h 1 (omega arith) Expr)
  left_children (tree r w k s) (h, hs) = omega (arith, h.twice, one_child 1 s hs Expr)

  -- where there is a child, its share is left
  pub some_children : (f : Forest) → 1 ≤ breadth f → Covers b g ks 0 f → ks Expr 0 + ks Expr 1 + g ≤ budget b f
  unfolding budget
  some_children none n h = absurd (omega arith)
  some_children (tree r w k s) n (h, hs) = omega (arith, h.once Expr, one_child 1 s hs Expr)

  pub covers_from : (n : ℕ) (f : Forest) (j i : ℕ) → i ≡ j + n → Covers b g ks j f → Covers b g ks i (from_tree n f)
  covers_from zero f j i e h = let q : j ≡ i = omega arith in subst (λ (z : ℕ). Covers b g ks z f) q h
  covers_from (suc n) none j i e h = λ q p a. h q (omega arith) a
  covers_from (suc n) (tree r w k s) j i e (h, hs) = covers_from n s (suc j) i (omega arith) hs

  -- parts of variable length
  visits_absent : (n j : ℕ) (a : Role) (is : List Step) → Covers b g ks j none → W (visits a j n is) ≡ W is
  unfolding weigh
  visits_absent zero j a is h = refl
  visits_absent (suc n) j a is h = omega (arith, h j (omega arith) a, visits_absent n (suc j) a is (λ i p a. h i (omega arith) a))

  pub visits_weigh : (n : ℕ) (f : Forest) (j : ℕ) (a : Role) (is : List Step) → Covers b g ks j f → W (visits a j n is) ≤ front b n f + W is
  unfolding weigh front
  visits_weigh zero f j a is h = omega arith
  visits_weigh (suc n) none j a is h = omega (arith, visits_absent (suc n) j a is h)
  visits_weigh (suc n) (tree r w k s) j a is (h, hs) = omega (arith, h.once a, visits_weigh n s (suc j) a is hs)

  next_front : (n : ℕ) (f : Forest) (j i : ℕ) → i ≡ j + n → Covers b g ks j f → (a : Role) → ks a i + front b n f ≤ front b (suc n) f
  unfolding front
  next_front zero none j i e h a = omega (arith, h i (omega arith) a)
  next_front zero (tree r w k s) j i e (h, hs) a = let q : i ≡ j = omega arith in rw q (omega (arith, h.once a))
  next_front (suc n) none j i e h a = omega (arith, h i (omega arith) a)
  next_front (suc n) (tree r w k s) j i e (h, hs) a = omega (arith, next_front n s (suc j) i (omega arith) hs a)

  pub down_weigh : (n : ℕ) (f : Forest) (a : Role) (is : List Step) → Covers b g ks 0 f → W (visits_down a n is) ≤ front b n f + W is
  unfolding weigh
  down_weigh zero f a is h = omega arith
  down_weigh (suc n) f a is h = omega (arith, next_front n f 0 n (omega arith) h a, down_weigh n f a is h)

  pub block_weigh : (s : Forest) (j r : ℕ) (w : Words) (k : Forest) → Covers b g ks j (tree r w k s) → W (block_from j (own_tree s)) ≤ budget b (tree r w k s)
  unfolding weigh budget
  block_weigh none j r w k (h, hs) = omega (arith, h.once Expr, A.part)
  block_weigh (tree q w' k' s) j r w k (h, hs) = omega (arith, h.once Expr, A.part, block_weigh s (suc j) q w' k' hs)

  pub stores_weigh : (n : ℕ) (is : List Step) → W (stores_down n is) ≡ rep R.on_marker n + W is
  unfolding weigh rep
  stores_weigh zero is = omega arith
  stores_weigh (suc n) is = omega (arith, stores_weigh n is)

  pub takes_weigh : (n : ℕ) (is : List Step) → W (get_labels n is) ≡ rep R.on_label n + W is
  unfolding weigh rep
  takes_weigh zero is = omega arith
  takes_weigh (suc n) is = omega (arith, takes_weigh n is)

  pub says_weigh : (n : ℕ) (c : Code) (x : ℕ) (is : List Step) → W (push_ops n c x is) ≡ rep R.on_marker n + W is
  unfolding weigh rep
  says_weigh zero c x is = omega arith
  says_weigh (suc n) c x is = omega (arith, says_weigh n c x is)

  pub items_weigh : (n i : ℕ) (is : List Step) → W (items_stored i n is) ≡ rep (R.on_const + 3 * R.on_marker) n + W is
  unfolding weigh rep
  items_weigh zero i is = omega arith
  items_weigh (suc n) i is = omega (arith, items_weigh n (suc i) is)

  pub registers_weigh : (n i j : ℕ) (is : List Step) → W (registers i j n is) ≡ rep (R.on_label + 2 * R.on_marker) n + W is
  unfolding weigh rep
  registers_weigh zero i j is = omega arith
  registers_weigh (suc n) i j is = omega (arith, registers_weigh n (suc i) (suc j) is)

  -- the Lefts of an AssignUnpack, and a Copy for each
  pub unpacked_weigh : (n : ℕ) (f : Forest) (j : ℕ) (is : List Step) → n ≤ breadth f → Covers b g ks j f → W (unpacked j n is) + rep R.on_marker n ≤ front b n f + W is
  unfolding weigh rep front
  unpacked_weigh zero f j is p h = omega arith
  unpacked_weigh (suc n) none j is p h = absurd (omega arith)
  unpacked_weigh (suc n) (tree r w k s) j is p (h, hs) = omega (arith, h.once Target, A.item, unpacked_weigh n s (suc j) is (omega arith) hs)

  -- the bodies of Handlers or Cases, with x more for each, and what the Cases leave
  pub bodies_weigh : (x : ℕ) → x + 2 * R.on_marker ≤ g → (n : ℕ) (f : Forest) (i j : ℕ) (is : List Step) → n ≤ breadth f → Covers b g ks j f
      → W (bodies i j n is) + rep x n + extras b f ≤ budget b f + W is
  unfolding weigh rep budget extras
  bodies_weigh x q zero none i j is p h = omega arith
  bodies_weigh x q zero (tree r w k s) i j is p (h, hs) = omega (arith, h.once Expr, bodies_weigh x q zero s i (suc j) is (omega arith) hs)
  bodies_weigh x q (suc n) none i j is p h = absurd (omega arith)
  bodies_weigh x q (suc n) (tree r w k s) i j is p (h, hs) = omega (arith, h.once Expr, bodies_weigh x q n s (suc i) (suc j) is (omega arith) hs)

  pub either_weigh : (c : Bool) (x y : List Step) (u z : ℕ) → W x + u ≤ z → W y + u ≤ z → W (cond c x y) + u ≤ z
  either_weigh true x y u z p q = p
  either_weigh false x y u z p q = q

  pub property_weigh : (m : ℕ) (k : Nodes) (is : List Step) → W (property m k is) ≤ ks Expr 1 + (R.on_const + W is)
  unfolding weigh
  property_weigh m k is =
      let z = ks Expr 1 + (R.on_const + W is) in
      omega (
        arith,
        either_weigh (eqb m 0) (expr 1 ∷ is) (cond (ltb m 3) (push_const LoadConst (1 ∷ []) (str (child k 1).q) ∷ is) is) 0 z (omega arith)
            (either_weigh (ltb m 3) (push_const LoadConst (1 ∷ []) (str (child k 1).q) ∷ is) is 0 z (omega arith) (omega arith)),
      )

  pub safe_weigh : (w : Words) (is : List Step) → W (safe_jump w is) ≤ R.on_marker + W is
  unfolding weigh
  safe_weigh w is =
      omega (arith, either_weigh (ltb w.detail 8) is (jump JumpPopIfNull 0 ∷ is) 0 (R.on_marker + W is) (omega arith) (omega arith))
