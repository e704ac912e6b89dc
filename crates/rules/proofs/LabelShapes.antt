-- What row 6's shapes say of a record's children in its function's own tree: how many there are, and of which kinds. Assumes nothing.
use mathlib.Core.Path.{◌≡◌, refl, sym, ap, subst, ◌∙◌}
use mathlib.Core.Bool.{Bool, true, false, cond, not, ◌&&◌, ◌||◌}
use mathlib.Core.List.{List, [], ◌∷◌}
use Prim.Native.Nat.{ℕ, zero, suc, ◌+◌, ◌-◌, ◌%◌, ◌≤◌, ◌<◌}
use native.Mathlib.Omega.{arith}
use native.Mathlib.Decide.{ℕ_discrete}
use lib.ListN.{drop}
use lib.Dec.{T, eqb, leb, eqb→eq, leb→le}
use Rattle.tables.specs.Record.{Words, is_function, is_kind}
use Rattle.tables.specs.Forest.{Forest, none, tree, Nodes, bare, node, own_tree}
use Rattle.tables.specs.declared.children.Class.{Class}
use Rattle.tables.specs.declared.children.Class.TheVariants.{Expr as expression, Pattern, Lit, Ident, Block, Function, Params, Handler, Case, Left, Item}
use Rattle.tables.specs.Children.{Want, times, any, maybe, pairs, one, belongs, leads, past, past_pairs, fits, suits}
use Rattle.tables.specs.Children.{member, expected, words_of, node_words}
use Rattle.tables.proofs.ForestLaws.{and_l, and_r}
use Rattle.rules.specs.Step.{Role, Expr, Callee, Tail, Target, Before, After, width}
use Rattle.rules.specs.Arms.{arguments, is_tail}
use Rattle.rules.specs.declared.StackCode.TheVariants.{Code1}
use Rattle.rules.specs.Kinds.{Kind, kinds}
use Rattle.rules.specs.Counts.{handler_count}
use Rattle.rules.proofs.Shapes.{Shaped}

-- every record of a function's own tree has children that suit its kind, but for a Function, which has none here
abbrev pub Formed : Nodes → Type 0
Formed bare = Unit {0}
Formed (node w k s) = T (is_function w || suits w (node_words k)) × Formed k × Formed s

pub own_words : (f : Forest) → words_of f ≡ node_words (own_tree f)
own_words none = refl
own_words (tree r w k s) = ap (λ xs. w ∷ xs) (own_words s)

pub formed : (f : Forest) → Shaped f → Formed (own_tree f)
formed none h = tt
formed (tree r w k s) (x, y, z) = let g = go (is_function w) (formed k y) in (g.0, g.1, formed s z)
  where
    go : (b : Bool) → Formed (own_tree k) → T (b || suits w (node_words (cond b bare (own_tree k)))) × Formed (cond b bare (own_tree k))
    go true h = (tt, tt)
    go false h = (subst (λ xs. T (suits w xs)) (own_words k) x, h)

-- the kind of the j-th node, 0 where there is none; the nodes from the n-th on
abbrev pub kind_at : Nodes → ℕ → ℕ
kind_at bare j = 0
kind_at (node w k s) zero = w.kind
kind_at (node w k s) (suc j) = kind_at s j

abbrev pub after : ℕ → Nodes → Nodes
after zero N = N
after (suc n) bare = bare
after (suc n) (node w k s) = after n s

pub kind_after : (n : ℕ) (N : Nodes) (j i : ℕ) → n + j ≡ i → kind_at (after n N) j ≡ kind_at N i
kind_after zero N j i e = let q : j ≡ i = omega arith in ap (kind_at N) q
kind_after (suc n) bare j i e = refl
kind_after (suc n) (node w k s) j zero e = absurd (omega arith)
kind_after (suc n) (node w k s) j (suc i) e = kind_after n s j i (omega arith)

-- all kinds of some nodes pass a test
abbrev pub AllKinds : (ℕ → Bool) → Nodes → Type 0
AllKinds p bare = Unit {0}
AllKinds p (node w k s) = T (p w.kind) × AllKinds p s

pub kinds_at : (p : ℕ → Bool) (N : Nodes) → AllKinds p N → (j : ℕ) → j < width N → T (p (kind_at N j))
kinds_at p bare h j g = absurd (omega arith)
kinds_at p (node w k s) (h, hs) zero g = h
kinds_at p (node w k s) (h, hs) (suc j) g = kinds_at p s hs j (omega arith)

pub kinds_map : (p q : ℕ → Bool) → ((n : ℕ) → T (p n) → T (q n)) → (N : Nodes) → AllKinds p N → AllKinds q N
kinds_map p q f bare h = tt
kinds_map p q f (node w k s) (h, hs) = (f w.kind h, kinds_map p q f s hs)

or_l : (a b : Bool) → T a → T (a || b)
or_l true b p = tt
or_l false b p = absurd p

or_r : (a b : Bool) → T b → T (a || b)
or_r true b p = tt
or_r false b p = p

pub or_cases : {A : Type 0} (a b : Bool) → T (a || b) → (T a → A) → (T b → A) → A
or_cases true b t f g = f tt
or_cases false b t f g = g t

-- a number that passes a test of a range
abbrev all_below : ℕ → (ℕ → Bool) → Bool
all_below zero p = true
all_below (suc n) p = p n && all_below n p

below_at : (n : ℕ) (p : ℕ → Bool) → T (all_below n p) → (k : ℕ) → k < n → T (p k)
below_at zero p t k h = absurd (omega arith)
below_at (suc n) p t k h = go (ℕ_discrete k n) (λ g. below_at n p (and_r (p n) _ t) k g)
  where
    go : Dec (k ≡ n) → (k < n → T (p k)) → T (p k)
    go (yes e) ih = subst (λ m. T (p m)) (sym e) (and_l (p n) _ t)
    go (no d) ih = ih (omega arith)

-- the words of a record with the kind apart: what is read off the kind computes where n is a numeral
abbrev pub as_kind : ℕ → Words → Words
as_kind n w = record { kind = n; detail = w.detail; p = w.p; q = w.q; start = w.start; end = w.end }

abbrev pub expected_as : ℕ → Words → List Want
expected_as n w = expected (as_kind n w)

-- nothing is wanted: there is none
pub fits_none : (N : Nodes) → T (fits [] (node_words N)) → width N ≡ 0
unfolding fits
fits_none bare t = refl
fits_none (node w k s) t = absurd t

-- one of a class, and then the others
pub record First (c : Class) (ws : List Want) (N : Nodes) : Type 0 where
  pub is : T (belongs c (kind_at N 0))
  pub wide : width N ≡ suc (width (after 1 N))
  pub rest : T (fits ws (node_words (after 1 N)))

pub fits_one : (c : Class) (ws : List Want) (N : Nodes) → T (fits (one c ∷ ws) (node_words N)) → First c ws N
unfolding fits
fits_one c ws bare t = absurd t
fits_one c ws (node w k s) t =
    record { is = and_l (belongs c w.kind) true (and_l (belongs c w.kind && true) _ t); wide = refl; rest = and_r (belongs c w.kind && true) _ t }

-- n of a class, and then the others
pub record Leading (n : ℕ) (c : Class) (ws : List Want) (N : Nodes) : Type 0 where
  pub are : (j : ℕ) → j < n → T (belongs c (kind_at N j))
  pub wide : width N ≡ n + width (after n N)
  pub rest : T (fits ws (node_words (after n N)))

pub fits_times : (n : ℕ) (c : Class) (ws : List Want) (N : Nodes) → T (fits (times n c ∷ ws) (node_words N)) → Leading n c ws N
unfolding fits
fits_times zero c ws N t = record { are = λ j h. absurd (omega arith); wide = omega arith; rest = t }
fits_times (suc n) c ws bare t = absurd t
fits_times (suc n) c ws (node w k s) t =
    let l = leads n c (node_words s) in
    let f = fits ws (drop n (node_words s)) in
    let b = belongs c w.kind in
    let u : T (b && l) = and_l (b && l) f t in
    let g = fits_times n c ws s (both l f (and_r b l u) (and_r (b && l) f t)) in
    record { are = λ j h. at (and_l b l u) g j h; wide = omega (arith, g.wide); rest = g.rest }
  where
    both : (x y : Bool) → T x → T y → T (x && y)
    both true y p q = q
    both false y p q = p

    at : T (belongs c w.kind) → Leading n c ws s → (j : ℕ) → j < suc n → T (belongs c (kind_at (node w k s) j))
    at u g zero h = u
    at u g (suc j) h = g.are j (omega arith)

-- two of given classes and no more; three
pub record Two (c d : Class) (N : Nodes) : Type 0 where
  pub wide : width N ≡ 2
  pub is0 : T (belongs c (kind_at N 0))
  pub is1 : T (belongs d (kind_at N 1))

pub fits_single : (c : Class) (N : Nodes) → T (fits (one c ∷ []) (node_words N)) → (width N ≡ 1) × T (belongs c (kind_at N 0))
fits_single c N t =
    let f = fits_one c [] N t in
    (omega (arith, f.wide, fits_none (after 1 N) f.rest), f.is)

pub fits_two : (c d : Class) (N : Nodes) → T (fits (one c ∷ one d ∷ []) (node_words N)) → Two c d N
fits_two c d N t =
    let f = fits_one c (one d ∷ []) N t in
    let g = fits_single d (after 1 N) f.rest in
    record { wide = omega (arith, f.wide, g.0); is0 = f.is; is1 = subst (λ n. T (belongs d n)) (kind_after 1 N 0 1 refl) g.1 }

pub record Three (c d e : Class) (N : Nodes) : Type 0 where
  pub wide : width N ≡ 3
  pub is0 : T (belongs c (kind_at N 0))
  pub is1 : T (belongs d (kind_at N 1))
  pub is2 : T (belongs e (kind_at N 2))

pub fits_three : (c d e : Class) (N : Nodes) → T (fits (one c ∷ one d ∷ one e ∷ []) (node_words N)) → Three c d e N
fits_three c d e N t =
    let f = fits_one c (one d ∷ one e ∷ []) N t in
    let g = fits_two d e (after 1 N) f.rest in
    record {
      wide = omega (arith, f.wide, g.wide);
      is0 = f.is;
      is1 = subst (λ n. T (belongs d n)) (kind_after 1 N 0 1 refl) g.is0;
      is2 = subst (λ n. T (belongs e n)) (kind_after 1 N 1 2 refl) g.is1;
    }

-- as many of a class as there are
pub fits_any : (c : Class) (N : Nodes) → T (fits (any c ∷ []) (node_words N)) → AllKinds (belongs c) N
unfolding fits
fits_any c bare t = tt
fits_any c (node w k s) t = go (belongs c w.kind) refl t (λ u. fits_any c s u)
  where
    go : (b : Bool) → belongs c w.kind ≡ b → T (fits [] (cond b (past c (node_words s)) (w ∷ node_words s)))
        → (T (fits [] (past c (node_words s))) → AllKinds (belongs c) s) → T (belongs c w.kind) × AllKinds (belongs c) s
    go true e u ih = (subst T (sym e) tt, ih u)
    go false e u ih = absurd u

-- pairs: the first of one class, the second of another
abbrev pub Alternate : Class → Class → Nodes → Type 0
Alternate a b bare = Unit {0}
Alternate a b (node w k s) = T (belongs a w.kind) × Alternate b a s

pub fits_pairs : (a b : Class) (N : Nodes) → T (fits (pairs a b ∷ []) (node_words N)) → Alternate a b N
unfolding fits
fits_pairs a b bare t = tt
fits_pairs a b (node w k bare) t = absurd t
fits_pairs a b (node w k (node w' k' s)) t = go (belongs a w.kind) (belongs b w'.kind) refl refl t (λ u. fits_pairs a b s u)
  where
    go : (x y : Bool) → belongs a w.kind ≡ x → belongs b w'.kind ≡ y
        → T (fits [] (cond (x && y) (past_pairs a b (node_words s)) (w ∷ w' ∷ node_words s))) → (T (fits [] (past_pairs a b (node_words s))) → Alternate a b s)
        → T (belongs a w.kind) × (T (belongs b w'.kind) × Alternate a b s)
    go true true e q u ih = (subst T (sym e) tt, (subst T (sym q) tt, ih u))
    go true false e q u ih = absurd u
    go false y e q u ih = absurd u

pub alternate_kinds : (a b : Class) (p : ℕ → Bool) → ((n : ℕ) → T (belongs a n) → T (p n)) → ((n : ℕ) → T (belongs b n) → T (p n)) → (N : Nodes) → Alternate a b N → AllKinds p N
alternate_kinds a b p f g bare h = tt
alternate_kinds a b p f g (node w k s) (h, hs) = (f w.kind h, alternate_kinds b a p g f s hs)

-- kinds that have steps as an expression
abbrev pub listed : ℕ → List Kind → Bool
listed n [] = false
listed n (x ∷ xs) = eqb n x.number || listed n xs

-- which are the same in both codes
abbrev pub is_listed : ℕ → Bool
is_listed n = listed n (kinds Code1)

-- kinds that are visited in a role
abbrev pub plays : Role → ℕ → Bool
plays Expr n = is_listed n
plays Callee n = is_listed n
plays Tail n = eqb n 13
plays Target n = eqb n 34
plays Before n = eqb n 34
plays After n = false

is_numbered : (p : ℕ → Bool) (m n : ℕ) → T (p m) → T (eqb n m) → T (p n)
is_numbered p m n h t = subst (λ i. T (p i)) (sym (eqb→eq n m t)) h

expr_listed : (n : ℕ) → T (leb 1 n && leb n 27) → T (is_listed n)
expr_listed n t =
    let p : ℕ → Bool = λ n. not (leb 1 n) || is_listed n in
    let a : 1 ≤ n = leb→le 1 n (and_l (leb 1 n) _ t) in
    let b : n ≤ 27 = leb→le n 27 (and_r (leb 1 n) _ t) in
    go (leb 1 n) (and_l (leb 1 n) _ t) (below_at 28 p tt n (omega arith))
  where
    go : (b : Bool) → T b → T (not b || is_listed n) → T (is_listed n)
    go true u v = v
    go false u v = absurd u

-- all classes but patterns and Lefts are visited as expressions
abbrev pub visited : Class → Bool
visited expression = true
visited Pattern = false
visited Lit = true
visited Ident = true
visited Block = true
visited Function = true
visited Params = true
visited Handler = true
visited Case = true
visited Left = false
visited Item = true

pub class_plays : (c : Class) → T (visited c) → (n : ℕ) → T (belongs c n) → T (is_listed n)
class_plays expression v n t = expr_listed n t
class_plays Pattern v n t = absurd v
class_plays Lit v n t = is_numbered is_listed 1 n tt t
class_plays Ident v n t = is_numbered is_listed 2 n tt t
class_plays Block v n t = is_numbered is_listed 4 n tt t
class_plays Function v n t = is_numbered is_listed 30 n tt t
class_plays Params v n t = is_numbered is_listed 31 n tt t
class_plays Handler v n t = is_numbered is_listed 32 n tt t
class_plays Case v n t = is_numbered is_listed 33 n tt t
class_plays Left v n t = absurd v
class_plays Item v n t = is_numbered is_listed 39 n tt t

-- expressions, and pairs of them
pub any_listed : (N : Nodes) → T (fits (any expression ∷ []) (node_words N)) → AllKinds is_listed N
any_listed N u = kinds_map (belongs expression) is_listed (class_plays expression tt) N (fits_any expression N u)

pub pairs_listed : (N : Nodes) → T (fits (pairs expression expression ∷ []) (node_words N)) → AllKinds is_listed N
pairs_listed N u = alternate_kinds expression expression is_listed (class_plays expression tt) (class_plays expression tt) N (fits_pairs expression expression N u)

-- kinds that take no label, with all below them
abbrev pub quiet : ℕ → Bool
quiet n = belongs Lit n || (belongs Ident n || (belongs Params n || belongs Pattern n))

pub lit_quiet : (n : ℕ) → T (belongs Lit n) → T (quiet n)
lit_quiet n t = or_l (belongs Lit n) _ t

pub ident_quiet : (n : ℕ) → T (belongs Ident n) → T (quiet n)
ident_quiet n t = or_r (belongs Lit n) _ (or_l (belongs Ident n) _ t)

pub params_quiet : (n : ℕ) → T (belongs Params n) → T (quiet n)
params_quiet n t = or_r (belongs Lit n) _ (or_r (belongs Ident n) _ (or_l (belongs Params n) _ t))

pub pattern_quiet : (n : ℕ) → T (belongs Pattern n) → T (quiet n)
pattern_quiet n t = or_r (belongs Lit n) _ (or_r (belongs Ident n) _ (or_r (belongs Params n) _ t))

-- the four patterns
pub pattern_cases : (P : ℕ → Type 0) → P 35 → P 36 → P 37 → P 38 → (n : ℕ) → T (belongs Pattern n) → P n
pattern_cases P a b c d n t = go (ℕ_discrete n 35) (ℕ_discrete n 36) (ℕ_discrete n 37) (leb→le 35 n (and_l (leb 35 n) _ t)) (leb→le n 38 (and_r (leb 35 n) _ t))
  where
    go : Dec (n ≡ 35) → Dec (n ≡ 36) → Dec (n ≡ 37) → 35 ≤ n → n ≤ 38 → P n
    go (yes e) y z g h = subst P (sym e) a
    go (no x) (yes e) z g h = subst P (sym e) b
    go (no x) (no y) (yes e) g h = subst P (sym e) c
    go (no x) (no y) (no z) g h = let e : 38 ≡ n = omega arith in subst P e d

pub quiet_cases : (P : ℕ → Type 0) → P 1 → P 2 → P 31 → P 35 → P 36 → P 37 → P 38 → (n : ℕ) → T (quiet n) → P n
quiet_cases P l i m a b c d n t =
    or_cases (belongs Lit n) _ t (λ u. subst P (sym (eqb→eq n 1 u)) l)
    (λ t. or_cases (belongs Ident n) _ t (λ u. subst P (sym (eqb→eq n 2 u)) i)
    (λ t. or_cases (belongs Params n) _ t (λ u. subst P (sym (eqb→eq n 31 u)) m) (λ t. pattern_cases P a b c d n t)))

-- a Call's children after the callee: arguments, at most one Function, Handlers
all_handlers : (N : Nodes) → AllKinds (belongs Handler) N → (arguments N ≡ 0) × (handler_count N ≡ width N)
all_handlers bare h = (refl, refl)
all_handlers (node w k s) (h, hs) = let g = all_handlers s hs in go (is_kind 32 w) h g.1
  where
    go : (b : Bool) → T b → handler_count s ≡ width s → (cond b 0 (suc (arguments s)) ≡ 0) × (cond b (suc (handler_count s)) (handler_count s) ≡ suc (width s))
    go true t e = (refl, ap suc e)
    go false t e = absurd t

-- a child that is no Handler
argument : (w : Words) (k s : Nodes) → (w.kind ≡ 32 → ⊥) → handler_count s + arguments s ≡ width s → handler_count (node w k s) + arguments (node w k s) ≡ suc (width s)
argument w k s d h = go (is_kind 32 w) (λ t. d (eqb→eq w.kind 32 t))
  where
    go : (b : Bool) → (T b → ⊥) → cond b (suc (handler_count s)) (handler_count s) + cond b 0 (suc (arguments s)) ≡ suc (width s)
    go true z = absurd (z tt)
    go false z = omega (arith, h)

-- "arguments, at most one Function, Handlers": all are visited, and what is no argument is a Handler
abbrev pub Arguments : Nodes → Type 0
Arguments N = (handler_count N + arguments N ≡ width N) × AllKinds is_listed N

handlers_only : (N : Nodes) → T (fits (any Handler ∷ []) (node_words N)) → Arguments N
handlers_only N t =
    let a = fits_any Handler N t in
    let h = all_handlers N a in
    (omega (arith, h.0, h.1), kinds_map (belongs Handler) is_listed (class_plays Handler tt) N a)

pub fits_arguments : (N : Nodes) → T (fits (any expression ∷ maybe Function ∷ any Handler ∷ []) (node_words N)) → Arguments N
unfolding fits
fits_arguments bare t = (refl, tt)
fits_arguments (node w k s) t = go (belongs expression w.kind) refl t (λ u. fits_arguments s u)
  where
    function : (b : Bool) → belongs Function w.kind ≡ b → T (fits (any Handler ∷ []) (cond b (node_words s) (w ∷ node_words s))) → Arguments (node w k s)
    function true e u =
        let h = handlers_only s u in
        let q : T (belongs Function w.kind) = subst T (sym e) tt in
        (argument w k s (λ z. omega (arith, eqb→eq w.kind 30 q)) h.0, (class_plays Function tt w.kind q, h.1))
    function false e u = handlers_only (node w k s) u

    go : (b : Bool) → belongs expression w.kind ≡ b
        → T (fits (maybe Function ∷ any Handler ∷ []) (cond b (past expression (node_words s)) (w ∷ node_words s)))
        → (T (fits (maybe Function ∷ any Handler ∷ []) (past expression (node_words s))) → Arguments s) → Arguments (node w k s)
    go true e u ih =
        let h = ih u in
        let q : T (belongs expression w.kind) = subst T (sym e) tt in
        (argument w k s (λ z. omega (arith, leb→le w.kind 27 (and_r (leb 1 w.kind) _ q))) h.0, (class_plays expression tt w.kind q, h.1))
    go false e u ih = function (belongs Function w.kind) refl u

-- n values from the j-th on
abbrev pub sum : (ℕ → ℕ) → ℕ → ℕ → ℕ
sum L j zero = 0
sum L j (suc n) = L j + sum L (suc j) n

pub sum_split : (L : ℕ → ℕ) (m n j i l : ℕ) → j + m ≡ i → m + n ≡ l → sum L j l ≡ sum L j m + sum L i n
sum_split L zero n j i l e q =
    let a : l ≡ n = omega arith in
    let b : j ≡ i = omega arith in
    let c : sum L j l ≡ sum L i n = ap (λ x. sum L j x) a ∙ ap (λ x. sum L x n) b in
    omega (arith, c)
sum_split L (suc m) n j i zero e q = absurd (omega arith)
sum_split L (suc m) n j i (suc l) e q = omega (arith, sum_split L m n (suc j) i l (omega arith) (omega arith))

pub sum_zero : (L : ℕ → ℕ) (j n : ℕ) → ((i : ℕ) → j ≤ i → i < j + n → L i ≡ 0) → sum L j n ≡ 0
sum_zero L j zero f = refl
sum_zero L j (suc n) f = omega (arith, f j (omega arith) (omega arith), sum_zero L (suc j) n (λ i g h. f i (omega arith) (omega arith)))

-- nodes after the p-th by their own numbers
pub rest_kinds : (q : ℕ → Bool) (p : ℕ) (N : Nodes) → AllKinds q (after p N) → (i : ℕ) → p ≤ i → i < p + width (after p N) → T (q (kind_at N i))
rest_kinds q p N h i g l = subst (λ n. T (q n)) (kind_after p N (i - p) i (omega arith)) (kinds_at q (after p N) h (i - p) (omega arith))

pub member_zero : (d : ℕ) → T (eqb (member d) 0) → T (eqb (d % 8) 0)
member_zero d t = go (leb 8 d) refl t
  where
    go : (b : Bool) → leb 8 d ≡ b → T (eqb (cond b (d - 8) d) 0) → T (eqb (d % 8) 0)
    go true e u =
        let q : 8 ≡ d = omega (arith, eqb→eq (d - 8) 0 u, leb→le 8 d (subst T (sym e) tt)) in
        subst (λ (n : ℕ). T (eqb (n % 8) 0)) q tt
    go false e u = subst (λ (n : ℕ). T (eqb (n % 8) 0)) (sym (eqb→eq d 0 u)) tt

pub tail_kind : (N : Nodes) → T (is_tail N) → T (eqb (kind_at N 0) 13)
tail_kind bare t = absurd t
tail_kind (node w bare s) t = t
tail_kind (node w (node w' k' s') s) t = and_l (is_kind 13 w) _ t

-- an expression is neither Handler nor Case
pub not_kind : (n m : ℕ) → 27 < m → T (belongs expression n) → T (eqb n m) → ⊥
not_kind n m g t u = omega (arith, leb→le n 27 (and_r (leb 1 n) _ t), eqb→eq n m u)

pub unless : (b : Bool) (x y : ℕ) → (T b → ⊥) → cond b x y ≡ y
unless true x y d = absurd (d tt)
unless false x y d = refl
