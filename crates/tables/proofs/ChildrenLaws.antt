-- What `suits` says of the children: their forms, kind by kind, and the forms of forests. Assumes nothing.
use mathlib.Core.Path.{◌≡◌, refl, sym, ap, subst, ◌∙◌}
use mathlib.Core.Bool.{Bool, true, false, cond, ◌&&◌, ◌||◌}
use mathlib.Core.List.{List, [], ◌∷◌, ◌++◌, append-nil}
use Prim.Native.Nat.{ℕ, zero, suc, ◌+◌, ◌≤◌, ◌<◌}
use native.Mathlib.Omega.{arith}
use lib.ListN.{length, get_or, drop}
use lib.Dec.{eqb}
use borrow.Author.Tests.{ne_eqb, eqb-true, eqb-false, not-false}
use Rattle.tables.specs.declared.children.Class.{Class}
use Rattle.tables.specs.declared.children.Class.TheVariants.{Expr, Pattern, Ident, Block, Function, Params, Handler, Case, Left, Item}
use Rattle.std.specs.Prelude.{None}
use Rattle.tables.specs.Record.{Words, words, word, size}
use Rattle.tables.specs.Place.{broken}
use Rattle.tables.specs.Forest.{Forest, none, tree, own_tree, children, breadth}
use Rattle.tables.specs.Details.{of_kind}
use Rattle.tables.specs.Children.{Want, times, any, maybe, pairs, one, belongs, leads, past, past_one, past_pairs, fits, suits, property, member, left_property, imported}
use Rattle.tables.specs.Children.{values, controls, stores, parts, words_of, node_words, rooted, right_children, wrong_children}
use Rattle.tables.proofs.PlaceLaws.{holds}
use Rattle.tables.proofs.ServeLaws.{clash, bracket_on, bracket_off}

-- of the class
abbrev pub Is : Class → Words → Type 0
Is c x = belongs c x.kind ≡ true

-- nothing is left
abbrev pub NoMore : List Words → Type 0
NoMore [] = Unit {0}
NoMore (x ∷ xs) = ⊥

abbrev pub All : Class → List Words → Type 0
All c [] = Unit {0}
All c (x ∷ xs) = Is c x × All c xs

abbrev pub AtMostOne : Class → List Words → Type 0
AtMostOne c [] = Unit {0}
AtMostOne c (x ∷ xs) = Is c x × NoMore xs

abbrev pub Pairs : Class → Class → List Words → Type 0
Pairs a b [] = Unit {0}
Pairs a b (x ∷ []) = ⊥
Pairs a b (x ∷ y ∷ xs) = Is a x × (Is b y × Pairs a b xs)

-- n of the class, and then B of the others
abbrev pub Leads : ℕ → Class → (List Words → Type 0) → List Words → Type 0
Leads zero c B xs = B xs
Leads (suc n) c B [] = ⊥
Leads (suc n) c B (x ∷ xs) = Is c x × Leads n c B xs

-- a list in two parts
pub record Split (F B : List Words → Type 0) (xs : List Words) : Type 0 where
  pub front : List Words
  pub back : List Words
  pub whole : xs ≡ front ++ back
  pub these : F front
  pub those : B back

-- the form of a list of children that fits: it computes on a list, and on a forest, whose first records are given
abbrev pub Form : List Want → List Words → Type 0
Form [] xs = NoMore xs
Form (times n c ∷ ws) xs = Leads n c (λ ys. Form ws ys) xs
Form (any c ∷ ws) xs = Split (All c) (λ ys. Form ws ys) xs
Form (maybe c ∷ ws) xs = Split (AtMostOne c) (λ ys. Form ws ys) xs
Form (pairs a b ∷ ws) xs = Split (Pairs a b) (λ ys. Form ws ys) xs

-- each part of `fits` by itself, for any B that follows from the rest
module _ (rest : List Words → Bool) (B : List Words → Type 0) (then : (xs : List Words) → rest xs ≡ true → B xs) where
  the_times : (n : ℕ) (c : Class) (xs : List Words) → leads n c xs && rest (drop n xs) ≡ true → Leads n c B xs
  the_times zero c xs e = then xs e
  the_times (suc n) c [] e = clash e
  the_times (suc n) c (x ∷ xs) e = go (belongs c x.kind) refl e (λ e. the_times n c xs e)
    where
      go : (b : Bool) → belongs c x.kind ≡ b → (b && leads n c xs) && rest (drop n xs) ≡ true
          → (leads n c xs && rest (drop n xs) ≡ true → Leads n c B xs) → Is c x × Leads n c B xs
      go true q e ih = (q, ih e)
      go false q e ih = clash e

  the_any : (c : Class) (xs : List Words) → rest (past c xs) ≡ true → Split (All c) B xs
  the_any c [] e = record { front = []; back = []; whole = refl; these = tt; those = then [] e }
  the_any c (x ∷ xs) e = go (belongs c x.kind) refl e (λ e. the_any c xs e)
    where
      go : (b : Bool) → belongs c x.kind ≡ b → rest (cond b (past c xs) (x ∷ xs)) ≡ true
          → (rest (past c xs) ≡ true → Split (All c) B xs) → Split (All c) B (x ∷ xs)
      go true q e ih =
          let s = ih e in
          record { front = x ∷ s.front; back = s.back; whole = ap (λ l. x ∷ l) s.whole; these = (q, s.these); those = s.those }
      go false q e ih = record { front = []; back = x ∷ xs; whole = refl; these = tt; those = then (x ∷ xs) e }

  the_maybe : (c : Class) (xs : List Words) → rest (past_one c xs) ≡ true → Split (AtMostOne c) B xs
  the_maybe c [] e = record { front = []; back = []; whole = refl; these = tt; those = then [] e }
  the_maybe c (x ∷ xs) e = go (belongs c x.kind) refl e
    where
      go : (b : Bool) → belongs c x.kind ≡ b → rest (cond b xs (x ∷ xs)) ≡ true → Split (AtMostOne c) B (x ∷ xs)
      go true q e = record { front = x ∷ []; back = xs; whole = refl; these = (q, tt); those = then xs e }
      go false q e = record { front = []; back = x ∷ xs; whole = refl; these = tt; those = then (x ∷ xs) e }

  the_pairs : (a b : Class) (xs : List Words) → rest (past_pairs a b xs) ≡ true → Split (Pairs a b) B xs
  the_pairs a b [] e = record { front = []; back = []; whole = refl; these = tt; those = then [] e }
  the_pairs a b (x ∷ []) e = record { front = []; back = x ∷ []; whole = refl; these = tt; those = then (x ∷ []) e }
  the_pairs a b (x ∷ y ∷ xs) e = go (belongs a x.kind) refl (belongs b y.kind) refl e (λ e. the_pairs a b xs e)
    where
      none_taken : rest (x ∷ y ∷ xs) ≡ true → Split (Pairs a b) B (x ∷ y ∷ xs)
      none_taken e = record { front = []; back = x ∷ y ∷ xs; whole = refl; these = tt; those = then (x ∷ y ∷ xs) e }

      go : (s : Bool) → belongs a x.kind ≡ s → (t : Bool) → belongs b y.kind ≡ t → rest (cond (s && t) (past_pairs a b xs) (x ∷ y ∷ xs)) ≡ true
          → (rest (past_pairs a b xs) ≡ true → Split (Pairs a b) B xs) → Split (Pairs a b) B (x ∷ y ∷ xs)
      go true q true u e ih =
          let s = ih e in
          record { front = x ∷ y ∷ s.front; back = s.back; whole = ap (λ l. x ∷ y ∷ l) s.whole; these = (q, (u, s.these)); those = s.those }
      go true q false u e ih = none_taken e
      go false q t u e ih = none_taken e

pub form : (ws : List Want) (xs : List Words) → fits ws xs ≡ true → Form ws xs
unfolding fits
form [] [] e = tt
form [] (x ∷ xs) e = clash e
form (times n c ∷ ws) xs e = the_times (fits ws) (Form ws) (λ ys e. form ws ys e) n c xs e
form (any c ∷ ws) xs e = the_any (fits ws) (Form ws) (λ ys e. form ws ys e) c xs e
form (maybe c ∷ ws) xs e = the_maybe (fits ws) (Form ws) (λ ys e. form ws ys e) c xs e
form (pairs a b ∷ ws) xs e = the_pairs (fits ws) (Form ws) (λ ys e. form ws ys e) a b xs e

-- `expected` with the kind apart: it computes where k is a numeral
abbrev pub expected_as : ℕ → Words → List Want
expected_as k w = of_kind k (values w) (of_kind k (controls w) (of_kind k (stores w) (of_kind k (parts w) [])))

module _ (w : Words) (xs : List Words) (s : suits w xs ≡ true) where
  -- the children of a record of kind k: `kind-form 30 e` has the type Form (one Params ∷ one Block ∷ []) xs, and so on
  pub kind_fits : (k : ℕ) → w.kind ≡ k → fits (expected_as k w) xs ≡ true
  kind_fits k e = ap (λ (j : ℕ). fits (expected_as j w) xs) (sym e) ∙ s

  pub kind_form : (k : ℕ) → w.kind ≡ k → Form (expected_as k w) xs
  kind_form k e = form _ xs (kind_fits k e)

  pub function_form : w.kind ≡ 30 → Form (one Params ∷ one Block ∷ []) xs
  function_form e = kind_form 30 e

  pub handler_form : w.kind ≡ 32 → Form (one Ident ∷ one Params ∷ one Block ∷ []) xs
  handler_form e = kind_form 32 e

  pub call_form : w.kind ≡ 13 → Form (one Expr ∷ any Expr ∷ maybe Function ∷ any Handler ∷ []) xs
  call_form e = kind_form 13 e

  pub match_form : w.kind ≡ 15 → Form (one Expr ∷ any Case ∷ []) xs
  match_form e = kind_form 15 e

  pub case_form : w.kind ≡ 33 → Form (times w.p Pattern ∷ one Expr ∷ []) xs
  case_form e = kind_form 33 e

  pub for_form : w.kind ≡ 18 → Form (times w.p Ident ∷ one Expr ∷ one Block ∷ []) xs
  for_form e = kind_form 18 e

  pub unpack_form : w.kind ≡ 26 → Form (times w.p Left ∷ one Expr ∷ []) xs
  unpack_form e = kind_form 26 e

  pub multi_form : w.kind ≡ 27 → Form (times w.p Left ∷ any Expr ∷ []) xs
  multi_form e = kind_form 27 e

  as_form : (k : ℕ) → w.kind ≡ k → (vs : List Want) → expected_as k w ≡ vs → Form vs xs
  as_form k e vs q = form vs xs (ap (λ ws. fits ws xs) (sym q) ∙ kind_fits k e)

  -- the kinds whose children go by the detail
  pub fn_named : w.kind ≡ 5 → w.detail ≡ 1 → Form (one Ident ∷ one Function ∷ []) xs
  fn_named e d = as_form 5 e _ (bracket_on w (one Ident) (one Function ∷ []) d)

  pub fn_alone : w.kind ≡ 5 → (w.detail ≡ 1 → ⊥) → Form (one Function ∷ []) xs
  fn_alone e d = as_form 5 e _ (bracket_off w (one Ident) (one Function ∷ []) d)

  pub if_else : w.kind ≡ 14 → w.detail ≡ 1 → Form (one Expr ∷ one Block ∷ one Expr ∷ []) xs
  if_else e d = as_form 14 e _ (ap (λ ws. one Expr ∷ one Block ∷ ws) (bracket_on w (one Expr) [] d))

  pub if_alone : w.kind ≡ 14 → (w.detail ≡ 1 → ⊥) → Form (one Expr ∷ one Block ∷ []) xs
  if_alone e d = as_form 14 e _ (ap (λ ws. one Expr ∷ one Block ∷ ws) (bracket_off w (one Expr) [] d))

  pub params_variadic : w.kind ≡ 31 → w.detail ≡ 1 → Form (one Ident ∷ any Ident ∷ []) xs
  params_variadic e d = as_form 31 e _ (bracket_on w (one Ident) (any Ident ∷ []) d)

  pub params_plain : w.kind ≡ 31 → (w.detail ≡ 1 → ⊥) → Form (any Ident ∷ []) xs
  params_plain e d = as_form 31 e _ (bracket_off w (one Ident) (any Ident ∷ []) d)

  pub item_alias : w.kind ≡ 39 → w.detail ≡ 1 → Form (one Ident ∷ one Ident ∷ []) xs
  item_alias e d = as_form 39 e _ (ap (λ ws. one Ident ∷ ws) (bracket_on w (one Ident) [] d))

  pub item_alone : w.kind ≡ 39 → (w.detail ≡ 1 → ⊥) → Form (one Ident ∷ []) xs
  item_alone e d = as_form 39 e _ (ap (λ ws. one Ident ∷ ws) (bracket_off w (one Ident) [] d))

  -- for these three the equation on the last part comes from `property-..`, `imported-..` below
  pub member_form : w.kind ≡ 12 → (vs : List Want) → property (member w.detail) ≡ vs → Form (one Expr ∷ vs) xs
  member_form e vs q = as_form 12 e _ (ap (λ ws. one Expr ∷ ws) q)

  pub left_form : w.kind ≡ 34 → (vs : List Want) → left_property w.detail ≡ vs → Form (one Ident ∷ vs) xs
  left_form e vs q = as_form 34 e _ (ap (λ ws. one Ident ∷ ws) q)

  pub import_form : w.kind ≡ 22 → (vs : List Want) → imported w.detail ≡ vs → Form (times w.p Ident ∷ vs) xs
  import_form e vs q = as_form 22 e _ (ap (λ ws. times w.p Ident ∷ ws) q)

-- 0 Bracket; 1 Dot, 2 DoubleColon; the others have no property. At a numeral these compute
pub property_none : (m : ℕ) → 3 ≤ m → property m ≡ []
property_none m h =
    ap (λ (b : Bool). cond b (one Expr ∷ []) (cond (eqb m 1 || eqb m 2) (one Ident ∷ []) [])) (ne_eqb m 0 (λ e. omega arith))
    ∙ ap (λ (b : Bool). cond (b || eqb m 2) (one Ident ∷ []) []) (ne_eqb m 1 (λ e. omega arith))
    ∙ ap (λ (b : Bool). cond b (one Ident ∷ []) []) (ne_eqb m 2 (λ e. omega arith))

pub imported_none : (d : ℕ) → (d ≡ 1 → ⊥) → (d ≡ 2 → ⊥) → imported d ≡ []
imported_none d a b =
    ap (λ (t : Bool). cond t (one Ident ∷ []) (cond (eqb d 2) (any Item ∷ []) [])) (ne_eqb d 1 a) ∙ ap (λ (t : Bool). cond t (any Item ∷ []) []) (ne_eqb d 2 b)

-- a last part is the whole of what is left
whole_of : (F : List Words → Type 0) (xs : List Words) → Split F (λ ys. NoMore ys) xs → F xs
whole_of F xs s = go s.back s.those s.whole
  where
    go : (ys : List Words) → NoMore ys → xs ≡ s.front ++ ys → F xs
    go [] n e = subst F (sym (e ∙ append-nil s.front)) s.these
    go (y ∷ ys) n e = absurd n

pub any_last : (c : Class) (xs : List Words) → Form (any c ∷ []) xs → All c xs
any_last c xs s = whole_of (All c) xs s

pub pairs_last : (a b : Class) (xs : List Words) → Form (pairs a b ∷ []) xs → Pairs a b xs
pairs_last a b xs s = whole_of (Pairs a b) xs s

-- places: the first n, and what comes after them (`get_or-drop` of lib.Seq goes on from there)
pub leads_at : (n : ℕ) (c : Class) (B : List Words → Type 0) (xs : List Words) → Leads n c B xs → (d : Words) (j : ℕ) → j < n → Is c (get_or xs j d)
leads_at zero c B xs l d j h = absurd (omega arith)
leads_at (suc n) c B [] l d j h = absurd l
leads_at (suc n) c B (x ∷ xs) (p, l) d zero h = p
leads_at (suc n) c B (x ∷ xs) (p, l) d (suc j) h = leads_at n c B xs l d j (omega arith)

pub leads_after : (n : ℕ) (c : Class) (B : List Words → Type 0) (xs : List Words) → Leads n c B xs → B (drop n xs)
leads_after zero c B xs l = l
leads_after (suc n) c B [] l = absurd l
leads_after (suc n) c B (x ∷ xs) (p, l) = leads_after n c B xs l

pub all_at : (c : Class) (xs : List Words) → All c xs → (d : Words) (j : ℕ) → j < length xs → Is c (get_or xs j d)
all_at c [] a d j h = absurd (omega arith)
all_at c (x ∷ xs) (p, a) d zero h = p
all_at c (x ∷ xs) (p, a) d (suc j) h = all_at c xs a d j (omega arith)

-- and as two lists
pub leads_split : (n : ℕ) (c : Class) (B : List Words → Type 0) (xs : List Words) → Leads n c B xs → Split (λ ys. (length ys ≡ n) × All c ys) B xs
leads_split zero c B xs l = record { front = []; back = xs; whole = refl; these = (refl, tt); those = l }
leads_split (suc n) c B [] l = absurd l
leads_split (suc n) c B (x ∷ xs) (p, l) =
    let s = leads_split n c B xs l in
    record { front = x ∷ s.front; back = s.back; whole = ap (λ l. x ∷ l) s.whole; these = (ap suc s.these.0, (p, s.these.1)); those = s.those }

-- widths: counted parts alone
abbrev pub Exact : List Want → Type 0
Exact [] = Unit {0}
Exact (times n c ∷ ws) = Exact ws
Exact (any c ∷ ws) = ⊥
Exact (maybe c ∷ ws) = ⊥
Exact (pairs a b ∷ ws) = ⊥

abbrev pub total : List Want → ℕ
total [] = 0
total (times n c ∷ ws) = n + total ws
total (any c ∷ ws) = total ws
total (maybe c ∷ ws) = total ws
total (pairs a b ∷ ws) = total ws

leads_width : (n : ℕ) (c : Class) (B : List Words → Type 0) (k : ℕ) → ((ys : List Words) → B ys → length ys ≡ k)
    → (xs : List Words) → Leads n c B xs → length xs ≡ n + k
leads_width zero c B k f xs l = f xs l ∙ (omega arith)
leads_width (suc n) c B k f [] l = absurd l
leads_width (suc n) c B k f (x ∷ xs) (p, l) = let h = leads_width n c B k f xs l in omega arith

none_width : (xs : List Words) → NoMore xs → length xs ≡ 0
none_width [] e = refl
none_width (x ∷ xs) e = absurd e

pub exact_width : (ws : List Want) → Exact ws → (xs : List Words) → Form ws xs → length xs ≡ total ws
exact_width [] e xs f = none_width xs f
exact_width (times n c ∷ ws) e xs f = leads_width n c (Form ws) (total ws) (λ ys g. exact_width ws e ys g) xs f
exact_width (any c ∷ ws) e xs f = absurd e
exact_width (maybe c ∷ ws) e xs f = absurd e
exact_width (pairs a b ∷ ws) e xs f = absurd e

module _ (w : Words) (xs : List Words) (s : suits w xs ≡ true) where
  pub for_width : w.kind ≡ 18 → length xs ≡ w.p + 2
  for_width e = exact_width (expected_as 18 w) tt xs (for_form w xs s e)

  pub case_width : w.kind ≡ 33 → length xs ≡ w.p + 1
  case_width e = exact_width (expected_as 33 w) tt xs (case_form w xs s e)

  pub unpack_width : w.kind ≡ 26 → length xs ≡ w.p + 1
  unpack_width e = exact_width (expected_as 26 w) tt xs (unpack_form w xs s e)

  pub match_cases : w.kind ≡ 15 → All Case (drop 1 xs)
  match_cases e = any_last Case _ (leads_after 1 Expr _ xs (match_form w xs s e))

  -- the exprs on the right are what the p Lefts leave
  pub multi_rights : w.kind ≡ 27 → All Expr (drop w.p xs)
  multi_rights e = any_last Expr _ (leads_after w.p Left _ xs (multi_form w xs s e))

  pub params_idents : w.kind ≡ 31 → All Ident xs
  params_idents e = go (eqb w.detail 1) refl
    where
      joined : (ys : List Words) → Form (one Ident ∷ any Ident ∷ []) ys → All Ident ys
      joined [] f = absurd f
      joined (y ∷ ys) (p, f) = (p, any_last Ident ys f)

      go : (b : Bool) → eqb w.detail 1 ≡ b → All Ident xs
      go true q = joined xs (params_variadic w xs s e (eqb-true _ 1 q))
      go false q = any_last Ident xs (params_plain w xs s e (eqb-false _ 1 q))

-- the words of a forest are as many as its siblings, and its own tree has the same
pub words_width : (f : Forest) → length (words_of f) ≡ breadth f
words_width none = refl
words_width (tree r w k s) = ap suc (words_width s)

pub own_words : (f : Forest) → node_words (own_tree f) ≡ words_of f
own_words none = refl
own_words (tree r w k s) = ap (λ ws. w ∷ ws) (own_words s)

-- a table that keeps row 6
and_left : (a b : Bool) → a && b ≡ true → a ≡ true
and_left true b e = refl
and_left false b e = e

and_right : (a b : Bool) → a && b ≡ true → b ≡ true
and_right true b e = e
and_right false b e = clash e

module _ (recs : List ℕ) (kept : broken (wrong_children recs) (size recs) ≡ None) where
  right : (r : ℕ) → r < size recs → right_children recs r ≡ true
  right r h = not-false _ (holds (wrong_children recs) (size recs) kept r h)

  pub suited : (r : ℕ) → r < size recs → suits (words recs r) (words_of (children recs r)) ≡ true
  unfolding right_children
  suited r h = and_left _ _ (right r h)

  is_rooted : 0 < size recs → rooted recs ≡ true
  unfolding right_children
  is_rooted h = and_right (suits (words recs 0) (words_of (children recs 0))) _ (right 0 h)

  -- record 0 is a Function, and has no sibling
  pub root_function : 0 < size recs → word recs 0 0 ≡ 30
  root_function h = eqb-true (word recs 0 0) 30 (and_left _ _ (is_rooted h))

  pub root_alone : 0 < size recs → word recs 0 7 ≡ 0
  root_alone h = eqb-true (word recs 0 7) 0 (and_right (eqb (word recs 0 0) 30) _ (is_rooted h))
