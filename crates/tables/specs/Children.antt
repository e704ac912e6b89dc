-- Row 6 of 'Refused by place': "children not those of its kind; record 0 no Function or with `next`". Each kind's children as section 'Records' lists
-- them. Definitions only.
use Rattle.std.specs.Prelude.{◌≡◌, Bool, true, false, not, cond, ◌&&◌, ◌||◌, List, [], ◌∷◌, ℕ, zero, suc, ◌-◌, drop, leb, eqb, Option, None, Some}
use Rattle.tables.specs.declared.children.Class.{Class}
use Rattle.tables.specs.declared.children.Class.TheVariants.{Expr, Pattern, Lit, Ident, Block, Function, Params, Handler, Case, Left, Item}
use Rattle.tables.specs.Record.{Words, words, word, is_function}
use Rattle.tables.specs.Forest.{Forest, none, tree, Nodes, bare, node, forest, children}
use Rattle.tables.specs.Details.{Row, row, of_kind}

-- "An expr is 1 to 27, a pattern 35 to 38"; a class named after a kind has that kind only (readings 1 and 6)
abbrev pub belongs : Class → ℕ → Bool
belongs Expr k = leb 1 k && leb k 27
belongs Pattern k = leb 35 k && leb k 38
belongs Lit k = eqb k 1
belongs Ident k = eqb k 2
belongs Block k = eqb k 4
belongs Function k = eqb k 30
belongs Params k = eqb k 31
belongs Handler k = eqb k 32
belongs Case k = eqb k 33
belongs Left k = eqb k 34
belongs Item k = eqb k 39

-- what may stand next among a record's children: so many of a class, as many as there are, one or none, as many pairs as there are
pub data Want : Type 0 where
  times : ℕ → Class → Want
  any : Class → Want
  maybe : Class → Want
  pairs : Class → Class → Want

abbrev pub one : Class → Want
one c = times 1 c

-- a member's property: "[Bracket's expr or Dot's and DoubleColon's Ident]", of the members 0 Bracket, 1 Dot, 2 DoubleColon and 3 to 5
abbrev pub property : ℕ → List Want
property m = cond (eqb m 0) (one Expr ∷ []) (cond (eqb m 1 || eqb m 2) (one Ident ∷ []) [])

-- "member, +8 if safe"
abbrev pub member : ℕ → ℕ
member d = cond (leb 8 d) (d - 8) d

-- "0, or 1 + member"
abbrev pub left_property : ℕ → List Want
left_property d = cond (eqb d 0) [] (property (d - 1))

-- what follows the path: "0 Simple, 1 Simple with alias Ident, 2 Items, 3 Glob"
abbrev pub imported : ℕ → List Want
imported d = cond (eqb d 1) (one Ident ∷ []) (cond (eqb d 2) (any Item ∷ []) [])

-- "Brackets: present by detail": [1: x] and then the others
abbrev pub bracket : Words → Want → List Want → List Want
bracket w x xs = cond (eqb w.detail 1) (x ∷ xs) xs

abbrev pub values : Words → List (Row (List Want))
values w =
    row 3 (one Expr ∷ [])  -- Paren: expr
    ∷ row 4 (any Expr ∷ [])  -- Block: exprs
    ∷ row 5 (bracket w (one Ident) (one Function ∷ []))  -- Fn: [1: Ident] Function
    ∷ row 6 (one Ident ∷ one Params ∷ [])  -- Effect: Ident, Params
    ∷ row 7 (pairs Expr Expr ∷ [])  -- Table: key, value, ..
    ∷ row 8 (any Expr ∷ [])  -- List: exprs
    ∷ row 9 (one Expr ∷ [])  -- Unary: expr
    ∷ row 10 (one Expr ∷ one Expr ∷ [])  -- Binary: left, right
    ∷ row 11 (one Expr ∷ [])  -- TypeCheck: expr
    ∷ row 12 (one Expr ∷ property (member w.detail))  -- Member: table, [property]
    ∷ []

abbrev pub controls : Words → List (Row (List Want))
controls w =
    row 13 (one Expr ∷ any Expr ∷ maybe Function ∷ any Handler ∷ [])  -- Call: callee, arguments, at most one Function, Handlers
    ∷ row 14 (one Expr ∷ one Block ∷ bracket w (one Expr) [])  -- If: test, Block, [1: expr]
    ∷ row 15 (one Expr ∷ any Case ∷ [])  -- Match: expr, Cases
    ∷ row 16 (one Block ∷ [])  -- Loop: Block
    ∷ row 17 (one Expr ∷ one Block ∷ [])  -- While: test, Block
    ∷ row 18 (times w.p Ident ∷ one Expr ∷ one Block ∷ [])  -- For: p Idents, right, Block
    ∷ row 21 (one Expr ∷ [])  -- Return: expr
    ∷ []

abbrev pub stores : Words → List (Row (List Want))
stores w =
    row 22 (times w.p Ident ∷ imported w.detail)  -- Import: p path Idents, then by detail
    ∷ row 23 (one Ident ∷ one Expr ∷ [])  -- GloAssign: Ident, expr
    ∷ row 24 (one Left ∷ one Expr ∷ [])  -- Assign: Left, expr
    ∷ row 25 (one Left ∷ one Expr ∷ [])  -- AssignOp: Left, expr
    ∷ row 26 (times w.p Left ∷ one Expr ∷ [])  -- AssignUnpack: p Lefts, expr
    ∷ row 27 (times w.p Left ∷ any Expr ∷ [])  -- AssignMulti: p Lefts, exprs
    ∷ []

abbrev pub parts : Words → List (Row (List Want))
parts w =
    row 30 (one Params ∷ one Block ∷ [])  -- Function: Params, Block
    ∷ row 31 (bracket w (one Ident) (any Ident ∷ []))  -- Params: Idents [1: last, needed, is variadic]
    ∷ row 32 (one Ident ∷ one Params ∷ one Block ∷ [])  -- Handler: Ident, Params, Block
    ∷ row 33 (times w.p Pattern ∷ one Expr ∷ [])  -- Case: p patterns, expr
    ∷ row 34 (one Ident ∷ left_property w.detail)  -- Left: 0, or 1 + member: Ident, [property]
    ∷ row 37 (pairs Lit Pattern ∷ [])  -- Table pattern: Lit, pattern, ..
    ∷ row 38 (any Pattern ∷ [])  -- List pattern: patterns
    ∷ row 39 (one Ident ∷ bracket w (one Ident) [])  -- Item: Ident [1: alias]
    ∷ []

-- the four lists in a row; every other kind is a leaf without children (reading 2) or unknown
abbrev pub expected_part : Words → List Want
expected_part w = of_kind w.kind (parts w) []

abbrev pub expected_store : Words → List Want
expected_store w = of_kind w.kind (stores w) (expected_part w)

abbrev pub expected_control : Words → List Want
expected_control w = of_kind w.kind (controls w) (expected_store w)

abbrev pub expected : Words → List Want
expected w = of_kind w.kind (values w) (expected_control w)

-- the first is there and of the class
abbrev pub heads : Class → List Words → Bool
heads c [] = false
heads c (x ∷ xs) = belongs c x.kind

-- the first n are there and of the class
abbrev pub leads : ℕ → Class → List Words → Bool
leads zero c xs = true
leads (suc n) c [] = false
leads (suc n) c (x ∷ xs) = belongs c x.kind && leads n c xs

-- without the first ones that are of the class; without the first if it is; without the first pairs
abbrev pub past : Class → List Words → List Words
past c [] = []
past c (x ∷ xs) = cond (belongs c x.kind) (past c xs) (x ∷ xs)

abbrev pub past_one : Class → List Words → List Words
past_one c [] = []
past_one c (x ∷ xs) = cond (belongs c x.kind) xs (x ∷ xs)

abbrev pub past_pairs : Class → Class → List Words → List Words
past_pairs a b [] = []
past_pairs a b (x ∷ []) = x ∷ []
past_pairs a b (x ∷ y ∷ xs) = cond (belongs a x.kind && belongs b y.kind) (past_pairs a b xs) (x ∷ y ∷ xs)

-- the children are what is wanted, in order, and no more. Each part takes all it can, which loses nothing: what may follow an `any` or a `maybe`
-- above is of classes that share no kind with it, `pairs` stands last, and `times` is counted
unfoldable pub fits : List Want → List Words → Bool
fits [] [] = true
fits [] (x ∷ xs) = false
fits (times n c ∷ ws) xs = leads n c xs && fits ws (drop n xs)
fits (any c ∷ ws) xs = fits ws (past c xs)
fits (maybe c ∷ ws) xs = fits ws (past_one c xs)
fits (pairs a b ∷ ws) xs = fits ws (past_pairs a b xs)

-- a record with words w may have children with the words xs
abbrev pub suits : Words → List Words → Bool
suits w xs = fits (expected w) xs

-- the words of the records in sibling order, in a forest and in a function's own tree
abbrev pub words_of : Forest → List Words
words_of none = []
words_of (tree r w k s) = w ∷ words_of s

abbrev pub node_words : Nodes → List Words
node_words bare = []
node_words (node w k s) = w ∷ node_words s

-- the words of record c and its later siblings
abbrev pub from : List ℕ → ℕ → List Words
from recs c = words_of (forest recs c)

-- the children from d on are what is wanted; without a d, those before it were not
abbrev pub fits_on : List ℕ → List Want → Option ℕ → Bool
fits_on recs ws None = false
fits_on recs ws (Some d) = fits ws (from recs d)

-- the children from c on begin with what is wanted, and those from d on are left; no d where they don't begin so
pub record Serves (recs : List ℕ) (w : Want) (c : ℕ) (d : Option ℕ) : Type 0 where
  pub serves : (ws : List Want) → fits (w ∷ ws) (from recs c) ≡ fits_on recs ws d

-- the same for [1: x]
pub record Bracketed (recs : List ℕ) (r : ℕ) (x : Want) (c : ℕ) (d : Option ℕ) : Type 0 where
  pub serves : (ws : List Want) → fits (bracket (words recs r) x ws) (from recs c) ≡ fits_on recs ws d

-- record 0 is a Function and has no `next`
abbrev pub rooted : List ℕ → Bool
rooted recs = is_function (words recs 0) && eqb (word recs 0 7) 0

unfoldable pub right_children : List ℕ → ℕ → Bool
right_children recs r = suits (words recs r) (words_of (children recs r)) && cond (eqb r 0) (rooted recs) true

abbrev pub wrong_children : List ℕ → ℕ → Bool
wrong_children recs r = not (right_children recs r)
