-- The records read as trees, once and for all. Document 01: "`first` is the first child, `next` the next sibling, 0 for absent, else greater than
-- the record's own number." Definitions only.
use Rattle.std.specs.Prelude.{cond, ◌&&◌, List, [], ◌∷◌, ℕ, zero, suc, ◌+◌, max, ltb}
use Rattle.tables.specs.Record.{Words, word, words, size, is_function}

-- records in sibling order: a record's number, its words, its children, its later siblings
pub data Forest : Type 0 where
  none : Forest
  tree : ℕ → Words → Forest → Forest → Forest

-- a link counts only if it goes forward and stays inside the table; else it is 0, absent
unfoldable pub guarded : ℕ → ℕ → ℕ → ℕ
guarded r n l = cond (ltb r l && ltb l n) l 0

abbrev pub link : List ℕ → ℕ → ℕ → ℕ
link recs r i = guarded r (size recs) (word recs r i)

-- the first child of record r
unfoldable pub first : List ℕ → ℕ → ℕ
first recs r = link recs r 6

-- the next sibling of record r; record 0 stands for an absent one and has none
unfoldable pub next : List ℕ → ℕ → ℕ
next recs zero = 0
next recs (suc r) = link recs (suc r) 7

-- the records from link l on; links go forward, so as many steps as records are enough
unfoldable pub grow : List ℕ → ℕ → ℕ → Forest
grow recs zero l = none
grow recs (suc n) zero = none
grow recs (suc n) (suc r) = tree (suc r) (words recs (suc r)) (grow recs n (first recs (suc r))) (grow recs n (next recs (suc r)))

unfoldable pub forest : List ℕ → ℕ → Forest
forest recs l = grow recs (suc (size recs)) l

-- the children of a record, record 0 too
abbrev pub children : List ℕ → ℕ → Forest
children recs r = forest recs (first recs r)

-- the whole tree, from record 0
abbrev pub root : List ℕ → Forest
root recs = tree 0 (words recs 0) (children recs 0) none

-- how many records, their children and siblings included
abbrev pub count : Forest → ℕ
count none = 0
count (tree r w k s) = suc (count k + count s)

-- how many siblings
abbrev pub breadth : Forest → ℕ
breadth none = 0
breadth (tree r w k s) = suc (breadth s)

-- levels of nesting
abbrev pub levels : Forest → ℕ
levels none = 0
levels (tree r w k s) = max (suc (levels k)) (levels s)

-- each record of a forest as a value of an algebra, which is given the record's number, words and children, and the children's values
abbrev pub fold : {A : Type 0} → (ℕ → Words → Forest → List A → A) → Forest → List A
fold alg none = []
fold alg (tree r w k s) = alg r w k (fold alg k) ∷ fold alg s

abbrev pub fold1 : {A : Type 0} → (ℕ → Words → Forest → List A → A) → ℕ → Words → Forest → A
fold1 alg r w k = alg r w k (fold alg k)

-- a forest without record numbers and without what is inside a Function: a function's own tree
pub data Nodes : Type 0 where
  bare : Nodes
  node : Words → Nodes → Nodes → Nodes

abbrev pub own_tree : Forest → Nodes
own_tree none = bare
own_tree (tree r w k s) = node w (cond (is_function w) bare (own_tree k)) (own_tree s)
