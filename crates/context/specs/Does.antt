-- Visits by record numbers, and the forms of the visitors' contracts. Definitions only.
use Rattle.std.specs.Prelude.{cond, List, [], ◌∷◌, ℕ, zero, suc, get_or}
use Rattle.tables.specs.Record.{Words, words, is_function}
use Rattle.tables.specs.Forest.{first, next, forest, children, Nodes, own_tree}
use Rattle.pool.specs.Names.{Access}
use Rattle.pool.specs.Notes.{load_noted, store_noted}
use Rattle.rules.specs.declared.StackCode.{StackCode}
use Rattle.rules.specs.Marker.{Pop, Do, mark}
use Rattle.rules.specs.Step.{Role, Expr, Use, Get, Set, ChildPath, Step}
use Rattle.rules.specs.Run.{State, Spot, here, nowhere, number_of, Lookup, emit, kept, exec, stream, Visit, absent, visits_of}
use Rattle.context.specs.Rep.{Walk, mode, Lent, lent, Sim}
use Rattle.context.specs.declared.Context.{Context}
use Rattle.context.specs.declared.tree.Tree.{Tree}

-- the j-th sibling of the record c, which is its 0-th
abbrev pub nth : List ℕ → ℕ → ℕ → ℕ
nth recs zero c = c
nth recs (suc j) c = nth recs j (next recs c)

-- the child j of the record l, 0 for absent; an absent record has none, and a Function's are no part of the tree around it
abbrev pub child : List ℕ → ℕ → ℕ → ℕ
child recs zero j = 0
child recs (suc l) j = cond (is_function (words recs (suc l))) 0 (nth recs j (first recs (suc l)))

-- the record at a path below the record l
abbrev pub reach : List ℕ → ℕ → ChildPath → ℕ
reach recs l [] = l
reach recs l (j ∷ js) = reach recs (child recs l j) js

abbrev pub spot : List ℕ → ℕ → Spot
spot recs zero = nowhere
spot recs (suc r) = here (suc r) (words recs (suc r))

-- an Ident is looked up in the notes, by its number alone
abbrev pub access_noted : List ℕ → Use → ℕ → Access
access_noted ns Get i = load_noted ns i
access_noted ns Set i = store_noted ns i

abbrev pub noted_look : List ℕ → Lookup
noted_look ns fn u x = access_noted ns u (number_of x)

module _ (e : Lent) (c : Walk) where
  -- the visit of the record l; an absent one does nothing
  unfoldable pub visit_at : ℕ → Visit
  visit_at l = get_or (visits_of (noted_look e.notes) (mode c) (forest e.records l)) 0 absent

  -- the visit of the record l in a role, in the walk's own function
  abbrev pub visit_in : Role → ℕ → State → State
  visit_in a l = visit_at l a (words e.records c.function)

  -- the stream of the Function at record r
  unfoldable pub own_stream : ℕ → State → State
  own_stream r =
      stream (noted_look e.notes) (mode c) r (words e.records r) (children e.records r)
      (visits_of (noted_look e.notes) (mode c) (children e.records r))

  -- the child j of record r
  abbrev pub near : ℕ → Role → ℕ → State → State
  near r a j = visit_in a (nth e.records j (first e.records r))

  -- steps of record r with the labels env taken before
  unfoldable pub doing : ℕ → List Step → List ℕ → State → State
  doing r is env =
      exec (noted_look e.notes) (mode c) (words e.records c.function) r (words e.records r) (children e.records r) (near r) (own_stream r) is env

  unfoldable pub does : ℕ → List Step → State → State
  does r is = doing r is []

  -- n siblings from the record l on, each visited in a role
  abbrev pub through : Role → ℕ → ℕ → State → State
  through a zero l A = A
  through a (suc n) l A = through a n (next e.records l) (visit_in a l A)

  -- a block's expressions from the record l on, of which n follow it: a Pop between two
  abbrev pub items : ℕ → ℕ → ℕ → State → State
  items r zero l A = kept (visit_in Expr l) A
  items r (suc n) l A = items r n (next e.records l) (emit (mark r (Do Pop 0)) (kept (visit_in Expr l) A))

-- a visitor of record r: the state goes by a list of steps, worked out from the record's words and its own tree
abbrev pub Arm : Tree → Context → Context → ℕ → (StackCode → Words → Nodes → List Step) → Type 0
Arm t x x' r steps = Sim (lent t) x x' (λ c. does (lent t) c r (steps c.code (words t.records.now r) (own_tree (children t.records.now r))))

-- a visitor of the record r in a role
abbrev pub Visits : Tree → Context → Context → Role → ℕ → Type 0
Visits t x x' a r = Sim (lent t) x x' (λ c. visit_in (lent t) c a r)
