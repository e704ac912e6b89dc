-- The forms of the visitors' contracts, of what a visitor is lent as it is before and after. Definitions only.
use Rattle.std.specs.Prelude.{◌≡◌, List, ℕ}
use Rattle.std.specs.Borrow.{Bor, MutBor}
use denote.Triple.Both.{Both}
use Rattle.tables.specs.Record.{Words, word, words}
use Rattle.tables.specs.Forest.{children, Nodes, own_tree}
use Rattle.rules.specs.declared.StackCode.{StackCode}
use Rattle.rules.specs.Step.{Role, Step}
use Rattle.rules.specs.Arms.{handler_steps}
use Rattle.rules.specs.Run.{State, nested}
use Rattle.context.specs.Words.{cap}
use Rattle.context.specs.Rep.{Walk, within, Lent, lent, SameSizes, Sim}
use Rattle.context.specs.declared.Context.{Context}
use Rattle.context.specs.declared.tree.Tree.{Tree}
use Rattle.context.specs.Does.{visit_in, own_stream, does}
use Rattle.visit.specs.Runs.{bodied_all}

-- the tree, lent to read, and the context, lent to write, at entry and at exit
module _ (tree : Both (Bor Tree) (Bor Tree)) (cx : Both (MutBor Context) (MutBor Context)) where
  abbrev tables : Lent
  tables = lent tree.entry.now

  -- the state goes by f
  abbrev pub Goes : (Lent → Walk → State → State) → Type 0
  Goes f = Sim tables cx.entry.now cx.exit.now (f tables)

  -- by the steps of record r, worked out from its words and its own tree
  abbrev pub Follows : ℕ → (StackCode → Words → Nodes → List Step) → Type 0
  Follows r steps = Goes (λ e c. does e c r (steps c.code (words e.records r) (own_tree (children e.records r))))

  -- by the visit of record r in a role
  abbrev pub Visits : Role → ℕ → Type 0
  Visits a r = Goes (λ e c. visit_in e c a r)

  -- by the stream of the Function at record r inside another, where the functions inside are walked
  abbrev pub Nests : ℕ → Type 0
  Nests r = Goes (λ e c. nested c.nest r (words e.records r) (own_stream e (within r c) r))

  -- by the bodies from record l on, of whatever Call or Match, behind labels from the word k on, with jumps to the label of the word m; whatever
  -- these are, the two slices keep their lengths
  pub record Bodies (l k m : ℕ) : Type 0 where
    pub bodies : (r base end : ℕ) → k ≡ cap base → m ≡ cap end → Goes (λ e c. bodied_all e c r base end l)
    pub sizes : SameSizes cx.entry.now cx.exit.now

  -- by a Handler's steps; the number of a record that has a kind is a word; of whatever record, the two slices keep their lengths
  pub record Catches (h : ℕ) : Type 0 where
    pub catches : word tables.records h 0 ≡ 32 → Follows h (λ sc. handler_steps)
    pub sizes : SameSizes cx.entry.now cx.exit.now
