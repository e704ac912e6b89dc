-- The forms of leaves' contracts. A label is a word for whatever number it stands for. Definitions only.
use Rattle.std.specs.Prelude.{◌≡◌, List, ℕ}
use Rattle.tables.specs.Record.{Words, word, words}
use Rattle.tables.specs.Forest.{forest, Nodes, own_tree, children}
use Rattle.pool.specs.Value.{Value}
use Rattle.rules.specs.Step.{Step, width}
use Rattle.rules.specs.Run.{State}
use Rattle.context.specs.Words.{cap}
use Rattle.context.specs.Rep.{Lent, lent_words, SameSizes, Moves, Sim}
use Rattle.context.specs.Does.{does}
use Rattle.context.specs.declared.Context.{Context}
use Rattle.plain.specs.Runs.{safe_run, item_run, registering}

-- a leaf of record r that names nothing: whatever the notes
abbrev pub Leaf : List ℕ → Context → Context → ℕ → (Words → Nodes → List Step) → Type 0
Leaf recs x x' r steps = (notes : List ℕ) → Sim (lent_words recs notes) x x' (λ c. does (lent_words recs notes) c r (steps (words recs r) (own_tree (children recs r))))

-- a leaf of whatever record that names two labels
pub record WithLabels (recs : List ℕ) (w w' : Context) (l m : ℕ) (f : ℕ → ℕ → ℕ → State → State) : Type 0 where
  pub moves : (r a b : ℕ) → l ≡ cap a → m ≡ cap b → Moves recs w w' (λ c. f r a b)
  pub sizes : SameSizes w w'

-- a safe Member's jump
pub record JumpsSafe (recs : List ℕ) (w w' : Context) (r l : ℕ) : Type 0 where
  pub moves : (a : ℕ) → l ≡ cap a → Moves recs w w' (λ c. safe_run (word recs r 1) r a)
  pub sizes : SameSizes w w'

-- an item of the value on the stack, at record r, its constant brought by record q
pub record GetsItem (recs : List ℕ) (w w' : Context) (v : Value) : Type 0 where
  pub moves : (r q : ℕ) → Moves recs w w' (λ c. item_run r q v)

-- the Handlers from the record h on, registered at record r with labels from l on
pub record Registers (e : Lent) (w w' : Context) (h l : ℕ) : Type 0 where
  pub label : l ≡ w.label_count
  pub moves : (r : ℕ) → Moves e.records w w' (λ c. registering e r (width (own_tree (forest e.records h))) h)
