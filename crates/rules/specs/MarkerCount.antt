-- The markers of an uncut run, counted from the tree alone: one for each step that writes one, and the children's. Definitions only.
use Rattle.std.specs.Prelude.{List, [], ◌∷◌, ℕ, ◌+◌, get_or}
use Rattle.tables.specs.Record.{Words}
use Rattle.tables.specs.Forest.{Nodes, bare, node}
use Rattle.rules.specs.declared.StackCode.{StackCode}
use Rattle.rules.specs.Step.{Role, Step, push_op, push_const, get_label, place, jump, jump_back, visit, begin_loop, end_loop, exit, check_return, access, refuse, inner}
use Rattle.rules.specs.Arms.{stream_steps}
use Rattle.rules.specs.Kinds.{steps}

-- ks: the children's markers, by role and number
module _ (ks : Role → ℕ → ℕ) where
  abbrev pub step_markers : Step → ℕ
  step_markers (push_op c x) = 1
  step_markers (push_const c p v) = 1
  step_markers get_label = 0
  step_markers (place i) = 1
  step_markers (jump h i) = 1
  step_markers (jump_back i) = 1
  step_markers (visit y a j) = ks a j
  step_markers (begin_loop i j) = 0
  step_markers end_loop = 0
  step_markers (exit x) = 1
  step_markers check_return = 0
  step_markers (access u p) = 1
  step_markers (refuse x) = 0
  step_markers inner = 0

  unfoldable pub list_markers : List Step → ℕ
  list_markers [] = 0
  list_markers (x ∷ is) = step_markers x + list_markers is

abbrev pub no_markers : Role → ℕ
no_markers a = 0

abbrev pub child_markers : List (Role → ℕ) → Role → ℕ → ℕ
child_markers vs a j = get_or vs j no_markers a

-- each node's markers in each role; "Nested functions count for themselves": a Function's own tree is not inside
abbrev pub markers_in : StackCode → Nodes → List (Role → ℕ)
markers_in sc bare = []
markers_in sc (node w k s) = (λ a. list_markers (child_markers (markers_in sc k)) (steps sc a w k)) ∷ markers_in sc s

-- a function's stream
unfoldable pub markers_counted : StackCode → Words → Nodes → ℕ
markers_counted sc w k = list_markers (child_markers (markers_in sc k)) (stream_steps w)
