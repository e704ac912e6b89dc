-- What the tests of a Match's Cases do to a state, by record numbers and with labels by number: the runs of the steps of rules' Patterns, name by name.
-- Definitions only.
use Rattle.std.specs.Prelude.{cond, List, [], ◌∷◌, ℕ, zero, suc, ◌+◌, ◌-◌, ltb, eqb}
use Rattle.tables.specs.Record.{Words, is_kind, is_function}
use Rattle.tables.specs.Forest.{Forest, none, tree, own_tree}
use Rattle.pool.specs.Value.{Value, lit, int}
use Rattle.pool.specs.Notes.{store_noted}
use Rattle.rules.specs.Marker.{Jump, PopJumpIfFalse, JumpPopIfNull, LoadConst, Pop, Copy, Eq, TypeCheck, GetLen, Label, To, Load, Do, mark}
use Rattle.rules.specs.Step.{Set}
use Rattle.rules.specs.Patterns.{Part, item, key, value, parts, next_part, is_pattern_part, is_nested, grown, labels_after, pattern_size}
use Rattle.rules.specs.Run.{State, labels, emit, bump, sought}
use Rattle.plain.specs.Runs.{item_run}

-- the value of a Lit pattern or key: "35 Lit, 36 Ident, worded as 1 and 2"
abbrev pub lit_of : Words → Value
lit_of w = lit w.detail w.p w.q

-- the children in a function's own tree: "Nested functions count for themselves"
abbrev pub own : Words → Forest → Forest
own w k = cond (is_function w) none k

-- the clean-up labels after a pattern at depth d, of h taken before it: "for each pattern 1 + the most Table and List patterns on one path down it"
abbrev pub labels_visited : ℕ → ℕ → Words → Forest → ℕ
labels_visited d h w k = cond (is_nested w) (labels_after (parts w) (suc d) (grown d h) (own_tree k)) h

-- the same of the first of some records
abbrev pub first_labels : ℕ → ℕ → Forest → ℕ
first_labels d h none = h
first_labels d h (tree q w k s) = labels_visited d h w k

-- get_or_push_pattern_clean_stack_label at depth d + 1, of h labels taken
abbrev pub grown_run : ℕ → ℕ → State → State
grown_run d h A = cond (ltb (suc d) h) A (bump A)

-- the Match's record is r, and all that names no constant is its own; a constant is brought by the record that the steps name
module _ (r : ℕ) where
  -- before the child i of the pattern q, which is the record l
  abbrev pub lead_run : Part → ℕ → ℕ → ℕ → Words → State → State
  lead_run item q i l w A = item_run r q (int i) A
  lead_run key q i l w A = item_run r l (lit_of w) A
  lead_run value q i l w A = A

  -- a copy is a table; its length is n; where the test fails the label is y
  abbrev pub type_run : ℕ → State → State
  type_run y A = emit (mark r (To PopJumpIfFalse y)) (emit (mark r (Do TypeCheck 6)) (emit (mark r (Do Copy 1)) A))

  abbrev pub length_run : ℕ → ℕ → ℕ → State → State
  length_run y q n A =
      emit (mark r (To PopJumpIfFalse y)) (emit (mark r (Do Eq 0)) (emit (mark q (Load LoadConst (int n)))
      (emit (mark r (Do GetLen 0)) (emit (mark r (Do Copy 1)) A))))

  abbrev pub table_run : ℕ → ℕ → Words → ℕ → State → State
  table_run y q w n A = cond (eqb w.detail 1) (type_run y A) (length_run y q n (type_run y A))

  -- PatternKind::Lit
  abbrev pub lit_run : ℕ → ℕ → Words → State → State
  lit_run y q w A = emit (mark r (To PopJumpIfFalse y)) (emit (mark r (Do Eq 0)) (emit (mark q (Load LoadConst (lit_of w))) A))

  -- the clean-up labels, n behind the first, from the last on, with a Pop between two
  unfoldable pub cleanup_run : ℕ → ℕ → State → State
  cleanup_run x zero A = emit (mark r (Label x)) A
  cleanup_run x (suc n) A = cleanup_run x n (emit (mark r (Do Pop 0)) (emit (mark r (Label (x + suc n))) A))

module _ (notes : List ℕ) (r : ℕ) where
  -- PatternKind::Ident
  abbrev pub ident_run : ℕ → ℕ → State → State
  ident_run y q A = sought r Set q (store_noted notes q) (emit (mark r (To JumpPopIfNull y)) A)

  -- the pattern q at depth d; its labels are x, x + 1, .., h of them taken; `inside` is its children's run
  unfoldable pub pattern_run : ℕ → ℕ → ℕ → ℕ → Words → Forest → (State → State) → State → State
  pattern_run x d h q w k inside A =
      cond (is_nested w) (emit (mark r (Do Pop 0)) (inside (table_run r (x + suc d) q w (pattern_size w (own_tree k)) (grown_run d h A))))
      (cond (is_kind 36 w) (ident_run (x + d) q A) (lit_run r (x + d) q w A))

  -- the children of the pattern q from the i-th on, at depth d
  unfoldable pub inside_run : Part → ℕ → ℕ → ℕ → ℕ → ℕ → Forest → State → State
  inside_run part x d h q i none A = A
  inside_run part x d h q i (tree l w k s) A =
      let here = pattern_run x d h l w k (inside_run (parts w) x (suc d) (grown d h) l 0 k) in
      let B = lead_run r part q i l w A in
      inside_run (next_part part) x d (cond (is_pattern_part part) (labels_visited d h w k) h) q (suc i) s (cond (is_pattern_part part) (here B) B)

  -- the first of some records, as a pattern
  abbrev pub first_run : ℕ → ℕ → ℕ → Forest → State → State
  first_run x d h none A = A
  first_run x d h (tree q w k s) A = pattern_run x d h q w k (inside_run (parts w) x (suc d) (grown d h) q 0 k) A

  -- the pattern q of a Case whose block has the label y; its own labels are those that are taken next
  unfoldable pub test_run : ℕ → ℕ → Words → Forest → State → State
  test_run y q w k A =
      cleanup_run r (labels A) (labels_visited 0 1 w k - 1)
      (emit (mark r (To Jump y)) (emit (mark r (Do Pop 0)) (first_run (labels A) 0 1 (tree q w k none) (emit (mark r (Do Copy 1)) (bump A)))))

  -- "33 Case: p patterns, expr": the first n of a Case's children
  unfoldable pub case_run : ℕ → ℕ → Forest → State → State
  case_run y n none A = A
  case_run y zero (tree q w k s) A = A
  case_run y (suc n) (tree q w k s) A = case_run y n s (test_run y q w k A)

  -- "15 Match: expr, Cases": Cases whose blocks have the labels y, y + 1, ..
  unfoldable pub cases_run : ℕ → Forest → State → State
  cases_run y none A = A
  cases_run y (tree q w k s) A = cases_run (suc y) s (case_run y w.p (own w k) A)

-- label numbers one behind the other
abbrev pub in_row : ℕ → ℕ → List ℕ
in_row base zero = []
in_row base (suc n) = base ∷ in_row (suc base) n
