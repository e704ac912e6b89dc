-- Labels counted from the tree alone. Document 01: "Labels counted: And, Or, Member, Return 1; If, Loop, While 2; For 3; Call 1 + Handlers if it has any;
-- Match 1 + cases + for each pattern 1 + the most Table and List patterns on one path down it. Nested functions count for themselves." Document 02, job 11:
-- "Label counts .. are given for both" codes. Definitions only.
use Rattle.std.specs.Prelude.{cond, ◌||◌, [], ◌∷◌, ℕ, zero, suc, ◌+◌, max, eqb}
use Rattle.tables.specs.Record.{Words, is_kind, is_pattern}
use Rattle.tables.specs.Forest.{Nodes, bare, node}
use Rattle.tables.specs.Details.{of_kind, row}
use Rattle.rules.specs.declared.StackCode.{StackCode}
use Rattle.rules.specs.declared.StackCode.TheVariants.{Code1, Code2}
use Rattle.rules.specs.Arms.{is_short_form, unlabelled}
use Rattle.rules.specs.Patterns.{is_nested}

-- how many of some nodes are Handlers
abbrev pub handler_count : Nodes → ℕ
handler_count bare = 0
handler_count (node w k s) = cond (is_kind 32 w) (suc (handler_count s)) (handler_count s)

-- "1 + Handlers if it has any"
abbrev pub call_labels : ℕ → ℕ
call_labels zero = 0
call_labels (suc h) = suc (suc h)

-- "the most Table and List patterns on one path down it"
abbrev pub nesting : Nodes → ℕ
nesting bare = 0
nesting (node w k s) = max (cond (is_nested w) (suc (nesting k)) (nesting k)) (nesting s)

-- "for each pattern 1 + the most Table and List patterns on one path down it", over a Case's children
abbrev pub pattern_sum : Nodes → ℕ
pattern_sum bare = 0
pattern_sum (node w k s) = cond (is_pattern w) (suc (nesting (node w k bare))) 0 + pattern_sum s

-- a Match's Cases and their patterns
abbrev pub case_sum : Nodes → ℕ
case_sum bare = 0
case_sum (node w k s) = cond (is_kind 33 w) (suc (pattern_sum k)) 0 + case_sum s

-- a Return's, which code 2 has not
abbrev pub return_labels : StackCode → ℕ
return_labels Code1 = 1
return_labels Code2 = 0

-- the labels of one record; document 02, job 1: "Such an AssignOp adds one to the counted labels"
unfoldable pub own_labels : StackCode → Words → Nodes → ℕ
own_labels sc w k =
    of_kind w.kind
    (row 10 (cond (eqb w.detail 5 || eqb w.detail 6) 1 0) ∷ row 12 (cond (unlabelled sc w.detail) 0 1) ∷ row 13 (call_labels (handler_count k)) ∷ row 14 2
    ∷ row 15 (suc (case_sum k)) ∷ row 16 2 ∷ row 17 2 ∷ row 18 3 ∷ row 21 (return_labels sc) ∷ row 25 (cond (is_short_form w.detail k) 1 0) ∷ []) 0

-- and of all records of a function's own tree
unfoldable pub labels_counted : StackCode → Nodes → ℕ
labels_counted sc bare = 0
labels_counted sc (node w k s) = own_labels sc w k + (labels_counted sc k + labels_counted sc s)
