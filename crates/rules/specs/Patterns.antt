-- ExprKind::Match and visit_pattern_depth: patterns with their clean-up labels. Definitions only.
use Rattle.std.specs.Prelude.{Bool, true, false, cond, ◌&&◌, ◌||◌, List, [], ◌∷◌, ◌++◌, ℕ, zero, suc, ◌+◌, ◌/◌, ltb, eqb}
use Rattle.tables.specs.Record.{Words, is_kind}
use Rattle.tables.specs.Forest.{Nodes, bare, node}
use Rattle.pool.specs.Value.{lit, int}
use Rattle.rules.specs.Marker.{Jump, PopJumpIfFalse, JumpPopIfNull, LoadConst, Pop, Copy, Swap, GetItem, Eq, TypeCheck, GetLen}
use Rattle.rules.specs.Step.{ChildPath, Set, Step, push_op, push_const, get_label, place, jump, access, expr, null, get_labels, width}
use Rattle.rules.specs.Arms.{bodies}

-- "Patterns: 35 Lit, 36 Ident, 37 Table: Lit, pattern, .. 38 List: patterns"; the part of a pattern's child: a List's item, a Table's key or its value
pub data Part : Type 0 where
  item key value : Part

abbrev pub parts : Words → Part
parts w = cond (is_kind 37 w) key item

abbrev pub next_part : Part → Part
next_part item = item
next_part key = value
next_part value = key

abbrev pub is_pattern_part : Part → Bool
is_pattern_part item = true
is_pattern_part key = false
is_pattern_part value = true

-- a Table or List pattern, which has a clean-up label for its depth
abbrev pub is_nested : Words → Bool
is_nested w = is_kind 37 w || is_kind 38 w

-- get_or_push_pattern_clean_stack_label at depth d + 1, of h labels taken: one more where there is none
abbrev pub grown : ℕ → ℕ → ℕ
grown d h = cond (ltb (suc d) h) h (suc h)

abbrev pub taking : ℕ → ℕ → List Step → List Step
taking d h is = cond (ltb (suc d) h) is (get_label ∷ is)

-- the clean-up labels after some patterns side by side at depth d
abbrev pub labels_after : Part → ℕ → ℕ → Nodes → ℕ
labels_after part d h bare = h
labels_after part d h (node w k s) =
    labels_after (next_part part) d (cond (is_pattern_part part && is_nested w) (labels_after (parts w) (suc d) (grown d h) k) h) s

-- how many pairs or items a Table or List pattern has
abbrev pub pattern_size : Words → Nodes → ℕ
pattern_size w k = cond (is_kind 37 w) (width k / 2) (width k)

-- before a child: a copy of the table, the key or the index, and the item itself
abbrev pub lead : Part → ChildPath → ℕ → Words → List Step → List Step
lead item at i w is = push_op Copy 1 ∷ push_const LoadConst at (int i) ∷ push_op GetItem 0 ∷ is
lead key at i w is = push_op Copy 1 ∷ push_const LoadConst (at ++ (i ∷ [])) (lit w.detail w.p w.q) ∷ push_op GetItem 0 ∷ is
lead value at i w is = is

-- the type is tested and, without `others`, the length
abbrev pub length_test : ℕ → ChildPath → Words → Nodes → List Step → List Step
length_test l at w k is = push_op Copy 1 ∷ push_op GetLen 0 ∷ push_const LoadConst at (int (pattern_size w k)) ∷ push_op Eq 0 ∷ jump PopJumpIfFalse l ∷ is

abbrev pub table_test : ℕ → ChildPath → Words → Nodes → List Step → List Step
table_test l at w k is = push_op Copy 1 ∷ push_op TypeCheck 6 ∷ jump PopJumpIfFalse l ∷ cond (eqb w.detail 1) is (length_test l at w k is)

-- one pattern at depth d; label m + d is where it fails to, m + d + 1 where its inside does; `inside` are the steps of its children
abbrev pub pattern_steps : ℕ → ℕ → ℕ → ChildPath → Words → Nodes → (List Step → List Step) → List Step → List Step
pattern_steps m d h at w k inside is =
    cond (is_nested w) (taking d h (table_test (m + suc d) at w k (inside (push_op Pop 0 ∷ is))))
    (cond (is_kind 36 w) (jump JumpPopIfNull (m + d) ∷ access Set at ∷ is)
    (push_const LoadConst at (lit w.detail w.p w.q) ∷ push_op Eq 0 ∷ jump PopJumpIfFalse (m + d) ∷ is))

-- the children of the pattern at a path, from the i-th on
abbrev pub inside_steps : Part → ℕ → ℕ → ℕ → ChildPath → ℕ → Nodes → List Step → List Step
inside_steps part m d h at i bare is = is
inside_steps part m d h at i (node w k s) is =
    let rest = inside_steps (next_part part) m d (cond (is_pattern_part part && is_nested w) (labels_after (parts w) (suc d) (grown d h) k) h) at (suc i) s is in
    let here = pattern_steps m d h (at ++ (i ∷ [])) w k (λ is. inside_steps (parts w) m (suc d) (grown d h) (at ++ (i ∷ [])) 0 k is) rest in
    lead part at i w (cond (is_pattern_part part) here rest)

-- the labels from the deepest on, a Pop before each but the first
abbrev pub cleanup : ℕ → ℕ → List Step → List Step
cleanup m zero is = is
cleanup m (suc zero) is = place m ∷ is
cleanup m (suc (suc h)) is = place (m + suc h) ∷ push_op Pop 0 ∷ cleanup m (suc h) is

-- the clean-up labels of one pattern: "for each pattern 1 + the most Table and List patterns on one path down it"
abbrev pub pattern_labels : Words → Nodes → ℕ
pattern_labels w k = labels_after item 0 1 (node w k bare)

-- one pattern of a Case: its labels are m, m + 1, ..; i is the Case's own
abbrev pub test_steps : ℕ → ℕ → ChildPath → Words → Nodes → List Step → List Step
test_steps m i at w k is =
    get_label ∷ push_op Copy 1
    ∷ pattern_steps m 0 1 at w k (λ is. inside_steps (parts w) m 1 (grown 0 1) at 0 k is)
    (push_op Pop 0 ∷ jump Jump i ∷ cleanup m (pattern_labels w k) is)

-- the first n children of the Case that is child j
abbrev pub case_tests : ℕ → ℕ → ℕ → ℕ → ℕ → Nodes → List Step → List Step
case_tests m i j c n bare is = is
case_tests m i j c zero (node w k s) is = is
case_tests m i j c (suc n) (node w k s) is = test_steps m i (j ∷ c ∷ []) w k (case_tests (m + pattern_labels w k) i j (suc c) n s is)

abbrev pub case_labels : ℕ → Nodes → ℕ
case_labels n bare = 0
case_labels zero (node w k s) = 0
case_labels (suc n) (node w k s) = pattern_labels w k + case_labels n s

-- "33 Case: p patterns, expr": the tests of all Cases, Case j having label j
abbrev pub cases_tests : ℕ → ℕ → Nodes → List Step → List Step
cases_tests m j bare is = is
cases_tests m j (node w k s) is = case_tests m j j 0 w.p k (cases_tests (m + case_labels w.p k) (suc j) s is)

-- label 0 is the end
abbrev pub match_cases : Nodes → List Step
match_cases s =
    get_label ∷ expr 0
    ∷ get_labels (width s)
    (cases_tests (suc (width s)) 1 s (null ∷ jump Jump 0 ∷ bodies 1 1 (width s) (place 0 ∷ push_op Swap 2 ∷ push_op Pop 0 ∷ [])))

-- "15 Match: expr, Cases"
abbrev pub match_steps : Words → Nodes → List Step
match_steps w bare = []
match_steps w (node w' k s) = match_cases s

-- a Case is visited for its body
abbrev pub case_steps : Words → Nodes → List Step
case_steps w k = expr w.p ∷ []
