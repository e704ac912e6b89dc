-- From a visitor's calls to the steps of its arm. Assumes nothing.
use mathlib.Core.Path.{◌≡◌, refl, sym, ap, ◌∙◌, subst}
use mathlib.Core.Bool.{Bool, true, false, cond, ◌||◌}
use mathlib.Core.Logic.{◌⊎◌, inl, inr}
use mathlib.Core.List.{List, [], ◌∷◌}
use Prim.Native.Nat.{ℕ, ◌%◌, ◌≤◌, ◌<◌, min}
use native.Mathlib.Omega.{arith}
use lib.ListN.{get_or}
use lib.Dec.{eqb, ltb}
use borrow.Author.Tests.{ne_eqb, le-ltb, ltb-true, ltb-false}
use denote.Enum.Declared.{tag_of}
use Rattle.std.specs.Prelude.{Option, None, Some}
use Rattle.opcode.specs.Words.{op_words}
use Rattle.opcode.specs.Members.{get_of, set_of, member_number}
use Rattle.opcode.specs.Operators.{bin_number, from_un_op}
use Rattle.opcode.specs.declared.operator.UnOp.{UnOp}
use Rattle.opcode.specs.declared.member.MemberKind.{MemberKind}
use Rattle.opcode.specs.contracts.member.MemberKind.{the_type as member-type}
use Rattle.opcode.specs.declared.member.MemberKind.TheVariants as member
use Rattle.opcode.specs.declared.operator.BinOp.{BinOp}
use Rattle.opcode.specs.declared.opcode.OpCode.{OpCode}
use Rattle.tables.specs.Record.{Words, word, words}
use Rattle.tables.specs.Forest.{Nodes, first, next, children, own_tree, none, tree}
use Rattle.pool.specs.Value.{str, child}
use Rattle.rules.specs.declared.StackCode.{StackCode}
use Rattle.rules.specs.Marker.{JumpPopIfNull, LoadConst, Copy, Swap, Label, To, Do, mark}
use Rattle.rules.specs.Step.{Role, Expr, Use, Step, push_op, push_const, place, jump, expr}
use Rattle.rules.specs.Kinds.{Kind, kinds, steps_of, steps}
use Rattle.rules.specs.Arms.{unary_code, property, get_code, set_code, safe_jump, unlabelled, member_steps, method_steps}
use Rattle.rules.specs.Run.{State, Spot, number_of, spot_at, sought, labels, bump, emit, exec}
use Rattle.context.specs.Words.{limit, cap}
use Rattle.context.specs.Sinks.{pushed, used as used_of}
use Rattle.context.specs.Rep.{Walk, Lent, Scoped, Rep, SameSizes, Sim}
use Rattle.context.specs.declared.Context.{Context}
use Rattle.context.specs.Does.{nth, access_noted, noted_look, visit_in, near, doing, does, through}
use Rattle.context.proofs.Basics.{clash, on_true, on_false}
use Rattle.context.proofs.MarkLaws.{said}
use Rattle.context.proofs.NameLaws.{accessed}
use Rattle.context.proofs.SizeLaws.{pushed_sizes, stopped_sizes}
use Rattle.context.proofs.VisitLaws.{ident_number, visit_none, visit_does}
use Rattle.plain.specs.Operators.{member_of, unary_of, is_short, with_operator}
use Rattle.plain.specs.Runs.{safe_run}
use Rattle.plain.proofs.OperatorLaws.{member_number_lem, get_words, set_words, unary_words}
use Rattle.visit.specs.Arms.{property_steps}

-- ---- calls, each as a step of the state

pub next_of : (recs : List ℕ) {x a b : ℕ} → x ≡ next recs a → a ≡ b → x ≡ next recs b
next_of recs e q = e ∙ ap (λ (z : ℕ). next recs z) q

abbrev pub ident_at : List ℕ → ℕ → ℕ → Spot
ident_at recs r j = spot_at (tree r (words recs r) (children recs r) none) (j ∷ [])

module _ {e : Lent} (z : Scoped e) {c : Walk} {o₀ : Context} {A : State} {w w' : Context} where
  pub visited : (a : Role) {x y : ℕ} → x ≡ y → Sim e w w' (λ c. visit_in e c a x) → Rep c e.records o₀ A w → Rep c e.records o₀ (visit_in e c a y A) w'
  visited a q h k = subst (λ (b : ℕ). Rep c e.records o₀ (visit_in e c a b A) w') q (h.sim z c o₀ A k)

  pub through_at : {n n' l l' : ℕ} → n ≡ n' → l ≡ l' → Sim e w w' (λ c. through e c Expr n l) → Rep c e.records o₀ A w
      → Rep c e.records o₀ (through e c Expr n' l' A) w'
  through_at {n' = n'} {l = l} p q h k =
      subst (λ (x : ℕ). Rep c e.records o₀ (through e c Expr n' x A) w') q
      (subst (λ (x : ℕ). Rep c e.records o₀ (through e c Expr x l A) w') p (h.sim z c o₀ A k))

-- the Ident at child j, loaded or stored to
module _ {e : Lent} (z : Scoped e) {c : Walk} {o₀ : Context} {A : State} {w w' : Context} where
  pub used : (r j : ℕ) (u : Use) {i : ℕ} → i ≡ nth e.records j (first e.records r) → w' ≡ used_of u i (access_noted e.notes u i) w
      → Rep c e.records o₀ A w
      → Rep c e.records o₀ (sought r u (number_of (ident_at e.records r j)) (noted_look e.notes (words e.records c.function) u (ident_at e.records r j)) A) w'
  used r j u q k h =
      accessed r e.notes (words e.records c.function) u (ident_at e.records r j) (ident_number e.records r (words e.records r) j q) k h

-- ---- lists by kind

pub skip : (n : ℕ) (x : Kind) (xs : List Kind) (w : Words) (k : Nodes) → (n ≡ x.number → ⊥) → steps_of n (x ∷ xs) w k ≡ steps_of n xs w k
skip n x xs w k ne = on_false (eqb n x.number) _ _ (ne_eqb n x.number ne)

module _ (e : Lent) (c : Walk) where
  abbrev R : List ℕ
  R = e.records

  -- the arm of a record's kind
  pub by : (r : ℕ) {k : ℕ} → (r ≡ 0 → ⊥) → word R r 0 ≡ k → (A : State)
      → visit_in e c Expr r A ≡ does e c r (steps_of k (kinds c.code) (words R r) (own_tree (children R r))) A
  unfolding steps
  by r {k} ne q A =
      ap (λ (g : State → State). g A) (visit_does e c r ne Expr)
      ∙ ap (λ (n : ℕ). does e c r (steps_of n (kinds c.code) (words R r) (own_tree (children R r))) A) q

  pub absent : {r : ℕ} (a : Role) → r ≡ 0 → (A : State) → visit_in e c a r A ≡ A
  absent a q A = ap (λ (n : ℕ). visit_in e c a n A) q ∙ visit_none e c a A

  -- a choice of lists by a test
  module _ (r : ℕ) (b : Bool) (x y : List Step) (A : State) where
    pub either_yes : b ≡ true → does e c r (cond b x y) A ≡ does e c r x A
    either_yes q = ap (λ (z : List Step). does e c r z A) (on_true b x y q)

    pub either_no : b ≡ false → does e c r (cond b x y) A ≡ does e c r y A
    either_no q = ap (λ (z : List Step). does e c r z A) (on_false b x y q)

-- ---- members

-- a variant is its number
pub member_tag : (m : MemberKind) → tag_of member-type m ≡ member_number m
member_tag member.Bracket = refl
member_tag member.Dot = refl
member_tag member.DoubleColon = refl
member_tag member.BracketMeta = refl
member_tag member.DotMeta = refl
member_tag member.DoubleColonMeta = refl

-- a property that is held, and one that is none
pub is_held : {n : ℕ} → (n ≡ 1) ⊎ (n ≡ 2) → (n ≡ 0 → ⊥) × (n < 3)
is_held (inl q) = (λ z. omega arith, omega arith)
is_held (inr q) = (λ z. omega arith, omega arith)

pub is_none : {n : ℕ} → (n ≡ 3) ⊎ ((n ≡ 4) ⊎ (n ≡ 5)) → (n ≡ 0 → ⊥) × (3 ≤ n)
is_none (inl q) = (λ z. omega arith, omega arith)
is_none (inr (inl q)) = (λ z. omega arith, omega arith)
is_none (inr (inr q)) = (λ z. omega arith, omega arith)

-- an operator that is neither And nor Or
pub not_either : (o : BinOp) → is_short o ≡ false → (eqb (bin_number o) 5 ≡ false) × (eqb (bin_number o) 6 ≡ false)
not_either o q = go (eqb (bin_number o) 5) (eqb (bin_number o) 6) q
  where
    go : (a b : Bool) → a || b ≡ false → (a ≡ false) × (b ≡ false)
    go true b z = absurd (clash z)
    go false b z = (refl, z)

-- numbers from 3 on are all Metas
property_same : {m : MemberKind} (n : ℕ) → m ≡ member_of n → (k : Nodes) (is : List Step) → property (member_number m) k is ≡ property n k is
property_same {m} n q k is = go (ltb n 3) refl
  where
    go : (b : Bool) → ltb n 3 ≡ b → property (member_number m) k is ≡ property n k is
    go true lt = let h : n < 3 = ltb-true n 3 lt in ap (λ (i : ℕ). property i k is) (member_number_lem n q ∙ (let y : min n 5 ≡ n = omega arith in y))
    go false le = let h : 3 ≤ n = ltb-false n 3 le in none_of (member_number m) (omega (arith, member_number_lem n q)) ∙ sym (none_of n h)
      where
        none_of : (i : ℕ) → 3 ≤ i → property i k is ≡ is
        none_of i h = on_false (eqb i 0) _ _ (ne_eqb i 0 (λ y. omega arith)) ∙ on_false (ltb i 3) _ _ (le-ltb i 3 h)

module _ {e : Lent} (z : Scoped e) {c : Walk} {o₀ : Context} {A : State} {w w' : Context} where
  -- the property of a record's own member, which is number n
  pub propped : (r n : ℕ) {m : MemberKind} → m ≡ member_of n
      → Sim e w w' (λ c. does e c r (property_steps m (words e.records r) (own_tree (children e.records r)))) → Rep c e.records o₀ A w
      → Rep c e.records o₀ (does e c r (property n (own_tree (children e.records r)) []) A) w'
  propped r n q h k =
      subst (λ (is : List Step). Rep c e.records o₀ (does e c r is A) w') (property_same n q (own_tree (children e.records r)) []) (h.sim z c o₀ A k)

module _ {c : Walk} {records : List ℕ} {o₀ : Context} {A : State} {w w' : Context} (r n : ℕ) {m : MemberKind} (q : m ≡ member_of n) where
  pub got : w' ≡ pushed (op_words (get_of m)) w → Rep c records o₀ A w → Rep c records o₀ (emit (mark r (Do (get_code n) 0)) A) w'
  got k h = said r (get_code n) 0 refl refl (subst (λ x. w' ≡ pushed x w) (get_words n q) k) h

  pub was_set : w' ≡ pushed (op_words (set_of m)) w → Rep c records o₀ A w → Rep c records o₀ (emit (mark r (Do (set_code n) 0)) A) w'
  was_set k h = said r (set_code n) 0 refl refl (subst (λ x. w' ≡ pushed x w) (set_words n q) k) h

pub unary : {c : Walk} {records : List ℕ} {o₀ : Context} {A : State} {w w' : Context} (r d : ℕ) {x : UnOp} → x ≡ unary_of d → w' ≡ pushed (op_words (from_un_op x)) w
    → Rep c records o₀ A w → Rep c records o₀ (emit (mark r (Do (unary_code d) 0)) A) w'
unary {w} {w'} r d q k h = said r (unary_code d) 0 refl refl (subst (λ x. w' ≡ pushed x w) (ap (λ (x : UnOp). op_words (from_un_op x)) q ∙ unary_words d) k) h

-- an operator that is pushed, or refused
pub operated_sizes : (o : Option OpCode) (r : ℕ) (w : Context) {w' : Context} → w' ≡ with_operator o r w → SameSizes w w'
operated_sizes (Some x) r w k = pushed_sizes _ w k
operated_sizes None r w k = stopped_sizes _ w k

-- a word's number is as a word holds it
pub cap_word : (n : ℕ) → n ≤ limit → n ≡ cap n
cap_word n le = omega arith

-- the stack code of the walk, as the code tests it
pub label_test : {c : Walk} {records : List ℕ} {o₀ : Context} {A : State} {w : Context} {b : Bool} (d : ℕ) → Rep c records o₀ A w → b ≡ unlabelled w.stack d
    → unlabelled c.code d ≡ b
label_test d h q = ap (λ (s : StackCode). unlabelled s d) (sym h.stack) ∙ sym q

module _ (e : Lent) (c : Walk) (r : ℕ) where
  abbrev W : Words
  W = words e.records r

  abbrev K : Nodes
  K = own_tree (children e.records r)

  safe_part : (is : List Step) (env : List ℕ) (A : State) → doing e c r (safe_jump W is) env A ≡ doing e c r is env (safe_run W.detail r (get_or env 0 0) A)
  unfolding doing exec
  safe_part is env A = go (ltb W.detail 8)
    where
      go : (b : Bool) → doing e c r (cond b is (jump JumpPopIfNull 0 ∷ is)) env A
          ≡ doing e c r is env (cond b A (emit (mark r (To JumpPopIfNull (get_or env 0 0))) A))
      go true = refl
      go false = refl

  pub property_part : (m : ℕ) (is : List Step) (env : List ℕ) (A : State)
      → doing e c r (property m K is) env A ≡ doing e c r is env (does e c r (property m K []) A)
  unfolding doing does exec
  property_part m is env A = go (eqb m 0) (ltb m 3)
    where
      n : Step
      n = push_const LoadConst (1 ∷ []) (str (child K 1).q)

      go : (a b : Bool) → doing e c r (cond a (expr 1 ∷ is) (cond b (n ∷ is) is)) env A
          ≡ doing e c r is env (does e c r (cond a (expr 1 ∷ []) (cond b (n ∷ []) [])) A)
      go true b = refl
      go false true = refl
      go false false = refl

  abbrev M : ℕ
  M = W.detail % 8

  -- without a label
  pub member_bare : unlabelled c.code W.detail ≡ true → (A : State)
      → does e c r (member_steps c.code W K) A ≡ emit (mark r (Do (get_code M) 0)) (does e c r (property M K []) (near e c r Expr 0 A))
  unfolding doing does exec
  member_bare q A =
      ap (λ (is : List Step). doing e c r is [] (near e c r Expr 0 A)) (on_true _ _ _ q) ∙ property_part M (push_op (get_code M) 0 ∷ []) [] (near e c r Expr 0 A)

  pub method_bare : unlabelled c.code W.detail ≡ true → (A : State)
      → does e c r (method_steps c.code W K) A
      ≡ emit (mark r (Do Swap 2)) (emit (mark r (Do (get_code M) 0)) (does e c r (property M K []) (emit (mark r (Do Copy 1)) (near e c r Expr 0 A))))
  unfolding doing does exec
  method_bare q A =
      ap (λ (is : List Step). doing e c r is [] (near e c r Expr 0 A)) (on_true _ _ _ q)
      ∙ property_part M (push_op (get_code M) 0 ∷ push_op Swap 2 ∷ []) [] (emit (mark r (Do Copy 1)) (near e c r Expr 0 A))

  -- with one
  pub member_run : unlabelled c.code W.detail ≡ false → (A : State)
      → does e c r (member_steps c.code W K) A
      ≡ (let B = near e c r Expr 0 A in
      emit (mark r (Label (labels B))) (emit (mark r (Do (get_code M) 0)) (does e c r (property M K []) (safe_run W.detail r (labels B) (bump B)))))
  unfolding doing does exec
  member_run q A =
      let B = near e c r Expr 0 A in
      ap (λ (is : List Step). doing e c r is [] B) (on_false _ _ _ q)
      ∙ safe_part (property M K (push_op (get_code M) 0 ∷ place 0 ∷ [])) (labels B ∷ []) (bump B)
      ∙ property_part M (push_op (get_code M) 0 ∷ place 0 ∷ []) (labels B ∷ []) (safe_run W.detail r (labels B) (bump B))

  pub method_run : unlabelled c.code W.detail ≡ false → (A : State)
      → does e c r (method_steps c.code W K) A
      ≡ (let B = near e c r Expr 0 A in
      emit (mark r (Label (labels B))) (emit (mark r (Do Swap 2)) (emit (mark r (Do (get_code M) 0))
      (does e c r (property M K []) (emit (mark r (Do Copy 1)) (safe_run W.detail r (labels B) (bump B)))))))
  unfolding doing does exec
  method_run q A =
      let B = near e c r Expr 0 A in
      ap (λ (is : List Step). doing e c r is [] B) (on_false _ _ _ q)
      ∙ safe_part (push_op Copy 1 ∷ property M K (push_op (get_code M) 0 ∷ push_op Swap 2 ∷ place 0 ∷ [])) (labels B ∷ []) (bump B)
      ∙ property_part M (push_op (get_code M) 0 ∷ push_op Swap 2 ∷ place 0 ∷ []) (labels B ∷ []) (emit (mark r (Do Copy 1)) (safe_run W.detail r (labels B) (bump B)))
