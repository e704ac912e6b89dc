-- Siblings one by one, the counts of a Call and of Params, a Simple import and a Left after the operator as steps of the rules. Assumes nothing.
use mathlib.Core.Path.{◌≡◌, refl, sym, ap, ap₂, ◌∙◌}
use mathlib.Core.Bool.{Bool, true, false, cond}
use mathlib.Core.List.{List, [], ◌∷◌}
use Prim.Native.Nat.{ℕ, zero, suc, ◌-◌}
use native.Mathlib.Omega.{arith}
use lib.Dec.{eqb}
use lib.ListN.{length}
use borrow.Author.Tests.{eq-eqb, ne_eqb}
use Rattle.opcode.specs.declared.index.LabelId.{LabelId}
use Rattle.opcode.specs.Members.{member_number}
use Rattle.opcode.specs.declared.member.MemberKind.{MemberKind}
use Rattle.tables.specs.Record.{Words, words, word}
use Rattle.tables.specs.Forest.{Forest, Nodes, bare, first, next, children, own_tree}
use Rattle.tables.specs.declared.refusal.RunRule.TheVariants.{Path}
use Rattle.tables.proofs.ForestLaws.{forest_absent, forest_record, next_zero}
use Rattle.pool.specs.Value.{Null, child as words-at, below}
use Rattle.rules.specs.declared.Flow.TheVariants.{Cut, Refused}
use Rattle.rules.specs.Marker.{Way, LoadConst, Swap, Load, Code, Do, Mark, mark}
use Rattle.rules.specs.Step.{After, Set, Step, push_op, access, width}
use Rattle.rules.specs.Arms.{arguments, handlers, is_method, set_code, simple_import, after_steps}
use Rattle.rules.specs.Kinds.{steps}
use Rattle.rules.specs.Run.{Loop, State, loops, emit, halt, way_kind, way_out, outward, exec}
use Rattle.std.specs.Prelude.{Option, None, Some}
use Rattle.context.specs.Words.{cap, more}
use Rattle.context.specs.Sinks.{stopped, continue_of, behind}
use Rattle.context.specs.declared.Context.{Context}
use Rattle.context.specs.Rep.{Walk, Rep, Lent}
use Rattle.context.specs.Does.{nth, child, visit_in, doing, does}
use Rattle.context.proofs.Basics.{on_true, on_false, no_emit}
use Rattle.context.proofs.RepLaws.{given}
use Rattle.context.proofs.LeaveLaws.{apart, all_closed, left_none}
use Rattle.context.proofs.VisitLaws.{visit_does}
use Rattle.plain.specs.Operators.{member_of, is_meta}
use Rattle.plain.specs.Runs.{argument_count, use_at, set_run, simple_store}
use Rattle.plain.proofs.GoLaws.{halt_not}
use Rattle.plain.proofs.CountLaws.{row, width_past}
use Rattle.plain.proofs.OperatorLaws.{left_meta, set_number}
use Rattle.plain.proofs.LeafLaws.{use_below}

module _ (recs : List ℕ) where
  row_none : (c : ℕ) → c ≡ 0 → row recs c ≡ bare
  row_none c e = ap (row recs) e ∙ ap (λ (f : Forest). own_tree f) (forest_absent recs)

  row_after : row recs (next recs 0) ≡ bare
  row_after = row_none (next recs 0) (sym (next_zero recs 0 refl))

  -- ---- one sibling on

  pub child_words : (c j : ℕ) → words-at (row recs c) (suc j) ≡ words-at (row recs (next recs c)) j
  child_words zero j = ap (λ (k : Nodes). words-at k (suc j)) (row_none 0 refl) ∙ sym (ap (λ (k : Nodes). words-at k j) row_after)
  child_words (suc c) j = ap (λ (f : Forest). words-at (own_tree f) (suc j)) (forest_record recs c)

  pub below_nodes : (c j : ℕ) → below (row recs c) (suc j) ≡ below (row recs (next recs c)) j
  below_nodes zero j = ap (λ (k : Nodes). below k (suc j)) (row_none 0 refl) ∙ sym (ap (λ (k : Nodes). below k j) row_after)
  below_nodes (suc c) j = ap (λ (f : Forest). below (own_tree f) (suc j)) (forest_record recs c)

  pub arguments_past : (b : ℕ) → width (row recs (nth recs (arguments (row recs b)) b)) ≡ handlers (row recs b)
  arguments_past b = sym (width_past recs (arguments (row recs b)) b)

  -- ---- a Call's count

  pub count_none : (a n x : ℕ) → x ≡ cap n → a ≡ 0 → x ≡ cap (argument_count recs a n)
  unfolding argument_count
  count_none a n x e z = e ∙ sym (ap (λ (k : ℕ). cap k) (on_true (eqb a 0) n (cond (is_method (words recs a)) (suc n) n) (eq-eqb a 0 z)))

  module _ (a n : ℕ) (ne : a ≡ 0 → ⊥) (b : Bool) (q : b ≡ is_method (words recs a)) where
    count_some : argument_count recs a n ≡ cond b (suc n) n
    unfolding argument_count
    count_some = on_false (eqb a 0) n (cond (is_method (words recs a)) (suc n) n) (ne_eqb a 0 ne) ∙ ap (λ (c : Bool). cond c (suc n) n) (sym q)

    pub count_method : (x : ℕ) → x ≡ cap (suc n) → b ≡ true → x ≡ cap (argument_count recs a n)
    count_method x e z = e ∙ sym (ap (λ (k : ℕ). cap k) (count_some ∙ on_true b (suc n) n z))

    pub count_other : (x : ℕ) → x ≡ cap n → b ≡ false → x ≡ cap (argument_count recs a n)
    count_other x e z = e ∙ sym (ap (λ (k : ℕ). cap k) (count_some ∙ on_false b (suc n) n z))

  -- ---- the children of a record in the tree around it

  below_row : (b : ℕ) → below (row recs b) 0 ≡ row recs (child recs b 0)
  below_row zero = ap (λ (k : Nodes). below k 0) (row_none 0 refl) ∙ sym (row_none 0 refl)
  below_row (suc b) = ap (λ (f : Forest). below (own_tree f) 0) (forest_record recs b) ∙ by (eqb (word recs (suc b) 0) 30)
    where
      by : (x : Bool) → cond x bare (row recs (first recs (suc b))) ≡ row recs (cond x 0 (first recs (suc b)))
      by true = sym (row_none 0 refl)
      by false = refl

  pub params_count : (b c n x : ℕ) → c ≡ child recs b 0 → n ≡ width (row recs c) → x ≡ cap n → x ≡ cap (width (below (row recs b) 0))
  params_count b c n x e q z = z ∙ ap cap (q ∙ ap (λ (y : ℕ). width (row recs y)) e ∙ ap width (sym (below_row b)))

module _ (e : Lent) (c : Walk) (r : ℕ) where
  abbrev R : List ℕ
  R = e.records

  -- ---- an Import's Simple form: where the path is empty, the Null behind it is not pushed

  pub simple_part : (n : ℕ) (A : State) → does e c r (simple_import (words R r) n) A ≡ emit (mark r (Load LoadConst Null)) (does e c r (simple_store (words R r) n) A)
  unfolding does doing exec
  simple_part zero A = sym (no_emit _ _ (halt_not (Refused Path r) A refl))
  simple_part (suc n) A = refl

  pub simple_none : (n : ℕ) → n ≡ 0 → (A : State) → does e c r (simple_store (words R r) n) A ≡ halt (Refused Path r) A
  unfolding does doing exec
  simple_none n z A = ap (λ (p : ℕ). does e c r (simple_store (words R r) p) A) z

  pub simple_put : (n l i a : ℕ) → (n ≡ 0 → ⊥) → l ≡ first R r → i ≡ cond (eqb (word R r 1) 0) (n - 1) n → a ≡ nth R i l → (A : State)
      → does e c r (simple_store (words R r) n) A ≡ use_at e r Set a A
  unfolding does doing exec
  simple_put zero l i a ne q h k A = absurd (ne refl)
  simple_put (suc p) l i a ne q h k A =
      use_below e (words R c.function) (words R r) r Set a (cond (eqb (word R r 1) 0) p (suc p)) [] (k ∙ ap₂ (nth R) (h ∙ by (eqb (word R r 1) 0)) q) A
    where
      by : (b : Bool) → cond b (suc p - 1) (suc p) ≡ cond b p (suc p)
      by true = omega arith
      by false = refl

  -- ---- a Left after the operator

  after_visit : (r ≡ 0 → ⊥) → (A : State) → visit_in e c After r A ≡ does e c r (cond (eqb (word R r 0) 34) (after_steps (words R r) (own_tree (children R r))) []) A
  unfolding steps
  after_visit ne A = ap (λ (g : State → State). g A) (visit_does e c r ne After)

  module _ (ne : r ≡ 0 → ⊥) (k : ℕ) (ek : k ≡ word R r 0) where
    pub after_other : (k ≡ 34 → ⊥) → (A : State) → visit_in e c After r A ≡ A
    unfolding does doing exec
    after_other z A =
        after_visit ne A
        ∙ ap (λ (b : Bool). does e c r (cond b (after_steps (words R r) (own_tree (children R r))) []) A) (ne_eqb (word R r 0) 34 (λ y. z (ek ∙ y)))

    module _ (d l : ℕ) (z : k ≡ 34) (ed : d ≡ word R r 1) (q : l ≡ first R r) where
      after_left : (A : State) → visit_in e c After r A ≡ does e c r (after_steps (words R r) (own_tree (children R r))) A
      after_left A =
          after_visit ne A
          ∙ ap (λ (b : Bool). does e c r (cond b (after_steps (words R r) (own_tree (children R r))) []) A) (eq-eqb (word R r 0) 34 (sym ek ∙ z))

      pub after_plain : d ≡ 0 → (A : State) → visit_in e c After r A ≡ use_at e r Set l A
      unfolding does doing exec
      after_plain y A =
          after_left A ∙ ap (λ (is : List Step). does e c r is A) (on_true _ _ _ (eq-eqb (word R r 1) 0 (sym ed ∙ y)))
          ∙ use_below e (words R c.function) (words R r) r Set l 0 [] q A

      -- the steps that set a member, by whether it is a Meta
      set_steps : Code → Bool → List Step
      set_steps x b = cond b (push_op Swap 2 ∷ push_op x 0 ∷ access Set (0 ∷ []) ∷ []) (push_op Swap 3 ∷ push_op Swap 2 ∷ push_op x 0 ∷ access Set (0 ∷ []) ∷ [])

      set_does : (x : Code) (b : Bool) (A : State)
          → does e c r (set_steps x b) A ≡ use_at e r Set l (emit (mark r (Do x 0)) (emit (mark r (Do Swap 2)) (cond b A (emit (mark r (Do Swap 3)) A))))
      unfolding does doing exec set_steps
      set_does x true A = use_below e (words R c.function) (words R r) r Set l 0 [] q _
      set_does x false A = use_below e (words R c.function) (words R r) r Set l 0 [] q _

      pub after_member : {m : MemberKind} → (d ≡ 0 → ⊥) → m ≡ member_of (word R r 1 - 1) → (A : State) → visit_in e c After r A ≡ use_at e r Set l (set_run r m A)
      unfolding set_steps
      after_member {m} y em A =
          after_left A
          ∙ ap (λ (is : List Step). does e c r is A)
          (on_false _ _ _ (ne_eqb (word R r 1) 0 (λ u. y (ed ∙ u))) ∙ left_meta (word R r 1) em (λ u. y (ed ∙ u)) _ _
          ∙ ap (λ (x : Code). set_steps x (is_meta m)) (sym (set_number (word R r 1 - 1) em)))
          ∙ set_does (set_code (member_number m)) (is_meta m) A

-- ---- a Break or a Continue: the break label is right behind the continue label

pub no_break : (f : Option LabelId) → behind f ≡ None → f ≡ None
no_break None e = refl
no_break (Some l) e = absurd (apart (sym e))

pub break_behind : (f : Option LabelId) (l : LabelId) → behind f ≡ Some l → (m : LabelId) × (f ≡ Some m) × (l.0 ≡ more m.0)
break_behind None l e = absurd (apart e)
break_behind (Some m) l e = (m, refl, ap number (sym e))
  where
    number : Option LabelId → ℕ
    number None = 0
    number (Some k) = k.0

-- what ends the run keeps the Null behind it from being pushed
pub cut_off : {c : Walk} {records : List ℕ} {o₀ : Context} {A : State} {w w' : Context} {f : Option LabelId} (r : ℕ) (p : Words) (y : Way) (m : Mark) → f ≡ continue_of w
    → f ≡ None → w' ≡ stopped (Cut (way_kind y) p.start p.end) w → Rep c records o₀ A w → Rep c records o₀ (emit m (outward r p y A)) w'
unfolding outward
cut_off {A = A} r p y m e n k h = given (by (loops A) (all_closed r p y e h n)) (left_none r p y e h n k)
  where
    by : (ls : List Loop) → ls ≡ [] → emit m (way_out r p y ls A) ≡ way_out r p y ls A
    by [] z = no_emit m _ (halt_not (Cut (way_kind y) p.start p.end) A refl)
    by (x ∷ ls) z = absurd (let v : suc (length ls) ≡ 0 = ap length z in omega arith)
