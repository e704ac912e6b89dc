-- The operator and the member that a number stands for, as the rules choose their opcodes. Assumes nothing.
use mathlib.Core.Path.{◌≡◌, refl, sym, ap, ap₂, ◌∙◌, subst}
use mathlib.Core.Bool.{Bool, true, false, cond, not, ◌&&◌, ◌||◌}
use mathlib.Core.List.{List, [], ◌∷◌}
use Prim.Native.Nat.{ℕ, zero, suc, ◌-◌, ◌%◌, ◌≤◌, ◌<◌, min}
use native.Mathlib.Omega.{arith}
use lib.ListN.{get_or-eq_default}
use Rattle.std.proofs.Common.{Option, Some, None, unwrap_or, ok_or}
use Rattle.std.specs.Result.{result_unwrap_or}
use Rattle.std.proofs.lemmas.Option.{unwrap_or-slice_get}
use lib.Dec.{T, eqb, ltb, lit<}
use types.Run.{OneOf, miss}
use mir.Val.{has_key}
use borrow.Author.Tests.{lt-ltb, le-ltb, ltb-true, ltb-false, eqb-true, eqb-false, eq-eqb, ne_eqb}
use denote.Enum.Declared.{tag_of}
use Rattle.opcode.specs.declared.opcode.Words.{Words as MarkerWords}
use Rattle.opcode.specs.Words.{pair_of, op_words}
use Rattle.opcode.specs.Operators.{un_ops, bin_ops, bin_number, un_op, bin_op, from_un_op, from_bin_op}
use Rattle.opcode.specs.Members.{member_kinds, member_number, member_kind, get_of, set_of}
use Rattle.opcode.specs.declared.opcode.OpCode.{OpCode}
use Rattle.opcode.specs.declared.index.UnknownNumber.{UnknownNumber}
use Rattle.opcode.specs.declared.operator.UnOp.TheVariants as un
use Rattle.opcode.specs.declared.operator.BinOp.{BinOp}
use Rattle.opcode.specs.declared.operator.BinOp.TheVariants as bin
use Rattle.opcode.specs.contracts.operator.BinOp.{the_type as bin_type}
use Rattle.opcode.specs.declared.member.MemberKind.{MemberKind}
use Rattle.opcode.specs.declared.member.MemberKind.TheVariants as member
use Rattle.opcode.specs.contracts.member.MemberKind.{the_type as member-type}
use Rattle.tables.specs.Record.{Words}
use Rattle.tables.specs.Forest.{Nodes}
use Rattle.tables.specs.declared.refusal.RunRule.TheVariants.{Operator}
use Rattle.pool.specs.Value.{child}
use Rattle.rules.specs.declared.Flow.TheVariants.{Refused}
use Rattle.rules.specs.Arms.{unary_code, binary_code, no_opcode, is_short_form, is_method, get_code, set_code}
use Rattle.rules.specs.Marker.{JumpIfTrueOrPop, JumpIfFalseOrPop, Code, Add, Sub, Mul, Div, Rem, Eq, Ne, Lt, Le, Gt, Ge, SetItem, SetAttr, SetMeta, Do, mark}
use Rattle.rules.specs.Out.{code_number}
use Rattle.rules.specs.Run.{State, emit, halt}
use Rattle.context.specs.Sinks.{pushed}
use Rattle.context.specs.declared.Context.{Context}
use Rattle.context.specs.Rep.{Walk, Rep}
use Rattle.context.proofs.Basics.{on_true, on_false}
use Rattle.context.proofs.RepLaws.{given, halted}
use Rattle.context.proofs.MarkLaws.{said}
use Rattle.plain.specs.Operators.{binary_of, unary_of, member_of, is_meta, is_short, short_assign, short_jump, with_operator}

-- ---- what a look-up by number finds

given_or : {A E : Type 0} (o : Option A) (e : E) (a : A) → result_unwrap_or (ok_or o e) a ≡ unwrap_or o a
given_or None e a = refl
given_or (Some x) e a = refl

pub found_unary : (d : ℕ) (e : UnknownNumber) → result_unwrap_or (ok_or (un_op d) e) un.Not ≡ unary_of d
unfolding un_op unary_of
found_unary d e = given_or (un_op d) e un.Not ∙ unwrap_or-slice_get un_ops d un.Not

pub found_binary : (d : ℕ) (e : UnknownNumber) → result_unwrap_or (ok_or (bin_op d) e) bin.Add ≡ binary_of d
unfolding bin_op binary_of
found_binary d e = given_or (bin_op d) e bin.Add ∙ unwrap_or-slice_get bin_ops d bin.Add

pub found_member_lem : (n : ℕ) (e : UnknownNumber) → result_unwrap_or (ok_or (member_kind n) e) member.DoubleColonMeta ≡ member_of n
unfolding member_kind member_of
found_member_lem n e = given_or (member_kind n) e member.DoubleColonMeta ∙ unwrap_or-slice_get member_kinds n member.DoubleColonMeta

-- ---- a variant's place is its number

pub bin_tag : (o : BinOp) → tag_of bin_type o ≡ bin_number o
bin_tag bin.Add = refl
bin_tag bin.Sub = refl
bin_tag bin.Mul = refl
bin_tag bin.Div = refl
bin_tag bin.Rem = refl
bin_tag bin.And = refl
bin_tag bin.Or = refl
bin_tag bin.Eq = refl
bin_tag bin.Ne = refl
bin_tag bin.Lt = refl
bin_tag bin.Le = refl
bin_tag bin.Gt = refl
bin_tag bin.Ge = refl
bin_tag bin.Is = refl

pub member_tag : (k : MemberKind) → tag_of member-type k ≡ member_number k
member_tag member.Bracket = refl
member_tag member.Dot = refl
member_tag member.DoubleColon = refl
member_tag member.BracketMeta = refl
member_tag member.DotMeta = refl
member_tag member.DoubleColonMeta = refl

-- ---- operators

pub unary_words : (d : ℕ) → op_words (from_un_op (unary_of d)) ≡ pair_of (code_number (unary_code d)) 0
unfolding unary_of
unary_words zero = refl
unary_words (suc zero) = refl
unary_words (suc (suc d)) = refl

-- the opcode of operator d, if it has one
abbrev Opcode : ℕ → Option OpCode → Type 0
Opcode d (Some x) = (no_opcode d ≡ false) × (op_words x ≡ pair_of (code_number (binary_code d)) 0)
Opcode d None = no_opcode d ≡ true

-- the operator of number d is And, Or, or has the rules' opcode, as d says
pub record Stands (d : ℕ) (o : BinOp) : Type 0 where
  pub and : eqb (bin_number o) 5 ≡ eqb d 5
  pub or : eqb (bin_number o) 6 ≡ eqb d 6
  pub opcode : Opcode d (from_bin_op o)

-- behind the numbers no operator stands
behind : (d n : ℕ) → n < 14 → 14 ≤ d → eqb d n ≡ false
behind d n h k = ne_eqb d n (λ e. omega arith)

has_opcode : (d : ℕ) → 14 ≤ d → no_opcode d ≡ false
has_opcode d h =
    ap (λ (x : Bool). x || (eqb d 6 || eqb d 13)) (behind d 5 (lit< tt) h) ∙ ap (λ (x : Bool). x || eqb d 13) (behind d 6 (lit< tt) h)
    ∙ behind d 13 (lit< tt) h

far : (d : ℕ) → 14 ≤ d → Stands d bin.Add
far d h = record {
  and = sym (behind d 5 (lit< tt) h);
  or = sym (behind d 6 (lit< tt) h);
  opcode = (
    has_opcode d h,
    ap (λ (c : Code). pair_of (code_number c) 0) (sym (get_or-eq_default (Add ∷ Sub ∷ Mul ∷ Div ∷ Rem ∷ Add ∷ Add ∷ Eq ∷ Ne ∷ Lt ∷ Le ∷ Gt ∷ Ge ∷ []) Add (omega arith))),
  );
}

pub binary_stands : (d : ℕ) → Stands d (binary_of d)
unfolding binary_of
binary_stands zero = record { and = refl; or = refl; opcode = (refl, refl) }
binary_stands (suc zero) = record { and = refl; or = refl; opcode = (refl, refl) }
binary_stands (suc (suc zero)) = record { and = refl; or = refl; opcode = (refl, refl) }
binary_stands (suc (suc (suc zero))) = record { and = refl; or = refl; opcode = (refl, refl) }
binary_stands (suc (suc (suc (suc zero)))) = record { and = refl; or = refl; opcode = (refl, refl) }
binary_stands (suc (suc (suc (suc (suc zero))))) = record { and = refl; or = refl; opcode = refl }
binary_stands (suc (suc (suc (suc (suc (suc zero)))))) = record { and = refl; or = refl; opcode = refl }
binary_stands (suc (suc (suc (suc (suc (suc (suc zero))))))) = record { and = refl; or = refl; opcode = (refl, refl) }
binary_stands (suc (suc (suc (suc (suc (suc (suc (suc zero)))))))) = record { and = refl; or = refl; opcode = (refl, refl) }
binary_stands (suc (suc (suc (suc (suc (suc (suc (suc (suc zero))))))))) = record { and = refl; or = refl; opcode = (refl, refl) }
binary_stands (suc (suc (suc (suc (suc (suc (suc (suc (suc (suc zero)))))))))) = record { and = refl; or = refl; opcode = (refl, refl) }
binary_stands (suc (suc (suc (suc (suc (suc (suc (suc (suc (suc (suc zero))))))))))) = record { and = refl; or = refl; opcode = (refl, refl) }
binary_stands (suc (suc (suc (suc (suc (suc (suc (suc (suc (suc (suc (suc zero)))))))))))) = record { and = refl; or = refl; opcode = (refl, refl) }
binary_stands (suc (suc (suc (suc (suc (suc (suc (suc (suc (suc (suc (suc (suc zero))))))))))))) = record { and = refl; or = refl; opcode = refl }
binary_stands (suc (suc (suc (suc (suc (suc (suc (suc (suc (suc (suc (suc (suc (suc d)))))))))))))) =
    far (suc (suc (suc (suc (suc (suc (suc (suc (suc (suc (suc (suc (suc (suc d)))))))))))))) (omega arith)

-- the operators but And and Or, and those but Or, by the places of their variants
abbrev pub but_short : List ℕ
but_short = 0 ∷ 1 ∷ 2 ∷ 3 ∷ 4 ∷ 7 ∷ 8 ∷ 9 ∷ 10 ∷ 11 ∷ 12 ∷ 13 ∷ []

abbrev pub but_or : List ℕ
but_or = 0 ∷ 1 ∷ 2 ∷ 3 ∷ 4 ∷ 5 ∷ 7 ∷ 8 ∷ 9 ∷ 10 ∷ 11 ∷ 12 ∷ 13 ∷ []

not_number : (ks : List ℕ) (o : BinOp) (n : ℕ) → T (not (has_key ks n)) → OneOf ks (tag_of bin_type o) → eqb (bin_number o) n ≡ false
not_number ks o n t k = ne_eqb (bin_number o) n (λ e. miss ks n t (subst (λ (y : ℕ). OneOf ks y) (bin_tag o ∙ e) k))

pub not_and : (o : BinOp) → OneOf but_short (tag_of bin_type o) → eqb (bin_number o) 5 ≡ false
not_and o k = not_number but_short o 5 tt k

pub not_or : (o : BinOp) → OneOf but_short (tag_of bin_type o) → eqb (bin_number o) 6 ≡ false
not_or o k = not_number but_short o 6 tt k

pub not_short : (o : BinOp) → OneOf but_short (tag_of bin_type o) → false ≡ is_short o
not_short o k = sym (ap₂ ◌||◌ (not_and o k) (not_or o k))

-- `and=` and `or=`: the Left's detail says a plain name, and the operator is one of the two
module _ (o : BinOp) (k : Nodes) where
  pub short_plain : {b : Bool} → (child k 0).detail ≡ 0 → b ≡ is_short o → b ≡ short_assign o k
  unfolding short_assign
  short_plain e q = q ∙ sym (ap (λ (x : Bool). x && is_short o) (eq-eqb _ 0 e))

  pub short_member : ((child k 0).detail ≡ 0 → ⊥) → false ≡ short_assign o k
  unfolding short_assign
  short_member ne = sym (ap (λ (x : Bool). x && is_short o) (ne_eqb _ 0 ne))

-- words known by an equation
pub push_as : (w : Context) {w' : Context} {u v : MarkerWords} → u ≡ v → w' ≡ pushed u w → w' ≡ pushed v w
push_as w {w'} e k = subst (λ (z : MarkerWords). w' ≡ pushed z w) e k

module _ {o : BinOp} (d : ℕ) (e : o ≡ binary_of d) where
  stands : Stands d o
  stands = subst (λ (x : BinOp). Stands d x) (sym e) (binary_stands d)

  pub is_and : eqb (bin_number o) 5 ≡ eqb d 5
  is_and = stands.and

  pub is_or : eqb (bin_number o) 6 ≡ eqb d 6
  is_or = stands.or

  -- an operator's opcode pushed, or the refusal: number 13
  pub operated : {c : Walk} {records : List ℕ} {o₀ : Context} {A : State} {w w' : Context} (r : ℕ) → w' ≡ with_operator (from_bin_op o) r w
      → Rep c records o₀ A w → Rep c records o₀ (cond (no_opcode d) (halt (Refused Operator r) A) (emit (mark r (Do (binary_code d) 0)) A)) w'
  operated {c} {records} {o₀} {A} {w} {w'} r k h = by (from_bin_op o) k stands.opcode
    where
      by : (x : Option OpCode) → w' ≡ with_operator x r w → Opcode d x
          → Rep c records o₀ (cond (no_opcode d) (halt (Refused Operator r) A) (emit (mark r (Do (binary_code d) 0)) A)) w'
      by (Some x) k q = given (on_false _ _ _ q.0) (said r (binary_code d) 0 refl refl (push_as w q.1 k) h)
      by None k q = given (on_true _ _ _ q) (halted (Refused Operator r) k h)

  pub short_assign_lem : (k : Nodes) → short_assign o k ≡ is_short_form d k
  unfolding short_assign
  short_assign_lem k = ap₂ (λ (x y : Bool). eqb (child k 0).detail 0 && (x || y)) is_and is_or

  pub short_jump_lem : short_jump o ≡ cond (eqb d 6) JumpIfTrueOrPop JumpIfFalseOrPop
  short_jump_lem = ap (λ (b : Bool). cond b JumpIfTrueOrPop JumpIfFalseOrPop) is_or

-- ---- members

pub record Member (n : ℕ) (k : MemberKind) : Type 0 where
  pub number : member_number k ≡ min n 5
  pub get : op_words (get_of k) ≡ pair_of (code_number (get_code n)) 0
  pub set : op_words (set_of k) ≡ pair_of (code_number (set_code n)) 0

pub member_stands : (n : ℕ) → Member n (member_of n)
unfolding member_of
member_stands zero = record { number = refl; get = refl; set = refl }
member_stands (suc zero) = record { number = refl; get = refl; set = refl }
member_stands (suc (suc zero)) = record { number = refl; get = refl; set = refl }
member_stands (suc (suc (suc zero))) = record { number = refl; get = refl; set = refl }
member_stands (suc (suc (suc (suc zero)))) = record { number = refl; get = refl; set = refl }
member_stands (suc (suc (suc (suc (suc zero))))) = record { number = refl; get = refl; set = refl }
member_stands (suc (suc (suc (suc (suc (suc n)))))) = record { number = omega arith; get = refl; set = refl }

-- the opcode that sets a member, by its own number
pub set_own : (k : MemberKind) → op_words (set_of k) ≡ pair_of (code_number (set_code (member_number k))) 0
set_own member.Bracket = refl
set_own member.Dot = refl
set_own member.DoubleColon = refl
set_own member.BracketMeta = refl
set_own member.DotMeta = refl
set_own member.DoubleColonMeta = refl

-- the Metas, and the two that hand their table on, by the places of the other variants
member_not : (ks : List ℕ) (k : MemberKind) (n : ℕ) → T (not (has_key ks n)) → OneOf ks (tag_of member-type k) → member_number k ≡ n → ⊥
member_not ks k n t h e = miss ks n t (subst (λ (y : ℕ). OneOf ks y) (member_tag k ∙ e) h)

pub not_method : (k : MemberKind) → OneOf (0 ∷ 2 ∷ 3 ∷ 5 ∷ []) (tag_of member-type k) → false ≡ eqb (member_number k) 1 || eqb (member_number k) 4
not_method k h =
    sym (ap₂ ◌||◌ (ne_eqb (member_number k) 1 (member_not (0 ∷ 2 ∷ 3 ∷ 5 ∷ []) k 1 tt h)) (ne_eqb (member_number k) 4 (member_not (0 ∷ 2 ∷ 3 ∷ 5 ∷ []) k 4 tt h)))

module _ {k : MemberKind} (n : ℕ) (e : k ≡ member_of n) where
  stands_for : Member n k
  stands_for = subst (λ (x : MemberKind). Member n x) (sym e) (member_stands n)

  pub member_number_lem : member_number k ≡ min n 5
  member_number_lem = stands_for.number

  pub get_words : op_words (get_of k) ≡ pair_of (code_number (get_code n)) 0
  get_words = stands_for.get

  pub set_words : op_words (set_of k) ≡ pair_of (code_number (set_code n)) 0
  set_words = stands_for.set

  -- the opcode that sets it, by its own number
  pub set_number : set_code (member_number k) ≡ set_code n
  set_number = ap set_code member_number_lem ∙ by (ltb n 5) refl
    where
      by : (b : Bool) → ltb n 5 ≡ b → set_code (min n 5) ≡ set_code n
      by true q = let h : n < 5 = ltb-true n 5 q in ap set_code (let z : min n 5 ≡ n = omega arith in z)
      by false q =
          let h : 5 ≤ n = ltb-false n 5 q in
          get_or-eq_default (SetItem ∷ SetAttr ∷ SetAttr ∷ []) SetMeta (omega arith) ∙ sym (get_or-eq_default (SetItem ∷ SetAttr ∷ SetAttr ∷ []) SetMeta (omega arith))

  -- the Metas are the numbers from 3 on
  pub is_meta_lem : is_meta k ≡ ltb 2 n
  is_meta_lem = by (ltb 2 n) refl
    where
      by : (b : Bool) → ltb 2 n ≡ b → is_meta k ≡ ltb 2 n
      by true q = let h : 2 < n = ltb-true 2 n q in lt-ltb 2 (member_number k) (omega (arith, member_number_lem)) ∙ sym q
      by false q = let h : n ≤ 2 = ltb-false 2 n q in le-ltb 2 (member_number k) (omega (arith, member_number_lem)) ∙ sym q

  pub is_number : (m : ℕ) → m < 5 → eqb (member_number k) m ≡ eqb n m
  is_number m h = by (eqb n m) refl
    where
      by : (b : Bool) → eqb n m ≡ b → eqb (member_number k) m ≡ eqb n m
      by true q = let z : n ≡ m = eqb-true n m q in eq-eqb (member_number k) m (omega (arith, member_number_lem)) ∙ sym q
      by false q = let z : n ≡ m → ⊥ = eqb-false n m q in ne_eqb (member_number k) m (λ y. z (omega (arith, member_number_lem))) ∙ sym q

-- a Left's detail is 1 + member
pub left_meta : {A : Type 0} {k : MemberKind} (d : ℕ) → k ≡ member_of (d - 1) → (d ≡ 0 → ⊥) → (x y : A) → cond (ltb d 4) x y ≡ cond (is_meta k) y x
left_meta {A} {k} d e ne x y = by (ltb d 4) refl
  where
    by : (b : Bool) → ltb d 4 ≡ b → cond (ltb d 4) x y ≡ cond (is_meta k) y x
    by true q = let h : d < 4 = ltb-true d 4 q in on_true _ _ _ q ∙ sym (on_false _ _ _ (is_meta_lem (d - 1) e ∙ le-ltb 2 (d - 1) (omega arith)))
    by false q = let h : 4 ≤ d = ltb-false d 4 q in on_false _ _ _ q ∙ sym (on_true _ _ _ (is_meta_lem (d - 1) e ∙ lt-ltb 2 (d - 1) (omega arith)))

-- ---- a callee that is a method

pub method_by : (w : Words) (n : ℕ) {k : MemberKind} {b : Bool} → n ≡ w.kind → n ≡ 12 → k ≡ member_of (w.detail % 8)
    → b ≡ eqb (member_number k) 1 || eqb (member_number k) 4 → b ≡ is_method w
method_by w n e q m h =
    h ∙ ap₂ ◌||◌ (is_number (w.detail % 8) m 1 (lit< tt)) (is_number (w.detail % 8) m 4 (lit< tt))
    ∙ sym (ap (λ (b : Bool). b && (eqb (w.detail % 8) 1 || eqb (w.detail % 8) 4)) (eq-eqb w.kind 12 (sym e ∙ q)))
