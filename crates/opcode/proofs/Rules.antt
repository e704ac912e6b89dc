-- The rules of the tables by code, each one equation of lists that antt computes over the opcodes in order, at any operand.
-- Assumes nothing.
use Rattle.std.proofs.Common.{◌≡◌, refl, sym, ap, ◌∙◌, Bool, false, not, ℕ, ◌≤◌, ◌<◌, zero-add, List, [], Option, Some, None, Bor, map, slice_get, unwrap_or, option_copied}
use Rattle.std.specs.List.{range_with_len}
use Rattle.std.proofs.lemmas.List.FromFn.{get_or-map-range_with_len}
use Rattle.std.proofs.lemmas.Option.{unwrap_or-slice_get}
use lib.Dec.{eqb, leb, ltb}
use lib.ListN.{get_or, get_or-eq_default}
use Rattle.opcode.specs.Words.{op_words}
use Rattle.opcode.specs.Kinds.{operand_kind_of, operand_kind, is_label, is_target, targets}
use Rattle.opcode.specs.Names.{name_of, name, names, bytes}
use Rattle.opcode.specs.declared.opcode.OpCode.{OpCode}
use Rattle.opcode.specs.declared.opcode.OperandKind.{OperandKind}
use Rattle.opcode.proofs.Table.{both}
use Rattle.opcode.proofs.Every.{entry, every_opcode}

-- what two functions make of the numbers below n, as lists, they make of each
below : {A : Type 0} (n : ℕ) (f g : ℕ → A) → map f (range_with_len 0 n) ≡ map g (range_with_len 0 n) → (k : ℕ) → k < n → f k ≡ g k
below n f g e k h =
    sym (get_or-map-range_with_len f 0 n k k (f k) h (zero-add k)) ∙ ap (λ l. get_or l k (f k)) e
    ∙ get_or-map-range_with_len g 0 n k k (f k) h (zero-add k)

abbrev pub code : OpCode → ℕ
code o = (op_words o).code

-- the opcodes are numbered in the order of the enum
pub in_order_lem : (k x : ℕ) → k < 52 → code (entry k x) ≡ k
in_order_lem k x h = below 52 (λ i. code (entry i x)) (λ i. i) refl k h

-- by code, an operand's kind is the one that its type in the enum has
pub kind_right : (o : OpCode) → operand_kind (code o) ≡ Some (operand_kind_of o)
unfolding operand_kind
kind_right =
    every_opcode (λ o. operand_kind (code o) ≡ Some (operand_kind_of o))
    (λ k x h. below 52 (λ i. operand_kind (code (entry i x))) (λ i. Some (operand_kind_of (entry i x))) refl k h)

-- by code, a name is the enum's
pub name_right : (o : OpCode) → name (code o) ≡ bytes (name_of o)
unfolding name
name_right =
    every_opcode (λ o. name (code o) ≡ bytes (name_of o))
    (λ k x h. below 52 (λ i. name (code (entry i x))) (λ i. bytes (name_of (entry i x))) refl k h)

-- by code, an operand is a target where the enum has a label
pub target_right : (o : OpCode) → is_target (code o) ≡ is_label (operand_kind_of o)
unfolding is_target
target_right =
    every_opcode (λ o. is_target (code o) ≡ is_label (operand_kind_of o))
    (λ k x h. below 52 (λ i. is_target (code (entry i x))) (λ i. is_label (operand_kind_of (entry i x))) refl k h)

-- the text of a code that was found, or else an empty one, is the code's name
pub name_or : (k : ℕ) (r : Option (Bor (List ℕ))) (d : Bor (List ℕ)) → d.now ≡ [] → option_copied r ≡ slice_get names k → (unwrap_or r d).now ≡ name k
unfolding name
name_or k None d e h = e ∙ ap (λ o. unwrap_or o []) h ∙ unwrap_or-slice_get names k []
name_or k (Some x) d e h = ap (λ o. unwrap_or o []) h ∙ unwrap_or-slice_get names k []

abbrev pub labelled : Option OperandKind → Bool
labelled (Some k) = is_label k
labelled None = false

-- of the 53 codes the targets are those with a label for an operand, but for Label itself
pub target_kind : (k : ℕ) → k < 53 → is_target k ≡ both (labelled (operand_kind k)) (not (eqb k 52))
unfolding is_target operand_kind
target_kind k h = below 53 is_target (λ i. both (labelled (operand_kind i)) (not (eqb i 52))) refl k h

-- the codes of the ten opcodes that `jump_target` names
pub target_codes : (k : ℕ) → k < 53 → is_target k ≡ both (leb 40 k) (ltb k 50)
unfolding is_target
target_codes k h = below 53 is_target (λ i. both (leb 40 i) (ltb i 50)) refl k h

-- past the last code nothing is a target
pub target_past : (k : ℕ) → 53 ≤ k → is_target k ≡ false
unfolding is_target
target_past k h = get_or-eq_default targets false h
