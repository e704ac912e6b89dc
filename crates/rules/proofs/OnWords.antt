-- Markers and their words: what stands at a place of the words is what stands at that place of the stream. Assumes nothing.
use mathlib.Core.Path.{◌≡◌, refl, sym, ap, subst, ◌∙◌}
use mathlib.Core.Bool.{Bool, not, ◌&&◌}
use mathlib.Core.List.{List, [], ◌∷◌, ◌++◌, reverse_aux}
use Prim.Native.Nat.{ℕ, zero, suc, ◌+◌, ◌*◌, ◌<◌}
use native.Mathlib.Omega.{arith}
use lib.ListN.{length, get_or}
use lib.Dec.{T, eqb, eqb_refl, T_not}
use Rattle.tables.proofs.ForestLaws.{and_l, and_r}
use Rattle.opcode.specs.Kinds.{is_target}
use Rattle.pool.specs.Value.{Const}
use Rattle.rules.specs.Marker.{
  Forward,
  Jump,
  PopJumpIfFalse,
  JumpIfTrueOrPop,
  JumpIfFalseOrPop,
  JumpPopIfNull,
  RegisterHandler,
  Way,
  Break,
  Continue,
  ConstOp,
  LoadConst,
  Import,
  ImportFrom,
  Code,
  Pop,
  Copy,
  Swap,
  LoadLocal,
  LoadGlobal,
  LoadUpvalue,
  StoreLocal,
  StoreGlobal,
  BuildTable,
  BuildList,
  GetAttr,
  GetItem,
  GetMeta,
  SetAttr,
  SetItem,
  SetMeta,
  Neg,
  Not,
  Add,
  Sub,
  Mul,
  Div,
  Rem,
  Eq,
  Ne,
  Gt,
  Ge,
  Lt,
  Le,
  TypeCheck,
  GetLen,
  ImportGlob,
  Iter,
  Call,
  Return,
  ReturnCall,
  LoadLocals,
  CheckEffect,
  MarkAddStackSize,
  Op,
  Label,
  To,
  Back,
  Leave,
  Load,
  Do,
  Mark,
  mark,
}
use Rattle.rules.specs.Out.{forward_number, way_number, const_number, code_number, code_word, operand_word, marker_words}
use Rattle.rules.specs.Demand.{code, operand}

abbrev pub op_of : Mark → Op
op_of (mark r x) = x

abbrev pub blank : Mark
blank = mark 0 (Label 0)

-- the words of markers, oldest first
unfoldable pub words_of : List Const → List Mark → List ℕ
words_of cs [] = []
words_of cs (mark r x ∷ xs) = code_word x ∷ operand_word cs x ∷ words_of cs xs

words_on : (cs : List Const) (xs ms : List Mark) (ws : List ℕ) → marker_words cs (reverse_aux xs ms) ws ≡ marker_words cs ms (words_of cs xs ++ ws)
unfolding marker_words words_of
words_on cs [] ms ws = refl
words_on cs (mark r x ∷ xs) ms ws = words_on cs xs (mark r x ∷ ms) ws

append_none : (ws : List ℕ) → ws ++ [] ≡ ws
append_none [] = refl
append_none (x ∷ ws) = ap (λ z. x ∷ z) (append_none ws)

pub marker_words_are : (cs : List Const) (xs : List Mark) → marker_words cs (reverse_aux xs []) [] ≡ words_of cs xs
unfolding marker_words
marker_words_are cs xs = words_on cs xs [] [] ∙ append_none (words_of cs xs)

-- marker i
pub code_at : (cs : List Const) (xs : List Mark) (i : ℕ) → i < length xs → code (words_of cs xs) i ≡ code_word (op_of (get_or xs i blank))
unfolding words_of
code_at cs [] i h = absurd (omega arith)
code_at cs (mark r x ∷ xs) zero h = refl
code_at cs (mark r x ∷ xs) (suc i) h =
    let e : suc i * 2 ≡ suc (suc (i * 2)) = omega arith in
    ap (λ (j : ℕ). get_or (code_word x ∷ operand_word cs x ∷ words_of cs xs) j 0) e ∙ code_at cs xs i (omega arith)

pub operand_at : (cs : List Const) (xs : List Mark) (i : ℕ) → i < length xs → operand (words_of cs xs) i ≡ operand_word cs (op_of (get_or xs i blank))
unfolding words_of
operand_at cs [] i h = absurd (omega arith)
operand_at cs (mark r x ∷ xs) zero h = refl
operand_at cs (mark r x ∷ xs) (suc i) h =
    let e : suc i * 2 + 1 ≡ suc (suc (i * 2 + 1)) = omega arith in
    ap (λ (j : ℕ). get_or (code_word x ∷ operand_word cs x ∷ words_of cs xs) j 0) e ∙ operand_at cs xs i (omega arith)

-- no other opcode has Label's number, or a target
ordinary : ℕ → Bool
ordinary n = not (eqb n 52) && not (is_target n)

code_ordinary : (c : Code) → T (ordinary (code_number c))
unfolding ordinary is_target
code_ordinary Pop = tt
code_ordinary Copy = tt
code_ordinary Swap = tt
code_ordinary LoadLocal = tt
code_ordinary LoadGlobal = tt
code_ordinary LoadUpvalue = tt
code_ordinary StoreLocal = tt
code_ordinary StoreGlobal = tt
code_ordinary BuildTable = tt
code_ordinary BuildList = tt
code_ordinary GetAttr = tt
code_ordinary GetItem = tt
code_ordinary GetMeta = tt
code_ordinary SetAttr = tt
code_ordinary SetItem = tt
code_ordinary SetMeta = tt
code_ordinary Neg = tt
code_ordinary Not = tt
code_ordinary Add = tt
code_ordinary Sub = tt
code_ordinary Mul = tt
code_ordinary Div = tt
code_ordinary Rem = tt
code_ordinary Eq = tt
code_ordinary Ne = tt
code_ordinary Gt = tt
code_ordinary Ge = tt
code_ordinary Lt = tt
code_ordinary Le = tt
code_ordinary TypeCheck = tt
code_ordinary GetLen = tt
code_ordinary ImportGlob = tt
code_ordinary Iter = tt
code_ordinary Call = tt
code_ordinary Return = tt
code_ordinary ReturnCall = tt
code_ordinary LoadLocals = tt
code_ordinary CheckEffect = tt
code_ordinary MarkAddStackSize = tt

const_ordinary : (c : ConstOp) → T (ordinary (const_number c))
unfolding ordinary is_target
const_ordinary LoadConst = tt
const_ordinary Import = tt
const_ordinary ImportFrom = tt

never : {A : Type 0} (n m : ℕ) → T (not (eqb n m)) → n ≡ m → A
never n m t e = absurd (T_not (eqb n m) t (subst (λ (z : ℕ). T (eqb n z)) e (eqb_refl n)))

forward_other : (h : Forward) → T (not (eqb (forward_number h) 52))
forward_other Jump = tt
forward_other PopJumpIfFalse = tt
forward_other JumpIfTrueOrPop = tt
forward_other JumpIfFalseOrPop = tt
forward_other JumpPopIfNull = tt
forward_other RegisterHandler = tt

way_other : (x : Way) → T (not (eqb (way_number x) 52))
way_other Break = tt
way_other Continue = tt

not_label : (n : ℕ) → T (ordinary n) → T (not (eqb n 52))
unfolding ordinary
not_label n t = and_l (not (eqb n 52)) (not (is_target n)) t

not_target : (n : ℕ) → T (ordinary n) → T (not (is_target n))
unfolding ordinary
not_target n t = and_r (not (eqb n 52)) (not (is_target n)) t

-- 52 is a Label's number only
pub is_label : (x : Op) → code_word x ≡ 52 → (l : ℕ) × (x ≡ Label l)
is_label (Label l) e = (l, refl)
is_label (To h l) e = never (forward_number h) 52 (forward_other h) e
is_label (Back l) e = never 41 52 tt e
is_label (Leave x l) e = never (way_number x) 52 (way_other x) e
is_label (Load c v) e = never (const_number c) 52 (not_label (const_number c) (const_ordinary c)) e
is_label (Do c n) e = never (code_number c) 52 (not_label (code_number c) (code_ordinary c)) e

-- an instruction whose operand is a target
pub data Targeting : Op → Type 0 where
  forward : (h : Forward) (l : ℕ) → Targeting (To h l)
  backward : (l : ℕ) → Targeting (Back l)
  leaving : (x : Way) (l : ℕ) → Targeting (Leave x l)

pub is_targeting : (x : Op) → T (is_target (code_word x)) → Targeting x
unfolding is_target
is_targeting (Label l) t = absurd t
is_targeting (To h l) t = forward h l
is_targeting (Back l) t = backward l
is_targeting (Leave x l) t = leaving x l
is_targeting (Load c v) t = absurd (T_not (is_target (const_number c)) (not_target (const_number c) (const_ordinary c)) t)
is_targeting (Do c n) t = absurd (T_not (is_target (code_number c)) (not_target (code_number c) (code_ordinary c)) t)

target_of : (n : ℕ) → T (is_target n) → T (ordinary n) → ⊥
target_of n t u = T_not (is_target n) (not_target n u) t

-- 42 is Break's number only, 43 Continue's, and 41 JumpBackEdge's
pub is_break : (x : Op) → code_word x ≡ 42 → (l : ℕ) × (x ≡ Leave Break l)
unfolding is_target
is_break (Label l) e = never 52 42 tt e
is_break (To Jump l) e = never 40 42 tt e
is_break (To PopJumpIfFalse l) e = never 46 42 tt e
is_break (To JumpIfTrueOrPop l) e = never 47 42 tt e
is_break (To JumpIfFalseOrPop l) e = never 48 42 tt e
is_break (To JumpPopIfNull l) e = never 44 42 tt e
is_break (To RegisterHandler l) e = never 49 42 tt e
is_break (Back l) e = never 41 42 tt e
is_break (Leave Break l) e = (l, refl)
is_break (Leave Continue l) e = never 43 42 tt e
is_break (Load c v) e = absurd (target_of (const_number c) (subst (λ (z : ℕ). T (is_target z)) (sym e) tt) (const_ordinary c))
is_break (Do c n) e = absurd (target_of (code_number c) (subst (λ (z : ℕ). T (is_target z)) (sym e) tt) (code_ordinary c))

pub is_continue : (x : Op) → code_word x ≡ 43 → (l : ℕ) × (x ≡ Leave Continue l)
unfolding is_target
is_continue (Label l) e = never 52 43 tt e
is_continue (To Jump l) e = never 40 43 tt e
is_continue (To PopJumpIfFalse l) e = never 46 43 tt e
is_continue (To JumpIfTrueOrPop l) e = never 47 43 tt e
is_continue (To JumpIfFalseOrPop l) e = never 48 43 tt e
is_continue (To JumpPopIfNull l) e = never 44 43 tt e
is_continue (To RegisterHandler l) e = never 49 43 tt e
is_continue (Back l) e = never 41 43 tt e
is_continue (Leave Break l) e = never 42 43 tt e
is_continue (Leave Continue l) e = (l, refl)
is_continue (Load c v) e = absurd (target_of (const_number c) (subst (λ (z : ℕ). T (is_target z)) (sym e) tt) (const_ordinary c))
is_continue (Do c n) e = absurd (target_of (code_number c) (subst (λ (z : ℕ). T (is_target z)) (sym e) tt) (code_ordinary c))
