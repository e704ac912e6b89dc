-- Tests of a list of steps, each of them computed: whether it runs or brings a Function, names a name but by load or store, or names an operand that is
-- greater than n. Assumes nothing.
use mathlib.Core.Path.{sym, subst}
use mathlib.Core.Bool.{Bool, true, false, not, cond, ◌&&◌, ◌||◌}
use mathlib.Core.List.{List, [], ◌∷◌}
use Prim.Native.Nat.{ℕ, zero, suc, ◌+◌, ◌≤◌}
use native.Mathlib.Omega.{arith}
use lib.ListN.{get_or}
use lib.Dec.{T, eqb, ltb, leb}
use borrow.Author.Tests.{le-leb}
use Rattle.tables.specs.Record.{Words, is_kind}
use Rattle.tables.specs.Forest.{Nodes, bare, node}
use Rattle.tables.proofs.ForestLaws.{and_l, and_r}
use Rattle.pool.specs.Value.{Value, plain, effect, lit, below}
use Rattle.rules.specs.Marker.{
  Code,
  Pop,
  Copy,
  Swap,
  LoadLocal,
  LoadGlobal,
  LoadUpvalue,
  StoreLocal,
  StoreGlobal,
  BuildTable,
  BuildList,
  GetAttr,
  GetItem,
  GetMeta,
  SetAttr,
  SetItem,
  SetMeta,
  Neg,
  Not,
  Add,
  Sub,
  Mul,
  Div,
  Rem,
  Eq,
  Ne,
  Gt,
  Ge,
  Lt,
  Le,
  TypeCheck,
  GetLen,
  ImportGlob,
  Iter,
  Call,
  Return,
  ReturnCall,
  LoadLocals,
  CheckEffect,
  MarkAddStackSize,
}
use Rattle.rules.specs.Step.{Step, push_op, push_const, get_label, place, jump, jump_back, visit, begin_loop, end_loop, exit, check_return, access, refuse, inner, width}
use Rattle.rules.specs.Arms.{unary_code, binary_code, get_code, set_code, arguments}

-- a constant that is no Function
abbrev pub no_function : Value → Bool
no_function (plain k p q) = not (eqb k 6)
no_function (effect n ps v) = true

-- an opcode that names no local, global or upvalue
abbrev pub no_name : Code → Bool
no_name Pop = true
no_name Copy = true
no_name Swap = true
no_name LoadLocal = false
no_name LoadGlobal = false
no_name LoadUpvalue = false
no_name StoreLocal = false
no_name StoreGlobal = false
no_name BuildTable = true
no_name BuildList = true
no_name GetAttr = true
no_name GetItem = true
no_name GetMeta = true
no_name SetAttr = true
no_name SetItem = true
no_name SetMeta = true
no_name Neg = true
no_name Not = true
no_name Add = true
no_name Sub = true
no_name Mul = true
no_name Div = true
no_name Rem = true
no_name Eq = true
no_name Ne = true
no_name Gt = true
no_name Ge = true
no_name Lt = true
no_name Le = true
no_name TypeCheck = true
no_name GetLen = true
no_name ImportGlob = true
no_name Iter = true
no_name Call = true
no_name Return = true
no_name ReturnCall = true
no_name LoadLocals = true
no_name CheckEffect = true
no_name MarkAddStackSize = true

-- no step of a list runs or brings a Function, or names a name but by load or store
unfoldable pub pure : List Step → Bool
pure [] = true
pure (push_op c x ∷ is) = no_name c && pure is
pure (push_const c p v ∷ is) = no_function v && pure is
pure (get_label ∷ is) = pure is
pure (place i ∷ is) = pure is
pure (jump h i ∷ is) = pure is
pure (jump_back i ∷ is) = pure is
pure (visit y a j ∷ is) = pure is
pure (begin_loop i j ∷ is) = pure is
pure (end_loop ∷ is) = pure is
pure (exit x ∷ is) = pure is
pure (check_return ∷ is) = pure is
pure (access u p ∷ is) = pure is
pure (refuse x ∷ is) = pure is
pure (inner ∷ is) = false

pub both : (a b : Bool) → T a → T b → T (a && b)
both true b p q = q
both false b p q = p

-- an operand of a few bits, or at most n
abbrev pub held_by : ℕ → ℕ → Bool
held_by n x = ltb x 8 || leb x n

-- the same, and no step names an operand past n but by a load or store
unfoldable pub tame : ℕ → List Step → Bool
tame n [] = true
tame n (push_op c x ∷ is) = no_name c && (held_by n x && tame n is)
tame n (push_const c p v ∷ is) = no_function v && tame n is
tame n (get_label ∷ is) = tame n is
tame n (place i ∷ is) = tame n is
tame n (jump h i ∷ is) = tame n is
tame n (jump_back i ∷ is) = tame n is
tame n (visit y a j ∷ is) = tame n is
tame n (begin_loop i j ∷ is) = tame n is
tame n (end_loop ∷ is) = tame n is
tame n (exit x ∷ is) = tame n is
tame n (check_return ∷ is) = tame n is
tame n (access u p ∷ is) = tame n is
tame n (refuse x ∷ is) = tame n is
tame n (inner ∷ is) = false

pub tame_pure : (n : ℕ) (is : List Step) → T (tame n is) → T (pure is)
unfolding tame pure
tame_pure n [] q = tt
tame_pure n (push_op c x ∷ is) q =
    both (no_name c) (pure is) (and_l (no_name c) _ q) (tame_pure n is (and_r (held_by n x) (tame n is) (and_r (no_name c) _ q)))
tame_pure n (push_const c p v ∷ is) q = both (no_function v) (pure is) (and_l (no_function v) (tame n is) q) (tame_pure n is (and_r (no_function v) (tame n is) q))
tame_pure n (get_label ∷ is) q = tame_pure n is q
tame_pure n (place i ∷ is) q = tame_pure n is q
tame_pure n (jump h i ∷ is) q = tame_pure n is q
tame_pure n (jump_back i ∷ is) q = tame_pure n is q
tame_pure n (visit y a j ∷ is) q = tame_pure n is q
tame_pure n (begin_loop i j ∷ is) q = tame_pure n is q
tame_pure n (end_loop ∷ is) q = tame_pure n is q
tame_pure n (exit x ∷ is) q = tame_pure n is q
tame_pure n (check_return ∷ is) q = tame_pure n is q
tame_pure n (access u p ∷ is) q = tame_pure n is q
tame_pure n (refuse x ∷ is) q = tame_pure n is q
tame_pure n (inner ∷ is) q = absurd q

-- how many nodes there are, and some of them
abbrev pub tally : Nodes → ℕ
tally bare = 0
tally (node w k s) = suc (tally k + tally s)

pub width_most : (k : Nodes) → width k ≤ tally k
width_most bare = omega arith
width_most (node w k s) = omega (arith, width_most s)

pub below_most : (k : Nodes) (j : ℕ) → width (below k j) ≤ tally k
below_most bare j = omega arith
below_most (node w k s) zero = omega (arith, width_most k)
below_most (node w k s) (suc j) = omega (arith, below_most s j)

pub arguments_most : (s : Nodes) → arguments s ≤ tally s
arguments_most bare = omega arith
arguments_most (node w k s) = go (is_kind 32 w) (arguments_most s)
  where
    go : (b : Bool) → arguments s ≤ tally s → cond b 0 (suc (arguments s)) ≤ suc (tally k + tally s)
    go true h = omega arith
    go false h = omega arith

-- a record whose detail, and whose nodes below, are at most n
pub record Modest (n : ℕ) (w : Words) (k : Nodes) : Type 0 where
  pub detail : w.detail ≤ n
  pub nodes : tally k ≤ n

pub held : (n x : ℕ) → x ≤ n → T (held_by n x)
held n x h = by (ltb x 8)
  where
    by : (b : Bool) → T (b || leb x n)
    by true = tt
    by false = subst T (sym (le-leb x n h)) tt

pub lit_pure : (d p q : ℕ) → T (no_function (lit d p q))
lit_pure zero p q = tt
lit_pure (suc zero) p q = tt
lit_pure (suc (suc zero)) p q = tt
lit_pure (suc (suc (suc zero))) p q = tt
lit_pure (suc (suc (suc (suc zero)))) p q = tt
lit_pure (suc (suc (suc (suc (suc d))))) p q = tt

-- a code from a table of codes that name none
abbrev AllPlain : List Code → Type 0
AllPlain [] = Unit {0}
AllPlain (c ∷ cs) = T (no_name c) × AllPlain cs

code_pure : (cs : List Code) → AllPlain cs → (d : Code) → T (no_name d) → (n : ℕ) → T (no_name (get_or cs n d))
code_pure [] h d u n = u
code_pure (c ∷ cs) (h, hs) d u zero = h
code_pure (c ∷ cs) (h, hs) d u (suc n) = code_pure cs hs d u n

pub get_pure : (m : ℕ) → T (no_name (get_code m))
get_pure m = code_pure (GetItem ∷ GetAttr ∷ GetAttr ∷ []) (tt, (tt, (tt, tt))) GetMeta tt m

pub set_pure : (m : ℕ) → T (no_name (set_code m))
set_pure m = code_pure (SetItem ∷ SetAttr ∷ SetAttr ∷ []) (tt, (tt, (tt, tt))) SetMeta tt m

pub unary_pure : (d : ℕ) → T (no_name (unary_code d))
unary_pure d = code_pure (Not ∷ Neg ∷ []) (tt, (tt, tt)) Not tt d

pub binary_pure : (d : ℕ) → T (no_name (binary_code d))
binary_pure d =
    code_pure (Add ∷ Sub ∷ Mul ∷ Div ∷ Rem ∷ Add ∷ Add ∷ Eq ∷ Ne ∷ Lt ∷ Le ∷ Gt ∷ Ge ∷ [])
    (tt, (tt, (tt, (tt, (tt, (tt, (tt, (tt, (tt, (tt, (tt, (tt, (tt, tt))))))))))))) Add tt d

-- one instruction of a computed code at the end
pub coded : (c : Code) → T (no_name c) → T (no_name c && true)
coded c u = both (no_name c) true u tt
