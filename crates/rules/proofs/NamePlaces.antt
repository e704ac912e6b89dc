-- Every local, global and upvalue that a stream names lies inside its table. Assumes nothing.
use mathlib.Core.Path.{◌≡◌, refl, sym, subst}
use mathlib.Core.Logic.{inl, inr}
use mathlib.Core.Bool.{Bool, true, false, cond}
use mathlib.Core.List.{List, [], ◌∷◌, ◌++◌, reverse_aux}
use Prim.Native.Nat.{ℕ, zero, suc, ◌+◌, ◌≤◌, ◌<◌}
use native.Mathlib.Omega.{arith}
use native.Mathlib.Decide.{ℕ_discrete, dec_le}
use lib.ListN.{length, get_or, get_or-eq_default}
use lib.Dec.{T}
use Rattle.opcode.specs.Kinds.{operand_kind}
use Rattle.tables.specs.Record.{Words, is_do, is_ident}
use Rattle.tables.specs.Forest.{Forest, none, tree, own_tree}
use Rattle.tables.proofs.ForestLaws.{and_l, and_r, Each, each, each_at}
use Rattle.pool.specs.Value.{Value, Const, function}
use Rattle.tables.specs.declared.refusal.RunRule.TheVariants.{Reference}
use Rattle.pool.specs.Names.{Semantic, Names, no_names, Upvalue, names, names_upto, parent, Access, local, global, upvalue, missing, load as load-name, store as store-name}
use Rattle.pool.proofs.NameUpto.{names_length}
use Rattle.pool.proofs.NamesLaws.{InTable, load_inside, store_inside, Captures, capture_inside, parent_is}
use Rattle.rules.specs.declared.StackCode.{StackCode}
use Rattle.rules.specs.Marker.{
  Forward,
  Jump,
  PopJumpIfFalse,
  JumpIfTrueOrPop,
  JumpIfFalseOrPop,
  JumpPopIfNull,
  RegisterHandler,
  Way,
  Break,
  Continue,
  ConstOp,
  LoadConst,
  Import,
  ImportFrom,
  Code,
  Pop,
  Copy,
  Swap,
  LoadLocal,
  LoadGlobal,
  LoadUpvalue,
  StoreLocal,
  StoreGlobal,
  BuildTable,
  BuildList,
  GetAttr,
  GetItem,
  GetMeta,
  SetAttr,
  SetItem,
  SetMeta,
  Neg,
  Not,
  Add,
  Sub,
  Mul,
  Div,
  Rem,
  Eq,
  Ne,
  Gt,
  Ge,
  Lt,
  Le,
  TypeCheck,
  GetLen,
  ImportGlob,
  Iter,
  Call,
  Return,
  ReturnCall,
  LoadLocals,
  CheckEffect,
  MarkAddStackSize,
  Op,
  Label,
  To,
  Back,
  Leave,
  Load,
  Do,
  Mark,
  mark,
}
use Rattle.rules.specs.Step.{Role, Use, Get, Set, Step, push_op, push_const, get_label, place, jump, jump_back, visit, begin_loop, end_loop, exit, check_return}
use Rattle.rules.specs.Step.{access, refuse, inner, expr, load}
use Rattle.rules.specs.Arms.{stream_steps}
use Rattle.rules.specs.Kinds.{steps}
use Rattle.rules.specs.Run.{Loop, loop, drop1, Spot, here, nowhere, spot_at, look}
use Rattle.rules.specs.Out.{consts, code_word, operand_word}
use Rattle.rules.specs.Demand.{code, operand, WithinFound, Captured, no_upvalue}
use Rattle.rules.proofs.Segment.{Seg, no_seg, sought_marks, leaving, seg_code, Segs, no_segs, child_seg, seg_alg, segs_of, seg_of, body_seg}
use Rattle.rules.proofs.StepsOk.{function_only}
use Rattle.rules.proofs.Tame.{no_name, no_function, pure}
use Rattle.rules.proofs.Pure.{steps_pure}
use Rattle.rules.proofs.OnWords.{op_of, blank, words_of, code_at, operand_at}
use Rattle.rules.proofs.ConstPlaces.{load_inside as const-inside}

-- the instruction's operand is inside the table of names that it names
abbrev pub NamedCode : Names → Code → ℕ → Type 0
NamedCode ns Pop n = Unit {0}
NamedCode ns Copy n = Unit {0}
NamedCode ns Swap n = Unit {0}
NamedCode ns LoadLocal n = n < length ns.locals
NamedCode ns LoadGlobal n = n < length ns.globals
NamedCode ns LoadUpvalue n = n < length ns.upvalues
NamedCode ns StoreLocal n = n < length ns.locals
NamedCode ns StoreGlobal n = n < length ns.globals
NamedCode ns BuildTable n = Unit {0}
NamedCode ns BuildList n = Unit {0}
NamedCode ns GetAttr n = Unit {0}
NamedCode ns GetItem n = Unit {0}
NamedCode ns GetMeta n = Unit {0}
NamedCode ns SetAttr n = Unit {0}
NamedCode ns SetItem n = Unit {0}
NamedCode ns SetMeta n = Unit {0}
NamedCode ns Neg n = Unit {0}
NamedCode ns Not n = Unit {0}
NamedCode ns Add n = Unit {0}
NamedCode ns Sub n = Unit {0}
NamedCode ns Mul n = Unit {0}
NamedCode ns Div n = Unit {0}
NamedCode ns Rem n = Unit {0}
NamedCode ns Eq n = Unit {0}
NamedCode ns Ne n = Unit {0}
NamedCode ns Gt n = Unit {0}
NamedCode ns Ge n = Unit {0}
NamedCode ns Lt n = Unit {0}
NamedCode ns Le n = Unit {0}
NamedCode ns TypeCheck n = Unit {0}
NamedCode ns GetLen n = Unit {0}
NamedCode ns ImportGlob n = Unit {0}
NamedCode ns Iter n = Unit {0}
NamedCode ns Call n = Unit {0}
NamedCode ns Return n = Unit {0}
NamedCode ns ReturnCall n = Unit {0}
NamedCode ns LoadLocals n = Unit {0}
NamedCode ns CheckEffect n = Unit {0}
NamedCode ns MarkAddStackSize n = Unit {0}

abbrev pub NamedOp : Names → Op → Type 0
NamedOp ns (Label l) = Unit {0}
NamedOp ns (To h l) = Unit {0}
NamedOp ns (Back l) = Unit {0}
NamedOp ns (Leave x l) = Unit {0}
NamedOp ns (Load c v) = Unit {0}
NamedOp ns (Do c n) = NamedCode ns c n

abbrev pub AllNamed : Names → List Mark → Type 0
AllNamed ns [] = Unit {0}
AllNamed ns (mark r x ∷ ms) = NamedOp ns x × AllNamed ns ms

named_append : (ns : Names) (xs ys : List Mark) → AllNamed ns xs → AllNamed ns ys → AllNamed ns (xs ++ ys)
named_append ns [] ys p q = q
named_append ns (mark r x ∷ xs) ys (a, p) q = (a, named_append ns xs ys p q)

named_at : (ns : Names) (xs : List Mark) (i : ℕ) → AllNamed ns xs → i < length xs → NamedOp ns (op_of (get_or xs i blank))
named_at ns [] i a h = absurd (omega arith)
named_at ns (mark r x ∷ xs) zero (a, p) h = a
named_at ns (mark r x ∷ xs) (suc i) (a, p) h = named_at ns xs i p (omega arith)

-- an opcode that names no name
plain_named : (ns : Names) (c : Code) (n : ℕ) → T (no_name c) → NamedCode ns c n
plain_named ns Pop n t = tt
plain_named ns Copy n t = tt
plain_named ns Swap n t = tt
plain_named ns LoadLocal n t = absurd t
plain_named ns LoadGlobal n t = absurd t
plain_named ns LoadUpvalue n t = absurd t
plain_named ns StoreLocal n t = absurd t
plain_named ns StoreGlobal n t = absurd t
plain_named ns BuildTable n t = tt
plain_named ns BuildList n t = tt
plain_named ns GetAttr n t = tt
plain_named ns GetItem n t = tt
plain_named ns GetMeta n t = tt
plain_named ns SetAttr n t = tt
plain_named ns SetItem n t = tt
plain_named ns SetMeta n t = tt
plain_named ns Neg n t = tt
plain_named ns Not n t = tt
plain_named ns Add n t = tt
plain_named ns Sub n t = tt
plain_named ns Mul n t = tt
plain_named ns Div n t = tt
plain_named ns Rem n t = tt
plain_named ns Eq n t = tt
plain_named ns Ne n t = tt
plain_named ns Gt n t = tt
plain_named ns Ge n t = tt
plain_named ns Lt n t = tt
plain_named ns Le n t = tt
plain_named ns TypeCheck n t = tt
plain_named ns GetLen n t = tt
plain_named ns ImportGlob n t = tt
plain_named ns Iter n t = tt
plain_named ns Call n t = tt
plain_named ns Return n t = tt
plain_named ns ReturnCall n t = tt
plain_named ns LoadLocals n t = tt
plain_named ns CheckEffect n t = tt
plain_named ns MarkAddStackSize n t = tt

sought_named : (ns : Names) (r : ℕ) (u : Use) (x : Access) → InTable ns x → AllNamed ns (sought_marks r u x)
sought_named ns r Get (local n) h = (h, tt)
sought_named ns r Set (local n) h = (h, tt)
sought_named ns r Get (global n) h = (h, tt)
sought_named ns r Set (global n) h = (h, tt)
sought_named ns r u (upvalue n) h = (h, tt)
sought_named ns r u (missing x) h = tt

leaving_named : (ns : Names) (r : ℕ) (x : Way) (ls : List Loop) → AllNamed ns (leaving r x ls)
leaving_named ns r x [] = tt
leaving_named ns r x (loop o c b ∷ ls) = (tt, tt)

if_inside : (ns : Names) (b : Bool) (x : Access) → InTable ns x → InTable ns (cond b x (missing Reference))
if_inside ns true x h = h
if_inside ns false x h = tt

look_inside : (t : Semantic) (fn : Words) (u : Use) (x : Spot) → InTable (names t fn.p) (look t fn u x)
look_inside t fn Get (here r w) = if_inside (names t fn.p) (is_ident w) (load-name t fn.p w.p) (load_inside t fn.p w.p)
look_inside t fn Set (here r w) = if_inside (names t fn.p) (is_ident w) (store-name t fn.p w.p) (store_inside t fn.p w.p)
look_inside t fn Get nowhere = tt
look_inside t fn Set nowhere = tt

module _ (t : Semantic) (fn : Words) (r : ℕ) (w : Words) (k : Forest) (ks : Role → ℕ → Seg) (body : Seg)
    (at : (a : Role) (j b : ℕ) (ls : List Loop) → AllNamed (names t fn.p) ((ks a j).code b ls)) where
  abbrev ns : Names
  ns = names t fn.p

  steps_named : (is : List Step) → T (pure is) → (env : List ℕ) (b : ℕ) (ls : List Loop) → AllNamed ns (seg_code (look t) fn r w k ks body is env b ls)
  unfolding seg_code pure
  steps_named [] q env b ls = tt
  steps_named (push_op c x ∷ is) q env b ls = (plain_named ns c x (and_l (no_name c) (pure is) q), steps_named is (and_r (no_name c) (pure is) q) env b ls)
  steps_named (push_const c p v ∷ is) q env b ls = (tt, steps_named is (and_r (no_function v) (pure is) q) env b ls)
  steps_named (get_label ∷ is) q env b ls = steps_named is q (env ++ (b ∷ [])) (suc b) ls
  steps_named (place i ∷ is) q env b ls = (tt, steps_named is q env b ls)
  steps_named (jump h i ∷ is) q env b ls = (tt, steps_named is q env b ls)
  steps_named (jump_back i ∷ is) q env b ls = (tt, steps_named is q env b ls)
  steps_named (visit y a j ∷ is) q env b ls = named_append ns ((ks a j).code b ls) _ (at a j b ls) (steps_named is q env (b + (ks a j).count) ls)
  steps_named (begin_loop i j ∷ is) q env b ls = steps_named is q env b (loop r (get_or env i 0) (get_or env j 0) ∷ ls)
  steps_named (end_loop ∷ is) q env b ls = steps_named is q env b (drop1 ls)
  steps_named (exit x ∷ is) q env b ls = named_append ns (leaving r x ls) _ (leaving_named ns r x ls) (steps_named is q env b ls)
  steps_named (check_return ∷ is) q env b ls = steps_named is q env b ls
  steps_named (access u p ∷ is) q env b ls =
      let x = spot_at (tree r w k none) p in
      named_append ns (sought_marks r u (look t fn u x)) _ (sought_named ns r u (look t fn u x) (look_inside t fn u x)) (steps_named is q env b ls)
  steps_named (refuse x ∷ is) q env b ls = steps_named is q env b ls
  steps_named (inner ∷ is) q env b ls = absurd q

module _ (sc : StackCode) (t : Semantic) where
  abbrev Inside : Segs → Type 0
  Inside g = (a : Role) (fn : Words) (b : ℕ) (ls : List Loop) → AllNamed (names t fn.p) ((g a fn).code b ls)

  children_named : (k : Forest) → Each (λ r w k. Inside (seg_of sc (look t) r w k)) k → (fn : Words) (a : Role) (j b : ℕ) (ls : List Loop)
      → AllNamed (names t fn.p) ((child_seg (segs_of sc (look t) k) fn a j).code b ls)
  children_named k h fn a j = each_at (seg_alg sc (look t)) (seg_alg sc (look t)) (λ x y. Inside x) no_segs no_segs (λ a fn b ls. tt) k h j a fn

  record_named : (r : ℕ) (w : Words) (k : Forest) → Each (λ r w k. Inside (seg_of sc (look t) r w k)) k → Inside (seg_of sc (look t) r w k)
  unfolding seg_code
  record_named r w k h a fn b ls = go (ℕ_discrete w.kind 30)
    where
      ks : Role → ℕ → Seg
      ks = child_seg (segs_of sc (look t) k) fn

      own : (d : Bool) → AllNamed (names t fn.p) (seg_code (look t) fn r w k ks (body_seg sc (look t) r w k)
          (cond d (inner ∷ load (function w.p) ∷ push_op Call 0 ∷ []) (inner ∷ load (function w.p) ∷ [])) [] b ls)
      own true = (tt, (tt, tt))
      own false = (tt, tt)

      go : Dec (w.kind ≡ 30) → AllNamed (names t fn.p) (seg_code (look t) fn r w k ks (body_seg sc (look t) r w k) (steps sc a w (own_tree k)) [] b ls)
      go (yes e) =
          function_only (λ is. AllNamed (names t fn.p) (seg_code (look t) fn r w k ks (body_seg sc (look t) r w k) is [] b ls)) sc a w (own_tree k) e tt (own (is_do w))
      go (no ne) = steps_named t fn r w k ks (body_seg sc (look t) r w k) (children_named k h fn) (steps sc a w (own_tree k)) (steps_pure sc a w (own_tree k) ne) [] b ls

  -- a function's own stream
  pub body_named : (r : ℕ) (w : Words) (k : Forest) (b : ℕ) (ls : List Loop) → AllNamed (names t w.p) ((body_seg sc (look t) r w k).code b ls)
  unfolding pure
  body_named r w k b ls =
      steps_named t w r w k (child_seg (segs_of sc (look t) k) w) no_seg (children_named k (each (λ r w k. Inside (seg_of sc (look t) r w k)) record_named k) w)
      (stream_steps w) (go (is_do w)) [] b ls
    where
      go : (d : Bool) → T (pure (cond d (expr 0 ∷ expr 1 ∷ push_op Pop 0 ∷ push_op LoadLocals 0 ∷ push_op Return 0 ∷ []) (expr 0 ∷ expr 1 ∷ push_op Return 0 ∷ [])))
      go true = tt
      go false = tt

-- by the places of the words
code_within : (cs : List Const) (ns : Names) (c : Code) (n : ℕ) → NamedCode ns c n → WithinFound cs ns (operand_kind (code_word (Do c n))) n
unfolding operand_kind
code_within cs ns Pop n h = tt
code_within cs ns Copy n h = tt
code_within cs ns Swap n h = tt
code_within cs ns LoadLocal n h = h
code_within cs ns LoadGlobal n h = h
code_within cs ns LoadUpvalue n h = h
code_within cs ns StoreLocal n h = h
code_within cs ns StoreGlobal n h = h
code_within cs ns BuildTable n h = tt
code_within cs ns BuildList n h = tt
code_within cs ns GetAttr n h = tt
code_within cs ns GetItem n h = tt
code_within cs ns GetMeta n h = tt
code_within cs ns SetAttr n h = tt
code_within cs ns SetItem n h = tt
code_within cs ns SetMeta n h = tt
code_within cs ns Neg n h = tt
code_within cs ns Not n h = tt
code_within cs ns Add n h = tt
code_within cs ns Sub n h = tt
code_within cs ns Mul n h = tt
code_within cs ns Div n h = tt
code_within cs ns Rem n h = tt
code_within cs ns Eq n h = tt
code_within cs ns Ne n h = tt
code_within cs ns Gt n h = tt
code_within cs ns Ge n h = tt
code_within cs ns Lt n h = tt
code_within cs ns Le n h = tt
code_within cs ns TypeCheck n h = tt
code_within cs ns GetLen n h = tt
code_within cs ns ImportGlob n h = tt
code_within cs ns Iter n h = tt
code_within cs ns Call n h = tt
code_within cs ns Return n h = tt
code_within cs ns ReturnCall n h = tt
code_within cs ns LoadLocals n h = tt
code_within cs ns CheckEffect n h = tt
code_within cs ns MarkAddStackSize n h = tt

forward_within : (cs : List Const) (ns : Names) (h : Forward) (l : ℕ) → WithinFound cs ns (operand_kind (code_word (To h l))) l
unfolding operand_kind
forward_within cs ns Jump l = tt
forward_within cs ns PopJumpIfFalse l = tt
forward_within cs ns JumpIfTrueOrPop l = tt
forward_within cs ns JumpIfFalseOrPop l = tt
forward_within cs ns JumpPopIfNull l = tt
forward_within cs ns RegisterHandler l = tt

const_within : (cs : List Const) (ns : Names) (c : ConstOp) (x : ℕ) → x < length cs → (v : Value) → WithinFound cs ns (operand_kind (code_word (Load c v))) x
unfolding operand_kind
const_within cs ns LoadConst x h v = h
const_within cs ns Import x h v = h
const_within cs ns ImportFrom x h v = h

way_within : (cs : List Const) (ns : Names) (x : Way) (l : ℕ) → WithinFound cs ns (operand_kind (code_word (Leave x l))) l
unfolding operand_kind
way_within cs ns Break l = tt
way_within cs ns Continue l = tt

module _ (ns : Names) (xs : List Mark) (named : AllNamed ns xs) where
  abbrev cs : List Const
  cs = consts (reverse_aux xs [])

  abbrev ws : List ℕ
  ws = words_of cs xs

  op_within : (i : ℕ) → i < length xs → (x : Op) → op_of (get_or xs i blank) ≡ x → NamedOp ns x → WithinFound cs ns (operand_kind (code_word x)) (operand_word cs x)
  unfolding operand_kind
  op_within i h (Label l) e n = tt
  op_within i h (To f l) e n = forward_within cs ns f l
  op_within i h (Back l) e n = tt
  op_within i h (Leave x l) e n = way_within cs ns x l
  op_within i h (Load c v) e n = const_within cs ns c _ (const-inside xs v i (record { within = h; by = c; loads = e })) v
  op_within i h (Do c x) e n = code_within cs ns c x n

  pub operands_right : (i : ℕ) → i < length xs → WithinFound cs ns (operand_kind (code ws i)) (operand ws i)
  operands_right i h =
      let x = op_of (get_or xs i blank) in
      subst (λ (o : ℕ). WithinFound cs ns (operand_kind (code ws i)) o) (sym (operand_at cs xs i h))
      (subst (λ (c : ℕ). WithinFound cs ns (operand_kind c) (operand_word cs x)) (sym (code_at cs xs i h)) (op_within i h x refl (named_at ns xs i named h)))

-- captures
pub captures_right : (t : Semantic) (f k : ℕ) → k < length (names t f).upvalues → Captured (names t (parent t f)) (get_or (names t f).upvalues k no_upvalue)
captures_right t f k h = go (dec_le (suc (parent t f)) f) (capture_inside t f k no_upvalue h)
  where
    u : Upvalue
    u = get_or (names t f).upvalues k no_upvalue

    up : Names
    up = get_or (names_upto t f) (parent t f) no_names

    of : (ns : Names) → Captures ns u → Captured ns u
    of ns (inl x) = inl (x.0, x.1)
    of ns (inr x) = inr (x.0, x.1)

    none_up : f ≤ parent t f → up ≡ no_names
    none_up g = let z : length (names_upto t f) ≤ parent t f = omega (arith, names_length t f) in get_or-eq_default (names_upto t f) no_names z

    never : Captures no_names u → ⊥
    never (inl x) = omega (arith, x.1)
    never (inr x) = omega (arith, x.1)

    go : Dec (suc (parent t f) ≤ f) → Captures up u → Captured (names t (parent t f)) u
    go (yes g) x = of (names t (parent t f)) (subst (λ (ns : Names). Captures ns u) (parent_is t f g) x)
    go (no g) x = absurd (never (subst (λ (ns : Names). Captures ns u) (none_up (omega arith)) x))
