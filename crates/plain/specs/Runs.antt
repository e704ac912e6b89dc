-- What leaves make of a state, at record r: parts of a record's steps that visit no expression. Definitions only.
use Rattle.std.specs.Prelude.{cond, List, [], ◌∷◌, ℕ, zero, suc, eqb, ltb}
use Rattle.opcode.specs.Members.{member_number}
use Rattle.opcode.specs.declared.member.MemberKind.{MemberKind}
use Rattle.tables.specs.Record.{Words, words}
use Rattle.tables.specs.Forest.{next}
use Rattle.tables.specs.declared.refusal.RunRule.TheVariants.{Path}
use Rattle.pool.specs.Value.{Value, Null, int, yield}
use Rattle.rules.specs.declared.StackCode.{StackCode}
use Rattle.rules.specs.declared.StackCode.TheVariants.{Code1, Code2}
use Rattle.rules.specs.Arms.{is_method, set_code}
use Rattle.rules.specs.Marker.{
  Jump,
  JumpPopIfNull,
  RegisterHandler,
  LoadConst,
  Pop,
  Copy,
  Swap,
  GetItem,
  Iter,
  Call,
  Label,
  To,
  Back,
  Load,
  Do,
  Mark,
  mark,
}
use Rattle.rules.specs.Step.{Use, Get, Set, Step, access, refuse}
use Rattle.rules.specs.Run.{State, labels, emit, bump, finish, sought}
use Rattle.context.specs.Rep.{Lent}
use Rattle.context.specs.Does.{child, access_noted}
use Rattle.plain.specs.Operators.{is_meta}

-- a Call's argument count: n arguments, and the table of a callee that is a method
unfoldable pub argument_count : List ℕ → ℕ → ℕ → ℕ
argument_count recs callee n = cond (eqb callee 0) n (cond (is_method (words recs callee)) (suc n) n)

-- the same marker n times
abbrev pub repeated : Mark → ℕ → State → State
repeated x zero A = A
repeated x (suc n) A = repeated x n (emit x A)

-- a jump to the label a where the detail d says 'safe'
abbrev pub safe_run : ℕ → ℕ → ℕ → State → State
safe_run d r a A = cond (ltb d 8) A (emit (mark r (To JumpPopIfNull a)) A)

-- code 2: "Return emits no Jump and no Label before its argument" (document 02, job 11)
abbrev pub return_run : StackCode → ℕ → State → State
return_run Code1 r A = emit (mark r (Label (labels A))) (emit (mark r (To Jump (labels A))) (bump A))
return_run Code2 r A = A

-- the item v of a copy of what is on the stack; record q brings the constant
abbrev pub item_run : ℕ → ℕ → Value → State → State
item_run r q v A = emit (mark r (Do GetItem 0)) (emit (mark q (Load LoadConst v)) (emit (mark r (Do Copy 1)) A))

-- an AssignOp's member is set: the value goes under what it is set in
abbrev pub set_run : ℕ → MemberKind → State → State
set_run r m A = emit (mark r (Do (set_code (member_number m)) 0)) (emit (mark r (Do Swap 2)) (cond (is_meta m) A (emit (mark r (Do Swap 3)) A)))

-- a For behind its right side up to Call, with the continue label a and its body's label b
abbrev pub iterate_run : ℕ → ℕ → ℕ → State → State
iterate_run r a b A =
    emit (mark r (Do Call 1)) (emit (mark r (To RegisterHandler b)) (emit (mark r (Load LoadConst yield)) (emit (mark r (Load LoadConst Null))
    (emit (mark r (Label a)) (emit (mark r (Do Iter 0)) A)))))

-- a For behind its body, with the continue label a and the break label b
abbrev pub end_for_run : ℕ → ℕ → ℕ → State → State
end_for_run r a b A =
    finish (emit (mark r (Load LoadConst Null)) (emit (mark r (Do Pop 0)) (emit (mark r (Label b)) (emit (mark r (Back a)) (emit (mark r (Do Pop 0)) A)))))

-- a Simple import's store, without the Null behind it
abbrev pub simple_store : Words → ℕ → List Step
simple_store w zero = refuse Path ∷ []
simple_store w (suc p) = access Set (cond (eqb w.detail 0) p (suc p) ∷ []) ∷ []

module _ (e : Lent) (r : ℕ) where
  -- the Ident at record i is loaded or stored to
  abbrev pub use_at : Use → ℕ → State → State
  use_at u i = sought r u i (access_noted e.notes u i)

  -- the Handler h is registered: a label is taken, the Handler's Ident is loaded, the label is named
  unfoldable pub register : ℕ → State → State
  register h A = emit (mark r (To RegisterHandler (labels A))) (use_at Get (child e.records h 0) (bump A))

  -- n Handlers from the record h on, and their labels
  abbrev pub registering : ℕ → ℕ → State → State
  registering zero h A = A
  registering (suc n) h A = registering n (next e.records h) (register h A)

  abbrev pub registered : ℕ → ℕ → State → List ℕ
  registered zero h A = []
  registered (suc n) h A = labels A ∷ registered n (next e.records h) (register h A)

  -- item i is stored to the Ident l
  unfoldable pub item_put : ℕ → ℕ → State → State
  item_put i l A = use_at Set l (item_run r r (int i) A)

  -- n items from item i on are stored to the Idents from the record l on
  abbrev pub items_put : ℕ → ℕ → ℕ → State → State
  items_put i zero l A = A
  items_put i (suc n) l A = items_put (suc i) n (next e.records l) (item_put i l A)

  -- a For's n targets from the record l on
  abbrev pub targets_put : ℕ → ℕ → State → State
  targets_put n l A = cond (eqb n 1) (use_at Set l A) (emit (mark r (Do Pop 0)) (items_put 0 n l A))
