-- Every kind's steps pass the test, in every role. Assumes nothing.
use mathlib.Core.Path.{◌≡◌, refl, sym, ap, subst, ◌∙◌}
use mathlib.Core.Bool.{Bool, true, false, cond, ◌&&◌, ◌||◌}
use mathlib.Core.List.{List, [], ◌∷◌}
use Prim.Native.Nat.{ℕ, zero, suc, ◌+◌, ◌-◌, ◌/◌, ◌%◌}
use lib.Dec.{T, eqb, eqb→eq, ltb, leb}
use Rattle.tables.specs.Record.{Words, is_kind, is_loop, is_do}
use Rattle.tables.specs.Forest.{Nodes}
use Rattle.tables.proofs.ForestLaws.{and_l}
use Rattle.rules.specs.declared.StackCode.{StackCode}
use Rattle.rules.specs.declared.StackCode.TheVariants.{Code1, Code2}
use Rattle.rules.specs.Marker.{BuildTable, BuildList, Code, Pop, Copy, Call, ReturnCall}
use Rattle.rules.specs.Step.{Role, Expr, Callee, Tail, Target, Before, After, Set, Step, push_op, place, jump_back, end_loop, access, expr, null, visits, visits_down, width}
use Rattle.rules.specs.Arms.{no_opcode, is_short_form, is_method, method_steps, unlabelled, member_steps, call_steps, items_stored, is_tail, return_steps}
use Rattle.rules.specs.Arms.{simple_import, import_steps, assign_op_steps, assign_unpack_steps, assign_multi_steps, binary_steps, for_steps, unpacked}
use Rattle.rules.specs.Arms.{function_steps, stream_steps, target_steps, before_steps, after_steps}
use Rattle.rules.specs.Kinds.{Kind, kinds, steps_of, steps}
use Rattle.rules.proofs.Check.{Inside, within, chk, ok}
use Rattle.rules.proofs.EachKind.{EachKind, no_more, ◌also◌}
use Rattle.rules.proofs.StepParts.{either_way, Pass, On, visits_ok, visits_down_ok, stores_down_ok, says_ok, unpacked_ok, property_ok, blocks_ok, call_ok, matches_ok}

either : (b : Bool) (x y : List Step) → Pass false x → Pass false y → Pass false (cond b x y)
either b x y p q = either_way (Pass false) b x y p q

members_ok : (sc : StackCode) (w : Words) (k : Nodes) → Pass false (member_steps sc w k)
unfolding ok
members_ok sc w k =
    let m = w.detail % 8 in
    let p = property_ok 1 (0 ∷ []) [] m k _ (λ free. tt) in
    either (unlabelled sc w.detail) _ _ (property_ok 0 [] [] m k _ (λ free. tt) []) (either_way (λ is. On 1 (0 ∷ []) [] is) (ltb w.detail 8) _ _ p p (0 ∷ []))

methods_ok : (sc : StackCode) (w : Words) (k : Nodes) → Pass false (method_steps sc w k)
unfolding ok
methods_ok sc w k =
    let m = w.detail % 8 in
    let p = property_ok 1 (0 ∷ []) [] m k _ (λ free. tt) in
    either (unlabelled sc w.detail) _ _ (property_ok 0 [] [] m k _ (λ free. tt) []) (either_way (λ is. On 1 (0 ∷ []) [] is) (ltb w.detail 8) _ _ p p (0 ∷ []))

-- a For's Idents are stored inside its loop
items_ok : (a : Bool) (n : ℕ) (pend done free : List ℕ) (lp : Inside) (i m : ℕ) (is : List Step) → T (ok a (chk n pend done free lp) is)
    → T (ok a (chk n pend done free lp) (items_stored i m is))
unfolding ok
items_ok a n pend done free lp i zero is t = t
items_ok a n pend done free lp i (suc m) is t = items_ok a n pend done free lp (suc i) m is t

fors_ok : (w : Words) (k : Nodes) → Pass true (for_steps w k)
unfolding ok
fors_ok w k =
    let more = expr (suc w.p) ∷ push_op Pop 0 ∷ jump_back 0 ∷ place 1 ∷ push_op Pop 0 ∷ null ∷ end_loop ∷ [] in
    either_way (λ is. T (ok true (chk 3 (1 ∷ []) (2 ∷ 0 ∷ []) (2 ∷ []) (within 0 1)) is)) (eqb w.p 1) (access Set (0 ∷ []) ∷ more) (items_stored 0 w.p (push_op
    Pop 0 ∷ more)) tt
    (items_ok true 3 (1 ∷ []) (2 ∷ 0 ∷ []) (2 ∷ []) (within 0 1) 0 w.p (push_op Pop 0 ∷ more) tt)

simple_ok : (w : Words) (p : ℕ) → Pass false (simple_import w p)
unfolding ok
simple_ok w zero = tt
simple_ok w (suc p) = tt

imports_ok : (w : Words) (k : Nodes) → Pass false (import_steps w k)
unfolding ok
imports_ok w k =
    either (ltb w.detail 2) _ _ (simple_ok w w.p) (either (eqb w.detail 2) _ _ (visits_ok 0 [] [] Expr w.p (width k - w.p) (push_op Pop 0 ∷ null ∷ []) (λ
    free. tt) []) tt)

binaries_ok : (w : Words) (k : Nodes) → Pass false (binary_steps w k)
unfolding ok
binaries_ok w k = either (eqb w.detail 5) _ _ tt (either (eqb w.detail 6) _ _ tt (either (no_opcode w.detail) _ _ tt tt))

assign_ops_ok : (w : Words) (k : Nodes) → Pass false (assign_op_steps w k)
unfolding ok
assign_ops_ok w k = either (is_short_form w.detail k) _ _ (either (eqb w.detail 6) _ _ tt tt) (either (no_opcode w.detail) _ _ tt tt)

-- each kind against its loop flag
loop_kind : ℕ → Bool
loop_kind n = leb 16 n && leb n 18

abbrev Passes : Kind → Type 0
Passes x = (w : Words) (k : Nodes) → Pass (loop_kind x.number) (x.list w k)

pass_at : (xs : List Kind) → EachKind Passes xs → (n : ℕ) (w : Words) (k : Nodes) → Pass (loop_kind n) (steps_of n xs w k)
unfolding ok
pass_at [] no_more n w k = tt
pass_at (x ∷ xs) (h also hs) n w k = go (eqb n x.number) refl (pass_at xs hs n w k)
  where
    go : (b : Bool) → eqb n x.number ≡ b → Pass (loop_kind n) (steps_of n xs w k) → Pass (loop_kind n) (cond b (x.list w k) (steps_of n xs w k))
    go true e ih = subst (λ (m : ℕ). Pass (loop_kind m) (x.list w k)) (sym (eqb→eq n x.number (subst T (sym e) tt))) (h w k)
    go false e ih = ih

all_ok : (c : Code) (n : Nodes → ℕ) (w : Words) (k : Nodes) → Pass false (visits Expr 0 (width k) (push_op c (n k) ∷ []))
unfolding ok
all_ok c n w k = visits_ok 0 [] [] Expr 0 (width k) (push_op c (n k) ∷ []) (λ free. tt) []

unpacks_ok : (w : Words) (k : Nodes) → Pass false (assign_unpack_steps w k)
unfolding ok
unpacks_ok w k = says_ok 0 [] [] (w.p - 1) Copy 1 (unpacked 0 w.p (null ∷ [])) (unpacked_ok 0 [] [] 0 w.p (null ∷ []) (λ free. tt)) []

multis_ok : (w : Words) (k : Nodes) → Pass false (assign_multi_steps w k)
unfolding ok
multis_ok w k =
    either (eqb (w.p + w.p) (width k)) _ _
    (visits_ok 0 [] [] Expr w.p w.p (visits_down Target w.p (null ∷ [])) (visits_down_ok 0 [] [] Target w.p (null ∷ []) (λ free. tt)) []) tt

returns_ok : (sc : StackCode) (w : Words) (k : Nodes) → Pass false (return_steps sc w k)
unfolding ok
returns_ok Code1 w k = either (is_tail k) _ _ tt tt
returns_ok Code2 w k = either (is_tail k) _ _ tt tt

-- Lit, Ident, Paren, Block, Fn, Effect, Table, List; Unary to Match; the loops, Break, Continue, Return; the imports and assignments; Function to Item
kinds_ok : (sc : StackCode) → EachKind Passes (kinds sc)
unfolding ok loop_kind
kinds_ok sc =
    (λ w k. tt) also (λ w k. tt) also (λ w k. tt) also blocks_ok also (λ w k. either (eqb w.detail 1) _ _ tt tt) also (λ w k. tt) also
    all_ok BuildTable (λ k. width k / 2) also all_ok BuildList width also
    (λ w k. tt) also binaries_ok also (λ w k. tt) also members_ok sc also call_ok Call also (λ w k. either (eqb w.detail 1) _ _ tt tt) also matches_ok also
    (λ w k. tt) also (λ w k. tt) also fors_ok also (λ w k. tt) also (λ w k. tt) also returns_ok sc also imports_ok also (λ w k. tt) also
    (λ w k. tt) also assign_ops_ok also unpacks_ok also multis_ok also (λ w k. either (is_do w) _ _ tt tt) also
    (λ w k. stores_down_ok 0 [] [] (width k) [] (λ free. tt) []) also (λ w k. tt) also (λ w k. tt) also (λ w k. tt) also no_more

-- a Left's two forms
targets_ok : (w : Words) (k : Nodes) → Pass false (target_steps w k)
unfolding ok
targets_ok w k = either (eqb w.detail 0) _ _ tt (property_ok 0 [] [] (w.detail - 1) k _ (λ free. tt) [])

befores_ok : (w : Words) (k : Nodes) → Pass false (before_steps w k)
unfolding ok
befores_ok w k = either (eqb w.detail 0) _ _ tt (either (ltb w.detail 4) _ _ (property_ok 0 [] [] (w.detail - 1) k _ (λ free. tt) []) tt)

afters_ok : (w : Words) (k : Nodes) → Pass false (after_steps w k)
unfolding ok
afters_ok w k = either (eqb w.detail 0) _ _ tt (either (ltb w.detail 4) _ _ tt tt)

-- steps that only a record of one kind has, which is no loop
only : (n : ℕ) (w : Words) (b : Bool) (x y : List Step) → loop_kind n ≡ false → (T b → w.kind ≡ n) → Pass false x → Pass (is_loop w) y → Pass (is_loop w) (cond b x y)
unfolding loop_kind
only n w true x y e h p q = subst (λ (a : Bool). Pass a x) (sym e ∙ ap loop_kind (sym (h tt))) p
only n w false x y e h p q = q

none_ok : (a : Bool) → Pass a []
unfolding ok
none_ok a = tt

method_kind : (w : Words) → T (is_method w) → w.kind ≡ 12
method_kind w t = eqb→eq w.kind 12 (and_l (is_kind 12 w) _ t)

pub steps_ok : (sc : StackCode) (a : Role) (w : Words) (k : Nodes) → Pass (is_loop w) (steps sc a w k)
unfolding steps loop_kind
steps_ok sc Expr w k = pass_at (kinds sc) (kinds_ok sc) w.kind w k
steps_ok sc Callee w k = only 12 w (is_method w) _ _ refl (method_kind w) (methods_ok sc w k) (pass_at (kinds sc) (kinds_ok sc) w.kind w k)
steps_ok sc Tail w k = only 13 w (is_kind 13 w) _ _ refl (eqb→eq w.kind 13) (call_ok ReturnCall w k) (none_ok (is_loop w))
steps_ok sc Target w k = only 34 w (is_kind 34 w) _ _ refl (eqb→eq w.kind 34) (targets_ok w k) (none_ok (is_loop w))
steps_ok sc Before w k = only 34 w (is_kind 34 w) _ _ refl (eqb→eq w.kind 34) (befores_ok w k) (none_ok (is_loop w))
steps_ok sc After w k = only 34 w (is_kind 34 w) _ _ refl (eqb→eq w.kind 34) (afters_ok w k) (none_ok (is_loop w))

pub stream_ok : (w : Words) → Pass false (stream_steps w)
unfolding ok
stream_ok w = either (is_do w) _ _ tt tt

-- a Function's steps, in every role: they visit no child
pub function_only : (P : List Step → Type 0) (sc : StackCode) (a : Role) (w : Words) (k : Nodes) → w.kind ≡ 30 → P [] → P (function_steps w k) → P (steps sc a w k)
unfolding steps
function_only P sc Expr w k e p q = subst (λ (n : ℕ). P (steps_of n (kinds sc) w k)) (sym e) q
function_only P sc Callee w k e p q =
    subst (λ (n : ℕ). P (cond (eqb n 12 && (eqb (w.detail % 8) 1 || eqb (w.detail % 8) 4)) (method_steps sc w k) (steps_of n (kinds sc) w k))) (sym e) q
function_only P sc Tail w k e p q = subst (λ (n : ℕ). P (cond (eqb n 13) (call_steps ReturnCall w k) [])) (sym e) p
function_only P sc Target w k e p q = subst (λ (n : ℕ). P (cond (eqb n 34) (target_steps w k) [])) (sym e) p
function_only P sc Before w k e p q = subst (λ (n : ℕ). P (cond (eqb n 34) (before_steps w k) [])) (sym e) p
function_only P sc After w k e p q = subst (λ (n : ℕ). P (cond (eqb n 34) (after_steps w k) [])) (sym e) p
