-- The three groups of arms, one after the other, and a function's own stream. Assumes nothing.
use mathlib.Core.Path.{◌≡◌, refl, sym, ap, ◌∙◌, fun_ext}
use mathlib.Core.Bool.{Bool, true, false, cond}
use mathlib.Core.List.{List, [], ◌∷◌}
use Prim.Native.Nat.{ℕ, suc}
use lib.ListN.{drop}
use Rattle.tables.specs.Record.{Words, word, words, is_do}
use Rattle.tables.specs.Forest.{Nodes, children, own_tree}
use Rattle.rules.specs.declared.StackCode.{StackCode}
use Rattle.rules.specs.declared.Flow.TheVariants.{Go, Cut, Refused}
use Rattle.rules.specs.Marker.{Call, Pop, Return, LoadLocals}
use Rattle.rules.specs.Step.{Expr, Step, push_op, expr}
use Rattle.rules.specs.Kinds.{kind, kinds, steps_of}
use Rattle.rules.specs.Arms.{
  stream_steps,
  lit_steps,
  ident_steps,
  paren_steps,
  block_steps,
  fn_steps,
  effect_steps,
  table_steps,
  list_steps,
  unary_steps,
  binary_steps,
  type_check_steps,
  member_steps,
  call_steps,
  if_steps,
  loop_steps,
  while_steps,
  for_steps,
  break_steps,
  continue_steps,
  return_steps,
  import_steps,
  glo_assign_steps,
  assign_steps,
  assign_op_steps,
  assign_unpack_steps,
  assign_multi_steps,
  function_steps,
  params_steps,
  handler_steps,
  item_steps,
}
use Rattle.rules.specs.Patterns.{match_steps, case_steps}
use Rattle.rules.specs.Run.{Loop, loop, State, st, labels, bump, begin, nested, idle, exec}
use Rattle.context.specs.Rep.{Walk, mode, within, Lent}
use Rattle.context.specs.Does.{noted_look, visit_in, own_stream, near, doing, does}
use Rattle.context.proofs.VisitLaws.{stream_does}
use Rattle.visit.specs.Arms.{later_steps, last_steps}
use Rattle.visit.proofs.ArmLaws.{skip, by}

none_first : (sc : StackCode) (k : ℕ) (w : Words) (ks : Nodes) → (k ≡ 1 → ⊥) → (k ≡ 2 → ⊥) → (k ≡ 3 → ⊥) → (k ≡ 4 → ⊥) → (k ≡ 5 → ⊥) → (k ≡ 6 → ⊥) → (k ≡ 7 → ⊥) →
    (k ≡ 8 → ⊥) → (k ≡ 9 → ⊥) → (k ≡ 10 → ⊥) → (k ≡ 11 → ⊥) → (k ≡ 12 → ⊥) → (k ≡ 13 → ⊥) →
    steps_of k (drop 0 (kinds sc)) w ks ≡ steps_of k (drop 13 (kinds sc)) w ks
none_first sc k w ks n1 n2 n3 n4 n5 n6 n7 n8 n9 n10 n11 n12 n13 =
    skip k (kind 1 lit_steps) (drop 1 (kinds sc)) w ks n1
    ∙ skip k (kind 2 ident_steps) (drop 2 (kinds sc)) w ks n2
    ∙ skip k (kind 3 paren_steps) (drop 3 (kinds sc)) w ks n3
    ∙ skip k (kind 4 block_steps) (drop 4 (kinds sc)) w ks n4
    ∙ skip k (kind 5 fn_steps) (drop 5 (kinds sc)) w ks n5
    ∙ skip k (kind 6 effect_steps) (drop 6 (kinds sc)) w ks n6
    ∙ skip k (kind 7 table_steps) (drop 7 (kinds sc)) w ks n7
    ∙ skip k (kind 8 list_steps) (drop 8 (kinds sc)) w ks n8
    ∙ skip k (kind 9 unary_steps) (drop 9 (kinds sc)) w ks n9
    ∙ skip k (kind 10 binary_steps) (drop 10 (kinds sc)) w ks n10
    ∙ skip k (kind 11 type_check_steps) (drop 11 (kinds sc)) w ks n11
    ∙ skip k (kind 12 (member_steps sc)) (drop 12 (kinds sc)) w ks n12
    ∙ skip k (kind 13 (call_steps Call)) (drop 13 (kinds sc)) w ks n13

none_later : (sc : StackCode) (k : ℕ) (w : Words) (ks : Nodes) → (k ≡ 14 → ⊥) → (k ≡ 15 → ⊥) → (k ≡ 16 → ⊥) → (k ≡ 17 → ⊥) → (k ≡ 18 → ⊥) → (k ≡ 19 → ⊥) →
    (k ≡ 20 → ⊥) → (k ≡ 21 → ⊥) → (k ≡ 22 → ⊥) → (k ≡ 23 → ⊥) → (k ≡ 24 → ⊥) → (k ≡ 25 → ⊥) → (k ≡ 26 → ⊥) → (k ≡ 27 → ⊥) →
    steps_of k (drop 13 (kinds sc)) w ks ≡ steps_of k (drop 27 (kinds sc)) w ks
none_later sc k w ks n14 n15 n16 n17 n18 n19 n20 n21 n22 n23 n24 n25 n26 n27 =
    skip k (kind 14 if_steps) (drop 14 (kinds sc)) w ks n14
    ∙ skip k (kind 15 match_steps) (drop 15 (kinds sc)) w ks n15
    ∙ skip k (kind 16 loop_steps) (drop 16 (kinds sc)) w ks n16
    ∙ skip k (kind 17 while_steps) (drop 17 (kinds sc)) w ks n17
    ∙ skip k (kind 18 for_steps) (drop 18 (kinds sc)) w ks n18
    ∙ skip k (kind 19 break_steps) (drop 19 (kinds sc)) w ks n19
    ∙ skip k (kind 20 continue_steps) (drop 20 (kinds sc)) w ks n20
    ∙ skip k (kind 21 (return_steps sc)) (drop 21 (kinds sc)) w ks n21
    ∙ skip k (kind 22 import_steps) (drop 22 (kinds sc)) w ks n22
    ∙ skip k (kind 23 glo_assign_steps) (drop 23 (kinds sc)) w ks n23
    ∙ skip k (kind 24 assign_steps) (drop 24 (kinds sc)) w ks n24
    ∙ skip k (kind 25 assign_op_steps) (drop 25 (kinds sc)) w ks n25
    ∙ skip k (kind 26 assign_unpack_steps) (drop 26 (kinds sc)) w ks n26
    ∙ skip k (kind 27 assign_multi_steps) (drop 27 (kinds sc)) w ks n27

none_last : (sc : StackCode) (k : ℕ) (w : Words) (ks : Nodes) → (k ≡ 30 → ⊥) → (k ≡ 31 → ⊥) → (k ≡ 32 → ⊥) → (k ≡ 33 → ⊥) → (k ≡ 39 → ⊥) →
    steps_of k (drop 27 (kinds sc)) w ks ≡ []
none_last sc k w ks n30 n31 n32 n33 n39 =
    skip k (kind 30 function_steps) (drop 28 (kinds sc)) w ks n30
    ∙ skip k (kind 31 params_steps) (drop 29 (kinds sc)) w ks n31
    ∙ skip k (kind 32 handler_steps) (drop 30 (kinds sc)) w ks n32
    ∙ skip k (kind 33 case_steps) (drop 31 (kinds sc)) w ks n33
    ∙ skip k (kind 39 item_steps) (drop 32 (kinds sc)) w ks n39

module _ (e : Lent) (c : Walk) (r : ℕ) where
  abbrev W : Words
  W = words e.records r

  abbrev K : Nodes
  K = own_tree (children e.records r)

  -- no arm of the first group, of the second, of the third
  pub to_later : (k : ℕ) → (r ≡ 0 → ⊥) → k ≡ word e.records r 0 → (k ≡ 1 → ⊥) → (k ≡ 2 → ⊥) → (k ≡ 3 → ⊥) → (k ≡ 4 → ⊥) → (k ≡ 5 → ⊥) → (k ≡ 6 → ⊥) →
      (k ≡ 7 → ⊥) → (k ≡ 8 → ⊥) → (k ≡ 9 → ⊥) → (k ≡ 10 → ⊥) → (k ≡ 11 → ⊥) → (k ≡ 12 → ⊥) → (k ≡ 13 → ⊥) →
      (A : State) → visit_in e c Expr r A ≡ does e c r (later_steps c.code W K) A
  unfolding later_steps
  to_later k ne q n1 n2 n3 n4 n5 n6 n7 n8 n9 n10 n11 n12 n13 A =
      by e c r ne (sym q) A
      ∙ ap (λ (is : List Step). does e c r is A)
      (none_first c.code k W K n1 n2 n3 n4 n5 n6 n7 n8 n9 n10 n11 n12 n13 ∙ ap (λ (n : ℕ). steps_of n (drop 13 (kinds c.code)) W K) q)

  pub to_last : (k : ℕ) → k ≡ word e.records r 0 → (k ≡ 14 → ⊥) → (k ≡ 15 → ⊥) → (k ≡ 16 → ⊥) → (k ≡ 17 → ⊥) → (k ≡ 18 → ⊥) → (k ≡ 19 → ⊥) → (k ≡ 20 → ⊥) →
      (k ≡ 21 → ⊥) → (k ≡ 22 → ⊥) → (k ≡ 23 → ⊥) → (k ≡ 24 → ⊥) → (k ≡ 25 → ⊥) → (k ≡ 26 → ⊥) → (k ≡ 27 → ⊥) →
      (A : State) → does e c r (later_steps c.code W K) A ≡ does e c r (last_steps c.code W K) A
  unfolding later_steps last_steps
  to_last k q n14 n15 n16 n17 n18 n19 n20 n21 n22 n23 n24 n25 n26 n27 A =
      ap (λ (is : List Step). does e c r is A)
      (ap (λ (n : ℕ). steps_of n (drop 13 (kinds c.code)) W K) (sym q) ∙ none_later c.code k W K n14 n15 n16 n17 n18 n19 n20 n21 n22 n23 n24 n25 n26 n27
      ∙ ap (λ (n : ℕ). steps_of n (drop 27 (kinds c.code)) W K) q)

  pub to_none : (k : ℕ) → k ≡ word e.records r 0 → (k ≡ 30 → ⊥) → (k ≡ 31 → ⊥) → (k ≡ 32 → ⊥) → (k ≡ 33 → ⊥) → (k ≡ 39 → ⊥) →
      (A : State) → does e c r (last_steps c.code W K) A ≡ A
  unfolding last_steps does doing exec
  to_none k q n30 n31 n32 n33 n39 A =
      ap (λ (is : List Step). does e c r is A) (ap (λ (n : ℕ). steps_of n (drop 27 (kinds c.code)) W K) (sym q) ∙ none_last c.code k W K n30 n31 n32 n33 n39)

  -- an arm of the second group, of the third
  pub later_by : {k : ℕ} → word e.records r 0 ≡ k → (A : State)
      → does e c r (later_steps c.code W K) A ≡ does e c r (steps_of k (drop 13 (kinds c.code)) W K) A
  unfolding later_steps
  later_by q A = ap (λ (n : ℕ). does e c r (steps_of n (drop 13 (kinds c.code)) W K) A) q

  pub last_by : {k : ℕ} → word e.records r 0 ≡ k → (A : State)
      → does e c r (last_steps c.code W K) A ≡ does e c r (steps_of k (drop 27 (kinds c.code)) W K) A
  unfolding last_steps
  last_by q A = ap (λ (n : ℕ). does e c r (steps_of n (drop 27 (kinds c.code)) W K) A) q

  abbrev run : (State → State) → List Step → State → State
  run v is = exec (noted_look e.notes) (mode c) W r W (children e.records r) (near e (within r c) r) v is []

  -- a function's own stream is its body's steps, walked in that function: no step of them runs a function inside
  pub stream_own : (A : State) → own_stream e c r A ≡ does e (within r c) r (stream_steps W) A
  unfolding does doing exec
  stream_own A = ap (λ (g : State → State). g A) (stream_does e c r) ∙ go (is_do W)
    where
      go : (b : Bool) → (let is = cond b (expr 0 ∷ expr 1 ∷ push_op Pop 0 ∷ push_op LoadLocals 0 ∷ push_op Return 0 ∷ []) (expr 0 ∷ expr 1 ∷ push_op Return 0 ∷ []) in
          run idle is A ≡ run (own_stream e (within r c) r) is A)
      go true = refl
      go false = refl

-- so is the stream of a function inside another
module _ (e : Lent) (c : Walk) (r : ℕ) where
  pub stream_inside : (A : State) → nested c.nest r (words e.records r) (own_stream e (within r c) r) A
      ≡ nested c.nest r (words e.records r) (does e (within r c) r (stream_steps (words e.records r))) A
  stream_inside A = ap (λ (g : State → State). nested c.nest r (words e.records r) g A) (fun_ext (λ (B : State). stream_own e (within r c) r B))

-- a For's break label is taken right behind its continue label, or nothing is opened
pub behind_body : (trim : List Loop → List Loop) (r : ℕ) (A : State)
    → begin trim (loop r (labels A) (labels (bump A))) (bump (bump (bump A))) ≡ begin trim (loop r (labels A) (suc (labels A))) (bump (bump (bump A)))
unfolding bump begin
behind_body trim r (st m l ls os Go e) = refl
behind_body trim r (st m l ls os (Cut k a b) e) = refl
behind_body trim r (st m l ls os (Refused n q) e) = refl
