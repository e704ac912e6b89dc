-- Break and Continue, by what the look-up of a label gave. In a walk with the functions inside only the depth is known, and nothing is written. Assumes nothing.
use mathlib.Core.Path.{◌≡◌, refl, sym, ap, ◌∙◌, subst}
use mathlib.Core.Bool.{Bool, true, false}
use mathlib.Core.List.{List, [], ◌∷◌}
use Prim.Native.Nat.{ℕ, suc, ◌-◌}
use native.Mathlib.Omega.{arith}
use lib.ListN.{length}
use borrow.Author.Tests.{eq-eqb, ne_eqb}
use Rattle.std.specs.Prelude.{Option, None, Some}
use Rattle.opcode.specs.declared.index.LabelId.{LabelId}
use Rattle.opcode.specs.Words.{pair_of}
use Rattle.tables.specs.Record.{Words}
use Rattle.rules.specs.declared.Flow.TheVariants.{Cut}
use Rattle.rules.specs.Marker.{Way, Break, Continue, Leave}
use Rattle.rules.specs.Run.{Loop, loop, State, loops, way_kind, label_of, way_out, outward}
use Rattle.rules.specs.Out.{way_number}
use Rattle.context.specs.Words.{cap, more}
use Rattle.context.specs.Sinks.{label_in, continue_of, stopped, pushed}
use Rattle.context.specs.Rep.{Walk, Stack, Rep}
use Rattle.context.specs.declared.Context.{Context}
use Rattle.context.proofs.Basics.{clash, on_true, on_false, more_cap}
use Rattle.context.proofs.RepLaws.{given, halted}
use Rattle.context.proofs.MarkLaws.{put}

-- the label of the way out, from the continue label as a word
label_word : (x : Way) (c b l : ℕ) → l ≡ cap c → b ≡ suc c → label_of x l (more l) ≡ cap (label_of x c b)
label_word Break c b l e q = ap more e ∙ more_cap c ∙ ap cap (sym q)
label_word Continue c b l e q = e

-- what the look-up gives of the open loops
abbrev is_some : Option LabelId → Bool
is_some None = false
is_some (Some l) = true

abbrev number : ℕ → Option LabelId → ℕ
number d None = d
number d (Some l) = l.0

pub apart : {l : LabelId} → None ≡ Some l → ⊥
apart e = clash (sym (ap is_some e))

module _ {c : Walk} {records : List ℕ} {x₀ : Context} {A : State} (x : Context) (h : Rep c records x₀ A x) where
  none_open : loops A ≡ [] → continue_of x ≡ None
  none_open q = on_true _ _ _ (eq-eqb _ _ (h.depth ∙ ap length q))

  innermost : (n : ℕ) → length (loops A) ≡ suc n → continue_of x ≡ Some (label_in x.continue_stack n)
  innermost n q =
      let d : x.depth - 1 ≡ n = omega (arith, h.depth) in
      on_false _ _ _ (ne_eqb x.depth 0 (λ (z : x.depth ≡ 0). omega (arith, h.depth)))
      ∙ ap (λ (j : ℕ). Some (label_in x.continue_stack j)) d

module _ {c : Walk} {records : List ℕ} {x₀ : Context} {A : State} {x : Context} {f : Option LabelId} (r : ℕ) (p : Words) (y : Way) (e : f ≡ continue_of x)
    (h : Rep c records x₀ A x) where
  pub all_closed : f ≡ None → loops A ≡ []
  all_closed n = by (loops A) refl
    where
      by : (ls : List Loop) → loops A ≡ ls → loops A ≡ []
      by [] q = q
      by (l ∷ ls) q = absurd (apart (sym n ∙ e ∙ innermost x h (length ls) (ap length q)))

  pub left_none : {x' : Context} → f ≡ None → x' ≡ stopped (Cut (way_kind y) p.start p.end) x → Rep c records x₀ (outward r p y A) x'
  unfolding outward
  left_none n k = given (ap (λ (us : List Loop). way_out r p y us A) (all_closed n)) (halted (Cut (way_kind y) p.start p.end) k h)

  pub left_some : {l : LabelId} {m : ℕ} {x' : Context} → f ≡ Some l → m ≡ label_of y l.0 (more l.0) → x' ≡ pushed (pair_of (way_number y) m) x
      → Rep c records x₀ (outward r p y A) x'
  unfolding outward Stack
  left_some {l} {m} {x'} s q k = by (loops A) refl
    where
      by : (ls : List Loop) → loops A ≡ ls → Rep c records x₀ (way_out r p y (loops A) A) x'
      by [] z = absurd (apart (sym (none_open x h z) ∙ sym e ∙ s))
      by (loop a i b ∷ ls) z =
          let same : Some l ≡ Some (label_in x.continue_stack (length ls)) = sym s ∙ e ∙ innermost x h (length ls) (ap length z) in
          let label : l.0 ≡ (label_in x.continue_stack (length ls)).0 = ap (number 0) same in
          given (ap (λ (us : List Loop). way_out r p y us A) z)
          (put _ r (Leave y (label_of y i b)) (λ j.
          let t : Stack x.continue_stack (loop a i b ∷ ls) = subst (λ (us : List Loop). Stack x.continue_stack us) z (h.loops j) in
          (refl, q ∙ label_word y i b l.0 (label ∙ t.0) t.1)) k h)
