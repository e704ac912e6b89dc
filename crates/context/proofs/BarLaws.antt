-- A Return in a Do: the context tells the function around. Assumes nothing.
use mathlib.Core.Path.{◌≡◌, sym, ap, ◌∙◌}
use mathlib.Core.Bool.{Bool, true, false}
use mathlib.Core.List.{List}
use Prim.Native.Nat.{ℕ}
use lib.Dec.{eqb}
use Rattle.tables.specs.Record.{Words, word, words, is_do}
use Rattle.rules.specs.declared.error.ErrorKind.TheVariants.{ReturnOutsideFunction}
use Rattle.rules.specs.declared.Flow.TheVariants.{Cut}
use Rattle.rules.specs.Run.{State, barred}
use Rattle.context.specs.Sinks.{stopped}
use Rattle.context.specs.Rep.{Walk, Rep}
use Rattle.context.specs.declared.Context.{Context}
use Rattle.context.proofs.Basics.{on_true, on_false}
use Rattle.context.proofs.RepLaws.{given, halted}

module _ {c : Walk} {records : List ℕ} {x₀ : Context} {A : State} {x : Context} {b : Bool} (p : Words) (e : b ≡ eqb (word records x.function 1) 2)
    (h : Rep c records x₀ A x) where
  pub in_do : is_do (words records c.function) ≡ b
  in_do = ap (λ (f : ℕ). eqb (word records f 1) 2) (sym h.function) ∙ sym e

  pub bar_yes : {x' : Context} → b ≡ true → x' ≡ stopped (Cut ReturnOutsideFunction p.start p.end) x → Rep c records x₀ (barred p (is_do (words records c.function)) A) x'
  unfolding barred
  bar_yes t k = given (on_true _ _ _ (in_do ∙ t)) (halted (Cut ReturnOutsideFunction p.start p.end) k h)

  pub bar_no : b ≡ false → Rep c records x₀ (barred p (is_do (words records c.function)) A) x
  unfolding barred
  bar_no t = given (on_false _ _ _ (in_do ∙ t)) h
