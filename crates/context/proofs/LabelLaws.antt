-- Labels taken one behind the other. Assumes nothing.
use mathlib.Core.Path.{◌≡◌, refl, sym, ap, ◌∙◌}
use mathlib.Core.Bool.{true, false}
use Prim.Native.Nat.{ℕ, zero, suc, ◌+◌, ◌≤◌}
use native.Mathlib.Omega.{arith}
use Rattle.context.specs.Words.{limit, cap, more}
use Rattle.context.specs.Sinks.{goes, took, took_many}
use Rattle.context.specs.declared.Context.{Context}
use Rattle.context.proofs.Basics.{on_true, on_false}

abbrev pub with_labels : ℕ → Context → Context
with_labels k x = record x { label_count = k }

pub many_taken : (n : ℕ) (x : Context) → x.label_count ≤ limit → goes x ≡ true → record x { label_count = cap (x.label_count + cap n) } ≡ took_many n x
unfolding took
many_taken zero x h e = ap (λ (k : ℕ). with_labels k x) (omega arith)
many_taken (suc n) x h e =
    sym (ap took (sym (many_taken n x h e)) ∙ on_true (goes x) _ _ e
    ∙ ap (λ (k : ℕ). with_labels k x) (let q : more (cap (x.label_count + cap n)) ≡ cap (x.label_count + cap (suc n)) = omega arith in q))

pub none_taken : (n : ℕ) (x : Context) → goes x ≡ false → x ≡ took_many n x
unfolding took
none_taken zero x e = refl
none_taken (suc n) x e = sym (ap took (sym (none_taken n x e)) ∙ on_false (goes x) _ _ e)
