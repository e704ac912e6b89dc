use mathlib.Core.List.{[], ◌∷◌}
use mathlib.Core.Bool.{cond}
use mathlib.Core.Path.{sym, ap, ◌∙◌}
use Prim.Native.Nat.{ℕ}
use lib.Dec.{ltb}
use lib.ListN.{length}
use Rattle.pool.specs.NameWords.{over}
use Rattle.codegen.specs.Call.{number_in, valued}
use Rattle.codegen.specs.declared.call.Answer.{Answer}
use Rattle.codegen.proofs.ffi.report.Goals as goal

pub returns-in-Listing : goal.returns-in-Listing
unfolding valued
returns-in-Listing c =
    let e = c.in-Listing.is in
    let ws = c.args.values.now in
    record { number = sym (ap number_in e); values = c.put.ensures ∙ sym (ap (λ (z : Answer). valued z ws) e) }

pub returns-in-Refused : goal.returns-in-Refused
unfolding valued
returns-in-Refused c =
    let e = c.in-Refused.is in
    let ws = c.args.values.now in record {
      number = c.number.ensures ∙ sym (ap number_in e);
      values = c.put-in-Refused.ensures ∙ ap (λ (p : ℕ). cond (ltb 2 (length
          ws)) (over (p ∷ 0 ∷ 0 ∷ []) ws) ws) c.place.ensures ∙ sym (ap (λ (z : Answer). valued z ws) e);
    }
