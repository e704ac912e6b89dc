use mathlib.Core.Path.{refl, sym, ap, ◌∙◌}
use Rattle.std.proofs.Common.{rules}
use borrow.Author.Tests.{tests}
use native.Mathlib.Omega.{arith}
use Rattle.std.specs.Option.{unwrap_or}
use Rattle.std.proofs.lemmas.Iterator.{YieldsList-from_range}
use Rattle.std.proofs.lemmas.Iterator.Adapters.{option_map_id}
use Rattle.std.proofs.lemmas.Iterator.Search.{find_from_yields_List}
use Rattle.tables.specs.Record.{size}
use Rattle.listing.specs.Print.{is_function, record_of}
use Rattle.listing.proofs.PrintLaws.{record_found}
use Rattle.listing.proofs.print.record_of.Goals as goal

pub returns : goal.returns
unfolding record_of
returns c =
    let a = c.args in
    let e = find_from_yields_List (is_function a.recs.now a.n) _ _ c.find.result c.find.ensures.ran
    (YieldsList-from_range 0 c.size.result (size a.recs.now) refl (omega arith)) (λ x b q k. search (rules, tests)) in
    c.unwrap_or.ensures ∙ ap (λ o. unwrap_or o 0) (sym (option_map_id c.find.result) ∙ e) ∙ record_found a.recs.now a.n (size a.recs.now) 0
