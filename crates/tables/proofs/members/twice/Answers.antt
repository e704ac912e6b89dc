use Rattle.std.proofs.Common.{rules, ◌-◌, ℕ, ◌∙◌, refl}
use Rattle.std.specs.List.{range_with_len}
use Rattle.std.proofs.lemmas.Iterator.{YieldsList-from_range}
use Rattle.std.proofs.lemmas.Iterator.Search.{any_from_yields_List}
use lib.Dec.{eqb}
use lib.ListN.{get_or}
use Rattle.tables.specs.Entries.{twice}
use Rattle.tables.proofs.EntriesLaws.{any_found}
use Rattle.tables.proofs.members.twice.Goals as goal

pub returns : goal.returns
unfolding twice
returns c =
    let a = c.args in
    let equals = λ (e : ℕ). eqb (get_or a.members.now e 0) (get_or a.members.now a.m 0) in
    any_from_yields_List equals _ _ c.any.result c.any.ensures.ran (YieldsList-from_range a.start a.m (a.m - a.start) refl refl) (λ e t q k. search rules)
    ∙ any_found equals (range_with_len a.start (a.m - a.start))
