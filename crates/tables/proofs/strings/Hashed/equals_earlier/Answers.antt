use Rattle.std.proofs.Common.{rules, ℕ, ◌∙◌, refl, arith}
use Rattle.std.specs.List.{range_with_len}
use Rattle.std.proofs.lemmas.Iterator.{YieldsList-from_range}
use Rattle.std.proofs.lemmas.Iterator.Search.{any_from_yields_List}
use Rattle.tables.specs.Entries.{same_string, equal_earlier}
use Rattle.tables.proofs.EntriesLaws.{any_found}
use Rattle.tables.proofs.strings.Hashed.equals_earlier.Goals as goal

pub returns : goal.returns
unfolding equal_earlier
returns c =
    let n = c.args.self.now.number in
    let t = c.args.self.now.tables.now in
    let equals = λ (e : ℕ). same_string t.strings.now t.bytes.now e n in
    any_from_yields_List equals _ _ c.any.result c.any.ensures.ran (YieldsList-from_range 0 n n refl (omega arith)) (λ e t q k. search rules)
    ∙ any_found equals (range_with_len 0 n)
