use Rattle.plain.proofs.CountLaws.{numbers_width, width_most}
use Rattle.std.proofs.lemmas.Iterator.Consumers.{YieldsList-from_first, count_from_yields_List}
use mathlib.Core.Logic.{inl}
use mathlib.Core.Path.{◌∙◌, refl, ap}
use lib.ListN.{length}
use native.Mathlib.Omega.{arith}
use Rattle.plain.proofs.siblings.width.Goals as goal

pub count-requires-clause-fits : goal.count-requires-clause-fits
count-requires-clause-fits c =
    inl (omega (arith, ap length c.new.ensures, numbers_width c.args.recs.now c.args.c, width_most c.args.recs.now c.args.c))

pub returns : goal.returns
returns c =
    count_from_yields_List _ c.count.result c.count.ensures.ran (YieldsList-from_first _ _ _ refl) ∙ ap length c.new.ensures ∙ numbers_width c.args.recs.now c.args.c
