use Rattle.plain.proofs.CountLaws.{numbers_width, width_most}
use Rattle.plain.proofs.SiblingLaws.{is_argument, not_handler, arguments_first}
use Rattle.std.proofs.Common.{rules}
use Rattle.std.proofs.lemmas.Iterator.Consumers.{YieldsList-from_first, count_from_yields_List}
use Rattle.std.proofs.lemmas.Iterator.Search.{YieldsList-from_take_while}
use Rattle.std.proofs.lemmas.List.Folds.{length-prefix_len}
use Rattle.plain.specs.Siblings.{left}
use mathlib.Core.Logic.{inl}
use mathlib.Core.Path.{◌∙◌, ap}
use lib.ListN.{length}
use native.Mathlib.Omega.{arith}
use Rattle.plain.proofs.children.arguments_len.Goals as goal

pub count-requires-clause-fits : goal.count-requires-clause-fits
count-requires-clause-fits c =
    inl (omega (arith, ap (λ s. length (left s)) c.take_while.ensures.source, ap length c.new.ensures, numbers_width c.args.recs.now c.args.c, width_most c.args.recs.now c.args.c))

pub returns : goal.returns
returns c =
    count_from_yields_List _ c.count.result c.count.ensures.ran
    (YieldsList-from_take_while _ (is_argument c.args.recs.now) (YieldsList-from_first (λ x. x) left _ (ap left c.take_while.ensures.source ∙ c.new.ensures))
    c.take_while.ensures.closure c.take_while.ensures.done (λ x b q k. search (rules, not_handler c.args.recs.now)))
    ∙ length-prefix_len (is_argument c.args.recs.now) _ ∙ arguments_first c.args.recs.now c.args.c
