-- The worked cases A to J hold, all by one computed test, and so do the cases of document 02. Assumes nothing.
use mathlib.Core.Path.{◌≡◌, refl}
use mathlib.Core.Bool.{Bool, true, false, ◌&&◌}
use mathlib.Core.List.{List, [], ◌∷◌}
use lib.Dec.{T}
use Rattle.tables.specs.Forest.{guarded, first, next, grow, forest}
use Rattle.pool.specs.Value.{same_numbers, find, seen, intern}
use Rattle.tables.specs.Semantic.{share_start}
use Rattle.pool.specs.Names.{index_of, with_symbol, with_symbols, names_upto, names, load, store}
use Rattle.rules.specs.declared.StackCode.TheVariants.{Code1}
use Rattle.rules.specs.Kinds.{steps}
use Rattle.rules.specs.Run.{emit, bump, halt, begin, finish, outward, barred, kept, nested, exec, stream, run}
use Rattle.rules.specs.Out.{Outcome, listed, refused, consts, marker_words, const_words, plain_names, upvalue_words, error_words, loop_depth, stream_numbered}
use Rattle.rules.specs.Out.{each_function, outcome}
use Rattle.rules.specs.Cases.{Case, cases, empty}
use Rattle.rules.specs.RequestCases.{Request, requests}

abbrev gives : Case → Outcome → Bool
gives c (listed o) =
    same_numbers o.markers c.markers && (same_numbers o.constants c.constants && (same_numbers o.errors c.errors && same_numbers o.lines c.line))
gives c (refused x r) = false

abbrev all_given : List Case → Bool
all_given [] = true
all_given (c ∷ cs) = gives c (outcome Code1 empty c.records) && all_given cs

pub cases_hold : T (all_given cases)
unfolding guarded first next grow forest find seen intern share_start index_of with_symbol with_symbols names_upto names load store steps emit bump halt begin finish
    outward barred kept nested exec stream run consts marker_words const_words plain_names upvalue_words error_words loop_depth stream_numbered each_function outcome
cases_hold = tt

abbrev AllCome : List Request → Type 0
AllCome [] = Unit {0}
AllCome (c ∷ cs) = (outcome c.code c.tables c.records ≡ c.outcome) × AllCome cs

pub requests_hold : AllCome requests
unfolding guarded first next grow forest find seen intern share_start index_of with_symbol with_symbols names_upto names load store steps emit bump halt begin finish
    outward barred kept nested exec stream run consts marker_words const_words plain_names upvalue_words error_words loop_depth stream_numbered each_function outcome
requests_hold = (refl, (refl, (refl, (refl, (refl, (refl, (refl, (refl, (refl, (refl, (refl, (refl, tt))))))))))))
