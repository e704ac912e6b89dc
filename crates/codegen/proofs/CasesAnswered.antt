-- Document 01's worked cases A to J as the call answers them: a listing of one line each, with room enough; with a word less of markers, 2 at place 0.
-- Assumes nothing.
use mathlib.Core.Bool.{Bool, true, ◌&&◌}
use mathlib.Core.List.{List, [], ◌∷◌}
use Prim.Native.Nat.{ℕ, ◌*◌, ◌/◌, ◌-◌}
use lib.ListN.{length}
use lib.Dec.{T, eqb}
use Rattle.tables.specs.Record.{size}
use Rattle.tables.specs.Check.{refusing, rows_of}
use Rattle.tables.specs.Lent.{unfit, lent_broken}
use Rattle.tables.specs.Entries.{same_string, equal_earlier, string_bad, symbol_bad, reference_bad, parent_bad, own_start, twice, member_bad, entries_broken}
use Rattle.tables.specs.Details.{right_detail}
use Rattle.tables.specs.Links.{right_links}
use Rattle.tables.specs.Children.{fits, right_children}
use Rattle.tables.specs.Naming.{one, named_by}
use Rattle.tables.specs.Numbering.{manner, visited}
use Rattle.tables.specs.Forest.{guarded, first, next, grow, forest}
use Rattle.tables.specs.Semantic.{share_start}
use Rattle.pool.specs.Value.{same_numbers, find, seen, intern}
use Rattle.pool.specs.Names.{index_of, with_symbol, with_symbols, names_upto, names, load, store}
use Rattle.rules.specs.Kinds.{steps}
use Rattle.rules.specs.Run.{emit, bump, halt, begin, finish, outward, barred, kept, nested, exec, stream, run}
use Rattle.rules.specs.Out.{consts, marker_words, const_words, plain_names, upvalue_words, error_words, loop_depth, stream_numbered, each_function, outcome}
use Rattle.rules.specs.Cases.{Case, cases}
use Rattle.codegen.specs.Space.{scarce, space_broken}
use Rattle.codegen.specs.declared.call.Answer.{Answer}
use Rattle.codegen.specs.Call.{checked_of, answer_of, number_in, values_in}

-- the call on a case's records, with so many words for markers
abbrev called : Case → ℕ → Answer
called c markers = answer_of [] [] [] [] (4294967295 ∷ 0 ∷ []) [] c.records markers (9 * size c.records) 0 (3 * size c.records) 7

abbrev is_answer : Answer → ℕ → List ℕ → Bool
is_answer a n vs = eqb (number_in a) n && same_numbers (values_in a) vs

abbrev all_answered : List Case → Bool
all_answered [] = true
all_answered (c ∷ cs) =
    is_answer (called c (64 * size c.records)) 0 (1 ∷ length c.errors / 3 ∷ 32 * size c.records ∷ [])
    && (is_answer (called c (64 * size c.records - 1)) 2 (0 ∷ 0 ∷ 0 ∷ []) && all_answered cs)

pub cases_answered : T (all_answered cases)
unfolding refusing rows_of unfit lent_broken same_string equal_earlier string_bad symbol_bad reference_bad parent_bad own_start twice member_bad entries_broken right_detail
    right_links fits right_children one named_by manner visited guarded first next grow forest share_start find seen intern index_of with_symbol with_symbols names_upto names load
    store steps emit bump halt begin finish outward barred kept nested exec stream run consts marker_words const_words plain_names upvalue_words error_words loop_depth
    stream_numbered each_function outcome scarce space_broken checked_of answer_of
cases_answered = tt
