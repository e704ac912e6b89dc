-- The names of the functions met, as they are copied. Definitions only.
use Rattle.std.specs.Prelude.{List, ℕ, ◌+◌, ◌-◌, ◌*◌}
use Rattle.pool.specs.declared.spans.Span.{Span}
use Rattle.pool.specs.NameWords.{span_of}

-- three words for each name of the first n functions: where the last one's names start, and how many they are
abbrev pub name_count : List Span → ℕ → ℕ
name_count spans n =
    ((span_of spans (n - 1)).start + (span_of spans (n - 1)).locals + (span_of spans (n - 1)).globals + (span_of spans (n - 1)).upvalues) * 3
