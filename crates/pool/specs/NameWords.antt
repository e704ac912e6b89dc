-- The names as they are written. Document 01, 'The call': "names (symbol, capture 0 none, 1 Local, 2 Upvalue, its index or 0), locals, globals, upvalues",
-- function by function; beside them for each function where its names start and how many of each sort they are. Definitions only.
use Rattle.std.specs.Prelude.{Bool, cond, Option, Some, None, Result, Ok, Err, ◌&&◌, List, [], ◌∷◌, ◌++◌, ℕ, suc, ◌+◌, ◌*◌, length, get_or, drop, ltb, leb, eqb}
use Rattle.std.specs.List.{list_all}
use Rattle.pool.specs.Names.{Semantic, function_count, start_of_share, Upvalue, upvalue_symbols, Names, Access, local, global, upvalue, missing}
use Rattle.pool.specs.Names.{is_global, index_of, names_upto}
use Rattle.pool.specs.Scope.{same_table}
use Rattle.pool.specs.declared.scope.Table.{Table}
use Rattle.pool.specs.declared.scope.Table.TheVariants.{Locals, Globals, Upvalues}
use Rattle.pool.specs.Consts.{put3}
use Rattle.tables.specs.declared.refusal.RunRule.{RunRule}
use Rattle.pool.specs.declared.spans.Span.{Span}
use Rattle.pool.specs.declared.lookup.Access.{Access as Answer}
use Rattle.pool.specs.declared.lookup.Access.TheVariants.{Local, Global, Upvalue as Captured}
use Rattle.pool.specs.declared.names.Class.{Class}
use Rattle.pool.specs.declared.names.Class.TheVariants.{Local as Own, Global as Shared, CapturedLocal, CapturedUpvalue}

-- what the code's answers say
abbrev pub access_of : Result Answer RunRule → Access
access_of (Ok (Local i)) = local i.0
access_of (Ok (Global i)) = global i.0
access_of (Ok (Captured i)) = upvalue i.0
access_of (Err rule) = missing rule

-- an entry that captures nothing: "capture 0 none, .. its index or 0"
abbrev pub plain : ℕ → Upvalue
plain s = record { symbol = s; capture = 0; index = 0 }

abbrev pub plains : List ℕ → List Upvalue
plains [] = []
plains (s ∷ ss) = plain s ∷ plains ss

-- "locals, globals, upvalues"
abbrev pub entries_of : Names → List Upvalue
entries_of n = plains n.locals ++ (plains n.globals ++ n.upvalues)

-- "Out, function by function"
unfoldable pub all_entries : List Names → List Upvalue
all_entries [] = []
all_entries (n ∷ ns) = entries_of n ++ all_entries ns

-- "names (symbol, capture .., its index or 0)": three words an entry
abbrev pub entry_words : Upvalue → List ℕ
entry_words u = u.symbol ∷ u.capture ∷ u.index ∷ []

unfoldable pub words_of : List Upvalue → List ℕ
words_of [] = []
words_of (u ∷ us) = u.symbol ∷ u.capture ∷ u.index ∷ words_of us

-- the entries from place n on, each where there is room
unfoldable pub entries_laid : List ℕ → ℕ → List Upvalue → List ℕ
entries_laid ws n [] = ws
entries_laid ws n (u ∷ us) = entries_laid (put3 ws n u.symbol u.capture u.index) (suc n) us

-- the span of function f, without names where there is none
abbrev pub no_span : Span
no_span = record { start = 0; locals = 0; globals = 0; upvalues = 0 }

abbrev pub span_of : List Span → ℕ → Span
span_of ss f = get_or ss f no_span

-- where the names n stand, from entry s on
abbrev pub span_for : ℕ → Names → Span
span_for s n = record { start = s; locals = length n.locals; globals = length n.globals; upvalues = length n.upvalues }

-- function by function: its first entry, its locals, globals and upvalues
unfoldable pub spans_from : ℕ → List Names → List Span
spans_from s [] = []
spans_from s (n ∷ ns) = span_for s n ∷ spans_from (s + length (entries_of n)) ns

-- "Words past the written ones stay as they were."
abbrev pub over : {A : Type 0} → List A → List A → List A
over xs ws = xs ++ drop (length xs) ws

-- "A Local found in the parent's locals, else in its upvalues, is captured; otherwise it is a local."
abbrev pub upvalue_or_local : Option ℕ → Class
upvalue_or_local (Some i) = CapturedUpvalue (record { 0 = i })
upvalue_or_local None = Own

abbrev pub captured_as : Option ℕ → Option ℕ → Class
captured_as (Some i) u = CapturedLocal (record { 0 = i })
captured_as None u = upvalue_or_local u

-- "A Global goes to globals."
abbrev pub class_of : Semantic → Names → ℕ → Class
class_of t up s = cond (is_global t s) Shared (captured_as (index_of up.locals s) (index_of (upvalue_symbols up.upvalues) s))

-- "locals, globals, upvalues": the table that a symbol of that class goes to
abbrev pub table_of : Class → Table
table_of Own = Locals
table_of Shared = Globals
table_of (CapturedLocal i) = Upvalues
table_of (CapturedUpvalue i) = Upvalues

-- "capture 0 none, 1 Local, 2 Upvalue, its index or 0": an entry's last two words
abbrev pub capture_of : Class → ℕ × ℕ
capture_of Own = (0, 0)
capture_of Shared = (0, 0)
capture_of (CapturedLocal i) = (1, i.0)
capture_of (CapturedUpvalue i) = (2, i.0)

abbrev pub entry_of : Class → ℕ → Upvalue
entry_of c s = record { symbol = s; capture = (capture_of c).0; index = (capture_of c).1 }

-- the entry of a symbol of that class, if it is for table k
abbrev pub entry_for : Table → Class → ℕ → List Upvalue
entry_for k c s = cond (same_table (table_of c) k) (entry_of c s ∷ []) []

-- "A function's symbols are taken in order": the entries of table k, by what class each symbol is of
unfoldable pub chosen : Table → (ℕ → Class) → List ℕ → List Upvalue
chosen k cl [] = []
chosen k cl (s ∷ ss) = entry_for k (cl s) s ++ chosen k cl ss

-- a function's three tables, each of them by a pass of its own over the share
abbrev pub made : (ℕ → Class) → List ℕ → Names
made cl ss =
    record {
      locals = upvalue_symbols (chosen Locals cl ss);
      globals = upvalue_symbols (chosen Globals cl ss);
      upvalues = chosen Upvalues cl ss;
    }

-- numbers below a limit
abbrev pub under : ℕ → List ℕ → Bool
under n xs = list_all (λ x. ltb x n) xs

-- room for the names, "1 name per member", and for the spans; counts that sum to the members; row 1's limits, which a slot holds
unfoldable pub fits : Semantic → ℕ → ℕ → Bool
fits t entries spans =
    leb (function_count t) 256
    && (leb (length t.members) 1024
    && (leb (length t.members * 3) entries
    && (leb (function_count t) spans
    && (eqb (start_of_share t (function_count t)) (length t.members) && under 1024 t.members))))

-- the lent words after the names are made
unfoldable pub entries_after : Semantic → List ℕ → List Span → List ℕ
entries_after t entries spans = cond (fits t (length entries) (length spans)) (over (words_of (all_entries (names_upto t (function_count t)))) entries) entries

unfoldable pub spans_after : Semantic → List ℕ → List Span → List Span
spans_after t entries spans = cond (fits t (length entries) (length spans)) (over (spans_from 0 (names_upto t (function_count t))) spans) spans
