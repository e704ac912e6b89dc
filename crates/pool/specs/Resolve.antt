-- What `resolve` leaves in the lent words. Definitions only.
use Rattle.std.specs.Prelude.{◌≡◌, true, List, ℕ, ◌≤◌, ◌<◌, length, get_or}
use Rattle.tables.specs.Record.{word, words, size, is_function}
use Rattle.tables.specs.Forest.{next, children}
use Rattle.tables.specs.Naming.{Joined}
use Rattle.tables.specs.declared.refusal.RunRule.TheVariants.{Reference}
use Rattle.pool.specs.declared.spans.Span.{Span}
use Rattle.pool.specs.Names.{Semantic, function_count, missing}
use Rattle.pool.specs.NameWords.{fits, entries_after, spans_after}
use Rattle.pool.specs.Notes.{SIZE, earlier_noted, load_noted, store_noted, Noted}

-- what the notes rest on: one tree of at most 4,096 records (rows 1, 5, 6, 7), its root a Function (row 6), each Function's p a number in table 5 (row 9)
pub record Grown (t : Semantic) (recs : List ℕ) : Type 0 where
  pub one : Joined recs
  pub few : size recs ≤ 4096
  pub root_function : is_function (words recs 0) ≡ true
  pub number_inside : (r : ℕ) → r < size recs → is_function (words recs r) ≡ true → word recs r 2 < function_count t

-- as many words as notes have, and each of them 0
pub record Blank (ns : List ℕ) : Type 0 where
  pub long : length ns ≡ SIZE
  pub zero : (i : ℕ) → get_or ns i 0 ≡ 0

-- what is noted of the records: of each Ident its load and its store in the function it stands in, of record 0 nothing, and each earlier sibling
pub record Resolved (t : Semantic) (recs ns : List ℕ) : Type 0 where
  pub noted : Noted t ns (words recs 0) (children recs 0)
  pub root_load : load_noted ns 0 ≡ missing Reference
  pub root_store : store_noted ns 0 ≡ missing Reference
  pub earlier : (c : ℕ) → (next recs c ≡ 0 → ⊥) → earlier_noted ns (next recs c) ≡ c

-- entries, spans and notes before and after; the notes of tables that break a row are free
pub record Resolves (t : Semantic) (recs ws : List ℕ) (sp : List Span) (ns ws' : List ℕ) (sp' : List Span) (ns' : List ℕ) : Type 0 where
  pub entries : ws' ≡ entries_after t ws sp
  pub spans : sp' ≡ spans_after t ws sp
  pub notes : Grown t recs → fits t (length ws) (length sp) ≡ true → Blank ns → Resolved t recs ns'
