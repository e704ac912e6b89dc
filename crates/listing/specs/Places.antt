-- What the functions below `read` say, in terms of `Text`. The contract of `read` cites none of it. Definitions only.
use Rattle.std.specs.Prelude.{◌≡◌, List, ◌⊎◌, ℕ, ◌+◌, ◌-◌, ◌≤◌, ◌<◌, length, take, drop, set, Option, Some, None, Result, Ok, Err}
use Rattle.listing.specs.declared.read.UnreadLine.{UnreadLine}
use Rattle.listing.specs.declared.read.Texts.{Texts}
use Rattle.listing.specs.declared.read.Strings.{Strings}
use Rattle.listing.specs.Lines.{lines_of}
use Rattle.listing.specs.Read.{string_of}
use Rattle.listing.specs.Text.{Tables, Outcome, tables, input, Block, got, stop}

-- what `rows` and `table` say, b being what the lines give: the words are stored and nothing after them is changed, and the lines after them are left;
-- or its line can't be read
abbrev pub Listed : Block (List ℕ) → (out out' text' : List ℕ) → ℕ → Result ℕ UnreadLine → Type 0
Listed b out out' text' number' (Ok used) =
    (used ≤ length out') × (b ≡ got (take used out') (lines_of text') number') × (drop used out' ≡ drop used out)
Listed b out out' text' number' (Err unread) = b ≡ stop unread.line

-- the same of `string_lines` and `string_table`
abbrev pub Texted : Block (List ℕ × List ℕ) → (strings bytes strings' bytes' text' : List ℕ) → ℕ → Result Texts UnreadLine → Type 0
Texted b strings bytes strings' bytes' text' number' (Ok t) =
    (t.used ≤ length strings') × (t.held ≤ length bytes') × (b ≡ got (take t.used strings', take t.held bytes') (lines_of text') number')
    × (drop t.used strings' ≡ drop t.used strings) × (drop t.held bytes' ≡ drop t.held bytes)
Texted b strings bytes strings' bytes' text' number' (Err unread) = b ≡ stop unread.line

-- what `add` says: a string's bytes, its offset and its length are stored; or there is no string, or no room for it
abbrev pub Entered : List ℕ → List ℕ → ℕ → List ℕ → ℕ → List ℕ → List ℕ → Option ℕ → Type 0
Entered line strings used bytes held strings' bytes' (Some e) =
    (used + 2 ≤ length strings) × (held ≤ e) × (e ≤ 4096) × (e ≤ length bytes) × (string_of line ≡ Some (take (e - held) (drop held bytes')))
    × (take held bytes' ≡ take held bytes) × (strings' ≡ set (set strings used held) (used + 1) (e - held)) × (drop e bytes' ≡ drop e bytes)
Entered line strings used bytes held strings' bytes' None =
    (length strings < used + 2) ⊎ ((bs : List ℕ) → string_of line ≡ Some bs → (4096 < held + length bs) ⊎ (length bytes < held + length bs))

-- the buffers that were lent are lent still, as long as they were
pub record SameBuffers (s s' : Strings) : Type 0 where
  pub words : s'.words.ghost_name ≡ s.words.ghost_name
  pub bytes : s'.bytes.ghost_name ≡ s.bytes.ghost_name
  pub many_words : length s'.words.now ≡ length s.words.now
  pub many_bytes : length s'.bytes.now ≡ length s.bytes.now

-- how many bytes are held then, if there was a string
abbrev pub held_after : ℕ → Option Unit → Option ℕ
held_after held (Some u) = Some held
held_after held None = None

-- the outcome, by what `blank` answers
abbrev pub outcome_of : Tables → Result Unit UnreadLine → Outcome
outcome_of t (Ok u) = tables t
outcome_of t (Err unread) = input unread.line
