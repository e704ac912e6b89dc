-- The lines of a text (document 01, 'The listing program'). Definitions only.
use Rattle.std.specs.Prelude.{◌≡◌, Bool, cond, not, List, [], ◌∷◌, ℕ, suc, ◌+◌, ◌<◌, length, eqb}

-- how many bytes at the start pass a test
abbrev pub run : (ℕ → Bool) → List ℕ → ℕ
run p [] = 0
run p (b ∷ bs) = cond (p b) (suc (run p bs)) 0

-- a byte is a line feed
abbrev pub is_feed : ℕ → Bool
is_feed b = eqb b 10

-- a byte is no line feed
abbrev pub in_line : ℕ → Bool
in_line b = not (eqb b 10)

-- a byte at the start of the first line
abbrev pub onto : ℕ → List (List ℕ) → List (List ℕ)
onto b [] = (b ∷ []) ∷ []
onto b (l ∷ ls) = (b ∷ l) ∷ ls

-- a text's lines without their line feeds: what stands after the last line feed is a line only if it is not empty
abbrev pub lines_of : List ℕ → List (List ℕ)
lines_of [] = []
lines_of (b ∷ bs) = cond (eqb b 10) ([] ∷ lines_of bs) (onto b (lines_of bs))

-- what `next_line` says where a text has a line: it is the first, and those after it are left
pub record Took (text : List ℕ) (number : ℕ) (line text' : List ℕ) (number' : ℕ) : Type 0 where
  pub lines : lines_of text ≡ line ∷ lines_of text'
  pub counted : number' ≡ number + 1
  pub shorter : length text' < length text

-- and where it has none
pub record Over (text : List ℕ) (number : ℕ) (text' : List ℕ) (number' : ℕ) : Type 0 where
  pub lines : lines_of text ≡ []
  pub none : lines_of text' ≡ []
  pub counted : number' ≡ number
