-- A case in words. Definitions only.
use Rattle.std.specs.Prelude.{Bool, true, ◌&&◌, List, [], ◌∷◌, ◌++◌, ℕ, zero, suc, ◌+◌, length, get_or, take, drop, leb}

-- where a table begins: behind the numbers and the tables before it
unfoldable pub start : List ℕ → ℕ → ℕ → ℕ
start case numbers zero = numbers
start case numbers (suc k) = start case numbers k + get_or case k 0

abbrev pub table : List ℕ → ℕ → ℕ → List ℕ
table case numbers k = take (get_or case k 0) (drop (start case numbers k) case)

-- each is a byte
abbrev pub all_bytes : List ℕ → Bool
all_bytes [] = true
all_bytes (x ∷ xs) = leb x 255 && all_bytes xs

-- and there is room for them
abbrev pub are_bytes : List ℕ → ℕ → Bool
are_bytes ws room = leb (length ws) room && all_bytes ws

-- words over the front of others
abbrev pub laid : List ℕ → List ℕ → List ℕ
laid ws bs = ws ++ drop (length ws) bs
