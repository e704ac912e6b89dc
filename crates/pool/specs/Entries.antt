-- Tables in lent words, some words to an entry: markers (two), constants, names and errors (three), spans (four). Definitions only.
use Rattle.std.specs.Prelude.{Bool, cond, List, ℕ, ◌+◌, ◌*◌, length, leb}
use Rattle.std.proofs.lemmas.List.Edits.{sets}

-- whether the words have room for entry n of k words; "a rest that makes no whole entry is room that is not there" (reading 14)
abbrev pub has_room : List ℕ → ℕ → ℕ → Bool
has_room ws n k = leb (n * k + k) (length ws)

-- the words with entry n written, where there is room: "Words past the written ones stay as they were."
unfoldable pub put_entry : List ℕ → ℕ → List ℕ → List ℕ
put_entry ws n xs = cond (has_room ws n (length xs)) (sets ws (n * length xs) xs) ws
