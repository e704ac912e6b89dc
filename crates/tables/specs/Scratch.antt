-- What a pass over the records leaves in an array of one entry a record. Definitions only.
use Rattle.std.specs.Prelude.{◌≡◌, List, ℕ, zero, suc, ◌<◌, length, get_or, set}
use Rattle.tables.specs.Forest.{first, next}

-- v put at record x, where 0 is an absent record
abbrev pub handed : List ℕ → ℕ → ℕ → List ℕ
handed a zero v = a
handed a (suc x) v = set a (suc x) v

-- values handed along the links of the first n records: record 0 has v, a first child what its parent makes of its own value, a sibling the same as its elder
pub record Handed (down : ℕ → ℕ → ℕ) (recs : List ℕ) (v n : ℕ) (a : List ℕ) : Type 0 where
  pub long : length a ≡ 4096
  pub top : get_or a 0 0 ≡ v
  pub child : (r : ℕ) → r < n → 0 < first recs r → get_or a (first recs r) 0 ≡ down r (get_or a r 0)
  pub sibling : (r : ℕ) → r < n → 0 < next recs r → get_or a (next recs r) 0 ≡ get_or a r 0

-- what is handed down is a function of the record and its value: f gives the answer of every call
abbrev pub Computes : (ℕ → ℕ → ℕ → Type 0) → (ℕ → ℕ → ℕ) → Type 0
Computes post f = (r v w : ℕ) → r < 4096 → post r v w → w ≡ f r v
