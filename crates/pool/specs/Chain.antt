-- The items of each owner as chains: a head for each owner, and for each item the next one, which is less; 0 ends a chain. An owner is 0 for none and
-- f + 1 for function f. Definitions only.
use Rattle.std.specs.Prelude.{Bool, cond, ℕ, zero, suc, ◌%◌, get_or, set, replicate, ltb}
use Rattle.pool.specs.declared.chain.Chain.{Chain}

abbrev pub OWNERS : ℕ
OWNERS = 257

abbrev pub no_chains : (n : ℕ) → Chain n
no_chains n = record { heads = replicate OWNERS 0; nexts = replicate n 0 }

-- an item as the first of its owner's chain
unfoldable pub chained : {n : ℕ} → Chain n → ℕ → ℕ → Chain n
chained {n} c o i = cond (ltb i n) (record { heads = set c.heads (o % OWNERS) i; nexts = set c.nexts i (get_or c.heads (o % OWNERS) 0) }) c

abbrev pub below : ℕ → ℕ → ℕ
below link i = cond (ltb link i) link 0

-- the first item of an owner, and the next one after item i
unfoldable pub first_of : {n : ℕ} → Chain n → ℕ → ℕ
first_of c o = get_or c.heads (o % OWNERS) 0

unfoldable pub next_of : {n : ℕ} → Chain n → ℕ → ℕ
next_of {n} c i = cond (ltb i n) (below (get_or c.nexts i 0) i) 0

-- the last of the numbers below n that pass a test, 0 where none does
unfoldable pub last : (ℕ → Bool) → ℕ → ℕ
last b zero = 0
last b (suc n) = cond (b n) n (last b n)
