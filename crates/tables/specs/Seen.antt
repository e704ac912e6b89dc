-- What the passes of row 3 keep of the entries that they have gone through: strings by hash, symbols by their last place. Definitions only.
use Rattle.std.specs.Prelude.{◌≡◌, cond, List, map, ℕ, zero, suc, ◌+◌, ◌*◌, ◌%◌, ◌<◌, length, get_or, eqb}
use Rattle.std.specs.List.{fold}
use Rattle.tables.specs.declared.strings.Chains.{Chains}
use Rattle.tables.specs.declared.strings.Link.{Link}
use Rattle.tables.specs.Semantic.{text_of}

-- one more than the last place below n that has key b, 0 where none has
unfoldable pub last : (ℕ → ℕ) → ℕ → ℕ → ℕ
last key b zero = 0
last key b (suc n) = cond (eqb (key n) b) (suc n) (last key b n)

-- a hash of bytes, taken up to each byte in turn
abbrev pub mixed : ℕ → ℕ → ℕ
mixed h x = (h * 16777619 + x) % 4294967296

abbrev pub hash : ℕ → List ℕ → ℕ
hash h bytes = fold mixed h bytes

unfoldable pub hash_at : List ℕ → List ℕ → ℕ → ℕ
hash_at strings bytes s = hash 0 (text_of strings bytes s)

-- the bucket of a hash, and that of an entry by its hash
abbrev pub bucket : ℕ → ℕ
bucket h = h % 1021

abbrev pub bucket_at : (ℕ → ℕ) → ℕ → ℕ
bucket_at key e = bucket (key e)

-- the hash of each link, and the entry before it, as lists of their own
abbrev pub hashes : List Link → List ℕ
hashes links = map (λ l. l.hash) links

abbrev pub nexts : List Link → List ℕ
nexts links = map (λ l. l.next) links

-- the first s entries: each one's hash, the newest of each bucket, and for each entry the one before it in its bucket
pub record Chained (key : ℕ → ℕ) (chains : Chains) (s : ℕ) : Type 0 where
  pub links_long : length chains.links ≡ 1024
  pub heads_long : length chains.heads ≡ 1024
  pub hashed : (e : ℕ) → e < s → get_or (hashes chains.links) e 0 ≡ key e
  pub newest : (b : ℕ) → b < 1021 → get_or chains.heads b 0 ≡ last (bucket_at key) b s
  pub older : (e : ℕ) → e < s → get_or (nexts chains.links) e 0 ≡ last (bucket_at key) (bucket_at key e) e

-- the symbol at place m of the members
abbrev pub symbol_at : List ℕ → ℕ → ℕ
symbol_at members m = get_or members m 0

-- the first n places: a stamp for each key, its last place
pub record Stamped (key : ℕ → ℕ) (seen : List ℕ) (n : ℕ) : Type 0 where
  pub long : length seen ≡ 1024
  pub each : (x : ℕ) → x < 1024 → get_or seen x 0 ≡ last key x n
