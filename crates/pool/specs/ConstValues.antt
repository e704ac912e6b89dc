-- The Rust's ConstValue in words. Document 01, 'The call': "constants (kind, two words: ..)". Definitions only.
use Rattle.std.specs.Prelude.{ℕ, zero, suc}
use Rattle.pool.specs.Consts.{words}
use Rattle.pool.specs.declared.consts.ConstWords.{ConstWords}
use Rattle.pool.specs.declared.value.ConstValue.{ConstValue}
use Rattle.pool.specs.declared.value.ConstValue.TheVariants.{Null, Bool, Int, Float, Str, Bytes, Function, Effect, Yield}

abbrev pub words_of : ConstValue → ConstWords
words_of Null = words 0 0 0
words_of (Bool v) = words 1 v 0
words_of (Int l h) = words 2 l h
words_of (Float l h) = words 3 l h
words_of (Str s) = words 4 s 0
words_of (Bytes s) = words 5 s 0
words_of (Function f) = words 6 f.0 0
words_of (Effect r) = words 7 r 0
words_of Yield = words 8 0 0

-- "1 Lit: 0 Null, 1 Bool p, 2 Int and 3 Float (p low, q high word), 4 Str p, 5 Bytes p"
abbrev pub lit_of : ℕ → ℕ → ℕ → ConstValue
lit_of zero p q = Null
lit_of (suc zero) p q = Bool p
lit_of (suc (suc zero)) p q = Int p q
lit_of (suc (suc (suc zero))) p q = Float p q
lit_of (suc (suc (suc (suc zero)))) p q = Str p
lit_of (suc (suc (suc (suc (suc d))))) p q = Bytes p
