-- The forms of the contracts of the tests: of whatever Match's record r, with labels that are words for whatever numbers they can. Definitions only.
use Rattle.std.specs.Prelude.{◌≡◌, cond, List, ◌⊎◌, ℕ, suc, ◌-◌, ◌<◌, ltb}
use Rattle.tables.specs.Record.{word, words, size}
use Rattle.tables.specs.Forest.{forest, children}
use Rattle.rules.specs.Run.{State}
use Rattle.context.specs.Words.{limit, cap, more}
use Rattle.context.specs.Sinks.{took_many, Takes}
use Rattle.context.specs.Rep.{lent_words, SameSizes, Moves, Sim}
use Rattle.context.specs.declared.Context.{Context}
use Rattle.pattern.specs.declared.clean.CleanStack.{CleanStack}
use Rattle.pattern.specs.Tests.{own, first_labels, first_run, cleanup_run, test_run, case_run, cases_run}

-- a test that fails to the label l
pub record WithLabel (recs : List ℕ) (w w' : Context) (l : ℕ) (f : ℕ → ℕ → State → State) : Type 0 where
  pub moves : (r y : ℕ) → l ≡ cap y → Moves recs w w' (λ c. f r y)
  pub sizes : SameSizes w w'

-- a pattern's first label
pub record Begins (w w' : Context) (s : CleanStack) : Type 0 where
  pub label : Takes w w' 1 s.first.0
  pub taken : s.taken ≡ 1

-- a label more where there is none at depth d
pub record Deepens (w w' : Context) (s s' : CleanStack) (d : ℕ) : Type 0 where
  pub first : s'.first ≡ s.first
  pub taken : s'.taken ≡ cond (ltb d s.taken) s.taken (more s.taken)
  pub context : w' ≡ took_many (cond (ltb d s.taken) 0 1) w

-- the clean-up labels placed
pub record Cleans (w w' : Context) (s : CleanStack) : Type 0 where
  pub cleans : (recs : List ℕ) → WithLabel recs w w' s.first.0 (λ r x. cleanup_run r x (s.taken - 1))

-- a word can number the records, and the pattern q at depth d is absent or one of them: its number is greater than those of the Case and the d patterns around it
abbrev pub Deep : List ℕ → ℕ → ℕ → Type 0
Deep recs d q = (size recs < limit) × ((q ≡ 0) ⊎ ((suc d < q) × (q < size recs)))

-- the pattern q at depth d; s is the clean-up labels before it, s' those after it
pub record VisitsPattern (recs notes : List ℕ) (w w' : Context) (q d : ℕ) (s s' : CleanStack) : Type 0 where
  pub first : s'.first ≡ s.first
  pub taken : Deep recs d q → s'.taken ≡ first_labels d s.taken (forest recs q)
  pub visits : Deep recs d q → (r x : ℕ) → s.first.0 ≡ cap x → Sim (lent_words recs notes) w w' (λ c. first_run notes r x d s.taken (forest recs q))
  pub sizes : SameSizes w w'

-- a pattern of kind k
pub record VisitsNested (recs notes : List ℕ) (w w' : Context) (k q d : ℕ) (s s' : CleanStack) : Type 0 where
  pub visits : word recs q 0 ≡ k → (q ≡ 0 → ⊥) → VisitsPattern recs notes w w' q d s s'
  pub sizes : SameSizes w w'

-- a pattern of a Case whose block has the label l
pub record TestsPattern (recs notes : List ℕ) (w w' : Context) (q l : ℕ) : Type 0 where
  pub tests : 1 < q → q < size recs → (r y : ℕ) → l ≡ cap y
      → Sim (lent_words recs notes) w w' (λ c. test_run notes r y q (words recs q) (children recs q))
  pub sizes : SameSizes w w'

-- the patterns of the Case q
pub record TestsCase (recs notes : List ℕ) (w w' : Context) (q l : ℕ) : Type 0 where
  pub tests : (q ≡ 0 → ⊥) → (r y : ℕ) → l ≡ cap y
      → Sim (lent_words recs notes) w w' (λ c. case_run notes r y (word recs q 2) (own (words recs q) (children recs q)))
  pub sizes : SameSizes w w'

-- the tests of the Cases from the record q on, whose blocks' labels are the word l and those behind it, whatever Match they are of
pub record Tests (recs notes : List ℕ) (w w' : Context) (q l : ℕ) : Type 0 where
  pub tests : (r base : ℕ) → l ≡ cap base
      → Sim (lent_words recs notes) w w' (λ c. cases_run notes r base (forest recs q))
  pub sizes : SameSizes w w'
