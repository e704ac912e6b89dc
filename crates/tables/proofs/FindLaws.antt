-- The first place that `find` meets in a range is the first broken one. Assumes nothing.
use Rattle.std.proofs.Common.{◌≡◌, ◌∙◌, sym, ℕ, ◌-◌, List, Bool, true, false, Option}
use Rattle.std.specs.Bool.{⊤}
use Rattle.std.specs.List.{FoldsTo}
use Rattle.std.specs.Option.{MatchOption}
use Rattle.std.specs.Fn.{CalledAt}
use Rattle.std.specs.Iterator.{YieldsThen}
use Rattle.std.specs.declared.ops.Range.{Range}
use Rattle.std.proofs.iter.Yields.{nat_range_steps}
use Rattle.std.proofs.lemmas.Iterator.{YieldsList-from_range}
use Rattle.std.proofs.lemmas.Iterator.Adapters.{option_map_id}
use Rattle.std.proofs.lemmas.Iterator.Search.{find_from_yields_List}
use denote.Param.Members.{Mut}
use denote.Ref.{Bor}
use Rattle.tables.specs.Place.{broken_from}

-- from what `find` over the m numbers from a on below n says of its calls, and what a call answers
pub found_first : {F : Type 0} {g : Mut F (Bor ℕ × Unit {0}) Bool} {s : Range ℕ} {f : F} {r : Option ℕ} (bad : ℕ → Bool) (a n m : ℕ) (u : Range ℕ)
    → s ≡ record { start = a; end = n } → n - a ≡ m
    → (xs : List ℕ) × (j : F) × YieldsThen nat_range_steps s xs r u × FoldsTo (λ p x q. CalledAt g p x false q) f xs j × MatchOption r ⊤ (λ x. (h : F) × CalledAt g j x true h)
    → ((x : ℕ) (b : Bool) (q : F) → CalledAt g f x b q → (q ≡ f) × (b ≡ bad x)) → r ≡ broken_from bad a m
found_first {f = f} {r = r} bad a n m u e p ran law = sym (option_map_id r) ∙ find_from_yields_List bad u f r ran (YieldsList-from_range a n m e p) law
