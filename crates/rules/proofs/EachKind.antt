-- A fact of each kind of record, written beside the list of kinds. Assumes nothing.
use mathlib.Core.List.{List, [], ◌∷◌}
use Rattle.rules.specs.Kinds.{Kind}

infixr 5 ◌also◌
pub data EachKind (P : Kind → Type 0) : List Kind → Type 0 where
  no_more : EachKind P []
  ◌also◌ : {x : Kind} {xs : List Kind} → P x → EachKind P xs → EachKind P (x ∷ xs)
