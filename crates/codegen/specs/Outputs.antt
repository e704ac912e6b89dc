-- The outputs as they are lent: their words, and that they are lent still. Definitions only.
use Rattle.std.specs.Prelude.{◌≡◌, List, ℕ}
use Rattle.std.specs.Borrow.{MutBor}
use Rattle.rules.specs.Out.{Out}
use Rattle.codegen.specs.declared.outputs.Outputs.{Outputs}

-- the words that are lent
abbrev pub words : Outputs → Out
words o = record {
  markers = o.markers.now;
  constants = o.constants.now;
  names_out = o.names.now;
  errors = o.errors.now;
  lines = o.lines.now;
}

-- the slices that were lent are lent still
pub record SameSlices (o o' : Outputs) : Type 0 where
  pub markers : o'.markers.ghost_name ≡ o.markers.ghost_name
  pub constants : o'.constants.ghost_name ≡ o.constants.ghost_name
  pub names : o'.names.ghost_name ≡ o.names.ghost_name
  pub errors : o'.errors.ghost_name ≡ o.errors.ghost_name
  pub lines : o'.lines.ghost_name ≡ o.lines.ghost_name

-- a slice with other words
abbrev pub holding : MutBor (List ℕ) → List ℕ → MutBor (List ℕ)
holding s ws = record s { now = ws }
