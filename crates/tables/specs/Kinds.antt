-- Document 01, 'Records': the kinds by their numbers. Definitions only.
use Rattle.std.specs.Prelude.{cond, List, [], ◌∷◌, ℕ, eqb, Option, None, Some}
use Rattle.tables.specs.Details.{Row, row, of_kind}
use Rattle.tables.specs.declared.kind.Kind.{Kind}
use Rattle.tables.specs.declared.kind.Kind.TheVariants as kind
use Rattle.tables.specs.declared.kind.ImportKind.{ImportKind}
use Rattle.tables.specs.declared.kind.ImportKind.TheVariants.{Simple, WithAlias, Items, Glob}
use Rattle.tables.specs.declared.kind.FunctionKind.{FunctionKind}
use Rattle.tables.specs.declared.kind.FunctionKind.TheVariants as function
use Rattle.tables.specs.declared.kind.SymbolKind.{SymbolKind}
use Rattle.tables.specs.declared.kind.SymbolKind.TheVariants.{Local, Global}

-- "1 to 27" are expressions, "30 to 39" parts of them and patterns
abbrev pub kinds : List (Row Kind)
kinds =
    row 1 kind.Lit
    ∷ row 2 kind.Ident
    ∷ row 3 kind.Paren
    ∷ row 4 kind.Block
    ∷ row 5 kind.Fn
    ∷ row 6 kind.Effect
    ∷ row 7 kind.Table
    ∷ row 8 kind.List
    ∷ row 9 kind.Unary
    ∷ row 10 kind.Binary
    ∷ row 11 kind.TypeCheck
    ∷ row 12 kind.Member
    ∷ row 13 kind.Call
    ∷ row 14 kind.If
    ∷ row 15 kind.Match
    ∷ row 16 kind.Loop
    ∷ row 17 kind.While
    ∷ row 18 kind.For
    ∷ row 19 kind.Break
    ∷ row 20 kind.Continue
    ∷ row 21 kind.Return
    ∷ row 22 kind.Import
    ∷ row 23 kind.GloAssign
    ∷ row 24 kind.Assign
    ∷ row 25 kind.AssignOp
    ∷ row 26 kind.AssignUnpack
    ∷ row 27 kind.AssignMulti
    ∷ row 30 kind.Function
    ∷ row 31 kind.Params
    ∷ row 32 kind.Handler
    ∷ row 33 kind.Case
    ∷ row 34 kind.Left
    ∷ row 35 kind.LitPattern
    ∷ row 36 kind.IdentPattern
    ∷ row 37 kind.TablePattern
    ∷ row 38 kind.ListPattern
    ∷ row 39 kind.Item
    ∷ []

-- the kind of a number
abbrev pub kind_of : ℕ → Kind
kind_of n = of_kind n kinds kind.Unknown

-- an Import's detail: "0 Simple, 1 Simple with alias Ident, 2 Items, 3 Glob"
abbrev pub import_kind_of : ℕ → ImportKind
import_kind_of n = cond (eqb n 0) Simple (cond (eqb n 1) WithAlias (cond (eqb n 2) Items Glob))

-- a Function's: "30 Function (0 Function, 1 Closure, 2 Do"
abbrev pub function_kind_of : ℕ → FunctionKind
function_kind_of n = cond (eqb n 0) function.Function (cond (eqb n 1) function.Closure (cond (eqb n 2) function.Do function.Unknown))

-- a symbol's: "kind (0 Local, 1 Global)"
abbrev pub symbol_kind_of : ℕ → Option SymbolKind
symbol_kind_of n = cond (eqb n 0) (Some Local) (cond (eqb n 1) (Some Global) None)
