-- The kinds that words stand for, and what a row writes of each. The contracts of `print` that other crates see speak of the words, by `Print`. Definitions only.
use Rattle.std.specs.Prelude.{cond, List, [], ◌∷◌, ℕ, get_or, eqb}
use Rattle.opcode.specs.Names.{bytes}
use Rattle.listing.specs.declared.kinds.ConstKind.{ConstKind}
use Rattle.listing.specs.declared.kinds.ConstKind.TheVariants as const
use Rattle.tables.specs.declared.kind.FunctionKind.{FunctionKind}
use Rattle.tables.specs.declared.kind.FunctionKind.TheVariants as function
use Rattle.listing.specs.declared.kinds.Capture.{Capture}
use Rattle.listing.specs.declared.kinds.Capture.TheVariants as capture
use Rattle.listing.specs.declared.kinds.ErrorKind.{ErrorKind}
use Rattle.listing.specs.declared.kinds.ErrorKind.TheVariants as error
use Rattle.listing.specs.declared.print.Line.{Line}
use Rattle.listing.specs.Print.{decimal, int, float}

-- a constant's kind by its first word
abbrev pub kinds_of_consts : List ConstKind
kinds_of_consts =
    const.Null ∷ const.Bool ∷ const.Int ∷ const.Float ∷ const.Str ∷ const.Bytes ∷ const.Function ∷ const.Effect ∷ const.Yield ∷ []

unfoldable pub const_kind_of : ℕ → ConstKind
const_kind_of n = get_or kinds_of_consts n const.Unknown

abbrev pub name_of_const : ConstKind → List ℕ
name_of_const const.Null = bytes "Null"
name_of_const const.Bool = bytes "Bool"
name_of_const const.Int = bytes "Int"
name_of_const const.Float = bytes "Float"
name_of_const const.Str = bytes "Str"
name_of_const const.Bytes = bytes "Bytes"
name_of_const const.Function = bytes "Function"
name_of_const const.Effect = bytes "Effect"
name_of_const const.Yield = bytes "Yield"
name_of_const const.Unknown = []

-- what a constant's value is written as
abbrev pub value_text : ConstKind → ℕ → ℕ → List ℕ
value_text const.Null low high = 45 ∷ []
value_text const.Bool low high = decimal low
value_text const.Int low high = int high low
value_text const.Float low high = float high low
value_text const.Str low high = decimal low
value_text const.Bytes low high = decimal low
value_text const.Function low high = decimal low
value_text const.Effect low high = decimal low
value_text const.Yield low high = 45 ∷ []
value_text const.Unknown low high = decimal low

-- a function's kind is its record's
abbrev pub name_of_function : FunctionKind → List ℕ
name_of_function function.Function = bytes "Function"
name_of_function function.Closure = bytes "Closure"
name_of_function function.Do = bytes "Do"
name_of_function function.Unknown = []

-- an upvalue's capture by its word
unfoldable pub capture_of : ℕ → Capture
capture_of n = cond (eqb n 1) capture.Local capture.Upvalue

abbrev pub name_of_capture : Capture → List ℕ
name_of_capture capture.Local = bytes "Local"
name_of_capture capture.Upvalue = bytes "Upvalue"

-- an error's kind by its first word
abbrev pub kinds_of_errors : List ErrorKind
kinds_of_errors = error.BreakOutsideLoop ∷ error.ContinueOutsideLoop ∷ error.ReturnOutsideFunction ∷ []

unfoldable pub error_kind_of : ℕ → ErrorKind
error_kind_of n = get_or kinds_of_errors n error.Unknown

abbrev pub name_of_error : ErrorKind → List ℕ
name_of_error error.BreakOutsideLoop = bytes "BreakOutsideLoop"
name_of_error error.ContinueOutsideLoop = bytes "ContinueOutsideLoop"
name_of_error error.ReturnOutsideFunction = bytes "ReturnOutsideFunction"
name_of_error error.Unknown = []

-- a function's line by its first seven words, of which the second, its labels, is not printed
abbrev pub line_of : List ℕ → Line
line_of words = record {
  markers = get_or words 0 0;
  constants = get_or words 2 0;
  locals = get_or words 3 0;
  globals = get_or words 4 0;
  upvalues = get_or words 5 0;
  depth = get_or words 6 0;
}
