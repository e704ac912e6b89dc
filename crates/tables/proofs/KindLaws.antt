-- A kind that is known gives its number back. Assumes nothing.
use mathlib.Core.Path.{◌≡◌, refl, sym, ap, subst, ◌∙◌}
use mathlib.Core.Bool.{Bool, true, false, not, cond, ◌&&◌}
use mathlib.Core.List.{List, [], ◌∷◌}
use Prim.Native.Nat.{ℕ, zero, suc, ◌≤◌}
use native.Mathlib.Omega.{arith}
use lib.Dec.{eqb, ltb}
use denote.Enum.Bare.{sameb, same_true, same_false, differs_true, differs_false}
use borrow.Author.Tests.{eqb-true, eq-eqb, ne_eqb, le-ltb}
use Rattle.tables.proofs.ServeLaws.{clash}
use Rattle.tables.specs.declared.kind.Kind.{Kind}
use Rattle.tables.specs.contracts.kind.Kind.{the_type}
use Rattle.tables.specs.declared.kind.Kind.TheVariants as kind
use Rattle.tables.specs.declared.kind.ImportKind.{ImportKind}
use Rattle.tables.specs.declared.kind.ImportKind.TheVariants.{Simple, WithAlias, Items, Glob}
use Rattle.tables.specs.contracts.kind.ImportKind.{the_type as import_type}
use Rattle.tables.specs.declared.kind.FunctionKind.{FunctionKind}
use Rattle.tables.specs.declared.kind.FunctionKind.TheVariants.{Do}
use Rattle.tables.specs.contracts.kind.FunctionKind.{the_type as function_type}
use Rattle.tables.specs.Details.{Row, row, of_kind}
use Rattle.tables.specs.Kinds.{kinds, kind_of, import_kind_of, function_kind_of}

-- its place in the declaration, and two more behind the expressions
abbrev pub number : Kind → ℕ
number kind.Lit = 1
number kind.Ident = 2
number kind.Paren = 3
number kind.Block = 4
number kind.Fn = 5
number kind.Effect = 6
number kind.Table = 7
number kind.List = 8
number kind.Unary = 9
number kind.Binary = 10
number kind.TypeCheck = 11
number kind.Member = 12
number kind.Call = 13
number kind.If = 14
number kind.Match = 15
number kind.Loop = 16
number kind.While = 17
number kind.For = 18
number kind.Break = 19
number kind.Continue = 20
number kind.Return = 21
number kind.Import = 22
number kind.GloAssign = 23
number kind.Assign = 24
number kind.AssignOp = 25
number kind.AssignUnpack = 26
number kind.AssignMulti = 27
number kind.Function = 30
number kind.Params = 31
number kind.Handler = 32
number kind.Case = 33
number kind.Left = 34
number kind.LitPattern = 35
number kind.IdentPattern = 36
number kind.TablePattern = 37
number kind.ListPattern = 38
number kind.Item = 39
number kind.Unknown = 0

abbrev pub Known : Kind → Type 0
Known kind.Unknown = ⊥
Known _ = Unit {0}

-- each row has its kind's number
abbrev agree : List (Row Kind) → Bool
agree [] = true
agree (row m k ∷ rows) = eqb m (number k) && agree rows

found : (n : ℕ) (rows : List (Row Kind)) (k : Kind) → Known k → agree rows ≡ true → of_kind n rows kind.Unknown ≡ k → n ≡ number k
found n [] k u a e = absurd (subst Known (sym e) u)
found n (row m x ∷ rows) k u a e = go (eqb n m) refl (eqb m (number x)) refl a e (λ a e. found n rows k u a e)
  where
    go : (b : Bool) → eqb n m ≡ b → (d : Bool) → eqb m (number x) ≡ d → d && agree rows ≡ true → cond b x (of_kind n rows kind.Unknown) ≡ k
        → (agree rows ≡ true → of_kind n rows kind.Unknown ≡ k → n ≡ number k) → n ≡ number k
    go true q true r a e ih = eqb-true n m q ∙ eqb-true m (number x) r ∙ ap number e
    go false q true r a e ih = ih a e
    go b q false r a e ih = clash a

-- x is the kind of n as it was read
pub numbered : (n : ℕ) (x k : Kind) → x ≡ kind_of n → x ≡ k → Known k → n ≡ number k
numbered n x k q e u = found n kinds k u refl (sym q ∙ e)

back : (k : Kind) → Known k → kind_of (number k) ≡ k
back kind.Lit u = refl
back kind.Ident u = refl
back kind.Paren u = refl
back kind.Block u = refl
back kind.Fn u = refl
back kind.Effect u = refl
back kind.Table u = refl
back kind.List u = refl
back kind.Unary u = refl
back kind.Binary u = refl
back kind.TypeCheck u = refl
back kind.Member u = refl
back kind.Call u = refl
back kind.If u = refl
back kind.Match u = refl
back kind.Loop u = refl
back kind.While u = refl
back kind.For u = refl
back kind.Break u = refl
back kind.Continue u = refl
back kind.Return u = refl
back kind.Import u = refl
back kind.GloAssign u = refl
back kind.Assign u = refl
back kind.AssignOp u = refl
back kind.AssignUnpack u = refl
back kind.AssignMulti u = refl
back kind.Function u = refl
back kind.Params u = refl
back kind.Handler u = refl
back kind.Case u = refl
back kind.Left u = refl
back kind.LitPattern u = refl
back kind.IdentPattern u = refl
back kind.TablePattern u = refl
back kind.ListPattern u = refl
back kind.Item u = refl
back kind.Unknown u = absurd u

pub unlike : (n : ℕ) (x k : Kind) → x ≡ kind_of n → (x ≡ k → ⊥) → Known k → n ≡ number k → ⊥
unlike n x k q ne u e = ne (q ∙ ap kind_of e ∙ back k u)

-- the derived comparison
pub compared : (n : ℕ) (x k : Kind) → x ≡ kind_of n → Known k → sameb the_type x k ≡ eqb n (number k)
compared n x k q u = go (sameb the_type x k) refl
  where
    go : (b : Bool) → sameb the_type x k ≡ b → sameb the_type x k ≡ eqb n (number k)
    go true e = e ∙ sym (eq-eqb n (number k) (numbered n x k q (same_true the_type tt x k e) u))
    go false e = e ∙ sym (ne_eqb n (number k) (unlike n x k q (same_false the_type x k e) u))

-- what an arm of a comparison knows; b is its flag
module _ (n : ℕ) (x k : Kind) (b : Bool) (q : x ≡ kind_of n) (f : b ≡ sameb the_type x k) (u : Known k) where
  pub is_kind : b ≡ true → n ≡ number k
  is_kind e = numbered n x k q (same_true the_type tt x k (sym f ∙ e)) u

  pub no_kind : b ≡ false → n ≡ number k → ⊥
  no_kind e = unlike n x k q (same_false the_type x k (sym f ∙ e)) u

-- the same of `!=`
module _ (n : ℕ) (x k : Kind) (b : Bool) (q : x ≡ kind_of n) (f : b ≡ not (sameb the_type x k)) (u : Known k) where
  pub other_kind : b ≡ true → n ≡ number k → ⊥
  other_kind e = unlike n x k q (differs_true the_type x k (sym f ∙ e)) u

  pub same_kind : b ≡ false → n ≡ number k
  same_kind e = numbered n x k q (differs_false the_type tt x k (sym f ∙ e)) u

-- whether an Import is a simple one
pub is_simple : (n : ℕ) (x : ImportKind) (b : Bool) → x ≡ import_kind_of n → b ≡ sameb import_type x Simple → b ≡ eqb n 0
is_simple n x b q f = f ∙ ap (λ z. sameb import_type z Simple) q ∙ go (eqb n 0) (eqb n 1) (eqb n 2)
  where
    go : (s w i : Bool) → sameb import_type (cond s Simple (cond w WithAlias (cond i Items Glob))) Simple ≡ s
    go true w i = refl
    go false true i = refl
    go false false true = refl
    go false false false = refl

-- an Import that stores one name, and one with Items
abbrev pub stores_one : ImportKind → Bool
stores_one Simple = true
stores_one WithAlias = true
stores_one Items = false
stores_one Glob = false

abbrev pub has_items : ImportKind → Bool
has_items Simple = false
has_items WithAlias = false
has_items Items = true
has_items Glob = false

glob_behind : (n : ℕ) → 3 ≤ n → import_kind_of n ≡ Glob
glob_behind n h = rw (ne_eqb n 0 (λ e. omega arith), ne_eqb n 1 (λ e. omega arith), ne_eqb n 2 (λ e. omega arith)) refl

pub one_stored : (n : ℕ) (x : ImportKind) (b : Bool) → x ≡ import_kind_of n → stores_one x ≡ b → ltb n 2 ≡ b
one_stored n x b q e = go n (ap stores_one (sym q) ∙ e)
  where
    go : (n : ℕ) → stores_one (import_kind_of n) ≡ b → ltb n 2 ≡ b
    go zero e = e
    go (suc zero) e = e
    go (suc (suc zero)) e = e
    go (suc (suc (suc m))) e = le-ltb _ 2 (omega arith) ∙ sym (ap stores_one (glob_behind (suc (suc (suc m))) (omega arith))) ∙ e

pub items_stored : (n : ℕ) (x : ImportKind) (b : Bool) → x ≡ import_kind_of n → has_items x ≡ b → eqb n 2 ≡ b
items_stored n x b q e = go n (ap has_items (sym q) ∙ e)
  where
    go : (n : ℕ) → has_items (import_kind_of n) ≡ b → eqb n 2 ≡ b
    go zero e = e
    go (suc zero) e = e
    go (suc (suc zero)) e = e
    go (suc (suc (suc m))) e = ne_eqb _ 2 (λ z. omega arith) ∙ sym (ap has_items (glob_behind (suc (suc (suc m))) (omega arith))) ∙ e

-- whether a Function is a Do
pub is_do_kind : (n : ℕ) (x : FunctionKind) (b : Bool) → x ≡ function_kind_of n → b ≡ sameb function_type x Do → b ≡ eqb n 2
is_do_kind n x b q f = f ∙ ap (λ z. sameb function_type z Do) q ∙ go n
  where
    go : (n : ℕ) → sameb function_type (function_kind_of n) Do ≡ eqb n 2
    go zero = refl
    go (suc zero) = refl
    go (suc (suc zero)) = refl
    go (suc (suc (suc m))) =
        let n = suc (suc (suc m)) in
        rw (ne_eqb n 0 (λ e. omega arith), ne_eqb n 1 (λ e. omega arith), ne_eqb n 2 (λ e. omega arith)) refl
