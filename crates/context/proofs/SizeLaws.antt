-- The two slices that a run writes keep their lengths, whatever is done to the context. Assumes nothing.
use mathlib.Core.Path.{◌≡◌, refl, ap, ◌∙◌}
use mathlib.Core.Bool.{Bool, true, false, cond}
use mathlib.Core.List.{List, [], ◌∷◌}
use Prim.Native.Nat.{ℕ, zero, suc, ◌-◌}
use lib.ListN.{length}
use lib.Dec.{ltb}
use Rattle.opcode.specs.declared.opcode.Words.{Words as MarkerWords}
use Rattle.opcode.specs.declared.index.LabelId.{LabelId}
use Rattle.opcode.specs.Words.{pair_of}
use Rattle.pool.specs.Names.{Access, local, global, upvalue, missing}
use Rattle.pool.specs.Value.{seen}
use Rattle.pool.specs.Consts.{put3, table, const_of, written}
use Rattle.pool.specs.declared.consts.ConstWords.{ConstWords}
use Rattle.pool.proofs.PutLaws.{put_length}
use Rattle.rules.specs.Step.{Use}
use Rattle.rules.specs.Run.{error_number}
use Rattle.rules.specs.declared.Flow.{Flow}
use Rattle.rules.specs.declared.Flow.TheVariants.{Go, Cut, Refused}
use Rattle.context.specs.Words.{KEPT, more}
use Rattle.context.specs.Sinks.{
  with_code,
  with_consts,
  goes,
  took,
  took_many,
  Takes,
  stopped,
  put2,
  writes,
  marked,
  pushed,
  const_index,
  with_const,
  loads,
  used,
  stacked,
  opened,
  closed,
  inside,
  back_to,
  noted,
  keeping,
  kept,
}
use Rattle.context.specs.Rep.{sizes_of, SameSizes}
use Rattle.context.specs.declared.Context.{Context}
use Rattle.context.specs.declared.function.Outer.{Outer}

-- a context that is known by an equation
pub sized : (x : Context) {y x' : Context} → x' ≡ y → SameSizes x y → SameSizes x x'
sized x e h = ap sizes_of e ∙ h

-- one of two contexts that both have the lengths of x
either : (b : Bool) (y z x : Context) → SameSizes x y → SameSizes x z → SameSizes x (cond b y z)
either true y z x e h = e
either false y z x e h = h

-- other words in a slice, as many as before
code_sizes : (ws : List ℕ) (x : Context) → length ws ≡ length x.code.now → SameSizes x (with_code ws x)
unfolding sizes_of
code_sizes ws x e = ap (λ (n : ℕ). (n, length x.consts.now)) e

consts_sizes : (ws : List ℕ) (x : Context) → length ws ≡ length x.consts.now → SameSizes x (with_consts ws x)
unfolding sizes_of
consts_sizes ws x e = ap (λ (n : ℕ). (length x.code.now, n)) e

marked_of : (w : MarkerWords) (x : Context) → SameSizes x (marked w x)
unfolding sizes_of
marked_of w x = code_sizes (put2 x.code.now x.marker_count w.code w.operand) x (put_length x.code.now x.marker_count (w.code ∷ w.operand ∷ []))

pushed_of : (w : MarkerWords) (x : Context) → SameSizes x (pushed w x)
unfolding pushed
pushed_of w x = either (writes x) (marked w x) x x (marked_of w x) refl

written_length : (recs ws : List ℕ) (n k l h : ℕ) → length (written recs ws n k l h) ≡ length ws
unfolding written
written_length recs ws n k l h = by (seen (table recs ws n) (const_of recs k l h).value)
  where
    by : (b : Bool) → length (cond b ws (put3 ws n k l h)) ≡ length ws
    by true = refl
    by false = put_length ws n (k ∷ l ∷ h ∷ [])

with_const_of : (recs : List ℕ) (v : ConstWords) (x : Context) → SameSizes x (with_const recs v x)
unfolding sizes_of
with_const_of recs v x =
    consts_sizes (written recs x.consts.now x.const_count v.kind v.low v.high) x (written_length recs x.consts.now x.const_count v.kind v.low v.high)

loads_of : (recs : List ℕ) (c : ℕ) (v : ConstWords) (x : Context) → SameSizes x (loads recs c v x)
unfolding loads
loads_of recs c v x =
    let y = with_const recs v x in
    let w = pair_of c (const_index recs v x) in either (writes x) (marked w y) x x (marked_of w y ∙ with_const_of recs v x) refl

-- where neither slice is touched the lengths are the same ones
stopped_of : (f : Flow) (x : Context) → SameSizes x (stopped f x)
unfolding stopped sizes_of
stopped_of f x = either (goes x) (record x { flow = f }) x x refl refl

took_of : (x : Context) → SameSizes x (took x)
unfolding took sizes_of
took_of x = either (goes x) (record x { label_count = more x.label_count }) x x refl refl

took_many_of : (n : ℕ) (x : Context) → SameSizes x (took_many n x)
took_many_of zero x = refl
took_many_of (suc n) x = took_of (took_many n x) ∙ took_many_of n x

used_of : (u : Use) (i : ℕ) (a : Access) (x : Context) → SameSizes x (used u i a x)
used_of u i (local n) x = pushed_of _ x
used_of u i (global n) x = pushed_of _ x
used_of u i (upvalue n) x = pushed_of _ x
used_of u i (missing y) x = stopped_of _ x

stacked_of : (l : LabelId) (x : Context) → SameSizes x (stacked l x)
unfolding sizes_of
stacked_of l x = either (ltb x.depth KEPT) _ _ x refl refl

opened_of : (l : LabelId) (x : Context) → SameSizes x (opened l x)
unfolding opened
opened_of l x = either (goes x) (stacked l x) x x (stacked_of l x) refl

closed_of : (x : Context) → SameSizes x (closed x)
unfolding closed sizes_of
closed_of x = either (goes x) (record x { depth = x.depth - 1 }) x x refl refl

noted_length : (x : Context) (k a b : ℕ) → length (noted x k a b) ≡ length x.code.now
noted_length x k a b = by x.nest
  where
    by : (c : Bool) → length (cond c (put3 x.code.now x.error_count k a b) x.code.now) ≡ length x.code.now
    by true = put_length x.code.now x.error_count (k ∷ a ∷ b ∷ [])
    by false = refl

keeping_of : (f : Flow) (x : Context) → SameSizes x (keeping f x)
unfolding sizes_of
keeping_of Go x = refl
keeping_of (Cut k a b) x = code_sizes (noted x (error_number k) a b) x (noted_length x (error_number k) a b)
keeping_of (Refused y i) x = refl

kept_of : (x : Context) → SameSizes x (kept x)
unfolding kept
kept_of x = keeping_of x.flow x

inside_of : (r : ℕ) (x : Context) → SameSizes x (inside r x)
unfolding sizes_of
inside_of r x = refl

back_of : (o : Outer) (x : Context) → SameSizes x (back_to o x)
unfolding sizes_of
back_of o x = refl

-- ---- by what the sinks say

pub pushed_sizes : (w : MarkerWords) (x : Context) {x' : Context} → x' ≡ pushed w x → SameSizes x x'
pushed_sizes w x e = sized x e (pushed_of w x)

pub loaded_sizes : (recs : List ℕ) (c : ℕ) (v : ConstWords) (x : Context) {x' : Context} → x' ≡ loads recs c v x → SameSizes x x'
loaded_sizes recs c v x e = sized x e (loads_of recs c v x)

pub stopped_sizes : (f : Flow) (x : Context) {x' : Context} → x' ≡ stopped f x → SameSizes x x'
stopped_sizes f x e = sized x e (stopped_of f x)

pub taken_sizes : {x x' : Context} {n l : ℕ} → Takes x x' n l → SameSizes x x'
taken_sizes {x} {n = n} e = sized x e.context (took_many_of n x)

pub used_sizes : (u : Use) (i : ℕ) (a : Access) (x : Context) {x' : Context} → x' ≡ used u i a x → SameSizes x x'
used_sizes u i a x e = sized x e (used_of u i a x)

pub opened_sizes : (l : LabelId) (x : Context) {x' : Context} → x' ≡ opened l x → SameSizes x x'
opened_sizes l x e = sized x e (opened_of l x)

pub closed_sizes : (x : Context) {x' : Context} → x' ≡ closed x → SameSizes x x'
closed_sizes x e = sized x e (closed_of x)

pub kept_sizes : (x : Context) {x' : Context} → x' ≡ kept x → SameSizes x x'
kept_sizes x e = sized x e (kept_of x)

pub inside_sizes : (r : ℕ) (x : Context) {x' : Context} → x' ≡ inside r x → SameSizes x x'
inside_sizes r x e = sized x e (inside_of r x)

pub back_sizes : (o : Outer) (x : Context) {x' : Context} → x' ≡ back_to o x → SameSizes x x'
back_sizes o x e = sized x e (back_of o x)
