-- A stream's constants: they differ, each but Null 0 is named, and every index is inside. Assumes nothing.
use mathlib.Core.Path.{◌≡◌, refl, sym, ap, subst, ◌∙◌}
use mathlib.Core.Logic.{◌⊎◌, inl, inr}
use mathlib.Core.Bool.{Bool, true, false}
use mathlib.Core.List.{List, [], ◌∷◌, ◌++◌, reverse_aux}
use Prim.Native.Nat.{ℕ, zero, suc, ◌≤◌, ◌<◌}
use native.Mathlib.Omega.{arith}
use native.Mathlib.Decide.{dec_le}
use lib.ListN.{length, get_or, length-append}
use Rattle.opcode.specs.Kinds.{operand_kind}
use Rattle.opcode.specs.declared.opcode.OperandKind.TheVariants as kind
use Rattle.std.proofs.Common.{Some}
use Rattle.pool.specs.Value.{Value, plain, effect, Const, find, seen, intern}
use Rattle.pool.proofs.ConstsLaws.{find_unseen, find_seen, intern_old, intern_new, find_intern, seen_intern, find_later, seen_later, Different, different_start}
use Rattle.pool.proofs.ConstsLaws.{different_intern, differ}
use Rattle.rules.specs.Marker.{ConstOp, LoadConst, Import, ImportFrom, Op, Label, To, Back, Leave, Load, Do, Mark, mark}
use Rattle.rules.specs.Out.{brought, consts, const_number, code_word, operand_word}
use Rattle.rules.specs.Demand.{code, operand, no_const, Constants, KnownFunction}
use Rattle.rules.proofs.Known.{Known, AllKnown}
use Rattle.rules.proofs.OnWords.{op_of, blank, words_of, code_at, operand_at}

pub different : (ms : List Mark) → Different (consts ms)
unfolding consts
different [] = different_start
different (mark r (Label l) ∷ ms) = different ms
different (mark r (To h l) ∷ ms) = different ms
different (mark r (Back l) ∷ ms) = different ms
different (mark r (Leave x l) ∷ ms) = different ms
different (mark r (Load c v) ∷ ms) = different_intern (consts ms) (brought r v) (different ms)
different (mark r (Do c n) ∷ ms) = different ms

-- some marker loads the value
pub data Loads (v : Value) : List Mark → Type 0 where
  here : {r : ℕ} {c : ConstOp} {ms : List Mark} → Loads v (mark r (Load c v) ∷ ms)
  there : {m : Mark} {ms : List Mark} → Loads v ms → Loads v (m ∷ ms)

-- every value that is loaded is in the table
pub loaded_seen : (v : Value) (ms : List Mark) → Loads v ms → seen (consts ms) v ≡ true
unfolding consts
loaded_seen v ms (here {r = r} {ms = xs}) = seen_intern (consts xs) (brought r v)
loaded_seen v ms (there {m = m} {ms = xs} h) = later m (loaded_seen v xs h)
  where
    later : (m : Mark) → seen (consts xs) v ≡ true → seen (consts (m ∷ xs)) v ≡ true
    later (mark r (Label l)) e = e
    later (mark r (To x l)) e = e
    later (mark r (Back l)) e = e
    later (mark r (Leave x l)) e = e
    later (mark r (Load c u)) e = seen_later (consts xs) (brought r u) v e
    later (mark r (Do c n)) e = e

-- every entry but Null 0 is that of a value that is loaded
pub record Named (ms : List Mark) (i : ℕ) : Type 0 where
  pub value : Value
  pub loads : Loads value ms
  pub index : find (consts ms) value ≡ i

pub named : (ms : List Mark) (i : ℕ) → 1 ≤ i → i < length (consts ms) → Named ms i
unfolding consts
named [] i g h = absurd (omega arith)
named (mark r (Label l) ∷ ms) i g h = let z = named ms i g h in record { value = z.value; loads = there z.loads; index = z.index }
named (mark r (To x l) ∷ ms) i g h = let z = named ms i g h in record { value = z.value; loads = there z.loads; index = z.index }
named (mark r (Back l) ∷ ms) i g h = let z = named ms i g h in record { value = z.value; loads = there z.loads; index = z.index }
named (mark r (Leave x l) ∷ ms) i g h = let z = named ms i g h in record { value = z.value; loads = there z.loads; index = z.index }
named (mark r (Do c n) ∷ ms) i g h = let z = named ms i g h in record { value = z.value; loads = there z.loads; index = z.index }
named (mark r (Load c v) ∷ ms) i g h = go (seen cs v) refl (λ u. named ms i g u)
  where
    cs : List Const
    cs = consts ms

    x : Const
    x = brought r v

    old : Named ms i → Named (mark r (Load c v) ∷ ms) i
    old z =
        record { value = z.value; loads = there z.loads; index = find_later cs x z.value (loaded_seen z.value ms z.loads) ∙ z.index }

    go : (b : Bool) → seen cs v ≡ b → (i < length cs → Named ms i) → Named (mark r (Load c v) ∷ ms) i
    go true e ih = old (ih (subst (λ (ts : List Const). i < length ts) (intern_old cs x e) h))
    go false e ih = last (dec_le (suc i) (length cs))
      where
        size : length (intern cs x) ≡ suc (length cs)
        size = ap length (intern_new cs x e) ∙ length-append cs (x ∷ []) ∙ omega arith

        last : Dec (suc i ≤ length cs) → Named (mark r (Load c v) ∷ ms) i
        last (yes u) = old (ih u)
        last (no u) =
            let q : i ≡ length cs = omega (arith, size) in
            record { value = v; loads = here; index = find_intern cs x ∙ find_unseen cs v e ∙ sym q }

loads_back : (v : Value) (xs ys : List Mark) → Loads v (reverse_aux xs ys) → Loads v xs ⊎ Loads v ys
loads_back v [] ys h = inr h
loads_back v (x ∷ xs) ys h = go (loads_back v xs (x ∷ ys) h)
  where
    front : {zs : List Mark} (x : Mark) → Loads v (x ∷ ys) → Loads v (x ∷ zs) ⊎ Loads v ys
    front x here = inl here
    front x (there q) = inr q

    go : Loads v xs ⊎ Loads v (x ∷ ys) → Loads v (x ∷ xs) ⊎ Loads v ys
    go (inl p) = inl (there p)
    go (inr q) = front x q

loads_front : (v : Value) (xs ys : List Mark) → Loads v ys → Loads v (reverse_aux xs ys)
loads_front v [] ys h = h
loads_front v (x ∷ xs) ys h = loads_front v xs (x ∷ ys) (there h)

loads_on : (v : Value) (xs : List Mark) → Loads v xs → (ys : List Mark) → Loads v (reverse_aux xs ys)
loads_on v xs (here {r = r} {c = c} {ms = zs}) ys = loads_front v zs (mark r (Load c v) ∷ ys) here
loads_on v xs (there {m = m} {ms = zs} h) ys = loads_on v zs h (m ∷ ys)

-- where a value is loaded
pub record LoadsAt (v : Value) (xs : List Mark) (j : ℕ) : Type 0 where
  pub within : j < length xs
  pub by : ConstOp
  pub loads : op_of (get_or xs j blank) ≡ Load by v

loads_at : (v : Value) (xs : List Mark) → Loads v xs → (j : ℕ) × LoadsAt v xs j
loads_at v xs (here {c = c}) = (0, record { within = omega arith; by = c; loads = refl })
loads_at v xs (there {ms = zs} h) = let z = loads_at v zs h in (suc z.0, record { within = omega (arith, z.1.within); by = z.1.by; loads = z.1.loads })

loads_some : (v : Value) (ms : List Mark) → Loads v ms → 1 ≤ length ms
loads_some v ms here = omega arith
loads_some v ms (there h) = omega arith

pub at_loads : (v : Value) (xs : List Mark) (j : ℕ) → LoadsAt v xs j → Loads v xs
at_loads v [] j z = absurd (omega (arith, z.within))
at_loads v (mark r x ∷ xs) zero z = subst (λ (y : Op). Loads v (mark r y ∷ xs)) (sym z.loads) here
at_loads v (x ∷ xs) (suc j) z = there (at_loads v xs j (record { within = omega (arith, z.within); by = z.by; loads = z.loads }))

-- LoadConst, Import and ImportFrom name a constant
pub const_kind : (c : ConstOp) → operand_kind (const_number c) ≡ Some kind.Const
unfolding operand_kind
const_kind LoadConst = refl
const_kind Import = refl
const_kind ImportFrom = refl

module _ (xs : List Mark) where
  abbrev cs : List Const
  cs = consts (reverse_aux xs [])

  abbrev ws : List ℕ
  ws = words_of cs xs

  -- a constant's index is inside
  pub load_inside : (v : Value) (j : ℕ) → LoadsAt v xs j → find cs v < length cs
  load_inside v j z = find_seen cs v (loaded_seen v (reverse_aux xs []) (loads_on v xs (at_loads v xs j z) []))

  pub constants_right : Constants cs ws (length xs)
  constants_right =
      record {
        differ = differ cs no_const (different (reverse_aux xs []));
        named = λ i g h. place i (named (reverse_aux xs []) i g h);
      }
    where
      in_stream : (v : Value) → Loads v xs ⊎ Loads v [] → Loads v xs
      in_stream v (inl p) = p
      in_stream v (inr q) = absurd (omega (arith, loads_some v [] q))

      place : (i : ℕ) → Named (reverse_aux xs []) i → (j : ℕ) × (j < length xs) × (operand_kind (code ws j) ≡ Some kind.Const) × (operand ws j ≡ i)
      place i z =
          let q = loads_at z.value xs (in_stream z.value (loads_back z.value xs [] z.loads)) in
          let h = q.1.within in (
            q.0,
            h,
            ap (λ (c : ℕ). operand_kind c) (code_at cs xs q.0 h ∙ ap code_word q.1.loads) ∙ const_kind q.1.by,
            operand_at cs xs q.0 h ∙ ap (operand_word cs) q.1.loads ∙ z.index,
          )

-- every Function constant is the number of a function met
known_intern : (n : ℕ) (cs : List Const) (c : Const) → ((k : ℕ) → k < length cs → KnownFunction n (get_or cs k no_const).value) → KnownFunction n c.value
    → (k : ℕ) → k < length (intern cs c) → KnownFunction n (get_or (intern cs c) k no_const).value
known_intern n cs c h q k g = go (seen cs c.value) refl
  where
    go : (b : Bool) → seen cs c.value ≡ b → KnownFunction n (get_or (intern cs c) k no_const).value
    go true e =
        subst (λ (ts : List Const). KnownFunction n (get_or ts k no_const).value) (sym (intern_old cs c e)) (h k (subst (λ (ts : List Const). k < length ts) (intern_old
        cs c e) g))
    go false e = subst (λ (ts : List Const). KnownFunction n (get_or ts k no_const).value) (sym (intern_new cs c e)) (at cs h k)
      where
        at : (ts : List Const) → ((k : ℕ) → k < length ts → KnownFunction n (get_or ts k no_const).value) → (k : ℕ) → KnownFunction n (get_or (ts ++ (c ∷ [])) k no_const).value
        at [] h zero = q
        at [] h (suc k) = λ t. absurd t
        at (t ∷ ts) h zero = h 0 (omega arith)
        at (t ∷ ts) h (suc k) = at ts (λ k g. h (suc k) (omega arith)) k

pub functions_right : (n : ℕ) (ms : List Mark) → AllKnown n ms → (k : ℕ) → k < length (consts ms) → KnownFunction n (get_or (consts ms) k no_const).value
unfolding consts
functions_right n [] a zero h = λ t. absurd t
functions_right n [] a (suc k) h = absurd (omega arith)
functions_right n (mark r (Label l) ∷ ms) (x, a) k h = functions_right n ms a k h
functions_right n (mark r (To x l) ∷ ms) (y, a) k h = functions_right n ms a k h
functions_right n (mark r (Back l) ∷ ms) (x, a) k h = functions_right n ms a k h
functions_right n (mark r (Leave x l) ∷ ms) (y, a) k h = functions_right n ms a k h
functions_right n (mark r (Do c x) ∷ ms) (y, a) k h = functions_right n ms a k h
functions_right n (mark r (Load c v) ∷ ms) (y, a) k h =
    known_intern n (consts ms) (brought r v) (λ k g. functions_right n ms a k g) (same_known v y) k h
  where
    same_known : (v : Value) → Known n v → KnownFunction n v
    same_known (plain x p q) f = f
    same_known (effect f ps b) u = tt
