-- The three tables of a function: taking its symbols in order comes to one pass for each table. Assumes nothing.
use Rattle.std.proofs.lemmas.Bool.{cond-true}
use mathlib.Core.Path.{◌≡◌, refl, sym, ap, ap₂, ◌∙◌}
use mathlib.Core.Bool.{Bool, true, false, cond}
use mathlib.Core.List.{List, [], ◌∷◌, ◌++◌, append_assoc, append-nil}
use Prim.Native.Nat.{ℕ, suc, ◌+◌, ◌-◌, ◌≤◌, ◌<◌}
use native.Mathlib.Omega.{arith}
use lib.ListN.{set, length, get_or, take, length-append, length-take}
use lib.Seq.{take-suc}
use borrow.Author.Tests.{le-leb}
use denote.Enum.Bare.{sameb}
use Rattle.std.specs.Prelude.{Option, Some, None}
use Rattle.pool.specs.declared.spans.Span.{Span}
use Rattle.pool.specs.Scope.{same_table}
use Rattle.pool.specs.declared.scope.Table.{Table}
use Rattle.pool.specs.contracts.scope.Table.{the_type}
use Rattle.pool.specs.declared.scope.Table.TheVariants.{Locals, Globals, Upvalues}
use Rattle.pool.specs.Names.{Semantic, Upvalue, upvalue_symbols, Names, no_names, is_global, index_of, captured, with_symbol, with_symbols}
use Rattle.pool.specs.NameWords.{plain, plains, entries_of, entries_laid, span_of, captured_as, class_of, table_of, entry_of, entry_for, chosen, made}
use Rattle.pool.specs.NameSteps.{entries_named, spans_named}
use Rattle.pool.specs.declared.names.Class.{Class}
use Rattle.pool.specs.declared.names.Class.TheVariants.{Local as Own, Global as Shared, CapturedLocal, CapturedUpvalue}
use Rattle.pool.proofs.EntryLaws.{laid_append}

pub symbols_length : (es : List Upvalue) → length (upvalue_symbols es) ≡ length es
symbols_length [] = refl
symbols_length (e ∷ es) = ap suc (symbols_length es)

pub symbols_append : (a b : List Upvalue) → upvalue_symbols (a ++ b) ≡ upvalue_symbols a ++ upvalue_symbols b
symbols_append [] b = refl
symbols_append (x ∷ a) b = ap (λ (l : List ℕ). x.symbol ∷ l) (symbols_append a b)

pub plains_symbols : (l : List ℕ) → upvalue_symbols (plains l) ≡ l
plains_symbols [] = refl
plains_symbols (s ∷ l) = ap (λ (m : List ℕ). s ∷ m) (plains_symbols l)

pub plains_length : (l : List ℕ) → length (plains l) ≡ length l
plains_length [] = refl
plains_length (s ∷ l) = ap suc (plains_length l)

plains_append : (a b : List ℕ) → plains (a ++ b) ≡ plains a ++ plains b
plains_append [] b = refl
plains_append (x ∷ a) b = ap (λ (l : List Upvalue). plain x ∷ l) (plains_append a b)

pub entries_length : (n : Names) → length (entries_of n) ≡ length n.locals + length n.globals + length n.upvalues
entries_length n =
    omega (
      arith,
      length-append (plains n.locals) (plains n.globals ++ n.upvalues),
      length-append (plains n.globals) n.upvalues,
      plains_length n.locals,
      plains_length n.globals,
    )

-- the derived comparison of tables
pub tables_compared : (a b : Table) → sameb the_type a b ≡ same_table a b
tables_compared Locals Locals = refl
tables_compared Locals Globals = refl
tables_compared Locals Upvalues = refl
tables_compared Globals Locals = refl
tables_compared Globals Globals = refl
tables_compared Globals Upvalues = refl
tables_compared Upvalues Locals = refl
tables_compared Upvalues Globals = refl
tables_compared Upvalues Upvalues = refl

-- a pass over the share
module _ (k : Table) (cl : ℕ → Class) where
  abbrev pub one : ℕ → List Upvalue
  one s = entry_for k (cl s) s

  chosen_snoc : (ss : List ℕ) (s : ℕ) → chosen k cl (ss ++ (s ∷ [])) ≡ chosen k cl ss ++ one s
  unfolding chosen
  chosen_snoc [] s = append-nil (one s)
  chosen_snoc (x ∷ ss) s = ap (λ (l : List Upvalue). one x ++ l) (chosen_snoc ss s) ∙ sym (append_assoc (one x) (chosen k cl ss) (one s))

  one_most : (s : ℕ) → length (one s) ≤ 1
  one_most s = go (same_table (table_of (cl s)) k) (entry_of (cl s) s)
    where
      go : (b : Bool) (u : Upvalue) → length {A = Upvalue} (cond b (u ∷ []) []) ≤ 1
      go true u = omega arith
      go false u = omega arith

  pub chosen_most : (ss : List ℕ) → length (chosen k cl ss) ≤ length ss
  unfolding chosen
  chosen_most [] = omega arith
  chosen_most (s ∷ ss) = omega (arith, length-append (one s) (chosen k cl ss), one_most s, chosen_most ss)

  module _ (share ws₀ : List ℕ) (n : ℕ) where
    -- the passed part of the share is in the words
    pub record PassedPart (ws : List ℕ) (m i : ℕ) : Type 0 where
      pub words : ws ≡ entries_laid ws₀ n (chosen k cl (take i share))
      pub place : m ≡ n + length (chosen k cl (take i share))

    pub pass_start : PassedPart ws₀ n 0
    unfolding chosen entries_laid
    pass_start = record { words = refl; place = omega arith }

    pub pass_most : (ws : List ℕ) (m i : ℕ) → PassedPart ws m i → m ≤ n + i
    pass_most ws m i h = omega (arith, h.place, chosen_most (take i share), length-take i share)

    pub pass_more : (ws : List ℕ) (m : ℕ) (ws' : List ℕ) (m' i : ℕ) → i < length share → PassedPart ws m i
        → ws' ≡ entries_laid ws m (one (get_or share i 0)) → m' ≡ m + length (one (get_or share i 0)) → PassedPart ws' m' (i + 1)
    pass_more ws m ws' m' i h p e q =
        let z : i + 1 ≡ suc i = omega arith in
        let s = get_or share i 0 in
        let t : chosen k cl (take (i + 1) share) ≡ chosen k cl (take i share) ++ one s = ap (chosen k cl) (rw z (take-suc share i 0 h)) ∙ chosen_snoc (take i share) s in
        record {
          words =
              e ∙ (ap₂ (λ (x : List ℕ) (y : ℕ). entries_laid x y (one s)) p.words p.place
              ∙ (sym (laid_append ws₀ n (chosen k cl (take i share)) (one s)) ∙ ap (entries_laid ws₀ n) (sym t)));
          place = omega (arith, q, p.place, ap length t, length-append (chosen k cl (take i share)) (one s));
        }

-- entries of locals and globals capture nothing
plain_if : (b : Bool) (s : ℕ) → plains (upvalue_symbols (cond b (plain s ∷ []) [])) ≡ cond b (plain s ∷ []) []
plain_if true s = refl
plain_if false s = refl

module _ (k : Table) (other : same_table Upvalues k ≡ false) where
  plain_entry : (c : Class) (s : ℕ) → plains (upvalue_symbols (entry_for k c s)) ≡ entry_for k c s
  plain_entry Own s = plain_if (same_table Locals k) s
  plain_entry Shared s = plain_if (same_table Globals k) s
  plain_entry (CapturedLocal i) s = rw other
  plain_entry (CapturedUpvalue i) s = rw other

  plain_chosen : (cl : ℕ → Class) (ss : List ℕ) → plains (upvalue_symbols (chosen k cl ss)) ≡ chosen k cl ss
  unfolding chosen
  plain_chosen cl [] = refl
  plain_chosen cl (s ∷ ss) =
      let a = one k cl s in
      let b = chosen k cl ss in
      ap plains (symbols_append a b)
      ∙ (plains_append (upvalue_symbols a) (upvalue_symbols b)
      ∙ (ap (λ (l : List Upvalue). l ++ plains (upvalue_symbols b)) (plain_entry (cl s) s)
      ∙ ap (λ (l : List Upvalue). a ++ l) (plain_chosen cl ss)))

-- three passes in a row, and the span
module _ (cl : ℕ → Class) (ss : List ℕ) where
  abbrev c1 : List Upvalue
  c1 = chosen Locals cl ss

  abbrev c2 : List Upvalue
  c2 = chosen Globals cl ss

  abbrev c3 : List Upvalue
  c3 = chosen Upvalues cl ss

  in_turn : c1 ++ (c2 ++ c3) ≡ entries_of (made cl ss)
  in_turn =
      ap (λ (l : List Upvalue). l ++ (c2 ++ c3)) (sym (plain_chosen Locals refl cl ss))
      ∙ ap (λ (l : List Upvalue). plains (upvalue_symbols c1) ++ (l ++ c3)) (sym (plain_chosen Globals refl cl ss))

  module _ (ws ws1 ws2 ws3 : List ℕ) (n a b e : ℕ) (w1 : ws1 ≡ entries_laid ws n c1) (p1 : a ≡ n + length c1) (w2 : ws2 ≡ entries_laid ws1 a c2) (p2 : b ≡ a + length c2)
      (w3 : ws3 ≡ entries_laid ws2 b c3) (p3 : e ≡ b + length c3) (few : length ss ≤ 1024) where
    pub all_laid : ws3 ≡ entries_named cl ss ws n
    unfolding entries_named
    all_laid =
        let step2 : ws2 ≡ entries_laid ws n (c1 ++ c2) = w2 ∙ (ap₂ (λ (x : List ℕ) (y : ℕ). entries_laid x y c2) w1 p1 ∙ sym (laid_append ws n c1 c2)) in
        let z : b ≡ n + length (c1 ++ c2) = omega (arith, length-append c1 c2) in
        w3
        ∙ (ap₂ (λ (x : List ℕ) (y : ℕ). entries_laid x y c3) step2 z
        ∙ (sym (laid_append ws n (c1 ++ c2) c3) ∙ (ap (entries_laid ws n) (append_assoc c1 c2 c3 ∙ in_turn) ∙ sym (cond-true _ _ _ (le-leb _ _ few)))))

    pub span_laid : (sp sp' : List Span) (f s : ℕ) → s ≡ (span_of sp f).start → sp' ≡ set sp f (record { start = s; locals = a - n; globals = b - a; upvalues = e - b })
        → sp' ≡ spans_named cl ss sp f
    unfolding spans_named
    span_laid sp sp' f s es q =
        let d1 : a - n ≡ length (upvalue_symbols c1) = omega (arith, symbols_length c1) in
        let d2 : b - a ≡ length (upvalue_symbols c2) = omega (arith, symbols_length c2) in
        let d3 : e - b ≡ length c3 = omega arith in
        q ∙ (rw (d1, d2, d3, es) refl ∙ sym (cond-true _ _ _ (le-leb _ _ few)))

-- the tables with the entries of one symbol behind
abbrev behind : Names → (Table → List Upvalue) → Names
behind n e =
    record { locals = n.locals ++ upvalue_symbols (e Locals); globals = n.globals ++ upvalue_symbols (e Globals); upvalues = n.upvalues ++ e Upvalues }

behind_none : (n : Names) → behind n (λ k. []) ≡ n
behind_none n = rw (append-nil n.locals, append-nil n.globals, append-nil n.upvalues)

behind_then : (n : Names) (e g : Table → List Upvalue) → behind (behind n e) g ≡ behind n (λ k. e k ++ g k)
behind_then n e g =
    rw (
      symbols_append (e Locals) (g Locals),
      symbols_append (e Globals) (g Globals),
      append_assoc n.locals (upvalue_symbols (e Locals)) (upvalue_symbols (g Locals)),
      append_assoc n.globals (upvalue_symbols (e Globals)) (upvalue_symbols (g Globals)),
      append_assoc n.upvalues (e Upvalues) (g Upvalues),
    )

by_class : (b : Bool) (l u : Option ℕ) (s : ℕ) (n : Names)
    → cond b (record { locals = n.locals; globals = n.globals ++ (s ∷ []); upvalues = n.upvalues }) (captured s l u n)
    ≡ behind n (λ k. entry_for k (cond b Shared (captured_as l u)) s)
by_class true l u s n = rw (append-nil n.locals, append-nil n.upvalues)
by_class false (Some i) u s n = rw (append-nil n.locals, append-nil n.globals)
by_class false None (Some i) s n = rw (append-nil n.locals, append-nil n.globals)
by_class false None None s n = rw (append-nil n.globals, append-nil n.upvalues)

module _ (t : Semantic) (up : Names) where
  one_symbol : (s : ℕ) (n : Names) → with_symbol t up s n ≡ behind n (λ k. one k (class_of t up) s)
  unfolding with_symbol
  one_symbol s n = by_class (is_global t s) (index_of up.locals s) (index_of (upvalue_symbols up.upvalues) s) s n

  in_order : (ss : List ℕ) (n : Names) → with_symbols t up ss n ≡ behind n (λ k. chosen k (class_of t up) ss)
  unfolding with_symbols chosen
  in_order [] n = sym (behind_none n)
  in_order (s ∷ ss) n =
      in_order ss (with_symbol t up s n)
      ∙ (ap (λ (m : Names). behind m (λ k. chosen k (class_of t up) ss)) (one_symbol s n)
      ∙ behind_then n (λ k. one k (class_of t up) s) (λ k. chosen k (class_of t up) ss))

  -- "A function's symbols are taken in order": the same as a pass for each table
  pub in_passes : (ss : List ℕ) → with_symbols t up ss no_names ≡ made (class_of t up) ss
  in_passes ss = in_order ss no_names

-- a symbol goes to one of the three tables
one_table : (c : Class) (s : ℕ) → length (entry_for Locals c s) + length (entry_for Globals c s) + length (entry_for Upvalues c s) ≡ 1
one_table Own s = refl
one_table Shared s = refl
one_table (CapturedLocal i) s = refl
one_table (CapturedUpvalue i) s = refl

pub chosen_length : (cl : ℕ → Class) (ss : List ℕ) → length (chosen Locals cl ss) + length (chosen Globals cl ss) + length (chosen Upvalues cl ss) ≡ length ss
unfolding chosen
chosen_length cl [] = refl
chosen_length cl (s ∷ ss) =
    omega (
      arith,
      chosen_length cl ss,
      one_table (cl s) s,
      length-append (one Locals cl s) (chosen Locals cl ss),
      length-append (one Globals cl s) (chosen Globals cl ss),
      length-append (one Upvalues cl s) (chosen Upvalues cl ss),
    )

pub made_length : (cl : ℕ → Class) (ss : List ℕ) → length (entries_of (made cl ss)) ≡ length ss
made_length cl ss =
    omega (arith, entries_length (made cl ss), chosen_length cl ss, symbols_length (chosen Locals cl ss), symbols_length (chosen Globals cl ss))

-- classes that agree make the same tables
pub chosen_same : (k : Table) (cl cl' : ℕ → Class) → ((s : ℕ) → cl s ≡ cl' s) → (ss : List ℕ) → chosen k cl ss ≡ chosen k cl' ss
unfolding chosen
chosen_same k cl cl' e [] = refl
chosen_same k cl cl' e (s ∷ ss) = ap₂ (λ (a b : List Upvalue). a ++ b) (ap (λ (c : Class). entry_for k c s) (e s)) (chosen_same k cl cl' e ss)

pub made_same : (cl cl' : ℕ → Class) → ((s : ℕ) → cl s ≡ cl' s) → (ss : List ℕ) → made cl ss ≡ made cl' ss
made_same cl cl' e ss = rw (chosen_same Locals cl cl' e ss, chosen_same Globals cl cl' e ss, chosen_same Upvalues cl cl' e ss)
