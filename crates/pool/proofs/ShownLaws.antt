-- A function's names stamped: what is found in the slots is what its tables have. Assumes nothing.
use mathlib.Core.Path.{◌≡◌, refl, sym, ap, subst, ◌∙◌}
use mathlib.Core.List.{List}
use Prim.Native.Nat.{ℕ, suc, ◌+◌, ◌*◌, ◌≤◌, ◌<◌}
use native.Mathlib.Omega.{arith}
use mathlib.Core.Bool.{true}
use lib.ListN.{length, get_or, drop}
use lib.Seq.{get_or-take, get_or-drop}
use borrow.Author.Tests.{eqb-true}
use Rattle.std.specs.Prelude.{Option, Some, None}
use Rattle.pool.specs.Names.{Semantic, function_count, count_of_members, start_of_share, share, upvalue_symbols, Names, names, index_of}
use Rattle.pool.specs.Scope.{SYMBOLS, table_number, same_table, owner_of, index_in, stamps}
use Rattle.pool.specs.declared.scope.Scope.{Scope}
use Rattle.pool.specs.declared.scope.Table.{Table}
use Rattle.pool.specs.declared.scope.Table.TheVariants.{Locals, Globals, Upvalues}
use Rattle.pool.specs.NameWords.{plains, words_of, entries_of, span_for, table_of, class_of, chosen, made}
use Rattle.pool.specs.NameSteps.{symbols_at, stamped_names, Stands, Fits, parent_owner, owner_names, Shown}
use Rattle.pool.specs.declared.spans.Span.{Span}
use Rattle.pool.specs.declared.names.Class.{Class}
use Rattle.pool.proofs.EntryLaws.{symbols_read, locals_stand, globals_stand, upvalues_stand}
use Rattle.pool.proofs.NameTables.{symbols_length, plains_symbols, plains_length, chosen_most}
use Rattle.pool.proofs.NameUpto.{share_fits, share_length}
use Rattle.pool.proofs.NamesLaws.{Found, index_found, names_owned}
use Rattle.pool.proofs.StampLaws.{stamps_length, stamps_owner, stamps_idents, stamps_inners, stamps_older, Older}
use Rattle.pool.proofs.StampLaws.{older_missed, older_later, Slotted, found_own, found_kept, chosen_from}

-- the symbols of the entries are stamped
names_stamped : (sc : Scope) (es : List ℕ) (a o : ℕ) (n : Names) → Stands es (a * 3) (words_of (entries_of n))
    → stamped_names sc es (span_for a n) o ≡ stamps (stamps (stamps (record sc { owner = o }) Locals 0 n.locals) Globals 0 n.globals) Upvalues 0 (upvalue_symbols n.upvalues)
names_stamped sc es a o n s =
    let l = plains_length n.locals in
    let g = plains_length n.globals in
    let p : symbols_at es a (length n.locals) ≡ n.locals = rw (← l) (symbols_read es a (plains n.locals) (locals_stand es a n s) ∙ plains_symbols n.locals) in
    let q : symbols_at es (a + length n.locals) (length n.globals) ≡ n.globals =
    rw (← l, ← g) (symbols_read es (a + length (plains n.locals)) (plains n.globals) (globals_stand es a n s) ∙ plains_symbols n.globals) in
    let r : symbols_at es (a + length n.locals + length n.globals) (length n.upvalues) ≡ upvalue_symbols n.upvalues =
    rw (← l, ← g) (symbols_read es (a + length (plains n.locals) + length (plains n.globals)) n.upvalues (upvalues_stand es a n s)) in
    rw (p, q, r)

-- one table of a function
module _ (k : Table) (cl : ℕ → Class) (ss : List ℕ) where
  abbrev table : List ℕ
  table = upvalue_symbols (chosen k cl ss)

  table_few : length ss ≤ SYMBOLS → length table ≤ SYMBOLS
  table_few h = omega (arith, symbols_length (chosen k cl ss), chosen_most k cl ss)

  table_slotted : Slotted ss → Slotted table
  table_slotted u m p = (chosen_from k cl (λ x. x < SYMBOLS) ss u m p).1

  table_class : (s j : ℕ) → index_of table s ≡ Some j → same_table (table_of (cl s)) k ≡ true
  table_class s j e =
      let p : (j < length table) × (get_or table j 0 ≡ s) = subst (Found table s) e (index_found table s) in
      subst (λ (x : ℕ). same_table (table_of (cl x)) k ≡ true) p.1 (chosen_from k cl (λ x. Unit {0}) ss (λ m q. tt) j p.0).0

-- a symbol of one table is in no other
apart : (k k' : Table) (cl : ℕ → Class) (ss : List ℕ) → (table_number k ≡ table_number k' → ⊥) → (s j : ℕ) → index_of (table k cl ss) s ≡ Some j
    → index_of (table k' cl ss) s ≡ None
apart k k' cl ss d s j e = go (index_of (table k' cl ss) s) refl
  where
    go : (p : Option ℕ) → index_of (table k' cl ss) s ≡ p → p ≡ None
    go (Some i) q = absurd (d (sym (eqb-true _ _ (table_class k cl ss s j e)) ∙ eqb-true _ _ (table_class k' cl ss s i q)))
    go None q = refl

module _ (cl : ℕ → Class) (ss : List ℕ) (few : length ss ≤ SYMBOLS) (slots : Slotted ss) (sc : Scope) (es : List ℕ) (a o : ℕ) (long : length sc.symbols ≡ SYMBOLS)
    (older : (s : ℕ) → Older o (get_or sc.symbols s None)) (stands : Stands es (a * 3) (words_of (entries_of (made cl ss)))) (sc' : Scope)
    (e : sc' ≡ stamped_names sc es (span_for a (made cl ss)) o) where
  abbrev xs : List ℕ
  xs = table Locals cl ss

  abbrev ys : List ℕ
  ys = table Globals cl ss

  abbrev zs : List ℕ
  zs = table Upvalues cl ss

  abbrev w0 : Scope
  w0 = record sc { owner = o }

  abbrev w1 : Scope
  w1 = stamps w0 Locals 0 xs

  abbrev w2 : Scope
  w2 = stamps w1 Globals 0 ys

  abbrev w3 : Scope
  w3 = stamps w2 Upvalues 0 zs

  is : sc' ≡ w3
  is = e ∙ names_stamped sc es a o (made cl ss) stands

  l1 : length w1.symbols ≡ SYMBOLS
  l1 = stamps_length w0 Locals 0 xs ∙ long

  l2 : length w2.symbols ≡ SYMBOLS
  l2 = stamps_length w1 Globals 0 ys ∙ l1

  o1 : w1.owner ≡ o
  o1 = stamps_owner w0 Locals 0 xs

  o2 : w2.owner ≡ o
  o2 = stamps_owner w1 Globals 0 ys ∙ o1

  -- no table of the owner has been stamped before
  fresh : (k : Table) (s : ℕ) → index_in w0 k s ≡ None
  unfolding index_in
  fresh k s = older_missed o k (get_or sc.symbols s None) (older s)

  pub stamped_owner : sc'.owner ≡ o
  stamped_owner = ap (λ (w : Scope). w.owner) is ∙ (stamps_owner w2 Upvalues 0 zs ∙ o2)

  pub stamped_locals : (s : ℕ) → index_in sc' Locals s ≡ index_of xs s
  stamped_locals s =
      let p1 = found_own w0 Locals long xs (table_few Locals cl ss few) (table_slotted Locals cl ss slots) s (fresh Locals s) in
      let p2 = found_kept w1 Globals l1 Locals 0 ys refl (table_slotted Globals cl ss slots) s (index_of xs s) p1
      (λ j q. apart Globals Locals cl ss (λ z. omega arith) s j q) in
      ap (λ (w : Scope). index_in w Locals s) is
      ∙ found_kept w2 Upvalues l2 Locals 0 zs refl (table_slotted Upvalues cl ss slots) s (index_of xs s) p2
      (λ j q. apart Upvalues Locals cl ss (λ z. omega arith) s j q)

  pub stamped_globals : (s : ℕ) → index_in sc' Globals s ≡ index_of ys s
  stamped_globals s =
      let p1 = found_kept w0 Locals long Globals 0 xs refl (table_slotted Locals cl ss slots) s None (fresh Globals s) (λ j q. refl) in
      let p2 = found_own w1 Globals l1 ys (table_few Globals cl ss few) (table_slotted Globals cl ss slots) s p1 in
      ap (λ (w : Scope). index_in w Globals s) is
      ∙ found_kept w2 Upvalues l2 Globals 0 zs refl (table_slotted Upvalues cl ss slots) s (index_of ys s) p2
      (λ j q. apart Upvalues Globals cl ss (λ z. omega arith) s j q)

  pub stamped_upvalues : (s : ℕ) → index_in sc' Upvalues s ≡ index_of zs s
  stamped_upvalues s =
      let p1 = found_kept w0 Locals long Upvalues 0 xs refl (table_slotted Locals cl ss slots) s None (fresh Upvalues s) (λ j q. refl) in
      let p2 = found_kept w1 Globals l1 Upvalues 0 ys refl (table_slotted Globals cl ss slots) s None p1 (λ j q. refl) in
      ap (λ (w : Scope). index_in w Upvalues s) is
      ∙ found_own w2 Upvalues l2 zs (table_few Upvalues cl ss few) (table_slotted Upvalues cl ss slots) s p2

  pub stamped_older : (s : ℕ) → Older (suc o) (get_or sc'.symbols s None)
  stamped_older s =
      let b0 : (s : ℕ) → Older (suc o) (get_or w0.symbols s None) = λ s. older_later o (get_or sc.symbols s None) (older s) in
      let b1 = stamps_older w0 Locals 0 xs (suc o) (omega arith) b0 in
      let b2 = stamps_older w1 Globals 0 ys (suc o) (omega (arith, o1)) b1 in
      subst (λ (w : Scope). Older (suc o) (get_or w.symbols s None)) (sym is) (stamps_older w2 Upvalues 0 zs (suc o) (omega (arith, o2)) b2 s)

  pub stamped_idents : sc'.idents ≡ sc.idents
  stamped_idents =
      ap (λ (w : Scope). w.idents) is ∙ (stamps_idents w2 Upvalues 0 zs ∙ (stamps_idents w1 Globals 0 ys ∙ stamps_idents w0 Locals 0 xs))

  pub stamped_inners : sc'.inners ≡ sc.inners
  stamped_inners =
      ap (λ (w : Scope). w.inners) is ∙ (stamps_inners w2 Upvalues 0 zs ∙ (stamps_inners w1 Globals 0 ys ∙ stamps_inners w0 Locals 0 xs))

  pub stamped_long : length sc'.symbols ≡ SYMBOLS
  stamped_long = ap (λ (w : Scope). length w.symbols) is ∙ (stamps_length w2 Upvalues 0 zs ∙ l2)

-- the scope at a function's turn
pub record Turned (t : Semantic) (o : ℕ) (sc sc' : Scope) : Type 0 where
  pub shown : Shown t sc'
  pub owner : owner_of sc' ≡ o
  pub older : (s : ℕ) → Older (suc o) (get_or sc'.symbols s None)
  pub idents : sc'.idents ≡ sc.idents
  pub inners : sc'.inners ≡ sc.inners
  pub long : length sc'.symbols ≡ SYMBOLS

module _ (t : Semantic) (entries spans : ℕ) (fits : Fits t entries spans) (f : ℕ) (h : f < function_count t) where
  share_few : length (share t f) ≤ SYMBOLS
  share_few = omega (arith, share_length t fits.counted f h, share_fits t fits.counted f h, fits.members_limit)

  share_slotted : Slotted (share t f)
  share_slotted m p =
      let q : m < count_of_members t f = omega (arith, share_length t fits.counted f h) in
      let r : start_of_share t f + m < length t.members = omega (arith, share_fits t fits.counted f h) in
      omega (arith, get_or-take (count_of_members t f) (drop (start_of_share t f) t.members) m 0 q, get_or-drop (start_of_share t f) t.members m 0, fits.symbols_limit _ r)

  pub turn_stamped : (sc : Scope) (es : List ℕ) → length sc.symbols ≡ SYMBOLS → ((s : ℕ) → Older (suc f) (get_or sc.symbols s None))
      → Stands es (start_of_share t f * 3) (words_of (entries_of (names t f))) → (span : Span) → span ≡ span_for (start_of_share t f) (names t f) → (sc' : Scope)
      → sc' ≡ stamped_names sc es span (suc f) → Turned t (suc f) sc sc'
  turn_stamped sc es long older stands span q sc' e =
      let cl = class_of t (owner_names t (parent_owner t.functions f)) in
      let ss = share t f in
      let n : names t f ≡ made cl ss = names_owned t f in
      let st = subst (λ (m : Names). Stands es (start_of_share t f * 3) (words_of (entries_of m))) n stands in
      let eq : sc' ≡ stamped_names sc es (span_for (start_of_share t f) (made cl ss)) (suc f) =
      e ∙ ap (λ (x : Span). stamped_names sc es x (suc f)) (q ∙ ap (span_for (start_of_share t f)) n) in
      let is : sc'.owner ≡ suc f = stamped_owner cl ss share_few share_slotted sc es (start_of_share t f) (suc f) long older st sc' eq in
      let o : owner_of sc' ≡ suc f = omega (arith, fits.functions_limit) in
      let own : made cl ss ≡ owner_names t (owner_of sc') = sym (ap (owner_names t) o ∙ n) in
      record {
        shown =
            record {
              locals = λ s. stamped_locals cl ss share_few share_slotted sc es (start_of_share t f) (suc f) long older st sc' eq s ∙ ap (λ (m : Names). index_of m.locals s) own;
              globals = λ s. stamped_globals cl ss share_few share_slotted sc es (start_of_share t f) (suc f) long older st sc' eq s
                  ∙ ap (λ (m : Names). index_of m.globals s) own;
              upvalues = λ s. stamped_upvalues cl ss share_few share_slotted sc es (start_of_share t f) (suc f) long older st sc' eq s
                  ∙ ap (λ (m : Names). index_of (upvalue_symbols m.upvalues) s) own;
            };
        owner = o;
        older = stamped_older cl ss share_few share_slotted sc es (start_of_share t f) (suc f) long older st sc' eq;
        idents = stamped_idents cl ss share_few share_slotted sc es (start_of_share t f) (suc f) long older st sc' eq;
        inners = stamped_inners cl ss share_few share_slotted sc es (start_of_share t f) (suc f) long older st sc' eq;
        long = stamped_long cl ss share_few share_slotted sc es (start_of_share t f) (suc f) long older st sc' eq;
      }
