-- The names of the first functions, one function more at each step. Assumes nothing.
use mathlib.Core.Path.{◌≡◌, refl, sym, ap, ◌∙◌}
use mathlib.Core.List.{List, [], ◌∷◌, ◌++◌, append_assoc, append-nil}
use Prim.Native.Nat.{ℕ, zero, suc, ◌+◌, ◌≤◌, ◌<◌}
use native.Mathlib.Omega.{arith}
use lib.ListN.{length, get_or, drop, length-append, length-take, length-drop}
use Rattle.tables.specs.Semantic.{share_start}
use Rattle.tables.proofs.SemanticLaws.{start_mono}
use Rattle.pool.specs.Names.{Semantic, function_count, parent, count_of_members, start_of_share, share, Upvalue, Names, no_names, with_symbols, names_upto}
use Rattle.pool.specs.declared.spans.Span.{Span}
use Rattle.pool.specs.NameWords.{entries_of, all_entries, spans_from, span_for, class_of, made}
use Rattle.pool.proofs.NameTables.{in_passes, made_length}

-- one function more
pub entries_snoc : (ns : List Names) (n : Names) → all_entries (ns ++ (n ∷ [])) ≡ all_entries ns ++ entries_of n
unfolding all_entries
entries_snoc [] n = append-nil (entries_of n)
entries_snoc (m ∷ ns) n = ap (λ (l : List Upvalue). entries_of m ++ l) (entries_snoc ns n) ∙ sym (append_assoc (entries_of m) (all_entries ns) (entries_of n))

pub spans_snoc : (ns : List Names) (s : ℕ) (n : Names) → spans_from s (ns ++ (n ∷ [])) ≡ spans_from s ns ++ (span_for (s + length (all_entries ns)) n ∷ [])
unfolding all_entries spans_from
spans_snoc [] s n = let z : s ≡ s + 0 = omega arith in ap (λ (k : ℕ). span_for k n ∷ []) z
spans_snoc (m ∷ ns) s n =
    ap (λ (l : List Span). span_for s m ∷ l)
    (spans_snoc ns (s + length (entries_of m)) n
    ∙ ap (λ (k : ℕ). spans_from (s + length (entries_of m)) ns ++ (span_for k n ∷ [])) (omega (arith, length-append (entries_of m) (all_entries ns))))

pub spans_length : (ns : List Names) (s : ℕ) → length (spans_from s ns) ≡ length ns
unfolding spans_from
spans_length [] s = refl
spans_length (n ∷ ns) s = omega (arith, spans_length ns (s + length (entries_of n)))

module _ (t : Semantic) where
  -- what function n captures from
  abbrev pub parent_names : ℕ → Names
  parent_names n = get_or (names_upto t n) (parent t n) no_names

  pub names_more : (n : ℕ) → names_upto t (suc n) ≡ names_upto t n ++ (made (class_of t (parent_names n)) (share t n) ∷ [])
  unfolding names_upto
  names_more n = ap (λ (m : Names). names_upto t n ++ (m ∷ [])) (in_passes t (parent_names n) (share t n))

  pub names_length : (n : ℕ) → length (names_upto t n) ≡ n
  unfolding names_upto
  names_length zero = refl
  names_length (suc n) = omega (arith, names_length n, length-append (names_upto t n) (with_symbols t (parent_names n) (share t n) no_names ∷ []))

  pub start_more : (f : ℕ) → start_of_share t (suc f) ≡ start_of_share t f + count_of_members t f
  unfolding share_start
  start_more f = refl

  -- counts that sum to the members: each function has its whole share, and an entry for each member
  module _ (whole : start_of_share t (function_count t) ≡ length t.members) where
    pub share_fits : (f : ℕ) → f < function_count t → start_of_share t f + count_of_members t f ≤ length t.members
    share_fits f h = omega (arith, start_more f, start_mono t.functions (suc f) (function_count t) (omega arith))

    pub share_length : (f : ℕ) → f < function_count t → length (share t f) ≡ count_of_members t f
    share_length f h = omega (arith, share_fits f h, length-take (count_of_members t f) (drop (start_of_share t f) t.members), length-drop (start_of_share t f) t.members)

    pub entries_start : (f : ℕ) → f ≤ function_count t → length (all_entries (names_upto t f)) ≡ start_of_share t f
    unfolding names_upto all_entries share_start
    entries_start zero h = refl
    entries_start (suc f) h =
        let m = made (class_of t (parent_names f)) (share t f) in
        ap (λ (l : List Names). length (all_entries l)) (names_more f)
        ∙ (ap length (entries_snoc (names_upto t f) m)
        ∙ omega (
          arith,
          entries_start f (omega arith),
          length-append (all_entries (names_upto t f)) (entries_of m),
          made_length (class_of t (parent_names f)) (share t f),
          share_length f (omega arith),
        ))
