-- What the tables keep that the rows accept: all that the layers above need. Assumes nothing.
use mathlib.Core.Path.{◌≡◌, refl, sym, ap, ◌∙◌}
use mathlib.Core.Bool.{Bool, true, false, ◌&&◌, ◌||◌}
use mathlib.Core.List.{List}
use mathlib.Core.Logic.{inl, inr}
use Prim.Native.Nat.{ℕ, ◌*◌, ◌≤◌, ◌<◌}
use native.Mathlib.Omega.{arith}
use lib.ListN.{length, get_or}
use lib.Dec.{ltb, eqb}
use borrow.Author.Tests.{eq-eqb, eqb-true, ltb-true, not-false}
use Rattle.std.specs.Prelude.{Option, None, Some, Ok, Err}
use Rattle.tables.specs.declared.refusal.RecordRule.TheVariants.{Detail, Link, Children, Naming, Nesting, Numbering}
use Rattle.tables.specs.declared.refusal.Refusal.{Refusal}
use Rattle.tables.specs.declared.refusal.Refusal.TheVariants.{Table, Entry, Record}
use Rattle.tables.specs.Refusal.{Checked}
use Rattle.tables.specs.Record.{word, words, size, absent, is_function}
use Rattle.tables.specs.Forest.{root, count, levels}
use Rattle.tables.specs.Place.{broken}
use Rattle.tables.specs.Semantic.{pairs}
use Rattle.tables.specs.Lent.{lent_broken}
use Rattle.tables.specs.Entries.{entries_broken}
use Rattle.tables.specs.Details.{right_detail, wrong_detail}
use Rattle.tables.specs.Links.{right_link, right_links, wrong_links}
use Rattle.tables.specs.Children.{right_children, wrong_children}
use Rattle.tables.specs.Naming.{naming, Lawful, Joined}
use Rattle.tables.specs.Nesting.{nesting}
use Rattle.tables.specs.Numbering.{functions as visited-functions, number, parent, numbering}
use Rattle.tables.specs.Check.{refusing, rows_of, check_of}
use Rattle.tables.proofs.PlaceLaws.{holds}
use Rattle.tables.proofs.LentLaws.{Fit, fit}
use Rattle.tables.proofs.EntriesLaws.{Right, right}
use Rattle.tables.proofs.ChildrenLaws.{root_function, root_alone}
use Rattle.tables.proofs.TreeLaws.{joined, tree_count}
use Rattle.tables.proofs.NestingLaws.{levels_few}
use Rattle.tables.proofs.NumberingLaws.{root_number, root_parent, table_length, own_number, own_parent, in_table}

-- a row is well: the next ones decide
pub skip : (why : ℕ → Refusal) (x y : Option ℕ) (r : Checked) → x ≡ y → x ≡ None → r ≡ refusing why y r
unfolding refusing
skip why x y r e n = ap (λ (z : Option ℕ). refusing why z r) (sym n ∙ e)

-- it is not: its place
pub halt : (why : ℕ → Refusal) (x y : Option ℕ) (r : Checked) (i : ℕ) → x ≡ y → x ≡ Some i → Err (why i) ≡ refusing why y r
unfolding refusing
halt why x y r i e n = ap (λ (z : Option ℕ). refusing why z r) (sym n ∙ e)

-- row 4's strings are table 1's entries
pub of_strings : (recs strings : List ℕ) (n : ℕ) (x : Option ℕ) → x ≡ broken (wrong_detail recs n) (size recs) → n ≡ pairs strings
    → x ≡ broken (wrong_detail recs (pairs strings)) (size recs)
of_strings recs strings n x e q = e ∙ ap (λ (m : ℕ). broken (wrong_detail recs m) (size recs)) q

-- accepted: the row is well, and so are the next ones
pub row_kept : (why : ℕ → Refusal) (b : Option ℕ) (r : Checked) → refusing why b r ≡ Ok tt → b ≡ None
unfolding refusing
row_kept why None r e = refl
row_kept why (Some i) r e = absurd (let z : ◌≡◌ {A = ℕ} 0 1 = cc in omega arith)

pub rest_kept : (why : ℕ → Refusal) (b : Option ℕ) (r : Checked) → refusing why b r ≡ Ok tt → r ≡ Ok tt
unfolding refusing
rest_kept why None r e = e
rest_kept why (Some i) r e = absurd (let z : ◌≡◌ {A = ℕ} 0 1 = cc in omega arith)

-- a link that keeps row 5
lawful_link : (recs : List ℕ) (r l : ℕ) → right_link r (size recs) l ≡ true → Lawful recs r l
lawful_link recs r l = go (eqb l 0) (ltb r l) (ltb l (size recs)) refl refl refl
  where
    go : (a b c : Bool) → eqb l 0 ≡ a → ltb r l ≡ b → ltb l (size recs) ≡ c → a || (b && c) ≡ true → Lawful recs r l
    go true b c p q s e = inl (eqb-true l 0 p)
    go false true true p q s e = inr (ltb-true r l q, ltb-true l (size recs) s)
    go false true false p q s e = absurd (let z : ◌≡◌ {A = ℕ} 0 1 = cc in omega arith)
    go false false c p q s e = absurd (let z : ◌≡◌ {A = ℕ} 0 1 = cc in omega arith)

both : (a b : Bool) → a && b ≡ true → (a ≡ true) × (b ≡ true)
both true b e = (refl, e)
both false b e = absurd (let z : ◌≡◌ {A = ℕ} 0 1 = cc in omega arith)

-- rows 1, 5, 6 and 7 kept: the records are one tree
module _ (recs : List ℕ) (some : 0 < size recs) (links : broken (wrong_links recs) (size recs) ≡ None) where
  pub lawful : (r : ℕ) → r < size recs → Lawful recs r (word recs r 6) × Lawful recs r (word recs r 7)
  unfolding right_links
  lawful r h =
      let b = both (right_link r (size recs) (word recs r 6)) (right_link r (size recs) (word recs r 7)) (not-false (right_links recs r) (holds (wrong_links recs)
      (size recs) links r h)) in
      (lawful_link recs r (word recs r 6) b.0, lawful_link recs r (word recs r 7) b.1)

  pub one_tree : broken (wrong_children recs) (size recs) ≡ None → naming recs ≡ None → Joined recs
  one_tree children named = joined recs some (root_alone recs children some) lawful named

-- the lent tables keep rows 1 and 3 to 9
pub record Kept (strings bytes symbols references functions members records : List ℕ) : Type 0 where
  pub fits : Fit strings bytes symbols references functions members records
  pub entries_right : Right strings bytes symbols references functions members
  pub detail_right : (r : ℕ) → r < size records → right_detail (pairs strings) (words records r) ≡ true
  pub links_kept : broken (wrong_links records) (size records) ≡ None
  pub children_kept : broken (wrong_children records) (size records) ≡ None
  pub children_right : (r : ℕ) → r < size records → right_children records r ≡ true
  pub one : Joined records
  pub root_is_function : is_function (words records 0) ≡ true
  pub root_has_no_next : word records 0 7 ≡ 0
  pub all_in_tree : count (root records) ≡ size records
  pub levels_limit : levels (root records) ≤ 128
  pub numbering_kept : numbering records functions ≡ None
  pub functions_all : pairs functions ≡ length (visited-functions records)
  pub number_own : (r : ℕ) → r < size records → is_function (words records r) ≡ true → word records r 2 ≡ number records r
  pub parent_own : (r : ℕ) → r < size records → is_function (words records r) ≡ true → get_or functions (number records r * 2) 0 ≡ parent records r
  pub number_inside : (r : ℕ) → r < size records → is_function (words records r) ≡ true → number records r < pairs functions
  pub number_first : number records 0 ≡ 0
  pub parent_first : parent records 0 ≡ absent

module _ (strings bytes symbols references functions members records : List ℕ) where
  -- each row by itself
  well : lent_broken strings bytes symbols references functions members records ≡ None → entries_broken strings bytes symbols references functions members ≡ None
      → broken (wrong_detail records (pairs strings)) (size records) ≡ None → broken (wrong_links records) (size records) ≡ None
      → broken (wrong_children records) (size records) ≡ None → naming records ≡ None → nesting records ≡ None → numbering records functions ≡ None
      → Kept strings bytes symbols references functions members records
  well e1 e3 e4 e5 e6 e7 e8 e9 =
      let f = fit strings bytes symbols references functions members records e1 in
      let some = f.records_some in
      let j = one_tree records some e5 e6 e7 in
      let fn = eq-eqb (word records 0 0) 30 (root_function records e6 some) in
      record {
        fits = f;
        entries_right = right strings bytes symbols references functions members e3;
        detail_right = λ r h. not-false (right_detail (pairs strings) (words records r)) (holds (wrong_detail records (pairs strings)) (size records) e4 r h);
        links_kept = e5;
        children_kept = e6;
        children_right = λ r h. not-false (right_children records r) (holds (wrong_children records) (size records) e6 r h);
        one = j;
        root_is_function = fn;
        root_has_no_next = root_alone records e6 some;
        all_in_tree = tree_count records j;
        levels_limit = levels_few records some e8;
        numbering_kept = e9;
        functions_all = table_length records functions j e9;
        number_own = own_number records functions j e9;
        parent_own = own_parent records functions j e9;
        number_inside = in_table records functions j e9;
        number_first = root_number records j fn;
        parent_first = root_parent records j fn;
      }

  -- after row 1, as the generator asks them
  pub rows_kept : lent_broken strings bytes symbols references functions members records ≡ None
      → rows_of strings bytes symbols references functions members records ≡ Ok tt → Kept strings bytes symbols references functions members records
  unfolding rows_of
  rows_kept e1 a3 =
      let a4 = rest_kept Entry _ _ a3 in
      let a5 = rest_kept (Record Detail) _ _ a4 in
      let a6 = rest_kept (Record Link) _ _ a5 in
      let a7 = rest_kept (Record Children) _ _ a6 in
      let a8 = rest_kept (Record Naming) _ _ a7 in
      let a9 = rest_kept (Record Nesting) _ _ a8 in
      well e1 (row_kept Entry _ _ a3) (row_kept (Record Detail) _ _ a4) (row_kept (Record Link) _ _ a5) (row_kept (Record Children) _ _ a6)
      (row_kept (Record Naming) _ _ a7) (row_kept (Record Nesting) _ _ a8) (row_kept (Record Numbering) _ _ a9)

  pub kept : check_of strings bytes symbols references functions members records ≡ Ok tt → Kept strings bytes symbols references functions members records
  unfolding check_of
  kept a = rows_kept (row_kept Table _ _ a) (rest_kept Table _ _ a)

  -- row 1 is well, and x is what the other rows say: the check's answer
  pub row_one : (b : Option ℕ) (x : Checked) → b ≡ lent_broken strings bytes symbols references functions members records → b ≡ None
      → (size records ≤ 4096 → 0 < size records → x ≡ rows_of strings bytes symbols references functions members records)
      → x ≡ check_of strings bytes symbols references functions members records
  unfolding check_of
  row_one b x e n said =
      let f = fit strings bytes symbols references functions members records (sym e ∙ n) in
      said f.records_limit f.records_some ∙ skip Table b _ _ e n
