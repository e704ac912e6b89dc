-- What the steps of `resolve` promise each other. Definitions only.
use Rattle.std.specs.Prelude.{◌≡◌, Bool, true, cond, ◌&&◌, List, [], ℕ, suc, ◌+◌, ◌-◌, ◌*◌, ◌%◌, ◌≤◌, ◌<◌, length, get_or, take, drop, ltb, leb, eqb}
use Rattle.tables.specs.Record.{Words, word, words, size, is_function, is_ident}
use Rattle.tables.specs.Forest.{next}
use Rattle.tables.specs.Naming.{Joined}
use Rattle.tables.specs.Scratch.{Handed}
use Rattle.tables.specs.Semantic.{pairs, member_count, share_start}
use Rattle.pool.specs.declared.spans.Span.{Span}
use Rattle.pool.specs.Names.{Semantic, semantic, function_count, start_of_share, names, load, store}
use Rattle.pool.specs.Chain.{OWNERS, no_chains, last}
use Rattle.pool.specs.Scope.{owner_of}
use Rattle.pool.specs.declared.chain.Chain.{Chain}
use Rattle.pool.specs.declared.scope.Scope.{Scope}
use Rattle.pool.specs.NameWords.{words_of, entries_of, span_of, span_for}
use Rattle.pool.specs.NameSteps.{Stands, Fits, parent_owner, Shown}
use Rattle.pool.specs.Notes.{RECORDS, LOADS, STORES, load_note, store_note}

-- the owner of what is inside a record: a Function owns its inside
abbrev pub owner_inside : Words → ℕ → ℕ
owner_inside w o = cond (is_function w) (cond (ltb w.p 256) (w.p + 1) 0) o

abbrev pub own_down : List ℕ → ℕ → ℕ → ℕ
own_down recs r o = owner_inside (words recs r) o

-- whether a number is an item of the owner
abbrev pub of_owner : (ℕ → Bool) → (ℕ → ℕ) → ℕ → ℕ → Bool
of_owner item owner o i = item i && eqb (owner i % OWNERS) o

-- each owner's items among the first n numbers are chained, the last one first
pub record Chains {room : ℕ} (item : ℕ → Bool) (owner : ℕ → ℕ) (n : ℕ) (c : Chain room) : Type 0 where
  pub owners : length c.heads ≡ OWNERS
  pub items : length c.nexts ≡ room
  pub heads : (o : ℕ) → o < OWNERS → get_or c.heads o 0 ≡ last (of_owner item owner o) n
  pub nexts : (i : ℕ) → i < n → item i ≡ true → get_or c.nexts i 0 ≡ last (of_owner item owner (owner i % OWNERS)) i

abbrev pub IdentChains : List ℕ → List ℕ → ℕ → Chain 4096 → Type 0
IdentChains recs owners n c = Chains (λ r. is_ident (words recs r)) (λ r. get_or owners r 0) n c

-- functions as owners, so that the first is 1
abbrev pub InnerChains : List ℕ → ℕ → Chain 257 → Type 0
InnerChains functions n c = Chains (λ i. ltb 0 i) (λ i. parent_owner functions (i - 1)) n c

-- after the pass over the records: each one's owner, the Idents' chains, and each earlier sibling
pub record Owned (recs ns : List ℕ) (c : Chain 4096) : Type 0 where
  pub owners : List ℕ
  pub handed : Joined recs → Handed (own_down recs) recs 0 (size recs) owners
  pub chained : IdentChains recs owners (size recs) c
  pub earlier : Joined recs → length ns ≡ 12288 → (c : ℕ) → c < size recs → 0 < next recs c → get_or ns (next recs c) 0 ≡ c

pub record Passed (recs ns : List ℕ) (c : Chain 4096) (ns' : List ℕ) (c' : Chain 4096) : Type 0 where
  pub owned : size recs ≤ 4096 → c ≡ no_chains 4096 → Owned recs ns' c'
  pub behind : (j : ℕ) → LOADS ≤ j → get_or ns' j 0 ≡ get_or ns j 0
  pub notes_long : length ns' ≡ length ns

-- after the pass over the functions: where each one's names start, and the functions inside each
pub record Begun (functions : List ℕ) (sp : List Span) (c : Chain 257) (sp' : List Span) (c' : Chain 257) : Type 0 where
  pub chained : c ≡ no_chains 257 → InnerChains functions (suc (pairs functions)) c'
  pub starts : pairs functions ≤ length sp → (f : ℕ) → f < pairs functions → (span_of sp' f).start ≡ share_start functions f
  pub past : (j : ℕ) → pairs functions ≤ j → span_of sp' j ≡ span_of sp j
  pub spans_long : length sp' ≡ length sp

-- a function's symbols from a start on, none where there are not so many
abbrev pub share_from : List ℕ → List ℕ → ℕ → ℕ → List ℕ
share_from functions members start f =
    cond (leb (start + member_count functions f) (length members)) (take (member_count functions f) (drop start members)) []

-- the names of some functions are made over the words ws₀ and sp₀
pub record Made (t : Semantic) (done : ℕ → Type 0) (ws₀ : List ℕ) (sp₀ : List Span) (ws : List ℕ) (sp : List Span) : Type 0 where
  pub entries_long : length ws ≡ length ws₀
  pub spans_long : length sp ≡ length sp₀
  pub entries_past : (j : ℕ) → length t.members * 3 ≤ j → get_or ws j 0 ≡ get_or ws₀ j 0
  pub spans_past : (j : ℕ) → function_count t ≤ j → span_of sp j ≡ span_of sp₀ j
  pub starts : (f : ℕ) → f < function_count t → (span_of sp f).start ≡ start_of_share t f
  pub entries : (f : ℕ) → f < function_count t → done f → Stands ws (start_of_share t f * 3) (words_of (entries_of (names t f)))
  pub spans : (f : ℕ) → f < function_count t → done f → span_of sp f ≡ span_for (start_of_share t f) (names t f)

-- those whose parent is an owner below o
abbrev pub MadeBelow : Semantic → ℕ → (ws₀ : List ℕ) (sp₀ : List Span) (ws : List ℕ) (sp : List Span) → Type 0
MadeBelow t o ws₀ sp₀ ws sp = Made t (λ f. parent_owner t.functions f < o) ws₀ sp₀ ws sp

-- the functions inside the current owner are named too
pub record NamesInners (symbols functions members : List ℕ) (sc : Scope) (ws : List ℕ) (sp : List Span) (ws' : List ℕ) (sp' : List Span) : Type 0 where
  pub named : (references ws₀ : List ℕ) (sp₀ : List Span)
      → (let t = semantic symbols references functions members in
      Fits t (length ws₀) (length sp₀) → InnerChains functions (suc (pairs functions)) sc.inners → Shown t sc
      → MadeBelow t (owner_of sc) ws₀ sp₀ ws sp → MadeBelow t (suc (owner_of sc)) ws₀ sp₀ ws' sp')

-- the two notes of a record, and those of an Ident of the owner o
abbrev pub notes_at : List ℕ → ℕ → ℕ × ℕ
notes_at ns r = (get_or ns (LOADS + r) 0, get_or ns (STORES + r) 0)

abbrev pub ident_notes : Semantic → List ℕ → ℕ → ℕ → ℕ × ℕ
ident_notes t recs o r = (load_note (load t (o - 1) (word recs r 2)), store_note (store t (o - 1) (word recs r 2)))

-- some Idents are noted, and no other record is
pub record NotedIn (t : Semantic) (recs owners : List ℕ) (done : ℕ → Type 0) (ns : List ℕ) : Type 0 where
  pub long : length ns ≡ 12288
  pub noted : (r : ℕ) → done r → notes_at ns r ≡ ident_notes t recs (get_or owners r 0 % OWNERS) r
  pub rest : (r : ℕ) → r < RECORDS → (done r → ⊥) → notes_at ns r ≡ (0, 0)

-- those of functions whose owner is below o; owner 0 is no function
pub record IdentBelow (recs owners : List ℕ) (o r : ℕ) : Type 0 where
  pub positive : 0 < r
  pub inside : r < size recs
  pub ident : is_ident (words recs r) ≡ true
  pub owned : 0 < get_or owners r 0 % OWNERS
  pub before : get_or owners r 0 % OWNERS < o

abbrev pub NotedBelow : Semantic → List ℕ → List ℕ → ℕ → List ℕ → Type 0
NotedBelow t recs owners o ns = NotedIn t recs owners (λ r. IdentBelow recs owners o r) ns

-- the Idents of the current owner are noted too
pub record NotesIdents (recs symbols references : List ℕ) (sc : Scope) (ns ns' : List ℕ) : Type 0 where
  pub front : (j : ℕ) → j < LOADS → get_or ns' j 0 ≡ get_or ns j 0
  pub noted : (functions members owners : List ℕ)
      → (let t = semantic symbols references functions members in
      size recs ≤ 4096 → IdentChains recs owners (size recs) sc.idents → Shown t sc → 0 < owner_of sc
      → NotedBelow t recs owners (owner_of sc) ns → NotedBelow t recs owners (suc (owner_of sc)) ns')
