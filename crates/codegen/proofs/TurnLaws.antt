-- One function's words. Assumes nothing.
use mathlib.Core.Path.{◌≡◌, sym, ap, ◌∙◌, subst}
use mathlib.Core.List.{List, [], ◌∷◌, ◌++◌, append-nil}
use Prim.Native.Nat.{ℕ, suc, ◌*◌, ◌+◌, ◌-◌, ◌≤◌, ◌<◌}
use native.Mathlib.Omega.{arith}
use lib.ListN.{length, get_or, take, drop, length-drop, drop_of_length-le}
use lib.Seq.{take_all}
use borrow.Rule.Slice.PartMut.{mid_of, put_mid}
use Rattle.tables.specs.Forest.{own_tree, children}
use Rattle.pool.specs.NameWords.{over, span_of}
use Rattle.pool.specs.declared.spans.Span.{Span}
use Rattle.pool.specs.Consts.{laid}
use Rattle.rules.specs.Marker.{Mark}
use Rattle.rules.specs.Run.{Stream, marks}
use Rattle.rules.specs.Out.{consts, loop_depth}
use Rattle.context.specs.Words.{limit, cap}
use Rattle.context.specs.Rep.{lay, Room}
use Rattle.codegen.specs.declared.walks.Counted.{Counted}
use Rattle.codegen.specs.declared.streams.Reached.{Reached}
use Rattle.codegen.specs.Places.{Places}
use Rattle.codegen.specs.Walks.{noted_run, single, Streamed}
use Rattle.codegen.specs.Listing.{markers_of, constants_of, line_of, Own, stream_of, Ready, Turning, over_at}
use Rattle.pool.specs.Entries.{put_entry}
use Rattle.codegen.proofs.OverLaws.{put_at}
use Rattle.codegen.proofs.LayLaws.{markers_length, lay_over, laid_over, constants_length}

-- the words from a place on, and the whole when they are back
pub rest_lent : (i : ℕ) (xs : List ℕ) → mid_of i (length xs - i) xs ≡ drop i xs
rest_lent i xs = take_all (length xs - i) (drop i xs) (omega (arith, length-drop i xs))

pub rest_back : (i : ℕ) (xs ys zs : List ℕ) → ys ≡ over zs (mid_of i (length xs - i) xs) → put_mid i (length xs - i) xs ys ≡ over_at i zs xs
rest_back i xs ys zs e =
    let h : length (drop i xs) ≤ length xs - i = omega (arith, length-drop i xs) in
    ap (λ (l : List ℕ). take i xs ++ l) (
    ap (λ (l : List ℕ). ys ++ l) (drop_of_length-le (drop i xs) h)
    ∙ append-nil ys ∙ e ∙ ap (λ (l : List ℕ). over zs l) (rest_lent i xs))

-- what one stream leaves, in the words of `out`
pub record Written (x : Stream) (code cs code' cs' : List ℕ) (n : Counted) : Type 0 where
  pub markers : code' ≡ over (markers_of x) code
  pub constants : cs' ≡ over (constants_of x) cs
  pub marked : n.markers ≡ length x.marks
  pub labelled : n.labels ≡ x.labels
  pub counted : n.consts ≡ length (consts x.marks)

stream_written : (ns recs : List ℕ) (n : ℕ) (x : Stream) → Own ns recs n x → (code cs code' cs' : List ℕ) (k : Counted) → length (markers_of x) ≤ length code
    → length (constants_of x) ≤ length cs → Streamed recs (single ns recs x.at) code cs code' cs' k → Written x code cs code' cs' k
stream_written ns recs n x own code cs code' cs' c f g h =
    let l = markers_length (consts x.marks) x.marks in
    let k = constants_length (consts x.marks) in
    let e = own.marks in
    let i : length x.marks < limit = own.few in
    let room : Room cs (marks (single ns recs x.at)) =
    subst (λ (ms : List Mark). Room cs ms) e (record { table = omega arith; few = i }) in
    let w = h.wrote room in
    record {
      markers = w.words ∙ ap (λ (ms : List Mark). lay code ms) (sym e) ∙ lay_over code x.marks own.small (omega arith) (omega arith);
      constants = w.table ∙ ap (λ (ms : List Mark). laid cs 0 (consts ms)) (sym e) ∙ laid_over cs (consts x.marks) (omega arith);
      marked = h.place ∙ ap (λ (ms : List Mark). cap (length ms)) (sym e) ∙ omega arith;
      labelled = h.labels ∙ ap (λ (z : ℕ). cap z) (sym own.labels) ∙ (let j = own.countable in omega arith);
      counted = w.entries ∙ ap (λ (ms : List Mark). length (consts ms)) (sym e);
    }

-- its line: in words of its own, and as an entry of the lines
module _ (recs : List ℕ) (spans : List Span) (n r : ℕ) (x : Stream) (p : x.number ≡ n) (q : r ≡ x.at) (s : Span) (a b k d : ℕ) (ys ws : List ℕ) where
  line_words : a ≡ length x.marks → b ≡ x.labels → k ≡ length (consts x.marks) → s ≡ span_of spans n → d ≡ loop_depth (own_tree (children recs r))
      → (a ∷ b ∷ k ∷ s.locals ∷ s.globals ∷ s.upvalues ∷ d ∷ []) ≡ line_of recs spans x
  line_words e1 e2 e3 e4 e5 = rw (e1, e2, e3, e4, e5, ← p, q)

  pub line_laid : ys ≡ over (a ∷ b ∷ k ∷ s.locals ∷ s.globals ∷ s.upvalues ∷ d ∷ []) ws → a ≡ length x.marks → b ≡ x.labels
      → k ≡ length (consts x.marks) → s ≡ span_of spans n → d ≡ loop_depth (own_tree (children recs r)) → ys ≡ over (line_of recs spans x) ws
  line_laid e e1 e2 e3 e4 e5 = e ∙ ap (λ (l : List ℕ). over l ws) (line_words e1 e2 e3 e4 e5)

  pub line_put : n * 7 + 7 ≤ length ws → ys ≡ put_entry ws n (a ∷ b ∷ k ∷ s.locals ∷ s.globals ∷ s.upvalues ∷ d ∷ []) → a ≡ length x.marks → b ≡ x.labels
      → k ≡ length (consts x.marks) → s ≡ span_of spans n → d ≡ loop_depth (own_tree (children recs r)) → ys ≡ over_at (n * 7) (line_of recs spans x) ws
  line_put h e e1 e2 e3 e4 e5 =
      e ∙ put_at ws n (a ∷ b ∷ k ∷ s.locals ∷ s.globals ∷ s.upvalues ∷ d ∷ []) h ∙ ap (λ (l : List ℕ). over_at (n * 7) l ws) (line_words e1 e2 e3 e4 e5)

-- function n, from some places on
module _ (ns recs places : List ℕ) (ready : Ready ns recs) (placed : Places recs places) (n : ℕ) (from : Reached) (markers constants lines : List ℕ)
    (fit : Turning (noted_run ns recs) markers constants lines n from) where
  abbrev pub turned : Stream
  turned = stream_of (noted_run ns recs) n

  pub turn_own : Own ns recs n turned
  turn_own = ready.own n fit.met

  pub turn_place : get_or places n 0 ≡ turned.at
  turn_place = let o = turn_own in ap (λ (i : ℕ). get_or places i 0) (sym o.named) ∙ placed.places turned.at o.inside o.function

  pub turn_written : (code' cs' : List ℕ) (c : Counted)
      → Streamed recs (single ns recs (get_or places n 0)) (mid_of from.markers (length markers - from.markers) markers)
      (mid_of from.constants (length constants - from.constants) constants) code' cs' c
      → Written turned (mid_of from.markers (length markers - from.markers) markers) (mid_of from.constants (length constants - from.constants) constants) code' cs' c
  turn_written code' cs' c h =
      let m = from.markers in
      let k = from.constants in
      let a : length (mid_of m (length markers - m) markers) ≡ length markers - m = ap length (rest_lent m markers) ∙ length-drop m markers in
      let b : length (mid_of k (length constants - k) constants) ≡ length constants - k = ap length (rest_lent k constants) ∙ length-drop k constants in
      let f : m + length (markers_of turned) ≤ length markers = fit.markers_fit in
      let g : k + length (constants_of turned) ≤ length constants = fit.constants_fit in
      stream_written ns recs n turned turn_own _ _ code' cs' c (omega arith) (omega arith)
      (subst (λ (i : ℕ). Streamed recs (single ns recs i) (mid_of m (length markers - m) markers) (mid_of k (length constants - k) constants) code' cs' c) turn_place h)

-- the numbers of a function that is written
pub record InBounds (x : Stream) (n : Counted) (from : Reached) (markers constants : List ℕ) : Type 0 where
  pub marked : n.markers ≡ length x.marks
  pub counted : n.consts ≡ length (consts x.marks)
  pub few : length x.marks < limit
  pub short : length (consts x.marks) ≤ suc (length x.marks)
  pub markers_end : from.markers + length x.marks * 2 ≤ length markers
  pub constants_end : from.constants + length (consts x.marks) * 3 ≤ length constants
