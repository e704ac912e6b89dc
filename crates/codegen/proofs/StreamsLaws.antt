-- One function after the other: what the loop keeps. Assumes nothing.
use mathlib.Core.Path.{◌≡◌, refl, sym, ap, ap₂, ◌∙◌}
use mathlib.Core.List.{List, ◌++◌}
use Prim.Native.Nat.{ℕ, zero, suc, ◌+◌, ◌*◌, ◌≤◌, ◌<◌}
use native.Mathlib.Omega.{arith}
use lib.ListN.{length, length-append}
use Rattle.pool.specs.declared.spans.Span.{Span}
use Rattle.pool.specs.NameWords.{over}
use Rattle.rules.specs.Run.{Stream, State}
use Rattle.rules.specs.Out.{each_function}
use Rattle.codegen.specs.declared.streams.Reached.{Reached}
use Rattle.codegen.specs.declared.outputs.Outputs.{Outputs}
use Rattle.codegen.specs.Listing.{markers_of, constants_of, line_of, stream_of, met_of, over_at, first_of, Turning, turned, onward, Spaced, upto}
use Rattle.codegen.proofs.OverLaws.{over_length, over_behind}

-- n functions are written, up to these places
pub record Going (A : State) (recs : List ℕ) (spans : List Span) (o₀ o : Outputs) (n : ℕ) (at : Reached) : Type 0 where
  pub few : n ≤ met_of A
  pub written : o ≡ upto A recs spans n o₀
  pub markers_reached : at.markers ≡ length (first_of A markers_of n)
  pub constants_reached : at.constants ≡ length (first_of A constants_of n)

module _ (A : State) where
  pub more_length : (f : Stream → List ℕ) (n : ℕ) → length (first_of A f (suc n)) ≡ length (first_of A f n) + length (f (stream_of A n))
  unfolding each_function
  more_length f n = length-append (first_of A f n) (f (stream_of A n))

  -- each function has as many words
  pub all_length : (f : Stream → List ℕ) (w : ℕ) → ((x : Stream) → length (f x) ≡ w) → (n : ℕ) → length (first_of A f n) ≡ n * w
  unfolding each_function
  all_length f w h zero = omega arith
  all_length f w h (suc n) =
      let z : n * w + w ≡ suc n * w = omega arith in
      more_length f n ∙ ap₂ (λ (a b : ℕ). a + b) (all_length f w h n) (h (stream_of A n)) ∙ z

  -- the same words of each of the first functions
  pub all_same : (f g : Stream → List ℕ) (n : ℕ) → ((m : ℕ) → m < n → f (stream_of A m) ≡ g (stream_of A m)) → first_of A f n ≡ first_of A g n
  unfolding each_function
  all_same f g zero h = refl
  all_same f g (suc n) h = ap₂ (λ (a b : List ℕ). a ++ b) (all_same f g n (λ m lt. h m (omega arith))) (h n (omega arith))

  -- one function's words more
  more_over : (f : Stream → List ℕ) (n i : ℕ) (ws₀ : List ℕ) → i ≡ length (first_of A f n)
      → over_at i (f (stream_of A n)) (over (first_of A f n) ws₀) ≡ over (first_of A f (n + 1)) ws₀
  unfolding each_function
  more_over f n i ws₀ q =
      let z : suc n ≡ n + 1 = omega arith in
      over_behind (first_of A f n) (f (stream_of A n)) ws₀ i q ∙ ap (λ (j : ℕ). over (first_of A f j) ws₀) z

  module _ (recs : List ℕ) (spans : List Span) (o₀ : Outputs) where
    pub going_start : Going A recs spans o₀ o₀ 0 (record { markers = 0; constants = 0 })
    unfolding each_function
    going_start = record { few = omega arith; written = refl; markers_reached = refl; constants_reached = refl }

    lines_length : (n : ℕ) → length (first_of A (line_of recs spans) n) ≡ n * 7
    lines_length n = all_length (line_of recs spans) 7 (λ x. refl) n

    module _ (s : Spaced A o₀.markers.now o₀.constants.now o₀.lines.now) (o : Outputs) (n : ℕ) (at : Reached) (g : Going A recs spans o₀ o n at) where
      markers_kept : length o.markers.now ≡ length o₀.markers.now
      markers_kept =
          ap (λ (x : Outputs). length x.markers.now) g.written ∙ over_length (first_of A markers_of n) o₀.markers.now (s.markers_fit n g.few)

      constants_kept : length o.constants.now ≡ length o₀.constants.now
      constants_kept =
          ap (λ (x : Outputs). length x.constants.now) g.written ∙ over_length (first_of A constants_of n) o₀.constants.now (s.constants_fit n g.few)

      lines_kept : length o.lines.now ≡ length o₀.lines.now
      lines_kept =
          let h = s.lines_fit in
          let f = g.few in
          ap (λ (x : Outputs). length x.lines.now) g.written
          ∙ over_length (first_of A (line_of recs spans) n) o₀.lines.now (omega (arith, lines_length n))

      pub going_turn : n < met_of A → Turning A o.markers.now o.constants.now o.lines.now n at
      going_turn lt =
          let h1 = s.markers_fit (suc n) (omega arith) in
          let h2 = s.constants_fit (suc n) (omega arith) in
          let h3 = s.lines_fit in
          let e1 = markers_kept in
          let e2 = constants_kept in
          let e3 = lines_kept in
          record {
            met = lt;
            markers_fit = omega (arith, more_length markers_of n, g.markers_reached);
            constants_fit = omega (arith, more_length constants_of n, g.constants_reached);
            lines_fit = omega arith;
          }

    turned_upto : (n : ℕ) (at : Reached) → at.markers ≡ length (first_of A markers_of n) → at.constants ≡ length (first_of A constants_of n)
        → turned A recs spans n at (upto A recs spans n o₀) ≡ upto A recs spans (n + 1) o₀
    turned_upto n at p q =
        rw (
          more_over markers_of n at.markers o₀.markers.now p,
          more_over constants_of n at.constants o₀.constants.now q,
          more_over (line_of recs spans) n (n * 7) o₀.lines.now (sym (lines_length n)),
        )

    pub going_next : (o o' : Outputs) (n : ℕ) (at at' : Reached) → n < met_of A → Going A recs spans o₀ o n at → o' ≡ turned A recs spans n at o
        → at' ≡ onward A n at → Going A recs spans o₀ o' (n + 1) at'
    going_next o o' n at at' lt g h k =
        let z : suc n ≡ n + 1 = omega arith in
        record {
          few = omega arith;
          written = h ∙ ap (λ (x : Outputs). turned A recs spans n at x) g.written ∙ turned_upto n at g.markers_reached g.constants_reached;
          markers_reached = ap (λ (x : Reached). x.markers) k ∙ ap (λ (i : ℕ). i + length (markers_of (stream_of A n))) g.markers_reached
              ∙ sym (more_length markers_of n) ∙ ap (λ (j : ℕ). length (first_of A markers_of j)) z;
          constants_reached = ap (λ (x : Reached). x.constants) k ∙ ap (λ (i : ℕ). i + length (constants_of (stream_of A n))) g.constants_reached
              ∙ sym (more_length constants_of n) ∙ ap (λ (j : ℕ). length (first_of A constants_of j)) z;
        }
