use Rattle.std.proofs.Common.{refl, sym, ap, ◌∙◌, ◌≡◌, ◌+◌, arith, ℕ, take, drop, length, Some, get_or, ◌/◌}
use lib.Dec.{eqb}
use lib.ListN.{length-set, length-drop}
use lib.Pointwise.{pointwise}
use lib.Seq.{drop-set-lt}
use Rattle.std.specs.Slice.Iter.{chunks_rest, chunks_size}
use Rattle.listing.specs.Read.{is_dash, pairs_of, pair_of}
use Rattle.listing.proofs.ReadLaws.{string_dash, string_pairs, dash_eq, joined_none, next_byte, no_byte, no_room, odd_digit, never, agree_on, all_bytes, two_taken}
use Rattle.listing.proofs.read.hexadecimal.Goals as goal

pub returns-then-eq : goal.returns-then-eq
returns-then-eq c =
    let l = c.args.line.now in
    let d : is_dash l ≡ c.eq.result = sym (dash_eq l) ∙ ap (pointwise eqb l) (sym c.as_slice.ensures) ∙ sym c.eq.ensures in
    (omega arith, string_dash l (d ∙ c.if-eq.true), refl)

pub loop-k-init : goal.loop-k-init
loop-k-init c =
    let l = c.args.line.now in
    let d : is_dash l ≡ c.eq.result = sym (dash_eq l) ∙ ap (pointwise eqb l) (sym c.as_slice.ensures) ∙ sym c.eq.ensures in
    let n : c.into_iter-k-iterator.result.count ≡ 0 = cc in
    let r : chunks_rest c.into_iter-k-iterator.result.iter ≡ l = cc in
    let z : chunks_size c.into_iter-k-iterator.result.iter ≡ 2 = cc in
    record {
      two = z;
      within = omega arith;
      left = omega (arith, ap length r, n);
      follows = rw n (rw r (joined_none (pairs_of l) ∙ string_pairs l (d ∙ c.if-eq.false)));
      past = refl;
    }

pub returns-in_default : goal.returns-in_default
returns-in_default c =
    let p = c.loop-k in
    let v = p.invariant in
    let g = c.in-Some.ensures in
    let s = g.steps in
    let t = s.0.1 in
    let w = odd_digit (chunks_rest p.k-iterator.iter) p.out p.k-iterator.count _ v.follows (omega (arith, t.1, t.2, v.two)) (λ z. omega (arith, t.2, z)) in
    λ bs e. never _ bs _ _ w e

pub returns-in_err-byte : goal.returns-in_err-byte
returns-in_err-byte c =
    let p = c.loop-k in
    let v = p.invariant in
    let g = c.in-Some.ensures in
    let t = g.steps.0.1 in
    let q = two_taken (chunks_rest p.k-iterator.iter) c.in-Some.digits.now _ t.0 (omega arith) in
    let w = no_byte (chunks_rest p.k-iterator.iter) p.out p.k-iterator.count _ v.follows (omega (arith, t.1, v.two))
    (q.0 ∙ (let h = c.in_err-byte.ensures in sym h)) in
    rw c.from_residual.ensures (λ bs e. never _ bs _ _ w e)

pub returns-then-out-k : goal.returns-then-out-k
returns-then-out-k c =
    let p = c.loop-k in
    let v = p.invariant in
    let g = c.in-Some.ensures in
    let t = g.steps.0.1 in
    let rest = chunks_rest p.k-iterator.iter in
    λ bs e. let s = no_room rest p.out p.k-iterator.count _ v.follows (omega (arith, t.1, v.two)) (omega (arith, v.within)) (omega (arith, g.steps.1)) bs e in omega arith

pub loop-k-preserved : goal.loop-k-preserved
loop-k-preserved c =
    let p = c.loop-k in
    let v = p.invariant in
    let g = c.in-Some.ensures in
    let t = g.steps.0.1 in
    let b = c.in_ok-byte.byte in
    let k = p.k-iterator.count in
    let q = two_taken (chunks_rest p.k-iterator.iter) c.in-Some.digits.now _ t.0 (omega arith) in
    let n : c.in-Some.k ≡ k = g.steps.1 in
    let m : c.next.new.self.count ≡ k + 1 = g.steps.2 in
    let h : pair_of (get_or (chunks_rest p.k-iterator.iter) 0 0) (get_or (chunks_rest p.k-iterator.iter) 1 0) ≡ Some b = q.0 ∙ (let f = c.in_ok-byte.ensures in sym f) in
    record {
      two = g.steps.0.0 ∙ v.two;
      within = omega (arith, length-set p.out c.in-Some.k b);
      left = omega (arith, ap length q.1, length-drop 2 (chunks_rest p.k-iterator.iter), v.left, t.1, v.two);
      follows = rw m (rw n (rw (sym q.1)
          (next_byte (chunks_rest p.k-iterator.iter) p.out k _ v.follows b (omega (arith, t.1, v.two)) (omega arith) h)));
      past = rw m (rw n (drop-set-lt _ p.out k b (omega arith) ∙ agree_on k 1 p.out c.args.out.now v.past));
    }

pub returns : goal.returns
returns c =
    let l = c.args.line.now in
    let p = c.loop-k in
    let v = p.invariant in
    let k = p.k-iterator.count in
    let g = c.in-None.ensures in
    let o : length (chunks_rest p.k-iterator.iter) ≡ 0 = g.steps.0.1.0 in
    let z : k ≡ length l / 2 = omega (arith, v.left) in (
      omega (arith, v.within),
      all_bytes (chunks_rest p.k-iterator.iter) p.out k _ v.follows o ∙ ap (λ (i : ℕ). Some (take i p.out)) z,
      ap (λ (i : ℕ). drop i p.out) (sym z) ∙ v.past ∙ ap (λ (i : ℕ). drop i c.args.out.now) z,
    )
