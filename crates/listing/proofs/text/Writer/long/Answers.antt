use Rattle.std.proofs.Common.{arith, rules, length, ◌≡◌, ◌∙◌, ap, sym, subst, ◌<◌, ◌-◌, ◌*◌, ℕ}
use Prim.Native.Nat.{◌^◌}
use Rattle.std.proofs.lemmas.Grind.{common_steps}
use Rattle.listing.specs.Print.{after, decimal}
use Rattle.listing.proofs.DecimalLaws.{padded, long_start, long_next, long_done, front_start, front_last, power_next}
use Rattle.listing.proofs.text.Writer.long.Goals as goal

pub loop-power-init : goal.loop-power-init
loop-power-init c =
    let w = c.width.ensures in
    let f = front_start c.into_iter-power-iterator.result.iter.rest.now c.powers-list.result c.width.result (grind (arith, common_steps)) (search rules) w.most
    c.powers-list.ensures in (
      f.1,
      subst (λ (k : ℕ). c.args.n < 10 ^ k) (sym f.0) w.below,
      long_start c.args.n _ _ w ∙ ap (λ (k : ℕ). after (padded k c.args.n) c.args.self.now) (sym f.0),
    )

pub leading-l-requires : goal.leading-l-requires
leading-l-requires c =
    let l = c.loop-power in
    let f = front_last l.power-iterator.iter.rest.now c.next.new.self.iter.rest.now c.in-Some.field-0.now c.in-Some.ensures.steps l.invariant.0 in
    let p : 10 ^ length l.power-iterator.iter.rest.now ≡ 10 * c.in-Some.field-0.now = power_next _ _ (omega (arith, f.0)) f.1 in
    subst (λ (n : ℕ). l.rest < n) p l.invariant.1

pub loop-power-preserved : goal.loop-power-preserved
loop-power-preserved c =
    let l = c.loop-power in
    let d = c.leading-l.result in
    let ps = l.power-iterator.iter.rest.now in
    let qs = c.next.new.self.iter.rest.now in
    let f = front_last ps qs c.in-Some.field-0.now c.in-Some.ensures.steps l.invariant.0 in
    let n : length ps - 1 ≡ length qs = omega (arith, f.0) in (
      f.2,
      subst (λ (x : ℕ). d.rest < x) (f.1 ∙ ap (λ (k : ℕ). 10 ^ k) n) c.leading-l.ensures.less,
      long_next (decimal c.args.n) (length ps) l.rest _ d.digit d.rest _ _ (omega (arith, f.0)) f.1 c.leading-l.ensures l.invariant.2 c.put.ensures
          ∙ ap (λ (k : ℕ). after (padded k d.rest) c.put.new.self) n,
    )

pub returns : goal.returns
returns c = long_done (decimal c.args.n) (length c.loop-power.power-iterator.iter.rest.now) c.loop-power.rest _ (grind (arith, common_steps)) c.loop-power.invariant.2
