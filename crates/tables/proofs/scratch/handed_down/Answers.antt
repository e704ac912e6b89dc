use Rattle.std.proofs.Common.{◌≡◌, ℕ, ◌+◌, ◌<◌, get_or, refl, subst, ◌∙◌, arith}
use Rattle.tables.specs.Scratch.{handed, Handed}
use Rattle.tables.proofs.CountLaws.{first_small, next_small}
use Rattle.tables.proofs.HandLaws.{handed_begin, handed_more, handed_put, handed_none}
use Rattle.tables.proofs.scratch.handed_down.Goals.{then-child-ne0, else-child-ne0, then-sibling-ne0, else-sibling-ne0}
use Rattle.tables.proofs.scratch.handed_down.Goals as goal

pub loop-r-init : goal.loop-r-init
loop-r-init g c = λ f k j. handed_begin _ _ _ _ refl

pub offset_bounds-a-child : goal.offset_bounds-a-child
offset_bounds-a-child g c = omega (arith, first_small _ _ _ c.first-child.ensures c.requires.small)

pub bounds-a-child : goal.bounds-a-child
bounds-a-child g c = first_small _ _ _ c.first-child.ensures c.requires.small

pub offset_bounds-a-sibling : goal.offset_bounds-a-sibling
offset_bounds-a-sibling g c = omega (arith, next_small _ _ _ c.next-sibling.ensures c.requires.small)

pub bounds-a-sibling : goal.bounds-a-sibling
bounds-a-sibling g c = next_small _ _ _ c.next-sibling.ensures c.requires.small

pub loop-r-preserved : goal.loop-r-preserved
loop-r-preserved g c =
    λ f k j.
    let l = c.loop-r in
    let recs = c.args.recs.now in
    let last : c.if-sibling-ne0.a ≡ handed c.if-child-ne0.a c.next-sibling.result (get_or l.a l.r 0) =
    elim c.if-sibling-ne0.branch [
      | then-sibling-ne0 w ↦ w.a-is ∙ handed_put _ _ _ (omega arith)
      | else-sibling-ne0 w ↦ w.a-is ∙ handed_none _ _ _ (omega arith)
    ] in
    let turn : (t : ℕ) → (0 < c.first-child.result → t ≡ f l.r (get_or l.a l.r 0)) → c.if-child-ne0.a ≡ handed l.a c.first-child.result t
    → Handed f recs c.args.top (l.r + 1) c.if-sibling-ne0.a =
    λ t d b. handed_more f recs c.args.top j c.requires.small l.a c.if-child-ne0.a c.if-sibling-ne0.a l.r _ _ t _ (omega (arith, c.size-r-end.ensures))
    (l.invariant f k j) c.first-child.ensures refl d (λ _. b) c.next-sibling.ensures (λ _. last) in
    elim c.if-child-ne0.branch [
      | then-child-ne0 w ↦ turn w.down.result (λ q. k l.r _ _ (omega (arith, c.size-r-end.ensures, c.requires.small)) w.down.ensures) (w.a-is ∙ handed_put _ _ _ (omega arith))
      | else-child-ne0 w ↦ turn 0 (λ q. absurd (omega arith)) (w.a-is ∙ handed_none _ _ _ (omega arith))
    ]

pub returns : goal.returns
returns g c = λ f k j. subst (λ n. Handed f c.args.recs.now c.args.top n c.loop-r.a) (omega (arith, c.size-r-end.ensures)) (c.loop-r.invariant f k j)
