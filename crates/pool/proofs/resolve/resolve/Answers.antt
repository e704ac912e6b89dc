use Rattle.pool.specs.Names.{semantic_of}
use Rattle.pool.proofs.FitLaws.{fits_all}
use Rattle.pool.proofs.ResolveLaws.{span_few, state_first, state_last, state_none, turns_next}
use mathlib.Core.Path.{◌∙◌, refl, sym}
use native.Mathlib.Omega.{arith}
use Rattle.pool.proofs.resolve.resolve.Goals as goal

pub stamp_names-requires : goal.stamp_names-requires
stamp_names-requires c =
    let a = c.args in
    let fit = fits_all (semantic_of a.tables.now) _ _ (sym c.fits.ensures ∙ c.if-fits.true) in
    let first = state_first a.tables.now a.entries.now a.spans.now a.notes.now fit _ _ _ _ _ _ _ _ refl c.records.ensures c.functions_inside.ensures refl c.name_inners.ensures in
    span_few a.tables.now a.entries.now a.spans.now a.notes.now fit c.loop-f.f _ _ _ _ (omega (arith, c.loop-f.invariant.0, c.loop-f-test.true))
    (c.loop-f.invariant.3.turns a.entries.now a.spans.now a.notes.now fit first) _ c.span_of-span.ensures

pub loop-f-preserved : goal.loop-f-preserved
loop-f-preserved c = (
  c.loop-f.invariant.0,
  c.name_inners-in-loop-f.auto.entries ∙ c.loop-f.invariant.1,
  c.name_inners-in-loop-f.auto.spans ∙ c.loop-f.invariant.2,
  turns_next c.args.tables.now _ _ _ _ c.loop-f.f c.loop-f.entries c.loop-f.spans c.loop-f.notes c.loop-f.scope (omega (arith, c.loop-f.invariant.0, c.loop-f-test.true))
      c.loop-f.invariant.3 _ _ _ _ _ c.span_of-span.ensures c.stamp_names.ensures c.note_idents.ensures c.name_inners-in-loop-f.ensures,
)

pub returns-after-loop-f : goal.returns-after-loop-f
returns-after-loop-f c =
    let a = c.args in
    let all = sym c.fits.ensures ∙ c.if-fits.true in
    let fit = fits_all (semantic_of a.tables.now) _ _ all in
    let first = state_first a.tables.now a.entries.now a.spans.now a.notes.now fit _ _ _ _ _ _ _ _ refl c.records.ensures c.functions_inside.ensures refl c.name_inners.ensures in
    state_last a.tables.now a.entries.now a.spans.now a.notes.now fit c.loop-f.f _ _ _ c.loop-f.scope (omega (arith, c.loop-f.invariant.0, c.loop-f-test.false)) all
    (c.loop-f.invariant.3.turns a.entries.now a.spans.now a.notes.now fit first)

pub returns-else-fits : goal.returns-else-fits
returns-else-fits c = state_none c.args.tables.now c.args.entries.now c.args.spans.now c.args.notes.now (sym c.fits.ensures ∙ c.if-fits.false)
