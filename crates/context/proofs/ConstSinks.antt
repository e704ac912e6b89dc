-- What pool's add_const says, as the sink's. Assumes nothing.
use mathlib.Core.Path.{◌≡◌, ap, ap₂, ◌∙◌}
use mathlib.Core.List.{List}
use Prim.Native.Nat.{ℕ}
use Rattle.pool.specs.Consts.{table, room, added, constant, written}
use Rattle.pool.specs.declared.consts.Added.{Added}
use Rattle.pool.specs.declared.consts.ConstWords.{ConstWords}
use Rattle.context.specs.Words.{cap}
use Rattle.context.specs.Sinks.{const_index, with_consts, with_const}
use Rattle.context.specs.declared.Context.{Context}

module _ (recs : List ℕ) (x : Context) {v u : ConstWords} {a : Added} (ev : v ≡ u)
    (ea : a ≡ added (table recs x.consts.now x.const_count) (room x.consts.now x.const_count) (constant recs v)) where
  pub index_by : {i : ℕ} → i ≡ cap a.index → i ≡ const_index recs u x
  index_by ei = ei ∙ ap (λ (z : Added). cap z.index) ea ∙ ap (λ (z : ConstWords). const_index recs z x) ev

  pub count_by : {cs : List ℕ} {k : ℕ} → cs ≡ written recs x.consts.now x.const_count v.kind v.low v.high → k ≡ cap a.count
      → record (with_consts cs x) { const_count = k } ≡ with_const recs u x
  count_by {cs} {k} ec ek =
      ap₂ (λ (us : List ℕ) (n : ℕ). record (with_consts us x) { const_count = n }) ec (ek ∙ ap (λ (z : Added). cap z.count) ea)
      ∙ ap (λ (z : ConstWords). with_const recs z x) ev
