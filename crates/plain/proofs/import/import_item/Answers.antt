use Rattle.context.proofs.SizeLaws.{loaded_sizes, used_sizes}
use Prim.Native.Nat.{ℕ}
use Rattle.context.specs.Does.{does, doing, nth}
use Rattle.context.specs.Rep.{lent}
use Rattle.plain.proofs.LeafLaws.{str_loaded, used_child}
use Rattle.pool.specs.Value.{child}
use Rattle.rules.specs.Marker.{ImportFrom}
use Rattle.rules.specs.Run.{exec, number_of, spot_at}
use Rattle.rules.specs.Step.{Set}
use Rattle.tables.specs.Forest.{children, forest, none, own_tree, tree}
use Rattle.tables.specs.Record.{word, words}
use lib.Dec.{eqb}
use mathlib.Core.Bool.{cond}
use mathlib.Core.List.{[], ◌∷◌}
use mathlib.Core.Path.{◌∙◌, ap}
use Rattle.plain.proofs.import.import_item.Goals as goal

pub returns : goal.returns
unfolding does doing exec
returns c =
    record {
      sim = λ z m o₀ A h.
          let h1 = str_loaded (number_of
          (spot_at (tree c.args.item (words c.args.tree.now.records.now c.args.item) (children c.args.tree.now.records.now c.args.item) none) (0 ∷ [])))
          ImportFrom _ (c.name_of.ensures ∙ ap (λ (l : ℕ). (child (own_tree (forest c.args.tree.now.records.now l)) 0).q) c.first-name.ensures) c.push_import_from.ensures h in
          used_child (lent c.args.tree.now) c.args.item Set (cond (eqb (word c.args.tree.now.records.now c.args.item 1) 1) 1
          0) (c.alias.ensures ∙ ap (nth c.args.tree.now.records.now (cond (eqb (word c.args.tree.now.records.now c.args.item 1) 1) 1 0)) c.first-name.ensures)
          c.store.ensures h1;
      sizes = used_sizes Set _ _ _ c.store.ensures ∙ loaded_sizes _ _ _ _ c.push_import_from.ensures;
    }
