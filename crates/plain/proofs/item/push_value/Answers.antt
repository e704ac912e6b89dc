use Rattle.context.proofs.SizeLaws.{pushed_sizes, loaded_sizes}
use Rattle.context.proofs.MarkLaws.{sent, said}
use Rattle.plain.proofs.LeafLaws.{lit_loaded}
use Rattle.rules.specs.Marker.{Copy, GetItem}
use Rattle.tables.specs.Record.{word}
use mathlib.Core.Path.{◌∙◌, refl}
use Rattle.plain.proofs.item.push_value.Goals as goal

pub returns : goal.returns
returns c =
    record {
      moves = λ r q. record {
        moves = λ m o₀ A h. said r GetItem 0 refl refl (sent _ c.push_code-2.ensures.1 c.push_code-2.ensures.2)
            (lit_loaded q (word c.args.tree.now.records.now c.args.key 1) (word c.args.tree.now.records.now c.args.key 2)
            (word c.args.tree.now.records.now c.args.key 3) c.push_lit.ensures (said r Copy 1 refl refl (sent _ c.push_code.ensures.1 c.push_code.ensures.2) h));
        sizes = pushed_sizes _ _ c.push_code-2.ensures.2 ∙ loaded_sizes _ _ _ _ c.push_lit.ensures ∙ pushed_sizes _ _ c.push_code.ensures.2;
      };
    }
