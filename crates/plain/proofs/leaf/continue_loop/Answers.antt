use Rattle.context.proofs.SizeLaws.{pushed_sizes, loaded_sizes, stopped_sizes}
use Rattle.context.proofs.MarkLaws.{sent}
use Rattle.context.proofs.LeaveLaws.{left_some}
use Rattle.context.specs.Does.{does, doing}
use Rattle.plain.proofs.EndLaws.{cut_off}
use Rattle.plain.proofs.LeafLaws.{nulled}
use Rattle.pool.specs.Value.{Null}
use Rattle.rules.specs.Marker.{Continue, Load, LoadConst, mark}
use Rattle.rules.specs.Run.{exec}
use Rattle.tables.specs.Record.{words}
use mathlib.Core.Path.{◌∙◌, refl}
use Rattle.plain.proofs.leaf.continue_loop.Goals as goal

pub returns-in_default : goal.returns-in_default
unfolding does doing exec
returns-in_default c =
    λ notes. record {
      sim = λ z m o₀ A h. cut_off c.args.r (words c.args.tree.now.records.now c.args.r) Continue (mark c.args.r (Load LoadConst Null)) c.continue_label.ensures
          c.in_default.is c.cut.ensures h;
      sizes = stopped_sizes _ _ c.cut.ensures;
    }

pub returns : goal.returns
unfolding does doing exec
returns c =
    λ notes. record {
      sim = λ z m o₀ A h.
          let h1 = left_some c.args.r (words c.args.tree.now.records.now c.args.r) Continue c.continue_label.ensures h c.in-Some.is refl
          (sent _ c.push_code.ensures.1 c.push_code.ensures.2) in
          nulled c.args.r c.push_null.ensures h1;
      sizes = loaded_sizes _ _ _ _ c.push_null.ensures ∙ pushed_sizes _ _ c.push_code.ensures.2;
    }
