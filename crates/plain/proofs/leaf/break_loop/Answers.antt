use Rattle.context.proofs.SizeLaws.{pushed_sizes, loaded_sizes, stopped_sizes}
use Rattle.context.proofs.MarkLaws.{sent}
use Rattle.context.proofs.LeaveLaws.{left_some}
use Rattle.context.specs.Does.{does, doing}
use Rattle.plain.proofs.EndLaws.{break_behind, cut_off, no_break}
use Rattle.plain.proofs.LeafLaws.{nulled}
use Rattle.pool.specs.Value.{Null}
use Rattle.rules.specs.Marker.{Break, Load, LoadConst, mark}
use Rattle.rules.specs.Run.{exec}
use Rattle.tables.specs.Record.{words}
use mathlib.Core.Path.{◌∙◌, refl, sym}
use Rattle.plain.proofs.leaf.break_loop.Goals as goal

pub returns-in_default : goal.returns-in_default
unfolding does doing exec
returns-in_default c =
    λ notes. record {
      sim = λ z m o₀ A h. cut_off c.args.r (words c.args.tree.now.records.now c.args.r) Break (mark c.args.r (Load LoadConst Null)) refl
          (no_break _ (sym c.break_label.ensures ∙ c.in_default.is)) c.cut.ensures h;
      sizes = stopped_sizes _ _ c.cut.ensures;
    }

pub returns : goal.returns
unfolding does doing exec
returns c =
    λ notes. record {
      sim = λ z m o₀ A h.
          let q = break_behind _ _ (sym c.break_label.ensures ∙ c.in-Some.is) in
          let h1 = left_some c.args.r (words c.args.tree.now.records.now c.args.r) Break refl h q.1 q.2 (sent _ c.push_code.ensures.1 c.push_code.ensures.2) in
          nulled c.args.r c.push_null.ensures h1;
      sizes = loaded_sizes _ _ _ _ c.push_null.ensures ∙ pushed_sizes _ _ c.push_code.ensures.2;
    }
