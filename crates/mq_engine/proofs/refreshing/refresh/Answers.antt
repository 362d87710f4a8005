use Rattle.std.proofs.Common.{◌≡◌, false, IfSome, subst, sym}
use Rattle.mq_ir.specs.declared.query.CellName.{CellName}
use Rattle.mq_ir.specs.declared.query.Look.TheVariants.{Measure}
use Rattle.mq_ir.specs.declared.query.PartShape.{PartShape}
use Rattle.mq_ir.specs.Partitions.{Cells}
use Rattle.mq_ir.specs.Unfolding.{model_of}
use Rattle.mq_delta_cells.specs.Changes.{IsChange, reaches}
use Rattle.mq_engine.proofs.RefreshLemmas.{kept_holds}
use Rattle.mq_engine.proofs.refreshing.refresh.Goals as goal

pub returns-clause-unaffected : goal.returns-clause-unaffected
returns-clause-unaffected g c =
    let P : PartShape → Type 0 = (λ shape. (before : Cells) → (after : Cells)
    → IsChange (model_of c.args.m.now) c.args.old.now c.args.new.now c.args.moved.now before after
    (g.C.Cells.input c.args.cells.now) (g.C.Cells.results c.args.cells.now)
    → (c' : CellName) → reaches (model_of c.args.m.now) c.args.old.now shape before after (Measure c') ≡ false
    → g.C.Cells.results c.propagate.new.cells c' ≡ g.C.Cells.results c.args.cells.now c') in
    subst (λ kept. IfSome kept P) (sym c.kept_of.ensures)
    (kept_holds c.in_ok-verdict.verdict P c.in_ok-verdict.ensures.unaffected)
