use Rattle.std.proofs.Common.{◌≡◌, subst}
use Rattle.std.specs.Prelude.{IfOk}
use Rattle.mq_ir.specs.declared.query.Slot.{Slot}
use Rattle.mq_cells.specs.Stores.{slot_at}
use Rattle.mq_refs.specs.SlotsOver.{cell_slot_over}
use Rattle.mq_auto.specs.Walks.{model_in}
use Rattle.mq_auto.proofs.finding.ByReadsFinder.slot.Goals as goal

pub returns-clause-exact : goal.returns-clause-exact
returns-clause-exact g c =
    subst (λ (meant : Slot). IfOk c.slot_over.result (λ slot. slot ≡ meant))
    (λ i. cell_slot_over (model_in c.args.work.now) (c.requires.cells i) (c.requires.base i) 0 c.args.rule.now c.args.target.now
    (slot_at (g.C.Cells.input c.args.cells.now) (g.C.Cells.results c.args.cells.now))) c.slot_over.ensures.exact
