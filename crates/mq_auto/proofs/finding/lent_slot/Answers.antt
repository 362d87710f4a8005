use Rattle.std.proofs.Common.{ap, ◌∙◌}
use Rattle.mq_ir.specs.Slots.{cell_slot}
use Rattle.mq_cells.specs.IndexedStores.{IndexedStore, slots_in}
use Rattle.mq_auto.specs.Walks.{model_in}
use Rattle.mq_auto.proofs.finding.lent_slot.Goals as goal

pub slot_lent-requires-clause-values : goal.slot_lent-requires-clause-values
slot_lent-requires-clause-values c = λ name. ap (λ (s : IndexedStore). slots_in s name) c.in-Some.ensures.same ∙ c.in-Some.ensures.values name

pub returns-in_ok-slot_lent-in-Some : goal.returns-in_ok-slot_lent-in-Some
returns-in_ok-slot_lent-in-Some c =
    c.in_ok-slot_lent-in-Some.ensures
    ∙ ap (λ (s : IndexedStore). cell_slot (model_in c.args.work.now) c.args.work.now.shape.now 0 c.args.rule.now c.args.target.now (slots_in s)) c.in-Some.ensures.same
