use Rattle.std.proofs.Common.{ap, ◌∙◌}
use Rattle.mq_ir.specs.declared.query.Slot.TheVariants.{Done}
use Rattle.mq_cells.specs.IndexedStores.{value_in}
use Rattle.mq_auto.proofs.threads.lends_all.Goals as goal

pub returns-in-Some : goal.returns-in-Some
returns-in-Some c = λ _ name. c.in-Some.ensures.values name ∙ ap (λ s. Done (value_in s name)) c.in-Some.ensures.same
