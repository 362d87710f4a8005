use Rattle.mq_change_laws.specs.NodeLaws.{slot_is_step}
use Rattle.mq_change_laws.proofs.levels.slots_are_steps.Goals as goal

pub returns : goal.returns
returns c = λ model shape input n cell rule. slot_is_step model shape c.steps_read_their_looks.ensures input n cell rule
