use Rattle.mq_ir.specs.declared.query.Look.TheVariants.{Measure}
use Rattle.mq_ir.specs.Automatic.{round_count}
use Rattle.mq_change_laws.specs.PoisonedLaws.{unlevelled_poisoned}
use Rattle.mq_change_laws.proofs.levels.the_rest_is_poisoned.Goals as goal

pub returns : goal.returns
returns c = λ model shape input cell h. unlevelled_poisoned model shape input (round_count shape) (Measure cell) h
