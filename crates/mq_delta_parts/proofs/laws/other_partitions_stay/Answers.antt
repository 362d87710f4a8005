use Rattle.mq_delta_parts.specs.ChangeLaws.{others_stay}
use Rattle.mq_delta_parts.proofs.laws.other_partitions_stay.Goals as goal

pub returns : goal.returns
returns c = others_stay
