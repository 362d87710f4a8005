use Rattle.mq_delta_parts.specs.ChangeLaws.{partitions_change}
use Rattle.mq_delta_parts.proofs.laws.partitions_change.Goals as goal

pub returns : goal.returns
returns c = partitions_change
