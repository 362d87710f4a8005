use Rattle.mq_change_laws.specs.ReachLaws.{by_looks}
use Rattle.mq_change_laws.proofs.affected.affected_go_by_looks.Goals as goal

pub returns : goal.returns
returns c = by_looks
