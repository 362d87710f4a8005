use Rattle.mq_values.proofs.TenLemmas.{TENS_read, TENS_positive}
use Rattle.mq_values.proofs.number.ten_to.Goals as goal

pub returns-clause-value : goal.returns-clause-value
returns-clause-value c = TENS_read c.args.power c.requires

pub returns-clause-positive : goal.returns-clause-positive
returns-clause-positive c = TENS_positive c.args.power c.requires
