use Rattle.mq_values.proofs.PrintLemmas.{values_apart}
use Rattle.mq_values.proofs.laws.values_print_apart.Goals as goal

pub returns : goal.returns
returns c = values_apart
