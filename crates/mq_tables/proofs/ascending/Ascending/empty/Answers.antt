use Rattle.mq_tables.proofs.StandingLemmas.{none_came}
use Rattle.mq_tables.proofs.ascending.Ascending.empty.Goals as goal

pub invariant_of-result : goal.invariant_of-result
invariant_of-result c = none_came c.new-2.result.keys c.new.result.items c.new-2.ensures.empty c.new.ensures.items
