use Rattle.mq_tables.proofs.AscendingLemmas.{IsFront}
use Rattle.mq_tables.proofs.ascending.ordered.Given as goal

abbrev pub invariant-keys : goal.invariant-keys
invariant-keys l = IsFront l.keys l.key-index l.set.keys
