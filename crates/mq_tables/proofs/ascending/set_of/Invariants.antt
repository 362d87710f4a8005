use Rattle.mq_tables.proofs.AscendingLemmas.{Gathered}
use Rattle.mq_tables.proofs.ascending.set_of.Given as goal

abbrev pub invariant-keys : goal.invariant-keys
invariant-keys l = Gathered l.keys l.key-index l.set.keys
