use Rattle.mq_tables.proofs.WantedLemmas.{GoesOn}
use Rattle.mq_tables.proofs.wanted.wanted_by_all.Given as goal

abbrev pub invariant-conjuncts : goal.invariant-conjuncts
invariant-conjuncts l = GoesOn l.es l.e-index
