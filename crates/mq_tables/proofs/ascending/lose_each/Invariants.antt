use Rattle.mq_tables.proofs.LoseLemmas.{Losing}
use Rattle.mq_tables.proofs.ascending.lose_each.Given as goal

abbrev pub invariant-gone : goal.invariant-gone
invariant-gone l = Losing l.initial.keys l.gone l.key-index l.keys
