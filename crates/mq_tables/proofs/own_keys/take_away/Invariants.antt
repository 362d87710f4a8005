use Rattle.mq_tables.proofs.LoseLemmas.{Losing}
use Rattle.mq_tables.proofs.own_keys.take_away.Given as goal

abbrev pub invariant-keys : goal.invariant-keys
invariant-keys l = Losing l.initial.keys.keys l.others l.key-index l.keys.keys
