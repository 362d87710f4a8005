use Rattle.mq_binder.proofs.TupleLemmas.{Numbered}
use Rattle.mq_binder.proofs.left_sides.numbers_called.Given as goal

abbrev pub invariant-names : goal.invariant-names
invariant-names l = Numbered l.scope l.names l.name-index l.numbers
