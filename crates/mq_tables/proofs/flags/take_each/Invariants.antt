use Rattle.mq_tables.proofs.LeftLemmas.{Leaving}
use Rattle.mq_tables.proofs.flags.take_each.Given as goal

abbrev pub invariant-items : goal.invariant-items
invariant-items g l = Leaving l.initial.items.items l.gone l.items.items l.kept l.at
