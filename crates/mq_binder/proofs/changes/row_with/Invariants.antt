use Rattle.mq_binder.proofs.PlacedLemmas.{Placing}
use Rattle.mq_binder.proofs.changes.row_with.Given as goal

abbrev pub invariant-found : goal.invariant-found
invariant-found l = Placing l.schema l.numbers l.place l.yielded l.row.items
