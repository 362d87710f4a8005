use Rattle.mq_tables.proofs.SetLemmas.{Setting}
use Rattle.mq_tables.proofs.columns.row_with.Given as goal

abbrev pub invariant-sets : goal.invariant-sets
invariant-sets l = Setting l.schema l.number l.row l.sets l.set-index l.values.items
