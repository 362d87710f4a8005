use Rattle.std.proofs.Common.{◌≡◌, take}
use Rattle.mq_tables.proofs.columns.copied_values.Given as goal

abbrev pub invariant-values : goal.invariant-values
invariant-values l = l.values.items ≡ take l.v-index l.row
