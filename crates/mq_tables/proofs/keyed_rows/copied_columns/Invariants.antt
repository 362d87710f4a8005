use Rattle.std.proofs.Common.{◌≡◌, take}
use Rattle.mq_tables.proofs.keyed_rows.copied_columns.Given as goal

abbrev pub invariant-columns : goal.invariant-columns
invariant-columns l = l.copy ≡ take l.column-index l.columns
