use Rattle.std.proofs.Common.{◌++◌, false, replicate}
use Rattle.mq_ir.specs.Changes.{deleted_row}
use Rattle.mq_tables.proofs.LeftLemmas.{Taking}
use Rattle.mq_tables.proofs.visits.gone_rows.Given as goal

abbrev pub invariant-rows : goal.invariant-rows
invariant-rows l = Taking l.schema (deleted_row l.filter) l.rows l.at (replicate l.places.from false ++ l.told.items) l.keys l.gone
