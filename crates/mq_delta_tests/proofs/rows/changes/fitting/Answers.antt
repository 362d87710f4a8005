use Rattle.mq_delta_tests.proofs.FitLemmas.{there_fit}
use Rattle.mq_delta_tests.proofs.rows.changes.fitting.Goals as goal

pub returns : goal.returns
returns c =
    there_fit c.args.tables.now c.args.name.now _ c.change.result c.has_two_columns.result c.change.ensures.table c.change.ensures.fits
    c.in_ok-table.ensures c.has_two_columns.ensures c.if-not-has_two_columns.false
