use Rattle.std.proofs.Common.{None}
use Rattle.mq_answers.proofs.ColumnLemmas.{column_or}
use Rattle.mq_answers.proofs.printing.value_at.Goals as goal

pub returns-in-None : goal.returns-in-None
returns-in-None g c = column_or (g.R.Columns.columns c.args.row.now) c.args.number None c.in-None.ensures
