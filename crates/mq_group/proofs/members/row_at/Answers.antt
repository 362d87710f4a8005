use Rattle.mq_group.proofs.ItemLemmas.{row_lent}
use Rattle.mq_group.proofs.members.row_at.Goals as goal

pub returns : goal.returns
returns g c = row_lent g.R.RowValues.values c.args.rows.now c.args.place c.get.result c.get.ensures.lookup
