use Rattle.mq_group.specs.Columns.{keys_in}
use Rattle.mq_group.specs.Numbering.{AreGrouped}
use Rattle.mq_group.proofs.grouping.keyed.Given as goal

abbrev pub invariant-loop-place : goal.invariant-loop-place
invariant-loop-place g l = AreGrouped (keys_in g.R.RowValues.values l.cols l.rows) l.place l.numbers l.groups.items
