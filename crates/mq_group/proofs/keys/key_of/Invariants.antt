use Rattle.std.proofs.Common.{◌≡◌, take}
use Rattle.mq_ir.specs.Items.{group_key}
use Rattle.mq_group.proofs.keys.key_of.Given as goal

abbrev pub invariant-loop-col : goal.invariant-loop-col
invariant-loop-col g l = l.values ≡ group_key (take l.col-index l.cols) (g.R.RowValues.values l.row)
