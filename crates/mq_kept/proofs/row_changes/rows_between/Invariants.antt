use Rattle.std.proofs.Common.{◌-◌, length}
use Rattle.mq_kept.proofs.RowChangeLemmas.{HasChanged}
use Rattle.mq_kept.proofs.row_changes.rows_between.Given as goal

abbrev pub invariant-rows : goal.invariant-rows
invariant-rows l = HasChanged l.old l.new l.at l.beside l.change

abbrev pub decreases-rows : goal.decreases-rows
decreases-rows l = length l.old - l.at
