use Rattle.std.proofs.Common.{◌≡◌, ◌++◌, take}
use Rattle.mq_kept.proofs.row_changes.add_rows.Given as goal

abbrev pub invariant-loop-row : goal.invariant-loop-row
invariant-loop-row l = l.rows ≡ l.fn.rows ++ take l.row-index l.more
