use Rattle.std.proofs.Common.{◌≡◌, ◌++◌, take}
use Rattle.mq_tables.proofs.rows.push_copies.Given as goal

abbrev pub invariant-rows : goal.invariant-rows
invariant-rows l = l.rows.items ≡ l.initial.rows.items ++ take l.row-index l.others
