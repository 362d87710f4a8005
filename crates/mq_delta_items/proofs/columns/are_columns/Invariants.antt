use Rattle.std.proofs.Common.{◌≡◌, take}
use Rattle.mq_delta_items.specs.Columns.{columns_of}
use Rattle.mq_delta_items.proofs.columns.are_columns.Given as goal

abbrev pub invariant-items : goal.invariant-items
invariant-items l = take l.number l.items ≡ columns_of l.number
