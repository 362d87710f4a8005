use Rattle.std.proofs.Common.{◌≡◌, take}
use Rattle.mq_join.specs.Rows.{joined_at}
use Rattle.mq_join.proofs.join_row.joined.Given as goal

abbrev pub invariant-items : goal.invariant-items
invariant-items l = l.parts.items ≡ take l.i (joined_at l.items l.places)
