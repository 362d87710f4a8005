use Rattle.std.proofs.Common.{◌≡◌, take}
use Rattle.mq_ir.specs.Changes.{value_count}
use Rattle.mq_tables.specs.Pending.{with_pending}
use Rattle.mq_tables.specs.Sizes.{capped}
use Rattle.mq_tables.proofs.sizes.pending_value_count.Given as goal

abbrev pub invariant-tables : goal.invariant-tables
invariant-tables l = l.count ≡ capped (value_count (with_pending (take l.table-index l.tables) l.pending))
