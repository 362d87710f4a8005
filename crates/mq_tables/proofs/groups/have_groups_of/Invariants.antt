use Rattle.std.proofs.Common.{map, take}
use Rattle.mq_ir.specs.Changes.{row_key}
use Rattle.mq_tables.specs.Groups.{AreLike}
use Rattle.mq_tables.proofs.groups.have_groups_of.Given as goal

abbrev pub invariant-rows : goal.invariant-rows
invariant-rows l = AreLike l.values (map (row_key l.schema) (take l.row-index l.rows))
