use Rattle.std.proofs.Common.{◌≡◌, map, take}
use Rattle.mq_ir.specs.Tables.{is_name}
use Rattle.mq_delta_base.proofs.delta.changed_items.Given as goal

abbrev pub invariant-tables : goal.invariant-tables
invariant-tables l = l.changed.items ≡ map (is_name l.table) (take l.name-index l.q.tables)
