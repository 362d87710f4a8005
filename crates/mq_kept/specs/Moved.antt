-- The measures that move, cell by cell.
use Rattle.std.specs.Prelude.{ℕ, Bool, ◌&&◌, slice_index_or}
use Rattle.std.specs.Ordering.{is_ne}
use Rattle.mq_values.specs.Order.{cmp_value}
use Rattle.mq_values.specs.declared.value.Value.TheVariants.{Null}
use Rattle.mq_ir.specs.declared.query.CellName.{CellName}
use Rattle.mq_ir.specs.Keys.{Tuple, is_same}

-- the values of a measure differ; null stands behind the end
abbrev pub is_other : Tuple → Tuple → ℕ → Bool
is_other were are measure = is_ne (cmp_value (slice_index_or were measure Null) (slice_index_or are measure Null))

-- a measure of the cell at this tuple, of which the values differ
abbrev pub moves_at : Tuple → Tuple → Tuple → CellName → Bool
moves_at key were are c = is_same c.key key && is_other were are c.measure
