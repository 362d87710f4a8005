-- The order in which cells stand.
use Rattle.std.specs.List.Sorted.{IsStrictlySortedBy}
use Rattle.std.specs.Ordering.{on}
use Rattle.mq_values.specs.Order.{cmp_key}
use Rattle.mq_ir.specs.Partitions.{Cells, Tuple}

-- cells that ascend by their keys, each once
abbrev pub CellsAscend : Cells → Type 0
CellsAscend cells = IsStrictlySortedBy (on (λ (cell : Tuple × Tuple). cell.0) cmp_key) cells
