use Rattle.std.proofs.Common.{◌≡◌, map}
use Rattle.std.specs.List.{range_with_len}
use Rattle.mq_cells.specs.IndexedStores.{value_in}
use Rattle.mq_cells.specs.Stores.{cell_name}
use Rattle.mq_auto.proofs.stored.values_of.Given as goal

abbrev pub invariant-measures : goal.invariant-measures
invariant-measures l = l.values ≡ map (λ n. value_in l.cells (cell_name l.key n)) (range_with_len 0 l.measure)
