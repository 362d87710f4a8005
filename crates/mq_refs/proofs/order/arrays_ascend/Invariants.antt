use Rattle.std.specs.List.{AllWithin}
use Rattle.mq_refs.specs.Orders.{CellsAscend}
use Rattle.mq_refs.proofs.order.arrays_ascend.Given as goal

abbrev pub invariant-loop-array : goal.invariant-loop-array
invariant-loop-array l = AllWithin (λ array. CellsAscend array.cells) l.arrays 0 l.array-index
