-- The order in which the cells of references stand.
use Rattle.std.specs.Prelude.{◌≡◌, true, List}
use Rattle.std.specs.Coded.{→_prop, Π_prop}
use Rattle.std.specs.List.{All}
use Rattle.std.specs.List.Sorted.{IsStrictlySortedBy-prop}
use Rattle.std.specs.Ordering.{on}
use Rattle.mq_values.specs.Order.{cmp_key}
use Rattle.mq_ir.specs.declared.query.Model.{Model as Lent}
use Rattle.mq_ir.specs.declared.query.RefArray.{RefArray}
use Rattle.mq_ir.specs.Partitions.{Tuple}
pub use Rattle.mq_cells.specs.Ascents.{CellsAscend}
use Rattle.mq_refs.specs.declared.order.RefsOrder.{RefsOrder}

-- arrays whose cells ascend by their keys, each once
abbrev pub ArraysAscend : List RefArray → Type 0
ArraysAscend arrays = All (λ array. CellsAscend array.cells) arrays

-- what is said to be known of a model's references holds
abbrev pub IsOrderOf : RefsOrder → Lent → Type 0
IsOrderOf order m = order.ascend ≡ true → ArraysAscend m.refs.now

-- it has one proof at most
pub IsOrderOf-prop : (order : RefsOrder) (m : Lent) → IsProp (IsOrderOf order m)
IsOrderOf-prop order m =
    →_prop (Π_prop (λ k. Π_prop (λ d. →_prop (IsStrictlySortedBy-prop (on (λ (cell : Tuple × Tuple). cell.0) cmp_key) _))))
