-- What a propagated change leaves.
use Rattle.std.specs.Prelude.{List}
use Rattle.mq_ir.specs.declared.query.CellName.{CellName}
use Rattle.mq_ir.specs.declared.query.PartShape.{PartShape}
use Rattle.mq_ir.specs.Partitions.{Cells}
use Rattle.mq_ir.specs.Unfolding.{Model}
use Rattle.mq_change_laws.specs.Sides.{IsShaped}
use Rattle.mq_cells.specs.IndexedStores.{IndexedStore, input_in, results_of}
use Rattle.mq_auto.specs.Meaning.{HoldsValues}
use Rattle.mq_delta_cells.specs.Changes.{IsChange, side_of}

-- where a store had the new input of a change, and the values of the old one, it has those of the new one
abbrev pub IsWalked : Model → PartShape → PartShape → List CellName → IndexedStore → IndexedStore → Type 0
IsWalked model old new moved was is =
    (before after : Cells) → IsShaped model (side_of new after)
    → IsChange model old new.base moved before after (input_in was) (results_of was)
    → HoldsValues model new after (input_in is) (results_of is)
