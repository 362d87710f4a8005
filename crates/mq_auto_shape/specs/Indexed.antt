-- A shape with its keys as indexes.
use Rattle.std.specs.Prelude.{◌≡◌, Result, Ok, Err}
use Rattle.mq_values.specs.declared.faults.QueryFault.{QueryFault}
use Rattle.mq_auto_shape.specs.declared.indexed.IndexedShape.{IndexedShape}
use Rattle.mq_auto_shape.specs.Found.{Found}

-- the indexes have the keys of the shape
pub record IsIndexed (found : IndexedShape) : Type 0 where
  pub base : found.base ≡ found.shape.base
  pub cells : found.cells ≡ found.shape.cells

-- the shape with its rounds, or the fault
abbrev pub plain_found : Result IndexedShape QueryFault → Found
plain_found (Ok found) = Ok (found.shape, found.leveled)
plain_found (Err fault) = Err fault
