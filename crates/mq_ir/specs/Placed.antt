-- A fault inside a partition, before the partition's key is put to it.
use Rattle.std.specs.Prelude.{ℕ, []}
use Rattle.mq_values.specs.declared.faults.FaultKind.{FaultKind}
use Rattle.mq_values.specs.declared.faults.FaultKind.TheVariants as kind
use Rattle.mq_values.specs.declared.faults.QueryFault.{QueryFault}
use Rattle.mq_values.specs.declared.faults.ValueFault.{ValueFault}
use Rattle.mq_values.specs.declared.faults.ValueFault.TheVariants as fault
use Rattle.mq_ir.specs.Partitions.{Tuple}

-- the rule's number, or 0 where it is none; and the cell, or the empty tuple
pub record Placed : Type 0 where
  pub kind : FaultKind
  pub rule : ℕ
  pub cell : Tuple

abbrev pub kind_of : ValueFault → FaultKind
kind_of fault.Overflow = kind.Overflow
kind_of fault.DivideByZero = kind.DivideByZero
kind_of fault.TextTooLong = kind.TextTooLong
kind_of fault.DateRange = kind.DateRange

abbrev pub placed_fault : ℕ → Tuple → FaultKind → Placed
placed_fault rule cell kind = record { kind = kind; rule = rule; cell = cell }

abbrev pub value_fault : ℕ → Tuple → ValueFault → Placed
value_fault rule cell fault = placed_fault rule cell (kind_of fault)

-- the fault of the partition with this key
abbrev pub at_partition : Tuple → Placed → QueryFault
at_partition key p = record { kind = p.kind; rule = p.rule; partition = key; cell = p.cell }

-- a fault outside of partitions: no partition and no cell
abbrev pub plain_fault : ℕ → FaultKind → QueryFault
plain_fault rule kind = at_partition [] (placed_fault rule [] kind)
