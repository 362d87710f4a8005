use Rattle.std.proofs.Common.{◌≡◌, ◌≤◌, length, drop}
use Rattle.std.specs.Option.{option_map}
use Rattle.mq_ir.specs.Shape.{least_of}
use Rattle.mq_cells.specs.Faults.{numbered}
use Rattle.mq_cells.specs.Stores.{faulted_from}
use Rattle.mq_cells.proofs.FaultLemmas.{by_number}
use Rattle.mq_cells.proofs.faults.least_fault.Given as goal

-- the least of those that were looked at
abbrev pub invariant-looking : goal.invariant-looking
invariant-looking g l = record {
  within : l.at ≤ length l.assigned;
  found : option_map numbered l.least ≡ least_of by_number (faulted_from l.at (g.H.Held.stands l.held) (drop l.at l.assigned));
}

abbrev pub decreases-looking : goal.decreases-looking
decreases-looking g l = l.at
