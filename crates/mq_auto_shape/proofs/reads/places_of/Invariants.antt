use Rattle.std.proofs.Common.{◌≡◌, ℕ, ◌≤◌, length, drop}
use Rattle.std.specs.List.{position_from}
use Rattle.mq_ir.specs.Keys.{Tuple}
use Rattle.mq_ir.specs.Shape.{assigns}
use Rattle.mq_auto_shape.specs.Numbers.{number_at}
use Rattle.mq_cells.specs.declared.bounds.TheConstants.{MAX_ASSIGNMENTS}
use Rattle.mq_auto_shape.proofs.reads.places_of.Given as goal

abbrev pub invariant-placing : goal.invariant-placing
invariant-placing l = record {
  cells : l.numbers.keys ≡ l.cells;
  within : l.at ≤ length l.assigned;
  few : length l.assigned ≤ MAX_ASSIGNMENTS;
  found : (key : Tuple) (m : ℕ) → number_at l.numbers key m ≡ position_from (assigns m key) l.at (drop l.at l.assigned);
}

abbrev pub decreases-placing : goal.decreases-placing
decreases-placing l = l.at
