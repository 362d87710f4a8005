use Rattle.std.proofs.Common.{◌≡◌, ◌≤◌, drop, length}
use Rattle.std.specs.List.{find}
use Rattle.std.specs.Option.{option_map}
use Rattle.mq_ir.specs.declared.query.CellName.{CellName}
use Rattle.mq_ir.specs.Shape.{Assignment, assigns}
use Rattle.mq_delta_cells.specs.Tables.{number_by}
use Rattle.mq_delta_cells.proofs.course.rules_of.Given as goal

abbrev pub invariant-putting : goal.invariant-putting
invariant-putting l = record {
  within : l.at ≤ length l.assigned;
  rules : (c : CellName) → number_by l.cells l.rules c ≡ option_map (λ (a : Assignment). a.2) (find (assigns c.measure c.key) (drop l.at l.assigned));
}

abbrev pub decreases-putting : goal.decreases-putting
decreases-putting l = l.at
