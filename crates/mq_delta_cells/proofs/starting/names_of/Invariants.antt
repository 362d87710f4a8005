use Rattle.std.proofs.Common.{◌≡◌, ◌||◌, drop}
use Rattle.mq_ir.specs.declared.query.CellName.{CellName}
use Rattle.mq_delta_cells.specs.Seeds.{is_moved}
use Rattle.mq_delta_cells.specs.Marks.{is_marked}
use Rattle.mq_delta_cells.proofs.starting.names_of.Given as goal

abbrev pub invariant-putting : goal.invariant-putting
invariant-putting l = (c : CellName) → (is_marked l.cells l.names c || is_moved (drop l.name-index l.moved) c) ≡ is_moved l.moved c
