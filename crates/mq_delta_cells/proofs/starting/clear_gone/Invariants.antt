use Rattle.std.proofs.Common.{◌≡◌, None, drop}
use Rattle.std.specs.Prelude.{if◌then◌else◌}
use Rattle.mq_ir.specs.declared.query.CellName.{CellName}
use Rattle.mq_delta_cells.specs.Seeds.{is_gone}
use Rattle.mq_delta_cells.proofs.starting.clear_gone.Given as goal

abbrev pub invariant-clearing : goal.invariant-clearing
invariant-clearing g l = record {
  cleared : (c : CellName) → (if is_gone (drop l.a-index l.assigned) l.index l.rules c then None else g.C.Cells.results l.cells c)
      ≡ (if is_gone l.assigned l.index l.rules c then None else g.C.Cells.results l.fn.cells c);
  same_input : g.C.Cells.input l.cells ≡ g.C.Cells.input l.fn.cells;
  same_looks : g.C.Cells.looks l.cells ≡ g.C.Cells.looks l.fn.cells;
}
