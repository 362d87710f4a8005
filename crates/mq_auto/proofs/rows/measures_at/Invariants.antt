use Rattle.std.proofs.Common.{◌≡◌, map}
use Rattle.std.specs.List.{range_with_len}
use Rattle.mq_ir.specs.Slots.{done_value}
use Rattle.mq_cells.specs.Stores.{cell_name, slot_at}
use Rattle.mq_auto.proofs.rows.measures_at.Given as goal

abbrev pub invariant-measures : goal.invariant-measures
invariant-measures g l = record {
  values : l.values ≡ map (λ n. done_value (slot_at (g.C.Cells.input l.fn.cells) (g.C.Cells.results l.fn.cells) (cell_name l.key n))) (range_with_len 0 l.measure);
  same_input : g.C.Cells.input l.cells ≡ g.C.Cells.input l.fn.cells;
  same_results : g.C.Cells.results l.cells ≡ g.C.Cells.results l.fn.cells;
}
