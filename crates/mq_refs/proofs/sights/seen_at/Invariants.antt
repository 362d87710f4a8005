use Rattle.std.proofs.Common.{◌≡◌, ◌+◌, ◌≤◌, ◌++◌, drop}
use Rattle.std.specs.List.{list_all}
use Rattle.mq_ir.specs.Slots.{is_known}
use Rattle.mq_cells.specs.Stores.{slot_at}
use Rattle.mq_refs.specs.Sightings.{measures_in, seen_at}
use Rattle.mq_refs.proofs.sights.seen_at.Given as goal

abbrev pub invariant-loop-look : goal.invariant-loop-look
invariant-loop-look g l = record {
  known :
      list_all (is_known (slot_at (g.C.Cells.input l.fn.cells) (g.C.Cells.results l.fn.cells))) (drop l.look-index l.looks)
      ≡ list_all (is_known (slot_at (g.C.Cells.input l.fn.cells) (g.C.Cells.results l.fn.cells))) l.looks;
  seen :
      l.seen ++ seen_at (slot_at (g.C.Cells.input l.fn.cells) (g.C.Cells.results l.fn.cells)) (drop l.look-index l.looks)
      ≡ seen_at (slot_at (g.C.Cells.input l.fn.cells) (g.C.Cells.results l.fn.cells)) l.looks;
  reads : g.C.Cells.looks l.cells + measures_in (drop l.look-index l.looks) ≤ g.C.Cells.looks l.fn.cells + measures_in l.looks;
  same_input : g.C.Cells.input l.cells ≡ g.C.Cells.input l.fn.cells;
  same_results : g.C.Cells.results l.cells ≡ g.C.Cells.results l.fn.cells;
}
