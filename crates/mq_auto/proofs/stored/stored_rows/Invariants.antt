use Rattle.std.proofs.Common.{◌≡◌, ◌++◌, drop, map}
use Rattle.mq_ir.specs.Automatic.{slot_cell}
use Rattle.mq_ir.specs.Unfolding.{model_of}
use Rattle.mq_cells.specs.IndexedStores.{slots_in}
use Rattle.mq_auto.proofs.stored.stored_rows.Given as goal

abbrev pub invariant-listing : goal.invariant-listing
invariant-listing l =
    l.rows ++ map (slot_cell (model_of l.m) l.s (slots_in l.cells)) (drop l.key-index l.s.cells) ≡ map (slot_cell (model_of l.m) l.s (slots_in l.cells)) l.s.cells
