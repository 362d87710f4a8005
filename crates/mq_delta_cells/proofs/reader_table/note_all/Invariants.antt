use Rattle.std.proofs.Common.{◌≡◌, true, take}
use Rattle.mq_ir.specs.declared.query.CellName.{CellName}
use Rattle.mq_delta_cells.specs.Readers.{HasMore, is_looked_at, is_reader}
use Rattle.mq_delta_cells.proofs.reader_table.note_all.Given as goal

abbrev pub invariant-noting : goal.invariant-noting
invariant-noting l = record {
  more : HasMore l.cells l.fn.readers l.readers;
  noted : (c : CellName) → is_looked_at (take l.look-index l.looks) c ≡ true → is_reader l.cells l.readers c l.place ≡ true;
}
