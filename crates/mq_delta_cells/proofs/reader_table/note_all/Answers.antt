use Rattle.mq_delta_cells.proofs.ReaderLemmas.{looks_noted}
use Rattle.mq_delta_cells.proofs.reader_table.note_all.Goals as goal

pub noting-preserved : goal.noting-preserved
noting-preserved c = record {
  more = λ d q h. c.in_ok-note_look.ensures.more d q (c.noting.invariant.more d q h);
  noted =
      looks_noted c.args.cells.now c.args.looks.now c.noting.look-index c.look-item.result c.args.place c.noting.readers c.note_look.new.readers c.noting-test.true c.look-item.is
      c.in_ok-note_look.ensures.more c.in_ok-note_look.ensures.noted c.noting.invariant.noted;
}
