use Rattle.std.proofs.Common.{◌≡◌, ℕ, List, true, ap, subst, ◌∙◌, arith}
use Rattle.mq_ir.specs.declared.query.Look.{Look}
use Rattle.mq_delta_cells.specs.Readers.{is_looked_at, is_reader}
use Rattle.mq_delta_cells.proofs.ReaderLemmas.{first_next}
use Rattle.mq_delta_cells.proofs.reader_table.readers_of.Goals as goal

pub noting-preserved : goal.noting-preserved
noting-preserved c = record {
  at = omega (arith, c.in-Some.ensures, c.noting.invariant.at);
  first =
      first_next c.args.cells.now c.args.looks.now c.noting.list-index c.list-item.result c.noting.readers c.note_all.new.readers c.noting-test.true c.list-item.is
      c.in_ok-note_all.ensures.more
      (λ d l.
      subst (λ (p : ℕ). is_reader c.args.cells.now c.note_all.new.readers d p ≡ true) c.noting.invariant.at
      (c.in_ok-note_all.ensures.noted d (ap (λ (xs : List Look). is_looked_at xs d) c.as_slice.ensures ∙ l)))
      c.noting.invariant.first;
}
