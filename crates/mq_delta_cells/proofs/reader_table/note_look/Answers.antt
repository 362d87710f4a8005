use Rattle.std.proofs.Common.{◌∷◌, [], sym, ap, ◌∙◌}
use Rattle.std.proofs.lemmas.Result.{on_ok_weaker}
use Rattle.mq_ir.specs.declared.query.Look.{Look}
use Rattle.mq_delta_cells.specs.Readers.{is_looked_at}
use Rattle.mq_delta_cells.proofs.ReaderLemmas.{look_noted}
use Rattle.mq_delta_cells.proofs.reader_table.note_look.Goals as goal

pub returns-in-Measure-clause-noted : goal.returns-in-Measure-clause-noted
returns-in-Measure-clause-noted c =
    on_ok_weaker c.note.result
    (λ noted d l. look_noted c.args.cells.now c.note.new.self c.in-Measure.name c.args.place noted d (ap (λ (u : Look). is_looked_at (u ∷ []) d) (sym c.in-Measure.is) ∙ l))
    c.note.ensures.noted
