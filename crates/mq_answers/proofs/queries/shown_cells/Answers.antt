use Rattle.std.proofs.lemmas.Result.{err_from_is_err_and}
use Rattle.mq_ir.specs.Answer.{model_rows}
use Rattle.mq_answers.proofs.AnswerLemmas.{cells_shown, no_cells}
use Rattle.mq_answers.proofs.queries.shown_cells.Goals as goal

pub returns-in_err-rows : goal.returns-in_err-rows
returns-in_err-rows g c =
    let found = model_rows (g.T.TableSet.tables c.args.tables.now) c.args.items c.args.part.now in
    let p = err_from_is_err_and c.from_residual.result c.from_residual.ensures.1 in
    rw (p.1, p.2) (no_cells c.args.q.now found c.in_err-rows.field-0.0 c.in_err-rows.ensures)

pub returns : goal.returns
returns g c =
    let found = model_rows (g.T.TableSet.tables c.args.tables.now) c.args.items c.args.part.now in
    cells_shown c.args.q.now found c.in_ok-rows.rows.items c.in_ok-printed_rows.field-0 c.in_ok-rows.ensures c.in_ok-printed_rows.ensures
