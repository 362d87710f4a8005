use Rattle.std.proofs.Common.{◌∙◌}
use Rattle.std.proofs.lemmas.Result.{err_from_is_err_and}
use Rattle.mq_ir.specs.Unfolding.{model_of}
use Rattle.mq_seq.proofs.MeaningLemmas.{first_state, rows_fault, rows_given}
use Rattle.mq_seq.proofs.outcomes.cells_after.Goals as goal

pub returns-in_err-grid-2 : goal.returns-in_err-grid-2
returns-in_err-grid-2 c =
    let p = err_from_is_err_and c.from_residual-in_err-grid-2.result c.from_residual-in_err-grid-2.ensures.1 in
    rw (p.1, p.2)
    (rows_fault (model_of c.args.m.now) c.len.result c.args.p.now.cells c.in_ok-grid.grid c.in_err-grid-2.field-0.0
    (c.in_ok-grid.ensures ∙ (λ i. record (first_state (model_of c.args.m.now) c.len.result c.args.p.now.cells) { count = c.len-2.ensures i })) c.in_err-grid-2.ensures)

pub returns : goal.returns
returns c =
    rows_given (model_of c.args.m.now) c.len.result c.args.p.now.cells c.in_ok-grid.grid c.in_ok-grid-2.grid c.in_ok-rows.field-0
    (c.in_ok-grid.ensures ∙ (λ i. record (first_state (model_of c.args.m.now) c.len.result c.args.p.now.cells) { count = c.len-2.ensures i })) c.in_ok-grid-2.ensures c.in_ok-rows.ensures
