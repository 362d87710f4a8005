use Rattle.std.proofs.Common.{ap, length, subst, ◌∙◌}
use Rattle.std.specs.Option.{IfSome}
use Rattle.std.proofs.lemmas.Result.{err_from_is_err_and}
use Rattle.mq_values.specs.Answers.{Gives}
use Rattle.mq_ir.specs.Printing.{printed_rows}
use Rattle.mq_ir.specs.Ready.{ModelIsReady}
use Rattle.mq_kept.specs.ReadyLaws.{items_have}
use Rattle.mq_answers.proofs.AnswerLemmas.{may_run, no_items, with_model, without_model}
use Rattle.mq_answers.proofs.queries.rows_over.Goals as goal

pub returns-in_err-items : goal.returns-in_err-items
returns-in_err-items g c =
    let p = err_from_is_err_and c.from_residual.result c.from_residual.ensures.1 in
    rw (p.1, p.2) (no_items (g.T.TableSet.tables c.args.tables.now) c.args.q.now c.in_err-items.field-0.0 c.in_err-items.ensures)

pub shown_cells-requires-clause-may_run : goal.shown_cells-requires-clause-may_run
shown_cells-requires-clause-may_run g c κs within =
    let q = c.args.q.now in
    let items = c.in_ok-items.items in
    let long = items_have (g.T.TableSet.tables c.args.tables.now) q.from q.items items c.in_ok-items.ensures in
    let model = subst (λ o. IfSome o (ModelIsReady (length q.items.items))) c.in-Some.is c.requires.ready in
    may_run q c.in-Some.part items model long

pub returns-in-Some : goal.returns-in-Some
returns-in-Some g c =
    let tables = g.T.TableSet.tables c.args.tables.now in
    let q = c.args.q.now in
    subst (Gives c.shown_cells.result)
    (with_model tables q c.in_ok-items.items c.in-Some.part c.in_ok-items.ensures c.in-Some.is)
    c.shown_cells.ensures

pub returns-in_ok-printed_keys-in-None : goal.returns-in_ok-printed_keys-in-None
returns-in_ok-printed_keys-in-None g c =
    let q = c.args.q.now in
    without_model (g.T.TableSet.tables c.args.tables.now) q c.in_ok-items.items c.in_ok-printed_keys-in-None.field-0 c.in_ok-items.ensures c.in-None.is
    (c.in_ok-printed_keys-in-None.ensures ∙ ap (printed_rows q) c.into_vec.ensures)
