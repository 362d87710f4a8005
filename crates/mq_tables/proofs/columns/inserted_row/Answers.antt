use Rattle.std.proofs.Common.{Ok, [], Result, sym, ap, ◌∙◌, arith}
use Rattle.std.specs.List.{zip}
use Rattle.std.proofs.lemmas.Result.{err_from_is_err_and}
use Rattle.mq_values.specs.declared.faults.Refused.{Refused}
use Rattle.mq_values.specs.declared.value.Value.{Value}
use Rattle.mq_ir.specs.declared.expression.Expr.{Expr}
use Rattle.mq_ir.specs.declared.statement.Column.{Column}
use Rattle.mq_ir.specs.Changes.{column_value}
use Rattle.mq_ir.specs.Results.{each}
use Rattle.mq_tables.proofs.Walks.{exit, pair_cut, pair_end, pair_fault, pair_next}
use Rattle.mq_tables.proofs.columns.inserted_row.Goals as goal

pub returns-in-None : goal.returns-in-None
returns-in-None c =
    let f : Column × Expr → Result Value Refused = λ (col, e). column_value [] c.args.number col e in
    pair_cut f c.args.schema.now.cols c.args.es.now c.columns.at c.columns.values (sym c.in-None.ensures) c.columns.invariant ∙ ap Ok (sym c.in_ok-new-in-None.ensures)

pub returns-in_err-column_value-in-Some : goal.returns-in_err-column_value-in-Some
returns-in_err-column_value-in-Some c =
    let f : Column × Expr → Result Value Refused = λ (col, e). column_value [] c.args.number col e in
    let cols = c.args.schema.now.cols in
    let col = c.in-Some.col.now in
    let e = c.index-es-at.result in
    let p = err_from_is_err_and c.from_residual.result c.from_residual.ensures.1 in
    rw (p.1, p.2)
    (exit (f (col, e)) (each f (zip cols c.args.es.now)) c.in_err-column_value-in-Some.field-0.0 c.in_err-column_value-in-Some.ensures
    (λ fault h. pair_fault f cols c.args.es.now c.columns.at c.columns.values col e fault (sym c.in-Some.ensures) c.columns-test.true c.index-es-at.is h c.columns.invariant))

pub columns-preserved : goal.columns-preserved
columns-preserved c =
    let f : Column × Expr → Result Value Refused = λ (col, e). column_value [] c.args.number col e in
    pair_next f c.args.schema.now.cols c.args.es.now c.columns.at c.columns.values _ c.in-Some.col.now c.index-es-at.result c.in_ok-column_value-in-Some.field-0 (sym c.in-Some.ensures)
    c.columns-test.true c.index-es-at.is c.in_ok-column_value-in-Some.ensures c.in_ok-push-in-Some.ensures.ok c.columns.invariant

pub returns : goal.returns
returns c =
    let f : Column × Expr → Result Value Refused = λ (col, e). column_value [] c.args.number col e in
    pair_end f c.args.schema.now.cols c.args.es.now c.columns.at c.columns.values (omega arith) c.columns.invariant ∙ ap Ok (sym c.in_ok-new.ensures)
