use Rattle.std.proofs.Common.{◌∙◌}
use Rattle.std.proofs.lemmas.Result.{err_from_is_err_and}
use Rattle.mq_tables.specs.declared.touched.Touched.TheVariants as touched
use Rattle.mq_tables.specs.InPlace.{rows_left}
use Rattle.mq_tables.specs.Touching.{made_by_delete}
use Rattle.mq_tables.proofs.ChangingLemmas.{all_told, delete_is, keys_gone, made_exit, made_to}
use Rattle.mq_tables.proofs.changing.delete.Goals as goal

pub lose-requires-clause-told : goal.lose-requires-clause-told
lose-requires-clause-told c =
    all_told c.args.schema.now c.args.rows.now c.args.filter.now c.in_ok-gone.gone c.as_slice.result.now c.as_slice.ensures c.in_ok-gone.ensures

pub lose-requires-clause-keyed : goal.lose-requires-clause-keyed
lose-requires-clause-keyed c =
    c.as_slice-2.ensures ∙ keys_gone c.args.schema.now c.args.rows.now c.args.filter.now c.in_ok-gone.gone c.as_slice.result.now c.as_slice.ensures c.in_ok-gone.ensures

pub returns-in_err-lose-clause-exact : goal.returns-in_err-lose-clause-exact
returns-in_err-lose-clause-exact c =
    let gone = c.in_ok-gone.gone in
    let p = err_from_is_err_and c.from_residual-in_err-lose.result c.from_residual-in_err-lose.ensures.1 in
    rw (p.1, p.2)
    (made_exit c.args.schema.now (rows_left c.args.rows.now gone.flags) (made_by_delete c.args.schema.now c.args.filter.now c.args.rows.now) (touched.Gone gone.flags gone.rows)
    (delete_is c.args.schema.now c.args.rows.now c.args.filter.now gone c.as_slice.result.now c.as_slice.ensures c.in_ok-gone.ensures) c.in_err-lose.field-0.0
    c.in_err-lose.ensures.exact)

pub returns-clause-exact : goal.returns-clause-exact
returns-clause-exact c =
    let gone = c.in_ok-gone.gone in
    made_to c.args.schema.now (rows_left c.args.rows.now gone.flags) (made_by_delete c.args.schema.now c.args.filter.now c.args.rows.now) (touched.Gone gone.flags gone.rows)
    (delete_is c.args.schema.now c.args.rows.now c.args.filter.now gone c.as_slice.result.now c.as_slice.ensures c.in_ok-gone.ensures)
    c.lose.new.self c.in_ok-lose.ensures.exact
