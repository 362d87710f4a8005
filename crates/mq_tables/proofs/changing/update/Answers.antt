use Rattle.std.proofs.Common.{ℕ, List, sym, ap, ◌∙◌, subst}
use Rattle.std.proofs.lemmas.Result.{err_from_is_err_and}
use Rattle.mq_tables.specs.declared.touched.Touched.TheVariants.{Replaced}
use Rattle.mq_ir.specs.Keys.{Tuple}
use Rattle.mq_tables.specs.Columns.{spares_key}
use Rattle.mq_tables.specs.Exchanging.{ComesFor}
use Rattle.mq_tables.specs.InPlace.{put_at}
use Rattle.mq_tables.specs.Touching.{made_by_update}
use Rattle.mq_tables.proofs.ChangingLemmas.{comes_for, keeps_keys, made_exit, made_to, update_is}
use Rattle.mq_tables.proofs.changing.update.Goals as goal

pub put_same_keys-requires : goal.put_same_keys-requires
put_same_keys-requires c =
    keeps_keys c.args.schema.now c.args.rows.now c.args.sets.now c.args.filter.now c.in_ok-found.found c.as_slice.result.now c.as_slice.ensures c.in_ok-found.ensures
    (sym (c.spares_key.ensures ∙ ap (spares_key c.args.sets.now) c.as_slice-2.ensures) ∙ c.if-spares_key.true)

pub returns-in_err-put_same_keys-clause-exact : goal.returns-in_err-put_same_keys-clause-exact
returns-in_err-put_same_keys-clause-exact c =
    let p = err_from_is_err_and c.from_residual-in_err-put_same_keys.result c.from_residual-in_err-put_same_keys.ensures.1 in
    rw (p.1, p.2)
    (made_exit c.args.schema.now (put_at c.in_ok-found.found.puts c.args.rows.now) (made_by_update c.args.schema.now c.args.sets.now c.args.filter.now c.args.rows.now) (Replaced c.in_ok-found.found.were)
    (update_is c.args.schema.now c.args.rows.now c.args.sets.now c.args.filter.now c.in_ok-found.found c.as_slice.result.now c.as_slice.ensures c.in_ok-found.ensures)
    c.in_err-put_same_keys.field-0.0 c.in_err-put_same_keys.ensures.exact)

pub returns-then-spares_key-clause-exact : goal.returns-then-spares_key-clause-exact
returns-then-spares_key-clause-exact c =
    made_to c.args.schema.now (put_at c.in_ok-found.found.puts c.args.rows.now) (made_by_update c.args.schema.now c.args.sets.now c.args.filter.now c.args.rows.now) (Replaced c.in_ok-found.found.were)
    (update_is c.args.schema.now c.args.rows.now c.args.sets.now c.args.filter.now c.in_ok-found.found c.as_slice.result.now c.as_slice.ensures c.in_ok-found.ensures)
    c.put_same_keys.new.self c.in_ok-put_same_keys.ensures.exact

pub returns-in_err-put-clause-exact : goal.returns-in_err-put-clause-exact
returns-in_err-put-clause-exact c =
    let p = err_from_is_err_and c.from_residual-in_err-put.result c.from_residual-in_err-put.ensures.1 in
    rw (p.1, p.2)
    (made_exit c.args.schema.now (put_at c.in_ok-found.found.puts c.args.rows.now) (made_by_update c.args.schema.now c.args.sets.now c.args.filter.now c.args.rows.now) (Replaced c.in_ok-found.found.were)
    (update_is c.args.schema.now c.args.rows.now c.args.sets.now c.args.filter.now c.in_ok-found.found c.as_slice.result.now c.as_slice.ensures c.in_ok-found.ensures)
    c.in_err-put.field-0.0 c.in_err-put.ensures.exact)

pub returns-clause-exact : goal.returns-clause-exact
returns-clause-exact c =
    made_to c.args.schema.now (put_at c.in_ok-found.found.puts c.args.rows.now) (made_by_update c.args.schema.now c.args.sets.now c.args.filter.now c.args.rows.now) (Replaced c.in_ok-found.found.were)
    (update_is c.args.schema.now c.args.rows.now c.args.sets.now c.args.filter.now c.in_ok-found.found c.as_slice.result.now c.as_slice.ensures c.in_ok-found.ensures)
    c.put.new.self c.in_ok-put.ensures.exact

pub put-requires : goal.put-requires
put-requires c =
    subst (λ (were : List (ℕ × Tuple)). ComesFor c.args.rows.now c.in_ok-found.found.puts were) (sym c.as_slice-3.ensures)
    (comes_for c.args.schema.now c.args.rows.now c.args.sets.now c.args.filter.now c.in_ok-found.found c.as_slice.result.now c.as_slice.ensures c.in_ok-found.ensures)
