use Rattle.std.proofs.Common.{◌≡◌}
use Rattle.mq_ir.specs.BaseRows.{items_of}
use Rattle.mq_join.proofs.RowLemmas.{base_from}
use Rattle.mq_join.proofs.query_rows.base_rows_in.Goals as goal

pub returns-in-Ok-clause-exact : goal.returns-in-Ok-clause-exact
returns-in-Ok-clause-exact g c =
    let tables = g.T.TableSet.tables c.args.t.now in
    let i : c.as_slice.result.now ≡ items_of tables c.args.q.now = cc (c.as_slice.ensures, c.in_ok-items.ensures) in
    base_from tables c.args.q.now c.as_slice.result.now c.in-Ok.rows c.into_vec.result.items i c.in-Ok.ensures c.into_vec.ensures
