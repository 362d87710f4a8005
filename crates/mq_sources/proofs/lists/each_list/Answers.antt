use Rattle.std.proofs.lemmas.Result.{err_from_is_err_and}
use Rattle.mq_ir.specs.Answer.{list_rows}
use Rattle.mq_sources.proofs.ListLemmas.{number_end, number_exit, number_next}
use Rattle.mq_sources.proofs.lists.each_list.Goals as goal

pub returns-in_err-list_over : goal.returns-in_err-list_over
returns-in_err-list_over g c =
    let rows = list_rows (g.T.TableSet.tables c.args.tables.now) c.args.part.now in
    let p = err_from_is_err_and c.from_residual.result c.from_residual.ensures.1 in
    rw (p.1, p.2)
    (number_exit rows c.args.sources.now c.sources.number c.sources.lists c.index-sources-number.result c.in_err-list_over.field-0.0 c.sources-test.true c.index-sources-number.is
    c.sources.invariant c.in_err-list_over.ensures)

pub sources-preserved : goal.sources-preserved
sources-preserved g c =
    let rows = list_rows (g.T.TableSet.tables c.args.tables.now) c.args.part.now in
    rw c.in_ok-push.ensures.ok
    (number_next rows c.args.sources.now c.sources.number c.sources.lists c.index-sources-number.result c.in_ok-list_over.field-0 c.sources-test.true c.index-sources-number.is
    c.in_ok-list_over.ensures c.sources.invariant)

pub returns : goal.returns
returns g c =
    let rows = list_rows (g.T.TableSet.tables c.args.tables.now) c.args.part.now in
    number_end rows c.args.sources.now c.sources.number c.sources.lists c.sources-test.false c.sources.invariant
