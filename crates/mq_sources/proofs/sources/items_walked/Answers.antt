use Rattle.std.proofs.Common.{◌≡◌, List, map, sym, ap, subst, ◌∙◌}
use Rattle.std.proofs.lemmas.Result.{err_from_is_err_and}
use Rattle.mq_values.specs.Answers.{Gives}
use Rattle.mq_ir.specs.Answer.{plain_fault}
use Rattle.mq_ir.specs.BaseRows.{base_rows}
use Rattle.mq_ir.specs.Items.{BaseRow, item_rows}
use Rattle.mq_ir.specs.Results.{marked}
use Rattle.mq_join.specs.Rows.{rows_in}
use Rattle.mq_sources.specs.declared.joined_rows.JoinedRow.{JoinedRow}
use Rattle.mq_sources.proofs.FaultLemmas.{first_exit, then_second}
use Rattle.mq_sources.proofs.sources.items_walked.Goals as goal

pub returns-in_err-base : goal.returns-in_err-base
returns-in_err-base g c =
    let base = base_rows (g.T.TableSet.tables c.args.tables.now) c.args.from.now in
    let p = err_from_is_err_and c.from_residual.result c.from_residual.ensures.1 in
    rw (p.1, p.2) (first_exit (plain_fault 0) base (item_rows c.args.part.now) c.in_err-base.field-0.0 c.in_err-base.ensures.exact)

pub returns : goal.returns
returns g c =
    let base = base_rows (g.T.TableSet.tables c.args.tables.now) c.args.from.now in
    let part = c.args.part.now in
    let rows = map rows_in c.in_ok-base.base.items in
    let seen : map (λ (j : JoinedRow). rows_in j.row) c.deref-2.result.now ≡ rows = ap (map (λ (j : JoinedRow). rows_in j.row)) c.deref-2.ensures.value ∙ c.in_ok-rows.ensures in
    subst (Gives c.items.result)
    (ap (λ (rows : List BaseRow). marked (plain_fault 0) (item_rows part rows)) seen ∙ sym (then_second (plain_fault 0) base (item_rows part) rows c.in_ok-base.ensures.exact))
    c.items.ensures
