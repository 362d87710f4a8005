use Rattle.std.proofs.Common.{ap, sym, subst, ◌∙◌}
use Rattle.mq_ir.specs.Tables.{rows_of}
use Rattle.mq_delta_items.specs.Lines.{GoesByRow, lines_of}
use Rattle.mq_kept.specs.Beside.{HaveLinesBeside, IsChangeOfLines}
use Rattle.mq_kept.proofs.BesideLemmas.{lines_beside, rows_of_table, tell}
use Rattle.mq_kept.proofs.SourceLemmas.{rows_there}
use Rattle.mq_kept.proofs.beside.change_beside.Goals as goal

pub returns : goal.returns
returns g c =
    let q = c.args.q.now in
    let before = g.T.TableSet.tables c.args.before.now in
    let under = g.U.TableSet.tables c.args.under.now in
    let table = c.as_str-table.result.now in
    let goes = subst (GoesByRow q.from q.items) (sym c.as_str-table.ensures) c.in-Some.ensures in
    let old_rows = rows_there before table c.in-Some-rows.old.now (sym c.in-Some-rows.ensures) in
    let new_rows = rows_there under table c.in-Some-rows-2.new.now (sym c.in-Some-rows-2.ensures) in
    λ lines are.
    tell (IsChangeOfLines q.from q.items c.in-Some-rows-2.new.now lines) (HaveLinesBeside under q lines) (HaveLinesBeside under q lines) c.items_between.result
    (λ change of. lines_beside under q table c.in-Some-rows-2.new.now lines change goes new_rows of)
    (c.items_between.ensures lines (ap (lines_of q.from q.items) (sym old_rows) ∙ rows_of_table before q table lines goes are))
