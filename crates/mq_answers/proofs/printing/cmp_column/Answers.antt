use Rattle.std.proofs.Common.{◌∙◌}
use Rattle.mq_answers.proofs.ColumnLemmas.{column_ascends, column_descends}
use Rattle.mq_answers.proofs.printing.cmp_column.Goals as goal

pub returns-then-descending : goal.returns-then-descending
returns-then-descending g c =
    c.cmp_lent.ensures ∙ column_descends c.args.number c.args.descending _ _ _ _ c.if-descending.true c.column-a.ensures c.column-b.ensures

pub returns : goal.returns
returns g c =
    c.cmp_lent-2.ensures ∙ column_ascends c.args.number c.args.descending _ _ _ _ c.if-descending.false c.column-a.ensures c.column-b.ensures
