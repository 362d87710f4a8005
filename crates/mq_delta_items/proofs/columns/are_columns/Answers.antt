use Rattle.mq_delta_items.proofs.ColumnLemmas.{column_more, columns_end}
use Rattle.mq_delta_items.proofs.columns.are_columns.Goals as goal

pub items-preserved : goal.items-preserved
items-preserved c =
    column_more c.args.items.now c.items.number c.index-items-number.result c.items-test.true c.index-items-number.is (c.is_column.ensures c.if-not-is_column.false) c.items.invariant

pub returns : goal.returns
returns c = λ h. columns_end c.args.items.now c.items.number c.items-test.false c.items.invariant
