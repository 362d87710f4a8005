use Rattle.mq_delta_items.proofs.ColumnLemmas.{whole_row}
use Rattle.mq_delta_items.proofs.lines.item_over.Goals as goal

pub returns-then-columns-as_slice : goal.returns-then-columns-as_slice
returns-then-columns-as_slice c =
    whole_row c.args.part.now.items c.args.row.now c.as_slice.result.now c.in_ok-copy.field-0 c.len.result c.args.columns c.requires
    c.as_slice.ensures c.len.ensures c.if-columns-as_slice.true c.in_ok-copy.ensures
