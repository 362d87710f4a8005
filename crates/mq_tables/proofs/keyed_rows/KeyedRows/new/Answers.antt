use Rattle.mq_tables.proofs.SeekLemmas.{none_judged}
use Rattle.mq_tables.proofs.keyed_rows.KeyedRows.new.Goals as goal

pub returns-then-is_empty-2 : goal.returns-then-is_empty-2
returns-then-is_empty-2 c = none_judged c.args.schema.now c.args.rows c.without_key-then-is_empty-2.result (c.is_empty-2.ensures.0 c.if-is_empty-2.true) c.without_key-then-is_empty-2.ensures
