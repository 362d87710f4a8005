use Rattle.mq_tables.proofs.PendingLemmas.{is_told}
use Rattle.mq_tables.proofs.staged.change_noting.Goals as goal

pub note-requires : goal.note-requires
note-requires c =
    is_told c.args.schema.now c.args.rows.now c.change_rows.new.rows c.args.c.now c.in_ok-touched.touched _ c.requires.known c.in_ok-touched.ensures.exact
