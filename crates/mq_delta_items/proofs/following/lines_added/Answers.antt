use Rattle.mq_delta_items.specs.Lines.{line_of}
use Rattle.mq_delta_items.proofs.FollowWalkLemmas.{adding_next}
use Rattle.mq_delta_items.proofs.following.lines_added.Goals as goal

pub rows-preserved : goal.rows-preserved
rows-preserved c =
    adding_next (line_of c.args.from.now c.args.part.now) c.args.rows.now c.args.lines.now c.rows.row-index c.rows.lines c.push_line.new.lines
    c.rows.come c.put_item.new.items c.row-item.result c.in_ok-line.line c.rows-test.true c.row-item.is c.in_ok-line.ensures c.in_ok-push_line.ensures
    c.in_ok-put_item.ensures c.rows.invariant
