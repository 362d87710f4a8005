use Rattle.mq_delta_items.specs.Lines.{line_of}
use Rattle.mq_delta_items.proofs.FollowWalkLemmas.{Adding}
use Rattle.mq_delta_items.proofs.following.lines_added.Given as goal

abbrev pub invariant-rows : goal.invariant-rows
invariant-rows l = Adding (line_of l.from l.part) l.rows l.row-index l.fn.lines l.lines l.come
