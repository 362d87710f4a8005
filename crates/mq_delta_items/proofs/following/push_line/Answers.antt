use Rattle.std.proofs.Common.{arith}
use Rattle.mq_delta_items.proofs.FollowWalkLemmas.{at_most_all, taken_behind}
use Rattle.mq_delta_items.proofs.following.push_line.Goals as goal

pub overflow_add-lines : goal.overflow_add-lines
overflow_add-lines c =
    let sum =
    taken_behind c.lines.inside.lines c.push.new.self c.args.line c.lines.inside.taken c.taken_in-more.result c.in_ok-push.ensures.ok c.lines.invariant
    c.taken_in-more.ensures in
    let few = at_most_all c.push.new.self in
    let count = c.len-count.ensures in
    omega (arith, sum, few, count)

pub invariant_of-lines-2 : goal.invariant_of-lines-2
invariant_of-lines-2 c =
    taken_behind c.lines.inside.lines c.push.new.self c.args.line c.lines.inside.taken c.taken_in-more.result c.in_ok-push.ensures.ok c.lines.invariant
    c.taken_in-more.ensures
